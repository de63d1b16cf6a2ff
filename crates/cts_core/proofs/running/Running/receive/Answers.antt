use Rattle.std.proofs.Common.{rules, ◌≡◌, true, false, refl, sym, ◌∙◌, arith}
use Rattle.std.proofs.lemmas.Grind.{common_steps}
use Rattle.std.proofs.lemmas.Result.{err_from_is_err_and}
use Rattle.cts_entry.specs.declared.event.Event.TheVariants.{Piece}
use Rattle.cts_core.specs.States.{is_piece}
use Rattle.cts_core.proofs.Holding.{is_open, can_post}
use Rattle.cts_core.proofs.WorldSteps.{may_receive_is, not_enabled, piece_done, piece_refused, site_of}
use Rattle.cts_core.proofs.running.Running.receive.Goals as goal

pub returns-then-not-may_receive : goal.returns-then-not-may_receive
returns-then-not-may_receive g c =
    let off : c.may_receive.result ≡ false = search rules in
    let w = c.args.self.now in
    λ base s h. not_enabled base w w s (Piece c.args.by c.args.piece.now) c.may_receive.result (c.may_receive.ensures.test ∙ may_receive_is base w s c.args.by c.args.piece.now h) off refl h

pub take-requires : goal.take-requires
take-requires g c = (is_open c.args.self.now c.args.by (is_piece c.args.piece.now) c.may_receive.ensures.sound (sym c.may_receive.ensures.test ∙ (search rules))).line

pub post-requires-clause-can : goal.post-requires-clause-can
post-requires-clause-can g c =
    let w = c.args.self.now in
    let is = is_open w c.args.by (is_piece c.args.piece.now) c.may_receive.ensures.sound (sym c.may_receive.ensures.test ∙ (search rules)) in
    can_post w c.take.new.self c.args.by c.args.piece.now _ _ _ _ c.may_receive.ensures.sound is c.in_ok-taken.ensures.takes

pub returns-in_err-post : goal.returns-in_err-post
returns-in_err-post g c =
    let w = c.args.self.now in
    let on : c.may_receive.result ≡ true = search rules in
    let none : c.in_ok-taken.taken.unposted ≡ 0 = grind (arith, common_steps) in
    let p = err_from_is_err_and c.from_residual-in_err-post.result c.from_residual-in_err-post.ensures.1 in
    rw (p.1, p.2) (λ base s h.
    piece_refused base w c.take.new.self c.post.new.self s c.args.by c.args.piece.now _ c.in_ok-taken.taken.unposted _ c.in_err-post.field-0.0 (site_of base w s c.may_receive.ensures.sound h) (sym (may_receive_is base w s c.args.by c.args.piece.now h) ∙ (sym c.may_receive.ensures.test ∙ on)) none c.in_ok-taken.ensures.takes c.in_err-post.ensures h)

pub returns : goal.returns
returns g c =
    let w = c.args.self.now in
    let on : c.may_receive.result ≡ true = search rules in
    let none : c.in_ok-taken.taken.unposted ≡ 0 = grind (arith, common_steps) in
    λ base s h.
    piece_done base w c.take.new.self c.post.new.self s c.args.by c.args.piece.now _ c.in_ok-taken.taken.unposted _ (site_of base w s c.may_receive.ensures.sound h) (sym (may_receive_is base w s c.args.by c.args.piece.now h) ∙ (sym c.may_receive.ensures.test ∙ on)) none c.in_ok-taken.ensures.takes c.in_ok-post.ensures h
