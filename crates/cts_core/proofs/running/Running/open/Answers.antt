use Rattle.std.proofs.Common.{rules, ◌≡◌, true, false, refl, sym, ◌∙◌}
use Rattle.std.proofs.lemmas.Result.{err_from_is_err_and}
use Rattle.cts_entry.specs.declared.event.Event.TheVariants.{Opens}
use Rattle.cts_core.proofs.Holding.{is_shut}
use Rattle.cts_core.proofs.WorldSteps.{may_open_is, not_enabled, open_refused, opens, site_of}
use Rattle.cts_core.proofs.running.Running.open.Goals as goal

pub returns-then-not-may_open : goal.returns-then-not-may_open
returns-then-not-may_open g c =
    let off : c.may_open.result ≡ false = search rules in
    let w = c.args.self.now in
    λ base s h. not_enabled base w w s (Opens c.args.by) c.may_open.result (c.may_open.ensures.test ∙ may_open_is base w s c.args.by h) off refl h

pub begin-requires : goal.begin-requires
begin-requires g c = is_shut c.args.self.now c.args.by c.may_open.ensures.sound (sym c.may_open.ensures.test ∙ (search rules))

pub returns-in_err-begin : goal.returns-in_err-begin
returns-in_err-begin g c =
    let w = c.args.self.now in
    let on : c.may_open.result ≡ true = search rules in
    let p = err_from_is_err_and c.from_residual.result c.from_residual.ensures.1 in
    rw (p.1, p.2) (λ base s h.
    open_refused base w c.begin.new.self s c.args.by c.in_err-begin.field-0.0 (sym (may_open_is base w s c.args.by h) ∙ (sym c.may_open.ensures.test ∙ on)) c.in_err-begin.ensures h)

pub returns : goal.returns
returns g c =
    let w = c.args.self.now in
    let on : c.may_open.result ≡ true = search rules in
    λ base s h.
    opens base w c.begin.new.self s c.args.by (site_of base w s c.may_open.ensures.sound h) c.in_ok-begin.ensures.1 (sym (may_open_is base w s c.args.by h) ∙ (sym c.may_open.ensures.test ∙ on)) c.in_ok-begin.ensures.0 h
