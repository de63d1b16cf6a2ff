use Rattle.std.proofs.Common.{◌≡◌, List, ◌++◌, ap, ◌∙◌, sym, subst, length}
use Rattle.cts_entry.specs.declared.entry.Entry.{Entry}
use Rattle.cts_entry.specs.Legal.{has_ended}
use Rattle.cts_table.specs.States.{Shown}
use Rattle.cts_table.specs.declared.basis.Basis.{Basis}
use Rattle.cts_worker.specs.Grounds.{ground}
use Rattle.cts_turn.specs.Lists.{AllBy}
use Rattle.cts_turn.specs.Passes.{left, held_view, view}
use Rattle.cts_desk.specs.Exchanges.{Exchange, IsAnswered}
use Rattle.cts_desk.specs.Holds.{text_of}
use Rattle.cts_desk.proofs.Histories.{a_hold, active_whole, all_by}
use Rattle.cts_snap_desk.proofs.holding.hold.Goals as goal

pub reply_over-replied-requires-clause-active : goal.reply_over-replied-requires-clause-active
reply_over-replied-requires-clause-active g c =
    ap (λ (s : Shown). has_ended c.args.by s.entries) c.state_mut.ensures.value
    ∙ active_whole c.args.by c.enter-held.result.state.entries (view c.args.pass).seen c.enter-held.ensures.seen (c.enter-held.ensures.own c.args.by c.requires.ready.makers) c.requires.ready.active

pub leave-requires-clause-new : goal.leave-requires-clause-new
leave-requires-clause-new g c =
    let t = c.reply_over-replied.ensures.asked in
    let seen : c.enter-held.result.state.entries ≡ (held_view c.enter-held.result).seen = sym (ap (λ v. v.seen) c.enter-held.ensures.view) in (
      t.added,
      t.entries ∙ ap (λ l. l ++ t.added) (ap (λ (s : Shown). s.entries) c.state_mut.ensures.value ∙ seen),
      subst (λ ms. AllBy (λ e. e.by) ms t.added) (sym (ap (λ v. v.makers) c.enter-held.ensures.view)) (all_by c.args.by (view c.args.pass).makers t.added c.requires.ready.makers t.own),
    )

pub returns-clause-asked : goal.returns-clause-asked
returns-clause-asked g c =
    let t = c.reply_over-replied.ensures.asked in
    let whole : List Entry = c.enter-held.result.state.entries in
    let was = c.state_mut.ensures.value in
    let begins = c.enter-held.ensures.seen in record {
      added = t.added;
      hold = a_hold c.args.by _ _ _ whole t.added c.enter-held.ensures.view begins c.enter-held.ensures.own c.requires.ready.makers
          (c.leave.ensures.view ∙ ap (left (held_view c.enter-held.result)) (t.entries ∙ ap (λ (s : Shown). s.entries ++ t.added) was));
      lasting = t.lasting;
      front_is = t.front_is ∙ ap (λ (s : Shown). length s.entries) was ∙ ap length begins.1;
      answered = let x : Exchange = record { body = c.args.body.now; front = c.reply_over-replied.result.front; text = text_of c.reply_over-replied.result.answer } in
          let one = subst (λ (s : Shown). IsAnswered s.basis c.args.by s.entries x t.added) was t.answered in
          let two = subst (λ (b : Basis). IsAnswered b c.args.by whole x t.added) c.enter-held.ensures.basis one in
          subst (λ (l : List Entry). IsAnswered (ground c.args.turn.now) c.args.by l x t.added) begins.1 two;
    }
