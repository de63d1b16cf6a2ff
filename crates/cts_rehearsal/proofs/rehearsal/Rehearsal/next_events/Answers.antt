use Rattle.std.proofs.Common.{sym, ◌∙◌, arith}
use Rattle.cts_rehearsal.proofs.Coming.{after_choice, after_opening}
use Rattle.cts_rehearsal.proofs.rehearsal.Rehearsal.next_events.Goals.{then-not-self+in_ok-put_opening, else-not-self+else-self-eq0+in_ok-put_choice}
use Rattle.cts_rehearsal.proofs.rehearsal.Rehearsal.next_events.Goals as goal

pub returns-clause-next : goal.returns-clause-next
returns-clause-next c =
    elim c.if-not-self.branch [
      | then-not-self+in_ok-put_opening w ↦
          sym c.self.view_is ∙ (after_opening c.self.inside.opened c.self.inside.left c.self.inside.number w.if-not-self.true
          ∙ grind (arith, w.self-is, w.events-is, w.in_ok-put_opening.ensures, c.new-events.ensures.items))
      | else-not-self+else-self-eq0+in_ok-put_choice w ↦
          sym c.self.view_is ∙ (after_choice c.self.inside.opened c.self.inside.left c.self.inside.number w.if-not-self.false (omega (arith, w.if-self-eq0.false))
          ∙ grind (arith, w.self-is, w.events-is, w.in_ok-put_choice.ensures, c.new-events.ensures.items, w.next_number-number.ensures, w.choice_of.ensures))
    ]
