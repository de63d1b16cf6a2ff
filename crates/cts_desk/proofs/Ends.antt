-- The clients of a desk's door, one after another, and the end of the desk.
use Rattle.std.proofs.Common.{◌≡◌, ℕ, Bool, true, false, List, [], sym, refl, ap, ◌∙◌, subst, Option}
use Rattle.cts_entry.specs.declared.entry.Entry.{Entry}
use Rattle.cts_entry.specs.Histories.{is_stopped}
use Rattle.cts_outside.specs.Lines.{Connection, Line, told_after, after_dial}
use Rattle.cts_outside.specs.declared.link.Dialed.TheVariants.{Linked, Later, Finished, Failed}
use Rattle.cts_table.specs.declared.basis.Basis.{Basis}
use Rattle.cts_turn.specs.declared.rule.View.{View}
use Rattle.cts_desk.specs.declared.ending.DeskWhy.{DeskWhy}
use Rattle.cts_desk.specs.declared.ending.DeskWhy.TheVariants.{Stopped, Finished as FinishedWhy, DoorFailed, Cancelled}
use Rattle.cts_desk.specs.Ending.{CausesEnd, may_cut, stopped_if}
use Rattle.cts_worker.specs.Holds.{Hold, Onward}
use Rattle.cts_desk.specs.Serving.{Begins, Knows, Resting}
use Rattle.cts_desk.proofs.Connections.{dials_failed, dials_finished, dials_later, dials_linked, settled_at}
use Rattle.cts_trace.proofs.Looking.{stop_kept}
use Rattle.cts_desk.proofs.Steps.{Stays, resting_looked}

-- ---- dials

module _ (Goes : Knows) (was : List Connection) (fronts : List ℕ) where
  -- between two connections none was cut for a Stop, so that one may stand or not
  pub resting_at : (stop : Bool) (v : View Entry Basis) (told : Option Line) → Resting Goes was false fronts v told → Resting Goes was stop fronts v told
  resting_at stop v told s = record { exchanges = s.exchanges; going = s.going; settled = settled_at false stop was s.exchanges told (λ e. absurd (let f : false ≡ true = e in cc)) s.settled }

  pub linked_begins : (v : View Entry Basis) (old new : Option Line) → new ≡ told_after (after_dial Linked) old → Resting Goes was false fronts v old → Begins Goes was fronts v new
  linked_begins v old new e s = record { exchanges = s.exchanges; going = s.going; settled = dials_linked was s.exchanges old new e s.settled }

  pub later_rests : (by : ℕ) (stop : Bool) (v w : View Entry Basis) (old new : Option Line) → Stays by Goes → new ≡ told_after (after_dial Later) old → Hold by v w [] → Resting Goes was false fronts v old → Resting Goes was stop fronts w new
  later_rests by stop v w old new stays e hold s =
      let r : Resting Goes was false fronts v new = record { exchanges = s.exchanges; going = s.going; settled = dials_later was s.exchanges old new e s.settled } in
      resting_at stop w new (resting_looked Goes by was false fronts v w new stays hold r)

  pub finished_rests : (stop : Bool) (v : View Entry Basis) (old new : Option Line) → new ≡ told_after (after_dial Finished) old → Resting Goes was false fronts v old → Resting Goes was stop fronts v new
  finished_rests stop v old new e s =
      let r : Resting Goes was false fronts v new = record { exchanges = s.exchanges; going = s.going; settled = dials_finished was s.exchanges old new e s.settled } in
      resting_at stop v new r

  pub failed_rests : (stop : Bool) (v : View Entry Basis) (old new : Option Line) → new ≡ told_after (after_dial Failed) old → Resting Goes was false fronts v old → Resting Goes was stop fronts v new
  failed_rests stop v old new e s =
      let r : Resting Goes was false fronts v new = record { exchanges = s.exchanges; going = s.going; settled = dials_failed was s.exchanges old new e s.settled } in
      resting_at stop v new r

-- the same where a look left the fronts and the source as they were
pub rests_on : {X : Type 0} (going : X → ℕ → Basis → ℕ → Knows) (n : ℕ) (b : Basis) (by : ℕ) (was : List Connection) (stop : Bool) (x x' : X) (fronts fronts' : List ℕ) (v : View Entry Basis) (told : Option Line)
    → x' ≡ x → fronts' ≡ fronts → Resting (going x n b by) was stop fronts v told → Resting (going x' n b by) was stop fronts' v told
rests_on {X} going n b by was stop x x' fronts fronts' v told same same_fronts s =
    subst (λ (y : X). Resting (going y n b by) was stop fronts' v told) (sym same) (subst (λ (l : List ℕ). Resting (going x n b by) was stop l v told) (sym same_fronts) s)

-- a connection was cut for a Stop exactly where the desk ends for it
pub cut_for : (stop : Bool) (end : Option DeskWhy) (seen : List Entry) → end ≡ stopped_if stop → (stop ≡ true → is_stopped seen ≡ true) → stop ≡ may_cut end seen
cut_for true end seen is stands = sym (ap (λ o. may_cut o seen) is ∙ stands refl)
cut_for false end seen is stands = sym (ap (λ o. may_cut o seen) is)

-- ---- the last entries

-- a Stop that was seen stands
pub causes_stay : {G : Type 0} (old new : View Entry G) (told : Option Line) (before now : ℕ) (why : DeskWhy) → Onward old new → CausesEnd old.seen told before now why → CausesEnd new.seen told before now why
causes_stay old new told before now Stopped on h = ap is_stopped on.seen.1 ∙ stop_kept old.seen on.seen.0 h
causes_stay old new told before now FinishedWhy on h = h
causes_stay old new told before now DoorFailed on h = h
causes_stay old new told before now Cancelled on h = h
