-- What a line leaves of its dialer's dials: of those that failed, and of the last one.
use Rattle.std.proofs.Common.{◌≡◌, ℕ, Bool, true, false, refl, sym, ◌∙◌, subst, arith, Option, Some, None}
use Rattle.std.specs.Prelude.{if◌then◌else◌}
use Rattle.cts_def.specs.Sites.{SiteData}
use Rattle.cts_entry.specs.declared.why.Why.{Why}
use Rattle.cts_entry.specs.declared.why.Why.TheVariants.{PeerEnded, ReadFault, WriteFault, BadFrame, Stopped as StoppedWhy, NoMemory as NoMemoryWhy, Full as FullWhy}
use Rattle.cts_entry.specs.Workers.{is_interface}
use Rattle.cts_outside.specs.Causes.{Rose}
use Rattle.cts_outside.specs.Seen.{LineSeen}
use Rattle.cts_line.specs.Ending.{DialsFor, DialsNone, FinishesFor, after_closed, after_failed, reconnects, refused, unless_again}
use Rattle.cts_line.specs.declared.ending.LineWhy.{LineWhy}
use Rattle.cts_line.specs.declared.ending.LineWhy.TheVariants.{DoorFailed}
use Rattle.cts_line.specs.declared.opening.Opening.{Opening}
use Rattle.cts_line.specs.declared.opening.Opening.TheVariants.{Opened, Stopped as StoppedThere, Full as NoRoom, NoMemory as NoMemoryThere}

-- ---- reasons for which the dialer has not said it

pub refused_finishes : (opening : Opening) (before now : Bool) → now ≡ before → FinishesFor (refused opening) before now
refused_finishes Opened before now same = same
refused_finishes StoppedThere before now same = same
refused_finishes NoRoom before now same = same
refused_finishes NoMemoryThere before now same = same

unless_finishes : (again before now : Bool) → now ≡ before → FinishesFor (unless_again again) before now
unless_finishes true before now same = same
unless_finishes false before now same = same

pub closed_finishes : (site : SiteData) (by : ℕ) (why : Why) (before now : Bool) → now ≡ before → FinishesFor (after_closed site by why) before now
closed_finishes site by PeerEnded before now same = unless_finishes (reconnects site by) before now same
closed_finishes site by ReadFault before now same = unless_finishes (reconnects site by) before now same
closed_finishes site by WriteFault before now same = unless_finishes (reconnects site by) before now same
closed_finishes site by (BadFrame stage cause) before now same = unless_finishes (reconnects site by) before now same
closed_finishes site by StoppedWhy before now same = unless_finishes (reconnects site by) before now same
closed_finishes site by NoMemoryWhy before now same = same
closed_finishes site by FullWhy before now same = same

failed_finishes : (site : SiteData) (by : ℕ) (before now : Bool) → now ≡ before → FinishesFor (after_failed site by) before now
failed_finishes site by before now same = by_kind (is_interface site by)
  where
    by_kind : (b : Bool) → FinishesFor (if b then unless_again (reconnects site by) else Some DoorFailed) before now
    by_kind true = unless_finishes (reconnects site by) before now same
    by_kind false = same

-- ---- one after another

finishes_from : (end : Option LineWhy) (first before now : Bool) → before ≡ first → FinishesFor end before now → FinishesFor end first now
finishes_from end first before now same f = subst (λ (b : Bool). FinishesFor end b now) same f

pub dials_still : (site : SiteData) (by : ℕ) (end : Option LineWhy) (seen : LineSeen) → FinishesFor end seen.finished seen.finished → DialsFor site by end seen seen
dials_still site by end seen finished = record { count = omega arith; failed = λ why is apart. refl; finished = finished }

-- no dial failed, and then none did
pub dials_idle : (site : SiteData) (by : ℕ) (end : Option LineWhy) (old mid new : LineSeen) → mid.failed_dials ≡ old.failed_dials → mid.finished ≡ old.finished → DialsNone end mid new
    → DialsFor site by end old new
dials_idle site by end old mid new same kept n = record {
  count = (let f = n.failed in omega (arith, f, same));
  failed = λ why is apart. n.failed ∙ same;
  finished = finishes_from end old.finished mid.finished new.finished kept n.finished;
}

-- a dial failed, and the line ends for that, if its kind does
pub dials_failed : (site : SiteData) (by : ℕ) (end : Option LineWhy) (old new : LineSeen) → end ≡ after_failed site by → Rose old.failed_dials new.failed_dials → new.finished ≡ old.finished
    → DialsFor site by end old new
dials_failed site by end old new is rose same = record {
  count = rose.0;
  failed = λ why for_it apart. absurd (apart (is ∙ for_it));
  finished = subst (λ (e : Option LineWhy). FinishesFor e old.finished new.finished) (sym is) (failed_finishes site by old.finished new.finished same);
}

never_ends : (why : LineWhy) → None ≡ Some why → ⊥
never_ends why e = cc

pub dials_then : (site : SiteData) (by : ℕ) (end : Option LineWhy) (a b c : LineSeen) → DialsFor site by None a b → DialsFor site by end b c → DialsFor site by end a c
dials_then site by end a b c x y = record {
  count = (let m = x.count in let n = y.count in omega (arith, m, n));
  failed = λ why is apart. y.failed why is apart ∙ x.failed why is (never_ends why);
  finished = finishes_from end a.finished b.finished c.finished x.finished y.finished;
}

pub dials_by : (site : SiteData) (by : ℕ) (end it : Option LineWhy) (old new : LineSeen) → end ≡ it → DialsFor site by end old new → DialsFor site by it old new
dials_by site by end it old new is d = subst (λ (e : Option LineWhy). DialsFor site by e old new) is d
