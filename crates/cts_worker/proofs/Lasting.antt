-- The last entries of a worker, and what stands once they do.
use Rattle.std.proofs.Common.{◌≡◌, ℕ, ◌==◌, Bool, true, false, List, [], ◌∷◌, ◌++◌, sym, refl, ap, ◌∙◌, append_assoc, inl, inr, arith}
use Rattle.std.proofs.Math.Bool.{and-false, or-false}
use Rattle.std.specs.Prelude.{◌&&◌, ◌||◌, not}
use Rattle.std.proofs.lemmas.List.Folds.{list_any-append}
use Rattle.cts_def.specs.Sites.{IsSoundSite, SiteData}
use Rattle.cts_def.specs.declared.time.Time.{Time}
use Rattle.cts_entry.specs.declared.entry.Entry.{Entry}
use Rattle.cts_entry.specs.declared.what.What.TheVariants.{Stop, Ended}
use Rattle.cts_entry.specs.Histories.{has_own, is_connected, is_stopped}
use Rattle.cts_entry.specs.Legal.{has_ended, is_ended}
use Rattle.cts_entry.specs.Workers.{is_worker}
use Rattle.cts_entry.proofs.Appending.{stopped-append}
use Rattle.cts_entry.proofs.Queuing.{none_connected}
use Rattle.cts_table.specs.Keeping.{IsKept}
use Rattle.cts_table.specs.States.{CanAdd, Shown}
use Rattle.cts_trace.specs.Makers.{LastEnded, of_maker}
use Rattle.cts_trace.proofs.Others.{connected_of, ended_of, of_maker_append, of_maker_one}
use Rattle.cts_trace.proofs.Walks.{connected_kept}
use Rattle.cts_turn.specs.declared.rule.View.{View}
use Rattle.cts_turn.specs.Lists.{AllBy, StartsWith}
use Rattle.cts_worker.specs.Holds.{Adds, EndedHold, Onward}
use Rattle.cts_worker.specs.Lasts.{IsShut, MayEnd, entry_of, last_entries, stop_if}
use Rattle.cts_worker.proofs.Holdings.{by_one}
use Rattle.cts_worker.proofs.Onwards.{onward_hold}
use Rattle.cts_worker.proofs.Unlinked.{desk_is_off}

-- ---- the entries themselves

words_own : (c : Bool) (by : ℕ) (time : Time) → of_maker by (stop_if c by time ++ entry_of by time Ended ∷ []) ≡ stop_if c by time ++ entry_of by time Ended ∷ []
words_own true by time =
    of_maker_append by (entry_of by time Stop ∷ []) (entry_of by time Ended ∷ [])
    ∙ (ap (λ (l : List Entry). l ++ of_maker by (entry_of by time Ended ∷ [])) (of_maker_one by (entry_of by time Stop) refl) ∙ ap (λ (l : List Entry). entry_of by time Stop ∷ l) (of_maker_one by (entry_of by time Ended) refl))
words_own false by time = of_maker_one by (entry_of by time Ended) refl

-- all of them are the worker's
pub last_own : (by : ℕ) (time : Time) (stops : Bool) (before : List Entry) → of_maker by (last_entries stops by time before) ≡ last_entries stops by time before
last_own by time stops before = words_own (stops && not (is_stopped before)) by time

words_by : (c : Bool) (by : ℕ) (time : Time) → AllBy (λ (e : Entry). e.by) (by ∷ []) (stop_if c by time ++ entry_of by time Ended ∷ [])
words_by true by time = (by_one by, (by_one by, tt))
words_by false by time = (by_one by, tt)

pub last_by : (by : ℕ) (time : Time) (stops : Bool) (before : List Entry) → AllBy (λ (e : Entry). e.by) (by ∷ []) (last_entries stops by time before)
last_by by time stops before = words_by (stops && not (is_stopped before)) by time

-- ---- a Stop

-- it is no entry of a connection
pub stop_own : (c : Bool) (m by : ℕ) (time : Time) → has_own m (stop_if c by time) ≡ false
stop_own true m by time = ap (λ (b : Bool). b || false) (and-false (by == m))
stop_own false m by time = refl

stop_ends : (c : Bool) (m by : ℕ) (time : Time) → has_ended m (stop_if c by time) ≡ false
stop_ends true m by time = ap (λ (b : Bool). b || false) (and-false (by == m))
stop_ends false m by time = refl

-- it ends nobody
pub active_stop : (c : Bool) (m by : ℕ) (time : Time) (history : List Entry) → has_ended m (history ++ stop_if c by time) ≡ has_ended m history
active_stop c m by time history =
    list_any-append (λ (e : Entry). (e.by == m) && is_ended e.what) history (stop_if c by time) ∙ (ap (λ (b : Bool). has_ended m history || b) (stop_ends c m by time) ∙ or-false (has_ended m history))

-- and closes nothing
pub connected_stop : (c : Bool) (m by : ℕ) (time : Time) (history : List Entry) → is_connected m (history ++ stop_if c by time) ≡ is_connected m history
connected_stop c m by time history = connected_kept m history (stop_if c by time) (none_connected m (stop_if c by time) (stop_own c m by time))

pub shut_stop : (c : Bool) (m by : ℕ) (time : Time) (history : List Entry) → IsShut m history → IsShut m (history ++ stop_if c by time)
shut_stop c m by time history shut = (connected_stop c m by time history ∙ shut.0, active_stop c m by time history ∙ shut.1)

pub may_end_stop : (site : SiteData) (c : Bool) (m by : ℕ) (time : Time) (history : List Entry) → MayEnd site m history → MayEnd site m (history ++ stop_if c by time)
may_end_stop site c m by time history may = record {
  worker = may.worker;
  active = active_stop c m by time history ∙ may.active;
  off = elim may.off [
    | inl off ↦ inl (connected_stop c m by time history ∙ off)
    | inr never ↦ inr never
  ];
}

-- ---- who may end

-- a worker that has said nothing
pub new_may_end : (site : SiteData) (m : ℕ) (seen : List Entry) → is_worker site m ≡ true → of_maker m seen ≡ [] → MayEnd site m seen
new_may_end site m seen worker new = record { worker = worker; active = ended_of m seen [] new; off = inl (connected_of m seen [] new) }

-- ---- what a hall lets a worker append

pub can_stop : (s : Shown) (by : ℕ) (time : Time) → is_worker s.basis.site by ≡ true → is_stopped s.entries ≡ false → has_ended by s.entries ≡ false → CanAdd s (entry_of by time Stop)
can_stop s by time worker going active = record {
  allowed = record { active = active; says = going };
  of_site = record { maker = ap (λ (b : Bool). b || (by == 31)) worker; said = tt };
  entry = omega arith;
  bytes = omega arith;
}

-- who may end is not connected
pub is_off : (s : Shown) (by : ℕ) → IsSoundSite s.basis.site → IsKept s.basis s.entries → MayEnd s.basis.site by s.entries → is_connected by s.entries ≡ false
is_off s by sound kept may = elim may.off [
  | inl off ↦ off
  | inr never ↦ desk_is_off s.basis s.entries by kept sound never
]

pub can_end : (s : Shown) (by : ℕ) (time : Time) → IsSoundSite s.basis.site → IsKept s.basis s.entries → MayEnd s.basis.site by s.entries → CanAdd s (entry_of by time Ended)
can_end s by time sound kept may = record {
  allowed = record { active = may.active; says = is_off s by sound kept may };
  of_site = record { maker = ap (λ (b : Bool). b || (by == 31)) may.worker; said = may.worker };
  entry = omega arith;
  bytes = omega arith;
}

pub adds_last : (s t : Shown) (by : ℕ) (time : Time) (stops : Bool) → t.basis ≡ s.basis → t.entries ≡ s.entries ++ last_entries stops by time s.entries → Adds by s t
adds_last s t by time stops basis grows = (basis, (last_entries stops by time s.entries, grows, last_by by time stops s.entries))

-- ---- what stands at the end

module _ {G : Type 0} (by : ℕ) (time : Time) (stops : Bool) (old new : View Entry G) (ended : EndedHold by time stops old new) where
  abbrev before : List Entry
  before = old.seen ++ ended.hold.others

  pub ended_onward : Onward old new
  ended_onward = onward_hold by old new ended.added ended.hold

  pub ended_seen : new.seen ≡ (old.seen ++ ended.hold.others) ++ last_entries stops by time (old.seen ++ ended.hold.others)
  ended_seen = ended.hold.seen ∙ (sym (append_assoc old.seen ended.hold.others ended.added) ∙ ap (λ (l : List Entry). before ++ l) ended.words)

  ended_own : of_maker by new.seen ≡ of_maker by before ++ last_entries stops by time before
  ended_own = ap (of_maker by) ended_seen ∙ (of_maker_append by before (last_entries stops by time before) ∙ ap (λ (l : List Entry). of_maker by before ++ l) (last_own by time stops before))

  -- the last is its Ended
  pub ended_last : LastEnded by new.seen
  ended_last = let stop = stop_if (stops && not (is_stopped before)) by time in (
    of_maker by before ++ stop,
    entry_of by time Ended,
    ended_own ∙ sym (append_assoc (of_maker by before) stop (entry_of by time Ended ∷ [])),
    refl,
  )

  always : (x : Bool) → (x || is_stopped (stop_if (true && not x) by time ++ entry_of by time Ended ∷ [])) ≡ true
  always true = refl
  always false = refl

  -- a Stop stands, where the worker was to stop the server
  pub ended_stops : stops ≡ true → is_stopped new.seen ≡ true
  ended_stops is =
      ap is_stopped ended_seen
      ∙ (stopped-append before (last_entries stops by time before) ∙ (ap (λ (s : Bool). is_stopped before || is_stopped (last_entries s by time before)) is ∙ always (is_stopped before)))

  -- these are all its entries, where there was none before
  pub ended_only : of_maker by old.seen ≡ [] → (stood : List Entry) × StartsWith stood old.seen × StartsWith new.seen stood × (of_maker by new.seen ≡ last_entries stops by time stood)
  ended_only none = (
    before,
    (ended.hold.others, refl),
    (last_entries stops by time before, ended_seen),
    ended_own
        ∙ ap (λ (l : List Entry). l ++ last_entries stops by time before)
        (of_maker_append by old.seen ended.hold.others ∙ (ap (λ (l : List Entry). l ++ of_maker by ended.hold.others) none ∙ ended.hold.strange)),
  )
