-- What a world holds, whether it goes on, and what it answers for good.
use Rattle.std.specs.Prelude.{◌≡◌, ℕ, ◌+◌, Option, None, Some, Result, Ok, Err}
use Rattle.cts_entry.specs.declared.event.Event.{Event}
use Rattle.cts_entry.specs.declared.event.Effect.{Effect}
use Rattle.cts_core.specs.Runs.{drained}
use Rattle.cts_core.specs.States.{State}
use Rattle.cts_core.specs.Worlds.{Held}
use Rattle.cts_core.specs.declared.fault.WorldFault.{WorldFault}
use Rattle.cts_core.specs.declared.fault.WorldFault.TheVariants.{NotEnabled as RefusedEvent, Full, Memory}

-- what contracts see of a world: what it holds, and what it answers for good, if its history was full or memory ran out
pub record WorldData : Type 0 where
  pub held : Held
  pub ended : Option WorldFault
  -- how many entries the logs have passed
  pub log_cursor : ℕ

abbrev pub held_in : WorldData → Held
held_in w = w.held

-- it has not ended: its history was not full at any event so far, and memory did not run out
abbrev pub GoesOn : WorldData → Type 0
GoesOn w = w.ended ≡ None

-- its logs have passed as many entries as the state's
abbrev pub HasPassed : WorldData → State → Type 0
HasPassed w s = w.log_cursor ≡ s.log_cursor

-- how many entries the logs have passed after an event: those that it drained more, where it was done, and else as many as before
abbrev pub LogPasses : State → Event → Result Effect WorldFault → WorldData → Type 0
LogPasses s event (Ok effect) new = new.log_cursor ≡ s.log_cursor + drained event
LogPasses s event (Err fault) new = new.log_cursor ≡ s.log_cursor

-- what a world answers for good after this answer: that its history is full, or that memory ran out
abbrev pub lasting : Result Effect WorldFault → Option WorldFault
lasting (Ok effect) = None
lasting (Err RefusedEvent) = None
lasting (Err (Full entries bytes)) = Some (Full entries bytes)
lasting (Err Memory) = Some Memory
