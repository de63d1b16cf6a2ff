-- Why a desk ends, and what it leaves.
use Rattle.std.specs.Prelude.{◌≡◌, ℕ, Bool, true, false, List, Option, Some, None}
use Rattle.cts_entry.specs.declared.entry.Entry.{Entry}
use Rattle.cts_entry.specs.Histories.{is_stopped}
use Rattle.cts_outside.specs.Causes.{Rose}
use Rattle.cts_outside.specs.Lines.{Line}
use Rattle.cts_trace.specs.Told.{HasFinished}
use Rattle.cts_desk.specs.declared.ending.DeskWhy.{DeskWhy}
use Rattle.cts_desk.specs.declared.ending.DeskWhy.TheVariants.{Stopped, Finished, DoorFailed, Cancelled}

-- Why a desk ends has its cause in the history and in what its door tells: the count of failed dials before and now.
abbrev pub CausesEnd : List Entry → Option Line → ℕ → ℕ → DeskWhy → Type 0
CausesEnd history told before now Stopped = is_stopped history ≡ true
CausesEnd history told before now Finished = HasFinished told
CausesEnd history told before now DoorFailed = Rose before now
CausesEnd history told before now Cancelled = ⊥

-- the same of an end, where there is one
abbrev pub CausesEndIf : List Entry → Option Line → ℕ → ℕ → Option DeskWhy → Type 0
CausesEndIf history told before now None = now ≡ before
CausesEndIf history told before now (Some why) = CausesEnd history told before now why

-- whether a connection may have been cut for a Stop: only where the desk ends
abbrev pub may_cut : Option DeskWhy → List Entry → Bool
may_cut None history = false
may_cut (Some why) history = is_stopped history

-- a desk that has seen a Stop ends for it
abbrev pub stopped_if : Bool → Option DeskWhy
stopped_if true = Some Stopped
stopped_if false = None

-- whether a desk that ends for this reason stops the server
abbrev pub stops_all : DeskWhy → Bool
stops_all Stopped = false
stops_all Finished = false
stops_all DoorFailed = true
stops_all Cancelled = true
