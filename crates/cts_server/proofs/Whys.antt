-- A worker that ran was not cancelled.
use Rattle.std.proofs.Common.{◌≡◌, ℕ, false, List, Option, refl}
use Rattle.cts_def.specs.Sites.{SiteData}
use Rattle.cts_desk.specs.Ending.{CausesEnd as CausesDesk}
use Rattle.cts_desk.specs.declared.ending.DeskWhy.{DeskWhy}
use Rattle.cts_desk.specs.declared.ending.DeskWhy.TheVariants.{Stopped as StoppedDesk, Finished as FinishedDesk, DoorFailed as DoorFailedDesk}
use Rattle.cts_desk.specs.declared.ending.DeskWhy.TheVariants.{Cancelled as CancelledDesk}
use Rattle.cts_entry.specs.declared.entry.Entry.{Entry}
use Rattle.cts_line.specs.Ending.{CausesEnd}
use Rattle.cts_line.specs.declared.ending.LineWhy.{LineWhy}
use Rattle.cts_line.specs.declared.ending.LineWhy.TheVariants.{Stopped, Finished, NoReconnect, DoorFailed, Full, NoMemory, Cancelled}
use Rattle.cts_outside.specs.Lines.{Line}
use Rattle.cts_scribe.specs.Ending.{CausesEnd as CausesScribe}
use Rattle.cts_scribe.specs.declared.ending.ScribeWhy.{ScribeWhy}
use Rattle.cts_scribe.specs.declared.ending.ScribeWhy.TheVariants.{Drained, VaultFailed, NoMemory as NoMemoryScribe, Cancelled as CancelledScribe}
use Rattle.cts_server.specs.Desks.{is_cancelled as is_cancelled_desk}
use Rattle.cts_server.specs.Lines.{is_cancelled}
use Rattle.cts_server.specs.Scribes.{is_cancelled as is_cancelled_scribe}

pub line_ran : (site : SiteData) (most m : ℕ) (history : List Entry) (told : Option Line) (before now : ℕ) (why : LineWhy)
    → CausesEnd site most m history told before now why → is_cancelled why ≡ false
line_ran site most m history told before now Stopped c = refl
line_ran site most m history told before now Finished c = refl
line_ran site most m history told before now NoReconnect c = refl
line_ran site most m history told before now DoorFailed c = refl
line_ran site most m history told before now Full c = refl
line_ran site most m history told before now NoMemory c = refl
line_ran site most m history told before now Cancelled c = absurd c

pub scribe_ran : (before now : ℕ) (why : ScribeWhy) → CausesScribe before now why → is_cancelled_scribe why ≡ false
scribe_ran before now Drained c = refl
scribe_ran before now VaultFailed c = refl
scribe_ran before now NoMemoryScribe c = refl
scribe_ran before now CancelledScribe c = absurd c

pub desk_ran : (history : List Entry) (told : Option Line) (before now : ℕ) (why : DeskWhy) → CausesDesk history told before now why
    → is_cancelled_desk why ≡ false
desk_ran history told before now StoppedDesk c = refl
desk_ran history told before now FinishedDesk c = refl
desk_ran history told before now DoorFailedDesk c = refl
desk_ran history told before now CancelledDesk c = absurd c
