-- Laws of the lines of entries, for all histories.
use Rattle.std.specs.Prelude.{◌≡◌, List, ◌++◌}
use Rattle.cts_entry.specs.declared.entry.Entry.{Entry}
use Rattle.cts_def.specs.Sites.{SiteData}
use Rattle.cts_script.specs.declared.limits_event.LimitsEvent.{LimitsEvent}
use Rattle.cts_script.specs.Transcripts.{lines_after}

abbrev pub LinesJoin : Type 0
LinesJoin = (site : SiteData) (events : List Entry → Entry → List LimitsEvent) (history first second : List Entry)
    → lines_after site events history (first ++ second) ≡ lines_after site events history first ++ lines_after site events (history ++ first) second
