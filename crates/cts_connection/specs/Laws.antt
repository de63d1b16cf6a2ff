-- Laws of lines.
use Rattle.std.specs.Prelude.{◌≡◌, ◌<◌, ◌≤◌, ℕ, true, false, List}
use Rattle.cts_def.specs.Sites.{IsSoundSite, SiteData}
use Rattle.cts_def.specs.declared.time.Time.{Time}
use Rattle.cts_entry.specs.Histories.{entries_in, bytes_in, is_connected}
use Rattle.cts_entry.specs.Legal.{has_ended}
use Rattle.cts_framing.specs.Framing.{Output}
use Rattle.cts_table.specs.States.{Shown}
use Rattle.cts_connection.specs.LinePlaces.{is_line, line_count, line_place}
use Rattle.cts_connection.specs.Postings.{CanAddAll}
use Rattle.cts_connection.specs.Takings.{entries_of}

-- each line of a site has its place among the connections, and no other has it
abbrev pub LinesHavePlaces : Type 0
LinesHavePlaces = (site : SiteData) (by : ℕ) → IsSoundSite site → is_line site by ≡ true → line_place site by < line_count site

abbrev pub PlacesAreApart : Type 0
PlacesAreApart = (site : SiteData) (by other : ℕ) → IsSoundSite site → is_line site by ≡ true → is_line site other ≡ true
    → line_place site by ≡ line_place site other → by ≡ other

-- what a line that is connected and has not ended gets from its chain may be appended, if there is room
abbrev pub LinesMayPost : Type 0
LinesMayPost = (s : Shown) (by : ℕ) (now : Time) (outs : List Output) → IsSoundSite s.basis.site → is_line s.basis.site by ≡ true
    → is_connected by s.entries ≡ true → has_ended by s.entries ≡ false
    → entries_in (entries_of s.basis.site s.entries by now outs) ≤ s.spare_entries
    → bytes_in (entries_of s.basis.site s.entries by now outs) ≤ s.spare_bytes
    → CanAddAll s (entries_of s.basis.site s.entries by now outs)
