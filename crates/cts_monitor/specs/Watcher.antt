-- What is kept of limits as the history grows, and what it stands for.
use Rattle.std.specs.Prelude.{◌≡◌, ℕ, ◌*◌, ◌≤◌, ◌^◌, List, Option}
use Rattle.cts_def.specs.Most.{most_items}
use Rattle.cts_def.specs.Sites.{SiteData}
use Rattle.cts_entry.specs.declared.entry.Entry.{Entry}
use Rattle.cts_monitor.specs.Grid.{GridData, GridTells}
use Rattle.cts_monitor.specs.Places.{PlacesData, PlacesTell}
use Rattle.cts_monitor.specs.Widest.{width_of}
use Rattle.cts_monitor.specs.declared.cells.Cell.{Cell}
use Rattle.cts_monitor.specs.declared.types.LimitsEvent.{LimitsEvent}

-- what is kept of the items, with the events; the places of the entries that give limits, named a set first and chose the current set; how
-- many events an entry may make; and for how many more entries there is room
pub record WatcherData : Type 0 where
  pub rows : List (List Cell)
  pub events : List LimitsEvent
  pub given : List ℕ
  pub sets : List ℕ
  pub chosen : Option ℕ
  pub width : ℕ
  pub spare : ℕ

abbrev pub grid_of : WatcherData → GridData
grid_of k = record { rows = k.rows; events = k.events; free = 0 }

abbrev pub places_of : WatcherData → PlacesData
places_of k = record { given = k.given; sets = k.sets; chosen = k.chosen; free = 0 }

-- It stands for the history of the site.
pub record WatcherTells (site : SiteData) (h : List Entry) (k : WatcherData) : Type 0 where
  pub grid : GridTells site h (grid_of k)
  pub places : PlacesTell site h (places_of k)
  pub width : k.width ≡ width_of site

-- there are places for what that number of entries makes
pub record HasSpare (w s n m : ℕ) : Type 0 where
  pub events : w * s ≤ n
  pub places : s ≤ m
  pub narrow : w ≤ most_items
  pub few : s ≤ 2 ^ 40
