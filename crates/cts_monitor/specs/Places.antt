-- Where the entries stand that give limits, that named a set first, and that chose the current set.
use Rattle.std.specs.Prelude.{◌≡◌, ℕ, ◌+◌, ◌<◌, ◌||◌, Bool, false, List, [], ◌∷◌, Option, None, Some, is_some, length, slice_get}
use Rattle.std.specs.List.{filter, list_any}
use Rattle.cts_def.specs.Sites.{SiteData}
use Rattle.cts_def.specs.declared.limits.Limits.{Limits}
use Rattle.cts_entry.specs.declared.entry.Entry.{Entry}
use Rattle.cts_entry.specs.Histories.{entries_for, latest}
use Rattle.cts_monitor.specs.Sets.{is_among, is_set_known, names, set_named, sets_known}
use Rattle.cts_monitor.specs.Settings.{choice_told, limits_told}

pub record PlacesData : Type 0 where
  pub given : List ℕ
  pub sets : List ℕ
  pub chosen : Option ℕ
  -- how many more places there is room for
  pub free : ℕ

abbrev pub begun_places : PlacesData
begun_places = record { given = []; sets = []; chosen = None; free = 0 }

abbrev pub room_for : Option Entry → ℕ
room_for None = 0
room_for (Some e) = entries_for e.what

-- what the entry at a place takes of the room for entries
abbrev pub room_at : List Entry → ℕ → ℕ
room_at h n = room_for (slice_get h n)

-- the entry gives limits
abbrev pub gives : Entry → Bool
gives e = is_some (set_named e.what)

-- these places have these entries
abbrev pub Aligned : List Entry → List ℕ → List Entry → Type 0
Aligned h [] [] = Unit {0}
Aligned h [] (e ∷ es) = ⊥
Aligned h (n ∷ ns) [] = ⊥
Aligned h (n ∷ ns) (e ∷ es) = (slice_get h n ≡ Some e) × Aligned h ns es

-- the places of all entries that give limits, in order
abbrev pub GivenTells : List Entry → List ℕ → Type 0
GivenTells h ns = Aligned h ns (filter gives h)

-- the place of the entry that chose the current set
abbrev pub IsChoiceAt : List Entry → Option ℕ → Type 0
IsChoiceAt h None = latest choice_told h ≡ None
IsChoiceAt h (Some n) = (e : Entry) × (slice_get h n ≡ Some e) × (latest choice_told h ≡ choice_told e)

-- an entry, where there is one, names the set
abbrev pub is_named_by : List ℕ → Option Entry → Bool
is_named_by set None = false
is_named_by set (Some e) = names set e

abbrev pub names_at : List Entry → List ℕ → ℕ → Bool
names_at h set n = is_named_by set (slice_get h n)

abbrev pub limits_told_by : List ℕ → ℕ → ℕ → Option Entry → Option Limits
limits_told_by set p i None = None
limits_told_by set p i (Some e) = limits_told set p i e

-- the limits that the entry at a place gives an item in a set
abbrev pub limits_at : List Entry → List ℕ → ℕ → ℕ → ℕ → Option Limits
limits_at h set p i n = limits_told_by set p i (slice_get h n)

abbrev pub Below : ℕ → List ℕ → Type 0
Below m [] = Unit {0}
Below m (n ∷ ns) = (n < m) × Below m ns

-- a place for each set that the site lacks: a set is known that the site has or that the entry at one of them names
pub record SetsTell (site : SiteData) (h : List Entry) (ns : List ℕ) : Type 0 where
  pub below : Below (length h) ns
  pub known : (set : List ℕ) → is_set_known site h set ≡ (is_among site.definitions.set_names set || list_any (names_at h set) ns)
  pub count : sets_known site h ≡ length site.definitions.set_names + length ns

pub record PlacesTell (site : SiteData) (h : List Entry) (p : PlacesData) : Type 0 where
  pub given : GivenTells h p.given
  pub sets : SetsTell site h p.sets
  pub chosen : IsChoiceAt h p.chosen
