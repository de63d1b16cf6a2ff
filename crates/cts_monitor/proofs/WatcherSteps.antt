-- What is kept of limits stands for one entry more, and what is looked up in it.
use Rattle.std.proofs.Common.{◌≡◌, ◌∷◌, [], ◌++◌, ℕ, zero, suc, ◌+◌, ◌*◌, ◌<◌, ◌≤◌, ◌-◌, ◌^◌, Bool, true, false, List, length, max, refl, sym, ◌∙◌, ap, subst, arith, append-nil, Option, Some, None, is_some}
use Rattle.std.specs.Prelude.{if◌then◌else◌, map, not, slice_get, option_and_then}
use Rattle.std.specs.List.{list_any}
use Rattle.std.proofs.lemmas.Grind.{common_steps}
use Rattle.cts_def.specs.Items.{ItemData, has_color}
use Rattle.cts_def.specs.Packets.{PacketData, default_set}
use Rattle.cts_def.specs.Sites.{SiteData}
use Rattle.cts_def.specs.declared.color.Color.{Color}
use Rattle.cts_def.specs.declared.color.Color.TheVariants.{Stale}
use Rattle.cts_entry.specs.Histories.{entries_for}
use Rattle.cts_limits.specs.States as states
use Rattle.cts_entry.specs.declared.entry.Entry.{Entry}
use Rattle.cts_entry.specs.declared.what.What.{What}
use Rattle.cts_def.specs.declared.limits_setup.LimitsSetup.{LimitsSetup}
use Rattle.cts_entry.specs.Histories.{or_earlier}
use Rattle.cts_monitor.specs.Cells.{CellTells, CellsTell, begun_cell, first_limits}
use Rattle.cts_monitor.specs.Gathered.{gathered_from}
use Rattle.cts_monitor.specs.Grid.{Each, GridData, GridTells, RowTells, begun_grid, cell_in, rows_of}
use Rattle.cts_monitor.specs.Items.{has_limits, item_at}
use Rattle.cts_monitor.specs.Places.{PlacesData, PlacesTell}
use Rattle.cts_monitor.specs.Samples.{setting_of, state_at, state_after, state_in}
use Rattle.cts_monitor.specs.Settings.{Watched, limits_in, limits_of, limits_used, limits_used_in, limits_used_of, sets_with, watched, watched_at, watched_in, watched_of}
use Rattle.cts_monitor.specs.Watcher.{HasSpare, WatcherData, WatcherTells}
use Rattle.cts_monitor.specs.Watching.{has_watched, is_watched, watches}
use Rattle.cts_monitor.specs.Widest.{widest_of, width_of}
use Rattle.cts_monitor.specs.declared.cells.Cell.{Cell}
use Rattle.cts_monitor.proofs.CellSteps.{cell_of}
use Rattle.cts_monitor.proofs.Keyed.{get_within}
use Rattle.cts_monitor.proofs.NoteSteps.{cells_long, rows_within}
use Rattle.cts_monitor.proofs.Unwatched.{or_off, state_off}
use Rattle.cts_monitor.proofs.Widths.{within_widest}

pub tells_spare : (site : SiteData) (h : List Entry) (k : WatcherData) (s : ℕ) → WatcherTells site h k → WatcherTells site h (record k { spare = s })
tells_spare site h k s t = record { grid = t.grid; places = t.places; width = t.width }

-- the numbers of places do not matter
pub grid_to : (site : SiteData) (h : List Entry) (g k : GridData) → k.rows ≡ g.rows → k.events ≡ g.events → GridTells site h g → GridTells site h k
grid_to site h g k r e t = record { long = rw r t.long; rows = rw r t.rows; told = rw e t.told }

pub places_to : (site : SiteData) (h : List Entry) (p q : PlacesData) → q.given ≡ p.given → q.sets ≡ p.sets → q.chosen ≡ p.chosen → PlacesTell site h p → PlacesTell site h q
places_to site h p q g s c t = record { given = rw g t.given; sets = rw s t.sets; chosen = rw c t.chosen }

-- ---- places

room_small : (what : What) → entries_for what ≤ 1
room_small what = grind (arith, common_steps)

times_parts : (w s r : ℕ) → r ≤ s → w * s ≡ w * (s - r) + w * r
times_parts w s r le = let is : s ≡ (s - r) + r = omega arith in ap (λ n. w * n) is ∙ omega arith

pub spare_room : (w s n m r : ℕ) → HasSpare w s n m → r ≤ s → w * r ≤ n
spare_room w s n m r has le = let p = times_parts w s r le in let e = has.events in omega (arith, p, e)

pub spare_left : (w s n m r next more : ℕ) → HasSpare w s n m → r ≤ s → n ≤ next + w * r → m ≤ more + r → HasSpare w (s - r) next more
spare_left w s n m r next more has le events places = record {
  events = let p = times_parts w s r le in let e = has.events in omega (arith, p, e, events);
  places = let p = has.places in omega (arith, p, places, le);
  narrow = has.narrow;
  few = let f = has.few in omega (arith, f);
}

times_le : (w n : ℕ) → w ≤ 4096 → w * n ≤ 4096 * n
times_le w zero le = omega arith
times_le w (suc n) le = let r = times_le w n le in omega (arith, r, le)

pub room_fits : (w n : ℕ) → w ≤ 4096 → n ≤ 2 ^ 40 → w * n < 2 ^ 60
room_fits w n le few = let t = times_le w n le in omega (arith, t, few)

-- ---- the widest packet

pub widest_more : (ps : List PacketData) (p : PacketData) → widest_of (ps ++ p ∷ []) ≡ max (length p.items) (widest_of ps)
widest_more [] p = refl
widest_more (q ∷ ps) p = ap (λ (n : ℕ). max (length q.items) n) (widest_more ps p) ∙ grind (arith, common_steps)

-- a row's packet makes at most as many events as an entry may make
pub row_wide : (site : SiteData) (rows : List (List Cell)) (q : ℕ) (packet : PacketData) → length rows ≡ rows_of site → q < length rows → slice_get site.definitions.telemetry q ≡ Some packet → length packet.items ≤ width_of site
row_wide site rows q packet long lt there = by_watch (watches site) refl
  where
    by_watch : (b : Bool) → watches site ≡ b → length packet.items ≤ (if b then widest_of site.definitions.telemetry else 0)
    by_watch true on = within_widest site.definitions.telemetry q packet there
    by_watch false off =
        let none : length rows ≡ 0 = long ∙ ap (λ (b : Bool). if b then length site.definitions.telemetry else 0) off in absurd (omega (arith, none, lt))

-- ---- look-ups

off_packet : (ps : List PacketData) (p : ℕ) (packet : PacketData) → list_any has_watched ps ≡ false → slice_get ps p ≡ Some packet → has_watched packet ≡ false
off_packet [] p packet off is = (cc)
off_packet (x ∷ ps) zero packet off is = let same : x ≡ packet = cc in subst (λ (y : PacketData). has_watched y ≡ false) same (or_off (has_watched x) (list_any has_watched ps) off).0
off_packet (x ∷ ps) (suc p) packet off is = off_packet ps p packet (or_off (has_watched x) (list_any has_watched ps) off).1 is

off_item : (items : List ItemData) (i : ℕ) (item : ItemData) → list_any is_watched items ≡ false → slice_get items i ≡ Some item → is_watched item ≡ false
off_item [] i item off is = (cc)
off_item (x ∷ items) zero item off is = let same : x ≡ item = cc in subst (λ (y : ItemData). is_watched y ≡ false) same (or_off (is_watched x) (list_any is_watched items) off).0
off_item (x ∷ items) (suc i) item off is = off_item items i item (or_off (is_watched x) (list_any is_watched items) off).1 is

pub beyond : {A : Type 0} (xs : List A) (n : ℕ) → slice_get xs n ≡ None → length xs ≤ n
beyond [] n is = omega arith
beyond (x ∷ xs) zero is = (cc)
beyond (x ∷ xs) (suc n) is = let r = beyond xs n is in omega (arith, r)

module _ (site : SiteData) (h : List Entry) (g : GridData) (t : GridTells site h g) (p i : ℕ) where
  pub cell_found : (packet : PacketData) (item : ItemData) (c : Cell) → slice_get site.definitions.telemetry p ≡ Some packet → slice_get packet.items i ≡ Some item → cell_in g.rows p i ≡ Some c → CellTells (watched packet item p i) h c
  cell_found packet item c there is found = by_row (slice_get g.rows p) refl found
    where
      by_row : (o : Option (List Cell)) → slice_get g.rows p ≡ o → option_and_then (λ (row : List Cell). slice_get row i) o ≡ Some c → CellTells (watched packet item p i) h c
      by_row None at f = (cc)
      by_row (Some row) at f = subst (λ (n : ℕ). CellTells (watched packet item p n) h c) (omega arith) (cell_of packet p 0 i h packet.items row item c is f (t.rows p row at packet there))

  pub cell_missing : (packet : PacketData) (item : ItemData) → slice_get site.definitions.telemetry p ≡ Some packet → slice_get packet.items i ≡ Some item → cell_in g.rows p i ≡ None → is_watched item ≡ false
  cell_missing packet item there is missing = by_row (slice_get g.rows p) refl missing
    where
      by_watch : (b : Bool) → watches site ≡ b → length g.rows ≤ p → is_watched item ≡ false
      by_watch true on over =
          let long : length g.rows ≡ length site.definitions.telemetry = t.long ∙ ap (λ (b : Bool). if b then length site.definitions.telemetry else 0) on in
          let lt = get_within site.definitions.telemetry p packet there in absurd (omega (arith, long, over, lt))
      by_watch false off over = off_item packet.items i item (off_packet site.definitions.telemetry p packet off there) is

      by_row : (o : Option (List Cell)) → slice_get g.rows p ≡ o → option_and_then (λ (row : List Cell). slice_get row i) o ≡ None → is_watched item ≡ false
      by_row None at f = by_watch (watches site) refl (beyond g.rows p at)
      by_row (Some row) at f =
          let long : length row ≡ length packet.items = cells_long packet p 0 h packet.items row (t.rows p row at packet there) in
          let over = beyond row i f in
          let lt = get_within packet.items i item is in absurd (omega (arith, long, over, lt))

  abbrev color_at : Option Cell → Color
  color_at None = Stale
  color_at (Some c) = c.state.color

  no_row : slice_get site.definitions.telemetry p ≡ None → cell_in g.rows p i ≡ None
  no_row none = by_row (slice_get g.rows p) refl
    where
      by_row : (o : Option (List Cell)) → slice_get g.rows p ≡ o → option_and_then (λ (row : List Cell). slice_get row i) o ≡ None
      by_row None at = refl
      by_row (Some row) at =
          let lt = get_within g.rows p row at in
          let le = rows_within site (length g.rows) t.long in
          let over = beyond site.definitions.telemetry p none in absurd (omega (arith, lt, le, over))

  past : {A : Type 0} (xs : List A) (n : ℕ) → length xs ≤ n → slice_get xs n ≡ None
  past [] n le = refl
  past (x ∷ xs) zero le = absurd (omega arith)
  past (x ∷ xs) (suc n) le = past xs n (omega arith)

  no_item : (packet : PacketData) → slice_get site.definitions.telemetry p ≡ Some packet → slice_get packet.items i ≡ None → cell_in g.rows p i ≡ None
  no_item packet there none = by_row (slice_get g.rows p) refl
    where
      by_row : (o : Option (List Cell)) → slice_get g.rows p ≡ o → option_and_then (λ (row : List Cell). slice_get row i) o ≡ None
      by_row None at = refl
      by_row (Some row) at =
          let long : length row ≡ length packet.items = cells_long packet p 0 h packet.items row (t.rows p row at packet there) in
          let over = beyond packet.items i none in past row i (omega (arith, long, over))

  -- the state of an item is that of its cell
  pub state_is : color_at (cell_in g.rows p i) ≡ state_at site p i h
  state_is = by_packet (slice_get site.definitions.telemetry p) refl
    where
      by_cell : (packet : PacketData) (item : ItemData) → slice_get site.definitions.telemetry p ≡ Some packet → slice_get packet.items i ≡ Some item → (o : Option Cell) → cell_in g.rows p i ≡ o → color_at o ≡ state_after (watched packet item p i) h
      by_cell packet item there is None at = sym (state_off (watched packet item p i) h (cell_missing packet item there is at))
      by_cell packet item there is (Some c) at = (cell_found packet item c there is at).state.color

      by_item : (packet : PacketData) → slice_get site.definitions.telemetry p ≡ Some packet → (o : Option ItemData) → slice_get packet.items i ≡ o → color_at (cell_in g.rows p i) ≡ state_in (watched_of o packet p i) h
      by_item packet there None is = ap color_at (no_item packet there is)
      by_item packet there (Some item) is = by_cell packet item there is (cell_in g.rows p i) refl

      by_packet : (o : Option PacketData) → slice_get site.definitions.telemetry p ≡ o → color_at (cell_in g.rows p i) ≡ state_in (watched_in o p i) h
      by_packet None there = ap color_at (no_row there)
      by_packet (Some packet) there = by_item packet there (slice_get packet.items i) refl

  pub state_some : (c : Cell) → cell_in g.rows p i ≡ Some c → c.state.color ≡ state_at site p i h
  state_some c is = ap color_at (sym is) ∙ state_is

  pub state_none : cell_in g.rows p i ≡ None → Stale ≡ state_at site p i h
  state_none is = ap color_at (sym is) ∙ state_is

  -- the packet and the item of these numbers
  abbrev IsThere : Watched → Type 0
  IsThere w = (slice_get site.definitions.telemetry p ≡ Some w.packet) × (slice_get w.packet.items i ≡ Some w.item) × (watched w.packet w.item p i ≡ w)

  parts : (w : Watched) → watched_at site p i ≡ Some w → IsThere w
  parts w at = by_packet (slice_get site.definitions.telemetry p) refl at
    where
      by_item : (packet : PacketData) (o : Option ItemData) → slice_get site.definitions.telemetry p ≡ Some packet → slice_get packet.items i ≡ o → watched_of o packet p i ≡ Some w → IsThere w
      by_item packet None there is f = (cc)
      by_item packet (Some item) there is f = let same : watched packet item p i ≡ w = cc in subst IsThere same (there, is, refl)

      by_packet : (o : Option PacketData) → slice_get site.definitions.telemetry p ≡ o → watched_in o p i ≡ Some w → IsThere w
      by_packet None there f = (cc)
      by_packet (Some packet) there f = by_item packet (slice_get packet.items i) there refl f

  module _ (w : Watched) (at : watched_at site p i ≡ Some w) where
    pub setting_found : (c : Cell) → cell_in g.rows p i ≡ Some c → c.setting ≡ setting_of w h
    setting_found c found =
        let there = parts w at in
        subst (λ (x : Watched). c.setting ≡ setting_of x h) there.2 (cell_found w.packet w.item c there.0 there.1 found).setting

    no_limits : cell_in g.rows p i ≡ None → w.item.limits ≡ None
    no_limits missing = by_limits w.item.limits refl (or_off (is_some w.item.limits) (list_any has_color w.item.states) (cell_missing w.packet w.item (parts w at).0 (parts w at).1 missing)).0
      where
        by_limits : (o : Option LimitsSetup) → w.item.limits ≡ o → is_some o ≡ false → w.item.limits ≡ None
        by_limits None is off = is
        by_limits (Some setup) is off = (cc)

    pub unused_missing : cell_in g.rows p i ≡ None → (set : List ℕ) → None ≡ limits_of site p i set h
    unused_missing missing set =
        let used : limits_used_of w set h ≡ None = rw (no_limits missing) refl in
        sym (ap (λ (o : Option Watched). limits_used_in o set h) at ∙ used)

    pub unlimited_missing : cell_in g.rows p i ≡ None → true ≡ not (has_limits (item_at site p i))
    unlimited_missing missing =
        let there = parts w at in
        let item : item_at site p i ≡ Some w.item = ap (λ (o : Option PacketData). option_and_then (λ (x : PacketData). slice_get x.items i) o) there.0 ∙ there.1 in
        sym (ap (λ (o : Option ItemData). not (has_limits o)) item ∙ ap (λ (o : Option LimitsSetup). not (is_some o)) (no_limits missing))

-- ---- before the first entry

same_twice : {T : Type 0} (o : Option T) → or_earlier o o ≡ o
same_twice None = refl
same_twice (Some x) = refl

limits_begun : (l : Option LimitsSetup) → first_limits l ≡ limits_used default_set (sets_with l [])
limits_begun None = refl
limits_begun (Some setup) = ap (limits_in default_set) (sym (append-nil setup.sets)) ∙ sym (same_twice (limits_in default_set (setup.sets ++ [])))

setting_begun : (w : Watched) → (begun_cell w.item).setting ≡ setting_of w []
setting_begun w = rw (limits_begun w.item.limits) refl

cells_begun : (packet : PacketData) (p i : ℕ) (items : List ItemData) → CellsTell packet p i [] items (map begun_cell items)
unfolding states.state_back states.state_of gathered_from
cells_begun packet p i [] = tt
cells_begun packet p i (item ∷ items) =
    (record { setting = setting_begun (watched packet item p i); state = record { color = refl; run = refl }; run = omega arith }, cells_begun packet p (i + 1) items)

row_begun : (ps : List PacketData) (p : ℕ) (row : List Cell) (packet : PacketData) → slice_get (map (λ (x : PacketData). map begun_cell x.items) ps) p ≡ Some row → slice_get ps p ≡ Some packet → row ≡ map begun_cell packet.items
row_begun [] p row packet is there = (cc)
row_begun (x ∷ ps) zero row packet is there = let same : x ≡ packet = cc in (let r : map begun_cell x.items ≡ row = cc in sym r ∙ ap (λ (y : PacketData). map begun_cell y.items) same)
row_begun (x ∷ ps) (suc p) row packet is there = row_begun ps p row packet is there

map_long : {A B : Type 0} (f : A → B) (xs : List A) → length (map f xs) ≡ length xs
map_long f [] = refl
map_long f (x ∷ xs) = ap suc (map_long f xs)

abbrev begun_rows : SiteData → List (List Cell)
begun_rows site = map (λ (x : PacketData). map begun_cell x.items) site.definitions.telemetry

abbrev no_rows : List (List Cell)
no_rows = []

pub grid_begun : (site : SiteData) → GridTells site [] (begun_grid site)
unfolding gathered_from
grid_begun site = record {
  long = long (watches site);
  rows = rows (watches site);
  told = refl;
}
  where
    long : (b : Bool) → length (if b then begun_rows site else no_rows) ≡ (if b then length site.definitions.telemetry else 0)
    long true = map_long (λ (x : PacketData). map begun_cell x.items) site.definitions.telemetry
    long false = refl

    rows : (b : Bool) → Each (RowTells site []) (if b then begun_rows site else no_rows)
    rows true p row is packet there = subst (λ (cs : List Cell). CellsTell packet p 0 [] packet.items cs) (sym (row_begun site.definitions.telemetry p row packet is there)) (cells_begun packet p 0 packet.items)
    rows false p row is packet there = (cc)
