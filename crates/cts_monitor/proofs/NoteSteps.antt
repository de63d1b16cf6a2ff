-- All that is kept stands for one entry more, by what the entry is.
use Rattle.std.proofs.Common.{◌≡◌, ◌∷◌, [], ◌++◌, ℕ, zero, suc, ◌+◌, ◌*◌, ◌<◌, ◌≤◌, ◌-◌, ◌^◌, Bool, true, false, List, length, get_or, set, take, refl, sym, ◌∙◌, ap, subst, arith, append-nil, Option, Some, None, unwrap_or}
use Rattle.std.specs.Prelude.{if◌then◌else◌, slice_get}
use Rattle.std.specs.Option.{ForSome}
use Rattle.std.proofs.lemmas.Grind.{common_steps}
use Rattle.cts_def.specs.Items.{ItemData}
use Rattle.cts_def.specs.Packets.{PacketData}
use Rattle.cts_def.specs.Sites.{SiteData}
use Rattle.cts_def.specs.declared.ident.Ident.{Ident}
use Rattle.cts_def.specs.declared.ident.Ident.TheVariants.{Known, Unknown}
use Rattle.cts_entry.specs.Histories.{entries_for}
use Rattle.cts_entry.specs.declared.entry.Entry.{Entry}
use Rattle.cts_entry.specs.declared.what.What.{What}
use Rattle.cts_monitor.specs.Brought.{brings, of_ident}
use Rattle.cts_monitor.specs.Cells.{CellTells, CellsTell, Fit}
use Rattle.cts_monitor.specs.Events.{events, events_at, brought_events, packet_events}
use Rattle.cts_monitor.specs.Grid.{GridData, GridTells, RowTells, Each, cells_at, is_setting, known_part, rows_of, sampled_packet}
use Rattle.cts_monitor.specs.Samples.{setting_of}
use Rattle.cts_monitor.specs.Settings.{Watched, watched, may_set, may_set_in_what, current_set, limits_used, sets_of, persistence_of, persistence_told, enabled_of, enabling_told}
use Rattle.cts_monitor.specs.declared.types.Setting.{Setting}
use Rattle.cts_def.specs.declared.limits.Limits.{Limits}
use Rattle.cts_monitor.proofs.SampleSteps.{quiet_setting}
use Rattle.cts_monitor.specs.Watching.{watches}
use Rattle.cts_monitor.specs.declared.cells.Cell.{Cell}
use Rattle.cts_monitor.specs.declared.types.LimitsEvent.{LimitsEvent}
use Rattle.cts_monitor.proofs.CellSteps.{cell_of, cell_set}
use Rattle.cts_monitor.proofs.GridSteps.{grid_fits, grid_same, grid_sampled, other_number, row_same}
use Rattle.cts_monitor.proofs.Keyed.{Mixed, get_within, last_at, last_split, mixed_begin, mixed_end, mixed_here, mixed_step, take_long}
use Rattle.cts_monitor.proofs.Telling.{enabled_more, events_more, persistence_more}
use Rattle.cts_monitor.proofs.Unwatched.{no_brought}

-- ---- a row, cell by cell

-- what is kept of the j-th item
abbrev pub CellAt : PacketData → ℕ → List Entry → List ItemData → ℕ → Cell → Type 0
CellAt packet p h items j c = ForSome (slice_get items j) (λ item. CellTells (watched packet item p j) h c)

cells_each : (packet : PacketData) (p : ℕ) (h : List Entry) (items : List ItemData) (cs : List Cell) → CellsTell packet p 0 h items cs → Each (CellAt packet p h items) cs
cells_each packet p h items cs t j c e item f = subst (λ (n : ℕ). CellTells (watched packet item p n) h c) (omega arith) (cell_of packet p 0 j h items cs item c f e t)

each_from : (packet : PacketData) (p i : ℕ) (h : List Entry) (items : List ItemData) (cs : List Cell) → length cs ≡ length items →
    Each (λ j c. ForSome (slice_get items j) (λ item. CellTells (watched packet item p (i + j)) h c)) cs → CellsTell packet p i h items cs
each_from packet p i h [] [] l all = tt
each_from packet p i h [] (c ∷ cs) l all = absurd (omega arith)
each_from packet p i h (item ∷ items) [] l all = absurd (omega arith)
each_from packet p i h (item ∷ items) (c ∷ cs) l all = (
  subst (λ (n : ℕ). CellTells (watched packet item p n) h c) (omega arith) (all 0 c refl item refl),
  each_from packet p (i + 1) h items cs (omega arith) (λ j d e other f. subst (λ (n : ℕ). CellTells (watched packet other p n) h d) (omega arith) (all (suc j) d e other f)),
)

each_cells : (packet : PacketData) (p : ℕ) (h : List Entry) (items : List ItemData) (cs : List Cell) → length cs ≡ length items → Each (CellAt packet p h items) cs → CellsTell packet p 0 h items cs
each_cells packet p h items cs l all = each_from packet p 0 h items cs l (λ j c e item f. subst (λ (n : ℕ). CellTells (watched packet item p n) h c) (omega arith) (all j c e item f))

pub cells_long : (packet : PacketData) (p i : ℕ) (h : List Entry) (items : List ItemData) (cs : List Cell) → CellsTell packet p i h items cs → length cs ≡ length items
cells_long packet p i h [] [] t = refl
cells_long packet p i h [] (c ∷ cs) t = absurd t
cells_long packet p i h (item ∷ items) [] t = absurd t
cells_long packet p i h (item ∷ items) (c ∷ cs) t = ap suc (cells_long packet p (i + 1) h items cs t.1)

-- ---- the last entry of a list

quiet_of : (what : What) (n j : ℕ) → is_setting what ≡ false → may_set_in_what n j what ≡ false
quiet_of what n j off = grind (arith, common_steps)

pub setting_brings : (what : What) → is_setting what ≡ true → brings what ≡ None
setting_brings what on = grind (arith, common_steps)

abbrev known_back : Option (ℕ × List ℕ) → Option (Ident × List ℕ)
known_back None = None
known_back (Some x) = Some (Known x.0, x.1)

known_is : (o : Option (Ident × List ℕ)) (p : ℕ) (bytes : List ℕ) → known_part o ≡ Some (p, bytes) → o ≡ Some (Known p, bytes)
known_is None p bytes is = (cc)
known_is (Some (Known q, other)) p bytes is = ap known_back is
known_is (Some (Unknown, other)) p bytes is = (cc)

none_of : (o : Option (Ident × List ℕ)) (p : ℕ) → known_part o ≡ None → of_ident (Known p) o ≡ None
none_of None p is = refl
none_of (Some (Known q, bytes)) p is = (cc)
none_of (Some (Unknown, bytes)) p is = refl

no_event_of : (site : SiteData) (h : List Entry) (e : Entry) (o : Option (Ident × List ℕ)) → known_part o ≡ None → brought_events site h e o ≡ []
no_event_of site h e None is = refl
no_event_of site h e (Some (Known q, bytes)) is = (cc)
no_event_of site h e (Some (Unknown, bytes)) is = refl

pub brings_takes : (what : What) (p : ℕ) (bytes : List ℕ) → brings what ≡ Some (Known p, bytes) → entries_for what ≡ 1
brings_takes what p bytes is = grind (arith, common_steps)

pub brought_is : (what : What) (p : ℕ) (bytes : List ℕ) → known_part (brings what) ≡ Some (p, bytes) → brings what ≡ Some (Known p, bytes)
brought_is what p bytes is = known_is (brings what) p bytes is

past : {A : Type 0} (xs : List A) (n : ℕ) → length xs ≤ n → slice_get xs n ≡ None
past [] n le = refl
past (x ∷ xs) zero le = absurd (omega arith)
past (x ∷ xs) (suc n) le = past xs n (omega arith)

-- bytes of a packet that has no row
grid_foreign : (site : SiteData) (h : List Entry) (e : Entry) (k : GridData) (q : ℕ) (bytes : List ℕ) → ((n j : ℕ) → may_set n j e ≡ false) → brings e.what ≡ Some (Known q, bytes) → length k.rows ≤ q →
    GridTells site h k → GridTells site (h ++ e ∷ []) k
grid_foreign site h e k q bytes quiet brought over t = record {
  long = t.long;
  rows = λ p row is. row_same site h e p row (quiet p)
      (ap (of_ident (Known p)) brought ∙ ap (λ (b : Bool). if b then Some bytes else None) (other_number q p (λ same. let lt = get_within k.rows p row is in absurd (omega arith)))) (t.rows p row is);
  told = t.told ∙ sym (events_more site h e ∙ ap (λ (es : List LimitsEvent). events site h ++ es) (none (watches site) refl) ∙ append-nil (events site h));
}
  where
    none : (b : Bool) → watches site ≡ b → events_at site h e ≡ []
    none true on =
        let long : length k.rows ≡ length site.definitions.telemetry = t.long ∙ ap (λ (b : Bool). if b then length site.definitions.telemetry else 0) on in
        ap (brought_events site h e) brought ∙ ap (packet_events h e q) (past site.definitions.telemetry q (omega (arith, long, over)))
    none false off = no_brought site h e (brings e.what) off

module _ (site : SiteData) (xs : List Entry) (at : ℕ) (e : Entry) (last : at + 1 ≡ length xs) (is : e ≡ get_or xs at e) where
  split : take at xs ++ e ∷ [] ≡ xs
  split = sym (last_split xs at e last is)

  here : length (take at xs) ≡ at
  here = take_long xs at last

  pub cell_reset : (w : Watched) (c : Cell) → brings e.what ≡ None → CellTells w (take at xs) c → CellTells w xs (record c { setting = setting_of w xs })
  cell_reset w c none t = subst (λ (ys : List Entry). CellTells w ys (record c { setting = setting_of w ys })) split (cell_set w (take at xs) e c (setting_of w (take at xs ++ e ∷ [])) refl (ap (of_ident (Known w.at)) none) t)

  -- what counts for an item after the entry
  pub setting_stays : (w : Watched) → may_set w.at w.index e ≡ false → setting_of w (take at xs) ≡ setting_of w xs
  setting_stays w off = subst (λ (ys : List Entry). setting_of w (take at xs) ≡ setting_of w ys) split (sym (quiet_setting w (take at xs) e off))

  pub setting_anew : (w : Watched) (before : Setting) (l : Option Limits) (n : ℕ) (b : Bool) → before ≡ setting_of w (take at xs) → l ≡ limits_used (current_set xs) (sets_of w xs) →
      n ≡ unwrap_or (persistence_told w.at w.index e) before.persistence → b ≡ unwrap_or (enabling_told w.at w.index e) before.enabled → (record { limits = l; persistence = n; enabled = b }) ≡ setting_of w xs
  setting_anew w before l n b is ls ns bs =
      let p : persistence_of w xs ≡ unwrap_or (persistence_told w.at w.index e) before.persistence =
      ap (persistence_of w) (sym split) ∙ persistence_more w (take at xs) e ∙ ap (λ (x : Setting). unwrap_or (persistence_told w.at w.index e) x.persistence) (sym is) in
      let q : enabled_of w xs ≡ unwrap_or (enabling_told w.at w.index e) before.enabled =
      ap (enabled_of w) (sym split) ∙ enabled_more w (take at xs) e ∙ ap (λ (x : Setting). unwrap_or (enabling_told w.at w.index e) x.enabled) (sym is) in
      rw (ls, ns ∙ sym p, bs ∙ sym q) refl

  -- the cell of an item of a row
  pub cell_at_reset : (packet : PacketData) (p j : ℕ) (items : List ItemData) (item : ItemData) (c : Cell) → brings e.what ≡ None → slice_get items j ≡ Some item → CellAt packet p (take at xs) items j c →
      CellAt packet p xs items j (record c { setting = setting_of (watched packet item p j) xs })
  cell_at_reset packet p j items item c none there t other f =
      let same : item ≡ other = cc in
      subst (λ (y : ItemData). CellTells (watched packet other p j) xs (record c { setting = setting_of (watched packet y p j) xs })) (sym same) (cell_reset (watched packet other p j) c none (t other f))

  pub events_stay : brings e.what ≡ None → events site xs ≡ events site (take at xs)
  events_stay none = subst (λ (ys : List Entry). events site ys ≡ events site (take at xs)) split
      (events_more site (take at xs) e ∙ ap (λ (es : List LimitsEvent). events site (take at xs) ++ es) (ap (brought_events site (take at xs) e) none) ∙ append-nil (events site (take at xs)))

  pub note_nothing : (k : GridData) → is_setting e.what ≡ false → known_part (brings e.what) ≡ None → GridTells site (take at xs) k → GridTells site xs k
  note_nothing k off none t = subst (λ (ys : List Entry). GridTells site ys k) split
      (grid_same site (take at xs) e k (λ n j. quiet_of e.what n j off) (λ p. none_of (brings e.what) p none) (no_event_of site (take at xs) e (brings e.what) none) t)

  module _ (k : GridData) (q : ℕ) (bytes : List ℕ) (brought : brings e.what ≡ Some (Known q, bytes)) (t : GridTells site (take at xs) k) where
    off : is_setting e.what ≡ false
    off = by (is_setting e.what) refl
      where
        by : (b : Bool) → is_setting e.what ≡ b → is_setting e.what ≡ false
        by true on = absurd (cc (sym (setting_brings e.what on) ∙ brought))
        by false gone = gone

    pub note_foreign : length k.rows ≤ q → GridTells site xs k
    note_foreign over = subst (λ (ys : List Entry). GridTells site ys k) split (grid_foreign site (take at xs) e k q bytes (λ n j. quiet_of e.what n j off) brought over t)

    pub note_bytes : (packet : PacketData) → q < length k.rows → slice_get site.definitions.telemetry q ≡ Some packet → GridTells site xs (sampled_packet at q packet bytes k)
    note_bytes packet within there =
        subst (λ (n : ℕ). GridTells site xs (sampled_packet n q packet bytes k)) here
        (subst (λ (ys : List Entry). GridTells site ys (sampled_packet (length (take at xs)) q packet bytes k)) split
        (grid_sampled site (take at xs) k q packet within there t e bytes (λ n j. quiet_of e.what n j off) brought))

    pub note_fits : (packet : PacketData) → q < length k.rows → slice_get site.definitions.telemetry q ≡ Some packet → length xs < 2 ^ 32 - 1 → Fit packet.items (cells_at k.rows q)
    note_fits packet within there few = grid_fits site (take at xs) k q packet within there t (let l = here in omega (arith, l, last, few))

-- ---- the loops

module _ (packet : PacketData) (p : ℕ) (before after : List Entry) (items : List ItemData) where
  pub row_begin : (cs : List Cell) → CellsTell packet p 0 before items cs → Each (Mixed (CellAt packet p before items) (CellAt packet p after items) 0) cs
  row_begin cs t = mixed_begin (CellAt packet p before items) (CellAt packet p after items) cs (cells_each packet p before items cs t)

  pub row_end : (cs : List Cell) (n : ℕ) → n ≡ length cs → length cs ≡ length items → Each (Mixed (CellAt packet p before items) (CellAt packet p after items) n) cs → CellsTell packet p 0 after items cs
  row_end cs n is l all = each_cells packet p after items cs l (mixed_end (CellAt packet p before items) (CellAt packet p after items) cs
      (subst (λ (m : ℕ). Each (Mixed (CellAt packet p before items) (CellAt packet p after items) m) cs) is all))

pub rows_within : (site : SiteData) (n : ℕ) → n ≡ rows_of site → n ≤ length site.definitions.telemetry
rows_within site n is = by (watches site) refl
  where
    by : (b : Bool) → watches site ≡ b → n ≤ length site.definitions.telemetry
    by true on = let l : n ≡ length site.definitions.telemetry = is ∙ ap (λ (b : Bool). if b then length site.definitions.telemetry else 0) on in omega (arith, l)
    by false gone = let l : n ≡ 0 = is ∙ ap (λ (b : Bool). if b then length site.definitions.telemetry else 0) gone in omega (arith, l)

pub row_within : (site : SiteData) (rows : List (List Cell)) (p : ℕ) → length rows ≡ rows_of site → p < length rows → p < length site.definitions.telemetry
row_within site rows p long lt = let le = rows_within site (length rows) long in omega (arith, le, lt)

-- an entry makes at most as many events as a packet has items
pub free_left : (w free n r : ℕ) → n ≤ w → r ≡ 1 → w * r ≤ free → n ≤ free
free_left w free n r le one room = let is : w * r ≡ w = rw one (omega arith) in omega (arith, is, le, room)

-- a row of the packet
pub row_is : (site : SiteData) (h : List Entry) (p : ℕ) (packet : PacketData) (row : List Cell) → slice_get site.definitions.telemetry p ≡ Some packet → CellsTell packet p 0 h packet.items row → RowTells site h p row
row_is site h p packet row there t other f =
    let same : packet ≡ other = cc in subst (λ (y : PacketData). CellsTell y p 0 h y.items row) same t

-- the loop over the rows
module _ (site : SiteData) (before after : List Entry) where
  pub rows_begin : (rows : List (List Cell)) → Each (RowTells site before) rows → Each (Mixed (RowTells site before) (RowTells site after) 0) rows
  rows_begin rows t = mixed_begin (RowTells site before) (RowTells site after) rows t

  pub rows_end : (rows : List (List Cell)) (n : ℕ) → n ≡ length rows → Each (Mixed (RowTells site before) (RowTells site after) n) rows → Each (RowTells site after) rows
  rows_end rows n is all = mixed_end (RowTells site before) (RowTells site after) rows (subst (λ (m : ℕ). Each (Mixed (RowTells site before) (RowTells site after) m) rows) is all)

-- a step of the loop over the cells of a row
pub row_step : (site : SiteData) (xs : List Entry) (at : ℕ) → at + 1 ≡ length xs → ForSome (slice_get xs at) (λ e. brings e.what ≡ None) →
    (packet : PacketData) (p i : ℕ) (items : List ItemData) (item : ItemData) (cs : List Cell) (c now : Cell) → slice_get items i ≡ Some item → i < length cs → c ≡ get_or cs i c →
    now ≡ (record c { setting = setting_of (watched packet item p i) xs }) → Each (Mixed (CellAt packet p (take at xs) items) (CellAt packet p xs items) i) cs →
    Each (Mixed (CellAt packet p (take at xs) items) (CellAt packet p xs items) (i + 1)) (set cs i now)
row_step site xs at long none packet p i items item cs c now there within is now_is all =
    let e = last_at xs at long in
    let before = mixed_here (CellAt packet p (take at xs) items) (CellAt packet p xs items) cs i c within is all in
    subst (λ (v : Cell). Each (Mixed (CellAt packet p (take at xs) items) (CellAt packet p xs items) (i + 1)) (set cs i v)) (sym now_is)
    (mixed_step (CellAt packet p (take at xs) items) (CellAt packet p xs items) cs i (record c { setting = setting_of (watched packet item p i) xs })
    (cell_at_reset site xs at e.0 long e.1 packet p i items item c (none e.0 e.2) there before) all)

-- what counted for an item of a row that the loop has not reached
pub row_before : (packet : PacketData) (p i : ℕ) (before after : List Entry) (items : List ItemData) (item : ItemData) (cs : List Cell) (c : Cell) → slice_get items i ≡ Some item → i < length cs → c ≡ get_or cs i c →
    Each (Mixed (CellAt packet p before items) (CellAt packet p after items) i) cs → c.setting ≡ setting_of (watched packet item p i) before
row_before packet p i before after items item cs c there within is all =
    (mixed_here (CellAt packet p before items) (CellAt packet p after items) cs i c within is all item there).setting

-- a step of the loop over the rows
pub rows_step : (site : SiteData) (before after : List Entry) (p : ℕ) (packet : PacketData) (rows : List (List Cell)) (now : List Cell) → slice_get site.definitions.telemetry p ≡ Some packet →
    CellsTell packet p 0 after packet.items now → Each (Mixed (RowTells site before) (RowTells site after) p) rows → Each (Mixed (RowTells site before) (RowTells site after) (p + 1)) (set rows p now)
rows_step site before after p packet rows now there t all = mixed_step (RowTells site before) (RowTells site after) rows p now (row_is site after p packet now there t) all

pub rows_before : (site : SiteData) (before after : List Entry) (p : ℕ) (packet : PacketData) (rows : List (List Cell)) (row : List Cell) → slice_get site.definitions.telemetry p ≡ Some packet → p < length rows → row ≡ get_or rows p row →
    Each (Mixed (RowTells site before) (RowTells site after) p) rows → CellsTell packet p 0 before packet.items row
rows_before site before after p packet rows row there within is all = mixed_here (RowTells site before) (RowTells site after) rows p row within is all packet there

-- the rows and the events after an entry that brings no bytes
pub reset_tells : (site : SiteData) (xs : List Entry) (at : ℕ) → at + 1 ≡ length xs → ForSome (slice_get xs at) (λ e. brings e.what ≡ None) → (old now : GridData) → GridTells site (take at xs) old →
    length now.rows ≡ rows_of site → now.events ≡ old.events → Each (RowTells site xs) now.rows → GridTells site xs now
reset_tells site xs at long none old now t l e rows =
    let last = last_at xs at long in
    record { long = l; rows = rows; told = e ∙ t.told ∙ sym (events_stay site xs at last.0 long last.1 (none last.0 last.2)) }
