-- What is kept of the items stands for one entry more.
use Rattle.std.proofs.Common.{◌≡◌, ◌∷◌, [], ◌++◌, ℕ, zero, suc, ◌+◌, ◌<◌, ◌-◌, ◌^◌, false, List, length, take, drop, get_or, set, refl, sym, ◌∙◌, ap, subst, arith, append-nil, append_assoc, Option, Some, None}
use Rattle.std.specs.Prelude.{IsTrue, slice_get}
use Rattle.std.specs.Option.{ForSome}
use Rattle.std.proofs.lemmas.List.{length-append, drop_more, take_more_set, drop-set-lt}
use Rattle.cts_def.specs.Items.{ItemData}
use Rattle.cts_def.specs.Packets.{PacketData}
use Rattle.cts_def.specs.Spans.{is_number}
use Rattle.cts_def.specs.declared.ident.Ident.TheVariants.{Known}
use Rattle.cts_entry.specs.declared.entry.Entry.{Entry}
use Rattle.cts_limits.specs.States.{StandsFor, Sample, change_from}
use Rattle.cts_monitor.specs.Brought.{brought_by}
use Rattle.cts_monitor.specs.Cells.{sampled, sampled_all, turns, CanSample, Fit, CellTells, CellsTell}
use Rattle.cts_monitor.specs.Events.{as_event, item_events}
use Rattle.cts_monitor.specs.Samples.{setting_of, sample_in, samples, state_after}
use Rattle.cts_monitor.specs.Settings.{Watched, watched, may_set}
use Rattle.cts_monitor.specs.Steps.{stepped}
use Rattle.cts_monitor.specs.declared.cells.Cell.{Cell}
use Rattle.cts_monitor.specs.declared.types.LimitsEvent.{LimitsEvent}
use Rattle.cts_monitor.specs.declared.types.Setting.{Setting}
use Rattle.cts_monitor.proofs.Telling.{samples_more}
use Rattle.cts_monitor.proofs.SampleSteps.{in_stands, stepped_run, quiet_setting, limits_of_number}

-- an entry that sets nothing of an item
pub cell_after : (w : Watched) (h : List Entry) (e : Entry) (c : Cell) → may_set w.at w.index e ≡ false → CellTells w h c →
    CellTells w (h ++ e ∷ []) (record c { state = stepped c.state (sample_in w c.setting (brought_by (Known w.at) e)) })
cell_after w h e c q t = record {
  setting = t.setting ∙ sym (quiet_setting w h e q);
  state = subst (λ (s : List Sample). StandsFor (stepped c.state (sample_in w c.setting (brought_by (Known w.at) e))) s)
      (ap (λ (x : Setting). samples w h ++ sample_in w x (brought_by (Known w.at) e)) t.setting ∙ sym (samples_more w h e))
      (in_stands w c.setting (brought_by (Known w.at) e) c.state (samples w h) t.state);
  run = let s = stepped_run c.state (sample_in w c.setting (brought_by (Known w.at) e)) in
      let l : length (h ++ e ∷ []) ≡ length h + 1 = length-append h (e ∷ []) in
      let r = t.run in omega (arith, s, l, r);
}

pub cell_same : (w : Watched) (h : List Entry) (e : Entry) (c : Cell) → may_set w.at w.index e ≡ false → brought_by (Known w.at) e ≡ None → CellTells w h c → CellTells w (h ++ e ∷ []) c
cell_same w h e c q b t =
    subst (λ (o : Option (List ℕ)). CellTells w (h ++ e ∷ []) (record c { state = stepped c.state (sample_in w c.setting o) })) b (cell_after w h e c q t)

pub cell_sampled : (packet : PacketData) (item : ItemData) (p i : ℕ) (h : List Entry) (e : Entry) (c : Cell) (bytes : List ℕ) → may_set p i e ≡ false → brought_by (Known p) e ≡ Some bytes →
    CellTells (watched packet item p i) h c → CellTells (watched packet item p i) (h ++ e ∷ []) (sampled packet bytes item c)
cell_sampled packet item p i h e c bytes q b t =
    subst (λ (o : Option (List ℕ)). CellTells (watched packet item p i) (h ++ e ∷ []) (record c { state = stepped c.state (sample_in (watched packet item p i) c.setting o) })) b
    (cell_after (watched packet item p i) h e c q t)

-- another setting, where the state stays
pub cell_set : (w : Watched) (h : List Entry) (e : Entry) (c : Cell) (s : Setting) → s ≡ setting_of w (h ++ e ∷ []) → brought_by (Known w.at) e ≡ None → CellTells w h c → CellTells w (h ++ e ∷ []) (record c { setting = s })
cell_set w h e c s is b t = record {
  setting = is;
  state = subst (λ (x : List Sample). StandsFor c.state x)
      (sym (append-nil (samples w h)) ∙ ap (λ (o : Option (List ℕ)). samples w h ++ sample_in w (setting_of w h) o) (sym b) ∙ sym (samples_more w h e)) t.state;
  run = let l : length (h ++ e ∷ []) ≡ length h + 1 = length-append h (e ∷ []) in let r = t.run in omega (arith, l, r);
}

-- ---- rows

pub cells_same : (packet : PacketData) (p i : ℕ) (h : List Entry) (e : Entry) (items : List ItemData) (cs : List Cell) → ((j : ℕ) → may_set p j e ≡ false) → brought_by (Known p) e ≡ None →
    CellsTell packet p i h items cs → CellsTell packet p i (h ++ e ∷ []) items cs
cells_same packet p i h e [] [] q b t = t
cells_same packet p i h e [] (c ∷ cs) q b t = t
cells_same packet p i h e (item ∷ items) [] q b t = t
cells_same packet p i h e (item ∷ items) (c ∷ cs) q b t = (cell_same (watched packet item p i) h e c (q i) b t.0, cells_same packet p (i + 1) h e items cs q b t.1)

pub cells_sampled : (packet : PacketData) (p i : ℕ) (h : List Entry) (e : Entry) (bytes : List ℕ) (items : List ItemData) (cs : List Cell) → ((j : ℕ) → may_set p j e ≡ false) → brought_by (Known p) e ≡ Some bytes →
    CellsTell packet p i h items cs → CellsTell packet p i (h ++ e ∷ []) items (sampled_all packet bytes items cs)
cells_sampled packet p i h e bytes [] [] q b t = t
cells_sampled packet p i h e bytes [] (c ∷ cs) q b t = absurd t
cells_sampled packet p i h e bytes (item ∷ items) [] q b t = absurd t
cells_sampled packet p i h e bytes (item ∷ items) (c ∷ cs) q b t =
    (cell_sampled packet item p i h e c bytes (q i) b t.0, cells_sampled packet p (i + 1) h e bytes items cs q b t.1)

-- the events that are told are those of the entry
pub turns_are : (packet : PacketData) (p i : ℕ) (h : List Entry) (e : Entry) (bytes : List ℕ) (items : List ItemData) (cs : List Cell) → ((j : ℕ) → may_set p j e ≡ false) → brought_by (Known p) e ≡ Some bytes →
    CellsTell packet p i h items cs → turns (length h) p i packet bytes items cs ≡ item_events h e packet p i items
turns_are packet p i h e bytes [] [] q b t = refl
turns_are packet p i h e bytes [] (c ∷ cs) q b t = absurd t
turns_are packet p i h e bytes (item ∷ items) [] q b t = absurd t
turns_are packet p i h e bytes (item ∷ items) (c ∷ cs) q b t =
    let after : (sampled packet bytes item c).state.color ≡ state_after (watched packet item p i) (h ++ e ∷ []) = (cell_sampled packet item p i h e c bytes (q i) b t.0).state.color in
    let before : c.state.color ≡ state_after (watched packet item p i) h = t.0.state.color in
    let rest : turns (length h) p (i + 1) packet bytes items cs ≡ item_events h e packet p (i + 1) items = turns_are packet p (i + 1) h e bytes items cs q b t.1 in
    ap (λ es. as_event (length h) p i (change_from c.state.color (sampled packet bytes item c).state.color) ++ es) rest
    ∙ ap (λ a. as_event (length h) p i (change_from c.state.color a) ++ item_events h e packet p (i + 1) items) after
    ∙ ap (λ a. as_event (length h) p i (change_from a (state_after (watched packet item p i) (h ++ e ∷ []))) ++ item_events h e packet p (i + 1) items) before

-- a row can take bytes
pub cells_fit : (packet : PacketData) (p i : ℕ) (h : List Entry) (items : List ItemData) (cs : List Cell) → length h < 2 ^ 32 - 1 → CellsTell packet p i h items cs → Fit items cs
cells_fit packet p i h [] [] few t = tt
cells_fit packet p i h [] (c ∷ cs) few t = t
cells_fit packet p i h (item ∷ items) [] few t = t
cells_fit packet p i h (item ∷ items) (c ∷ cs) few t = (
  record {
    number = λ sound. subst (λ (s : Setting). ForSome s.limits (λ _. IsTrue (is_number item.kind))) (sym t.0.setting) (limits_of_number (watched packet item p i) h sound);
    run = let r = t.0.run in omega (arith, few, r);
  },
  cells_fit packet p (i + 1) h items cs few t.1,
)

-- the cell of an item
pub cell_of : (packet : PacketData) (p i j : ℕ) (h : List Entry) (items : List ItemData) (cs : List Cell) (item : ItemData) (c : Cell) → slice_get items j ≡ Some item → slice_get cs j ≡ Some c →
    CellsTell packet p i h items cs → CellTells (watched packet item p (i + j)) h c
cell_of packet p i j h [] cs item c x y t = (cc)
cell_of packet p i j h (item' ∷ items) [] item c x y t = (cc)
cell_of packet p i zero h (item' ∷ items) (c' ∷ cs) item c x y t =
    let a : item' ≡ item = cc in
    let b : c' ≡ c = cc in
    subst (λ (n : ℕ). CellTells (watched packet item p n) h c) (omega arith)
    (subst (λ (z : Cell). CellTells (watched packet item p i) h z) b (subst (λ (z : ItemData). CellTells (watched packet z p i) h c') a t.0))
cell_of packet p i (suc j) h (item' ∷ items) (c' ∷ cs) item c x y t =
    subst (λ (n : ℕ). CellTells (watched packet item p n) h c) (omega arith) (cell_of packet p (i + 1) j h items cs item c x y t.1)

-- ---- the loop

pub fit_long : (items : List ItemData) (cs : List Cell) → Fit items cs → length cs ≡ length items
fit_long [] [] f = refl
fit_long [] (c ∷ cs) f = absurd f
fit_long (item ∷ items) [] f = absurd f
fit_long (item ∷ items) (c ∷ cs) f = ap suc (fit_long items cs f.1)

module _ (packet : PacketData) (bytes : List ℕ) (items : List ItemData) (cs : List Cell) (i : ℕ) (d item : ItemData) (c next : Cell)
    (at : ℕ) (p : ℕ) (below : i < length items) (within : i < length cs) (is_item : item ≡ get_or items i d) (is_kept : c ≡ get_or cs i c) where
  items_at : drop i items ≡ item ∷ drop (i + 1) items
  items_at = drop_more items i d below ∙ ap (λ x. x ∷ drop (i + 1) items) (sym is_item)

  cells_at : drop i cs ≡ c ∷ drop (i + 1) cs
  cells_at = drop_more cs i c within ∙ ap (λ x. x ∷ drop (i + 1) cs) (sym is_kept)

  cells_left : drop (i + 1) (set cs i next) ≡ drop (i + 1) cs
  cells_left = drop-set-lt (i + 1) cs i next (omega arith)

  both : Fit (drop i items) (drop i cs) → CanSample item c × Fit (drop (i + 1) items) (drop (i + 1) cs)
  both f = subst (λ (xs : List Cell). Fit (item ∷ drop (i + 1) items) xs) cells_at (subst (λ (xs : List ItemData). Fit xs (drop i cs)) items_at f)

  pub can_sample : Fit (drop i items) (drop i cs) → CanSample item c
  can_sample f = (both f).0

  pub fit_rest : Fit (drop i items) (drop i cs) → Fit (drop (i + 1) items) (drop (i + 1) (set cs i next))
  fit_rest f = subst (λ (xs : List Cell). Fit (drop (i + 1) items) xs) (sym cells_left) (both f).1

  pub cells_step : next ≡ sampled packet bytes item c → take (i + 1) (set cs i next) ++ sampled_all packet bytes (drop (i + 1) items) (drop (i + 1) (set cs i next))
      ≡ take i cs ++ sampled_all packet bytes (drop i items) (drop i cs)
  cells_step is_next = rw (cells_left, take_more_set cs i next within, items_at, cells_at, is_next) (append_assoc (take i cs) (sampled packet bytes item c ∷ []) _)

  pub turns_step : next ≡ sampled packet bytes item c → (done : List LimitsEvent) →
      (done ++ as_event at p i (change_from c.state.color next.state.color)) ++ turns at p (i + 1) packet bytes (drop (i + 1) items) (drop (i + 1) (set cs i next))
      ≡ done ++ turns at p i packet bytes (drop i items) (drop i cs)
  turns_step is_next done = rw (cells_left, items_at, cells_at, is_next) (append_assoc done _ _)
