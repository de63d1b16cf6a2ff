-- The params of set_limits: what they ask, and that their row asks it.
use Rattle.std.proofs.Common.{◌≡◌, ℕ, Bool, true, List, [], ◌∷◌, Option, Some, None, refl, sym, ap, subst, ◌∙◌}
use Rattle.std.specs.Prelude.{option_map}
use Rattle.cts_base.specs.declared.decimal.Decimal.{Decimal}
use Rattle.cts_def.specs.declared.limits.Limits.{Limits}
use Rattle.serde_json.specs.Data.{Data, boolean}
use Rattle.cts_methods.specs.Asking.{Asking, ItemName, NewLimits, sets_limits}
use Rattle.cts_methods.specs.Kinds.{green_first, limits_first, may_be, maybe_first, names_first, new_limits, or_else, pair_first, persistence_in, set_limits, switch_in, text_in}
use Rattle.cts_api_laws.specs.ParamRows.{AreGreen, AreMore, AreNames, IsDecimal, IsLasting, IsSet, IsSetLimits}
use Rattle.cts_api_laws.proofs.Inverting.{and_then_some, and_then_taken, map_some, map_taken, one_said, one_taken, some_is, two_refused}
use Rattle.cts_api_laws.proofs.Params.{Two, names_said, names_short, names_taken, pair_said, pair_short, pair_taken, persistence_said, persistence_taken, switch_said, text_said, text_taken}

-- fewer than four
abbrev pub IsFew : List Data → Type 0
IsFew [] = Unit {0}
IsFew (a ∷ []) = Unit {0}
IsFew (a ∷ (b ∷ [])) = Unit {0}
IsFew (a ∷ (b ∷ (c ∷ []))) = Unit {0}
IsFew (a ∷ (b ∷ (c ∷ (d ∷ ds)))) = ⊥

module _ (new : NewLimits) where
  -- ---- what stands after the persistence, after the set, after green, and after the four limits

  abbrev Switch : List Data → Type 0
  Switch [] = new.enabled ≡ true
  Switch (on ∷ []) = on ≡ boolean new.enabled
  Switch (on ∷ (d ∷ ds)) = ⊥

  abbrev Last : List Data → Type 0
  Last [] = (new.persistence ≡ None) × (new.enabled ≡ true)
  Last (n ∷ ds) = IsLasting n new × Switch ds

  abbrev Sets : List Data → Type 0
  Sets [] = (new.set ≡ None) × (new.persistence ≡ None) × (new.enabled ≡ true)
  Sets (s ∷ ds) = IsSet s new × Last ds

  abbrev Greens : List Data → Type 0
  Greens [] = (new.limits.green ≡ None) × (new.set ≡ None) × (new.persistence ≡ None) × (new.enabled ≡ true)
  Greens (gl ∷ []) = ⊥
  Greens (gl ∷ (gh ∷ ds)) = AreGreen gl gh new × Sets ds

  pub by_count : (ds : List Data) → Greens ds → AreMore ds new
  by_count [] x = x
  by_count (gl ∷ []) x = absurd x
  by_count (gl ∷ (gh ∷ [])) x = (x.0, x.1.0, x.1.1, x.1.2)
  by_count (gl ∷ (gh ∷ (s ∷ []))) x = (x.0, x.1.0, x.1.1.0, x.1.1.1)
  by_count (gl ∷ (gh ∷ (s ∷ (n ∷ [])))) x = (x.0, x.1.0, x.1.1.0, x.1.1.1)
  by_count (gl ∷ (gh ∷ (s ∷ (n ∷ (on ∷ []))))) x = (x.0, x.1.0, x.1.1.0, x.1.1.1)
  by_count (gl ∷ (gh ∷ (s ∷ (n ∷ (on ∷ (d ∷ ds)))))) x = x.1.1.1

  pub one_by_one : (ds : List Data) → AreMore ds new → Greens ds
  one_by_one [] x = x
  one_by_one (gl ∷ []) x = absurd x
  one_by_one (gl ∷ (gh ∷ [])) x = (x.0, (x.1, x.2, x.3))
  one_by_one (gl ∷ (gh ∷ (s ∷ []))) x = (x.0, (x.1, (x.2, x.3)))
  one_by_one (gl ∷ (gh ∷ (s ∷ (n ∷ [])))) x = (x.0, (x.1, (x.2, x.3)))
  one_by_one (gl ∷ (gh ∷ (s ∷ (n ∷ (on ∷ []))))) x = (x.0, (x.1, (x.2, x.3)))
  one_by_one (gl ∷ (gh ∷ (s ∷ (n ∷ (on ∷ (d ∷ ds)))))) x = absurd x

  -- ---- what is read is of the row

  switch_of : (ds : List Data) (o : Option Bool) → may_be switch_in ds ≡ Some o → new.enabled ≡ or_else true o → Switch ds
  switch_of [] o e is = is ∙ ap (or_else true) (sym (some_is None o e))
  switch_of (on ∷ []) o e is = let x = one_said switch_in on o e in switch_said on x.0 x.1 ∙ ap boolean (sym (is ∙ ap (or_else true) (sym x.2)))
  switch_of (on ∷ (d ∷ ds)) o e is = two_refused switch_in on d ds o e

  last_of : (ds : List Data) (n : Option ℕ × List Data) (o : Option Bool) → maybe_first persistence_in ds ≡ Some n → may_be switch_in n.1 ≡ Some o → new.persistence ≡ n.0 → new.enabled ≡ or_else true o → Last ds
  last_of [] n o e f is on =
      let none : (None, []) ≡ n = some_is (None, []) n e in
      (is ∙ ap (λ (x : Option ℕ × List Data). x.0) (sym none), switch_of [] o (subst (λ (x : Option ℕ × List Data). may_be switch_in x.1 ≡ Some o) (sym none) f) on)
  last_of (d ∷ ds) n o e f is on =
      let m = map_some (λ (a : ℕ). (Some a, ds)) (persistence_in d) n e in
      ((m.0, persistence_said d m.0 m.1, is ∙ ap (λ (x : Option ℕ × List Data). x.0) (sym m.2)), switch_of ds o (subst (λ (x : Option ℕ × List Data). may_be switch_in x.1 ≡ Some o) (sym m.2) f) on)

  sets_of : (ds : List Data) (s : Option (List ℕ) × List Data) (n : Option ℕ × List Data) (o : Option Bool) → maybe_first text_in ds ≡ Some s → maybe_first persistence_in s.1 ≡ Some n → may_be switch_in n.1 ≡ Some o
      → new.set ≡ s.0 → new.persistence ≡ n.0 → new.enabled ≡ or_else true o → Sets ds
  sets_of [] s n o e f g set is on =
      let none : (None, []) ≡ s = some_is (None, []) s e in
      let l = last_of [] n o (subst (λ (x : Option (List ℕ) × List Data). maybe_first persistence_in x.1 ≡ Some n) (sym none) f) g is on in (set ∙ ap (λ (x : Option (List ℕ) × List Data). x.0) (sym none), l.0, l.1)
  sets_of (d ∷ ds) s n o e f g set is on =
      let m = map_some (λ (a : List ℕ). (Some a, ds)) (text_in d) s e in
      ((m.0, text_said d m.0 m.1, set ∙ ap (λ (x : Option (List ℕ) × List Data). x.0) (sym m.2)), last_of ds n o (subst (λ (x : Option (List ℕ) × List Data). maybe_first persistence_in x.1 ≡ Some n) (sym m.2) f) g is on)

  abbrev Green : Type 0
  Green = Option (Decimal × Decimal) × List Data

  greens_of : (ds : List Data) (k : Green) (s : Option (List ℕ) × List Data) (n : Option ℕ × List Data) (o : Option Bool) → green_first ds ≡ Some k → maybe_first text_in k.1 ≡ Some s → maybe_first persistence_in s.1 ≡ Some n
      → may_be switch_in n.1 ≡ Some o → new.limits.green ≡ k.0 → new.set ≡ s.0 → new.persistence ≡ n.0 → new.enabled ≡ or_else true o → Greens ds
  greens_of [] k s n o e t f g green set is on =
      let none : (None, []) ≡ k = some_is (None, []) k e in
      let l = sets_of [] s n o (subst (λ (x : Green). maybe_first text_in x.1 ≡ Some s) (sym none) t) f g set is on in (green ∙ ap (λ (x : Green). x.0) (sym none), l.0, l.1, l.2)
  greens_of (gl ∷ []) k s n o e t f g green set is on = let m = map_some (λ (x : Two). (Some x.0, x.1)) (pair_first (gl ∷ [])) k e in pair_short gl m.0 m.1
  greens_of (gl ∷ (gh ∷ ds)) k s n o e t f g green set is on =
      let m = map_some (λ (x : Two). (Some x.0, x.1)) (pair_first (gl ∷ (gh ∷ ds))) k e in
      let p = pair_said gl gh ds m.0 m.1 in
      let more = subst (λ (l : List Data). maybe_first text_in l ≡ Some s) (sym (p.2 ∙ ap (λ (x : Green). x.1) m.2)) t in
      ((m.0.0.0, m.0.0.1, p.0, p.1, green ∙ ap (λ (x : Green). x.0) (sym m.2)), sets_of ds s n o more f g set is on)

  -- ---- what is of the row is read

  switch_is : (ds : List Data) → Switch ds → (o : Option Bool) × (may_be switch_in ds ≡ Some o) × (or_else true o ≡ new.enabled)
  switch_is [] x = (None, refl, sym x)
  switch_is (on ∷ []) x = (Some new.enabled, one_taken switch_in on new.enabled (ap switch_in x), refl)
  switch_is (on ∷ (d ∷ ds)) x = absurd x

  last_is : (ds : List Data) → Last ds → (n : Option ℕ × List Data) × (maybe_first persistence_in ds ≡ Some n) × (n.0 ≡ new.persistence) × Switch n.1
  last_is [] x = ((None, []), refl, sym x.0, x.1)
  last_is (d ∷ ds) x = ((Some x.0.0, ds), map_taken _ (persistence_in d) x.0.0 _ (persistence_taken d x.0.0 x.0.1) refl, sym x.0.2, x.1)

  sets_is : (ds : List Data) → Sets ds → (s : Option (List ℕ) × List Data) × (maybe_first text_in ds ≡ Some s) × (s.0 ≡ new.set) × Last s.1
  sets_is [] x = ((None, []), refl, sym x.0, (x.1, x.2))
  sets_is (d ∷ ds) x = ((Some x.0.0, ds), map_taken _ (text_in d) x.0.0 _ (text_taken d x.0.0 x.0.1) refl, sym x.0.2, x.1)

  greens_is : (ds : List Data) → Greens ds → (k : Green) × (green_first ds ≡ Some k) × (k.0 ≡ new.limits.green) × Sets k.1
  greens_is [] x = ((None, []), refl, sym x.0, (x.1, x.2, x.3))
  greens_is (gl ∷ []) x = absurd x
  greens_is (gl ∷ (gh ∷ ds)) x =
      let low = x.0.0 in
      let high = x.0.1 in ((Some (low, high), ds), map_taken _ (pair_first (gl ∷ (gh ∷ ds))) ((low, high), ds) _ (pair_taken gl gh ds low high x.0.2 x.0.3) refl, sym x.0.4, x.1)

  -- ---- the four limits and what stands after them

  abbrev Limited : Type 0
  Limited = Limits × List Data

  module _ (rl yl yh rh : Data) (more : List Data) where
    abbrev all : List Data
    all = rl ∷ (yl ∷ (yh ∷ (rh ∷ more)))

    abbrev Four : Type 0
    Four = IsDecimal rl new.limits.red_low × IsDecimal yl new.limits.yellow_low × IsDecimal yh new.limits.yellow_high × IsDecimal rh new.limits.red_high

    pub new_said : new_limits all ≡ Some new → Four × AreMore more new
    new_said e =
        let l = and_then_some _ (limits_first all) new e in
        let s = and_then_some _ (maybe_first text_in l.0.1) new l.2 in
        let n = and_then_some _ (maybe_first persistence_in s.0.1) new s.2 in
        let on = map_some _ (may_be switch_in n.0.1) new n.2 in
        let low = and_then_some _ (pair_first all) l.0 l.1 in
        let high = and_then_some _ (pair_first low.0.1) l.0 low.2 in
        let g = map_some _ (green_first high.0.1) l.0 high.2 in
        let first = pair_said rl yl (yh ∷ (rh ∷ more)) low.0 low.1 in
        let second = pair_said yh rh more high.0 (subst (λ (x : List Data). pair_first x ≡ Some high.0) (sym first.2) high.1) in
        let limits : l.0.0 ≡ new.limits = ap (λ (x : NewLimits). x.limits) on.2 in
        let is = ap (λ (x : Limited). x.0) g.2 ∙ limits in
        let green = subst (λ (x : List Data). green_first x ≡ Some g.0) (sym second.2) g.1 in
        let text = subst (λ (x : Limited). maybe_first text_in x.1 ≡ Some s.0) (sym g.2) s.1 in (
          (
            subst (IsDecimal rl) (ap (λ (x : Limits). x.red_low) is) first.0,
            subst (IsDecimal yl) (ap (λ (x : Limits). x.yellow_low) is) first.1,
            subst (IsDecimal yh) (ap (λ (x : Limits). x.yellow_high) is) second.0,
            subst (IsDecimal rh) (ap (λ (x : Limits). x.red_high) is) second.1,
          ),
          by_count more (
              greens_of more g.0 s.0 n.0 on.0 green text n.1 on.1 (sym (ap (λ (x : Limits). x.green) is)) (sym (ap (λ (x : NewLimits). x.set) on.2)) (sym (ap (λ (x : NewLimits). x.persistence) on.2)) (sym (ap (λ (x : NewLimits). x.enabled) on.2))
              ),
        )

    pub new_taken : Four → AreMore more new → new_limits all ≡ Some new
    new_taken (a, b, c, d) x =
        let g = greens_is more (one_by_one more x) in
        let s = sets_is g.0.1 g.3 in
        let n = last_is s.0.1 s.3 in
        let on = switch_is n.0.1 n.3 in
        let limits : Limited = (new.limits, g.0.1) in
        let first = pair_taken rl yl (yh ∷ (rh ∷ more)) new.limits.red_low new.limits.yellow_low a b in
        let second = pair_taken yh rh more new.limits.yellow_high new.limits.red_high c d in
        let four : limits_first all ≡ Some limits =
        and_then_taken _ (pair_first all) ((new.limits.red_low, new.limits.yellow_low), yh ∷ (rh ∷ more)) limits first
        (and_then_taken _ (pair_first (yh ∷ (rh ∷ more))) ((new.limits.yellow_high, new.limits.red_high), more) limits second
        (map_taken _ (green_first more) g.0 limits g.1
        (λ i. (record { red_low = new.limits.red_low; yellow_low = new.limits.yellow_low; yellow_high = new.limits.yellow_high; red_high = new.limits.red_high; green = g.2 i }, g.0.1)))) in
        and_then_taken _ (limits_first all) limits new four
        (and_then_taken _ (maybe_first text_in g.0.1) s.0 new s.1
        (and_then_taken _ (maybe_first persistence_in s.0.1) n.0 new n.1
        (map_taken _ (may_be switch_in n.0.1) on.0 new on.1 (λ i. record { limits = new.limits; set = s.2 i; persistence = n.2 i; enabled = on.2 i }))))

  -- fewer than four limits are none
  pub few_refused : (ds : List Data) → IsFew ds → new_limits ds ≡ Some new → ⊥
  few_refused ds few e =
      let l = and_then_some _ (limits_first ds) new e in
      let low = and_then_some _ (pair_first ds) l.0 l.1 in
      let high = and_then_some _ (pair_first low.0.1) l.0 low.2 in by_count_of ds few low.0 high.0 low.1 high.1 where
        by_count_of : (ds : List Data) → IsFew ds → (low high : Two) → pair_first ds ≡ Some low → pair_first low.1 ≡ Some high → ⊥
        by_count_of [] few low high e f = cc e
        by_count_of (a ∷ []) few low high e f = pair_short a low e
        by_count_of (a ∷ (b ∷ [])) few low high e f = let p = pair_said a b [] low e in let none = subst (λ (x : List Data). pair_first x ≡ Some high) (sym p.2) f in cc none
        by_count_of (a ∷ (b ∷ (c ∷ []))) few low high e f = let p = pair_said a b (c ∷ []) low e in pair_short c high (subst (λ (x : List Data). pair_first x ≡ Some high) (sym p.2) f)
        by_count_of (a ∷ (b ∷ (c ∷ (d ∷ ds)))) few low high e f = few

-- ---- all of them

abbrev Read : List Data → Asking → Type 0
Read ds a = (i : ItemName × List Data) × (names_first ds ≡ Some i) × (option_map (λ (l : NewLimits). sets_limits i.0 l) (new_limits i.1) ≡ Some a)

pub set_limits_said : (ds : List Data) (a : Asking) → set_limits ds ≡ Some a → IsSetLimits ds a
set_limits_said ds a e = by_count_of ds a (and_then_some _ (names_first ds) a e) where
  after : (t p i : Data) (ds : List Data) (a : Asking) → Read (t ∷ (p ∷ (i ∷ ds))) a → (name : ItemName) × (new : NewLimits) × (a ≡ sets_limits name new) × AreNames t p i name × (new_limits ds ≡ Some new)
  after t p i ds a (f, first, e) =
      let n = names_said t p i ds f first in
      let m = map_some (λ (l : NewLimits). sets_limits f.0 l) (new_limits f.1) a e in (f.0, m.0, sym m.2, n.0, ap new_limits n.1 ∙ m.1)

  few_of : (t p i : Data) (ds : List Data) (a : Asking) → IsFew ds → Read (t ∷ (p ∷ (i ∷ ds))) a → ⊥
  few_of t p i ds a few r = let x = after t p i ds a r in few_refused x.1 ds few x.4

  by_count_of : (ds : List Data) (a : Asking) → Read ds a → IsSetLimits ds a
  by_count_of [] a (f, first, e) = names_short [] f tt first
  by_count_of (t ∷ []) a (f, first, e) = names_short (t ∷ []) f tt first
  by_count_of (t ∷ (p ∷ [])) a (f, first, e) = names_short (t ∷ (p ∷ [])) f tt first
  by_count_of (t ∷ (p ∷ (i ∷ []))) a r = few_of t p i [] a tt r
  by_count_of (t ∷ (p ∷ (i ∷ (rl ∷ [])))) a r = few_of t p i (rl ∷ []) a tt r
  by_count_of (t ∷ (p ∷ (i ∷ (rl ∷ (yl ∷ []))))) a r = few_of t p i (rl ∷ (yl ∷ [])) a tt r
  by_count_of (t ∷ (p ∷ (i ∷ (rl ∷ (yl ∷ (yh ∷ [])))))) a r = few_of t p i (rl ∷ (yl ∷ (yh ∷ []))) a tt r
  by_count_of (t ∷ (p ∷ (i ∷ (rl ∷ (yl ∷ (yh ∷ (rh ∷ more))))))) a r =
      let x = after t p i (rl ∷ (yl ∷ (yh ∷ (rh ∷ more)))) a r in
      let l = new_said x.1 rl yl yh rh more x.4 in (x.0, x.1, x.2, x.3, l.0.0, l.0.1, l.0.2, l.0.3, l.1)

pub set_limits_taken : (ds : List Data) (a : Asking) → IsSetLimits ds a → set_limits ds ≡ Some a
set_limits_taken [] a x = absurd x
set_limits_taken (t ∷ []) a x = absurd x
set_limits_taken (t ∷ (p ∷ [])) a x = absurd x
set_limits_taken (t ∷ (p ∷ (i ∷ []))) a x = absurd x
set_limits_taken (t ∷ (p ∷ (i ∷ (rl ∷ [])))) a x = absurd x
set_limits_taken (t ∷ (p ∷ (i ∷ (rl ∷ (yl ∷ []))))) a x = absurd x
set_limits_taken (t ∷ (p ∷ (i ∷ (rl ∷ (yl ∷ (yh ∷ [])))))) a x = absurd x
set_limits_taken (t ∷ (p ∷ (i ∷ (rl ∷ (yl ∷ (yh ∷ (rh ∷ more))))))) a (name, new, is, names, b, c, d, e, x) =
    and_then_taken _ (names_first (t ∷ (p ∷ (i ∷ (rl ∷ (yl ∷ (yh ∷ (rh ∷ more)))))))) (name, rl ∷ (yl ∷ (yh ∷ (rh ∷ more)))) a (names_taken t p i (rl ∷ (yl ∷ (yh ∷ (rh ∷ more)))) name names)
    (map_taken _ (new_limits (rl ∷ (yl ∷ (yh ∷ (rh ∷ more))))) new a (new_taken new rl yl yh rh more (b, c, d, e) x) (sym is))
