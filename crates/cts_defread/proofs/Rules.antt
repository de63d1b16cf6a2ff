-- Details that fit an item keep its rules.
use Rattle.std.proofs.Common.{◌≡◌, ℕ, ℤ, ◌≤◌, Bool, true, false, not, ◌||◌, ◌&&◌, ◌==◌, List, [], ◌∷◌, ◌++◌, map, length, Option, Some, None, Result, Ok, Err, OnOk, refl, sym, ◌∙◌, subst, arith}
use Rattle.std.specs.Prelude.{codes, is_some, unsigned_abs, OnErr}
use Rattle.std.specs.List.{list_any, list_all, IsDistinct}
use Rattle.std.specs.Ordering.{int_eq}
use Rattle.std.proofs.lemmas.Bool.{and_from, or_parts, or_from, or_left, not_from_false, not-true, leb-false}
use Rattle.std.proofs.lemmas.Cmp.{int_eq_equiv, nat_list_eq_equiv}
use Rattle.std.proofs.lemmas.List.{map-append, length-append}
use Rattle.std.proofs.lemmas.Map.Keys.{IsDistinct-push}
use Rattle.cts_base.specs.declared.decimal.Decimal.{Decimal}
use Rattle.cts_def.specs.declared.conversion.Conversion.{Conversion}
use Rattle.cts_def.specs.declared.conversion.Conversion.TheVariants.{Plain, Poly, Segments}
use Rattle.cts_def.specs.declared.conversion.Segment.{Segment}
use Rattle.cts_def.specs.declared.limits.Limits.{Limits}
use Rattle.cts_def.specs.declared.limits_setup.LimitsSetup.{LimitsSetup}
use Rattle.cts_def.specs.declared.state_def.StateDef.{StateDef}
use Rattle.cts_def.specs.Readings.{is_format}
use Rattle.cts_def.specs.Items.{ItemData, IsSoundItem, HasSoundLimits, may_have_limits, IsSoundConversion, begins_with_default, are_in_order, has_coefficients, is_polynomial_of, is_sound_state, is_too_large, has_color, is_same, sets_in}
use Rattle.cts_def.specs.Spans.{is_number}
use Rattle.cts_defstatement.specs.declared.details.Detail.{Detail}
use Rattle.cts_defstatement.specs.declared.details.Detail.TheVariants as detail
use Rattle.cts_defstatement.specs.declared.details.LimitsLine.{LimitsLine}
use Rattle.cts_defread.specs.Causes.{is_text, has_limits, has_state_colors, has_no_limits, has_all_segments, has_bound, is_large, is_segmented, is_poly}
use Rattle.cts_defread.specs.Sound.{Fits}
use Rattle.cts_defread.specs.Standing.{set_limits}
use Rattle.cts_defread.specs.Steps.{add_limits, add_segment, change_item}
use Rattle.cts_defread.proofs.Lists.{any_more, all_more, any_map}

-- ---- tests

pub left_false : (a b : Bool) → a || b ≡ false → a ≡ false
left_false a b e = (or_parts a b e).0

pub right_false : (a b : Bool) → a || b ≡ false → b ≡ false
right_false a b e = (or_parts a b e).1

pub from_not : (b : Bool) → not b ≡ false → b ≡ true
from_not true e = refl
from_not false e = absurd cc

pub left_true : (a b : Bool) → a && b ≡ true → a ≡ true
left_true true b e = refl
left_true false b e = e

pub right_true : (a b : Bool) → a && b ≡ true → b ≡ true
right_true true b e = e
right_true false b e = absurd cc

pub not_both : (a b : Bool) → a && b ≡ false → a ≡ true → b ≡ false
not_both true b e h = e
not_both false b e h = absurd cc

pub or_right : (a b : Bool) → b ≡ true → a || b ≡ true
or_right true b e = refl
or_right false b e = e

-- ---- states

states_fit : (i : ItemData) (s : StateDef) (o : Option LimitsSetup) → has_color s && is_some o ≡ false → HasSoundLimits i o → HasSoundLimits (change_item (detail.State s) i) o
states_fit i s None e h = tt
states_fit i s (Some setup) e h =
    let colorless : has_color s ≡ false = and_some (has_color s) e in
    let none : list_any has_color i.states ≡ false = not-true (list_any has_color i.states) (right_true (is_number i.kind) (not (list_any has_color i.states)) h.0) in (
      and_from (is_number i.kind) (not (list_any has_color (i.states ++ s ∷ []))) (left_true (is_number i.kind) (not (list_any has_color i.states)) h.0)
          (not_from_false (list_any has_color (i.states ++ s ∷ [])) (any_more has_color i.states s ∙ or_from (list_any has_color i.states) (has_color s) none colorless)),
      h.1,
    )
  where
    and_some : (b : Bool) → b && true ≡ false → b ≡ false
    and_some true e = e
    and_some false e = e

keeps_state : (s : StateDef) (i : ItemData) → IsSoundItem i → Fits i (detail.State s) → IsSoundItem (change_item (detail.State s) i)
keeps_state s i h fits =
    let number : is_number i.kind ≡ true = from_not (is_number i.kind) (left_false (is_text i) (has_color s && has_limits i) fits.allowed) in
    let names : List (List ℕ) = map (λ (t : StateDef). t.name) i.states in
    let few : length i.states ≤ 255 = omega (arith, leb-false 256 (length i.states) fits.few) in
    record {
      placed = h.placed;
      id = h.id;
      preset = h.preset;
      numbers_alone_have_states = or_left (is_number i.kind) (length (i.states ++ s ∷ []) == 0) number;
      states =
          subst (λ (ns : List (List ℕ)). IsDistinct is_same ns) (sym (map-append (λ (t : StateDef). t.name) i.states (s ∷ [])))
          (IsDistinct-push nat_list_eq_equiv names s.name h.states (any_map (is_same s.name) (λ (t : StateDef). t.name) i.states ∙ fits.single));
      sound_states = all_more is_sound_state i.states s ∙ and_from (list_all is_sound_state i.states) (is_sound_state s) h.sound_states fits.lasting;
      few_states = omega (arith, length-append i.states (s ∷ []), few);
      conversion = h.conversion;
      limits = states_fit i s i.limits (right_false (is_text i) (has_color s && has_limits i) fits.allowed) h.limits;
      format = h.format;
    }

-- ---- limits

begins_more : (sets : List (List ℕ × Limits)) (s : List ℕ × Limits) → begins_with_default sets ≡ true → begins_with_default (sets ++ s ∷ []) ≡ true
begins_more [] s e = absurd cc
begins_more (t ∷ sets) s e = e

limits_fit : (i : ItemData) (l : LimitsLine) (o : Option LimitsSetup) → may_have_limits i ≡ true → are_in_order l.limits ≡ true
    → (o ≡ None → is_same l.set (codes "DEFAULT") ≡ true) → list_any (λ (s : List ℕ × Limits). is_same l.set s.0) (sets_in o) ≡ false → 1 ≤ l.persistence
    → HasSoundLimits i o → HasSoundLimits (change_item (detail.Limits l) i) (add_limits l o)
unfolding IsDistinct
limits_fit i l None may ordered default single lasting h = (
  may,
  record {
    begin = default refl;
    ordered = and_from (are_in_order l.limits) true ordered refl;
    distinct = IsDistinct-push nat_list_eq_equiv [] l.set tt refl;
    some = lasting;
  },
)
limits_fit i l (Some setup) may ordered default single lasting h = (
  may,
  record {
    begin = begins_more setup.sets (set_limits l) h.1.begin;
    ordered =
        all_more (λ (s : List ℕ × Limits). are_in_order s.1) setup.sets (set_limits l)
        ∙ and_from (list_all (λ (s : List ℕ × Limits). are_in_order s.1) setup.sets) (are_in_order l.limits) h.1.ordered ordered;
    distinct =
        subst (λ (ns : List (List ℕ)). IsDistinct is_same ns) (sym (map-append (λ (s : List ℕ × Limits). s.0) setup.sets (set_limits l ∷ [])))
        (IsDistinct-push nat_list_eq_equiv (map (λ (s : List ℕ × Limits). s.0) setup.sets) l.set h.1.distinct
        (any_map (is_same l.set) (λ (s : List ℕ × Limits). s.0) setup.sets ∙ single));
    some = h.1.some;
  },
)

none_limits : (i : ItemData) → i.limits ≡ None → has_no_limits i ≡ true
none_limits i e = rw e refl

keeps_limits : (l : LimitsLine) (i : ItemData) → IsSoundItem i → Fits i (detail.Limits l) → IsSoundItem (change_item (detail.Limits l) i)
keeps_limits l i h fits =
    let number : is_number i.kind ≡ true = from_not (is_number i.kind) (left_false (is_text i) (has_state_colors i) fits.allowed) in
    let colorless : has_state_colors i ≡ false = right_false (is_text i) (has_state_colors i) fits.allowed in
    let in_order : are_in_order l.limits ≡ true = from_not (are_in_order l.limits) (left_false (not (are_in_order l.limits)) (has_no_limits i && not (is_same l.set (codes "DEFAULT"))) fits.ordered) in
    let default : has_no_limits i && not (is_same l.set (codes "DEFAULT")) ≡ false = right_false (not (are_in_order l.limits)) (has_no_limits i && not (is_same l.set (codes "DEFAULT"))) fits.ordered in
    record {
      placed = h.placed;
      id = h.id;
      preset = h.preset;
      numbers_alone_have_states = h.numbers_alone_have_states;
      states = h.states;
      sound_states = h.sound_states;
      few_states = h.few_states;
      conversion = h.conversion;
      limits =
          limits_fit i l i.limits (and_from (is_number i.kind) (not (has_state_colors i)) number (not_from_false (has_state_colors i) colorless)) in_order
          (λ none. from_not (is_same l.set (codes "DEFAULT")) (not_both (has_no_limits i) (not (is_same l.set (codes "DEFAULT"))) default (none_limits i none)))
          fits.single fits.lasting h.limits;
      format = h.format;
    }

-- ---- conversions

is_small : (i : ItemData) (coefficients : List Decimal) → is_number i.kind ≡ true → is_large coefficients i ≡ false → not (is_too_large (unsigned_abs i.size) coefficients) ≡ true
is_small i coefficients number small = not_from_false (is_too_large (unsigned_abs i.size) coefficients) (not_both (is_number i.kind) (is_too_large (unsigned_abs i.size) coefficients) small number)

keeps_poly : (coefficients : List Decimal) (i : ItemData) → IsSoundItem i → Fits i (detail.Poly coefficients) → IsSoundItem (change_item (detail.Poly coefficients) i)
keeps_poly coefficients i h fits =
    let number : is_number i.kind ≡ true = from_not (is_number i.kind) (left_false (is_text i) (is_segmented i.conversion) fits.allowed) in
    record {
      placed = h.placed;
      id = h.id;
      preset = h.preset;
      numbers_alone_have_states = h.numbers_alone_have_states;
      states = h.states;
      sound_states = h.sound_states;
      few_states = h.few_states;
      conversion =
          and_from (is_number i.kind) (is_polynomial_of i.size coefficients) number
          (and_from (has_coefficients coefficients) (not (is_too_large (unsigned_abs i.size) coefficients)) fits.lasting (is_small i coefficients number fits.small));
      limits = h.limits;
      format = h.format;
    }

segments_fit : (i : ItemData) (s : Segment) (c : Conversion) → is_number i.kind ≡ true → is_polynomial_of i.size s.coefficients ≡ true → has_all_segments (record i { conversion = c }) ≡ false
    → has_bound s.bound (record i { conversion = c }) ≡ false → IsSoundConversion i.kind i.size c → IsSoundConversion i.kind i.size (add_segment s c)
unfolding IsDistinct
segments_fit i s Plain number small few single h = (
  number,
  record {
    some = omega arith;
    few = omega arith;
    distinct = IsDistinct-push int_eq_equiv [] s.bound.parts tt refl;
    polynomials = and_from (is_polynomial_of i.size s.coefficients) true small refl;
  },
)
segments_fit i s (Poly coefficients) number small few single h = h
segments_fit i s (Segments segments) number small few single h =
    let parts : List ℤ = map (λ (t : Segment). t.bound.parts) segments in
    let count : length segments ≤ 15 = omega (arith, leb-false 16 (length segments) few) in (
      number,
      record {
        some = omega (arith, length-append segments (s ∷ []));
        few = omega (arith, length-append segments (s ∷ []), count);
        distinct =
            subst (λ (zs : List ℤ). IsDistinct int_eq zs) (sym (map-append (λ (t : Segment). t.bound.parts) segments (s ∷ [])))
            (IsDistinct-push int_eq_equiv parts s.bound.parts h.1.distinct (any_map (int_eq s.bound.parts) (λ (t : Segment). t.bound.parts) segments ∙ single));
        polynomials =
            all_more (λ (t : Segment). is_polynomial_of i.size t.coefficients) segments s
            ∙ and_from (list_all (λ (t : Segment). is_polynomial_of i.size t.coefficients) segments) (is_polynomial_of i.size s.coefficients) h.1.polynomials small;
      },
    )

keeps_segment : (s : Segment) (i : ItemData) → IsSoundItem i → Fits i (detail.Segment s) → IsSoundItem (change_item (detail.Segment s) i)
keeps_segment s i h fits =
    let number : is_number i.kind ≡ true = from_not (is_number i.kind) (left_false (is_text i) (is_poly i.conversion) fits.allowed) in
    record {
      placed = h.placed;
      id = h.id;
      preset = h.preset;
      numbers_alone_have_states = h.numbers_alone_have_states;
      states = h.states;
      sound_states = h.sound_states;
      few_states = h.few_states;
      conversion =
          segments_fit i s i.conversion number
          (and_from (has_coefficients s.coefficients) (not (is_too_large (unsigned_abs i.size) s.coefficients)) fits.lasting (is_small i s.coefficients number fits.small))
          fits.few fits.single h.conversion;
      limits = h.limits;
      format = h.format;
    }

-- ---- all details

pub keeps_rules : (d : Detail) (i : ItemData) → IsSoundItem i → Fits i d → IsSoundItem (change_item d i)
keeps_rules (detail.State s) i h fits = keeps_state s i h fits
keeps_rules (detail.Limits l) i h fits = keeps_limits l i h fits
keeps_rules (detail.Poly coefficients) i h fits = keeps_poly coefficients i h fits
keeps_rules (detail.Segment s) i h fits = keeps_segment s i h fits
keeps_rules (detail.Units full short) i h fits = record {
  placed = h.placed;
  id = h.id;
  preset = h.preset;
  numbers_alone_have_states = h.numbers_alone_have_states;
  states = h.states;
  sound_states = h.sound_states;
  few_states = h.few_states;
  conversion = h.conversion;
  limits = h.limits;
  format = h.format;
}
keeps_rules (detail.Format text) i h fits = record {
  placed = h.placed;
  id = h.id;
  preset = h.preset;
  numbers_alone_have_states = h.numbers_alone_have_states;
  states = h.states;
  sound_states = h.sound_states;
  few_states = h.few_states;
  conversion = h.conversion;
  limits = h.limits;
  format = from_not (is_format text) fits.formed;
}
keeps_rules (detail.Overflow o) i h fits = record {
  placed = h.placed;
  id = h.id;
  preset = h.preset;
  numbers_alone_have_states = h.numbers_alone_have_states;
  states = h.states;
  sound_states = h.sound_states;
  few_states = h.few_states;
  conversion = h.conversion;
  limits = h.limits;
  format = h.format;
}
keeps_rules detail.Required i h fits = record {
  placed = h.placed;
  id = h.id;
  preset = h.preset;
  numbers_alone_have_states = h.numbers_alone_have_states;
  states = h.states;
  sound_states = h.sound_states;
  few_states = h.few_states;
  conversion = h.conversion;
  limits = h.limits;
  format = h.format;
}

-- ---- an item whose field was changed

fits_inside : (d : Detail) (inside i : ItemData) → inside ≡ i → Fits i d → Fits inside d
fits_inside d inside i same fits = subst (λ (j : ItemData). Fits j d) (sym same) fits

-- what was changed, or left as it was where no memory was found
either : {X E A B C : Type 0} (r : Result X E) → (A → C) → (B → C) → OnOk r A → OnErr r B → C
either (Ok x) f g a b = f a
either (Err e) f g a b = g b

pub state_kept : {X E : Type 0} (s : StateDef) (inside i : ItemData) (states : List StateDef) (r : Result X E) → inside ≡ i → IsSoundItem inside → Fits i (detail.State s)
    → OnOk r (states ≡ inside.states ++ s ∷ []) → OnErr r (states ≡ inside.states) → IsSoundItem (record inside { states = states })
state_kept s inside i states r same h fits pushed unchanged =
    let kept : List StateDef → Type 0 = λ ss. IsSoundItem (record inside { states = ss }) in
    either r (λ e. subst kept (sym e) (keeps_rules (detail.State s) inside h (fits_inside (detail.State s) inside i same fits))) (λ e. subst kept (sym e) h) pushed unchanged

pub limits_kept : {X E : Type 0} (l : LimitsLine) (inside i : ItemData) (limits : Option LimitsSetup) (r : Result X E) → inside ≡ i → IsSoundItem inside → Fits i (detail.Limits l)
    → OnOk r (limits ≡ add_limits l inside.limits) → OnErr r (limits ≡ inside.limits) → IsSoundItem (record inside { limits = limits })
limits_kept l inside i limits r same h fits added unchanged =
    let kept : Option LimitsSetup → Type 0 = λ o. IsSoundItem (record inside { limits = o }) in
    either r (λ e. subst kept (sym e) (keeps_rules (detail.Limits l) inside h (fits_inside (detail.Limits l) inside i same fits))) (λ e. subst kept (sym e) h) added unchanged

pub segment_kept : {X E : Type 0} (s : Segment) (inside i : ItemData) (conversion : Conversion) (r : Result X E) → inside ≡ i → IsSoundItem inside → Fits i (detail.Segment s)
    → OnOk r (conversion ≡ add_segment s inside.conversion) → OnErr r (conversion ≡ inside.conversion) → IsSoundItem (record inside { conversion = conversion })
segment_kept s inside i conversion r same h fits added unchanged =
    let kept : Conversion → Type 0 = λ c. IsSoundItem (record inside { conversion = c }) in
    either r (λ e. subst kept (sym e) (keeps_rules (detail.Segment s) inside h (fits_inside (detail.Segment s) inside i same fits))) (λ e. subst kept (sym e) h) added unchanged
