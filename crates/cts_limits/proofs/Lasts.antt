-- The newest samples first, and the last ones in order.
use Rattle.std.proofs.Common.{◌≡◌, ◌≢◌, ◌∷◌, [], ◌++◌, ℕ, ◌+◌, ◌-◌, ◌≤◌, Bool, true, false, nat_le, ◌&&◌, List, length, drop, take, reverse, refl, sym, ◌∙◌, ap, arith, IsTrue, if◌then◌else◌, inl, inr}
use Rattle.std.specs.List.{list_all}
use Rattle.std.proofs.Math.Seq.{take-append_seam}
use Rattle.std.proofs.lemmas.Bool.{and_from, and_parts, cases_Bool}
use Rattle.std.proofs.lemmas.Grind.{common_steps}
use Rattle.std.proofs.lemmas.List.{reverse-append, length-reverse, length-drop, take-append-drop}
use Rattle.std.proofs.lemmas.List.Folds.{list_all-append}
use Rattle.cts_def.specs.declared.color.Color.{Color}
use Rattle.cts_def.specs.declared.color.Color.TheVariants.{Stale}
use Rattle.cts_limits.specs.Colors.{number_of}
use Rattle.cts_limits.specs.Laws.{HaveLastOthers, StatesAreLeft, last_samples}
use Rattle.cts_limits.specs.States.{Sample, differs_from, last_differ, same_color, state_back, state_next, state_of}
use Rattle.cts_limits.proofs.Runs.{back_more, stale_only, state_more}

last_reversed : (n : ℕ) (s : List Sample) → n ≤ length s → take n (reverse s) ≡ reverse (last_samples n s)
last_reversed n s h =
    let k : ℕ = length s - n in
    let e : reverse s ≡ reverse (drop k s) ++ reverse (take k s) = ap reverse (sym (take-append-drop k s)) ∙ reverse-append (take k s) (drop k s) in
    let left : length (drop k s) ≡ length s - k = length-drop k s in
    let len : length (reverse (drop k s)) ≡ n = length-reverse (drop k s) ∙ left ∙ omega arith in
    ap (take n) e ∙ ap (λ (m : ℕ). take m (reverse (drop k s) ++ reverse (take k s))) (sym len) ∙ take-append_seam (reverse (drop k s)) (reverse (take k s))

all_reversed : (p : Sample → Bool) (s : List Sample) → list_all p (reverse s) ≡ list_all p s
all_reversed p [] = refl
all_reversed p (x ∷ s) =
    let more = all_reversed p s in
    ap (list_all p) (reverse-append (x ∷ []) s) ∙ list_all-append p (reverse s) (x ∷ []) ∙ (grind (arith, common_steps))

-- the newest ones differ where the last ones do
newest_are_last : (c : Color) (n : ℕ) (s : List Sample) → n ≤ length s → list_all (differs_from c) (take n (reverse s)) ≡ list_all (differs_from c) (last_samples n s)
newest_are_last c n s h = ap (list_all (differs_from c)) (last_reversed n s h) ∙ all_reversed (differs_from c) (last_samples n s)

others_differ : (c : Color) (n : ℕ) (s : List Sample) → HaveLastOthers c n s → last_differ c n (reverse s) ≡ true
others_differ c n s h =
    let few : nat_le n (length (reverse s)) ≡ true = rw (length-reverse s) (grind (arith, common_steps, h.0)) in
    and_from (nat_le n (length (reverse s))) _ few (newest_are_last c n s h.0 ∙ h.1)

differ_others : (c : Color) (n : ℕ) (s : List Sample) → last_differ c n (reverse s) ≡ true → HaveLastOthers c n s
differ_others c n s h =
    let parts = and_parts (nat_le n (length (reverse s))) (list_all (differs_from c) (take n (reverse s))) h in
    let some : nat_le n (length s) ≡ true = ap (nat_le n) (sym (length-reverse s)) ∙ parts.0 in
    let few : n ≤ length s = grind (arith, common_steps) in
    (few, sym (newest_are_last c n s few) ∙ parts.1)

chosen : (a : Bool) (x c : Color) → (if a then x else if true then x else c) ≡ x
chosen true x c = refl
chosen false x c = refl

next_changes : (c : Color) (x : Sample) (xs : List Sample) → last_differ c x.persistence xs ≡ true → state_next c x xs ≡ x.color
next_changes c x xs h = rw h (chosen (same_color c Stale) x.color c)

next_stays : (c : Color) (x : Sample) (xs : List Sample) → same_color c Stale ≡ false → last_differ c x.persistence xs ≡ false → state_next c x xs ≡ c
next_stays c x xs d h = rw (d, h) refl

not_stale : (c : Color) → c ≢ Stale → same_color c Stale ≡ false
not_stale c h = elim (cases_Bool (same_color c Stale)) [
  | inl e ↦ let n : number_of c ≡ 8 = grind (arith, common_steps) in absurd (h (stale_only c n))
  | inr e ↦ e
]

not_last : (c : Color) (n : ℕ) (s : List Sample) → (¬ HaveLastOthers c n s) → last_differ c n (reverse s) ≡ false
not_last c n s h = elim (cases_Bool (last_differ c n (reverse s))) [
  | inl e ↦ absurd (h (differ_others c n s e))
  | inr e ↦ e
]

newest : (s : List Sample) (x : Sample) → state_of (s ++ x ∷ []) ≡ state_next (state_of s) x (reverse (s ++ x ∷ []))
newest s x = state_more s x ∙ ap (state_next (state_of s) x) (sym (back_more s x))

none_left : state_of [] ≡ Stale
unfolding state_of state_back
none_left = refl

pub states_are_left : StatesAreLeft
states_are_left = record {
  none = none_left;
  first = λ s x e. newest s x ∙ ap (λ (c : Color). state_next c x (reverse (s ++ x ∷ []))) e;
  changes = λ s x h. newest s x ∙ next_changes (state_of s) x (reverse (s ++ x ∷ [])) (others_differ (state_of s) x.persistence (s ++ x ∷ []) h);
  stays = λ s x d h. newest s x ∙ next_stays (state_of s) x (reverse (s ++ x ∷ [])) (not_stale (state_of s) d) (not_last (state_of s) x.persistence (s ++ x ∷ []) h);
}
