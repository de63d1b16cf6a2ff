-- The leftmost place of a pattern is after its leftmost occurrence.
use Rattle.std.proofs.Common.{option_map, ◌≡◌, ◌≤◌, ℕ, suc, ◌+◌, Bool, true, false, cond, List, [], ◌∷◌, ◌++◌, length, take, drop, refl, sym, ◌∙◌, ap, append_assoc, arith, Some, None, Option, inl, inr}
use Rattle.std.proofs.lemmas.List.{append-nil, take-append-drop, take_at}
use Rattle.std.proofs.Math.Seq.{take-append-add}
use Rattle.cts_framing.specs.Framing.{BeginsWith}
use Rattle.cts_framing.specs.Patterns.{begins, first_place}
use Rattle.cts_framing.specs.SyncPatterns.{OccursBehind, IsLeftmost}
use Rattle.cts_framing.proofs.Fronts.{begins_tells, begins_front, fits_nil, first_by, first_zero}

pub begins_test : (s u : List ℕ) → BeginsWith s u → begins s u ≡ true
begins_test s u h = ap (begins s) h.1 ∙ begins_front s h.0

-- an occurrence after a first byte is one in what follows it
occurs_after : (t u other : List ℕ) (x y : ℕ) → OccursBehind t (x ∷ u) (y ∷ other) → OccursBehind t u other
occurs_after t u other x y o =
    let tail : u ≡ other ++ (t ++ o.0) = let e = o.1 in cc in
    (o.0, tail)

pub record FirstTells (t u : List ℕ) (k : ℕ) : Type 0 where
  pub before : List ℕ
  pub length_is : length before ≡ k
  pub leftmost : IsLeftmost t u before

at_first : (t u : List ℕ) (k : ℕ) → begins t u ≡ true → k ≡ 0 → FirstTells t u k
at_first t u k h e = record { before = []; length_is = sym e; leftmost = record { occurs = begins_tells t u h; first = λ other o. omega arith } }

not_first : (t u other : List ℕ) (x n : ℕ) → begins t (x ∷ u) ≡ false → ((rest : List ℕ) → OccursBehind t u rest → n ≤ length rest) → OccursBehind t (x ∷ u) other → suc n ≤ length other
not_first t u [] x n h far o = let yes = begins_test t (x ∷ u) o in let never : true ≡ false = sym yes ∙ h in absurd (cc)
not_first t u (y ∷ other) x n h far o = omega (arith, far other (occurs_after t u other x y o))

later : (t u : List ℕ) (x j k : ℕ) → begins t (x ∷ u) ≡ false → FirstTells t u j → k ≡ suc j → FirstTells t (x ∷ u) k
later t u x j k h f e = record {
  before = x ∷ f.before;
  length_is = omega (arith, f.length_is, e);
  leftmost = record {
    occurs = (f.leftmost.occurs.0, ap (λ v. x ∷ v) f.leftmost.occurs.1);
    first = λ other o. not_first t u other x (length f.before) h f.leftmost.first o;
  };
}

pub first_tells : (t u : List ℕ) (k : ℕ) → first_place t u ≡ Some k → FirstTells t u k
first_tells t [] k h = let b = fits_nil t k h in at_first t [] k b.0 b.1
first_tells t (x ∷ u) k h = elim (first_by (begins t (x ∷ u)) (first_place t u) k h) [
  | inl a ↦ at_first t (x ∷ u) k a.0 a.1
  | inr b ↦ later t u x b.1.0 k b.0 (first_tells t u b.1.0 b.1.1) b.1.2
]

not_here : (t u before : List ℕ) (y : ℕ) (b : Bool) → begins t u ≡ b → IsLeftmost t u (y ∷ before) → b ≡ false
not_here t u before y true h m = absurd (omega (arith, m.first [] (begins_tells t u h)))
not_here t u before y false h m = refl

pub first_test : (t u before : List ℕ) → IsLeftmost t u before → first_place t u ≡ Some (length before)
first_test t u [] m = first_zero t u (begins_test t u m.occurs)
first_test t [] (y ∷ before) m = let e = m.occurs.1 in cc
first_test t (x ∷ u) (y ∷ before) m =
    let here : begins t (x ∷ u) ≡ false = not_here t (x ∷ u) before y (begins t (x ∷ u)) refl m in
    let tail : IsLeftmost t u before = record {
      occurs = occurs_after t u before x y m.occurs;
      first = λ other o. omega (arith, m.first (x ∷ other) (o.0, ap (λ v. x ∷ v) o.1));
    } in
    rw (here, first_test t u before tail) refl

none_by : (b : Bool) (o : Option ℕ) → cond b (Some 0) (option_map suc o) ≡ None → o ≡ None
none_by true o h = cc
none_by false None h = refl
none_by false (Some k) h = cc

some_none : (k : ℕ) → Some k ≡ None → ⊥
some_none k h = cc

-- where a pattern has no place it does not occur
pub first_none : (t u : List ℕ) → first_place t u ≡ None → (before : List ℕ) → OccursBehind t u before → ⊥
first_none t u h [] o = some_none 0 (sym (first_zero t u (begins_test t u o)) ∙ h)
first_none t [] h (y ∷ before) o = let e : [] ≡ y ∷ (before ++ (t ++ o.0)) = o.1 in absurd (cc)
first_none t (x ∷ u) h (y ∷ before) o = first_none t u (none_by (begins t (x ∷ u)) (first_place t u) h) before (occurs_after t u before x y o)

-- what stands leftmost stands leftmost in the bytes up to its end
pub first_cut : (t u : List ℕ) (k : ℕ) → first_place t u ≡ Some k → first_place t (take (k + length t) u) ≡ Some k
first_cut t u k h =
    let f = first_tells t u k h in
    let before = f.before in
    let rest = f.leftmost.occurs.0 in
    let front : take (k + length t) u ≡ before ++ t =
    ap (λ n. take (n + length t) u) (sym f.length_is)
    ∙ (ap (take (length before + length t)) f.leftmost.occurs.1
    ∙ (take-append-add before (t ++ rest) (length t) ∙ ap (λ v. before ++ v) (take_at t rest (length t) refl))) in
    let whole : u ≡ take (k + length t) u ++ drop (k + length t) u = sym (take-append-drop (k + length t) u) in
    let leftmost : IsLeftmost t (take (k + length t) u) before = record {
      occurs = ([], front ∙ ap (λ v. before ++ v) (sym (append-nil t)));
      first = λ other o. f.leftmost.first other (
        o.0 ++ drop (k + length t) u,
        whole ∙ (ap (λ v. v ++ drop (k + length t) u) o.1 ∙ (append_assoc other (t ++ o.0) (drop (k + length t) u) ∙ ap (λ v. other ++ v) (append_assoc t o.0 (drop (k + length t) u)))),
      );
    } in
    first_test t (take (k + length t) u) before leftmost ∙ ap Some f.length_is
