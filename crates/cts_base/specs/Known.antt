-- Sets of keys, seen as the list of keys that were put into them.
use Rattle.std.specs.Prelude.{◌≡◌, ℕ, Bool, List}
use Rattle.std.specs.Cmp.Lexicographic.{slice_cmp}
use Rattle.std.specs.List.{list_any}
use Rattle.std.specs.Ordering.{is_eq, nat_cmp, ordering_then}
use Rattle.std.specs.BTreeSet.{BTreeSet, contains}
use Rattle.std.specs.declared.cmp.Ordering.{Ordering}

-- whether one of the keys ties with q
abbrev pub is_known : {K : Type 0} → (K → K → Ordering) → List K → K → Bool
is_known R ks q = list_any (λ k. is_eq (R q k)) ks

-- The set has exactly these keys, in whatever order and however often they stand in the list.
abbrev pub Knows : {K : Type 0} → (K → K → Ordering) → BTreeSet K → List K → Type 0
Knows {K} R s ks = (q : K) → contains R s q ≡ is_known R ks q

-- the order of pairs of bytes
abbrev pub pair_cmp : List ℕ × List ℕ → List ℕ × List ℕ → Ordering
pair_cmp a b = ordering_then (slice_cmp nat_cmp a.0 b.0) (slice_cmp nat_cmp a.1 b.1)
