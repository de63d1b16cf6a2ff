-- How groups go on, entry by entry.
use Rattle.std.proofs.Common.{◌≡◌, ℕ, ◌+◌, Bool, true, false, List, [], ◌∷◌, ◌++◌, refl, sym, ◌∙◌, ap, subst, arith, append_assoc, append-nil, Option, None}
use Rattle.std.specs.Prelude.{map}
use Rattle.std.specs.List.{flat_map}
use Rattle.std.proofs.lemmas.List.Sums.{sum_by_push}
use Rattle.cts_log.specs.Files.{log_head_len}
use Rattle.cts_log.specs.Cycling.{begins_part}
use Rattle.cts_log_parts.specs.Grouping.{BeginsParts, StartsWith, before, grouped, joined, last_of, part_size, size_after}

module _ {X : Type 0} where
  pub before_before : (a b : List X) (xss : List (List X)) → before a (before b xss) ≡ before (a ++ b) xss
  before_before a b [] = refl
  before_before a b (x ∷ xss) = ap (λ l. l ∷ xss) (sym (append_assoc a b x))

  joined_before : (a : List X) (xss yss : List (List X)) → before a (joined xss yss) ≡ joined (before a xss) yss
  joined_before a [] yss = refl
  joined_before a (x ∷ []) yss = before_before a x yss
  joined_before a (x ∷ z ∷ xss) yss = refl

  joined_new : (a : List X) (xss yss : List (List X)) → [] ∷ joined (before a xss) yss ≡ joined ([] ∷ before a xss) yss
  joined_new a [] yss = refl
  joined_new a (x ∷ xss) yss = refl

  flat_before : (a : List X) (xss : List (List X)) → flat_map (λ g. g) (before a xss) ≡ a ++ flat_map (λ g. g) xss
  flat_before a [] = refl
  flat_before a (x ∷ xss) = append_assoc a x (flat_map (λ g. g) xss)

  last_after : (p a : List X) (xss : List (List X)) → last_of (p ∷ before a xss) ≡ last_of (before a xss)
  last_after p a [] = refl
  last_after p a (x ∷ xss) = refl

  pub starts_same : (xs : List X) → StartsWith xs xs
  starts_same xs = ([], sym (append-nil xs))

  pub starts_then : (a b c : List X) → StartsWith a b → StartsWith b c → StartsWith a c
  starts_then a b c x y = (y.0 ++ x.0, x.1 ∙ ap (λ l. l ++ x.0) y.1 ∙ append_assoc c y.0 x.0)

module _ {E : Type 0} (len : E → ℕ) (cycle : Option ℕ) where
  pub before_none : (s : ℕ) (es : List E) → before [] (grouped len cycle s es) ≡ grouped len cycle s es
  before_none s [] = refl
  before_none s (e ∷ es) = step (begins_part cycle s (len e)) refl
    where
      step : (b : Bool) → begins_part cycle s (len e) ≡ b → before [] (grouped len cycle s (e ∷ es)) ≡ grouped len cycle s (e ∷ es)
      step true t = rw t refl
      step false t = rw t (before_before [] (e ∷ []) (grouped len cycle (s + len e) es))

  goes_on_step : (s : ℕ) (e : E) (xs ys : List E) (b : Bool) → begins_part cycle s (len e) ≡ b
      → grouped len cycle (log_head_len + len e) (xs ++ ys) ≡ joined (grouped len cycle (log_head_len + len e) xs) (grouped len cycle (size_after len cycle (log_head_len + len e) xs) ys)
      → grouped len cycle (s + len e) (xs ++ ys) ≡ joined (grouped len cycle (s + len e) xs) (grouped len cycle (size_after len cycle (s + len e) xs) ys)
      → grouped len cycle s ((e ∷ xs) ++ ys) ≡ joined (grouped len cycle s (e ∷ xs)) (grouped len cycle (size_after len cycle s (e ∷ xs)) ys)
  goes_on_step s e xs ys true t new more = rw t (
      ap (λ l. [] ∷ before (e ∷ []) l) new
      ∙ ap (λ l. [] ∷ l) (joined_before (e ∷ []) (grouped len cycle (log_head_len + len e) xs) (grouped len cycle (size_after len cycle (log_head_len + len e) xs) ys))
      ∙ joined_new (e ∷ []) (grouped len cycle (log_head_len + len e) xs) (grouped len cycle (size_after len cycle (log_head_len + len e) xs) ys)
      )
  goes_on_step s e xs ys false t new more = rw t (
      ap (before (e ∷ [])) more
      ∙ joined_before (e ∷ []) (grouped len cycle (s + len e) xs) (grouped len cycle (size_after len cycle (s + len e) xs) ys)
      )

  pub goes_on : (s : ℕ) (xs ys : List E) → grouped len cycle s (xs ++ ys) ≡ joined (grouped len cycle s xs) (grouped len cycle (size_after len cycle s xs) ys)
  goes_on s [] ys = sym (before_none s ys)
  goes_on s (e ∷ xs) ys = goes_on_step s e xs ys (begins_part cycle s (len e)) refl (goes_on (log_head_len + len e) xs ys) (goes_on (s + len e) xs ys)

  all_step : (s : ℕ) (e : E) (es : List E) (b : Bool) → begins_part cycle s (len e) ≡ b → flat_map (λ g. g) (grouped len cycle (log_head_len + len e) es) ≡ es → flat_map (λ g. g) (grouped len cycle (s + len e) es) ≡ es
      → flat_map (λ g. g) (grouped len cycle s (e ∷ es)) ≡ e ∷ es
  all_step s e es true t new more = rw t (flat_before (e ∷ []) (grouped len cycle (log_head_len + len e) es) ∙ ap (λ l. e ∷ l) new)
  all_step s e es false t new more = rw t (flat_before (e ∷ []) (grouped len cycle (s + len e) es) ∙ ap (λ l. e ∷ l) more)

  pub all_entries : (s : ℕ) (es : List E) → flat_map (λ g. g) (grouped len cycle s es) ≡ es
  all_entries s [] = refl
  all_entries s (e ∷ es) = all_step s e es (begins_part cycle s (len e)) refl (all_entries (log_head_len + len e) es) (all_entries (s + len e) es)

  size_more : (g : List E) (e : E) → part_size len (g ++ e ∷ []) ≡ part_size len g + len e
  size_more g e = omega (arith, sum_by_push len g e)

  size_one : (e : E) → part_size len (e ∷ []) ≡ log_head_len + len e
  size_one e = omega arith

  abbrev Sizes : List E → List E → Type 0
  Sizes g es = part_size len (last_of (before g (grouped len cycle (part_size len g) es))) ≡ size_after len cycle (part_size len g) es

  size_step : (g : List E) (e : E) (es : List E) (b : Bool) → begins_part cycle (part_size len g) (len e) ≡ b → Sizes (e ∷ []) es → Sizes (g ++ e ∷ []) es → Sizes g (e ∷ es)
  size_step g e es true t new more = rw t (
      ap (part_size len) (last_after (g ++ []) (e ∷ []) (grouped len cycle (log_head_len + len e) es))
      ∙ subst (λ n. part_size len (last_of (before (e ∷ []) (grouped len cycle n es))) ≡ size_after len cycle n es) (size_one e) new
      )
  size_step g e es false t new more = rw t (
      ap (λ l. part_size len (last_of l)) (before_before g (e ∷ []) (grouped len cycle (part_size len g + len e) es))
      ∙ subst (λ n. part_size len (last_of (before (g ++ e ∷ []) (grouped len cycle n es))) ≡ size_after len cycle n es) (size_more g e) more
      )

  -- what is counted is how long the last part is
  pub last_size : (g es : List E) → Sizes g es
  last_size g [] = ap (part_size len) (append-nil g)
  last_size g (e ∷ es) = size_step g e es (begins_part cycle (part_size len g) (len e)) refl (last_size (e ∷ []) es) (last_size (g ++ e ∷ []) es)

pub one_group : {E : Type 0} (len : E → ℕ) (s : ℕ) (es : List E) → grouped len None s es ≡ es ∷ []
one_group len s [] = refl
one_group len s (e ∷ es) = ap (before (e ∷ [])) (one_group len (s + len e) es)

-- the first parts of joined ones are a beginning of all
pub begins_joined : {E : Type 0} (f : List E → List ℕ) → ((xs ys : List E) → StartsWith (f (xs ++ ys)) (f xs)) → (xss yss : List (List E)) → BeginsParts (map f (joined xss yss)) (map f xss)
begins_joined f more [] yss = tt
begins_joined f more (x ∷ []) [] = starts_same (f x)
begins_joined f more (x ∷ []) (y ∷ yss) = more x y
begins_joined f more (x ∷ z ∷ xss) yss = (refl, begins_joined f more (z ∷ xss) yss)
