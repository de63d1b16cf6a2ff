-- What an option that is there came from, and what it comes to.
use Rattle.std.proofs.Common.{◌≡◌, List, [], ◌∷◌, Option, Some, None, refl, ap, ◌∙◌}
use Rattle.std.specs.Prelude.{option_and_then, option_map}
use Rattle.serde_json.specs.Data.{Data}
use Rattle.cts_methods.specs.Kinds.{alone, first_in, may_be}

pub some_is : {A : Type 0} (a b : A) → Some a ≡ Some b → a ≡ b
some_is {A} a b e = ap inner e where
  inner : Option A → A
  inner None = a
  inner (Some x) = x

pub and_then_some : {A B : Type 0} (f : A → Option B) (o : Option A) (b : B) → option_and_then f o ≡ Some b → (a : A) × (o ≡ Some a) × (f a ≡ Some b)
and_then_some f None b e = absurd (cc e)
and_then_some f (Some a) b e = (a, refl, e)

pub map_some : {A B : Type 0} (f : A → B) (o : Option A) (b : B) → option_map f o ≡ Some b → (a : A) × (o ≡ Some a) × (f a ≡ b)
map_some f None b e = absurd (cc e)
map_some f (Some a) b e = (a, refl, some_is (f a) b e)

pub and_then_taken : {A B : Type 0} (f : A → Option B) (o : Option A) (a : A) (b : B) → o ≡ Some a → f a ≡ Some b → option_and_then f o ≡ Some b
and_then_taken f o a b is e = ap (option_and_then f) is ∙ e

pub map_taken : {A B : Type 0} (f : A → B) (o : Option A) (a : A) (b : B) → o ≡ Some a → f a ≡ b → option_map f o ≡ Some b
map_taken f o a b is e = ap (option_map f) is ∙ ap (λ x. Some x) e

-- ---- the last of all params, which may be absent

pub one_said : {A : Type 0} (kind : Data → Option A) (d : Data) (o : Option A) → may_be kind (d ∷ []) ≡ Some o → (x : A) × (kind d ≡ Some x) × (Some x ≡ o)
one_said {A} kind d o e = by_kind (kind d) refl e where
  by_kind : (k : Option A) → kind d ≡ k → option_and_then alone (option_map (λ (a : A). (Some a, [])) k) ≡ Some o → (x : A) × (kind d ≡ Some x) × (Some x ≡ o)
  by_kind None is e = absurd (cc e)
  by_kind (Some x) is e = (x, is, some_is (Some x) o e)

pub two_refused : {A : Type 0} (kind : Data → Option A) (d e : Data) (ds : List Data) (o : Option A) → may_be kind (d ∷ (e ∷ ds)) ≡ Some o → ⊥
two_refused {A} kind d e ds o is = by_kind (kind d) is where
  by_kind : (k : Option A) → option_and_then alone (option_map (λ (a : A). (Some a, e ∷ ds)) k) ≡ Some o → ⊥
  by_kind None is = cc is
  by_kind (Some x) is = cc is

pub one_taken : {A : Type 0} (kind : Data → Option A) (d : Data) (x : A) → kind d ≡ Some x → may_be kind (d ∷ []) ≡ Some (Some x)
one_taken {A} kind d x is = ap (λ (k : Option A). option_and_then alone (option_map (λ (a : A). (Some a, [])) k)) is

-- ---- one that has to be there, and stands alone

pub single_said : {A : Type 0} (kind : Data → Option A) (d : Data) (x : A) → option_and_then alone (first_in kind (d ∷ [])) ≡ Some x → kind d ≡ Some x
single_said {A} kind d x e = by_kind (kind d) e where
  by_kind : (k : Option A) → option_and_then alone (option_map (λ (a : A). (a, [])) k) ≡ Some x → k ≡ Some x
  by_kind None e = absurd (cc e)
  by_kind (Some y) e = e

pub pair_refused : {A : Type 0} (kind : Data → Option A) (d e : Data) (ds : List Data) (x : A) → option_and_then alone (first_in kind (d ∷ (e ∷ ds))) ≡ Some x → ⊥
pair_refused {A} kind d e ds x is = by_kind (kind d) is where
  by_kind : (k : Option A) → option_and_then alone (option_map (λ (a : A). (a, e ∷ ds)) k) ≡ Some x → ⊥
  by_kind None is = cc is
  by_kind (Some y) is = cc is

pub single_taken : {A : Type 0} (kind : Data → Option A) (d : Data) (x : A) → kind d ≡ Some x → option_and_then alone (first_in kind (d ∷ [])) ≡ Some x
single_taken {A} kind d x is = ap (λ (k : Option A). option_and_then alone (option_map (λ (a : A). (a, [])) k)) is
