-- What entries give, entry by entry.
use Rattle.std.proofs.Common.{◌≡◌, ℕ, Bool, true, false, List, [], ◌∷◌, ◌++◌, ◌+◌, refl, sym, ◌∙◌, ap, append_assoc, append-nil, Option}
use Rattle.std.specs.Prelude.{map}
use Rattle.std.specs.List.{flat_map}
use Rattle.std.proofs.lemmas.List.Concat.{flat_map-append}
use Rattle.cts_log.specs.Files.{log_file, log_head, log_head_len}
use Rattle.cts_log.specs.Logged.{entry_bytes}
use Rattle.cts_log.specs.Cycling.{begins_part}
use Rattle.cts_log_parts.specs.Grouping.{before, grouped, joined, size_after}
use Rattle.cts_log_parts.specs.Parts.{entry_len}
use Rattle.cts_log_parts.proofs.Dividing.{goes_on}
use Rattle.cts_log_parts.specs.Growths.{growth_of, with_entry}
use Rattle.cts_log_parts.specs.Laws.{GivenOneMore, PartsAreGrown}
use Rattle.cts_log_parts.proofs.Joining.{joined_end}

module _ {E : Type 0} (head : List ℕ) (f : E → List ℕ) where
  abbrev part : List E → List ℕ
  part g = head ++ flat_map f g

  part_more : (a g : List E) → part (a ++ g) ≡ part a ++ flat_map f g
  part_more a g = ap (λ l. head ++ l) (flat_map-append f a g) ∙ sym (append_assoc head (flat_map f a) (flat_map f g))

  parts_joined : (a : List E) (ks : List (List E)) (g : List E) (gs : List (List E)) → map part (joined (a ∷ ks) (g ∷ gs)) ≡ joined (map part (a ∷ ks)) (growth_of head f (g ∷ gs))
  parts_joined a [] g gs = ap (λ l. l ∷ map part gs) (part_more a g)
  parts_joined a (b ∷ ks) g gs = ap (λ l. part a ∷ l) (parts_joined b ks g gs)

  growth_joined : (a : List E) (ks : List (List E)) (g : List E) (gs : List (List E)) → growth_of head f (joined (a ∷ ks) (g ∷ gs)) ≡ joined (growth_of head f (a ∷ ks)) (growth_of head f (g ∷ gs))
  growth_joined a [] g gs = ap (λ l. l ∷ map part gs) (flat_map-append f a g)
  growth_joined a (b ∷ ks) g gs = ap (λ l. flat_map f a ∷ l) (parts_joined b ks g gs)

  -- a list with a member
  record HasFirst (gs : List (List E)) : Type 0 where
    first : List E
    others : List (List E)
    is : gs ≡ first ∷ others

  first_before : (a : List E) (gs : List (List E)) → HasFirst (before a gs)
  first_before a [] = record { first = a; others = []; is = refl }
  first_before a (g ∷ gs) = record { first = a ++ g; others = gs; is = refl }

  first_grouped : (len : E → ℕ) (cycle : Option ℕ) (s : ℕ) (es : List E) → HasFirst (grouped len cycle s es)
  first_grouped len cycle s [] = record { first = []; others = []; is = refl }
  first_grouped len cycle s (e ∷ es) = step (begins_part cycle s (len e)) refl
    where
      step : (b : Bool) → begins_part cycle s (len e) ≡ b → HasFirst (grouped len cycle s (e ∷ es))
      step true t = record { first = []; others = before (e ∷ []) (grouped len cycle (log_head_len + len e) es); is = rw t refl }
      step false t =
          let h = first_before (e ∷ []) (grouped len cycle (s + len e) es) in
          record { first = h.first; others = h.others; is = rw t h.is }

  pub growths_joined : (len : E → ℕ) (cycle : Option ℕ) (s t : ℕ) (xs ys : List E)
      → growth_of head f (joined (grouped len cycle s xs) (grouped len cycle t ys)) ≡ joined (growth_of head f (grouped len cycle s xs)) (growth_of head f (grouped len cycle t ys))
  growths_joined len cycle s t xs ys =
      let a = first_grouped len cycle s xs in
      let b = first_grouped len cycle t ys in
      ap (λ l. growth_of head f (joined l (grouped len cycle t ys))) a.is ∙ ap (λ l. growth_of head f (joined (a.first ∷ a.others) l)) b.is ∙ growth_joined a.first a.others b.first b.others
      ∙ ap (λ l. joined (growth_of head f (a.first ∷ a.others)) (growth_of head f l)) (sym b.is) ∙ ap (λ l. joined (growth_of head f l) (growth_of head f (grouped len cycle t ys))) (sym a.is)

  pub all_joined : (len : E → ℕ) (cycle : Option ℕ) (s t : ℕ) (xs ys : List E)
      → map part (joined (grouped len cycle s xs) (grouped len cycle t ys)) ≡ joined (map part (grouped len cycle s xs)) (growth_of head f (grouped len cycle t ys))
  all_joined len cycle s t xs ys =
      let a = first_grouped len cycle s xs in
      let b = first_grouped len cycle t ys in
      ap (λ l. map part (joined l (grouped len cycle t ys))) a.is ∙ ap (λ l. map part (joined (a.first ∷ a.others) l)) b.is ∙ parts_joined a.first a.others b.first b.others
      ∙ ap (λ l. joined (map part (a.first ∷ a.others)) (growth_of head f l)) (sym b.is) ∙ ap (λ l. joined (map part l) (growth_of head f (grouped len cycle t ys))) (sym a.is)

  -- one entry, after what some give
  new_end : (g : List E) (gs : List (List E)) (x : List ℕ) → joined (growth_of head f (g ∷ gs)) ([] ∷ x ∷ []) ≡ growth_of head f (g ∷ gs) ++ x ∷ []
  new_end g gs x = ends (flat_map f g) (map part gs)
    where
      ends : (a : List ℕ) (ks : List (List ℕ)) → joined (a ∷ ks) ([] ∷ x ∷ []) ≡ (a ∷ ks) ++ x ∷ []
      ends a [] = ap (λ l. l ∷ x ∷ []) (append-nil a)
      ends a (b ∷ ks) = ap (λ l. a ∷ l) (ends b ks)

  new_group : (len : E → ℕ) (cycle : Option ℕ) (s : ℕ) (e : E) → begins_part cycle s (len e) ≡ true → grouped len cycle s (e ∷ []) ≡ [] ∷ (e ∷ []) ∷ []
  new_group len cycle s e t = rw t refl

  same_group : (len : E → ℕ) (cycle : Option ℕ) (s : ℕ) (e : E) → begins_part cycle s (len e) ≡ false → grouped len cycle s (e ∷ []) ≡ (e ∷ []) ∷ []
  same_group len cycle s e t = rw t refl

  one_more : (len : E → ℕ) (cycle : Option ℕ) (s : ℕ) (e : E) (g : List E) (gs : List (List E)) (b : Bool) → begins_part cycle s (len e) ≡ b
      → joined (growth_of head f (g ∷ gs)) (growth_of head f (grouped len cycle s (e ∷ []))) ≡ with_entry head b (f e) (growth_of head f (g ∷ gs))
  one_more len cycle s e g gs true t =
      ap (λ l. joined (growth_of head f (g ∷ gs)) (growth_of head f l)) (new_group len cycle s e t) ∙ ap (λ l. joined (growth_of head f (g ∷ gs)) ([] ∷ (head ++ l) ∷ [])) (append-nil (f e)) ∙ new_end g gs (head ++ f e)
  one_more len cycle s e g gs false t =
      ap (λ l. joined (growth_of head f (g ∷ gs)) (growth_of head f l)) (same_group len cycle s e t) ∙ ap (λ l. joined (growth_of head f (g ∷ gs)) (l ∷ [])) (append-nil (f e))

  pub entry_more : (len : E → ℕ) (cycle : Option ℕ) (s : ℕ) (es : List E) (e : E)
      → growth_of head f (grouped len cycle s (es ++ e ∷ [])) ≡ with_entry head (begins_part cycle (size_after len cycle s es) (len e)) (f e) (growth_of head f (grouped len cycle s es))
  entry_more len cycle s es e =
      let t : ℕ = size_after len cycle s es in
      let a = first_grouped len cycle s es in
      ap (growth_of head f) (goes_on len cycle s es (e ∷ [])) ∙ growths_joined len cycle s t es (e ∷ [])
      ∙ ap (λ l. joined (growth_of head f l) (growth_of head f (grouped len cycle t (e ∷ [])))) a.is
      ∙ one_more len cycle t e a.first a.others (begins_part cycle t (len e)) refl
      ∙ ap (λ l. with_entry head (begins_part cycle t (len e)) (f e) (growth_of head f l)) (sym a.is)

pub given_one_more : GivenOneMore
given_one_more kind fl digest cycle size es e = entry_more (log_head kind fl digest) (entry_bytes fl) (entry_len fl) cycle size es e

pub parts_are_grown : PartsAreGrown
parts_are_grown kind fl digest cycle xs ys =
    ap (map (log_file kind fl digest)) (goes_on (entry_len fl) cycle log_head_len xs ys)
    ∙ all_joined (log_head kind fl digest) (entry_bytes fl) (entry_len fl) cycle log_head_len (size_after (entry_len fl) cycle log_head_len xs) xs ys
