-- Groups are the fullest, and no others are.
use Rattle.std.proofs.Common.{◌≡◌, ◌⊎◌, inl, inr, ℕ, ◌+◌, ◌<◌, ◌≤◌, Bool, true, false, List, [], ◌∷◌, ◌++◌, length, refl, sym, ◌∙◌, ap, subst, arith, append_assoc, append-nil, length-append, Option, Some, None}
use Rattle.std.specs.List.{sum_by}
use Rattle.std.proofs.lemmas.List.Sums.{sum_by-append, sum_by-cons, sum_by_push}
use Rattle.std.proofs.lemmas.Bool.Decides.{nat_tests}
use Rattle.cts_log.specs.Files.{log_head_len}
use Rattle.cts_log.specs.Cycling.{begins_part}
use Rattle.cts_log_parts.specs.Grouping.{AreGroups, ArePacked, IsFullest, before, grouped, part_size}
use Rattle.cts_log_parts.proofs.Dividing.{before_before, one_group}

-- two ways to cut one list
data Met {X : Type 0} (g h l k : List X) : Type 0 where
  same : g ≡ h → l ≡ k → Met g h l k
  shorter : (x : X) (more : List X) → h ≡ g ++ x ∷ more → l ≡ x ∷ (more ++ k) → Met g h l k
  longer : (x : X) (more : List X) → g ≡ h ++ x ∷ more → k ≡ x ∷ (more ++ l) → Met g h l k

meet : {X : Type 0} (g h l k : List X) → g ++ l ≡ h ++ k → Met g h l k
meet [] [] l k e = same refl e
meet [] (x ∷ h) l k e = shorter x h refl e
meet (x ∷ g) [] l k e = longer x g refl (sym e)
meet (x ∷ g) (y ∷ h) l k e = step (meet g h l k (let t : g ++ l ≡ h ++ k = cc in t))
  where
    first : x ≡ y
    first = cc

    step : Met g h l k → Met (x ∷ g) (y ∷ h) l k
    step (same a b) = same (let t : (x ∷ g) ≡ (y ∷ h) = cc in t) b
    step (shorter z more a b) = shorter z more (let t : (y ∷ h) ≡ (x ∷ (g ++ z ∷ more)) = cc in t) b
    step (longer z more a b) = longer z more (let t : (x ∷ g) ≡ (y ∷ (h ++ z ∷ more)) = cc in t) b

module _ {E : Type 0} (len : E → ℕ) where
  -- a part cannot be the fullest where another begins with it and has one entry more
  not_longer : (limit : ℕ) (g h l k more : List E) (x : E) → IsFullest len limit g l → IsFullest len limit h k → h ≡ g ++ x ∷ more → l ≡ x ∷ (more ++ k) → ⊥
  not_longer limit g h l k more x a b long left =
      let full = a.full x (more ++ k) left in
      let size : sum_by len h ≡ sum_by len g + (len x + sum_by len more) = ap (sum_by len) long ∙ sum_by-append len g (x ∷ more) ∙ ap (λ n. sum_by len g + n) (sum_by-cons len x more) in
      let one = sum_by_push len g x in
      elim b.small [
        | inl s ↦ omega (arith, full, size, one, s)
        | inr alone ↦
            let lh : length h ≡ length (b.first ∷ b.others) = ap length b.some in
            let lo : length b.others ≡ 0 = ap length alone in
            let lg : length g ≡ length (a.first ∷ a.others) = ap length a.some in
            let lm : length h ≡ length (g ++ x ∷ more) = ap length long in
            omega (arith, lh, lo, lg, lm, length-append g (x ∷ more))
      ]

  pub packed_once : (limit : ℕ) (gs hs : List (List E)) (es : List E) → ArePacked len limit gs es → ArePacked len limit hs es → gs ≡ hs
  packed_once limit [] [] es a b = refl
  packed_once limit [] (h ∷ hs) es a b =
      let is : h ++ b.0 ≡ [] = sym b.1 ∙ a in
      let n = ap length is in
      let some : length h ≡ length (b.2.first ∷ b.2.others) = ap length b.2.some in
      absurd (omega (arith, n, some, length-append h b.0))
  packed_once limit (g ∷ gs) [] es a b =
      let is : g ++ a.0 ≡ [] = sym a.1 ∙ b in
      let n = ap length is in
      let some : length g ≡ length (a.2.first ∷ a.2.others) = ap length a.2.some in
      absurd (omega (arith, n, some, length-append g a.0))
  packed_once limit (g ∷ gs) (h ∷ hs) es a b = step (meet g h a.0 b.0 (sym a.1 ∙ b.1)) (λ p. packed_once limit gs hs b.0 p b.3)
    where
      step : Met g h a.0 b.0 → (ArePacked len limit gs b.0 → gs ≡ hs) → (g ∷ gs) ≡ (h ∷ hs)
      step (same x y) f = let rest : gs ≡ hs = f (subst (ArePacked len limit gs) y a.3) in cc
      step (shorter x more p q) f = absurd (not_longer limit g h a.0 b.0 more x a.2 b.2 p q)
      step (longer x more p q) f = absurd (not_longer limit h g b.0 a.0 more x b.2 a.2 p q)

  module _ (positive : (e : E) → 0 < len e) where
    test_full : (limit size n : ℕ) → begins_part (Some limit) size n ≡ true → limit < size + n
    test_full limit size n t = grind (arith, nat_tests)

    test_room : (limit size n : ℕ) → begins_part (Some limit) size n ≡ false → log_head_len < size → size + n ≤ limit
    test_room limit size n t some = grind (arith, nat_tests)

    -- a part with at least one entry, and no more than lie within the limit, or one alone
    pub record IsBegun (limit : ℕ) (g : List E) : Type 0 where
      pub first : E
      pub others : List E
      pub some : g ≡ first ∷ others
      pub small : (part_size len g ≤ limit) ⊎ (others ≡ [])

    full_part : (limit : ℕ) (g left : List E) → IsBegun limit g → ((e : E) (more : List E) → left ≡ e ∷ more → limit < part_size len g + len e) → IsFullest len limit g left
    full_part limit g left b f = record {
      first = b.first;
      others = b.others;
      some = b.some;
      small = b.small;
      full = λ e more is. (let h = f e more is in let p = sum_by_push len g e in omega (arith, h, p));
    }

    begun_size : (limit : ℕ) (g : List E) → IsBegun limit g → log_head_len < part_size len g
    begun_size limit g b =
        let s : sum_by len g ≡ len b.first + sum_by len b.others = ap (sum_by len) b.some ∙ sum_by-cons len b.first b.others in
        omega (arith, s, positive b.first)

    begun_more : (limit : ℕ) (g : List E) (e : E) → IsBegun limit g → part_size len g + len e ≤ limit → IsBegun limit (g ++ e ∷ [])
    begun_more limit g e b room = record {
      first = b.first;
      others = b.others ++ e ∷ [];
      some = ap (λ l. l ++ e ∷ []) b.some;
      small = inl (let p = sum_by_push len g e in omega (arith, p, room));
    }

    begun_one : (limit : ℕ) (e : E) → IsBegun limit (e ∷ [])
    begun_one limit e = record { first = e; others = []; some = refl; small = inr refl }

    size_one : (e : E) → part_size len (e ∷ []) ≡ log_head_len + len e
    size_one e = omega arith

    size_more : (g : List E) (e : E) → part_size len (g ++ e ∷ []) ≡ part_size len g + len e
    size_more g e = omega (arith, sum_by_push len g e)

    -- the groups after a part that is begun: this part, to its end, and others
    pub record ArePacks (limit : ℕ) (g es : List E) : Type 0 where
      pub whole : List E
      pub others : List (List E)
      pub are : before g (grouped len (Some limit) (part_size len g) es) ≡ whole ∷ others
      pub packed : ArePacked len limit (whole ∷ others) (g ++ es)

    packs_step : (limit : ℕ) (g : List E) (e : E) (es : List E) → IsBegun limit g → (t : Bool) → begins_part (Some limit) (part_size len g) (len e) ≡ t → ArePacks limit (e ∷ []) es → (IsBegun limit (g ++ e ∷ []) → ArePacks limit (g ++ e ∷ []) es)
        → ArePacks limit g (e ∷ es)
    packs_step limit g e es b true t next more =
        let are = subst (λ n. before (e ∷ []) (grouped len (Some limit) n es) ≡ next.whole ∷ next.others) (size_one e) next.are in
        record {
          whole = g;
          others = next.whole ∷ next.others;
          are = rw t (ap (λ l. l ∷ before (e ∷ []) (grouped len (Some limit) (log_head_len + len e) es)) (append-nil g) ∙ ap (λ l. g ∷ l) are);
          packed = (e ∷ es, refl, full_part limit g (e ∷ es) b (λ d rest is. (let h = test_full limit (part_size len g) (len e) t in subst (λ x. limit < part_size len g + len x) (let q : e ≡ d = cc in q) h)), next.packed);
        }
    packs_step limit g e es b false t next more =
        let room = test_room limit (part_size len g) (len e) t (begun_size limit g b) in
        let on = more (begun_more limit g e b room) in
        let are = subst (λ n. before (g ++ e ∷ []) (grouped len (Some limit) n es) ≡ on.whole ∷ on.others) (size_more g e) on.are in
        record {
          whole = on.whole;
          others = on.others;
          are = rw t (before_before g (e ∷ []) (grouped len (Some limit) (part_size len g + len e) es) ∙ are);
          packed = subst (ArePacked len limit (on.whole ∷ on.others)) (append_assoc g (e ∷ []) es) on.packed;
        }

    pub packs : (limit : ℕ) (g es : List E) → IsBegun limit g → ArePacks limit g es
    packs limit g [] b = record {
      whole = g;
      others = [];
      are = ap (λ l. l ∷ []) (append-nil g);
      packed = ([], refl, full_part limit g [] b (λ e more is. absurd cc), refl);
    }
    packs limit g (e ∷ es) b = packs_step limit g e es b (begins_part (Some limit) (part_size len g) (len e)) refl (packs limit (e ∷ []) es (begun_one limit e)) (λ n. packs limit (g ++ e ∷ []) es n)

    pub are_groups : (cycle : Option ℕ) (es : List E) → AreGroups len cycle es (grouped len cycle log_head_len es)
    are_groups None es = one_group len log_head_len es
    are_groups (Some limit) [] = refl
    are_groups (Some limit) (e ∷ es) =
        let next = packs limit (e ∷ []) es (begun_one limit e) in
        let are : grouped len (Some limit) log_head_len (e ∷ es) ≡ next.whole ∷ next.others = subst (λ n. before (e ∷ []) (grouped len (Some limit) n es) ≡ next.whole ∷ next.others) (size_one e) next.are in
        subst (λ gs. ArePacked len limit gs (e ∷ es)) (sym are) next.packed

    pub groups_once : (cycle : Option ℕ) (es : List E) (gs : List (List E)) → AreGroups len cycle es gs → gs ≡ grouped len cycle log_head_len es
    groups_once None es gs a = a ∙ sym (one_group len log_head_len es)
    groups_once (Some limit) [] gs a = a
    groups_once (Some limit) (e ∷ es) gs a = packed_once limit gs (grouped len (Some limit) log_head_len (e ∷ es)) (e ∷ es) a (are_groups (Some limit) (e ∷ es))
