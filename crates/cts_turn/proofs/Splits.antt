-- Splits, joins and the end keep the rule, and what they tell.
use Rattle.std.proofs.Common.{◌≡◌, ℕ, ◌≤◌, ◌≢◌, eq-eqb, ◌||◌, true, false, cond, leb, List, [], ◌∷◌, ◌++◌, length, max, set, sym, refl, ap, ◌∙◌, subst, ⊎_elim, arith}
use Rattle.std.specs.Prelude.{Option, Some, slice_index}
use mathlib.Core.Option.{some, none, some-injective}
use mathlib.Core.Option as maybe
use mathlib.Core.Logic.{dite}
use native.Mathlib.Decide.{ℕ_discrete}
use native.Mathlib.Nat.{max-le}
use lib.ListN.{get_elem?}
use Rattle.std.proofs.lemmas.List.{set_comm}
use Rattle.std.proofs.lemmas.Bool.Decides.{leb_tells}
use Rattle.atomic_table.specs.Table.{State, Me, Step, step, keeps, Allows, Splits, Joins, Final, Seen}
use Rattle.atomic_table.proofs.Lists.{at_set, set_else, at_longer, at_last}
use Rattle.cts_turn.specs.declared.rule.View.{View}
use Rattle.cts_turn.specs.Lists.{has, StartsWith, of, least, longer, shorter}
use Rattle.cts_turn.specs.Passes.{HasAll}
use Rattle.cts_turn.specs.Rule.{Fits, Stood, Whole, compares, rest_of, least_of, both_of, spent}
use Rattle.cts_turn.proofs.Makers.{has_without_back, begins_same, set_at, has_left_part, has_right_part, has_append, has_one, has_without, has_least, begins_both, longer_left, longer_right, longer_begins, shorter_begins, of_between, at_end, none_has, tells_both, shorter_shorter}
use Rattle.cts_turn.proofs.Moves.{fewer, moved, still, kept, same_turn, somewhere}

module _ {S E G : Type 0} (maker : E → ℕ) (list : S → List E) (basis : S → G) where
  abbrev Vw : Type 0
  Vw = View E G

  abbrev Good : G → State (Option S) Vw → Type 0
  Good g s = Stood maker list basis g s

  abbrev Fine : G → List E → ℕ → Vw → Type 0
  Fine g whole busy v = Fits maker list basis g whole busy v

  abbrev Rule : G → State (Option S) Vw → Type 0
  Rule g s = Whole maker list basis g s

  -- a view that has not the turn, and no maker of another, comes after the others
  abbrev appended : (g : G) (s : State (Option S) Vw) (r : Good g s) (w : Vw) → Fine g r.whole r.busy w → w.holds ≡ false
      → ((j : ℕ) (u : Vw) (m : ℕ) → get_elem? s.views j ≡ some u → has m w.makers ≡ true → ¬ (has m u.makers ≡ true))
      → Good g record { words = s.words; homes = s.homes; views = s.views ++ w ∷ [] }
  appended g s r w mine idle lone =
      let never : w.holds ≡ true → ⊥ = λ p. let f : false ≡ true = sym idle ∙ p in cc in
      record {
        whole = r.whole;
        busy = r.busy;
        words = r.words;
        fits = λ i u e. ⊎_elim (λ t. r.fits i u t) (λ t. subst (Fine g r.whole r.busy) t.1 mine) (at_end s.views w u i e);
        apart = λ i j m u x e f p q. ⊎_elim
            (λ t. ⊎_elim (λ z. r.apart i j m u x t z p q) (λ z. absurd (lone i u m t (subst (λ (y : Vw). has m y.makers ≡ true) (sym z.1) q) p)) (at_end s.views w x j f))
            (λ t. ⊎_elim (λ z. absurd (lone j x m z (subst (λ (y : Vw). has m y.makers ≡ true) (sym t.1) p) q)) (λ z. t.0 ∙ sym z.0) (at_end s.views w x j f))
            (at_end s.views w u i e);
        one = λ i j u x e f p q. ⊎_elim
            (λ t. ⊎_elim (λ z. r.one i j u x t z p q) (λ z. absurd (never (subst (λ (y : Vw). y.holds ≡ true) (sym z.1) q))) (at_end s.views w x j f))
            (λ t. absurd (never (subst (λ (y : Vw). y.holds ≡ true) (sym t.1) p)))
            (at_end s.views w u i e);
        free = r.free;
        taken = λ ne. let t = r.taken ne in (t.0, t.1, at_longer s.views (w ∷ []) t.0 t.1 t.2, t.3);
      }

  pub splits_goes : (g : G) (id : ℕ) (v : Vw) → v.holds ≡ false → v.aside_makers ≡ [] → v.makers ≢ [] → Splits (Rule g) id v (rest_of v) (least_of v)
  splits_goes g id v idle none_aside some_maker s rule at =
      let r = rule.core in
      let fit = r.fits id v at in
      let left : Vw = rest_of v in
      let right : Vw = least_of v in
      let never : v.holds ≡ true → ⊥ = λ p. let f : false ≡ true = sym idle ∙ p in cc in
      let mine : (m : ℕ) → has m left.makers ≡ true → has m v.makers ≡ true = λ m h. (has_without m (least v.makers) v.makers h).0 in
      let is_least : (m : ℕ) → has m right.makers ≡ true → least v.makers ≡ m = λ m h. has_one m (least v.makers) h in
      let theirs : (m : ℕ) → has m right.makers ≡ true → has m v.makers ≡ true = λ m h. subst (λ k. has k v.makers ≡ true) (is_least m h) (has_least v.makers some_maker) in
      let one = moved maker list basis g s r id v left r.whole r.busy s.words s.homes at (fewer maker list basis g s r id v left at mine) r.words
      record { begins = fit.begins; besides = fit.besides; below = fit.below; based = fit.based; owns = λ m h. fit.owns m (mine m h); ranges = λ m h. fit.ranges m (mine m h); aside_owns = λ m p. absurd (none_has m v.aside_makers none_aside p); holds = λ p. absurd (never p) }
      (λ j u _ e. r.fits j u e) (λ j u other e p. absurd (never p)) r.free (λ ne. still maker list basis s.views id v left at refl (r.taken ne)) in
      let views : List Vw = set s.views id left in
      let more : (P : Vw → Type 0) → ((i : ℕ) × (u : Vw) × (get_elem? views i ≡ some u) × P u) → (i : ℕ) × (u : Vw) × (get_elem? (views ++ right ∷ []) i ≡ some u) × P u =
      λ P t. (t.0, t.1, at_longer views (right ∷ []) t.0 t.1 t.2, t.3) in
      record {
        shown = more (λ u. u.seen ≡ r.whole) (somewhere maker list basis (λ u. u.seen ≡ r.whole) s.views id v left at (λ e. e) rule.shown);
        manned = λ m lt. dite (ℕ_discrete (least v.makers) m)
            (λ e. (length views, right, at_last views right (length views) refl, ap (λ b. b || false) (eq-eqb (least v.makers) m e)))
            (λ ne. more (λ u. has m u.makers ≡ true) (somewhere maker list basis (λ u. has m u.makers ≡ true) s.views id v left at (λ h. has_without_back m (least v.makers) v.makers h ne) (rule.manned m lt)));
        core = appended g record { words = s.words; homes = s.homes; views = set s.views id left } one right
            record { begins = fit.begins; besides = (r.whole, refl); below = fit.below; based = fit.based; owns = λ m h. fit.owns m (theirs m h); ranges = λ m h. fit.ranges m (theirs m h); aside_owns = λ m p. absurd (none_has m [] refl p); holds = λ p. absurd (let f : false ≡ true = p in cc) }
            refl
            (λ j u m e p q. ⊎_elim
            (λ t. (has_without m (least v.makers) v.makers (subst (λ (y : Vw). has m y.makers ≡ true) (sym t.1) q)).1 (is_least m p))
            (λ t. t.0 (r.apart j id m u v t.1 at q (theirs m p)))
            (at_set s.views id j left u e));
      }

  pub joins_goes : (g : G) (id : ℕ) (v : Vw) (other : ℕ) (w : Vw) → v.holds ≡ false → w.holds ≡ false → Joins (Rule g) id v other w (both_of v w) spent
  joins_goes g id v other w idle idle' s rule at apart at_set' =
      let r = rule.core in
      let both : Vw = both_of v w in
      let there : get_elem? s.views other ≡ some w = sym (set_else s.views id other both apart) ∙ at_set' in
      let fit = r.fits id v at in
      let gone = r.fits other w there in
      let never : v.holds ≡ true → ⊥ = λ p. let f : false ≡ true = sym idle ∙ p in cc in
      let s1 : State (Option S) Vw = record { words = s.words; homes = s.homes; views = set s.views other spent } in
      let one = moved maker list basis g s r other w spent r.whole r.busy s.words s.homes there (λ j u m ne e p. absurd (let f : false ≡ true = p in cc)) r.words
      record { begins = (r.whole, refl); besides = (r.whole, refl); below = omega arith; based = λ x p. cc; owns = λ m p. absurd (let f : false ≡ true = p in cc); ranges = λ m p. absurd (none_has m [] refl p); aside_owns = λ m p. absurd (none_has m [] refl p); holds = λ p. absurd (let f : false ≡ true = p in cc) }
      (λ j u _ e. r.fits j u e) (λ j u ne e p. absurd (let f : false ≡ true = p in cc)) r.free (λ ne. still maker list basis s.views other w spent there (sym idle') (r.taken ne)) in
      let at' : get_elem? s1.views id ≡ some v = set_else s.views other id spent (λ e. apart (sym e)) ∙ at in
      let two = moved maker list basis g s1 one id v both r.whole r.busy s.words s.homes at'
      (λ j u m ne e p q. ⊎_elim
      (λ t. absurd (let f : has m [] ≡ true = subst (λ (y : Vw). has m y.makers ≡ true) (sym t.1) q in let f' : false ≡ true = f in cc))
      (λ t. ⊎_elim (λ h. ne (r.apart j id m u v t.1 at q h)) (λ h. t.0 (r.apart j other m u w t.1 there q h)) (has_append m v.makers w.makers p))
      (at_set s.views other j spent u e))
      r.words
      record {
        begins = longer_begins r.whole v.seen w.seen fit.begins gone.begins;
        besides = shorter_begins r.whole v.seen w.seen fit.begins gone.begins;
        below = max-le fit.below gone.below;
        based = fit.based;
        owns = λ m p. ⊎_elim
            (λ h. of_between maker m r.whole (longer v.seen w.seen) v.seen (longer_begins r.whole v.seen w.seen fit.begins gone.begins) (longer_left r.whole v.seen w.seen fit.begins gone.begins) (fit.owns m h))
            (λ h. of_between maker m r.whole (longer v.seen w.seen) w.seen (longer_begins r.whole v.seen w.seen fit.begins gone.begins) (longer_right r.whole v.seen w.seen fit.begins gone.begins) (gone.owns m h))
            (has_append m v.makers w.makers p);
        ranges = λ m p. ⊎_elim (λ h. fit.ranges m h) (λ h. gone.ranges m h) (has_append m v.makers w.makers p);
        aside_owns = λ m p. ⊎_elim
            (λ t. let h : has m v.makers ≡ true = subst (λ c. has m (cond c v.makers w.makers) ≡ true) t.0 p in (has_left_part m v.makers w.makers h, subst (λ c. of maker m r.whole ≡ of maker m (cond c v.seen w.seen)) (sym t.0) (fit.owns m h)))
            (λ t. let h : has m w.makers ≡ true = subst (λ c. has m (cond c v.makers w.makers) ≡ true) t.0 p in (has_right_part m v.makers w.makers h, subst (λ c. of maker m r.whole ≡ of maker m (cond c v.seen w.seen)) (sym t.0) (gone.owns m h)))
            (leb_tells (length v.seen) (length w.seen));
        holds = λ p. absurd (never p);
      }
      (λ j u _ e. one.fits j u e) (λ j u ne e p. absurd (never p)) one.free (λ ne. still maker list basis s1.views id v both at' refl (one.taken ne)) in
      let whole_of : Vw → Type 0 = λ u. u.seen ≡ r.whole in
      let big : List E = longer v.seen w.seen in
      let within : StartsWith r.whole big = longer_begins r.whole v.seen w.seen fit.begins gone.begins in
      let both_shown : StartsWith big r.whole → big ≡ r.whole = λ p. begins_same big r.whole p within in
      let put : (P : Vw → Type 0) → (P v → P both) → (P w → P both) → ((i : ℕ) × (u : Vw) × (get_elem? s.views i ≡ some u) × P u)
      → (i : ℕ) × (u : Vw) × (get_elem? (set (set s.views other spent) id both) i ≡ some u) × P u =
      λ P f h t.
      let at_id : get_elem? (set (set s.views other spent) id both) id ≡ some both = set_at (set s.views other spent) id v both at' in
      dite (ℕ_discrete t.0 id)
      (λ e. (id, both, at_id, f (subst P (some-injective t.1 v (sym t.2 ∙ ap (get_elem? s.views) e ∙ at)) t.3)))
      (λ ne. dite (ℕ_discrete t.0 other)
      (λ e. (id, both, at_id, h (subst P (some-injective t.1 w (sym t.2 ∙ ap (get_elem? s.views) e ∙ there)) t.3)))
      (λ ne'. (t.0, t.1, set_else (set s.views other spent) id t.0 both ne ∙ set_else s.views other t.0 spent ne' ∙ t.2, t.3))) in
      subst (λ (vs : List Vw). Rule g record { words = s.words; homes = s.homes; views = vs }) (set_comm s.views other id spent both apart) record {
        shown = put whole_of
            (λ e. both_shown (subst (λ l. StartsWith big l) e (longer_left r.whole v.seen w.seen fit.begins gone.begins)))
            (λ e. both_shown (subst (λ l. StartsWith big l) e (longer_right r.whole v.seen w.seen fit.begins gone.begins))) rule.shown;
        manned = λ m lt. put (λ u. has m u.makers ≡ true) (λ h. has_left_part m v.makers w.makers h) (λ h. has_right_part m v.makers w.makers h) (rule.manned m lt);
        core = two;
      }

  -- what was set aside begins what is kept
  pub compares_goes : (g : G) (n id : ℕ) (me : Me (Option S) Vw) → Allows (Rule g) n id me 0 (λ x. x) (compares maker list basis (step n 0 0 0 none) me)
  compares_goes g n id me s rule wide at small =
      let r = rule.core in
      let fit = r.fits id me.0 at in
      let w : Vw = record me.0 { aside = []; aside_makers = [] } in (
        w,
        keeps,
        tt,
        kept maker list basis g s rule id me.0 w (set s.words 0 (slice_index s.words 0)) at refl refl refl (same_turn maker list basis g s r)
            record { begins = fit.begins; besides = (r.whole, refl); below = fit.below; based = fit.based; owns = fit.owns; ranges = fit.ranges; aside_owns = λ m p. absurd (none_has m [] refl p); holds = λ p. let h = fit.holds p in (h.0, h.1, h.2, refl) },
        (refl, (λ le. begins_both r.whole me.0.aside me.0.seen fit.besides fit.begins le), λ m p. let q = fit.aside_owns m p in sym (fit.owns m q.0) ∙ q.1),
      )

  -- a pass with all makers: no other has the turn, so the state is at home
  pub closes : (g : G) (s : State (Option S) Vw) (r : Good g s) (id : ℕ) (v : Vw) → get_elem? s.views id ≡ some v → v.holds ≡ false → HasAll v.makers
      → (y : S) × (s.homes ≡ some (Some y) ∷ []) × (basis y ≡ g) × StartsWith (list y) v.seen × ((m : ℕ) → has m v.makers ≡ true → of maker m (list y) ≡ of maker m v.seen)
  closes g s r id v at idle all =
      let fit = r.fits id v at in
      let free : r.busy ≡ 0 = dite (ℕ_discrete r.busy 0) (λ e. e) (λ ne.
      let t = r.taken ne in
      let f = r.fits t.0 t.1 t.2 in
      let h = f.holds t.3 in
      let m : ℕ = h.2.0 in
      let same : t.0 ≡ id = r.apart t.0 id m t.1 v t.2 at h.2.1 (all m (f.ranges m h.2.1)) in
      let views : t.1 ≡ v = some-injective t.1 v (sym t.2 ∙ ap (get_elem? s.views) same ∙ at) in
      let both : true ≡ false = sym t.3 ∙ ap (λ (y : Vw). y.holds) views ∙ idle in
      absurd (cc)) in
      let home = r.free free in (
        home.0,
        home.1,
        home.3,
        subst (λ xs. StartsWith xs v.seen) (sym home.2) fit.begins,
        λ m h. ap (of maker m) home.2 ∙ fit.owns m h,
      )

  pub closed_is : (g : G) (id : ℕ) (v : Vw) (ws : List ℕ) (xs : List (Option S)) (x : Option S) → Final (Seen (Rule g) id v) ws xs → get_elem? xs 0 ≡ some x → v.holds ≡ false → HasAll v.makers
      → (y : S) × (x ≡ Some y) × (basis y ≡ g) × StartsWith (list y) v.seen × ((m : ℕ) → has m v.makers ≡ true → of maker m (list y) ≡ of maker m v.seen)
  closed_is g id v ws xs x last got idle all =
      let s = last.0 in
      let r = closes g s last.1.0.core id v last.1.1 idle all in
      let here : get_elem? xs 0 ≡ some (Some r.0) = last.4 0 (Some r.0) (ap (λ (h : List (maybe.Option (Option S))). get_elem? h 0) r.1) in
      (r.0, some-injective x (Some r.0) (sym got ∙ here), r.2, r.3, r.4)

  pub some_maker_left : (xs ys : List ℕ) → xs ≢ [] → xs ++ ys ≢ []
  some_maker_left [] ys ne = absurd (ne refl)
  some_maker_left (x ∷ xs) ys ne = λ e. cc

  -- the view once the load has compared, and what it then tells
  pub has_joined : (old other both last : Me (Option S) Vw) → both ≡ (both_of old.0 other.0, old.1) → last ≡ (record both.0 { aside = []; aside_makers = [] }, both.1)
      → last ≡ (record old.0 { makers = old.0.makers ++ other.0.makers; seen = longer old.0.seen other.0.seen; known = max old.0.known other.0.known; aside = []; aside_makers = [] }, old.1)
  has_joined old other both last e f = f ∙ ap (λ (m : Me (Option S) Vw). (record m.0 { aside = []; aside_makers = [] }, m.1)) e

  pub joined_tells : (old other both last : Me (Option S) Vw) (st : Step (Option S)) (n : ℕ) → both ≡ (both_of old.0 other.0, old.1) → compares maker list basis st both n last
      → StartsWith last.0.seen old.0.seen × StartsWith last.0.seen other.0.seen
      × ((k : ℕ) → has k old.0.makers ≡ true → of maker k last.0.seen ≡ of maker k old.0.seen) × ((k : ℕ) → has k other.0.makers ≡ true → of maker k last.0.seen ≡ of maker k other.0.seen)
  joined_tells old other both last st n e told =
      let xs = old.0.seen in
      let ys = other.0.seen in
      let is = has_joined old other both last e told.0 in
      let begins : StartsWith (longer xs ys) (shorter xs ys) = subst (λ (m : Me (Option S) Vw). length m.0.aside ≤ length m.0.seen → StartsWith m.0.seen m.0.aside) e told.1 (shorter_shorter xs ys) in
      let own = subst (λ (m : Me (Option S) Vw). (k : ℕ) → has k m.0.aside_makers ≡ true → of maker k m.0.seen ≡ of maker k m.0.aside) e told.2 in
      let t = tells_both maker (leb (length xs) (length ys)) xs ys old.0.makers other.0.makers begins own in
      let seen : longer xs ys ≡ last.0.seen = sym (ap (λ (m : Me (Option S) Vw). m.0.seen) is) in (
        subst (λ l. StartsWith l xs) seen t.0,
        subst (λ l. StartsWith l ys) seen t.1,
        (λ k h. subst (λ l. of maker k l ≡ of maker k xs) seen (t.2 k h)),
        λ k h. subst (λ l. of maker k l ≡ of maker k ys) seen (t.3 k h),
      )
