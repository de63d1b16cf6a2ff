-- Each step keeps the rule.
use Rattle.std.proofs.Common.{◌≡◌, ℕ, ◌+◌, ◌-◌, ◌%◌, ◌^◌, ◌<◌, ◌≤◌, eqb, map, ◌≢◌, true, false, List, [], ◌∷◌, ◌++◌, length, set, sym, refl, ap, ◌∙◌, subst, ⊎_elim, arith, length-append, append-nil, le_refl, zero-le}
use Rattle.std.specs.Prelude.{Option, Some, None, slice_index}
use mathlib.Core.Option.{some, none, some-injective}
use mathlib.Core.Logic.{dite}
use native.Mathlib.Decide.{ℕ_discrete}
use mathlib.Core.Option as maybe
use native.Mathlib.Nat.{mod-eq_of_lt}
use Rattle.std.proofs.lemmas.List.{append_assoc}
use lib.ListN.{get_elem?}
use prog.Atomic.{either}
use Rattle.atomic_table.specs.Table.{State, Me, step, Act, keeps, takes, gives, put_back, Valid, carried_after, stepped, Allows, rest, opening}
use Rattle.atomic_table.proofs.Lists.{at_set, set_else, exchanged}
use Rattle.cts_turn.specs.declared.rule.View.{View}
use Rattle.cts_turn.specs.Lists.{has, climbs, makers_from, StartsWith, of, AllBy}
use Rattle.cts_turn.specs.Rule.{Fits, AtHome, HasTurn, Stood, Whole, entered, Entered, enters, told, adds, leaves, looks, starting}
use Rattle.cts_turn.proofs.Makers.{climbs_on, begins_shorter, has_from_below, has_from, of_none, of_more, none_has, only, set_at, one_long}

module _ {S E G : Type 0} (maker : E → ℕ) (list : S → List E) (basis : S → G) where
  abbrev pub V : Type 0
  V = View E G

  abbrev pub St : Type 0
  St = State (Option S) V

  abbrev pub M : Type 0
  M = Me (Option S) V

  abbrev pub Ok : G → St → Type 0
  Ok g s = Stood maker list basis g s

  abbrev pub Fit : G → List E → ℕ → V → Type 0
  Fit g whole busy v = Fits maker list basis g whole busy v

  -- no other seat has a maker of w
  abbrev pub Lone : List V → ℕ → V → Type 0
  Lone views id w = (j : ℕ) (u : V) (m : ℕ) → j ≢ id → get_elem? views j ≡ some u → has m w.makers ≡ true → ¬ (has m u.makers ≡ true)

  -- so it is where its makers are among those that it had
  pub fewer : (g : G) (s : St) (r : Ok g s) (id : ℕ) (v w : V) → get_elem? s.views id ≡ some v → ((m : ℕ) → has m w.makers ≡ true → has m v.makers ≡ true) → Lone s.views id w
  fewer g s r id v w at had j u m other e p q = other (r.apart j id m u v e at q (had m p))

  -- the view of one seat becomes w, whose makers no other has, and all others still fit
  abbrev pub moved : (g : G) (s : St) (r : Ok g s) (id : ℕ) (v w : V) (whole : List E) (busy : ℕ) (words : List ℕ) (homes : List (maybe.Option (Option S)))
      → get_elem? s.views id ≡ some v → Lone s.views id w → words ≡ busy ∷ length whole ∷ [] → Fit g whole busy w
      → ((j : ℕ) (u : V) → j ≢ id → get_elem? s.views j ≡ some u → Fit g whole busy u)
      → ((j : ℕ) (u : V) → j ≢ id → get_elem? s.views j ≡ some u → w.holds ≡ true → ¬ (u.holds ≡ true))
      → (busy ≡ 0 → AtHome maker list basis g whole homes) → (busy ≢ 0 → HasTurn maker list basis (set s.views id w))
      → Ok g record { words = words; homes = homes; views = set s.views id w }
  moved g s r id v w whole busy words homes at lone is mine others alone free taken =
      record {
        whole = whole;
        busy = busy;
        words = is;
        fits = λ i u e. ⊎_elim (λ t. subst (Fit g whole busy) t.1 mine) (λ t. others i u t.0 t.1) (at_set s.views id i w u e);
        apart = λ i j m u x e f p q. ⊎_elim
            (λ t. ⊎_elim (λ z. t.0 ∙ sym z.0)
            (λ z. absurd (lone j x m z.0 z.1 (subst (λ (y : V). has m y.makers ≡ true) (sym t.1) p) q)) (at_set s.views id j w x f))
            (λ t. ⊎_elim (λ z. absurd (lone i u m t.0 t.1 (subst (λ (y : V). has m y.makers ≡ true) (sym z.1) q) p))
            (λ z. r.apart i j m u x t.1 z.1 p q) (at_set s.views id j w x f))
            (at_set s.views id i w u e);
        one = λ i j u x e f p q. ⊎_elim
            (λ t. ⊎_elim (λ z. t.0 ∙ sym z.0)
            (λ z. absurd (alone j x z.0 z.1 (subst (λ (y : V). y.holds ≡ true) (sym t.1) p) q)) (at_set s.views id j w x f))
            (λ t. ⊎_elim (λ z. absurd (alone i u t.0 t.1 (subst (λ (y : V). y.holds ≡ true) (sym z.1) q) p))
            (λ z. r.one i j u x t.1 z.1 p q) (at_set s.views id j w x f))
            (at_set s.views id i w u e);
        free = free;
        taken = taken;
      }

  -- the words are the turn and the length of the list
  busy_is : (g : G) (s : St) (r : Ok g s) → slice_index s.words 0 ≡ r.busy
  busy_is g s r = ap (λ ws. slice_index ws 0) r.words

  count_is : (g : G) (s : St) (r : Ok g s) → slice_index s.words 1 ≡ length r.whole
  count_is g s r = ap (λ ws. slice_index ws 1) r.words

  pub same_turn : (g : G) (s : St) (r : Ok g s) → set s.words 0 (slice_index s.words 0) ≡ r.busy ∷ length r.whole ∷ []
  same_turn g s r = ap (λ ws. set ws 0 (slice_index ws 0)) r.words

  same_count : (g : G) (s : St) (r : Ok g s) → set s.words 1 (slice_index s.words 1) ≡ r.busy ∷ length r.whole ∷ []
  same_count g s r = ap (λ ws. set ws 1 (slice_index ws 1)) r.words

  pub still : (views : List V) (id : ℕ) (v w : V) → get_elem? views id ≡ some v → w.holds ≡ v.holds → HasTurn maker list basis views → HasTurn maker list basis (set views id w)
  still views id v w at same t = dite (ℕ_discrete t.0 id)
      (λ e. (id, w, set_at views id v w at, same ∙ ap (λ (y : V). y.holds) (some-injective v t.1 (sym at ∙ ap (get_elem? views) (sym e) ∙ t.2)) ∙ t.3))
      (λ ne. (t.0, t.1, set_else views id t.0 w ne ∙ t.2, t.3))

  abbrev pub All : G → St → Type 0
  All g s = Whole maker list basis g s

  abbrev Somewhere : (V → Type 0) → List V → Type 0
  Somewhere P views = (i : ℕ) × (v : V) × (get_elem? views i ≡ some v) × P v

  pub somewhere : (P : V → Type 0) (views : List V) (id : ℕ) (v w : V) → get_elem? views id ≡ some v → (P v → P w) → Somewhere P views → Somewhere P (set views id w)
  somewhere P views id v w at f t = dite (ℕ_discrete t.0 id)
      (λ e. (id, w, set_at views id v w at, f (subst P (some-injective t.1 v (sym t.2 ∙ ap (get_elem? views) e ∙ at)) t.3)))
      (λ ne. (t.0, t.1, set_else views id t.0 w ne ∙ t.2, t.3))

  -- the view of one seat changes, and neither its makers, nor whether it has the turn
  pub kept : (g : G) (s : St) (rule : All g s) (id : ℕ) (v w : V) (words : List ℕ) → get_elem? s.views id ≡ some v → w.makers ≡ v.makers → w.holds ≡ v.holds → w.seen ≡ v.seen
      → words ≡ rule.core.busy ∷ length rule.core.whole ∷ [] → Fit g rule.core.whole rule.core.busy w → All g record { words = words; homes = s.homes; views = set s.views id w }
  kept g s rule id v w words at same holds seen is mine =
      let r = rule.core in
      record {
        shown = somewhere (λ u. u.seen ≡ r.whole) s.views id v w at (λ e. seen ∙ e) rule.shown;
        manned = λ m lt. somewhere (λ u. has m u.makers ≡ true) s.views id v w at (λ h. subst (λ ms. has m ms ≡ true) (sym same) h) (rule.manned m lt);
        core =
            moved g s r id v w r.whole r.busy words s.homes at (fewer g s r id v w at (λ m h. subst (λ ms. has m ms ≡ true) same h)) is mine (λ j u _ e. r.fits j u e)
            (λ j u other e p q. other (r.one j id u v e at q (sym holds ∙ p))) r.free
            (λ ne. still s.views id v w at holds (r.taken ne));
      }

  abbrev pub Goes : G → St → ℕ → ℕ → M → (ℕ → M → Type 0) → ℕ → Type 0
  Goes g s k id me then x = (w : V) × (a : Act (Option S)) × Valid s.homes me.1 a × All g (stepped s k x id me.1 w a) × then (slice_index s.words k) (w, carried_after me.1 a)

  -- a look at the count
  pub sees : (g : G) (n id : ℕ) (me : M) → Allows (All g) n id me 1 (λ x. x) (looks maker list basis (step n 1 0 0 none) me)
  sees g n id me s rule wide at small =
      let r = rule.core in
      let c : ℕ = slice_index s.words 1 in
      let is : c ≡ length r.whole = count_is g s r in
      let fit = r.fits id me.0 at in
      let w : V = record me.0 { known = c } in
      let below : me.0.known ≤ length r.whole = fit.below in (
        w,
        keeps,
        tt,
        kept g s rule id me.0 w (set s.words 1 c) at refl refl refl (same_count g s r)
            record { begins = fit.begins; besides = fit.besides; below = omega arith; based = fit.based; owns = fit.owns; ranges = fit.ranges; aside_owns = fit.aside_owns; holds = fit.holds },
        ((let k : me.0.known ≤ c = omega arith in k), refl),
      )

  -- the turn is free, and the seat takes it with the slot
  takes_turn : (g : G) (s : St) (rule : All g s) (n id : ℕ) (me : M) (k : ℕ) → get_elem? s.views id ≡ some me.0 → has k me.0.makers ≡ true → me.0.aside_makers ≡ [] → slice_index s.words 0 ≡ 0
      → Goes g s 0 id me (enters maker list basis (step n 0 0 1 none) me) 1
  takes_turn g s rule n id me k at maker_is none_aside hit =
      let r = rule.core in
      let none_has : r.busy ≡ 0 = sym (busy_is g s r) ∙ hit in
      let home = r.free none_has in
      let y : S = home.0 in
      let same : list y ≡ r.whole = home.2 in
      let fit = r.fits id me.0 at in
      let w : V = entered me.0 (list y) in
      let unbusy : (b : ℕ) → b ≡ r.busy → ¬ (b ≡ 1) = λ b e f. omega arith in (
        w,
        takes 0 (Some y),
        ap (λ h. get_elem? h 0) home.1,
        record {
          shown = (id, w, set_at s.views id me.0 w at, same);
          manned = λ m lt. somewhere (λ u. has m u.makers ≡ true) s.views id me.0 w at (λ h. h) (rule.manned m lt);
          core = moved g s r id me.0 w r.whole 1 (set s.words 0 1) (set s.homes 0 none) at (fewer g s r id me.0 w at (λ m h. h)) (ap (λ ws. set ws 0 1) r.words)
              record {
                begins = ([], sym same ∙ sym (append-nil (list y)));
                besides = fit.besides;
                below = subst (λ xs. length (list y) ≤ length xs) same (le_refl (length (list y)));
                based = fit.based;
                owns = λ m h. ap (of maker m) (sym same);
                ranges = fit.ranges;
                aside_owns = fit.aside_owns;
                holds = λ _. (refl, same, (k, maker_is), none_aside);
              }
              (λ j u other e. let f = r.fits j u e in record { begins = f.begins; besides = f.besides; below = f.below; based = f.based; owns = f.owns; ranges = f.ranges; aside_owns = f.aside_owns; holds = λ h. absurd (unbusy r.busy refl (f.holds h).0) })
              (λ j u other e _ h. unbusy r.busy refl ((r.fits j u e).holds h).0)
              (λ e. absurd (omega arith))
              (λ _. (id, w, set_at s.views id me.0 w at, refl));
        },
        (
          (λ _. record {
            state = y;
            slot = refl;
            view = refl;
            based = λ x e. home.3 ∙ sym (fit.based x e);
            begins = subst (λ xs. StartsWith xs me.0.seen) (sym same) fit.begins;
            below = subst (λ xs. me.0.known ≤ length xs) (sym same) fit.below;
            owns = λ m h. ap (of maker m) same ∙ fit.owns m h;
          }),
          λ ne. absurd (ne hit),
        ),
      )

  pub enters_goes : (g : G) (n id : ℕ) (me : M) (k : ℕ) → has k me.0.makers ≡ true → me.0.aside_makers ≡ [] → Allows (All g) n id me 0 (λ x. either (eqb x 0) 1 x) (enters maker list basis (step n 0 0 1 none) me)
  enters_goes g n id me k maker_is none_aside s rule wide at small =
      let r = rule.core in
      let b : ℕ = slice_index s.words 0 in
      exchanged b 0 1 (Goes g s 0 id me (enters maker list basis (step n 0 0 1 none) me))
      (λ hit. takes_turn g s rule n id me k at maker_is none_aside hit)
      (λ miss. (
        me.0,
        keeps,
        tt,
        kept g s rule id me.0 me.0 (set s.words 0 b) at refl refl refl (same_turn g s r) (r.fits id me.0 at),
        ((λ hit. absurd (miss hit)), λ _. refl),
      ))

  -- the holder's new entries join the list, and the count has them
  pub adds_goes : (g : G) (n id k : ℕ) (me : M) (y : S) (new : List E) → me.1 ≡ (0, Some y) ∷ [] → me.0.holds ≡ true → list y ≡ me.0.seen ++ new → AllBy maker me.0.makers new
      → length (list y) < 2 ^ 64 → length (list y) ≡ length me.0.seen + k → Allows (All g) n id me 1 (λ x. (x + k) % 2 ^ 64) (adds maker list basis (step n 1 k 0 none) me)
  adds_goes g n id k me y new slot has_turn is all fits long s rule wide at small =
      let r = rule.core in
      let c : ℕ = slice_index s.words 1 in
      let fit = r.fits id me.0 at in
      let h = fit.holds has_turn in
      let lists : list y ≡ r.whole ++ new = is ∙ ap (λ xs. xs ++ new) h.1 in
      let was : c ≡ length r.whole = count_is g s r in
      let seen_is : length me.0.seen ≡ length r.whole = ap length h.1 in
      let more : (c + k) % 2 ^ 64 ≡ length (list y) =
      ap (λ (z : ℕ). z % 2 ^ 64) (let e : c + k ≡ length (list y) = omega arith in e) ∙ mod-eq_of_lt fits in
      let xs : List E = told maker list basis me.1 in
      let same : xs ≡ list y = ap (told maker list basis) slot in
      let w : V = record me.0 { seen = xs; known = length xs } in (
        w,
        keeps,
        tt,
        record {
          shown = (id, w, set_at s.views id me.0 w at, same);
          manned = λ m lt. somewhere (λ u. has m u.makers ≡ true) s.views id me.0 w at (λ h. h) (rule.manned m lt);
          core = moved g s r id me.0 w (list y) r.busy (set s.words 1 ((c + k) % 2 ^ 64)) s.homes at (fewer g s r id me.0 w at (λ m h. h))
              (ap (λ z. set s.words 1 z) more ∙ ap (λ ws. set ws 1 (length (list y))) r.words)
              record {
                begins = ([], sym same ∙ sym (append-nil xs));
                besides = (fit.besides.0 ++ new, lists ∙ ap (λ zs. zs ++ new) fit.besides.1 ∙ append_assoc me.0.aside fit.besides.0 new);
                below = subst (λ zs. length xs ≤ length zs) same (le_refl (length xs));
                based = fit.based;
                owns = λ m e. ap (of maker m) (sym same);
                ranges = fit.ranges;
                aside_owns = λ m p. absurd (none_has m me.0.aside_makers h.3 p);
                holds = λ e. (h.0, same, h.2, h.3);
              }
              (λ j u other e.
              let f = r.fits j u e in
              let len : length (list y) ≡ length r.whole + length new = ap length lists ∙ length-append r.whole new in
              let low : u.known ≤ length r.whole = f.below in
              let same_of : (m : ℕ) → has m u.makers ≡ true → of maker m (list y) ≡ of maker m r.whole =
              λ m p. ap (of maker m) lists ∙ of_more maker m r.whole new (of_none maker m me.0.makers new (λ q. other (r.apart j id m u me.0 e at p q)) all) in
              record {
                begins = (f.begins.0 ++ new, lists ∙ ap (λ zs. zs ++ new) f.begins.1 ∙ append_assoc u.seen f.begins.0 new);
                besides = (f.besides.0 ++ new, lists ∙ ap (λ zs. zs ++ new) f.besides.1 ∙ append_assoc u.aside f.besides.0 new);
                below = omega arith;
                based = f.based;
                owns = λ m p. same_of m p ∙ f.owns m p;
                ranges = f.ranges;
                aside_owns = λ m p. let q = f.aside_owns m p in (q.0, same_of m q.0 ∙ q.1);
                holds = λ p. absurd (other (r.one j id u me.0 e at p has_turn));
              })
              (λ j u other e p q. other (r.one j id u me.0 e at q has_turn))
              (λ e. let b : r.busy ≡ 1 = h.0 in absurd (omega arith))
              (λ ne. still s.views id me.0 w at refl (r.taken ne));
        },
        refl,
      )

  -- the holder gives the slot back, and the turn is free
  pub leaves_goes : (g : G) (n id : ℕ) (me : M) (y : S) → n ≡ 1 → me.1 ≡ (0, Some y) ∷ [] → me.0.holds ≡ true → list y ≡ me.0.seen → basis y ≡ g
      → Allows (All g) n id me 0 (λ _. 0) (λ _. leaves maker list basis (step n 0 0 0 none) me 0)
  leaves_goes g n id me y one slot has_turn is on s rule wide at small =
      let r = rule.core in
      let fit = r.fits id me.0 at in
      let h = fit.holds has_turn in
      let w : V = record me.0 { holds = false } in (
        w,
        gives,
        tt,
        record {
          shown = (id, w, set_at s.views id me.0 w at, h.1);
          manned = λ m lt. somewhere (λ u. has m u.makers ≡ true) s.views id me.0 w at (λ h. h) (rule.manned m lt);
          core = moved g s r id me.0 w r.whole 0 (set s.words 0 0) (put_back s.homes me.1) at (fewer g s r id me.0 w at (λ m h. h)) (ap (λ ws. set ws 0 0) r.words)
              record { begins = fit.begins; besides = fit.besides; below = fit.below; based = fit.based; owns = fit.owns; ranges = fit.ranges; aside_owns = fit.aside_owns; holds = λ e. cc }
              (λ j u other e. let f = r.fits j u e in record { begins = f.begins; besides = f.besides; below = f.below; based = f.based; owns = f.owns; ranges = f.ranges; aside_owns = f.aside_owns; holds = λ p. absurd (other (r.one j id u me.0 e at p has_turn)) })
              (λ j u other e p. cc)
              (λ _. (y, ap (put_back s.homes) slot ∙ one_long s.homes (some (Some y)) (wide ∙ one), is ∙ h.1, on))
              (λ ne. absurd (ne refl));
        },
        refl,
      )

  pub starts : (y : S) (n : ℕ) (xs : List (Option S)) → n ≡ length (list y) → xs ≡ Some y ∷ []
      → All (basis y) (opening (0 ∷ n ∷ []) xs (starting maker list basis (makers_from 0) (list y) (basis y)))
  starts y n xs is has_it =
      let v : V = starting maker list basis (makers_from 0) (list y) (basis y) in
      record {
        shown = (0, v, refl, refl);
        manned = λ m lt. (0, v, refl, has_from 0 m zero-le lt);
        core = record {
          whole = list y;
          busy = 0;
          words = ap (λ z. 0 ∷ z ∷ []) is;
          fits = λ i u e. subst (Fit (basis y) (list y) 0) (only v u i e).1
              record {
                begins = ([], sym (append-nil (list y)));
                besides = (list y, refl);
                below = le_refl (length (list y));
                based = λ x p. cc;
                owns = λ m p. refl;
                ranges = has_from_below;
                aside_owns = λ m p. cc;
                holds = λ p. cc;
              };
          apart = λ i j m u x e f p q. (only v u i e).0 ∙ sym (only v x j f).0;
          one = λ i j u x e f p q. (only v u i e).0 ∙ sym (only v x j f).0;
          free = λ _. (y, ap (map some) has_it, refl, refl);
          taken = λ ne. absurd (ne refl);
        };
      }

  -- the same, from what the calls before it ensure
  pub adds_leaving : (g : G) (n id count before : ℕ) (old me : M) (y : S) → me ≡ (old.0, (0, Some y) ∷ rest old.1) → (old.1 ≡ (0, None) ∷ []) × (old.0.holds ≡ true)
      → before ≡ length old.0.seen → count ≡ length (list y) → count < 2 ^ 64 → (new : List E) × (list y ≡ old.0.seen ++ new) × AllBy maker old.0.makers new
      → Allows (All g) n id me 1 (λ x. (x + (count - before)) % 2 ^ 64) (adds maker list basis (step n 1 (count - before) 0 none) me)
  adds_leaving g n id count before old me y e out was now small more =
      let k : ℕ = count - before in
      let len : length (list y) ≡ length old.0.seen + length more.0 = ap length more.1 ∙ length-append old.0.seen more.0 in
      subst (λ (m : M). Allows (All g) n id m 1 (λ x. (x + k) % 2 ^ 64) (adds maker list basis (step n 1 k 0 none) m)) (sym e)
      (adds_goes g n id k (old.0, (0, Some y) ∷ rest old.1) y more.0 (ap (λ r. (0, Some y) ∷ rest r) out.0) out.1 more.1 more.2 (omega arith) (omega arith))

  -- the view of the holder once the count has the new entries
  added : (old me next : M) (y : S) → me ≡ (old.0, (0, Some y) ∷ rest old.1) → next ≡ (record me.0 { seen = told maker list basis me.1; known = length (told maker list basis me.1) }, me.1)
      → old.1 ≡ (0, None) ∷ [] → next ≡ (record old.0 { seen = list y; known = length (list y) }, (0, Some y) ∷ [])
  added old me next y e f out = f
      ∙ ap (λ (m : M). (record m.0 { seen = told maker list basis m.1; known = length (told maker list basis m.1) }, m.1)) e
      ∙ ap (λ r. (record old.0 { seen = list y; known = length (list y) }, (0, Some y) ∷ rest r)) out

  pub leaves_leaving : (g : G) (n id : ℕ) (old me next : M) (y : S) → n ≡ 1 → me ≡ (old.0, (0, Some y) ∷ rest old.1)
      → next ≡ (record me.0 { seen = told maker list basis me.1; known = length (told maker list basis me.1) }, me.1) → (old.1 ≡ (0, None) ∷ []) × (old.0.holds ≡ true) → basis y ≡ g
      → Allows (All g) n id next 0 (λ _. 0) (λ _. leaves maker list basis (step n 0 0 0 none) next 0)
  leaves_leaving g n id old me next y one e f out on =
      subst (λ (m : M). Allows (All g) n id m 0 (λ _. 0) (λ _. leaves maker list basis (step n 0 0 0 none) m 0)) (sym (added old me next y e f out.0))
      (leaves_goes g n id (record old.0 { seen = list y; known = length (list y) }, (0, Some y) ∷ []) y one refl out.1 refl on)

  pub has_left : (old me next last : M) (y : S) → me ≡ (old.0, (0, Some y) ∷ rest old.1)
      → next ≡ (record me.0 { seen = told maker list basis me.1; known = length (told maker list basis me.1) }, me.1) → old.1 ≡ (0, None) ∷ []
      → last ≡ (record next.0 { holds = false }, rest next.1) → last ≡ (record old.0 { holds = false; seen = list y; known = length (list y) }, [])
  has_left old me next last y e f out l = l ∙ ap (λ (m : M). (record m.0 { holds = false }, rest m.1)) (added old me next y e f out)

  pub slot_taken : (m n : M) → Entered maker list basis m n → (x : Option S) × (n.1 ≡ (0, x) ∷ rest n.1)
  slot_taken m n e = (Some e.state, e.slot ∙ ap (λ z. (0, Some e.state) ∷ rest z) (sym e.slot))

  pub climbs_entered : (old v w : V) (xs : List E) → v ≡ entered old xs → w ≡ v → climbs 0 old.found (length old.seen) ≡ true → StartsWith xs old.seen → climbs 0 w.found (length w.seen) ≡ true
  climbs_entered old v w xs e f up p = subst (λ (u : V). climbs 0 u.found (length u.seen) ≡ true) (sym (f ∙ e)) (climbs_on 0 old.found (length old.seen) (length xs) up (begins_shorter xs old.seen p))
