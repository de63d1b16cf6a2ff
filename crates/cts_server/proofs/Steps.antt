-- Steps of the loops that hand out passes and join them.
use Rattle.std.proofs.Common.{◌≡◌, ℕ, ◌+◌, ◌<◌, ◌||◌, true, false, ◌==◌, Bool, List, [], ◌∷◌, ◌++◌, map, refl, sym, ◌∙◌, ap, subst, arith}
use Rattle.std.proofs.Common.{append_assoc, ⊎_elim, ◌⊎◌, inl, inr, ◌≢◌, eq-eqb, length, count_by, cond}
use Rattle.std.specs.List.{AllZip, AllByRecursion, flat_map, fold}
use Rattle.std.proofs.lemmas.List.{append-nil}
use Rattle.cts_def.specs.Makers.{server}
use Rattle.cts_entry.specs.declared.entry.Entry.{Entry}
use Rattle.cts_outside.specs.Crews.{CancelledFrom}
use Rattle.cts_outside.proofs.InOrder.{joined_more}
use Rattle.cts_server.specs.declared.running.Task.{Task}
use Rattle.cts_server.specs.Lasting.{Lasts}
use Rattle.cts_server.specs.Tasks.{Did, Holds, Leaves, Rising, is_next}
use Rattle.cts_trace.specs.Makers.{of_maker}
use Rattle.cts_turn.specs.Lists.{has, StartsWith, makers_from}
use Rattle.cts_turn.specs.Passes.{HasAll}
use Rattle.cts_turn.proofs.Makers.{has_left_part, has_right_part, has_from, has_append}
use Rattle.std.proofs.lemmas.Bool.Decides.{eqb_tells, leb_tells, nat_tests}

pub all_more : {X : Type 0} (P : X → Type 0) (xs : List X) (x : X) → AllByRecursion P xs → P x → AllByRecursion P (xs ++ x ∷ [])
all_more P [] x all p = (p, tt)
all_more P (y ∷ xs) x all p = (all.0, all_more P xs x all.1 p)

pub zip_through : {A B C : Type 0} (R : A → B → Type 0) (Q : B → C → Type 0) (S : A → C → Type 0) (xs : List A) (bs : List B) (cs : List C)
    → ((a : A) (b : B) (c : C) → R a b → Q b c → S a c) → AllZip R xs bs → AllZip Q bs cs → AllZip S xs cs
zip_through R Q S [] [] [] f r q = tt
zip_through R Q S [] [] (c ∷ cs) f r q = absurd q
zip_through R Q S [] (b ∷ bs) cs f r q = absurd r
zip_through R Q S (a ∷ xs) [] cs f r q = absurd r
zip_through R Q S (a ∷ xs) (b ∷ bs) [] f r q = absurd q
zip_through R Q S (a ∷ xs) (b ∷ bs) (c ∷ cs) f r q = (f a b c r.0 q.0, zip_through R Q S xs bs cs f r.1 q.1)

pub zip_right : {B C : Type 0} (Q : B → C → Type 0) (P : C → Type 0) (bs : List B) (cs : List C) → ((b : B) (c : C) → Q b c → P c) → AllZip Q bs cs
    → AllByRecursion P cs
zip_right Q P [] [] f q = tt
zip_right Q P [] (c ∷ cs) f q = absurd q
zip_right Q P (b ∷ bs) [] f q = absurd q
zip_right Q P (b ∷ bs) (c ∷ cs) f q = (f b c q.0, zip_right Q P bs cs f q.1)

-- one more maker is in somebody's hands: a worker's, or those of nobody
pub cover_job : (k j : ℕ) (idle taken : List ℕ) → j ≡ k → ((m : ℕ) → m < k → has m (idle ++ taken) ≡ true) → (m : ℕ) → m < k + 1
    → has m (idle ++ (taken ++ j ∷ [])) ≡ true
cover_job k j idle taken e before m lt = ⊎_elim
    (λ t. let is : j ≡ m = omega (arith, e, t.1, t.0) in has_right_part m idle (taken ++ j ∷ [])
    (has_right_part m taken (j ∷ []) (ap (λ (b : Bool). b || false) (eq-eqb j m is))))
    (λ t. ⊎_elim
    (λ h. has_left_part m idle (taken ++ j ∷ []) h)
    (λ h. has_right_part m idle (taken ++ j ∷ []) (has_left_part m taken (j ∷ []) h))
    (has_append m idle taken (before m (omega (arith, t.1)))))
    (leb_tells k m)

pub cover_idle : (k : ℕ) (idle more taken : List ℕ) → has k more ≡ true → ((m : ℕ) → m < k → has m (idle ++ taken) ≡ true) → (m : ℕ) → m < k + 1
    → has m ((idle ++ more) ++ taken) ≡ true
cover_idle k idle more taken now before m lt = ⊎_elim
    (λ t. let is : k ≡ m = omega (arith, t.1, t.0) in subst (λ (x : ℕ). has x ((idle ++ more) ++ taken) ≡ true) is
    (has_left_part k (idle ++ more) taken (has_right_part k idle more now)))
    (λ t. ⊎_elim
    (λ h. has_left_part m (idle ++ more) taken (has_left_part m idle more h))
    (λ h. has_right_part m (idle ++ more) taken h)
    (has_append m idle taken (before m (omega (arith, t.1)))))
    (leb_tells k m)

pub test_same : (a b : ℕ) → (a == b) ≡ true → a ≡ b
test_same a b e = elim (eqb_tells a b) [
  | inl t ↦ t.1
  | inr t ↦ absurd (let f : true ≡ false = sym e ∙ t.0 in cc)
]

pub test_apart : (a b : ℕ) → (a == b) ≡ false → a ≢ b
test_apart a b e = elim (eqb_tells a b) [
  | inl t ↦ absurd (let f : true ≡ false = sym t.0 ∙ e in cc)
  | inr t ↦ t.1
]

-- a list that is told to be empty
pub nothing_left : {X : Type 0} (items : List X) (count : ℕ) (empty : Bool) → count ≡ length items → empty ≡ true → empty ≡ (count == 0) → items ≡ []
nothing_left [] count empty long told is = refl
nothing_left (x ∷ items) count empty long told is = absurd (let none = test_same count 0 (sym is ∙ told) in omega (arith, none, long))

pub next_is : {D : Type 0} (by : ℕ) (ts rest : List (Task D)) (t : Task D) → ts ≡ t ∷ rest → is_next by ts ≡ true → t.by ≡ by
next_is by [] rest t e n = absurd cc
next_is by (s ∷ ts) rest t e n = let first : s ≡ t = cc in test_same t.by by (subst (λ (x : Task _). (x.by == by) ≡ true) first n)

pub rises_taken : {D : Type 0} (k : ℕ) (ts rest : List (Task D)) (t : Task D) → ts ≡ t ∷ rest → Rising k ts → t.by ≡ k → Rising (k + 1) rest
rises_taken k ts rest t e r is = let s = subst (λ (l : List (Task _)). Rising k l) e r in subst (λ (n : ℕ). Rising (n + 1) rest) is s.2

pub rises_idle : {D : Type 0} (k : ℕ) (ts : List (Task D)) → Rising k ts → is_next k ts ≡ false → Rising (k + 1) ts
rises_idle k [] r n = tt
rises_idle k (t ∷ ts) r n = let ne = test_apart t.by k n in (omega (arith, r.0, ne), r.1, r.2)

pub noted : {E N : Type 0} (f : E → N) (notes all : List N) (ends after : List E) (e : E) → ends ≡ e ∷ after → notes ++ map f ends ≡ all
    → (notes ++ f e ∷ []) ++ map f after ≡ all
noted f notes all ends after e split is = append_assoc notes (f e ∷ []) (map f after) ∙ ap (λ (l : List _). notes ++ map f l) (sym split) ∙ is

pub noted_all : {E N : Type 0} (f : E → N) (notes all : List N) (ends : List E) → ends ≡ [] → notes ++ map f ends ≡ all → notes ≡ all
noted_all f notes all ends none is = sym (append-nil notes) ∙ ap (λ (l : List _). notes ++ map f l) (sym none) ∙ is

pub made : {E : Type 0} (f : E → List ℕ) (ms ns all : List ℕ) (ends after : List E) (e : E) → ends ≡ e ∷ after → ns ≡ ms ++ f e
    → ms ++ flat_map f ends ≡ all → ns ++ flat_map f after ≡ all
made f ms ns all ends after e split joined is = ap (λ (l : List ℕ). l ++ flat_map f after) joined ∙ append_assoc ms (f e) (flat_map f after)
    ∙ ap (λ (l : List _). ms ++ flat_map f l) (sym split) ∙ is

pub numbers_are : {D J : Type 0} (R : Task D → J → Type 0) (by_of : J → ℕ) → ((t : Task D) (j : J) → R t j → by_of j ≡ t.by) → (ts : List (Task D))
    (js : List J) → AllZip R ts js → map by_of js ≡ map (λ t. t.by) ts
numbers_are R by_of f [] [] z = refl
numbers_are R by_of f [] (j ∷ js) z = absurd z
numbers_are R by_of f (t ∷ ts) [] z = absurd z
numbers_are R by_of f (t ∷ ts) (j ∷ js) z = ap (λ (n : ℕ). n ∷ map by_of js) (f t j z.0) ∙ ap (λ (l : List ℕ). t.by ∷ l) (numbers_are R by_of f ts js z.1)

pub cover_all : (m k : ℕ) (mine idle taken numbers : List ℕ) → k ≡ 31 → mine ≡ makers_from k → m < 32
    → ((n : ℕ) → n < k → has n (idle ++ taken) ≡ true) → taken ≡ numbers → has m (mine ++ (idle ++ numbers)) ≡ true
cover_all m k mine idle taken numbers ended mine_is below before same = ⊎_elim
    (λ t. has_left_part m mine (idle ++ numbers) (subst (λ (l : List ℕ). has m l ≡ true) (sym mine_is) (has_from k m t.1 below)))
    (λ t. has_right_part m mine (idle ++ numbers) (subst (λ (l : List ℕ). has m (idle ++ l) ≡ true) same (before m (omega (arith, t.1)))))
    (leb_tells k m)

pub none_rise : {D : Type 0} (ts : List (Task D)) → Rising 31 ts → ts ≡ []
none_rise [] r = refl
none_rise (t ∷ ts) r = absurd (omega (arith, r.0, r.1))

module _ {D N B : Type 0} (does : D → ℕ → B → List ℕ → List Entry → N → Type 0) (basis : B)
    (keeps : (d : D) (by : ℕ) (basis : B) (found : List ℕ) (note : N) → Lasts by (λ (history : List Entry). does d by basis found history note)) where
  -- what holds of what a pass saw holds of what it sees later
  pub kept : (ms ns : List ℕ) (seen whole : List Entry) → ((m : ℕ) → has m ms ≡ true → has m ns ≡ true) → StartsWith whole seen
      → ((m : ℕ) → has m ms ≡ true → of_maker m whole ≡ of_maker m seen)
      → (ts : List (Task D)) (notes : List N) → AllZip (Holds does basis ms seen) ts notes → AllZip (Holds does basis ns whole) ts notes
  kept ms ns seen whole more begins own [] [] z = tt
  kept ms ns seen whole more begins own [] (n ∷ notes) z = absurd z
  kept ms ns seen whole more begins own (t ∷ ts) [] z = absurd z
  kept ms ns seen whole more begins own (t ∷ ts) (n ∷ notes) z = (
    record {
      found = z.0.found;
      did = keeps t.work t.by basis z.0.found n seen whole begins (own t.by z.0.maker) z.0.did;
      maker = more t.by z.0.maker;
    },
    kept ms ns seen whole more begins own ts notes z.1,
  )

  -- one more pass is joined, and its note kept
  pub gathered : {E : Type 0} (makers_of found_of : E → List ℕ) (seen_of : E → List Entry) (note_of : E → N) (all done left : List (Task D))
      (notes : List N) (ends after : List E) (end : E) (ms ns : List ℕ) (seen whole : List Entry)
      → ends ≡ end ∷ after → done ++ left ≡ all → AllZip (Holds does basis ms seen) done notes
      → AllZip (λ t e. Leaves does basis t (makers_of e) (found_of e) (seen_of e) (note_of e)) left ends
      → ns ≡ ms ++ makers_of end → StartsWith whole seen → StartsWith whole (seen_of end)
      → ((m : ℕ) → has m ms ≡ true → of_maker m whole ≡ of_maker m seen)
      → ((m : ℕ) → has m (makers_of end) ≡ true → of_maker m whole ≡ of_maker m (seen_of end))
      → (more rest : List (Task D)) × (more ++ rest ≡ all) × AllZip (Holds does basis ns whole) more (notes ++ note_of end ∷ [])
      × AllZip (λ t e. Leaves does basis t (makers_of e) (found_of e) (seen_of e) (note_of e)) rest after
  gathered makers_of found_of seen_of note_of all done left notes ends after end ms ns seen whole is split z q joined begins theirs my_own their_own =
      joined_more (Holds does basis ns whole) (λ t e. Leaves does basis t (makers_of e) (found_of e) (seen_of e) (note_of e)) done left all notes ends
      after end (note_of end) split
      (kept ms ns seen whole (λ m h. subst (λ (l : List ℕ). has m l ≡ true) (sym joined) (has_left_part m ms (makers_of end) h)) begins my_own done
      notes z) q is
      (λ t leaves.
      let is_his : has t.by (makers_of end) ≡ true = subst (λ (l : List ℕ). has t.by l ≡ true) (sym leaves.makers_are)
      (ap (λ (b : Bool). b || false) (eq-eqb t.by t.by refl)) in
      record {
        found = found_of end;
        did = keeps t.work t.by basis (found_of end) (note_of end) (seen_of end) whole theirs (their_own t.by is_his) leaves.did;
        maker = subst (λ (l : List ℕ). has t.by l ≡ true) (sym joined) (has_right_part t.by ms (makers_of end) is_his);
      })

-- the numbers of those whose passes came back
pub made_by : {D E : Type 0} (makers_of : E → List ℕ) (ts : List (Task D)) (ends : List E) → AllZip (λ t e. makers_of e ≡ t.by ∷ []) ts ends
    → flat_map makers_of ends ≡ map (λ t. t.by) ts
made_by makers_of [] [] z = refl
made_by makers_of [] (e ∷ ends) z = absurd z
made_by makers_of (t ∷ ts) [] z = absurd z
made_by makers_of (t ∷ ts) (e ∷ ends) z = ap (λ (l : List ℕ). l ++ flat_map makers_of ends) z.0 ∙ ap (λ (l : List ℕ). t.by ∷ l) (made_by makers_of ts ends z.1)

-- what a job left, as its task was to leave it
pub left_by : {T D N B J E : Type 0} (does : T → D → ℕ → B → List ℕ → List Entry → N → Type 0) (basis_of : T → B) (P : T → E → Type 0)
    (X : J → E → Type 0) (turn_of : J → T) (by_of : J → ℕ) (work_of : J → D)
    (makers_of found_of : E → List ℕ) (seen_of : E → List Entry) (note_of : E → N) (turn : T) (t : Task D) (j : J) (e : E)
    → (by_of j ≡ t.by) × (work_of j ≡ t.work) × (turn_of j ≡ turn)
    → P (turn_of j) e × (makers_of e ≡ by_of j ∷ []) × X j e × does (turn_of j) (work_of j) (by_of j) (basis_of (turn_of j)) (found_of e) (seen_of e)
    (note_of e)
    → P turn e × Leaves (does turn) (basis_of turn) t (makers_of e) (found_of e) (seen_of e) (note_of e)
left_by does basis_of P X turn_of by_of work_of makers_of found_of seen_of note_of turn t j e r w = (
  subst (λ (x : _). P x e) r.2 w.0,
  record {
    makers_are = w.1 ∙ ap (λ (n : ℕ). n ∷ []) r.0;
    did = subst (λ (b : ℕ). does turn t.work b (basis_of turn) (found_of e) (seen_of e) (note_of e)) r.0
        (subst (λ (d : _). does turn d (by_of j) (basis_of turn) (found_of e) (seen_of e) (note_of e)) r.1
        (subst (λ (x : _). does x (work_of j) (by_of j) (basis_of x) (found_of e) (seen_of e) (note_of e)) r.2 w.3));
  },
)

pub either_way : {W A B : Type 0} → (W × A) ⊎ (W × B) → W
either_way q = elim q [ inl w ↦ w.0 | inr w ↦ w.0 ]

pub zip_map : {A B : Type 0} (R Q : A → B → Type 0) (xs : List A) (ys : List B) → ((a : A) (b : B) → R a b → Q a b) → AllZip R xs ys → AllZip Q xs ys
zip_map R Q [] [] f z = tt
zip_map R Q [] (y ∷ ys) f z = absurd z
zip_map R Q (x ∷ xs) [] f z = absurd z
zip_map R Q (x ∷ xs) (y ∷ ys) f z = (f x y z.0, zip_map R Q xs ys f z.1)

pub zip_length : {A B : Type 0} (R : A → B → Type 0) (xs : List A) (ys : List B) → AllZip R xs ys → length ys ≡ length xs
zip_length R [] [] z = refl
zip_length R [] (y ∷ ys) z = absurd z
zip_length R (x ∷ xs) [] z = absurd z
zip_length R (x ∷ xs) (y ∷ ys) z = let h = zip_length R xs ys z.1 in omega arith

pub tasks_back : {D J : Type 0} (X : J → Type 0) (by_of : J → ℕ) (work_of : J → D) (ts : List (Task D)) (js : List J)
    → AllZip (λ t j. (by_of j ≡ t.by) × (work_of j ≡ t.work) × X j) ts js
    → map (λ j. record { by = by_of j; work = work_of j }) js ≡ ts
tasks_back X by_of work_of [] [] z = refl
tasks_back X by_of work_of [] (j ∷ js) z = absurd z
tasks_back X by_of work_of (t ∷ ts) [] z = absurd z
tasks_back {D} X by_of work_of (t ∷ ts) (j ∷ js) z =
    let first : (record { by = by_of j; work = work_of j }) ≡ t = ap (λ (n : ℕ). record { by = n; work = work_of j }) z.0.0
    ∙ ap (λ (d : D). record { by = t.by; work = d }) z.0.1 in
    ap (λ (x : Task D). x ∷ map (λ j. record { by = by_of j; work = work_of j }) js) first ∙ ap (λ (l : List (Task D)). t ∷ l)
    (tasks_back X by_of work_of ts js z.1)

-- what was done holds, whichever makers' passes are joined
pub did_all : {D N B : Type 0} (does : D → ℕ → B → List ℕ → List Entry → N → Type 0) (basis : B) (makers : List ℕ) (history : List Entry)
    (ts : List (Task D)) (notes : List N)
    → AllZip (Holds does basis makers history) ts notes → AllZip (Did does basis history) ts notes
did_all does basis makers history ts notes z = zip_map (Holds does basis makers history) (Did does basis history) ts notes (λ t n h. (h.found, h.did)) z

-- a crew in turn cancelled just those of its numbers, as the notes say too
pub cancelled_map : {E N : Type 0} (p : N → Bool) (f : E → N) (refused : ℕ → Bool) (n : ℕ) (ends : List E)
    → CancelledFrom (λ e. p (f e)) refused n ends → CancelledFrom p refused n (map f ends)
cancelled_map p f refused n [] c = tt
cancelled_map p f refused n (e ∷ ends) c = (c.0, cancelled_map p f refused (n + 1) ends c.1)

fold_map : {A B : Type 0} (f : A → B) (h : ℕ → B → ℕ) (a : ℕ) (xs : List A) → fold h a (map f xs) ≡ fold (λ n x. h n (f x)) a xs
fold_map f h a [] = refl
fold_map f h a (x ∷ xs) = fold_map f h (h a (f x)) xs

pub count_map : {A B : Type 0} (p : B → Bool) (f : A → B) (xs : List A) → count_by p (map f xs) ≡ count_by (λ x. p (f x)) xs
count_map p f xs = fold_map f (λ n x. n + cond (p x) 1 0) 0 xs

-- all passes are joined
pub all_home : {D E : Type 0} (makers_of : E → List ℕ) (ts : List (Task D)) (ends : List E) (mine idle home last : List ℕ)
    → HasAll (mine ++ (idle ++ map (λ t. t.by) ts)) → home ≡ mine ++ idle → last ≡ home ++ flat_map makers_of ends
    → AllZip (λ t e. makers_of e ≡ t.by ∷ []) ts ends → HasAll last
all_home makers_of ts ends mine idle home last all home_is last_is z m below =
    subst (λ (l : List ℕ). has m l ≡ true) (sym (last_is ∙ ap (λ (l : List ℕ). l ++ flat_map makers_of ends) home_is ∙ append_assoc mine idle
    (flat_map makers_of ends) ∙ ap (λ (l : List ℕ). mine ++ (idle ++ l)) (made_by makers_of ts ends z))) (all m below)

-- a maker without a task is one of those whose passes stayed idle
pub idle_home : (m : ℕ) (mine idle numbers home : List ℕ) → has m (mine ++ (idle ++ numbers)) ≡ true → has m numbers ≡ false → home ≡ mine ++ idle
    → has m home ≡ true
idle_home m mine idle numbers home all none is =
    subst (λ (l : List ℕ). has m l ≡ true) (sym is) (⊎_elim
    (λ h. has_left_part m mine idle h)
    (λ t. ⊎_elim (λ h. has_right_part m mine idle h) (λ h. absurd (let f : true ≡ false = sym h ∙ none in cc)) (has_append m idle numbers t))
    (has_append m mine (idle ++ numbers) all))

apart : (a b : ℕ) → a < b → (a == b) ≡ false
apart a b lt = grind (arith, nat_tests)

-- no task is that of the server itself
pub none_is_server : {D : Type 0} (from : ℕ) (ts : List (Task D)) → Rising from ts → has server (map (λ t. t.by) ts) ≡ false
none_is_server from [] r = refl
none_is_server from (t ∷ ts) r =
    ap (λ (b : Bool). b || has server (map (λ t. t.by) ts)) (apart t.by server r.1) ∙ none_is_server (t.by + 1) ts r.2
