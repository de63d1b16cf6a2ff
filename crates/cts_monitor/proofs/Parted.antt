-- Where the events at entries from a place on begin.
use Rattle.std.proofs.Common.{◌≡◌, ℕ, zero, suc, ◌-◌, ◌≤◌, ◌<◌, Bool, true, false, List, [], ◌∷◌, ◌++◌, length, take, drop, get_or, not, refl, sym, ◌∙◌, ap, subst, arith, length-drop, length-take}
use Rattle.std.specs.Prelude.{if◌then◌else◌, nat_le}
use Rattle.std.specs.List.{filter}
use Rattle.std.proofs.lemmas.Bool.Decides.{nat_tests}
use Rattle.std.proofs.lemmas.List.{take-append-drop}
use Rattle.std.proofs.lemmas.List.Filters.{length-filter_both}
use Rattle.cts_def.specs.Sites.{SiteData}
use Rattle.cts_entry.specs.declared.entry.Entry.{Entry}
use Rattle.cts_monitor.specs.Events.{events, events_at, is_from}
use Rattle.cts_monitor.specs.Gathered.{gathered_from}
use Rattle.cts_monitor.specs.Grid.{IsPartedAt}
use Rattle.cts_monitor.specs.declared.types.LimitsEvent.{LimitsEvent}
use Rattle.cts_monitor.proofs.Placed.{all_from, gathered_join, none_from}

tail_from : (site : SiteData) (n : ℕ) (before rest : List Entry) → (0 < length rest → n ≤ length before) → filter (is_from n) (gathered_from (events_at site) before rest) ≡ gathered_from (events_at site) before rest
unfolding gathered_from
tail_from site n before [] h = refl
tail_from site n before (e ∷ rest) h = all_from site n before (e ∷ rest) (h (omega arith))

-- the events of a history stand in two parts
pub parted : (site : SiteData) (h : List Entry) (n : ℕ) → IsPartedAt n (events site h)
parted site h n =
    let front = take n h in (
      gathered_from (events_at site) [] front,
      gathered_from (events_at site) front (drop n h),
      ap (events site) (sym (take-append-drop n h)) ∙ gathered_join site [] front (drop n h),
      none_from site n [] front (omega (arith, length-take n h)),
      tail_from site n front (drop n h) (λ some. omega (arith, some, length-take n h, length-drop n h)),
    )

module _ {E : Type 0} (test : E → Bool) where
  few : (xs : List E) → length (filter test xs) ≤ length xs
  few xs = omega (arith, length-filter_both test (λ x. not (test x)) (λ x. refl) xs)

  step : (b : Bool) (y : E) (ys : List E) → test y ≡ b → filter test (y ∷ ys) ≡ (if b then y ∷ filter test ys else filter test ys)
  step b y ys t = ap (λ (c : Bool). if c then y ∷ filter test ys else filter test ys) t

  all_step : (b : Bool) (y : E) (ys : List E) → test y ≡ b → filter test (y ∷ ys) ≡ y ∷ ys → (b ≡ true) × (filter test ys ≡ ys)
  all_step true y ys t h = let s : y ∷ filter test ys ≡ y ∷ ys = sym (step true y ys t) ∙ h in (refl, cc)
  all_step false y ys t h = absurd (omega (arith, ap length (sym (step false y ys t) ∙ h), few ys))

  none_step : (b : Bool) (y : E) (ys : List E) → test y ≡ b → filter test (y ∷ ys) ≡ [] → (b ≡ false) × (filter test ys ≡ [])
  none_step true y ys t h = absurd (omega (arith, ap length (sym (step true y ys t) ∙ h)))
  none_step false y ys t h = (refl, sym (step false y ys t) ∙ h)

  all_pass : (xs : List E) (k : ℕ) (x d : E) → filter test xs ≡ xs → k < length xs → x ≡ get_or xs k d → test x ≡ true
  all_pass [] k x d h lt is = absurd (omega (arith, lt))
  all_pass (y ∷ ys) zero x d h lt is = ap test is ∙ (all_step (test y) y ys refl h).0
  all_pass (y ∷ ys) (suc k) x d h lt is = all_pass ys k x d (all_step (test y) y ys refl h).1 (omega (arith, lt)) is

  -- what passes begins after the last that does not
  pub begins : (front back : List E) (k : ℕ) (x d : E) → filter test front ≡ [] → filter test back ≡ back → k < length (front ++ back) → x ≡ get_or (front ++ back) k d → test x ≡ false
      → filter test (drop (suc k) (front ++ back)) ≡ drop (suc k) (front ++ back) → drop (suc k) (front ++ back) ≡ filter test (front ++ back)
  begins [] back k x d none all lt is fails kept = let passes = all_pass back k x d all lt is in cc
  begins (y ∷ ys) back zero x d none all lt is fails kept =
      let s = none_step (test y) y ys refl none in
      sym kept ∙ sym (step false y (ys ++ back) s.0)
  begins (y ∷ ys) back (suc k) x d none all lt is fails kept =
      let s = none_step (test y) y ys refl none in
      begins ys back k x d s.1 all (omega (arith, lt)) is fails kept ∙ sym (step false y (ys ++ back) s.0)

-- they begin after the last event at an entry before the place
pub first_found : (events : List LimitsEvent) (n k : ℕ) (x d : LimitsEvent) → IsPartedAt n events → k ≤ length events → filter (is_from n) (drop k events) ≡ drop k events → 0 < k → x ≡ get_or events (k - 1) d → x.at < n → drop k events ≡ filter (is_from n) events
first_found events n k x d parts within kept some is before =
    let front = parts.0 in
    let back = parts.1 in
    let one : k ≡ suc (k - 1) = omega (arith, some) in
    let lt : k - 1 < length (front ++ back) = omega (arith, some, within, ap length parts.2) in
    let there : x ≡ get_or (front ++ back) (k - 1) d = is ∙ ap (λ (l : List LimitsEvent). get_or l (k - 1) d) parts.2 in
    let fails : nat_le n x.at ≡ false = grind (arith, nat_tests) in
    let rest : filter (is_from n) (drop (suc (k - 1)) (front ++ back)) ≡ drop (suc (k - 1)) (front ++ back) =
    subst (λ (l : List LimitsEvent). filter (is_from n) (drop (suc (k - 1)) l) ≡ drop (suc (k - 1)) l) parts.2 (subst (λ (m : ℕ). filter (is_from n) (drop m events) ≡ drop m events) one kept) in
    let found = begins (is_from n) front back (k - 1) x d parts.3 parts.4 lt there fails rest in
    subst (λ (m : ℕ). drop m events ≡ filter (is_from n) events) (sym one) (subst (λ (l : List LimitsEvent). drop (suc (k - 1)) l ≡ filter (is_from n) l) (sym parts.2) found)
