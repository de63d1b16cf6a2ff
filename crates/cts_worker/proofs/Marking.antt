-- Which makers have ended, after one entry more.
use Rattle.std.proofs.Common.{◌≡◌, ◌≢◌, ◌∷◌, [], ◌++◌, ℕ, zero, suc, ◌+◌, ◌<◌, ◌≤◌, ◌==◌, ◌⊎◌, Bool, true, false, ◌&&◌, List, length, set, get_or, refl, sym, ◌∙◌, ap, subst, arith, inl, inr, ⊎_elim}
use Rattle.std.proofs.lemmas.Bool.Decides.{eqb_tells}
use Rattle.std.proofs.lemmas.Grind.{common_steps}
use Rattle.std.proofs.lemmas.List.{get_or-set_other, get_or-set_same, length-set}
use Rattle.std.proofs.lemmas.List.Folds.{list_any-append}
use Rattle.std.specs.List.{list_any}
use Rattle.cts_def.specs.Sites.{IsSoundSite, SiteData}
use Rattle.cts_entry.specs.declared.entry.Entry.{Entry}
use Rattle.cts_entry.specs.Legal.{has_ended, is_ended}
use Rattle.cts_entry.specs.Workers.{is_worker}
use Rattle.cts_worker.specs.Followed.{EndedTell, HaveEnded, IsDone}

ended_skips : (m : ℕ) (before : List Entry) (e : Entry) → (e.by == m && is_ended e.what) ≡ false → has_ended m (before ++ e ∷ []) ≡ has_ended m before
ended_skips m before e h = rw (list_any-append (λ (y : Entry). (y.by == m) && is_ended y.what) before (e ∷ [])) (grind (arith, common_steps))

ended_now : (m : ℕ) (before : List Entry) (e : Entry) → (e.by == m && is_ended e.what) ≡ true → has_ended m (before ++ e ∷ []) ≡ true
ended_now m before e h = rw (list_any-append (λ (y : Entry). (y.by == m) && is_ended y.what) before (e ∷ [])) (grind (arith, common_steps))

ends_nobody : (e : Entry) (m : ℕ) → is_ended e.what ≡ false → (e.by == m && is_ended e.what) ≡ false
ends_nobody e m h = grind (arith, common_steps)

ends_another : (e : Entry) (m : ℕ) → e.by ≢ m → (e.by == m && is_ended e.what) ≡ false
ends_another e m d = grind (arith, common_steps)

ends_it : (e : Entry) (m : ℕ) → e.by ≡ m → is_ended e.what ≡ true → (e.by == m && is_ended e.what) ≡ true
ends_it e m same h = grind (arith, common_steps)

-- an entry that ends nobody
pub tell_on : (ended : List Bool) (before : List Entry) (e : Entry) → is_ended e.what ≡ false → EndedTell ended before → EndedTell ended (before ++ e ∷ [])
tell_on ended before e h t = record { long = t.long; tell = λ m lt. t.tell m lt ∙ sym (ended_skips m before e (ends_nobody e m h)) }

-- one that ends a maker of which nothing is told
pub tell_past : (ended : List Bool) (before : List Entry) (e : Entry) → 32 ≤ e.by → EndedTell ended before → EndedTell ended (before ++ e ∷ [])
tell_past ended before e h t = record { long = t.long; tell = λ m lt. t.tell m lt ∙ sym (ended_skips m before e (ends_another e m (λ s. omega (arith, s, h, lt)))) }

-- one that ends a maker
pub tell_ended : (ended : List Bool) (before : List Entry) (e : Entry) → is_ended e.what ≡ true → e.by < 32 → EndedTell ended before → EndedTell (set ended e.by true) (before ++ e ∷ [])
tell_ended ended before e h small t = record {
  long = length-set ended e.by true ∙ t.long;
  tell = λ m lt. ⊎_elim
      (λ s. let same : e.by ≡ m = s.1 in
      ap (λ i. get_or (set ended e.by true) i false) (sym same) ∙ get_or-set_same ended e.by true false (let l = t.long in omega (arith, l, small)) ∙ sym (ended_now m before e (ends_it e m same h)))
      (λ d. get_or-set_other ended e.by m true false (λ (s : m ≡ e.by). d.1 (sym s)) ∙ t.tell m lt ∙ sym (ended_skips m before e (ends_another e m d.1)))
      (eqb_tells e.by m);
}

-- who is a worker of a sound site has a number below 32
pub worker_small : (site : SiteData) (m : ℕ) → IsSoundSite site → is_worker site m ≡ true → m < 32
worker_small site m sound is =
    let few : length site.interfaces ≤ 16 = sound.few_interfaces in
    let routers : length site.routers ≤ 4 = sound.few_routers in
    let desks : site.desks ≤ 4 = sound.few_desks in
    grind (arith, common_steps)

pub all_done : (site : SiteData) (but : ℕ) (before : List Entry) → IsSoundSite site → ((m : ℕ) → m < 32 → IsDone site but m before) → HaveEnded site but before
all_done site but before sound each m is other = each m (worker_small site m sound is) is other

pub below_next : (m by : ℕ) → m < by + 1 → (m < by) ⊎ (m ≡ by)
below_next m by lt = grind arith

-- one more maker is looked at
pub done_next : (site : SiteData) (but by : ℕ) (before : List Entry) → ((m : ℕ) → m < by → IsDone site but m before) → IsDone site but by before → (m : ℕ) → m < by + 1 → IsDone site but m before
done_next site but by before earlier now m lt = elim (below_next m by lt) [
  | inl below ↦ earlier m below
  | inr same ↦ subst (λ k. IsDone site but k before) (sym same) now
]

-- no maker is told to have ended
pub no_marks : (ended : List Bool) (m : ℕ) → list_any (λ (x : Bool). x) ended ≡ false → get_or ended m false ≡ false
no_marks [] zero none = refl
no_marks [] (suc m) none = refl
no_marks (true ∷ xs) m none = absurd cc
no_marks (false ∷ xs) zero none = refl
no_marks (false ∷ xs) (suc m) none = no_marks xs m none
