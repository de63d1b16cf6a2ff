-- The next entry of a history, and what it gives to the logs.
use Rattle.std.proofs.Common.{◌≡◌, ◌∷◌, [], ◌++◌, ℕ, zero, suc, ◌+◌, ◌<◌, List, take, sym, ◌∙◌, ap, subst, arith, Some}
use Rattle.std.specs.Prelude.{slice_get}
use Rattle.std.proofs.lemmas.List.Sums.{sum_by-cons}
use Rattle.std.proofs.lemmas.Option.{slice_get_within}
use Rattle.cts_def.specs.Sites.{SiteData}
use Rattle.cts_entry.specs.declared.entry.Entry.{Entry}
use Rattle.cts_entry.specs.Histories.{bytes_for, bytes_in}
use Rattle.cts_table.specs.Keeping.{AllOfSite, IsOfSite}
use Rattle.cts_worker.specs.declared.progress.Progress.{Progress}
use Rattle.cts_worker.specs.Followed.{EndedTell, Follows}

take_suc : (xs : List Entry) (n : ℕ) (e : Entry) → slice_get xs n ≡ Some e → take (suc n) xs ≡ take n xs ++ e ∷ []
take_suc [] zero e h = absurd cc
take_suc [] (suc n) e h = absurd cc
take_suc (x ∷ xs) zero e h = let s : x ≡ e = cc in ap (λ y. y ∷ []) s
take_suc (x ∷ xs) (suc n) e h = ap (λ l. x ∷ l) (take_suc xs n e h)

pub take_next : (xs : List Entry) (n : ℕ) (e : Entry) → slice_get xs n ≡ Some e → take (n + 1) xs ≡ take n xs ++ e ∷ []
take_next xs n e h = let s : n + 1 ≡ suc n = omega arith in ap (λ k. take k xs) s ∙ take_suc xs n e h

pub of_site_get : (site : SiteData) (before xs : List Entry) (n : ℕ) (e : Entry) → AllOfSite site before xs → slice_get xs n ≡ Some e → (b : List Entry)
    × IsOfSite site b e
of_site_get site before [] zero e all h = absurd cc
of_site_get site before [] (suc n) e all h = absurd cc
of_site_get site before (x ∷ xs) zero e all h = (before, subst (IsOfSite site before) (let s : x ≡ e = cc in s) all.0)
of_site_get site before (x ∷ xs) (suc n) e all h = of_site_get site (before ++ x ∷ []) xs n e all.1 h

pub small_get : (xs : List Entry) (n : ℕ) (e : Entry) (most : ℕ) → slice_get xs n ≡ Some e → bytes_in xs < most → bytes_in (e ∷ []) < most
small_get [] zero e most h small = absurd cc
small_get [] (suc n) e most h small = absurd cc
small_get (x ∷ xs) zero e most h small =
    let s : x ≡ e = cc in
    subst (λ y. bytes_in (y ∷ []) < most) s (omega
    (arith, small, sum_by-cons (λ (y : Entry). bytes_for y.what) x xs, sum_by-cons (λ (y : Entry). bytes_for y.what) x []))
small_get (x ∷ xs) (suc n) e most h small = small_get xs n e most h (omega (arith, small, sum_by-cons (λ (y : Entry). bytes_for y.what) x xs))

-- the next entry is followed
pub follows_next : (p q : Progress) (xs : List Entry) (e : Entry) → slice_get xs p.place ≡ Some e → q.place ≡ p.place + 1
    → EndedTell q.ended (take p.place xs ++ e ∷ []) → Follows q xs
follows_next p q xs e there next ended = record {
  within = (let w = slice_get_within xs p.place e there in omega (arith, w, next));
  ended = subst (EndedTell q.ended) (sym (ap (λ n. take n xs) next ∙ take_next xs p.place e there)) ended;
}
