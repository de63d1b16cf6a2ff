-- How far the history was followed, and what a look adds to it.
use Rattle.std.proofs.Common.{◌≡◌, ◌∷◌, [], ◌++◌, ℕ, zero, suc, ◌+◌, ◌≤◌, List, length, length-append, take, sym, ◌∙◌, ap, subst, arith, Some}
use Rattle.std.specs.Prelude.{slice_get}
use Rattle.std.proofs.lemmas.List.{take-append-le, take_all}
use Rattle.std.proofs.lemmas.Option.{slice_get_within}
use mathlib.Core.List.{IsPrefix}
use Rattle.cts_book.proofs.Fronts.{prefix_trans}
use Rattle.cts_entry.specs.declared.entry.Entry.{Entry}
use Rattle.cts_turn.specs.Lists.{StartsWith}
use Rattle.cts_worker.specs.Followed.{EndedTell, Follows}
use Rattle.cts_worker.specs.declared.progress.Progress.{Progress}

-- what was followed of a list was followed of one that begins with it
pub follows_more : (p : Progress) (old new : List Entry) → StartsWith new old → Follows p old → Follows p new
follows_more p old new begins f = record {
  within = (let a : length new ≡ length (old ++ begins.0) = ap length begins.1 in let b = length-append old begins.0 in let w = f.within in omega (arith, w, a, b));
  ended = subst (EndedTell p.ended) (sym (ap (take p.place) begins.1 ∙ take-append-le p.place old begins.0 f.within)) f.ended;
}

take_suc : (xs : List Entry) (n : ℕ) (e : Entry) → slice_get xs n ≡ Some e → take (suc n) xs ≡ take n xs ++ e ∷ []
take_suc [] zero e h = absurd cc
take_suc [] (suc n) e h = absurd cc
take_suc (x ∷ xs) zero e h = let s : x ≡ e = cc in ap (λ y. y ∷ []) s
take_suc (x ∷ xs) (suc n) e h = ap (λ l. x ∷ l) (take_suc xs n e h)

take_next : (xs : List Entry) (n : ℕ) (e : Entry) → slice_get xs n ≡ Some e → take (n + 1) xs ≡ take n xs ++ e ∷ []
take_next xs n e h = let s : n + 1 ≡ suc n = omega arith in ap (λ k. take k xs) s ∙ take_suc xs n e h

-- the next entry is followed
pub follows_next : (p q : Progress) (xs : List Entry) (e : Entry) → slice_get xs p.place ≡ Some e → q.place ≡ p.place + 1 → EndedTell q.ended (take p.place xs ++ e ∷ []) → Follows q xs
follows_next p q xs e there next ended = record {
  within = (let w = slice_get_within xs p.place e there in omega (arith, w, next));
  ended = subst (EndedTell q.ended) (sym (ap (λ n. take n xs) next ∙ take_next xs p.place e there)) ended;
}

-- all of a list was followed
pub follows_whole : (p : Progress) (xs : List Entry) → Follows p xs → length xs ≤ p.place → EndedTell p.ended xs
follows_whole p xs f le = subst (EndedTell p.ended) (take_all p.place xs le) f.ended

-- what begins a list begins one that starts with it
pub begins_more : (xs old new : List Entry) → StartsWith new old → IsPrefix xs old → IsPrefix xs new
begins_more xs old new begins p = prefix_trans xs old new p (begins.0, sym begins.1)
