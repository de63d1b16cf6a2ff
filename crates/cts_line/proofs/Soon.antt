-- How many holds begin once a Stop stands.
use Rattle.std.proofs.Common.{◌≡◌, ℕ, ◌+◌, ◌≤◌, ◌<◌, true, false, List, [], ◌∷◌, ◌++◌, length, refl, sym, ◌∙◌, ap, arith, append_assoc, inl, inr}
use Rattle.std.specs.Prelude.{nat_le, ◌⊎◌}
use Rattle.std.proofs.lemmas.Bool.Decides.{leb_tells}
use Rattle.cts_entry.specs.declared.entry.Entry.{Entry}
use Rattle.cts_entry.specs.Histories.{is_stopped}
use Rattle.cts_trace.specs.Lines.{looks}
use Rattle.cts_trace.proofs.Looking.{begins_first, few_looks, looks_append, looks_below, looks_same, stop_kept}
use Rattle.cts_line.specs.Talks.{AllAtMost, SoonBy}
use Rattle.cts_line.proofs.Growing.{Grows, long_grown, others_long}

-- what began up to a place is not behind it
looks_none : (found : List ℕ) (bound above most : ℕ) → AllAtMost bound found → bound ≤ above → looks found above most ≡ 0
looks_none [] bound above most all le = refl
looks_none (x ∷ found) bound above most all le = looks_below x above most found (let f : x ≤ bound = all.0 in omega arith) ∙ looks_none found bound above most all.1 le

-- and nothing more counts up to a later place
looks_up : (found : List ℕ) (bound above most : ℕ) → AllAtMost bound found → bound ≤ most → looks found above most ≡ looks found above bound
looks_up [] bound above most all le = refl
looks_up (x ∷ found) bound above most all le = looks_same x above most bound found found (let f : x ≤ bound = all.0 in omega arith) all.0 (looks_up found bound above most all.1 le)

-- where no Stop stands, none began after one
pub soon_clear : (found : List ℕ) (o : ℕ) (history : List Entry) → is_stopped history ≡ false → SoonBy 0 found o history
soon_clear found o history clear earlier later n is long le stop = absurd (let f : true ≡ false = sym (stop_kept earlier later stop) ∙ (ap is_stopped (sym is) ∙ clear) in cc)

-- all began up to the Opened
pub soon_opened : (limit o : ℕ) (found : List ℕ) (history : List Entry) → AllAtMost o found → SoonBy limit found o history
soon_opened limit o found history all earlier later n is long le stop = let none = looks_none found o n (length history) all le in omega (arith, none)

pub soon_more : (limit limit' : ℕ) (found : List ℕ) (o : ℕ) (history : List Entry) → limit ≤ limit' → SoonBy limit found o history → SoonBy limit' found o history
soon_more limit limit' found o history le soon earlier later n is long within stop = let few = soon earlier later n is long within stop in omega (arith, few, le)

-- a hold may be one more
pub soon_grown : (m : ℕ) (found : List ℕ) (history added : List Entry) (found' : List ℕ) (history' : List Entry) (grows : Grows m found history added found' history') (limit o : ℕ) → AllAtMost (length history) found → SoonBy limit found o history
    → SoonBy (limit + 1) found' o history'
soon_grown m found history added found' history' grows limit o all soon earlier later n is long le stop =
    let place : ℕ = length (history ++ grows.others) in
    let more : List Entry = grows.others ++ added in
    let whole : history ++ more ≡ earlier ++ later = sym (append_assoc history grows.others added) ∙ (sym grows.seen ∙ is) in
    let others = others_long m found history added found' history' grows in
    let grown = long_grown m found history added found' history' grows in
    let up = looks_up found (length history) n (length history') all (omega (arith, others, grown)) in
    let both = ap (λ (l : List ℕ). looks l n (length history')) grows.found_is ∙ looks_append found (place ∷ []) n (length history') in
    let one : looks (place ∷ []) n (length history') ≤ 1 = few_looks (place ∷ []) n (length history') in
    let few = by_place whole (leb_tells (length earlier) (length history)) in
    omega (arith, up, both, one, few)
  where
    by_place : history ++ (grows.others ++ added) ≡ earlier ++ later → ((nat_le (length earlier) (length history) ≡ true) × (length earlier ≤ length history)) ⊎ ((nat_le (length earlier) (length history) ≡ false) × (length history < length earlier)) → looks found n (length history) ≤ limit
    by_place whole (inl t) = let front = begins_first history (grows.others ++ added) earlier later whole t.1 in soon earlier front.0 n front.1 long le stop
    by_place whole (inr t) = let lt = t.1 in let none = looks_none found (length history) n (length history) all (omega (arith, lt, long)) in omega (arith, none)
