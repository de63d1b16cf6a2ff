-- What is still to come of a rehearsal, when the next events are made.
use Rattle.std.proofs.Common.{◌≡◌, ℕ, zero, suc, ◌-◌, ◌<◌, Bool, true, false, ◌++◌, refl, arith}
use Rattle.std.proofs.lemmas.Bool.{false≢true, true≢false}
use Rattle.std.specs.Prelude.{if◌then◌else◌}
use Rattle.cts_rehearsal.specs.Generated.{events_from, events_in_all, events_of, opening}
use Rattle.cts_rehearsal.specs.Numbers.{choice_of, next_number}

pub after_opening : (opened : Bool) (left x : ℕ) → opened ≡ false → (if opened then events_from left x else events_in_all left x) ≡ opening ++ events_from left x
after_opening false left x e = refl
after_opening true left x e = absurd (true≢false e)

pub after_choice : (opened : Bool) (left x : ℕ) → opened ≡ true → 0 < left → (if opened then events_from left x else events_in_all left x) ≡ events_of (choice_of (next_number x)) ++ events_from (left - 1) (next_number x)
after_choice false left x e some = absurd (false≢true e)
after_choice true zero x e some = absurd (omega (arith, some))
after_choice true (suc left) x e some =
    let same : suc left - 1 ≡ left = omega arith in
    rw same refl
