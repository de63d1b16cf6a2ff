-- What frames state that end with a termination.
use Rattle.std.proofs.Common.{◌≡◌, ℕ, ◌+◌, ◌-◌, ◌≤◌, ◌<◌, Bool, true, false, List, [], ◌∷◌, ◌++◌, length, take, drop, refl, sym, ◌∙◌, ap, arith, Option, Some, None, length-append}
use Rattle.std.specs.Prelude.{nat_le, option_map}
use Rattle.std.proofs.lemmas.Bool.Decides.{nat_tests}
use Rattle.std.proofs.lemmas.List.{take_all, take-append-le, drop-append-le, length-drop}
use Rattle.std.proofs.Math.Seq.{take-append-add}
use Rattle.cts_def.specs.Protocols.{TerminatedData}
use Rattle.cts_framing.specs.Patterns.{first_place}
use Rattle.cts_framing.specs.Stating.{Long, is_open, IsSteady}
use Rattle.cts_def.specs.Most.{frame_limit}
use Rattle.cts_framing.specs.Rows.{end_after, end_of_frame, end_states, terminated_states}
use Rattle.cts_framing.proofs.Fronts.{le_tells, le_test, first_fits, first_append}

some_place : (a b n : ℕ) (o : Option ℕ) → option_map (λ k. a + k + b) o ≡ Some n → (k : ℕ) × (o ≡ Some k) × (n ≡ a + k + b)
some_place a b n None h = cc
some_place a b n (Some k) h = (k, refl, (cc))

-- where a frame ends, its termination stands
pub record Ended (sync : ℕ) (read u : List ℕ) (n : ℕ) : Type 0 where
  pub place : ℕ
  pub first : first_place read (drop sync u) ≡ Some place
  pub end : n ≡ sync + place + length read
  pub fits : place + length read ≤ length (drop sync u)

pub end_tells : (sync : ℕ) (read u : List ℕ) (n : ℕ) → end_after sync read u ≡ Some n → Ended sync read u n
end_tells sync read u n h =
    let p = some_place sync (length read) n (first_place read (drop sync u)) h in
    record { place = p.0; first = p.1; end = p.2; fits = first_fits read (drop sync u) p.0 p.1 }

-- no termination stands at the first place
first_nil : (v : List ℕ) → first_place [] v ≡ Some 0
first_nil [] = refl
first_nil (x ∷ v) = refl

pub end_append : (sync : ℕ) (read u y : List ℕ) (n : ℕ) → end_after sync read u ≡ Some n → end_after sync read (u ++ y) ≡ Some n
end_append sync [] u y n h =
    let at : (v : List ℕ) → end_after sync [] v ≡ Some (sync + 0 + 0) = λ v. ap (option_map (λ k. sync + k + 0)) (first_nil (drop sync v)) in
    at (u ++ y) ∙ (sym (at u) ∙ h)
end_append sync (c ∷ read) u y n h =
    let e = end_tells sync (c ∷ read) u n h in
    let room : sync ≤ length u = omega (arith, e.fits, length-drop sync u) in
    ap (λ (v : List ℕ). option_map (λ k. sync + k + length (c ∷ read)) (first_place (c ∷ read) v)) (drop-append-le sync u y room)
    ∙ (ap (option_map (λ k. sync + k + length (c ∷ read))) (first_append (c ∷ read) (drop sync u) y e.place e.first) ∙ ap Some (sym e.end))

pub not_full : (m n : ℕ) → nat_le m n ≡ false → n < m
not_full m n h = grind (arith, nat_tests)

pub end_long : (o : Option ℕ) (b : Bool) (n : ℕ) → end_states o b ≡ Long n → o ≡ Some n
end_long None true n h = cc
end_long None false n h = cc
end_long (Some k) b n h = ap Some (cc)

end_stays : (o p : Option ℕ) (b c : Bool) → ((n : ℕ) → o ≡ Some n → p ≡ Some n) → (b ≡ true → (o ≡ p) × (c ≡ true)) → is_open (end_states o b) ≡ false → end_states p c ≡ end_states o b
end_stays None p true c f g h = let e = g refl in rw (← e.0, e.1) refl
end_stays None p false c f g h = cc
end_stays (Some n) p b c f g h = rw (f n refl) refl

-- the bytes of a frame at most
full_same : (u y : List ℕ) → nat_le frame_limit (length u) ≡ true → take frame_limit u ≡ take frame_limit (u ++ y)
full_same u y h = sym (take-append-le frame_limit u y (le_tells frame_limit (length u) h))

-- few bytes, and more
few_more : (u y : List ℕ) → length u ≤ frame_limit → (z : List ℕ) × (take frame_limit (u ++ y) ≡ take frame_limit u ++ z)
few_more u y h =
    let e : length u + (frame_limit - length u) ≡ frame_limit = omega (arith, h) in
    (take (frame_limit - length u) y, ap (λ n. take n (u ++ y)) (sym e) ∙ (take-append-add u y (frame_limit - length u) ∙ ap (λ v. v ++ take (frame_limit - length u) y) (sym (take_all frame_limit u h))))

goes_on : (t : TerminatedData) (u y : List ℕ) (b : Bool) → nat_le frame_limit (length u) ≡ b → (n : ℕ) → end_of_frame t (take frame_limit u) ≡ Some n → end_of_frame t (take frame_limit (u ++ y)) ≡ Some n
goes_on t u y true e n h = ap (end_of_frame t) (sym (full_same u y e)) ∙ h
goes_on t u y false e n h =
    let z = few_more u y (omega (arith, not_full frame_limit (length u) e)) in
    ap (end_of_frame t) z.1 ∙ end_append (length t.sync) t.read (take frame_limit u) z.0 n h

pub terminated_steady : (t : TerminatedData) → IsSteady (terminated_states t)
terminated_steady t u y h = end_stays (end_of_frame t (take frame_limit u)) (end_of_frame t (take frame_limit (u ++ y))) (nat_le frame_limit (length u)) (nat_le frame_limit (length (u ++ y)))
    (goes_on t u y (nat_le frame_limit (length u)) refl)
    (λ e. (ap (end_of_frame t) (full_same u y e), le_test frame_limit (length (u ++ y)) (omega (arith, le_tells frame_limit (length u) e, length-append u y))))
    h
