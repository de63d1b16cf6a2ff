-- What TERMINATED writes it reads again.
use Rattle.std.proofs.Common.{◌≡◌, ℕ, zero, suc, ◌+◌, ◌-◌, ◌≤◌, inl, inr, Bool, true, false, ◌&&◌, List, [], ◌∷◌, ◌++◌, length, take, drop, refl, sym, ◌∙◌, ap, subst, arith, Option, Some, length-append, append_assoc}
use Rattle.std.specs.Prelude.{nat_le, nat_lt, option_map}
use Rattle.std.proofs.lemmas.List.{drop_at, take_at, take_all, append-nil}
use Rattle.cts_def.specs.Protocols.{TerminatedData}
use Rattle.cts_framing.specs.Patterns.{begins, first_place}
use Rattle.cts_def.specs.Most.{frame_limit}
use Rattle.cts_framing.specs.Rows.{end_of_frame, end_states, terminated_states, stripped}
use Rattle.cts_encode.specs.Spellings.{is_before, holds}
use Rattle.cts_framing.specs.Stating.{Long, is_long}
use Rattle.cts_encode.proofs.AgainCut.{is_whole}
use Rattle.cts_framing.proofs.Fronts.{le_test, begins_front, not_lt_tells, first_by, fits_nil}
use Rattle.cts_encode.proofs.Searches.{first_least}

-- the leftmost place, counted from a later one
pub first_drop : (t u : List ℕ) (m k n : ℕ) → first_place t u ≡ Some n → n ≡ m + k → first_place t (drop m u) ≡ Some k
first_drop t u zero k n h e = h ∙ ap Some (omega (arith, e))
first_drop t [] (suc m) k n h e = let z = fits_nil t n h in absurd (omega (arith, z.1, e))
first_drop t (x ∷ u) (suc m) k n h e = elim (first_by (begins t (x ∷ u)) (first_place t u) n h) [
  | inl a ↦ absurd (omega (arith, a.1, e))
  | inr b ↦ first_drop t u m k b.1.0 b.1.1 (omega (arith, b.1.2, e))
]

and_false : (a b : Bool) → a ≡ true → (a && b) ≡ false → b ≡ false
and_false a b e h = rw e at h

before_tells : (k n : ℕ) → is_before (Some k) n ≡ false → n ≤ k
before_tells k n h = not_lt_tells k n h

-- where no termination stands earlier the leftmost one is at the end
pub first_at_end : (t a : List ℕ) → 1 ≤ length t → holds t a ≡ false → first_place t (a ++ t) ≡ Some (length a)
first_at_end t a some h =
    let at : begins t (drop (length a) (a ++ t)) ≡ true = ap (begins t) (drop_at a t (length a) refl ∙ sym (append-nil t)) ∙ begins_front t [] in
    let r = first_least t (a ++ t) (length a) (omega (arith, length-append a t)) at in
    let late : is_before (first_place t (a ++ t)) (length a) ≡ false = and_false (nat_le 1 (length t)) (is_before (first_place t (a ++ t)) (length a)) (le_test 1 (length t) some) h in
    let later : length a ≤ r.0 = before_tells r.0 (length a) (subst (λ (o : Option ℕ). is_before o (length a) ≡ false) r.1 late) in
    r.1 ∙ ap Some (omega (arith, later, r.2))

module _ (t : TerminatedData) (zs b w : List ℕ) (some : 1 ≤ length t.read) (strip : t.strip ≡ true) (w_is : w ≡ zs ++ (b ++ t.read)) (zs_is : length zs ≡ t.discard) (begin : begins t.sync w ≡ true) (room : length t.sync ≤ t.discard) (end : first_place t.read (drop (length t.sync) w) ≡ Some (t.discard + length b - length t.sync)) (short : nat_lt frame_limit (length w) ≡ false) where
  length_is : length w ≡ t.discard + length b + length t.read
  length_is = omega (arith, ap length w_is, length-append zs (b ++ t.read), length-append b t.read, zs_is)

  states_are : terminated_states t w ≡ Long (length w)
  states_are =
      let all : take frame_limit w ≡ w = take_all frame_limit w (not_lt_tells frame_limit (length w) short) in
      let ends : end_of_frame t w ≡ Some (length w) = ap (option_map (λ k. length t.sync + k + length t.read)) end ∙ ap Some (omega (arith, length_is, room)) in
      ap (λ (o : Option ℕ). end_states o (nat_le frame_limit (length w))) (ap (end_of_frame t) all ∙ ends)

  pub terminated_whole : (nat_le 1 (length w) && begins t.sync w && is_long (terminated_states t w) (length w)) ≡ true
  terminated_whole = is_whole t.sync (terminated_states t) w (omega (arith, length_is, some)) begin states_are

  pub terminated_bytes : drop t.discard (stripped t w) ≡ b
  terminated_bytes =
      let front : w ≡ (zs ++ b) ++ t.read = w_is ∙ sym (append_assoc zs b t.read) in
      let cut : take (length w - length t.read) w ≡ zs ++ b =
      ap (take (length w - length t.read)) front ∙ take_at (zs ++ b) t.read (length w - length t.read) (omega (arith, length_is, length-append zs b, zs_is)) in
      rw strip (ap (drop t.discard) cut ∙ drop_at zs b t.discard zs_is)
