-- What FIXED finds.
use Rattle.std.proofs.Common.{◌≡◌, ℕ, ◌≤◌, ◌<◌, true, false, List, length, take, drop, refl, sym, ◌∙◌, ap, subst, arith, Some, None, inl, inr, min, max}
use Rattle.std.specs.Prelude.{nat_lt}
use Rattle.std.proofs.lemmas.List.{length-take, take-append-drop, length-take-le}
use Rattle.std.proofs.lemmas.Bool.{cases_lt}
use Rattle.cts_def.specs.Protocols.{FixedData, Fixed}
use Rattle.cts_def.specs.Starts.{StartData}
use Rattle.cts_def.specs.declared.bad_cause.BadCause.{BadCause}
use Rattle.cts_framing.specs.Cuts.{Ends}
use Rattle.cts_framing.specs.Framing.{Output, Agree, plain}
use Rattle.cts_framing.specs.Patterns.{begins}
use Rattle.cts_framing.specs.Rows.{decided_at, first_start, start_states, fixed_states, framing_of}
use Rattle.cts_framing.specs.Stating.{Long, Wrong, is_open}
use Rattle.cts_framing.proofs.Endings.{open_ends, part_ends}
use Rattle.cts_framing.proofs.FixedSteady.{fixed_steady}
use Rattle.cts_framing.proofs.Fronts.{lt_test, not_lt_tells, not_lt_test, begins_length}
use Rattle.cts_framing.proofs.LengthSteady.{guard_open}
use Rattle.cts_framing.proofs.ShortRests.{start_decided_by}
use Rattle.cts_fixed.specs.Finding.{fixed_row}
use Rattle.cts_proto.specs.declared.step.Found.{Found}
use Rattle.cts_proto.specs.declared.step.Found.TheVariants.{Frame, Nothing, Fault}
use Rattle.cts_proto.specs.Founds.{Finds, FindsFrame, output_at}
use Rattle.cts_proto.proofs.Finding.{span_front, few_ends, odd_ends, error_ends, frame_found}

-- what is stated by the bytes that decide
pub decided_states : (f : FixedData) (u : List ℕ) → decided_at f ≤ length u → fixed_states f u ≡ start_states f (first_start f (take (decided_at f) u))
decided_states f u h = rw (not_lt_test (length u) (decided_at f) h) refl

needs : (f : FixedData) (w : List ℕ) → is_open (fixed_states f w) ≡ false → decided_at f ≤ length w
needs f w h = not_lt_tells (length w) (decided_at f) (guard_open (nat_lt (length w) (decided_at f)) (start_states f (first_start f (take (decided_at f) w))) h)

-- what a frame gives
abbrev given : FixedData → List ℕ → Output
given f w = plain (drop f.discard w)

module _ (f : FixedData) (u : List ℕ) (a : Agree f.sync u) (least : ℕ) (least_is : least ≡ max (max (decided_at f) (length f.sync)) 1) where
  at_least : (w : List ℕ) → 1 ≤ length w → begins f.sync w ≡ true → is_open (fixed_states f w) ≡ false → least ≤ length w
  at_least w some begin said = omega (arith, least_is, some, begins_length f.sync w begin, needs f w said)

  pub fixed_few : length u < least → Ends (framing_of (Fixed f)) u None
  fixed_few few = elim (cases_lt (length u) (decided_at f)) [
    | inl undecided ↦ open_ends f.sync (fixed_states f) (given f) (fixed_steady f) u a (rw (lt_test (length u) (decided_at f) undecided) refl)
    | inr decided ↦ few_ends f.sync (fixed_states f) (given f) (fixed_steady f) u a (elim (cases_lt (length u) (length f.sync)) [
      | inl unsynced ↦ inl unsynced
      | inr synced ↦ inr (omega (arith, least_is, few, decided, synced))
    ])
  ]

  pub fixed_short : (n : ℕ) → fixed_states f u ≡ Long n → n < least → Ends (framing_of (Fixed f)) u None
  fixed_short n s few =
      odd_ends f.sync (fixed_states f) (given f) (fixed_steady f) u a n s (λ t.
      absurd (omega (arith, few, at_least (take n u) t.some t.begin (ap is_open t.states_are), length-take n u)))

  pub fixed_part : (n : ℕ) → fixed_states f u ≡ Long n → length u < n → Ends (framing_of (Fixed f)) u None
  fixed_part n s few = part_ends f.sync (fixed_states f) (given f) (fixed_steady f) u n a s few

  pub fixed_fault : (c : BadCause) → fixed_states f u ≡ Wrong c → least ≤ length u → Ends (framing_of (Fixed f)) u (Some c)
  fixed_fault c s enough = error_ends f.sync (fixed_states f) (given f) (fixed_steady f) u a c (omega (arith, least_is, enough)) (omega (arith, least_is, enough)) s

  pub fixed_frame : (n : ℕ) → fixed_states f u ≡ Long n → least ≤ n → n ≤ length u → (start : ℕ) → start ≡ min f.discard n → FindsFrame (framing_of (Fixed f)) u n (output_at u start n None)
  fixed_frame n s enough fits start start_is =
      let there : nat_lt (length (take n u)) (decided_at f) ≡ false = not_lt_test (length (take n u)) (decided_at f) (omega (arith, least_is, enough, length-take-le n u fits)) in
      let own : is_open (fixed_states f (take n u)) ≡ false = rw there (start_decided_by f (first_start f (take (decided_at f) (take n u)))) in
      let states : fixed_states f (take n u) ≡ Long n = sym (fixed_steady f (take n u) (drop n u) own) ∙ (ap (fixed_states f) (take-append-drop n u) ∙ s) in
      frame_found f.sync (fixed_states f) (given f) (fixed_steady f) u a n (output_at u start n None) (omega (arith, least_is, enough)) (omega (arith, least_is, enough)) fits states
      (ap plain (sym (span_front u f.discard n start start_is)))

-- the parameters that are not read change nothing
same_row : (f : FixedData) (u : List ℕ) (r : Found) → Finds (framing_of (Fixed (fixed_row f.min_id f.discard f.sync f.raise f.starts))) u r → Finds (framing_of (Fixed f)) u r
same_row f u (Frame n start end stamp) h = h
same_row f u Nothing h = h
same_row f u (Fault c) h = h

pub with_parts : (f : FixedData) (u : List ℕ) (r : Found) (sync : List ℕ) (starts : List StartData) → sync ≡ f.sync → starts ≡ f.starts
    → Finds (framing_of (Fixed (fixed_row f.min_id f.discard sync f.raise starts))) u r → Finds (framing_of (Fixed f)) u r
with_parts f u r sync starts e g h =
    same_row f u r
    (subst (λ (x : List StartData). Finds (framing_of (Fixed (fixed_row f.min_id f.discard f.sync f.raise x))) u r) g
    (subst (λ (x : List ℕ). Finds (framing_of (Fixed (fixed_row f.min_id f.discard x f.raise starts))) u r) e h))
