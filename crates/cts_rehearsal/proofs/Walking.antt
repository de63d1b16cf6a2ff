-- Rehearsals are walks.
use Rattle.std.proofs.Common.{◌≡◌, ℕ, zero, suc, ◌+◌, ◌-◌, ◌/◌, ◌%◌, ◌≤◌, Bool, true, false, List, [], ◌∷◌, ◌++◌, length, take, drop, replicate, refl, arith, length-append, Option, Some, None}
use Rattle.std.specs.Prelude.{◌==◌, nat_lt, nat_le, if◌then◌else◌}
use Rattle.std.proofs.lemmas.Bool.Decides.{nat_tests}
use Rattle.std.proofs.lemmas.List.{length-take-le, length-drop, length-replicate}
use Rattle.cts_entry.specs.declared.event.Event.{Event}
use Rattle.cts_entry.specs.declared.event.Event.TheVariants.{Opens, Piece, Finish, Write, Call}
use Rattle.cts_entry.specs.declared.why.Why.TheVariants.{PeerEnded}
use Rattle.cts_rehearsal.specs.Generated.{duration, events_from, events_of, frame, frame_cut, look_up, order, text_line}
use Rattle.cts_rehearsal.specs.Numbers.{choice_of, next_number}
use Rattle.cts_rehearsal.specs.Walks.{RehearsalsWalk, SendsCommand, Walks, turned}

-- the interfaces and the slot are connected
abbrev pub AllStand : (ℕ → Bool) → Type 0
AllStand connected = (connected 0 ≡ true) × (connected 1 ≡ true) × (connected 16 ≡ true)

-- where a choice leaves all connected, what follows may follow, whatever was asked for before it
module _ (more : List Event) (follows : (connected : ℕ → Bool) (request : Option (List ℕ)) → AllStand connected → Walks connected request more) (connected : ℕ → Bool) (request : Option (List ℕ)) (all : AllStand connected) where
  frames : (r : ℕ) → Walks connected request ((Piece 0 (take (frame_cut r) (frame r)) ∷ Piece 0 (drop (frame_cut r) (frame r)) ∷ []) ++ more)
  frames r =
      let few : frame_cut r ≤ 5 = omega arith in
      let front : length (take (frame_cut r) (frame r)) ≡ frame_cut r = length-take-le (frame_cut r) (frame r) (omega (arith, few)) in
      let back : length (drop (frame_cut r) (frame r)) ≡ 6 - frame_cut r = length-drop (frame_cut r) (frame r) in
      (all.0, omega (arith, front), omega (arith, front, few), (all.0, omega (arith, back, few), omega (arith, back), follows connected None all))

  lines : (r : ℕ) → Walks connected request ((Piece 1 (text_line r) ∷ []) ++ more)
  lines r =
      let long : length (text_line r) ≡ 1 + r / 8 % 40 + 1 = omega (arith, length-append {A = ℕ} (replicate (1 + r / 8 % 40) 65) (10 ∷ []), length-replicate {A = ℕ} (1 + r / 8 % 40) 65) in
      (all.1, omega (arith, long), omega (arith, long), follows connected None all)

  orders : (v : ℕ) (fits : Bool) → nat_le v 10 ≡ fits → Walks connected request ((Call 0 (order v) ∷ (if fits then Write 0 1 ∷ [] else [])) ++ more)
  orders v true e =
      let sends : SendsCommand (Some (order v)) = record { duration = v; allowed = grind (arith, nat_tests, e); body = refl } in
      (refl, (all.0, refl, refl, sends, follows connected None all))
  orders v false e = (refl, follows connected (Some (order v)) all)

  again : Walks connected request ((Finish 0 PeerEnded ∷ Opens 0 ∷ []) ++ more)
  again = (all.0, refl, (refl, follows (turned 0 true (turned 0 false connected)) None (refl, all.1, all.2)))

  pick : (r : ℕ) (a b c d : Bool) → nat_lt (r % 8) 4 ≡ a → (r % 8 == 4) ≡ b → (r % 8 == 5) ≡ c → (r % 8 == 6) ≡ d → Walks connected request (events_of r ++ more)
  pick r true b c d ea eb ec ed = rw ea (frames r)
  pick r false true c d ea eb ec ed = rw (ea, eb) (lines r)
  pick r false false true d ea eb ec ed = rw (ea, eb, ec) (refl, follows connected (Some look_up) all)
  pick r false false false true ea eb ec ed = rw (ea, eb, ec, ed) (orders (duration r) (nat_le (duration r) 10) refl)
  pick r false false false false ea eb ec ed = rw (ea, eb, ec, ed) again

  pub choice_walks : (r : ℕ) → Walks connected request (events_of r ++ more)
  choice_walks r = pick r (nat_lt (r % 8) 4) (r % 8 == 4) (r % 8 == 5) (r % 8 == 6) refl refl refl refl

choices_walk : (n x : ℕ) (connected : ℕ → Bool) (request : Option (List ℕ)) → AllStand connected → Walks connected request (events_from n x)
choices_walk zero x connected request all = tt
choices_walk (suc n) x connected request all =
    choice_walks (events_from n (next_number x)) (choices_walk n (next_number x)) connected request all (choice_of (next_number x))

pub rehearsals_walk : RehearsalsWalk
rehearsals_walk n = (refl, (refl, (refl, choices_walk n n (turned 16 true (turned 1 true (turned 0 true (λ k. false)))) None (refl, refl, refl))))
