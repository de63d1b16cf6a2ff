-- The events of a rehearsal: of the demo's site, whose interfaces are 0 and 1 and whose router has the slot 16.
use Rattle.std.specs.Prelude.{ℕ, zero, suc, ◌+◌, ◌/◌, ◌%◌, ◌==◌, nat_lt, nat_le, if◌then◌else◌, List, [], ◌∷◌, ◌++◌, replicate, take, drop, codes}
use Rattle.cts_entry.specs.declared.event.Event.{Event}
use Rattle.cts_entry.specs.declared.event.Event.TheVariants.{Opens, Piece, Finish, Write, Call}
use Rattle.cts_entry.specs.declared.why.Why.TheVariants.{PeerEnded}
use Rattle.cts_rehearsal.specs.Numbers.{choice_of, next_number}

-- a frame of six bytes: its length in two, the packet's id, a temperature in two and a mode of 0 or 1
abbrev pub frame : ℕ → List ℕ
frame r = 0 ∷ 6 ∷ 1 ∷ r / 8 / 256 % 256 ∷ r / 8 % 256 ∷ r / 524288 % 2 ∷ []

-- how many of its bytes come first, 1 to 5
abbrev pub frame_cut : ℕ → ℕ
frame_cut r = 1 + r / 1048576 % 5

-- 1 to 40 letters A and a line feed
abbrev pub text_line : ℕ → List ℕ
text_line r = replicate (1 + r / 8 % 40) 65 ++ 10 ∷ []

-- a client asks for a value
abbrev pub look_up : List ℕ
look_up = codes "{\"jsonrpc\":\"2.0\",\"method\":\"tlm\",\"params\":[\"INST HS TEMP1\"],\"id\":1}"

-- a number below 20 as it is written; it computes at a number, as the printing of std does not
abbrev pub digits_of : ℕ → List ℕ
digits_of v = if nat_lt v 10 then (48 + v) ∷ [] else 49 ∷ (38 + v) ∷ []

-- a client sends a command with a duration; the definitions allow 0 to 10
abbrev pub order : ℕ → List ℕ
order v = codes "{\"jsonrpc\":\"2.0\",\"method\":\"cmd\",\"params\":[\"INST COLLECT with DURATION " ++ (digits_of v ++ codes "\"],\"id\":1}")

-- a duration of 0 to 11, so that one in twelve is refused
abbrev pub duration : ℕ → ℕ
duration r = r / 8 % 12

-- What a choice makes happen: a frame in two pieces, a line, a look-up, a command that is written where it is not refused, or a
-- connection that ends and opens again.
abbrev pub events_of : ℕ → List Event
events_of r =
    if nat_lt (r % 8) 4 then Piece 0 (take (frame_cut r) (frame r)) ∷ Piece 0 (drop (frame_cut r) (frame r)) ∷ []
    else if r % 8 == 4 then Piece 1 (text_line r) ∷ []
    else if r % 8 == 5 then Call 0 look_up ∷ []
    else if r % 8 == 6 then Call 0 (order (duration r)) ∷ (if nat_le (duration r) 10 then Write 0 1 ∷ [] else [])
    else Finish 0 PeerEnded ∷ Opens 0 ∷ []

-- what this many choices make happen, the first by the number after x
abbrev pub events_from : ℕ → ℕ → List Event
events_from zero x = []
events_from (suc n) x = events_of (choice_of (next_number x)) ++ events_from n (next_number x)

-- both interfaces and the router's first slot are opened
abbrev pub opening : List Event
opening = Opens 0 ∷ Opens 1 ∷ Opens 16 ∷ []

-- all events of this many choices
abbrev pub events_in_all : ℕ → ℕ → List Event
events_in_all n x = opening ++ events_from n x

-- the rehearsal of a number: it has as many choices, and they begin with it
abbrev pub generated : ℕ → List Event
generated n = events_in_all n n
