-- What a desk that reads from a pane replies.
use Rattle.std.specs.Prelude.{◌≡◌, ℕ, ◌≤◌, true, List, [], ◌∷◌, ◌++◌, length, map, Some}
use Rattle.std.specs.List.{All}
use mathlib.Core.List.{IsPrefix}
use Rattle.cts_entry.specs.declared.entry.Entry.{Entry}
use Rattle.cts_table.specs.declared.basis.Basis.{Basis}
use Rattle.cts_trace.specs.Makers.{of_maker}
use Rattle.cts_api.specs.Looks.{IsChanging}
use Rattle.cts_snap.specs.Reading.{TextOver}
use Rattle.cts_desk.specs.Exchanges.{Exchange, IsAnswered, bodies_of, out_of_memory}

-- an exchange, and how the desk came by its reply: in a hold of the turn, over a beginning of the pane's list, or for want of memory
pub data Given : Type 0 where
  ByHold : Exchange → Given
  ByRead : Exchange → Given
  Lacks : Exchange → Given

abbrev pub exchange_of : Given → Exchange
exchange_of (ByHold x) = x
exchange_of (ByRead x) = x
exchange_of (Lacks x) = x

abbrev pub exchanges_of : List Given → List Exchange
exchanges_of gs = map exchange_of gs

-- the fronts of the replies that were given in holds
abbrev pub held_fronts : List Given → List ℕ
held_fronts [] = []
held_fronts (ByHold x ∷ gs) = x.front ∷ held_fronts gs
held_fronts (ByRead x ∷ gs) = held_fronts gs
held_fronts (Lacks x ∷ gs) = held_fronts gs

-- the last front, and the least that a later reply may have: the last front, and the number of entries up to the desk's last own ones
pub record Place : Type 0 where
  pub front : ℕ
  pub floor : ℕ

abbrev pub start : Place
start = record { front = 0; floor = 0 }

-- after a hold in which so many entries stood at the end, after a read, and after want of memory
abbrev pub held_at : ℕ → ℕ → Place
held_at front stood = record { front = front; floor = stood }

abbrev pub read_at : ℕ → Place
read_at front = record { front = front; floor = front }

abbrev pub lacks_at : ℕ → Place → Place
lacks_at front at = record { front = front; floor = at.floor }

-- the text is that of the reply over the first `front` entries of the list, whoever asks and when
abbrev pub ReadsOver : Basis → List Entry → Exchange → Type 0
ReadsOver b list x = (stood : List Entry) × IsPrefix stood list × (x.front ≡ length stood) × TextOver b stood x.body x.text

-- After the entries of before, rest has what the desk appended in its holds, one after another, with entries of others between, and then those of
-- last; and nothing else of the desk. What it read is over beginnings of the pane's list. No front is below one before it, and none of a hold or a
-- read is below an entry that the desk appended before it.
abbrev pub SnapExchanges : Basis → ℕ → Basis → List Entry → Place → List Entry → List Given → Place → List Entry → List Entry → Type 0
SnapExchanges b by pane list at before [] end last rest = (at.front ≡ end.front) × (at.floor ≤ end.floor) × (of_maker by rest ≡ last)
SnapExchanges b by pane list at before (ByHold x ∷ gs) end last rest =
    (at.floor ≤ x.front) × (gap : List Entry) × (added : List Entry) × (later : List Entry) × (rest ≡ gap ++ (added ++ later)) × (of_maker by gap ≡ [])
    × (x.front ≡ length (before ++ gap)) × IsAnswered b by (before ++ gap) x added
    × SnapExchanges b by pane list (held_at x.front (length (before ++ (gap ++ added)))) (before ++ (gap ++ added)) gs end last later
SnapExchanges b by pane list at before (ByRead x ∷ gs) end last rest =
    (at.floor ≤ x.front) × ReadsOver pane list x × SnapExchanges b by pane list (read_at x.front) before gs end last rest
SnapExchanges b by pane list at before (Lacks x ∷ gs) end last rest =
    (x.text ≡ Some out_of_memory) × (x.front ≡ at.front) × SnapExchanges b by pane list (lacks_at x.front at) before gs end last rest

-- no request calls a method that may append
abbrev pub OnlyLooks : List Exchange → Type 0
OnlyLooks xs = All (λ (body : List ℕ). IsChanging body true → ⊥) (bodies_of xs)
