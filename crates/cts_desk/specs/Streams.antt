-- What a desk puts on a connection, and how the connection comes to its end.
use Rattle.std.specs.Prelude.{◌≡◌, ℕ, ◌≤◌, ◌⊎◌, Bool, true, false, List, [], ◌∷◌, ◌++◌, length, take, slice_index, ◌-◌, Some}
use Rattle.std.specs.List.{concat, flat_map}
use Rattle.cts_outside.specs.Lines.{Connection}
use Rattle.cts_http.specs.Requests.{Takes, Requests, Closed, Waiting, Refused as RefusedWith}
use Rattle.cts_http.specs.Streams.{response_with}
use Rattle.cts_http.specs.Texts.{refusal_text}
use Rattle.cts_desk.specs.Exchanges.{Exchange, bodies_of, out_of_memory}

-- the whole response of an exchange
abbrev pub response_to : Exchange → List ℕ
response_to x = response_with x.front x.text

-- the responses, in order
abbrev pub responses : List Exchange → List ℕ
responses xs = flat_map response_to xs

-- the front of the last, or 0 where there is none
abbrev pub last_front : List ℕ → ℕ
last_front fronts = slice_index fronts (length fronts - 1)

-- how a connection comes to its end
pub data Cut : Type 0 where
  -- a take answered End
  PeerEnded : Cut
  -- a take failed
  ReadFault : Cut
  -- a put of a response failed
  WriteFault : Cut
  -- the last request ends the connection
  LastAsked : Cut
  -- the bytes are refused
  Refused : ℕ → Cut
  -- no memory was found for a piece, or for a front
  NoMemory : Cut
  -- the server is stopped
  Stopped : Cut

-- all pieces but the last were read, and more were waited for
abbrev pub IsUnfed : List (List ℕ) → List (List ℕ) → Type 0
IsUnfed pieces bodies = (earlier : List (List ℕ)) × (piece : List ℕ) × (rest : List ℕ) × (pieces ≡ earlier ++ piece ∷ [])
    × Requests (concat earlier) bodies (Waiting rest)

-- one more request stands in the bytes
abbrev pub IsUnasked : List (List ℕ) → List (List ℕ) → Type 0
IsUnasked pieces bodies = (body : List ℕ) × (closed : Bool) × (rest : List ℕ) × Takes (concat pieces) (bodies ++ body ∷ []) closed rest

-- what the bytes of the pieces have asked, where requests with these bodies are answered
abbrev pub HasAsked : Cut → List (List ℕ) → List (List ℕ) → Type 0
HasAsked PeerEnded pieces bodies = (rest : List ℕ) × Requests (concat pieces) bodies (Waiting rest)
HasAsked ReadFault pieces bodies = (rest : List ℕ) × Requests (concat pieces) bodies (Waiting rest)
HasAsked WriteFault pieces bodies = (closed : Bool) × (rest : List ℕ) × Takes (concat pieces) bodies closed rest
HasAsked LastAsked pieces bodies = Requests (concat pieces) bodies Closed
HasAsked (Refused status) pieces bodies = Requests (concat pieces) bodies (RefusedWith status)
HasAsked NoMemory pieces bodies = IsUnfed pieces bodies ⊎ IsUnasked pieces bodies
HasAsked Stopped pieces bodies = (rest : List ℕ) × Requests (concat pieces) bodies (Waiting rest)

-- what is put after the responses
abbrev pub last_put : Cut → ℕ → List ℕ
last_put PeerEnded front = []
last_put ReadFault front = []
last_put WriteFault front = []
last_put LastAsked front = []
last_put (Refused status) front = refusal_text status
last_put NoMemory front = response_with front (Some out_of_memory)
last_put Stopped front = []

abbrev pub HasCause : Cut → Connection → Type 0
HasCause PeerEnded c = c.ended ≡ true
HasCause ReadFault c = c.take_failed ≡ true
HasCause WriteFault c = c.put_failed ≡ true
HasCause LastAsked c = Unit {0}
HasCause (Refused status) c = Unit {0}
HasCause NoMemory c = Unit {0}
HasCause Stopped c = Unit {0}

-- all of it was put, or, where a put failed, a beginning
abbrev pub IsPut : Bool → List ℕ → List ℕ → Type 0
IsPut false put stream = put ≡ stream
IsPut true put stream = (n : ℕ) × (n ≤ length stream) × (put ≡ take n stream)

-- nothing was taken, or more bytes were waited for up to the last piece
abbrev pub IsUnread : List (List ℕ) → Type 0
IsUnread pieces = (pieces ≡ []) ⊎ ((earlier : List (List ℕ)) × (piece : List ℕ) × (bodies : List (List ℕ)) × (rest : List ℕ)
    × (pieces ≡ earlier ++ piece ∷ []) × Requests (concat earlier) bodies (Waiting rest))

-- Nothing was taken once what ends the connection stood in its bytes, and no take has answered End or failed.
abbrev pub IsTaking : Connection → Type 0
IsTaking c = IsUnread c.pieces × (c.ended ≡ false) × (c.take_failed ≡ false)

-- a text was begun after all that was put before
abbrev pub IsBegun : Connection → List ℕ → List ℕ → Type 0
IsBegun c before text = (n : ℕ) × (n ≤ length text) × (c.put ≡ before ++ take n text)

-- What ended a connection was the last of it: nothing was taken after it, no request was answered after a put that failed, and no other put
-- and no take have failed.
abbrev pub IsAtLast : Cut → ℕ → Connection → List Exchange → Type 0
IsAtLast PeerEnded front c xs = (c.take_failed ≡ false) × (c.put_failed ≡ false)
IsAtLast ReadFault front c xs = (c.ended ≡ false) × (c.put_failed ≡ false)
IsAtLast WriteFault front c xs = IsTaking c × ((ys : List Exchange) × (y : Exchange) × (xs ≡ ys ++ y ∷ []) × IsBegun c (responses ys) (response_to y))
IsAtLast LastAsked front c xs = IsTaking c × (c.put_failed ≡ false)
IsAtLast (Refused status) front c xs = IsTaking c × (c.put_failed ≡ true → IsBegun c (responses xs) (refusal_text status))
IsAtLast NoMemory front c xs = IsTaking c × (c.put_failed ≡ true → IsBegun c (responses xs) (response_with front (Some out_of_memory)))
IsAtLast Stopped front c xs = IsTaking c × (c.put_failed ≡ false)

-- A connection came to this end after the exchanges, and `front` was the desk's last.
pub record Served (cut : Cut) (front : ℕ) (c : Connection) (xs : List Exchange) : Type 0 where
  pub asked : HasAsked cut c.pieces (bodies_of xs)
  pub put : IsPut c.put_failed c.put (responses xs ++ last_put cut front)
  pub cause : HasCause cut c
  pub last : IsAtLast cut front c xs
