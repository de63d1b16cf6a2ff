-- A connection that stands, beside the exchanges so far.
use Rattle.std.specs.Prelude.{◌≡◌, ℕ, Bool, true, false, List, [], ◌∷◌, ◌++◌, Option, Some, None}
use Rattle.std.specs.List.{concat}
use Rattle.cts_outside.specs.Lines.{Connection, Line, fresh}
use Rattle.cts_entry.specs.declared.entry.Entry.{Entry}
use Rattle.cts_http.specs.Readings.{Reading, Stands}
use Rattle.cts_http.specs.Requests.{Requests, Waiting}
use Rattle.cts_table.specs.declared.basis.Basis.{Basis}
use Rattle.cts_turn.specs.declared.rule.View.{View}
use Rattle.cts_desk.specs.declared.ending.HangUp.{HangUp}
use Rattle.cts_desk.specs.declared.ending.HangUp.TheVariants.{Stopped as ForStop, Over as ForOther}
use Rattle.cts_desk.specs.Exchanges.{Exchange, Exchanges, Among, fronts_of, bodies_of}
use Rattle.cts_desk.specs.Streams.{Cut, PeerEnded, ReadFault, WriteFault, LastAsked, Refused, NoMemory, Stopped, IsTaking, Served, responses, last_front}
use Rattle.cts_desk.specs.Told.{Serves, Settled}

-- the exchanges of a desk in what it has seen, where each reply is given in a hold of its own
pub record Going (b : Basis) (by : ℕ) (fronts : List ℕ) (v : View Entry Basis) (xs : List Exchange) : Type 0 where
  pub fronts_are : fronts ≡ fronts_of xs
  pub among : Among fronts v.found
  pub stand : Exchanges b by [] xs [] v.seen

-- what is known of a desk's exchanges, beside their fronts and what the desk has seen
abbrev pub Knows : Type 1
Knows = List ℕ → View Entry Basis → List Exchange → Type 0

-- where a desk is in a connection: all requests that its reader gave are answered; and the reader wants more bytes; this piece
-- was taken then, and not fed yet; a request with this body is not answered yet; the connection is over; it is over for a Stop
pub data Stage : Type 0 where
  Reads : Stage
  Waits : Stage
  Took : List ℕ → Stage
  Asks : List ℕ → Stage
  Over : Stage
  Halted : Stage

abbrev pub is_stop_cut : Cut → Bool
is_stop_cut PeerEnded = false
is_stop_cut ReadFault = false
is_stop_cut WriteFault = false
is_stop_cut LastAsked = false
is_stop_cut (Refused status) = false
is_stop_cut NoMemory = false
is_stop_cut Stopped = true

-- the responses were put whole
abbrev pub IsAnswering : Connection → List Exchange → Type 0
IsAnswering c mine = (c.put ≡ responses mine) × (c.put_failed ≡ false)

-- all requests in the bytes are answered, and more bytes are waited for
abbrev pub IsWaiting : Reading → List Exchange → Connection → Type 0
IsWaiting r mine c =
    Stands r (concat c.pieces) (bodies_of mine) × IsAnswering c mine × Requests (concat c.pieces) (bodies_of mine) (Waiting r.left) × IsTaking c

abbrev pub StageSo : Stage → Reading → List Exchange → List Exchange → Connection → Type 0
StageSo Reads r earlier mine c = Stands r (concat c.pieces) (bodies_of mine) × IsAnswering c mine × IsTaking c
StageSo Waits r earlier mine c = IsWaiting r mine c
StageSo (Took piece) r earlier mine d = (c : Connection) × IsWaiting r mine c × (d.pieces ≡ c.pieces ++ piece ∷ []) × (d.put ≡ c.put)
    × (d.put_failed ≡ c.put_failed) × (d.ended ≡ c.ended) × (d.take_failed ≡ c.take_failed)
StageSo (Asks body) r earlier mine c = Stands r (concat c.pieces) (bodies_of mine ++ body ∷ []) × IsAnswering c mine × IsTaking c
StageSo Over r earlier mine c = (cut : Cut) × (is_stop_cut cut ≡ false) × Served cut (last_front (fronts_of (earlier ++ mine))) c mine
StageSo Halted r earlier mine c = Served Stopped (last_front (fronts_of (earlier ++ mine))) c mine

-- A connection stands, of which this is known, and the connections before it have the exchanges of earlier.
pub record TalkingBy (was : List Connection) (earlier : List Exchange) (Known : Connection → Type 0) (line : Line) : Type 0 where
  pub connection : Connection
  pub stands : line.now ≡ Some connection
  pub gone : List Connection
  pub past : line.past ≡ was ++ gone
  pub serves : Serves false [] gone earlier
  pub so : Known connection

abbrev pub TalksBy : List Connection → List Exchange → (Connection → Type 0) → Option Line → Type 0
TalksBy was earlier Known None = Unit {0}
TalksBy was earlier Known (Some line) = TalkingBy was earlier Known line

abbrev pub Talks : List Connection → Stage → Reading → List Exchange → List Exchange → Option Line → Type 0
Talks was stage r earlier mine told = TalksBy was earlier (StageSo stage r earlier mine) told

pub record Serving (Goes : Knows) (was : List Connection) (stage : Stage) (fronts : List ℕ) (v : View Entry Basis) (r : Reading)
    (told : Option Line) : Type 0 where
  pub earlier : List Exchange
  pub mine : List Exchange
  pub going : Goes fronts v (earlier ++ mine)
  pub talks : Talks was stage r earlier mine told

-- between two connections
pub record Resting (Goes : Knows) (was : List Connection) (stop : Bool) (fronts : List ℕ) (v : View Entry Basis) (told : Option Line) : Type 0 where
  pub exchanges : List Exchange
  pub going : Goes fronts v exchanges
  pub settled : Settled stop was exchanges told

-- all connections past are settled, and a new one stands
abbrev pub Dials : List Connection → List Exchange → Option Line → Type 0
Dials was xs None = Unit {0}
Dials was xs (Some line) = (line.now ≡ Some fresh) × (gone : List Connection) × (line.past ≡ was ++ gone) × Serves false [] gone xs

-- the stage after a step that may be the last
abbrev pub goes_on : Bool → Stage → Stage
goes_on true next = next
goes_on false next = Over

-- the stage after the last step: over for a Stop, or for another cause
abbrev pub halts_or : Bool → Stage
halts_or true = Halted
halts_or false = Over

-- whether a desk hangs up for a Stop
abbrev pub is_stop : HangUp → Bool
is_stop ForStop = true
is_stop ForOther = false

-- a desk hangs up on a connection that does not go on
abbrev pub over_unless : Bool → Option HangUp
over_unless true = None
over_unless false = Some ForOther

-- the stage after a round
abbrev pub after : Option HangUp → Stage
after None = Waits
after (Some why) = halts_or (is_stop why)

-- all exchanges so far are those of connections past, and a new one stands
pub record Begins (Goes : Knows) (was : List Connection) (fronts : List ℕ) (v : View Entry Basis) (told : Option Line) : Type 0 where
  pub exchanges : List Exchange
  pub going : Goes fronts v exchanges
  pub settled : Dials was exchanges told
