-- What a server promises besides: each worker ends once, desks answer all that they are asked, and lines take each connection to its end
-- where nobody stops the server.
use Rattle.std.specs.Prelude.{◌≡◌, ◌⊎◌, ℕ, Bool, true, false, List, [], ◌∷◌, ◌++◌, length, take, drop, Option, Some, None, IfSome, IsSomeAnd}
use Rattle.std.specs.List.{concat, list_any}
use Rattle.cts_connection.specs.Routings.{site_routing}
use Rattle.cts_def.specs.Makers.{first_desk, first_slot}
use Rattle.cts_def.specs.Sites.{IsSoundSite, SiteData}
use Rattle.cts_desk.specs.Exchanges.{Exchange, Exchanges, bodies_of, fronts_of, out_of_memory}
use Rattle.cts_desk.specs.Streams.{IsUnasked, IsUnfed, responses}
use Rattle.cts_desk.specs.Told.{past_of}
use Rattle.cts_entry.specs.declared.entry.Entry.{Entry}
use Rattle.cts_entry.specs.declared.why.Why.{Why}
use Rattle.cts_entry.specs.declared.why.Why.TheVariants.{PeerEnded, ReadFault, WriteFault, BadFrame, Stopped, NoMemory, Full}
use Rattle.cts_entry.specs.Histories.{is_stopped}
use Rattle.cts_entry.specs.Places.{Stays}
use Rattle.cts_framing.specs.Packets.{Fault, fault_of}
use Rattle.cts_http.specs.Requests.{Ending, Requests, Closed, Waiting, Refused}
use Rattle.cts_http.specs.Streams.{ending_text, response_with}
use Rattle.cts_line.specs.Talks.{room_of}
use Rattle.cts_line.specs.Telling.{made_by, since}
use Rattle.cts_line.specs.declared.ending.LineWhy.{LineWhy}
use Rattle.cts_outside.specs.Lines.{Connection, Line, hung_up, told_after}
use Rattle.cts_outside.specs.Seen.{LineSeen, VaultSeen}
use Rattle.cts_outside.specs.declared.link.Aim.{Aim}
use Rattle.cts_scribe.specs.Vaults.{AreWhole}
use Rattle.cts_scribe.specs.declared.ending.ScribeWhy.TheVariants.{Drained}
use Rattle.cts_table.specs.Keeping.{IsKept}
use Rattle.cts_table.specs.declared.basis.Basis.{Basis}
use Rattle.cts_entry.specs.Room.{Capacity}
use Rattle.cts_trace.specs.Lines.{Looked}
use Rattle.cts_trace.specs.Makers.{closes_for}
use Rattle.cts_trace.specs.Routing.{Routing}
use Rattle.cts_server.specs.Aims.{aimed_at, desk_aims, line_aims, slot_aims}
use Rattle.cts_server.specs.Desks.{is_cancelled}
use Rattle.cts_server.specs.Once.{EndsOnce}
use Rattle.cts_server.specs.Owed.{DeskOwes, LineOwes, ScribeOwes, server_basis}
use Rattle.cts_server.specs.Places.{CameBack}
use Rattle.cts_server.specs.declared.worked.DeskNote.{DeskNote}
use Rattle.cts_server.specs.declared.worked.Worked.{Worked}

-- ---- the connections of a desk

-- how a connection ended in which every request has its response: with a request that ends it, or a refusal; and where more bytes were
-- waited for, its peer ended it, a take of it failed, or it was cut for a Stop
abbrev pub IsOver : Bool → Connection → Ending → Type 0
IsOver cut c Closed = Unit {0}
IsOver cut c (Refused status) = Unit {0}
IsOver cut c (Waiting left) = (c.ended ≡ true) ⊎ ((c.take_failed ≡ true) ⊎ (cut ≡ true))

-- Each request that was taken whole, up to one that ends the connection, has its whole response; after them stands the refusal, where the
-- rest is refused; and nothing else was put.
pub record HasAll (cut : Bool) (c : Connection) (xs : List Exchange) : Type 0 where
  pub ending : Ending
  pub asked : Requests (concat c.pieces) (bodies_of xs) ending
  pub put : c.put ≡ responses xs ++ ending_text ending
  pub over : IsOver cut c ending

-- No memory was found for a piece or for a front: after the responses so far stands one that says so, and ends the connection.
pub record LacksMemory (c : Connection) (xs : List Exchange) : Type 0 where
  pub asked : IsUnfed c.pieces (bodies_of xs) ⊎ IsUnasked c.pieces (bodies_of xs)
  pub front : ℕ
  pub put : c.put ≡ responses xs ++ response_with front (Some out_of_memory)

-- A put failed in it, where neither holds.
abbrev pub IsServed : Bool → Connection → List Exchange → Type 0
IsServed cut c xs = HasAll cut c xs ⊎ (LacksMemory c xs ⊎ (c.put_failed ≡ true))

-- a connection before others is never cut for a Stop
abbrev pub cut_before : Bool → List Connection → Bool
cut_before stop [] = stop
cut_before stop (c ∷ later) = false

-- The exchanges are those of the connections, one after another; and only where a Stop stands, the last one may be cut for it.
abbrev pub AreServed : Bool → List Connection → List Exchange → Type 0
AreServed stop [] xs = xs ≡ []
AreServed stop (c ∷ cs) xs = (first : List Exchange) × (more : List Exchange) × (xs ≡ first ++ more) × IsServed (cut_before stop cs) c first
    × AreServed stop cs more

-- The connections of a desk that came after those told before: its exchanges stand in the history, each answered at its front, and are
-- those of the connections.
pub record AnswersAll (basis : Basis) (by : ℕ) (history : List Entry) (fronts : List ℕ) (was : List Connection) (line : Line) : Type 0 where
  pub gone : List Connection
  pub past : line.past ≡ was ++ gone
  pub exchanges : List Exchange
  pub fronts_are : fronts ≡ fronts_of exchanges
  pub last : List Entry
  pub stand : Exchanges basis by [] exchanges last history
  pub served : AreServed (is_stopped history) gone exchanges

-- ---- the connections of a line

abbrev pub is_stopped_why : Why → Bool
is_stopped_why PeerEnded = false
is_stopped_why ReadFault = false
is_stopped_why WriteFault = false
is_stopped_why (BadFrame stage cause) = false
is_stopped_why Stopped = true
is_stopped_why NoMemory = false
is_stopped_why Full = false

-- why a connection was closed that was not cut for a Stop: its peer ended it, a take or a put of it failed, its chain has this error, or memory or room wanted
abbrev pub HasRunOut : Connection → Option Fault → Why → Type 0
HasRunOut c fault PeerEnded = c.ended ≡ true
HasRunOut c fault ReadFault = c.take_failed ≡ true
HasRunOut c fault WriteFault = c.put_failed ≡ true
HasRunOut c fault (BadFrame stage cause) = fault ≡ Some (record { stage = stage; cause = cause })
HasRunOut c fault Stopped = ⊥
HasRunOut c fault NoMemory = Unit {0}
HasRunOut c fault Full = Unit {0}

-- The entries are those of this connection, from its Opened to its Closed, and it was taken to its end.
pub record RunsOut (g : Routing) (room : Capacity) (m : ℕ) (found : List ℕ) (before : List Entry) (c : Connection) (entries : List Entry) : Type 0 where
  pub looked : Looked g room m found before c entries
  pub why : HasRunOut c (fault_of looked.stay.carries.cuts) looked.stay.why

-- All connections that a dialer tells now were hung up, and each of them has its entries and was taken to its end.
abbrev pub RunOut : Routing → Capacity → ℕ → List ℕ → List Entry → Line → Type 0
RunOut g room m found history line = (line.now ≡ None) × Stays m (RunsOut g room m found) [] line.past history

-- ---- those of a site

-- a desk that was not started: its door was aimed and nothing else, and it has no fronts
abbrev pub WasUnstarted : {X : Type 0} → (X → LineSeen) → Aim → X → X → DeskNote → Type 0
WasUnstarted seen aim before now note = (is_cancelled note.why ≡ true) × (note.fronts ≡ []) × (seen now ≡ aimed_at aim (seen before))

module _ {X : Type 0} (seen : X → LineSeen) (site : SiteData) (history : List Entry) where
  -- a desk: those of its door, where it tells, after one that stood before and was hung up; or it was not started, and its door is as it was
  abbrev pub DeskAnswers : ℕ → Aim → X → X → DeskNote → Type 0
  DeskAnswers by aim before now note = WasUnstarted seen aim before now note ⊎ IfSome (seen now).told
      (λ (line : Line). AnswersAll (server_basis site) by history note.fronts (past_of (told_after hung_up (seen before).told)) line)

  -- a line: those that its dialer made for it, where it tells
  abbrev pub LineRunsOut : ℕ → Aim → X → X → LineWhy → Type 0
  LineRunsOut by aim before now why = (found : List ℕ) × IfSome (since (made_by (seen before).told) (seen now).told)
      (λ (line : Line). RunOut (site_routing site) (room_of (server_basis site)) by found history line)

-- Nobody stopped the server: no connection was closed for a Stop, and each one of an interface or a slot was taken to its end.
pub record Unstopped {D Q : Type 0} (line_seen : D → LineSeen) (door_seen : Q → LineSeen) (site : SiteData) (w : Worked)
    (dialers dialers' : List (Option D)) (doors doors' : List (Option Q)) : Type 0 where
  pub uncut : list_any (λ (e : Entry). closes_for is_stopped_why e.what) w.history ≡ false
  pub interfaces : CameBack (LineRunsOut line_seen site w.history) 0 (line_aims site) dialers dialers' (take (length site.interfaces) w.lines)
  pub slots : CameBack (LineRunsOut door_seen site w.history) first_slot (slot_aims site) (take 8 doors) (take 8 doors') (drop (length site.interfaces) w.lines)

-- Each worker has one Ended; each desk has answered all that it was asked; where no Stop stands, lines took each connection to its end; and
-- where the scribe is drained, the logs in its vault are those of the whole history, whole and synced.
pub record IsComplete {D Q V : Type 0} (line_seen : D → LineSeen) (door_seen : Q → LineSeen) (vault_seen : V → VaultSeen) (site : SiteData)
    (digest : List ℕ) (w : Worked) (dialers dialers' : List (Option D)) (doors doors' : List (Option Q)) (vault' : Option V) : Type 0 where
  pub once : EndsOnce site w.history
  pub answered : CameBack (DeskAnswers door_seen site w.history) first_desk (desk_aims site) (drop 8 doors) (drop 8 doors') w.desks
  pub unstopped : is_stopped w.history ≡ false → Unstopped line_seen door_seen site w dialers dialers' doors doors'
  pub logs : IsSoundSite site → w.scribe ≡ Drained → IsSomeAnd vault' (λ v. AreWhole site digest w.history (vault_seen v).told)

module _ {D Q V : Type 0} (line_seen : D → LineSeen) (door_seen : Q → LineSeen) (vault_seen : V → VaultSeen) where
  -- Where what each worker of a site owes holds of one legal history, all this holds of it.
  abbrev pub SitesAreComplete : Type 0
  SitesAreComplete = (site : SiteData) (digest : List ℕ) (w : Worked) (dialers dialers' : List (Option D)) (doors doors' : List (Option Q))
      (vault vault' : Option V) → IsKept (server_basis site) w.history
      → CameBack (LineOwes line_seen site w.history) 0 (line_aims site) dialers dialers' (take (length site.interfaces) w.lines)
      → CameBack (LineOwes door_seen site w.history) first_slot (slot_aims site) (take 8 doors) (take 8 doors') (drop (length site.interfaces) w.lines)
      → CameBack (DeskOwes door_seen site w.history) first_desk (desk_aims site) (drop 8 doors) (drop 8 doors') w.desks
      → ScribeOwes vault_seen site digest w.history vault vault' w.scribe → IsComplete line_seen door_seen vault_seen site digest w
      dialers dialers' doors doors' vault'
