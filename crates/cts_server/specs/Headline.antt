-- The headline: what the one history of a server holds of its interfaces and routers, its desks, its logs and its limits events.
use Rattle.std.specs.Prelude.{◌≡◌, ◌≢◌, ◌⊎◌, ◌==◌, ℕ, ◌+◌, ◌≤◌, true, List, [], ◌∷◌, ◌++◌, length, take, drop, filter, Option, Some, None, IsSomeAnd}
use Rattle.cts_connection.specs.Routings.{is_routed, site_routing}
use Rattle.cts_def.specs.Makers.{first_desk, first_slot}
use Rattle.cts_def.specs.Sites.{SiteData}
use Rattle.cts_entry.specs.declared.entry.Entry.{Entry}
use Rattle.cts_entry.specs.declared.what.What.TheVariants.{Opened, Closed}
use Rattle.cts_entry.specs.declared.why.Why.{Why}
use Rattle.cts_entry.specs.declared.why.Why.TheVariants.{NoMemory, Full}
use Rattle.cts_entry.specs.Places.{Posts, Stays}
use Rattle.cts_framing.specs.Cuts.{Pieces}
use Rattle.cts_framing.specs.Framing.{Output}
use Rattle.cts_framing.specs.Laws.{CutsBytes}
use Rattle.cts_framing.specs.Packets.{IsPackets, capped, joined, loss_of}
use Rattle.cts_line.specs.Rows.{InRows}
use Rattle.cts_line.specs.Telling.{made_by, since}
use Rattle.cts_line.specs.declared.ending.LineWhy.{LineWhy}
use Rattle.cts_monitor.specs.Events.{events, events_at}
use Rattle.cts_monitor.specs.declared.types.LimitsEvent.{LimitsEvent}
use Rattle.cts_outside.specs.Lines.{Connection, Line}
use Rattle.cts_outside.specs.Seen.{CrewSeen, LineSeen, VaultSeen}
use Rattle.cts_outside.specs.Vaults.{Logs, log_of}
use Rattle.cts_outside.specs.declared.link.Aim.{Aim}
use Rattle.cts_outside.specs.declared.vault.LogKind.{LogKind}
use Rattle.cts_scribe.specs.Laws.{IsAfterStop}
use Rattle.cts_scribe.specs.Vaults.{AreBlank, AreWhole}
use Rattle.cts_scribe.specs.declared.ending.ScribeWhy.TheVariants.{Drained}
use Rattle.cts_table.specs.Keeping.{IsKept}
use Rattle.cts_trace.specs.Connections.{Says, Shows}
use Rattle.cts_trace.specs.Routing.{Routing, spell}
use Rattle.cts_trace.specs.Streams.{routed}
use Rattle.cts_trace.specs.Told.{Unopened}
use Rattle.cts_trace_laws.specs.Stretches.{commanded}
use Rattle.cts_server.specs.Aims.{aimed_at, desk_aims, line_aims, slot_aims}
use Rattle.cts_server.specs.Complete.{DeskAnswers}
use Rattle.cts_server.specs.Lines.{is_cancelled}
use Rattle.cts_server.specs.Once.{EndsOnce}
use Rattle.cts_server.specs.Owed.{server_basis}
use Rattle.cts_server.specs.Places.{CameBack}
use Rattle.cts_server.specs.ServedLogs.{LeavesLog}
use Rattle.cts_server.specs.Serving.{HasServed}
use Rattle.cts_server.specs.declared.worked.DeskNote.{DeskNote}
use Rattle.cts_server.specs.declared.worked.Worked.{Worked}

-- ---- an interface, or a slot of a router

-- neither memory nor room wanted
abbrev pub WantsNothing : Why → Type 0
WantsNothing why = (why ≢ Full) × (why ≢ NoMemory)

module _ (g : Routing) (m : ℕ) where
  -- The entries are those of a connection, from its Opened to its Closed. Between them its maker has exactly the packets that its chain
  -- gives for the pieces that were taken, each once and in order, however their bytes were cut, unless the first protocol follows the
  -- pieces; those of one piece stand side by side. The Closed counts, stage by stage, the bytes that are in no finished frame. Where memory
  -- or room wanted, the last packets may be missing, and it counts them.
  pub record HoldsPackets (before : List Entry) (c : Connection) (entries : List Entry) : Type 0 where
    pub opened : Entry
    pub between : List Entry
    pub closed : Entry
    pub entries_are : entries ≡ opened ∷ (between ++ closed ∷ [])
    pub why : Why
    pub fed : List (List ℕ)
    pub cuts : List Pieces
    pub packets : List Output
    pub missing : List Output
    pub unsent : ℕ
    pub opens : Says m opened Opened
    pub given : IsPackets (g.chain m) fed cuts (packets ++ missing)
    pub each : Posts m (Shows g m) (before ++ opened ∷ []) between packets
    pub rows : InRows g m fed packets (before ++ opened ∷ []) between
    pub closes : Says m closed (Closed why (loss_of cuts) (capped (length missing)) unsent)
    pub whole : WantsNothing why → (fed ≡ c.pieces) × (missing ≡ [])
    pub however : CutsBytes (g.chain m) → (others : List (List ℕ)) (ducts : List Pieces) (more : List Output) → joined fed ≡ joined others
        → IsPackets (g.chain m) others ducts more → (cuts ≡ ducts) × (packets ++ missing ≡ more)

  -- What was put in it is what a stream has of the entries from directly after the Opened up to a place before the Closed; and only where a
  -- put failed, a beginning of one spelling more.
  pub record PutsPart (stream : ℕ → ℕ → List ℕ) (before : List Entry) (c : Connection) (entries : List Entry) : Type 0 where
    pub count : ℕ
    pub tail : List ℕ
    pub within : count + 2 ≤ length entries
    pub put_is : c.put ≡ stream (length before + 1) (length before + 1 + count) ++ tail
    pub tail_is : (tail ≡ []) ⊎ ((c.put_failed ≡ true) × ((next : Entry) × (more : List ℕ) × (spell g m next ≡ Some (tail ++ more))))

  -- So it is of all connections that a dialer tells, one after another, and the history has nothing else of their maker between; but the last
  -- one may have no entry where a Stop stands, and then nothing was asked of it.
  pub record HoldsLine (stream : ℕ → ℕ → List ℕ) (history : List Entry) (line : Line) : Type 0 where
    pub said : List Connection
    pub last : List Connection
    pub past_is : line.past ≡ said ++ last
    pub packets : Stays m HoldsPackets [] said history
    pub puts : Stays m (PutsPart stream) [] said history
    pub unopened : Unopened history last

-- this holds of the line that is told; where none is, of some line
abbrev pub OfToldOrSome : Option Line → (Line → Type 0) → Type 0
OfToldOrSome None Holds = (line : Line) × Holds line
OfToldOrSome (Some line) Holds = Holds line

-- what goes to the device of an interface: the spellings of the commands to it
abbrev pub to_device : SiteData → List Entry → ℕ → ℕ → ℕ → List ℕ
to_device site history by from end = commanded (spell (site_routing site) by) by history from end

-- what goes to the client of a slot: the spellings of the packets that are routed to it
abbrev pub to_client : SiteData → List Entry → ℕ → ℕ → ℕ → List ℕ
to_client site history by from end = routed (spell (site_routing site) by) (is_routed site by) history from end

module _ {X : Type 0} (seen : X → LineSeen) (site : SiteData) where
  -- all of its device that it has told since it was aimed, and some line where it tells nothing; or the line was not started, and its
  -- device was aimed and nothing else
  abbrev pub LineHolds : (List Entry → ℕ → ℕ → ℕ → List ℕ) → List Entry → ℕ → Aim → X → X → LineWhy → Type 0
  LineHolds stream history by aim before now why = ((is_cancelled why ≡ true) × (seen now ≡ aimed_at aim (seen before)))
      ⊎ OfToldOrSome (since (made_by (seen before).told) (seen now).told) (λ (line : Line). HoldsLine (site_routing site) by (stream history by) history line)

-- ---- a desk

-- numbers that never fall, from one on
abbrev pub NeverFall : ℕ → List ℕ → Type 0
NeverFall from [] = Unit {0}
NeverFall from (n ∷ ns) = (from ≤ n) × NeverFall n ns

module _ {X : Type 0} (seen : X → LineSeen) (site : SiteData) (history : List Entry) where
  -- its replies are the definition's at points of the history, and these never fall
  abbrev pub DeskHolds : ℕ → Aim → X → X → DeskNote → Type 0
  DeskHolds by aim before now note = DeskAnswers seen site history by aim before now note × NeverFall 0 note.fronts

-- ---- all of it

-- The history is legal, and has one Ended of each worker. Of each interface it has exactly the packets that the definition gives for the
-- bytes of each connection, each once and in order, those of one piece side by side, and the device was given the commands to it; of each
-- slot of a router the same, and its client was given what is routed to it; each reply of a desk is the definition's at a point of it; the
-- logs of a drained scribe are those of it, and what a stop leaves of a log is read as the entries of a beginning of it; and its limits
-- events are the definition's: those at each entry by what stands before it, and what a client was told of them at a point stays.
pub record Headline {D Q V : Type 0} (line_seen : D → LineSeen) (door_seen : Q → LineSeen) (vault_seen : V → VaultSeen) (site : SiteData)
    (digest : List ℕ) (w : Worked) (dialers dialers' : List (Option D)) (doors doors' : List (Option Q)) (vault' : Option V) : Type 0 where
  pub legal : IsKept (server_basis site) w.history
  pub once : EndsOnce site w.history
  pub interfaces : CameBack (LineHolds line_seen site (to_device site) w.history) 0 (line_aims site) dialers dialers' (take (length site.interfaces) w.lines)
  pub routers : CameBack (LineHolds door_seen site (to_client site) w.history) first_slot (slot_aims site) (take 8 doors) (take 8 doors')
      (drop (length site.interfaces) w.lines)
  pub desks : CameBack (DeskHolds door_seen site w.history) first_desk (desk_aims site) (drop 8 doors) (drop 8 doors') w.desks
  pub logs : w.scribe ≡ Drained → IsSomeAnd vault' (λ v. AreWhole site digest w.history (vault_seen v).told)
  pub stopped : IsSomeAnd vault' (λ v. (kind : LogKind) (both : Logs) (files : List (List ℕ)) → (vault_seen v).told ≡ Some both
      → IsAfterStop (log_of kind both) files → LeavesLog site digest w.history kind (log_of kind both) files)
  pub limits : (before : List Entry) (e : Entry) (later : List Entry) → w.history ≡ before ++ e ∷ later
      → filter (λ (event : LimitsEvent). event.at == length before) (events site w.history) ≡ events_at site before e
  pub points : (before later : List Entry) → w.history ≡ before ++ later
      → (more : List LimitsEvent) × (events site w.history ≡ events site before ++ more)

module _ {D Q V : Type 0} (line_seen : D → LineSeen) (door_seen : Q → LineSeen) (vault_seen : V → VaultSeen) where
  -- Where the workers of a site worked over a vault that was blank, all this holds of what they left.
  abbrev pub HeadlineHolds : Type 0
  HeadlineHolds = (site : SiteData) (digest : List ℕ) (w : Worked) (dialers dialers' : List (Option D)) (doors doors' : List (Option Q))
      (vault vault' : Option V) (crew crew' : CrewSeen) → IsSomeAnd vault (λ v. AreBlank (vault_seen v).told)
      → HasServed line_seen door_seen vault_seen site digest w dialers dialers' doors doors' vault vault' crew crew'
      → Headline line_seen door_seen vault_seen site digest w dialers dialers' doors doors' vault'
