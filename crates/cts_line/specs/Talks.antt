-- A connection that stands, beside the history so far.
use Rattle.std.specs.Prelude.{◌≡◌, ℕ, ◌+◌, ◌<◌, ◌≤◌, ◌⊎◌, Bool, true, false, List, [], ◌∷◌, ◌++◌, length, map}
use Rattle.std.specs.Prelude.{Option, Some, None, option_to_list}
use Rattle.cts_chain.specs.Chains.{StagesStand, AllSettled, framings_of, last_fault}
use Rattle.cts_chain.specs.Shapes.{ChainData, writers}
use Rattle.cts_connection.specs.Connections.{HeldConnection}
use Rattle.cts_connection.specs.LinePlaces.{is_line}
use Rattle.cts_connection.specs.Routings.{writers_at}
use Rattle.cts_def.specs.Sites.{SiteData}
use Rattle.cts_entry.specs.declared.entry.Entry.{Entry}
use Rattle.cts_entry.specs.declared.what.What.TheVariants.{Opened}
use Rattle.cts_entry.specs.declared.why.Why.{Why}
use Rattle.cts_entry.specs.declared.why.Why.TheVariants.{PeerEnded, ReadFault, WriteFault, BadFrame, Stopped, NoMemory, Full}
use Rattle.cts_entry.specs.Histories.{has_own, is_stopped}
use Rattle.cts_entry.specs.Places.{Posts}
use Rattle.cts_entry.specs.Queues.{spelled, refused}
use Rattle.cts_framing.specs.Chains.{framings_at}
use Rattle.cts_framing.specs.Framing.{Output, plain}
use Rattle.cts_framing.specs.Packets.{capped}
use Rattle.cts_outside.specs.Lines.{Connection, Line, fresh}
use Rattle.cts_proto.specs.Meaning.{Meaning}
use Rattle.cts_table.specs.declared.basis.Basis.{Basis}
use Rattle.cts_trace.specs.Routing.{Routing, queue, spell}
use Rattle.cts_trace.specs.Connections.{NoneLate, Says, Shows, Tail}
use Rattle.cts_entry.specs.Room.{Capacity}
use Rattle.cts_trace.specs.Lines.{Flags, PutsAll, PostsNone, TellsWhy, looks}
use Rattle.cts_turn.specs.Lists.{has}
use Rattle.cts_turn.specs.declared.rule.View.{View}
use Rattle.cts_worker.specs.Lasts.{IsShut}
use Rattle.cts_line.specs.Ending.{opened_in}
use Rattle.cts_line.specs.Rows.{InRows, SaidInRows, SettledInRows, ToldInRows}
use Rattle.cts_line.specs.declared.ending.LineWhy.{LineWhy}
use Rattle.cts_line.specs.declared.posting.Posting.{Posting}
use Rattle.cts_line.specs.declared.posting.Posting.TheVariants.{Posted, Closed}

-- where a line is: before a look; with these spellings to put after it; with all of them put; before a take, no Stop having been seen; about to
-- close, all packets being posted
pub data Phase : Type 0 where
  Waits : Phase
  Puts : List (Option (List ℕ)) → Phase
  Caught : Phase
  Takes : Phase
  Ends : Why → Phase

-- a chain has the protocols of a maker
pub record Suits (site : SiteData) (m : ℕ) (c : ChainData) : Type 0 where
  pub framings : framings_of c.stages ≡ framings_at site m
  pub writing : writers c ≡ writers_at site m

-- A line may make its next connection: its pass is its own, it is one of the site over which the turn is, it has the chain of its
-- protocols, no connection of it stands, and so many were opened.
pub record IsReady {G : Type 0} (site : SiteData) (base : Basis) (by : ℕ) (chain : ChainData) (connections : ℕ) (v : View Entry G) : Type 0 where
  pub makers : has by v.makers ≡ true
  pub site_is : site ≡ base.site
  pub line : is_line base.site by ≡ true
  pub suits : Suits base.site by chain
  pub shut : IsShut by v.seen
  pub count : connections ≡ capped (opened_in by v.seen)

-- all connections past are said, and a new one stands
abbrev pub Begins : Routing → Capacity → ℕ → List ℕ → List Entry → Option Line → Type 0
Begins g room m found history None = Unit {0}
Begins g room m found history (Some line) = (line.now ≡ Some fresh) × SaidInRows g room m found line.past history

-- What the history has of the connection: where it was opened, what the last look saw and what came after it; the packets that were posted; and of
-- its queue, as far as was looked, what is done and the rest.
pub record Body (g : Routing) (m : ℕ) (history : List Entry) : Type 0 where
  pub before : List Entry
  pub opened : Entry
  pub looked : List Entry
  pub ahead : List Entry
  pub whole : history ≡ before ++ opened ∷ (looked ++ ahead)
  pub opens : Says m opened Opened
  pub posted : List Output
  pub posts : Posts m (Shows g m) (before ++ opened ∷ []) (looked ++ ahead) posted
  pub done : List Entry
  pub rest : List Entry
  pub queue_is : queue g m looked ≡ done ++ rest

-- each hold after the Opened, and none beyond what stands
abbrev pub AllWithin : ℕ → ℕ → List ℕ → Type 0
AllWithin o end [] = Unit {0}
AllWithin o end (n ∷ ns) = (o < n) × (n ≤ end) × AllWithin o end ns

-- no hold began beyond what stands
abbrev pub AllAtMost : ℕ → List ℕ → Type 0
AllAtMost end [] = Unit {0}
AllAtMost end (n ∷ ns) = (n ≤ end) × AllAtMost end ns

-- the holds since the Opened
pub record Holds (found : List ℕ) (o end : ℕ) : Type 0 where
  pub earlier : List ℕ
  pub mine : List ℕ
  pub found_is : found ≡ earlier ++ mine
  pub within : AllWithin o end mine
  pub all_within : AllAtMost end found

-- one of these is the place of the look
abbrev pub IsAmong : List ℕ → ℕ → Type 0
IsAmong found place = (earlier : List ℕ) × (later : List ℕ) × (found ≡ earlier ++ place ∷ later)

-- the last one is
abbrev pub IsLast : List ℕ → ℕ → Type 0
IsLast found place = (earlier : List ℕ) × (found ≡ earlier ++ place ∷ [])

-- ---- what a phase says

-- why a connection is about to close, by what it tells and what the last look saw
abbrev pub HasCause : Why → Connection → List Entry → Type 0
HasCause PeerEnded c saw = (c.ended ≡ true) × (is_stopped saw ≡ false)
HasCause ReadFault c saw = (c.take_failed ≡ true) × (is_stopped saw ≡ false)
HasCause WriteFault c saw = c.put_failed ≡ true
HasCause (BadFrame stage cause) c saw = ⊥
HasCause Stopped c saw = is_stopped saw ≡ true
HasCause NoMemory c saw = Unit {0}
HasCause Full c saw = ⊥

-- no take has answered End, and none and no put failed, until the connection is to be closed for that
abbrev pub TellsSo : Phase → Connection → Type 0
TellsSo Waits c = Flags c false false false
TellsSo (Puts spellings) c = Flags c false false false
TellsSo Caught c = Flags c false false false
TellsSo Takes c = Flags c false false false
TellsSo (Ends why) c = TellsWhy why c

abbrev pub SawSo : Phase → Connection → List Entry → Type 0
SawSo Waits c saw = Unit {0}
SawSo (Puts spellings) c saw = Unit {0}
SawSo Caught c saw = Unit {0}
SawSo Takes c saw = is_stopped saw ≡ false
SawSo (Ends why) c saw = HasCause why c saw

-- nothing came after what the look saw until a hold follows, and for some reasons nothing is posted before the Closed
abbrev pub QuietSo : Phase → ℕ → List Entry → Type 0
QuietSo Waits m ahead = Unit {0}
QuietSo (Puts spellings) m ahead = ahead ≡ []
QuietSo Caught m ahead = ahead ≡ []
QuietSo Takes m ahead = ahead ≡ []
QuietSo (Ends why) m ahead = PostsNone why (has_own m ahead ≡ false)

-- the spellings of what is done are put; after a fault perhaps a beginning of the next one follows
abbrev pub PutSo : Phase → (Entry → Option (List ℕ)) → List Entry → List Entry → List ℕ → Type 0
PutSo Waits spelling done rest put = (rest ≡ []) × (put ≡ spelled spelling done)
PutSo (Puts spellings) spelling done rest put = (map spelling rest ≡ spellings) × (put ≡ spelled spelling done)
PutSo Caught spelling done rest put = (rest ≡ []) × (put ≡ spelled spelling done)
PutSo Takes spelling done rest put = (rest ≡ []) × (put ≡ spelled spelling done)
PutSo (Ends why) spelling done rest put =
    ((tail : List ℕ) × (put ≡ spelled spelling done ++ tail) × Tail spelling why rest tail) × PutsAll why (rest ≡ [])

-- how much of the rest counts as unsent: not what is about to be put
abbrev pub waiting : Phase → List Entry → ℕ
waiting Waits rest = length rest
waiting (Puts spellings) rest = 0
waiting Caught rest = length rest
waiting Takes rest = length rest
waiting (Ends why) rest = length rest

-- a look more than takes, from the look to the take
abbrev pub LookedSo : Phase → List ℕ → ℕ → ℕ → Type 0
LookedSo Waits mine place takes = takes ≤ length mine
LookedSo (Puts spellings) mine place takes = (takes + 1 ≤ length mine) × IsLast mine place
LookedSo Caught mine place takes = (takes + 1 ≤ length mine) × IsLast mine place
LookedSo Takes mine place takes = (takes + 1 ≤ length mine) × IsLast mine place
LookedSo (Ends why) mine place takes = (takes ≤ length mine) × PutsAll why (IsLast mine place)

-- no more holds than this began at places behind a beginning of the history in which a Stop stands
abbrev pub SoonBy : ℕ → List ℕ → ℕ → List Entry → Type 0
SoonBy limit found o history =
    (earlier later : List Entry) (n : ℕ) → history ≡ earlier ++ later → length earlier ≡ n + 1 → o ≤ n → is_stopped earlier ≡ true
    → looks found n (length history) ≤ limit

-- how many may have: the last hold that posted, and the look after it; none, where a look has seen no Stop
abbrev pub late_holds : Phase → ℕ
late_holds Waits = 1
late_holds (Puts spellings) = 2
late_holds Caught = 2
late_holds Takes = 0
late_holds (Ends why) = 2

-- A connection that stands, of a line that has put, or is putting, what it saw up to a place, some of which were not put whole. All packets
-- of what was fed are posted, in rows, and no stage of its chain has failed.
pub record Talking (g : Routing) (room : Capacity) (m : ℕ) (phase : Phase) (stages : List Meaning) (place unsent : ℕ) (found : List ℕ)
    (history : List Entry) (line : Line) : Type 0 where
  pub connection : Connection
  pub stands : line.now ≡ Some connection
  pub body : Body g m history
  pub fed : StagesStand stages (map plain connection.pieces) body.posted
  pub rows : InRows g m connection.pieces body.posted (body.before ++ body.opened ∷ []) (body.looked ++ body.ahead)
  pub settled : AllSettled stages
  pub sound : last_fault 1 stages ≡ None
  pub late : NoneLate (g.chain m) connection.pieces
  pub past : SaidInRows g room m found line.past body.before
  pub place_is : place ≡ length body.before + 1 + length body.looked
  pub holds : Holds found (length body.before) (length history)
  pub soon_so : SoonBy (late_holds phase) found (length body.before) history
  pub among : (body.looked ≡ []) ⊎ IsAmong found place
  pub tells_so : TellsSo phase connection
  pub saw_so : SawSo phase connection (body.before ++ body.opened ∷ body.looked)
  pub quiet_so : QuietSo phase m body.ahead
  pub put_so : PutSo phase (spell g m) body.done body.rest connection.put
  pub unsent_is : unsent ≡ refused (spell g m) body.done + waiting phase body.rest
  pub looked_so : LookedSo phase holds.mine place connection.takes

abbrev pub Talks : Routing → Capacity → ℕ → Phase → List Meaning → ℕ → ℕ → List ℕ → List Entry → Option Line → Type 0
Talks g room m phase stages place unsent found history None = Unit {0}
Talks g room m phase stages place unsent found history (Some line) = Talking g room m phase stages place unsent found history line

-- the phase after a step that may end the connection
abbrev pub after : Phase → Option Why → Phase
after next None = next
after next (Some why) = Ends why

-- the same of a connection, and of the view of a pass
abbrev pub TalksAt : {G : Type 0} → Routing → Capacity → ℕ → Phase → HeldConnection → View Entry G → Option Line → Type 0
TalksAt g room m phase c v told = Talks g room m phase c.chain.stages c.cursor.place c.cursor.refused v.found v.seen told

-- how much the history of a basis may hold
abbrev pub room_of : Basis → Capacity
room_of base = record { entries = base.entries; bytes = base.bytes }

-- why a connection ends, where a Stop was seen and nothing else ends it
abbrev pub stopped_by : Option Why → Bool → Option Why
stopped_by None true = Some Stopped
stopped_by None false = None
stopped_by (Some why) stop = Some why

-- the connection that stands was closed in the history
abbrev pub IsClosed : {G : Type 0} → Routing → Capacity → ℕ → View Entry G → Option Line → Type 0
IsClosed g room m v None = Unit {0}
IsClosed g room m v (Some line) = SaidInRows g room m v.found (line.past ++ option_to_list line.now) v.seen

-- why the connection was closed, if it was, in the hold that was to post a piece
abbrev pub closed_by : Posting → Option Why
closed_by (Posted some) = None
closed_by (Closed why) = Some why

-- what follows a round: the next one, or the end of the connection
abbrev pub Went : {G : Type 0} → Routing → Capacity → ℕ → HeldConnection → View Entry G → Option Line → Option Why → Type 0
Went g room m c v told None = TalksAt g room m Waits c v told
Went g room m c v told (Some why) = IsClosed g room m v told

-- what is told of all connections after one more dial: all of them are said, or the last one may have no entry, where the line ends
abbrev pub ToldSoFar : Routing → Capacity → ℕ → List ℕ → List Entry → Option Line → Option LineWhy → Type 0
ToldSoFar g room m found history told None = SettledInRows g room m found history told
ToldSoFar g room m found history told (Some why) = ToldInRows g room m found history told
