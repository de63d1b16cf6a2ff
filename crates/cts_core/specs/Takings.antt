-- What a running core makes of what its connections take and post.
use Rattle.std.specs.Prelude.{◌≡◌, ℕ, true, false, List, [], ◌∷◌, ◌++◌, length, Option, None, Some, Result, Ok, Err}
use Rattle.cts_chain.specs.Chains.{loss_in}
use Rattle.cts_connection.specs.Connections.{HeldConnection, IsRenewed, waiting}
use Rattle.cts_connection.specs.LinePlaces.{is_line}
use Rattle.cts_connection.specs.Takings.{TakesPiece, blamed, entries_of}
use Rattle.cts_def.specs.Sites.{SiteData}
use Rattle.cts_def.specs.declared.time.Time.{Time}
use Rattle.cts_entry.specs.declared.entry.Entry.{Entry}
use Rattle.cts_entry.specs.declared.what.What.TheVariants.{Opened, Closed}
use Rattle.cts_entry.specs.declared.why.Why.{Why}
use Rattle.cts_entry.specs.Histories.{entries_in, bytes_in, is_connected, is_stopped}
use Rattle.cts_framing.specs.Framing.{Output}
use Rattle.cts_framing.specs.Packets.{Fault}
use Rattle.cts_table.specs.declared.fault.HallFault.{HallFault}
use Rattle.cts_table.specs.declared.fault.HallFault.TheVariants.{Full as Crowded, Memory as Wanting}
use Rattle.cts_table.specs.States.{is_within}
use Rattle.cts_core.specs.Worlds.{Held, changed, connection_of, with_connection}
use Rattle.cts_core.specs.declared.fault.WorldFault.{WorldFault}
use Rattle.cts_core.specs.declared.fault.WorldFault.TheVariants.{NotEnabled, Full, Memory}

-- the Closed of a connection after a history, with what its stages lose and how many commands it has not put whole
abbrev pub lost : SiteData → ℕ → Time → List Entry → HeldConnection → Why → Entry
lost site by now history c why = record { by = by; time = now; what = Closed why (loss_in c.chain.stages) 0 (waiting site by history c.cursor) }

-- a connection is opened: its chain begins anew, and it has passed all that stands, of which nothing is for it
abbrev pub IsOpened : ℕ → Held → Held → Type 0
IsOpened by w new =
    (c : HeldConnection) × IsRenewed true (connection_of w by) c × (c.cursor ≡ record { place = length new.history; refused = 0 })
    × (new ≡ changed by w (record { by = by; time = w.time; what = Opened } ∷ []) c)

-- a connection is closed, and what its chain holds is lost
abbrev pub IsClosed : ℕ → Held → Why → Held → Type 0
IsClosed by w why new = (c : HeldConnection) × IsRenewed false (connection_of w by) c
    × (new ≡ changed by w (lost w.basis.site by w.time w.history (connection_of w by) why ∷ []) c)

-- A piece went through the chain of a connection. These are the entries of its packets, but for a number of the last ones; they are not posted yet.
abbrev pub Takes : ℕ → Held → List ℕ → List Entry → ℕ → Option Why → Held → Type 0
Takes by w piece entries unposted why new =
    (c : HeldConnection) × (c.connected ≡ (connection_of w by).connected) × (c.cursor ≡ (connection_of w by).cursor)
    × TakesPiece w.basis.site w.history by w.time (connection_of w by).chain piece entries unposted why c.chain × (new ≡ with_connection by w c)

-- these are entries of packets of a line whose connection stands, and why it has to be closed
pub record CanPost (by : ℕ) (w : Held) (entries : List Entry) (why : Option Why) : Type 0 where
  pub line : is_line w.basis.site by ≡ true
  pub connected : (connection_of w by).connected ≡ true
  pub packets : List Output
  pub entries_are : entries ≡ entries_of w.basis.site w.history by w.time packets
  pub fault : Option Fault
  pub why_is : why ≡ blamed fault

-- a connection whose chain has failed is closed
abbrev pub Settles : ℕ → Held → Option Why → Held → Type 0
Settles by w None new = new ≡ w
Settles by w (Some why) new = IsClosed by w why new

-- entries are posted, and the connection is closed whose chain has failed; or nothing is done
abbrev pub Posts : ℕ → Held → List Entry → Option Why → Result (Unit {0}) WorldFault → Held → Type 0
Posts by w entries why (Ok done) new = (is_within w.basis w.history (entries_in entries) (bytes_in entries) ≡ true)
    × Settles by (record w { history = w.history ++ entries }) why new
Posts by w entries why (Err (Full counted size)) new =
    (is_within w.basis w.history (entries_in entries) (bytes_in entries) ≡ false) × (counted ≡ entries_in w.history) × (size ≡ bytes_in w.history) × (new ≡ w)
Posts by w entries why (Err Memory) new = (is_within w.basis w.history (entries_in entries) (bytes_in entries) ≡ true) × (new ≡ w)
Posts by w entries why (Err NotEnabled) new = ⊥

-- a line whose connection may be opened
pub record IsShut (w : Held) (by : ℕ) : Type 0 where
  pub line : is_line w.basis.site by ≡ true
  pub off : is_connected by w.history ≡ false
  pub going : is_stopped w.history ≡ false

-- what a core answers where a connection was given room in the history, or not
abbrev pub told_as : Result (Unit {0}) HallFault → Result (Unit {0}) WorldFault
told_as (Ok done) = Ok done
told_as (Err (Crowded entries bytes)) = Err (Full entries bytes)
told_as (Err Wanting) = Err Memory

-- a connection is opened, or there is no room for its Opened and nothing is done
abbrev pub Begins : ℕ → Held → Result (Unit {0}) WorldFault → Held → Type 0
Begins by w (Ok done) new = (is_within w.basis w.history 1 0 ≡ true) × IsOpened by w new
Begins by w (Err (Full counted size)) new = (is_within w.basis w.history 1 0 ≡ false) × (counted ≡ entries_in w.history) × (size ≡ bytes_in w.history)
    × (new ≡ w)
Begins by w (Err Memory) new = (is_within w.basis w.history 1 0 ≡ true) × (new ≡ w)
Begins by w (Err NotEnabled) new = ⊥
