-- Why a line ends, and what it leaves.
use Rattle.std.specs.Prelude.{◌≡◌, ℕ, ◌+◌, ◌≤◌, ◌==◌, ◌&&◌, ◌||◌, ◌⊎◌}
use Rattle.std.specs.Prelude.{Bool, true, false, List, length, Option, Some, None, option_map, unwrap_or, slice_get, is_none, IfSome, if◌then◌else◌, []}
use Rattle.std.specs.List.{filter, list_any}
use Rattle.cts_def.specs.Sites.{InterfaceData, SiteData}
use Rattle.cts_entry.specs.declared.entry.Entry.{Entry}
use Rattle.cts_entry.specs.declared.why.Why.{Why}
use Rattle.cts_entry.specs.declared.why.Why.TheVariants.{PeerEnded, ReadFault, WriteFault, BadFrame, Stopped as StoppedWhy, NoMemory as NoMemoryWhy}
use Rattle.cts_entry.specs.declared.why.Why.TheVariants.{Full as FullWhy}
use Rattle.cts_entry.specs.Histories.{entries_in, is_connected, is_stop, is_stopped, opens}
use Rattle.cts_entry.specs.Legal.{has_ended}
use Rattle.cts_entry.specs.Workers.{is_interface}
use Rattle.cts_outside.specs.Causes.{Rose}
use Rattle.cts_outside.specs.Lines.{Line}
use Rattle.cts_outside.specs.Seen.{LineSeen}
use Rattle.cts_trace.specs.Makers.{closes_for, faults_of, is_fault}
use Rattle.cts_trace.specs.Told.{HasFinished}
use Rattle.cts_framing.specs.Packets.{capped}
use Rattle.cts_worker.specs.Counts.{RoseBy, one_if}
use Rattle.cts_worker.specs.Lasts.{IsShut}
use Rattle.cts_line.specs.declared.opening.Opening.{Opening}
use Rattle.cts_line.specs.declared.opening.Opening.TheVariants.{Opened, Stopped as StoppedThere, Full as NoRoom, NoMemory as NoMemoryThere}
use Rattle.cts_line.specs.declared.ending.LineWhy.{LineWhy}
use Rattle.cts_line.specs.declared.ending.LineWhy.TheVariants.{Stopped, Finished, NoReconnect, DoorFailed, Full, NoMemory, Cancelled}

-- ---- counts

-- why a connection ends is that a read or a write failed
abbrev pub fails : Option Why → Bool
fails None = false
fails (Some why) = is_fault why

-- a count has risen at least once for each of these more connections of a maker that were closed since a read or a write failed
abbrev pub FaultsRise : ℕ → List Entry → List Entry → ℕ → ℕ → Type 0
FaultsRise m old new before now = (n : ℕ) × (faults_of m new ≡ faults_of m old + n) × RoseBy n before now

-- how many connections of a maker were opened
abbrev pub opened_in : ℕ → List Entry → ℕ
opened_in m history = length (filter (opens m) history)

-- a connection of a maker was closed for a reason that passes a test
abbrev pub has_closed : ℕ → (Why → Bool) → List Entry → Bool
has_closed m test history = list_any (λ e. e.by == m && closes_for test e.what) history

-- a maker has stopped the server
abbrev pub has_stop : ℕ → List Entry → Bool
has_stop m history = list_any (λ e. e.by == m && is_stop e.what) history

-- the reason for which a connection was closed, if it was, passes a test
abbrev pub passes : (Why → Bool) → Option Why → Bool
passes test None = false
passes test (Some why) = test why

-- What some holds of a line leave of what the history says of it: it has opened no connection and has not ended, and if it has closed its
-- connection, then for this reason and for no other.
pub record Keeps (m : ℕ) (old new : List Entry) (closed : Option Why) : Type 0 where
  pub ended : has_ended m new ≡ has_ended m old
  pub opened : opened_in m new ≡ opened_in m old
  pub faults : faults_of m new ≡ faults_of m old + one_if (fails closed)
  pub on : is_connected m new ≡ (is_connected m old && is_none closed)
  pub said : IfSome closed (λ why. (test : Why → Bool) → test why ≡ true → has_closed m test new ≡ true)
  pub only : (test : Why → Bool) → has_closed m test new ≡ (has_closed m test old || passes test closed)

-- ---- why a line ends

abbrev pub is_any : Why → Bool
is_any why = true

abbrev pub is_full : Why → Bool
is_full PeerEnded = false
is_full ReadFault = false
is_full WriteFault = false
is_full (BadFrame stage cause) = false
is_full StoppedWhy = false
is_full NoMemoryWhy = false
is_full FullWhy = true

abbrev pub is_no_memory : Why → Bool
is_no_memory PeerEnded = false
is_no_memory ReadFault = false
is_no_memory WriteFault = false
is_no_memory (BadFrame stage cause) = false
is_no_memory StoppedWhy = false
is_no_memory NoMemoryWhy = true
is_no_memory FullWhy = false

-- whether a line connects again where its connection ended: an interface by the site, and a slot always
abbrev pub reconnects : SiteData → ℕ → Bool
reconnects site by = unwrap_or (option_map (λ (i : InterfaceData). i.reconnect) (slice_get site.interfaces by)) true

-- why a line ends whose connection was not opened in the history
abbrev pub refused : Opening → Option LineWhy
refused Opened = None
refused StoppedThere = Some Stopped
refused NoRoom = Some Full
refused NoMemoryThere = Some NoMemory

abbrev pub unless_again : Bool → Option LineWhy
unless_again true = None
unless_again false = Some NoReconnect

-- why a line ends once its connection was closed, if it ends
abbrev pub after_closed : SiteData → ℕ → Why → Option LineWhy
after_closed site by PeerEnded = unless_again (reconnects site by)
after_closed site by ReadFault = unless_again (reconnects site by)
after_closed site by WriteFault = unless_again (reconnects site by)
after_closed site by (BadFrame stage cause) = unless_again (reconnects site by)
after_closed site by StoppedWhy = unless_again (reconnects site by)
after_closed site by NoMemoryWhy = Some NoMemory
after_closed site by FullWhy = Some Full

-- why it ends since a dial failed, if it ends
abbrev pub after_failed : SiteData → ℕ → Option LineWhy
after_failed site by = if is_interface site by then unless_again (reconnects site by) else Some DoorFailed

-- Where a connection is closed for want of room, and none was before, the line ends for that; and so for want of memory.
pub record Heeds (m : ℕ) (old new : List Entry) (end : Option LineWhy) : Type 0 where
  pub full : has_closed m is_full old ≡ false → has_closed m is_full new ≡ true → end ≡ Some Full
  pub memory : has_closed m is_no_memory old ≡ false → has_closed m is_no_memory new ≡ true → end ≡ Some NoMemory

-- Why a line ends has its cause in the history and in what its dialer tells: the history of a site with so many entries at most, and the
-- count of failed dials before and now. Want of memory has none.
abbrev pub CausesEnd : SiteData → ℕ → ℕ → List Entry → Option Line → ℕ → ℕ → LineWhy → Type 0
CausesEnd site most m history told before now Stopped = is_stopped history ≡ true
CausesEnd site most m history told before now Finished = HasFinished told
CausesEnd site most m history told before now NoReconnect = (reconnects site m ≡ false) × ((has_closed m is_any history ≡ true) ⊎ Rose before now)
CausesEnd site most m history told before now DoorFailed = (is_interface site m ≡ false) × Rose before now
CausesEnd site most m history told before now Full = (has_closed m is_full history ≡ true) ⊎ (most ≤ entries_in history)
CausesEnd site most m history told before now NoMemory = Unit {0}
CausesEnd site most m history told before now Cancelled = ⊥

-- Whether a dialer has said that there will be no connection any more, before what a line did and after it: the line ends for the dial
-- that says so, and no other dial has said it.
abbrev pub FinishesFor : Option LineWhy → Bool → Bool → Type 0
FinishesFor None before now = now ≡ before
FinishesFor (Some Stopped) before now = now ≡ before
FinishesFor (Some Finished) before now = now ≡ true
FinishesFor (Some NoReconnect) before now = now ≡ before
FinishesFor (Some DoorFailed) before now = now ≡ before
FinishesFor (Some Full) before now = now ≡ before
FinishesFor (Some NoMemory) before now = now ≡ before
FinishesFor (Some Cancelled) before now = now ≡ before

-- What a line leaves of its dialer's dials, where it ends for this reason, if it does: the count of those that failed has not fallen; a
-- line that ends for a dial that failed has no other, where its kind ends for one; and it ends for the dial that says that it is the last.
pub record DialsFor (site : SiteData) (by : ℕ) (end : Option LineWhy) (old new : LineSeen) : Type 0 where
  pub count : old.failed_dials ≤ new.failed_dials
  pub failed : (why : LineWhy) → after_failed site by ≡ Some why → (end ≡ Some why → ⊥) → new.failed_dials ≡ old.failed_dials
  pub finished : FinishesFor end old.finished new.finished

-- the same where no dial has failed
pub record DialsNone (end : Option LineWhy) (old new : LineSeen) : Type 0 where
  pub failed : new.failed_dials ≡ old.failed_dials
  pub finished : FinishesFor end old.finished new.finished

-- whether a line that ends for this reason stops the server
abbrev pub stops_all : LineWhy → Bool
stops_all Stopped = false
stops_all Finished = false
stops_all NoReconnect = false
stops_all DoorFailed = true
stops_all Full = true
stops_all NoMemory = true
stops_all Cancelled = true

-- the same of a line that may go on
abbrev pub stops_then : Option LineWhy → Bool
stops_then None = false
stops_then (Some why) = stops_all why

-- ---- what a line says of its ends, some clauses at a time

-- Between two connections: each Opened of the line has its Closed, and as many connections are counted as were opened.
pub record IsBetween (m : ℕ) (connections : ℕ) (history : List Entry) : Type 0 where
  pub shut : IsShut m history
  pub count : connections ≡ capped (opened_in m history)

-- A line that may go on, or ends for a reason that stops nobody, has appended no Stop, and what closed its connections is heeded.
pub record Minds (m : ℕ) (old new : List Entry) (end : Option LineWhy) : Type 0 where
  pub stop : stops_then end ≡ false → has_stop m new ≡ has_stop m old
  pub heeds : Heeds m old new end

-- One connection more was opened at most; and none where a line goes on that does not connect again.
pub record OpensOne (site : SiteData) (m : ℕ) (old new : List Entry) (end : Option LineWhy) : Type 0 where
  pub again : reconnects site m ≡ false → end ≡ None → opened_in m new ≡ opened_in m old
  pub few : opened_in m new ≤ opened_in m old + 1

-- Where a line ends for a reason that stops all, a Stop stands; and only there is it the line's own.
pub record StopsFor (m : ℕ) (why : LineWhy) (history : List Entry) : Type 0 where
  pub stood : stops_all why ≡ true → is_stopped history ≡ true
  pub own : has_stop m history ≡ true → stops_all why ≡ true

-- Where a connection was closed for want of room or of memory, the line has ended for that.
pub record EndsFor (m : ℕ) (why : LineWhy) (history : List Entry) : Type 0 where
  pub full : has_closed m is_full history ≡ true → why ≡ Full
  pub memory : has_closed m is_no_memory history ≡ true → why ≡ NoMemory

-- a dialer tells no connection so far
abbrev pub IsUndialed : Option Line → Type 0
IsUndialed None = Unit {0}
IsUndialed (Some line) = (line.past ≡ []) × (line.now ≡ None)
