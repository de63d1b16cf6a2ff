-- How the makers of a site are connected, and what becomes of what they take and are sent.
use Rattle.std.specs.Prelude.{ℕ, ◌==◌, Bool, if◌then◌else◌, List, [], map, Option, Some, None}
use Rattle.std.specs.List.{filter}
use Rattle.cts_def.specs.declared.time.Time.{Time}
use Rattle.cts_def.specs.declared.ident.Ident.{Ident}
use Rattle.cts_def.specs.declared.ident.Ident.TheVariants.{Known, Unknown}
use Rattle.cts_entry.specs.declared.entry.Entry.{Entry}
use Rattle.cts_entry.specs.declared.what.What.{What}
use Rattle.cts_entry.specs.declared.what.What.TheVariants.{Opened, Packet, Closed, Command, SetLimits, Enable, LimitsSetIs, Injected, Unrouted}
use Rattle.cts_entry.specs.declared.what.What.TheVariants.{Stop as StopEntry, Ended}
use Rattle.cts_entry.specs.declared.what.NotSent.TheVariants.{Unknown as UnknownCommand, NotConnected as NoConnection}
use Rattle.cts_entry.specs.Histories.{is_connected, bytes_of, packets_from, commands_to, stored_of}
use Rattle.cts_framing.specs.Framing.{Framing, Heading, Output, is_stored}

-- the interfaces and slots of a site, as far as their bytes and entries need it
pub record Routing : Type 0 where
  -- whether a maker is an interface; any other one is taken as a router's slot
  pub is_interface : ℕ → Bool
  -- the framings through which a maker's bytes go, the first one first
  pub chain : ℕ → List Framing
  -- which definition an output of its chain is: a packet by an interface, a command by a slot
  pub ident : ℕ → Output → Ident
  -- the interface of a command's target, if it has one
  pub interface_of : ℕ → Option ℕ
  -- whether the packets of an interface, the second number, go to a slot, the first one
  pub routes : ℕ → ℕ → Bool
  -- the target and the name of a packet and of a command
  pub packet_names : Ident → List ℕ × List ℕ
  pub command_names : ℕ → List ℕ × List ℕ
  -- the spelling of some bytes by a maker's write chain, unless it is refused
  pub spelling : ℕ → Heading → List ℕ → Option (List ℕ)

-- ---- what goes out

-- the time, the names and the stored flag that a spelling and a log state beside an entry's bytes
abbrev pub heading_of : List ℕ × List ℕ → Bool → Time → Heading
heading_of names stored time = record { time = time; target = names.0; packet = names.1; stored = stored }

-- the target and the name that a packet or a command has by these, and none at every other kind of entry
abbrev pub names_by : (Ident → List ℕ × List ℕ) → (ℕ → List ℕ × List ℕ) → What → List ℕ × List ℕ
names_by packet_names command_names Opened = ([], [])
names_by packet_names command_names (Packet ident stored bytes) = packet_names ident
names_by packet_names command_names (Closed why loss unposted unsent) = ([], [])
names_by packet_names command_names (Command interface command bytes) = command_names command
names_by packet_names command_names (SetLimits enabled packet item persistence set limits) = ([], [])
names_by packet_names command_names (Enable packet item enabled) = ([], [])
names_by packet_names command_names (LimitsSetIs set) = ([], [])
names_by packet_names command_names (Injected packet bytes) = ([], [])
names_by packet_names command_names (Unrouted why bytes) = ([], [])
names_by packet_names command_names StopEntry = ([], [])
names_by packet_names command_names Ended = ([], [])

abbrev pub names_in : Routing → What → List ℕ × List ℕ
names_in g what = names_by g.packet_names g.command_names what

-- an entry's spelling by a maker's write chain
abbrev pub spell : Routing → ℕ → Entry → Option (List ℕ)
spell g by e = g.spelling by (heading_of (names_in g e.what) (stored_of e.what) e.time) (bytes_of e.what)

-- whether an entry is for a maker's peer: the commands for an interface, and the packets that are routed to a slot
abbrev pub is_for : Routing → ℕ → Entry → Bool
is_for g by e = if g.is_interface by then commands_to (λ interface. interface == by) e else packets_from (g.routes by) e

abbrev pub queue : Routing → ℕ → List Entry → List Entry
queue g by entries = filter (is_for g by) entries

-- the entries through which a maker goes: an interface from one of its commands to the next, a slot through all
abbrev pub walk : Routing → ℕ → List Entry → List Entry
walk g by entries = if g.is_interface by then queue g by entries else entries

-- ---- what comes in

-- the time that a packet brings along, else the clock's
abbrev pub time_in : Option Heading → Time → Time
time_in (Some heading) now = heading.time
time_in None now = now

-- a command goes to its interface where that one is connected
abbrev pub sent_on : List Entry → Option ℕ → ℕ → List ℕ → What
sent_on history (Some interface) command bytes = if is_connected interface history then Command interface command bytes else Unrouted NoConnection bytes
sent_on history None command bytes = Unrouted NoConnection bytes

-- what becomes of a slot's packet, after the entries of a history
abbrev pub routed_as : Routing → List Entry → Ident → List ℕ → What
routed_as g history (Known command) bytes = sent_on history (g.interface_of command) command bytes
routed_as g history Unknown bytes = Unrouted UnknownCommand bytes

-- what an output of a maker's chain says in its entry, after the entries of a history
abbrev pub said_of : Routing → List Entry → ℕ → Output → What
said_of g history by o = if g.is_interface by then Packet (g.ident by o) (is_stored o.heading) o.bytes else routed_as g history (g.ident by o) o.bytes

-- the entries of a device's packets
abbrev pub packet_entries : Routing → Time → ℕ → List Output → List Entry
packet_entries g now by outs = map (λ o. record { by = by; time = time_in o.heading now; what = Packet (g.ident by o) (is_stored o.heading) o.bytes }) outs

-- the entries of the outputs of a maker's chain; those of an interface's are these
abbrev pub posted_entries : Routing → List Entry → Time → ℕ → List Output → List Entry
posted_entries g history now by outs = map (λ o. record { by = by; time = time_in o.heading now; what = said_of g history by o }) outs
