-- Worked rows of the definitions: a site with two interfaces, INST_INT (0) and AUX_INT (1), and a slot OUT/0 (16) to which
-- the packets of INST_INT go.
use Rattle.std.proofs.Common.{◌≡◌, ℕ, ◌+◌, ◌/◌, ◌%◌, ◌==◌, true, false, ◌||◌, List, [], ◌∷◌, ◌++◌, length, Option, Some, None, refl}
use Rattle.std.specs.Prelude.{if◌then◌else◌, nat_lt}
use Rattle.cts_def.specs.declared.time.Time.{Time}
use Rattle.cts_def.specs.declared.ident.Ident.{Ident}
use Rattle.cts_def.specs.declared.ident.Ident.TheVariants.{Known, Unknown}
use Rattle.cts_entry.specs.declared.entry.Entry.{Entry}
use Rattle.cts_entry.specs.declared.what.What.{What}
use Rattle.cts_entry.specs.declared.what.What.TheVariants.{Opened, Packet, Closed, Command, Unrouted, Stop as StopEntry}
use Rattle.cts_entry.specs.declared.what.NotSent.TheVariants.{Unknown as UnknownCommand, NotConnected as NoConnection}
use Rattle.cts_entry.specs.declared.why.Why.TheVariants.{PeerEnded}
use Rattle.cts_entry.specs.declared.event.Event.TheVariants.{Write, DrainSlot}
use Rattle.cts_framing.specs.Framing.{Heading, plain}
use Rattle.cts_log.specs.Logged.{laid_out}
use Rattle.cts_trace.specs.Routing.{said_of}
use Rattle.cts_core.specs.States.{Environment, State, is_enabled, put_next, unsent, packets_log, commands_log}

-- a number in four bytes, the high one first
four : ℕ → List ℕ
four n = n / 16777216 % 256 ∷ n / 65536 % 256 ∷ n / 256 % 256 ∷ n % 256 ∷ []

framed : Heading → List ℕ → List ℕ
framed h bytes = four h.time.seconds ++ (four h.time.micros ++ (length h.target ∷ h.target ++ (length h.packet ∷ h.packet ++ (four (length bytes) ++ bytes))))

telemetry_names : Ident → List ℕ × List ℕ
telemetry_names Unknown = ([], [])
telemetry_names (Known n) = if n == 0 then (73 ∷ 78 ∷ 83 ∷ 84 ∷ [], 72 ∷ 83 ∷ []) else (65 ∷ 85 ∷ 88 ∷ [], 76 ∷ 73 ∷ 78 ∷ 69 ∷ [])

-- INST_INT writes a length of two bytes before a command and refuses an empty one; OUT/0 writes preidentified frames
written_by : ℕ → Heading → List ℕ → Option (List ℕ)
written_by by h [] = if by == 0 then None else Some (framed h [])
written_by by h (x ∷ bytes) = if by == 0 then Some (0 ∷ (2 + length (x ∷ bytes)) ∷ x ∷ bytes) else Some (framed h (x ∷ bytes))

site : Environment
site = record {
  routing = record {
    is_interface = λ by. nat_lt by 2;
    chain = λ by. [];
    ident = λ by o. if length o.bytes == 3 then Known 0 else Unknown;
    interface_of = λ command. Some 0;
    routes = λ slot interface. interface == 0;
    packet_names = telemetry_names;
    command_names = λ command. (73 ∷ 78 ∷ 83 ∷ 84 ∷ [], 67 ∷ 79 ∷ 76 ∷ 76 ∷ 69 ∷ 67 ∷ 84 ∷ []);
    spelling = written_by;
  };
  is_slot = λ by. by == 16 || by == 17;
  is_desk = λ desk. desk == 0;
  is_logged = λ interface. true;
  layout = laid_out false;
  answers = λ history desk time body a. a ≡ record { response = None; entries = [] };
  most_entries = 100;
  most_bytes = 1000;
}

noon : Time
noon = record { seconds = 100; micros = 250000 }

made : ℕ → What → Entry
made by what = record { by = by; time = noon; what = what }

at : List Entry → ℕ → State
at history cursor = record { history = history; time = noon; pieces = λ by. []; cursor = λ by. cursor; log_cursor = 0 }

ten : List ℕ
ten = 7 ∷ 0 ∷ 10 ∷ []

nine : List ℕ
nine = 7 ∷ 0 ∷ 9 ∷ []

-- a command is written, and one that comes later is not sent where the peer ends

one_command : List Entry
one_command = made 0 Opened ∷ made 24 (Command 0 0 ten) ∷ []

two_commands : List Entry
two_commands = made 0 Opened ∷ made 24 (Command 0 0 ten) ∷ made 24 (Command 0 0 nine) ∷ []

written : put_next site (at one_command 0) 0 1 ≡ 0 ∷ 5 ∷ 7 ∷ 0 ∷ 10 ∷ []
unfolding site at one_command made noon ten written_by
written = refl

write_enabled : is_enabled site (at one_command 0) (Write 0 1) ≡ true
unfolding site at one_command made noon ten
write_enabled = refl

-- a second WRITE directly after the first one is not enabled
written_all : is_enabled site (at one_command 1) (Write 0 1) ≡ false
unfolding site at one_command made noon ten
written_all = refl

one_unsent : unsent site (at two_commands 1) 0 ≡ 1
unfolding site at two_commands made noon ten nine written_by
one_unsent = refl

-- a refused command is passed over, and is unsent
refused_commands : List Entry
refused_commands = made 0 Opened ∷ made 24 (Command 0 0 []) ∷ made 24 (Command 0 0 nine) ∷ []

passed_over : put_next site (at refused_commands 0) 0 2 ≡ 0 ∷ 5 ∷ 7 ∷ 0 ∷ 9 ∷ []
unfolding site at refused_commands made noon nine written_by
passed_over = refl

refused_unsent : unsent site (at refused_commands 2) 0 ≡ 1
unfolding site at refused_commands made noon nine written_by
refused_unsent = refl

-- commands of an earlier connection don't count
opened_again : List Entry
opened_again = made 0 Opened ∷ made 24 (Command 0 0 ten) ∷ made 0 Opened ∷ made 24 (Command 0 0 nine) ∷ []

later_alone : unsent site (at opened_again 0) 0 ≡ 1
unfolding site at opened_again made noon ten nine written_by
later_alone = refl

-- the demo: eight entries, of which five are after the slot's Opened

demo : List Entry
demo = made 0 Opened ∷ made 1 Opened ∷ made 16 Opened ∷ made 1 (Packet (Known 1) false (72 ∷ 73 ∷ [])) ∷ made 0 (Packet (Known 0) false (1 ∷ 128 ∷ 0 ∷ 1 ∷ [])) ∷ made 24 StopEntry
    ∷ made 0 (Packet (Known 0) false (1 ∷ 144 ∷ 0 ∷ 1 ∷ [])) ∷ made 24 (Command 0 0 ten) ∷ []

five_stand : is_enabled site (at demo 0) (DrainSlot 16 5) ≡ true
unfolding site at demo made noon ten
five_stand = refl

six_do_not : is_enabled site (at demo 0) (DrainSlot 16 6) ≡ false
unfolding site at demo made noon ten
six_do_not = refl

routed : put_next site (at demo 0) 16 5
    ≡ 0 ∷ 0 ∷ 0 ∷ 100 ∷ 0 ∷ 3 ∷ 208 ∷ 144 ∷ 4 ∷ 73 ∷ 78 ∷ 83 ∷ 84 ∷ 2 ∷ 72 ∷ 83 ∷ 0 ∷ 0 ∷ 0 ∷ 4 ∷ 1 ∷ 128 ∷ 0 ∷ 1
    ∷ 0 ∷ 0 ∷ 0 ∷ 100 ∷ 0 ∷ 3 ∷ 208 ∷ 144 ∷ 4 ∷ 73 ∷ 78 ∷ 83 ∷ 84 ∷ 2 ∷ 72 ∷ 83 ∷ 0 ∷ 0 ∷ 0 ∷ 4 ∷ 1 ∷ 144 ∷ 0 ∷ 1 ∷ []
unfolding site at demo made noon ten written_by framed four telemetry_names
routed = refl

-- one packet of the two is ahead of a slot that passed three entries
one_ahead : unsent site (at demo 3) 16 ≡ 1
unfolding site at demo made noon ten written_by framed four telemetry_names
one_ahead = refl

-- the logs without their heads of 128 bytes
logged_packets : length (packets_log site demo) ≡ 71
unfolding site demo made noon ten telemetry_names
logged_packets = refl

logged_commands : commands_log site demo
    ≡ 0 ∷ 0 ∷ 0 ∷ 100 ∷ 0 ∷ 3 ∷ 208 ∷ 144 ∷ 4 ∷ 73 ∷ 78 ∷ 83 ∷ 84 ∷ 7 ∷ 67 ∷ 79 ∷ 76 ∷ 76 ∷ 69 ∷ 67 ∷ 84 ∷ 0 ∷ 0 ∷ 0 ∷ 3 ∷ 7 ∷ 0 ∷ 10 ∷ []
unfolding site demo made noon ten telemetry_names
logged_commands = refl

-- what becomes of a slot's packet

sent : said_of site.routing demo 16 (plain ten) ≡ Command 0 0 ten
unfolding site demo made noon ten
sent = refl

-- after the interface's Closed
not_connected : said_of site.routing (demo ++ made 0 (Closed PeerEnded (record { held = 0 ∷ 0 ∷ 0 ∷ 0 ∷ []; skipped = 0; empty = 0 }) 0 0) ∷ []) 16 (plain ten) ≡ Unrouted NoConnection ten
unfolding site demo made noon ten
not_connected = refl

unknown : said_of site.routing demo 16 (plain (7 ∷ [])) ≡ Unrouted UnknownCommand (7 ∷ [])
unfolding site demo made noon ten
unknown = refl

packet : said_of site.routing demo 0 (plain (7 ∷ [])) ≡ Packet Unknown false (7 ∷ [])
unfolding site demo made noon ten
packet = refl

-- a frame that says so makes a stored one
stored_packet : said_of site.routing demo 0 (record { bytes = 7 ∷ []; heading = Some (record { time = noon; target = []; packet = []; stored = true }) }) ≡ Packet Unknown true (7 ∷ [])
unfolding site demo made noon ten
stored_packet = refl
