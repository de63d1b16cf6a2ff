-- The lines of the transcript, whose format is this project's own: one line for each entry of the history.
use Rattle.std.specs.Prelude.{ℕ, ◌-◌, ◌/◌, ◌%◌, nat_lt, ◌==◌, Bool, if◌then◌else◌, List, [], ◌∷◌, ◌++◌, length, replicate, codes, slice_index, Option}
use Rattle.std.specs.Prelude.{None, Some}
use Rattle.std.specs.Fmt.{decimal, signed_decimal}
use Rattle.hex.specs.Hex.{encode_lower}
use Rattle.cts_base.specs.Prints.{decimal_text}
use Rattle.cts_base.specs.declared.decimal.Decimal.{Decimal}
use Rattle.cts_def.specs.declared.bad_cause.BadCause.{BadCause}
use Rattle.cts_def.specs.declared.bad_cause.BadCause.TheVariants.{Short, OverMax, TooLong, UnknownStart, Flags}
use Rattle.cts_def.specs.declared.ident.Ident.{Ident}
use Rattle.cts_def.specs.declared.ident.Ident.TheVariants.{Known, Unknown}
use Rattle.cts_def.specs.declared.limits.Limits.{Limits}
use Rattle.cts_def.specs.declared.loss.Loss.{Loss}
use Rattle.cts_def.specs.declared.time.Time.{Time}
use Rattle.cts_def.specs.Sites.{SiteData}
use Rattle.cts_entry.specs.declared.entry.Entry.{Entry}
use Rattle.cts_def.specs.Names.{interface_name, router_name, packet_names, command_names, item_name}
use Rattle.cts_script.specs.Spacing.{spaced}
use Rattle.cts_def.specs.Makers.{first_slot, first_desk, scribe}
use Rattle.cts_entry.specs.declared.what.NotSent.{NotSent}
use Rattle.cts_entry.specs.declared.what.NotSent.TheVariants.{Unknown as NoCommand, NotConnected}
use Rattle.cts_entry.specs.declared.what.What.{What}
use Rattle.cts_entry.specs.declared.what.What.TheVariants.{Opened, Packet, Closed, Command, SetLimits, Enable, LimitsSetIs, Injected, Unrouted, Stop, Ended}
use Rattle.cts_entry.specs.declared.why.Why.{Why}
use Rattle.cts_entry.specs.declared.why.Why.TheVariants.{PeerEnded, ReadFault, WriteFault, BadFrame, Stopped, NoMemory, Full}

-- micros have six digits at least: zeros stand before them where they have fewer
abbrev pub micros_text : ℕ → List ℕ
micros_text micros = replicate (6 - length (decimal micros)) 48 ++ decimal micros

-- a time is `S.UUUUUU`
abbrev pub time_text : Time → List ℕ
time_text time = decimal time.seconds ++ (46 ∷ micros_text time.micros)

-- the slots of a router are numbered together, two a router
abbrev pub slot_text : SiteData → ℕ → List ℕ
slot_text site slot = router_name site (slot / 2) ++ (47 ∷ decimal (slot % 2))

-- who made an entry, by its number
abbrev pub maker_text : SiteData → ℕ → List ℕ
maker_text site by =
    if nat_lt by first_slot then interface_name site by
    else if nat_lt by first_desk then slot_text site (by - first_slot)
    else if nat_lt by scribe then codes "DESK/" ++ decimal (by - first_desk)
    else if by == scribe then codes "SCRIBE"
    else codes "SERVER"

-- bytes in hexadecimal, and a dash for none
abbrev pub hex_or_dash : List ℕ → List ℕ
hex_or_dash [] = codes "-"
hex_or_dash (byte ∷ bytes) = encode_lower (byte ∷ bytes)

-- why no frame can be cut
abbrev pub cause_text : BadCause → List ℕ
cause_text (Short n) = spaced (codes "SHORT" ∷ signed_decimal n ∷ [])
cause_text (OverMax n) = spaced (codes "OVERMAX" ∷ decimal n ∷ [])
cause_text TooLong = codes "TOOLONG"
cause_text UnknownStart = codes "UNKNOWN"
cause_text (Flags flags) = spaced (codes "FLAGS" ∷ decimal flags ∷ [])

-- why a connection was closed
abbrev pub why_text : Why → List ℕ
why_text PeerEnded = codes "PEER"
why_text ReadFault = codes "READ"
why_text WriteFault = codes "WRITE"
why_text (BadFrame stage cause) = spaced (codes "BAD" ∷ decimal stage ∷ cause_text cause ∷ [])
why_text Stopped = codes "STOP"
why_text NoMemory = codes "MEMORY"
why_text Full = codes "FULL"

-- how many bytes each of the four reading stages held
abbrev pub held_text : List ℕ → List ℕ
held_text held = spaced (
    codes "held" ∷ decimal (slice_index held 0) ∷ decimal (slice_index held 1)
    ∷ decimal (slice_index held 2) ∷ decimal (slice_index held 3) ∷ [])

-- what was lost at the end of a connection
abbrev pub loss_text : Loss → List ℕ
loss_text loss = spaced (
    held_text loss.held ∷ codes "skipped" ∷ decimal loss.skipped ∷ codes "empty" ∷ decimal loss.empty ∷ [])

-- why a connection was closed, and what was lost with it
abbrev pub closed_text : Why → Loss → ℕ → ℕ → List ℕ
closed_text why loss unposted unsent = spaced (
    codes "CLOSED" ∷ why_text why ∷ loss_text loss
    ∷ codes "unposted" ∷ decimal unposted ∷ codes "unsent" ∷ decimal unsent ∷ [])

-- the target and the name of a packet, which are unknown where no definition fits
abbrev pub ident_names : SiteData → Ident → (List ℕ × List ℕ)
ident_names site (Known number) = packet_names site number
ident_names site Unknown = (codes "UNKNOWN", codes "UNKNOWN")

-- a word, a target and a name, and then bytes
abbrev pub bytes_text : List ℕ → (List ℕ × List ℕ) → List ℕ → List ℕ
bytes_text word names bytes = spaced (word ∷ names.0 ∷ names.1 ∷ hex_or_dash bytes ∷ [])

-- a word, and then the target, the name and the item of a telemetry packet
abbrev pub item_text : List ℕ → SiteData → ℕ → ℕ → List ℕ
item_text word site packet item =
    spaced (word ∷ (packet_names site packet).0 ∷ (packet_names site packet).1 ∷ item_name site packet item ∷ [])

-- whether limits are watched, as a state
abbrev pub state_text : Bool → List ℕ
state_text enabled = if enabled then codes "ENABLED" else codes "DISABLED"

-- whether limits are watched, as what was done
abbrev pub switch_text : Bool → List ℕ
switch_text enabled = if enabled then codes "ENABLE" else codes "DISABLE"

-- the green pair, after a space, where there is one
abbrev pub green_text : Option (Decimal × Decimal) → List ℕ
green_text None = []
green_text (Some pair) = 32 ∷ spaced (decimal_text pair.0.parts ∷ decimal_text pair.1.parts ∷ [])

-- the red and yellow limits from low to high, and then the green pair
abbrev pub limits_text : Limits → List ℕ
limits_text limits = spaced (
    decimal_text limits.red_low.parts ∷ decimal_text limits.yellow_low.parts
    ∷ decimal_text limits.yellow_high.parts ∷ decimal_text limits.red_high.parts ∷ [])
    ++ green_text limits.green

-- why a router's command was not sent on
abbrev pub not_sent_text : NotSent → List ℕ
not_sent_text NoCommand = codes "UNKNOWN"
not_sent_text NotConnected = codes "NOTCONNECTED"

-- a device's packet, by whether it was stored before it was sent
abbrev pub packet_word : Bool → List ℕ
packet_word stored = if stored then codes "STORED" else codes "PACKET"

-- what an entry says
abbrev pub what_text : SiteData → What → List ℕ
what_text site Opened = codes "OPENED"
what_text site (Packet ident stored bytes) = bytes_text (packet_word stored) (ident_names site ident) bytes
what_text site (Closed why loss unposted unsent) = closed_text why loss unposted unsent
what_text site (Command interface command bytes) = bytes_text (codes "COMMAND") (command_names site command) bytes
what_text site (SetLimits enabled packet item persistence set limits) =
    spaced (item_text (codes "LIMITS") site packet item ∷ set ∷ decimal persistence ∷ state_text enabled ∷ limits_text limits ∷ [])
what_text site (Enable packet item enabled) = item_text (switch_text enabled) site packet item
what_text site (LimitsSetIs set) = spaced (codes "LIMITSSET" ∷ set ∷ [])
what_text site (Injected packet bytes) = bytes_text (codes "INJECTED") (packet_names site packet) bytes
what_text site (Unrouted why bytes) = spaced (codes "UNROUTED" ∷ not_sent_text why ∷ hex_or_dash bytes ∷ [])
what_text site Stop = codes "STOP"
what_text site Ended = codes "ENDED"

-- the line of entry number n: its number, its time, its maker and what it says
unfoldable pub entry_line : SiteData → ℕ → Entry → List ℕ
entry_line site n e =
    spaced (decimal n ∷ time_text e.time ∷ maker_text site e.by ∷ what_text site e.what ∷ []) ++ (10 ∷ [])
