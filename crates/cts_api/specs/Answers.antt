-- What each method answers at one point of the history: the checks in their order, then the result and what is to be appended.
use Rattle.std.specs.Prelude.{ℕ, ◌+◌, Bool, ◌&&◌, ◌||◌, nat_lt, List, [], ◌∷◌, ◌++◌, map, Option, Some, None, option_map, slice_get, Result, Ok, Err}
use Rattle.std.specs.Prelude.{if◌then◌else◌, codes}
use Rattle.std.specs.List.{list_any, position}
use Rattle.cts_base.specs.declared.decimal.Decimal.{Decimal}
use Rattle.cts_base.specs.Names.{in_upper_case, is_name, spells}
use Rattle.cts_cmd.specs.Checks.{has_target, refusal}
use Rattle.cts_cmd.specs.Refusals.{refusal_text}
use Rattle.cts_cmd.specs.declared.refused.Refused.{Refused}
use Rattle.cts_cmd.specs.declared.request.Checks.{Checks}
use Rattle.cts_cmd.specs.declared.request.Given.{Given}
use Rattle.cts_cmd.specs.declared.request.Request.{Request}
use Rattle.cts_conv.specs.declared.value.Value.{Value}
use Rattle.cts_conv.specs.declared.value.ValueKind.{ValueKind}
use Rattle.cts_conv.specs.Kinds.{value_of}
use Rattle.cts_def.specs.declared.ident.Ident.TheVariants.{Known, Unknown}
use Rattle.cts_def.specs.declared.limits.Limits.{Limits}
use Rattle.cts_def.specs.Items.{ItemData, are_in_order}
use Rattle.cts_def.specs.Most.{most_sets}
use Rattle.cts_def.specs.Packets.{PacketData, default_set, is_named, unknown}
use Rattle.cts_def.specs.Sites.{InterfaceData, SiteData}
use Rattle.cts_entry.specs.declared.what.What.{What}
use Rattle.cts_entry.specs.declared.what.What.TheVariants.{SetLimits, Enable, LimitsSetIs, Stop}
use Rattle.cts_table.specs.declared.fault.Lookup.{Lookup}
use Rattle.cts_table.specs.declared.fault.Lookup.TheVariants.{UnknownTarget, UnknownPacket, UnknownItem, NeverReceived, Memory}
use Rattle.cts_table.specs.declared.fault.NoRoute.{NoRoute}
use Rattle.cts_table.specs.declared.fault.NoRoute.TheVariants.{NoInterface, NotConnected}
use Rattle.cts_monitor.specs.Watching.{is_watched}
use Rattle.cts_monitor.specs.declared.types.LimitsEvent.{LimitsEvent}
use Rattle.cts_monitor.specs.declared.types.LimitsUsed.{LimitsUsed}
use Rattle.serde_json.specs.Data.{Data, null, boolean, object}
use Rattle.cts_methods.specs.Asking.{PacketName, ItemName, NewLimits, Asking, asks_value, asks_packet, asks_received, asks_sent, sends, asks_limits}
use Rattle.cts_methods.specs.Asking.{sets_limits, enables, asks_set, chooses_set, asks_out_of_limits, asks_events, asks_interfaces, asks_interface}
use Rattle.cts_methods.specs.Asking.{injects, stops}
use Rattle.cts_api.specs.Saying.{Said, refused, gives}
use Rattle.cts_cmd.specs.Injects.{injection_refusal}
use Rattle.cts_methods.specs.Kinds.{or_else, members_given}
use Rattle.cts_api.specs.Points.{Point}
use Rattle.cts_api.specs.Shown.{text, list, whole, shown, decimal, color, is_out, object_of, no_such, not_done, bad_params, injection_said}

-- What a call appends: nothing, an entry as it stands here, or one whose bytes are built.
pub data Posting : Type 0 where
  posts_nothing : Posting
  posts : What → Posting
  posts_command : ℕ → Request → Posting
  posts_injected : ℕ → PacketData → List (List ℕ × Given) → Posting

pub record Done : Type 0 where
  pub result : Data
  pub posting : Posting

-- the next check, where those before it passed
abbrev pub next : {A B : Type 0} → Said A → (A → Said B) → Said B
next (refused code message) rest = refused code message
next (gives a) rest = rest a

abbrev pub given_or : {A : Type 0} → Said A → Option A → Said A
given_or none None = none
given_or none (Some a) = gives a

abbrev pub check : {A : Type 0} → Bool → Said A → Said A → Said A
check passes refusal more = if passes then more else refusal

-- a result, with nothing to append
abbrev pub told : Said Data → Said Done
told said = next said (λ (d : Data). gives (record { result = d; posting = posts_nothing }))

-- an entry to append, with the result null
abbrev pub appended : Said What → Said Done
appended said = next said (λ (w : What). gives (record { result = null; posting = posts w }))

-- ---- what is named

abbrev pub numbered : {A : Type 0} → List A → Option ℕ → Option (ℕ × A)
numbered all None = None
numbered all (Some n) = option_map (λ a. (n, a)) (slice_get all n)

-- the first of a list that passes, with its number
abbrev pub first_with : {A : Type 0} → (A → Bool) → List A → Option (ℕ × A)
first_with test all = numbered all (position test all)

abbrev pub packet_at : List PacketData → PacketName → Said (ℕ × PacketData)
packet_at packets p = check (list_any (has_target p.target) packets) (no_such (codes "Unknown target"))
    (given_or (no_such (codes "Unknown packet")) (first_with (is_named p.target p.packet) packets))

pub record ItemAt : Type 0 where
  pub packet : ℕ
  pub of : PacketData
  pub item : ℕ
  pub it : ItemData

abbrev pub is_called : List ℕ → ItemData → Bool
is_called name i = spells name i.name

abbrev pub item_at : List PacketData → ItemName → Said ItemAt
item_at packets name =
    next (packet_at packets (record { target = name.target; packet = name.packet }))
    (λ (p : ℕ × PacketData). given_or (no_such (codes "Unknown item"))
    (option_map (λ (i : ℕ × ItemData). record { packet = p.0; of = p.1; item = i.0; it = i.1 }) (first_with (is_called name.item) p.1.items)))

-- the packets of no definition are known by two names to the methods of counts and of packets
abbrev pub is_unknown_target : PacketName → Bool
is_unknown_target p = spells p.target unknown

-- what the packets of no definition answer, else what a packet does
abbrev pub or_unknown : {A : Type 0} → PacketName → Said A → Said A → Said A
or_unknown p of_none of_packet =
    if is_unknown_target p then check (spells p.packet unknown) (no_such (codes "Unknown packet")) of_none else of_packet

-- ---- values

-- Memory is no answer of a history.
abbrev pub lookup_text : Lookup → List ℕ
lookup_text UnknownTarget = codes "Unknown target"
lookup_text UnknownPacket = codes "Unknown packet"
lookup_text UnknownItem = codes "Unknown item"
lookup_text NeverReceived = codes "Never received"
lookup_text Memory = []

abbrev pub value_said : Result Value Lookup → Said Data
value_said (Ok v) = gives (shown v)
value_said (Err e) = no_such (lookup_text e)

abbrev pub value_answer : Point → ValueKind → ItemName → Said Data
value_answer h kind name = value_said (h.value name kind)

-- the colour of an item that has limits or state colours
abbrev pub item_color : Point → ℕ → ℕ → ItemData → Data
item_color h p n i = if is_watched i then color (h.state_of p n) else null

abbrev pub item_row : Point → ValueKind → ℕ → PacketData → List ℕ → ℕ → ItemData → Data
item_row h kind p packet bytes n i = list (text i.name ∷ shown (value_of kind packet i bytes) ∷ item_color h p n i ∷ [])

-- the rows of items, of which the first here has number n
abbrev pub rows_from : Point → ValueKind → ℕ → PacketData → List ℕ → ℕ → List ItemData → List Data
rows_from h kind p packet bytes n [] = []
rows_from h kind p packet bytes n (i ∷ items) = item_row h kind p packet bytes n i ∷ rows_from h kind p packet bytes (n + 1) items

abbrev pub packet_rows : Point → ValueKind → ℕ × PacketData → Said Data
packet_rows h kind p =
    next (given_or (no_such (codes "Never received")) (h.current p.0)) (λ (bytes : List ℕ). gives (list (rows_from h kind p.0 p.1 bytes 0 p.1.items)))

abbrev pub packet_answer : Point → PacketName → ValueKind → Said Data
packet_answer h p kind = or_unknown p (check (nat_lt 0 (h.received Unknown)) (no_such (codes "Never received")) (gives (list [])))
    (next (packet_at h.site.definitions.telemetry p) (packet_rows h kind))

abbrev pub received_answer : Point → PacketName → Said Data
received_answer h p = or_unknown p (gives (whole (h.received Unknown)))
    (next (packet_at h.site.definitions.telemetry p) (λ (at : ℕ × PacketData). gives (whole (h.received (Known at.0)))))

abbrev pub sent_answer : Point → PacketName → Said Data
sent_answer h p = next (packet_at h.site.definitions.commands p) (λ (at : ℕ × PacketData). gives (whole (h.sent at.0)))

-- ---- limits

-- the set of this text, if it is known
abbrev pub known_set : Point → List ℕ → Said (List ℕ)
known_set h name = check (is_name name && h.is_known (in_upper_case name)) (no_such (codes "Unknown limits set")) (gives (in_upper_case name))

abbrev pub limits_at : Point → ItemAt → List ℕ → Said LimitsUsed
limits_at h at set = given_or (no_such (codes "No limits")) (h.limits_of at.packet at.item set)

abbrev pub green_rows : Option (Decimal × Decimal) → List Data
green_rows None = null ∷ null ∷ []
green_rows (Some pair) = decimal pair.0 ∷ decimal pair.1 ∷ []

abbrev pub decimal_rows : Limits → List Data
decimal_rows l = decimal l.red_low ∷ decimal l.yellow_low ∷ decimal l.yellow_high ∷ decimal l.red_high ∷ green_rows l.green

-- the set is the one that counts for the item
abbrev pub limits_row : List ℕ → LimitsUsed → Data
limits_row set u = list (text (if u.own then set else default_set) ∷ whole u.persistence ∷ boolean u.enabled ∷ decimal_rows u.limits)

-- the set that is asked for, the current one where none is
abbrev pub set_asked : Point → Option (List ℕ) → Said (List ℕ)
set_asked h None = gives h.set
set_asked h (Some name) = known_set h name

abbrev pub limits_set_answer : Point → Said Data
limits_set_answer h = gives (text h.set)

abbrev pub limits_answer : Point → ItemName → Option (List ℕ) → Said Data
limits_answer h name set =
    next (item_at h.site.definitions.telemetry name) (λ (at : ItemAt).
    next (limits_at h at h.set) (λ (now : LimitsUsed).
    next (set_asked h set) (λ (s : List ℕ).
    next (limits_at h at s) (λ (u : LimitsUsed). gives (limits_row s u)))))

-- the set that is given new limits
abbrev pub new_set : Option (List ℕ) → Said (List ℕ)
new_set None = gives (codes "CUSTOM")
new_set (Some name) = check (is_name name) (no_such (codes "Unknown limits set")) (gives (in_upper_case name))

-- what new limits of an item are, by the limits that it has now
abbrev pub limits_given : Point → ℕ → ℕ → LimitsUsed → NewLimits → Said What
limits_given h packet item now new =
    next (new_set new.set) (λ (s : List ℕ).
    check (are_in_order new.limits) (not_done (codes "Limits order"))
    (check (h.is_known s || nat_lt h.sets most_sets) (not_done (codes "Too many sets"))
    (gives (SetLimits new.enabled packet item (or_else now.persistence new.persistence) s new.limits))))

abbrev pub set_limits_answer : Point → ItemName → NewLimits → Said What
set_limits_answer h name new =
    next (item_at h.site.definitions.telemetry name) (λ (at : ItemAt).
    next (limits_at h at h.set) (λ (now : LimitsUsed).
    next (new_set new.set) (λ (s : List ℕ).
    check (are_in_order new.limits) (not_done (codes "Limits order"))
    (check (h.is_known s || nat_lt h.sets most_sets) (not_done (codes "Too many sets"))
    (gives (SetLimits new.enabled at.packet at.item (or_else now.persistence new.persistence) s new.limits))))))

abbrev pub enable_answer : Point → Bool → ItemName → Said What
enable_answer h on name =
    next (item_at h.site.definitions.telemetry name) (λ (at : ItemAt).
    check (is_watched at.it) (no_such (codes "No limits")) (gives (Enable at.packet at.item on)))

abbrev pub choose_answer : Point → List ℕ → Said What
choose_answer h name = next (known_set h name) (λ (s : List ℕ). gives (LimitsSetIs s))

abbrev pub out_row : PacketData → ItemData → Data → Data
out_row packet i c = list (text packet.target ∷ text packet.name ∷ text i.name ∷ c ∷ [])

-- the rows of those of a packet's items that are red or yellow
abbrev pub out_rows : Point → ℕ → PacketData → ℕ → List ItemData → List Data
out_rows h p packet n [] = []
out_rows h p packet n (i ∷ items) =
    if is_out (h.state_of p n) then out_row packet i (color (h.state_of p n)) ∷ out_rows h p packet (n + 1) items
    else out_rows h p packet (n + 1) items

abbrev pub all_out_rows : Point → ℕ → List PacketData → List Data
all_out_rows h n [] = []
all_out_rows h n (p ∷ packets) = out_rows h n p 0 p.items ++ all_out_rows h (n + 1) packets

abbrev pub out_of_limits_answer : Point → Said Data
out_of_limits_answer h = gives (list (all_out_rows h 0 h.site.definitions.telemetry))

abbrev pub event_row_of : LimitsEvent → PacketData → Option ItemData → Option Data
event_row_of e p None = None
event_row_of e p (Some i) = Some (list (whole e.at ∷ text p.target ∷ text p.name ∷ text i.name ∷ color e.before ∷ color e.after ∷ []))

abbrev pub event_row_in : LimitsEvent → Option PacketData → Option Data
event_row_in e None = None
event_row_in e (Some p) = event_row_of e p (slice_get p.items e.item)

abbrev pub event_row : List PacketData → LimitsEvent → Option Data
event_row packets e = event_row_in e (slice_get packets e.packet)

abbrev pub with_row : Option Data → List Data → List Data
with_row None rows = rows
with_row (Some d) rows = d ∷ rows

-- the rows of events, each of which is of an item of the site
abbrev pub event_rows : List PacketData → List LimitsEvent → List Data
event_rows packets [] = []
event_rows packets (e ∷ es) = with_row (event_row packets e) (event_rows packets es)

abbrev pub events_answer : Point → ℕ → Said Data
events_answer h from = gives (list (event_rows h.site.definitions.telemetry (h.events from)))

-- ---- interfaces and commands

abbrev pub names_of : List InterfaceData → List Data
names_of interfaces = map (λ (i : InterfaceData). text i.name) interfaces

abbrev pub interfaces_answer : Point → Said Data
interfaces_answer h = gives (list (names_of h.site.interfaces))

abbrev pub has_name : List ℕ → InterfaceData → Bool
has_name name i = spells name i.name

abbrev pub connection_text : Bool → List ℕ
connection_text connected = if connected then codes "CONNECTED" else codes "DISCONNECTED"

abbrev pub interface_answer : Point → List ℕ → Said Data
interface_answer h name =
    next (given_or (no_such (codes "Unknown interface")) (first_with (has_name name) h.site.interfaces))
    (λ (i : ℕ × InterfaceData). gives (text (connection_text (h.connected i.0))))

abbrev pub name_in : Option InterfaceData → List ℕ
name_in None = []
name_in (Some i) = i.name

abbrev pub routed : SiteData → Result ℕ NoRoute → Said ℕ
routed site (Ok k) = gives k
routed site (Err NoInterface) = not_done (codes "No interface")
routed site (Err (NotConnected k)) = not_done (codes "Not connected: " ++ name_in (slice_get site.interfaces k))

abbrev pub or_refused : {A : Type 0} → Option Refused → Said A → Said A
or_refused None more = more
or_refused (Some e) more = not_done (refusal_text e)

-- the command of a request at which no check fails
abbrev pub sound_request : SiteData → Checks → Request → Said (ℕ × PacketData)
sound_request site k r = or_refused (refusal site.definitions r k)
    (given_or (not_done (codes "Unknown command")) (first_with (is_named r.target r.command) site.definitions.commands))

abbrev pub command_row : PacketData → Request → Data
command_row c r = list (text c.target ∷ text c.name ∷ object (object_of r.params) ∷ [])

abbrev pub request_answer : Point → Checks → Request → Said Done
request_answer h k r =
    next (sound_request h.site k r) (λ (c : ℕ × PacketData).
    next (routed h.site (h.route c.0)) (λ (i : ℕ). gives (record { result = command_row c.1 r; posting = posts_command i r })))

-- a command in a text that is refused has params of the wrong kind
abbrev pub command_answer : Point → Checks → Option Request → Said Done
command_answer h k None = bad_params
command_answer h k (Some r) = request_answer h k r

abbrev pub or_injection_refused : {A : Type 0} → Option Refused → Said A → Said A
or_injection_refused None more = more
or_injection_refused (Some e) more = injection_said e

abbrev pub inject_answer : Point → PacketName → List (List ℕ × Given) → Said Done
inject_answer h name members = next (packet_at h.site.definitions.telemetry name) (λ (p : ℕ × PacketData).
    or_injection_refused (injection_refusal p.1.items members) (gives (record { result = null; posting = posts_injected p.0 p.1 members })))

abbrev pub stop_answer : Point → Said Done
stop_answer h = if h.stopped then told (gives null) else appended (gives Stop)

-- ---- all of them; a command's text is read before

abbrev pub answer : Point → Option Request → Asking → Said Done
answer h r (asks_value kind name) = told (value_answer h kind name)
answer h r (asks_packet p kind) = told (packet_answer h p kind)
answer h r (asks_received p) = told (received_answer h p)
answer h r (asks_sent p) = told (sent_answer h p)
answer h r (sends k order) = command_answer h k r
answer h r (asks_limits name set) = told (limits_answer h name set)
answer h r (sets_limits name new) = appended (set_limits_answer h name new)
answer h r (enables on name) = appended (enable_answer h on name)
answer h r asks_set = told (limits_set_answer h)
answer h r (chooses_set name) = appended (choose_answer h name)
answer h r asks_out_of_limits = told (out_of_limits_answer h)
answer h r (asks_events from) = told (events_answer h from)
answer h r asks_interfaces = told (interfaces_answer h)
answer h r (asks_interface name) = told (interface_answer h name)
answer h r (injects name members) = inject_answer h name (members_given members)
answer h r stops = stop_answer h
