-- No result has a number with a fraction.
use Rattle.std.proofs.Common.{◌≡◌, ℕ, ℤ, pos, negsuc, ◌+◌, List, [], ◌∷◌, ◌++◌, Bool, true, false, ◌||◌, Option, Some, None, Result, Ok, Err, if◌then◌else◌, refl, subst, codes}
use Rattle.std.specs.Prelude.{nat_lt, slice_get}
use Rattle.std.specs.Cmp.Lexicographic.{slice_cmp}
use Rattle.std.specs.Ordering.{nat_cmp, match_ordering}
use Rattle.std.proofs.Common.{Ordering, Less, Equal, Greater}
use Rattle.std.specs.Fmt.{signed_decimal}
use Rattle.std.specs.Str.Lossy.{utf8_lossy}
use Rattle.cts_base.specs.Names.{in_upper_case, spells}
use Rattle.cts_base.specs.declared.decimal.Decimal.{Decimal}
use Rattle.cts_cmd.specs.declared.refused.Refused.{Refused}
use Rattle.cts_cmd.specs.declared.refused.Refused.TheVariants as why
use Rattle.cts_cmd.specs.declared.request.Checks.{Checks}
use Rattle.cts_cmd.specs.declared.request.Given.{Given}
use Rattle.cts_cmd.specs.declared.request.Given.TheVariants as g
use Rattle.cts_cmd.specs.declared.request.Request.{Request}
use Rattle.cts_conv.specs.declared.value.Value.{Value}
use Rattle.cts_conv.specs.declared.value.Value.TheVariants as vs
use Rattle.cts_conv.specs.declared.value.ValueKind.{ValueKind}
use Rattle.cts_conv.specs.Kinds.{value_of}
use Rattle.cts_def.specs.Items.{ItemData}
use Rattle.cts_def.specs.declared.ident.Ident.TheVariants.{Known, Unknown}
use Rattle.cts_def.specs.Packets.{PacketData, default_set, unknown}
use Rattle.cts_def.specs.Sites.{InterfaceData}
use Rattle.cts_entry.specs.declared.what.What.{What}
use Rattle.cts_entry.specs.declared.what.What.TheVariants.{Stop}
use Rattle.cts_table.specs.declared.fault.Lookup.{Lookup}
use Rattle.cts_monitor.specs.Watching.{is_watched}
use Rattle.cts_monitor.specs.declared.types.LimitsEvent.{LimitsEvent}
use Rattle.cts_monitor.specs.declared.types.LimitsUsed.{LimitsUsed}
use Rattle.serde_json.specs.Data.{Data, null, boolean, number, object, Members, no_members, member, put}
use Rattle.serde_json.specs.Find.{of_integer}
use Rattle.serde_json.specs.View.{items_of}
use Rattle.serde_json.specs.Written.{has_float, items_have_float, members_have_float}
use Rattle.cts_api.specs.Answers.{Done, posts_command, posts_injected, next, given_or, check, told, appended, packet_at, item_at, ItemAt, is_unknown_target, or_unknown, value_said, item_color, item_row, rows_from, packet_rows, packet_answer, received_answer, sent_answer, limits_at, green_rows, decimal_rows, limits_row, set_asked, limits_answer, set_limits_answer, enable_answer, choose_answer, out_row, out_rows, all_out_rows, event_row_in, event_row_of, with_row, event_rows, names_of, connection_text, interface_answer, first_with, has_name, routed, sound_request, command_row, command_answer, or_injection_refused, inject_answer, stop_answer, answer}
use Rattle.cts_methods.specs.Asking.{PacketName, ItemName, Asking, asks_value, asks_packet, asks_received, asks_sent, sends, asks_limits, sets_limits, enables, asks_set, chooses_set, asks_out_of_limits, asks_events, asks_interfaces, asks_interface, injects, stops}
use Rattle.cts_api.specs.Saying.{Said, refused, gives}
use Rattle.cts_cmd.specs.Injects.{injection_refusal}
use Rattle.cts_methods.specs.Kinds.{members_given}
use Rattle.cts_api.specs.Points.{Point}
use Rattle.cts_api.specs.Shown.{text, whole, list, whole_shown, is_held, shown, color, given, object_with, object_of, is_out, no_such, injection_said}

either_false : (a b : Bool) → a ≡ false → b ≡ false → (a || b) ≡ false
either_false true b x y = x
either_false false b x y = y

-- ---- parts of results

abbrev AllWhole : List Data → Type 0
AllWhole [] = Unit {0}
AllWhole (d ∷ ds) = (has_float d ≡ false) × AllWhole ds

items_whole : (ds : List Data) → AllWhole ds → items_have_float (items_of ds) ≡ false
items_whole [] all = refl
items_whole (d ∷ ds) (one, more) = either_false (has_float d) (items_have_float (items_of ds)) one (items_whole ds more)

both_whole : (ds es : List Data) → AllWhole ds → AllWhole es → AllWhole (ds ++ es)
both_whole [] es all also = also
both_whole (d ∷ ds) es (one, more) also = (one, both_whole ds es more also)

number_whole : (z : ℤ) (held : Bool) (t : Data) → has_float t ≡ false → has_float (if held then number (of_integer z) else t) ≡ false
number_whole (pos n) true t h = refl
number_whole (negsuc n) true t h = refl
number_whole z false t h = h

whole_shown_whole : (z : ℤ) → has_float (whole_shown z) ≡ false
whole_shown_whole z = number_whole z (is_held z) (text (signed_decimal z)) refl

shown_whole : (v : Value) → has_float (shown v) ≡ false
shown_whole (vs.Whole z) = whole_shown_whole z
shown_whole (vs.Parts d) = refl
shown_whole (vs.Text t) = refl
shown_whole (vs.Raw b) = refl

given_whole : (g : Given) → has_float (given g) ≡ false
given_whole (g.Whole z) = whole_shown_whole z
given_whole (g.Text t) = refl

put_at : (o : Ordering) (k l : List ℕ) (d e : Data) (ms later : Members) → has_float d ≡ false → has_float e ≡ false → members_have_float ms ≡ false → members_have_float later ≡ false
    → members_have_float (match_ordering o (member k d (member l e ms)) (member l d ms) (member l e later)) ≡ false
put_at Less k l d e ms later x y z w = either_false (has_float d) (has_float e || members_have_float ms) x (either_false (has_float e) (members_have_float ms) y z)
put_at Equal k l d e ms later x y z w = either_false (has_float d) (members_have_float ms) x z
put_at Greater k l d e ms later x y z w = either_false (has_float e) (members_have_float later) y w

left_false : (a b : Bool) → (a || b) ≡ false → a ≡ false
left_false true b h = h
left_false false b h = refl

right_false : (a b : Bool) → (a || b) ≡ false → b ≡ false
right_false true b h = absurd cc
right_false false b h = h

put_whole : (k : List ℕ) (d : Data) (ms : Members) → has_float d ≡ false → members_have_float ms ≡ false → members_have_float (put k d ms) ≡ false
put_whole k d no_members x h = either_false (has_float d) false x refl
put_whole k d (member l e ms) x h =
    let one = left_false (has_float e) (members_have_float ms) h in
    let more = right_false (has_float e) (members_have_float ms) h in
    put_at (slice_cmp nat_cmp k l) k l d e ms (put k d ms) x one more (put_whole k d ms x more)

object_with_whole : (ms : Members) (ps : List (List ℕ × Given)) → members_have_float ms ≡ false → members_have_float (object_with ms ps) ≡ false
object_with_whole ms [] h = h
object_with_whole ms (p ∷ ps) h =
    object_with_whole (put (utf8_lossy (in_upper_case p.0)) (given p.1) ms) ps (put_whole (utf8_lossy (in_upper_case p.0)) (given p.1) ms (given_whole p.1) h)

-- ---- results

abbrev IsWhole : Said Data → Type 0
IsWhole (refused code message) = Unit {0}
IsWhole (gives d) = has_float d ≡ false

next_whole : {A : Type 0} (said : Said A) (rest : A → Said Data) → ((a : A) → IsWhole (rest a)) → IsWhole (next said rest)
next_whole (refused code message) rest h = tt
next_whole (gives a) rest h = h a

check_whole : (passes : Bool) (refusal more : Said Data) → IsWhole refusal → IsWhole more → IsWhole (check passes refusal more)
check_whole true refusal more x y = y
check_whole false refusal more x y = x

unknown_whole : (p : PacketName) (of_none of_packet : Said Data) → IsWhole of_none → IsWhole of_packet → IsWhole (or_unknown p of_none of_packet)
unknown_whole p of_none of_packet x y =
    by_target (is_unknown_target p) (check (spells p.packet unknown) (no_such (codes "Unknown packet")) of_none) of_packet
    (check_whole (spells p.packet unknown) (no_such (codes "Unknown packet")) of_none tt x) y where
      by_target : (b : Bool) (first other : Said Data) → IsWhole first → IsWhole other → IsWhole (if b then first else other)
      by_target true first other h k = h
      by_target false first other h k = k

said_whole : (r : Result Value Lookup) → IsWhole (value_said r)
said_whole (Ok v) = shown_whole v
said_whole (Err e) = tt

color_whole : (watched : Bool) (d : Data) → has_float d ≡ false → has_float (if watched then d else null) ≡ false
color_whole true d h = h
color_whole false d h = refl

row_whole : (h : Point) (kind : ValueKind) (p : ℕ) (packet : PacketData) (bytes : List ℕ) (n : ℕ) (i : ItemData) → has_float (item_row h kind p packet bytes n i) ≡ false
row_whole h kind p packet bytes n i =
    items_whole (text i.name ∷ shown (value_of kind packet i bytes) ∷ item_color h p n i ∷ [])
    (refl, (shown_whole (value_of kind packet i bytes), (color_whole (is_watched i) (color (h.state_of p n)) refl, tt)))

rows_whole : (h : Point) (kind : ValueKind) (p : ℕ) (packet : PacketData) (bytes : List ℕ) (n : ℕ) (items : List ItemData) → AllWhole (rows_from h kind p packet bytes n items)
rows_whole h kind p packet bytes n [] = tt
rows_whole h kind p packet bytes n (i ∷ items) = (row_whole h kind p packet bytes n i, rows_whole h kind p packet bytes (n + 1) items)

packet_whole : (h : Point) (p : PacketName) (kind : ValueKind) → IsWhole (packet_answer h p kind)
packet_whole h p kind =
    unknown_whole p (check (nat_lt 0 (h.received Unknown)) (no_such (codes "Never received")) (gives (list []))) (next (packet_at h.site.definitions.telemetry p) (packet_rows h kind))
    (check_whole (nat_lt 0 (h.received Unknown)) (no_such (codes "Never received")) (gives (list [])) tt refl)
    (next_whole (packet_at h.site.definitions.telemetry p) (packet_rows h kind) (λ (at : ℕ × PacketData).
    next_whole (given_or (no_such (codes "Never received")) (h.current at.0)) (λ (bytes : List ℕ). gives (list (rows_from h kind at.0 at.1 bytes 0 at.1.items)))
    (λ (bytes : List ℕ). items_whole (rows_from h kind at.0 at.1 bytes 0 at.1.items) (rows_whole h kind at.0 at.1 bytes 0 at.1.items))))

received_whole : (h : Point) (p : PacketName) → IsWhole (received_answer h p)
received_whole h p =
    unknown_whole p (gives (whole (h.received Unknown))) (next (packet_at h.site.definitions.telemetry p) (λ (at : ℕ × PacketData). gives (whole (h.received (Known at.0)))))
    refl (next_whole (packet_at h.site.definitions.telemetry p) (λ (at : ℕ × PacketData). gives (whole (h.received (Known at.0)))) (λ (at : ℕ × PacketData). refl))

sent_whole : (h : Point) (p : PacketName) → IsWhole (sent_answer h p)
sent_whole h p = next_whole (packet_at h.site.definitions.commands p) (λ (at : ℕ × PacketData). gives (whole (h.sent at.0))) (λ (at : ℕ × PacketData). refl)

green_whole : (g : Option (Decimal × Decimal)) → AllWhole (green_rows g)
green_whole None = (refl, (refl, tt))
green_whole (Some pair) = (refl, (refl, tt))

limits_row_whole : (set : List ℕ) (u : LimitsUsed) → has_float (limits_row set u) ≡ false
limits_row_whole set u =
    items_whole (text (if u.own then set else default_set) ∷ whole u.persistence ∷ boolean u.enabled ∷ decimal_rows u.limits)
    (refl, (refl, (refl, (refl, (refl, (refl, (refl, green_whole u.limits.green)))))))

limits_whole : (h : Point) (name : ItemName) (set : Option (List ℕ)) → IsWhole (limits_answer h name set)
limits_whole h name set =
    next_whole (item_at h.site.definitions.telemetry name) (λ (at : ItemAt). after_item at) (λ (at : ItemAt).
    next_whole (limits_at h at h.set) (λ (now : LimitsUsed). after_set at) (λ (now : LimitsUsed).
    next_whole (set_asked h set) (λ (s : List ℕ). after_limits at s) (λ (s : List ℕ).
    next_whole (limits_at h at s) (λ (u : LimitsUsed). gives (limits_row s u)) (λ (u : LimitsUsed). limits_row_whole s u)))) where
      after_limits : ItemAt → List ℕ → Said Data
      after_limits at s = next (limits_at h at s) (λ (u : LimitsUsed). gives (limits_row s u))

      after_set : ItemAt → Said Data
      after_set at = next (set_asked h set) (λ (s : List ℕ). after_limits at s)

      after_item : ItemAt → Said Data
      after_item at = next (limits_at h at h.set) (λ (now : LimitsUsed). after_set at)

out_whole : (h : Point) (p : ℕ) (packet : PacketData) (n : ℕ) (items : List ItemData) → AllWhole (out_rows h p packet n items)
out_whole h p packet n [] = tt
out_whole h p packet n (i ∷ items) =
    either (is_out (h.state_of p n)) (out_row packet i (color (h.state_of p n))) (out_rows h p packet (n + 1) items) refl (out_whole h p packet (n + 1) items) where
      either : (b : Bool) (d : Data) (ds : List Data) → has_float d ≡ false → AllWhole ds → AllWhole (if b then d ∷ ds else ds)
      either true d ds x all = (x, all)
      either false d ds x all = all

all_out_whole : (h : Point) (n : ℕ) (packets : List PacketData) → AllWhole (all_out_rows h n packets)
all_out_whole h n [] = tt
all_out_whole h n (p ∷ packets) = both_whole (out_rows h n p 0 p.items) (all_out_rows h (n + 1) packets) (out_whole h n p 0 p.items) (all_out_whole h (n + 1) packets)

event_whole : (e : LimitsEvent) (packet : Option PacketData) (rows : List Data) → AllWhole rows → AllWhole (with_row (event_row_in e packet) rows)
event_whole e None rows all = all
event_whole e (Some p) rows all = by_item (slice_get p.items e.item) where
  by_item : (i : Option ItemData) → AllWhole (with_row (event_row_of e p i) rows)
  by_item None = all
  by_item (Some i) = (refl, all)

events_whole : (packets : List PacketData) (es : List LimitsEvent) → AllWhole (event_rows packets es)
events_whole packets [] = tt
events_whole packets (e ∷ es) = event_whole e (slice_get packets e.packet) (event_rows packets es) (events_whole packets es)

names_whole : (interfaces : List InterfaceData) → AllWhole (names_of interfaces)
names_whole [] = tt
names_whole (i ∷ interfaces) = (refl, names_whole interfaces)

-- ---- all of them

abbrev IsDoneWhole : Said Done → Type 0
IsDoneWhole (refused code message) = Unit {0}
IsDoneWhole (gives d) = has_float d.result ≡ false

told_whole : (said : Said Data) → IsWhole said → IsDoneWhole (told said)
told_whole (refused code message) h = tt
told_whole (gives d) h = h

appended_whole : (said : Said What) → IsDoneWhole (appended said)
appended_whole (refused code message) = tt
appended_whole (gives w) = refl

then_whole : {A : Type 0} (said : Said A) (rest : A → Said Done) → ((a : A) → IsDoneWhole (rest a)) → IsDoneWhole (next said rest)
then_whole (refused code message) rest h = tt
then_whole (gives a) rest h = h a

row_of_command_whole : (c : PacketData) (r : Request) → has_float (command_row c r) ≡ false
row_of_command_whole c r = items_whole (text c.target ∷ text c.name ∷ object (object_of r.params) ∷ []) (refl, (refl, (object_with_whole no_members r.params refl, tt)))

command_whole : (h : Point) (k : Checks) (r : Option Request) → IsDoneWhole (command_answer h k r)
command_whole h k None = tt
command_whole h k (Some r) =
    then_whole (sound_request h.site k r) (λ (c : ℕ × PacketData). after c) (λ (c : ℕ × PacketData).
    then_whole (routed h.site (h.route c.0)) (λ (i : ℕ). sent_by c i) (λ (i : ℕ). row_of_command_whole c.1 r)) where
      sent_by : ℕ × PacketData → ℕ → Said Done
      sent_by c i = gives (record { result = command_row c.1 r; posting = posts_command i r })

      after : ℕ × PacketData → Said Done
      after c = next (routed h.site (h.route c.0)) (λ (i : ℕ). sent_by c i)

injection_whole : (e : Refused) → IsDoneWhole (injection_said e)
injection_whole why.UnknownTarget = tt
injection_whole why.UnknownCommand = tt
injection_whole (why.UnknownParameter name) = tt
injection_whole (why.Twice name) = tt
injection_whole (why.Missing name) = tt
injection_whole (why.WrongType name) = tt
injection_whole (why.UnknownState name) = tt
injection_whole (why.OutOfRange name value min max) = tt
injection_whole (why.Overflow name) = tt
injection_whole why.Hazardous = tt
injection_whole why.Memory = tt

inject_whole : (h : Point) (name : PacketName) (members : List (List ℕ × Given)) → IsDoneWhole (inject_answer h name members)
inject_whole h name members =
    then_whole (packet_at h.site.definitions.telemetry name) (λ (p : ℕ × PacketData). after p (injection_refusal p.1.items members))
    (λ (p : ℕ × PacketData). by_refusal p (injection_refusal p.1.items members)) where
      after : ℕ × PacketData → Option Refused → Said Done
      after p e = or_injection_refused e (gives (record { result = null; posting = posts_injected p.0 p.1 members }))

      by_refusal : (p : ℕ × PacketData) (e : Option Refused) → IsDoneWhole (after p e)
      by_refusal p None = refl
      by_refusal p (Some e) = injection_whole e

stop_whole : (h : Point) → IsDoneWhole (stop_answer h)
stop_whole h = by_stop h.stopped where
  by_stop : (b : Bool) → IsDoneWhole (if b then told (gives null) else appended (gives Stop))
  by_stop true = refl
  by_stop false = refl

answer_whole : (h : Point) (r : Option Request) (a : Asking) → IsDoneWhole (answer h r a)
answer_whole h r (asks_value kind name) = told_whole (value_said (h.value name kind)) (said_whole (h.value name kind))
answer_whole h r (asks_packet p kind) = told_whole (packet_answer h p kind) (packet_whole h p kind)
answer_whole h r (asks_received p) = told_whole (received_answer h p) (received_whole h p)
answer_whole h r (asks_sent p) = told_whole (sent_answer h p) (sent_whole h p)
answer_whole h r (sends k order) = command_whole h k r
answer_whole h r (asks_limits name set) = told_whole (limits_answer h name set) (limits_whole h name set)
answer_whole h r (sets_limits name new) = appended_whole (set_limits_answer h name new)
answer_whole h r (enables on name) = appended_whole (enable_answer h on name)
answer_whole h r asks_set = refl
answer_whole h r (chooses_set name) = appended_whole (choose_answer h name)
answer_whole h r asks_out_of_limits = items_whole (all_out_rows h 0 h.site.definitions.telemetry) (all_out_whole h 0 h.site.definitions.telemetry)
answer_whole h r (asks_events from) = items_whole (event_rows h.site.definitions.telemetry (h.events from)) (events_whole h.site.definitions.telemetry (h.events from))
answer_whole h r asks_interfaces = items_whole (names_of h.site.interfaces) (names_whole h.site.interfaces)
answer_whole h r (asks_interface name) =
    told_whole (interface_answer h name) (next_whole (given_or (no_such (codes "Unknown interface")) (first_with (has_name name) h.site.interfaces))
    (λ (i : ℕ × InterfaceData). gives (text (connection_text (h.connected i.0)))) (λ (i : ℕ × InterfaceData). refl))
answer_whole h r (injects name members) = inject_whole h name (members_given members)
answer_whole h r stops = stop_whole h

pub answers_whole : (h : Point) (r : Option Request) (a : Asking) (d : Done) → answer h r a ≡ gives d → has_float d.result ≡ false
answers_whole h r a d e = subst IsDoneWhole e (answer_whole h r a)
