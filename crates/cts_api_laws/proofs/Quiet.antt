-- Methods that only ask append nothing, and refuse by one code.
use Rattle.std.proofs.Common.{◌≡◌, ℕ, ℤ, pos, negsuc, ◌+◌, ◌≤◌, Bool, true, false, ◌&&◌, List, [], ◌∷◌, length, Option, Some, None, Result, Ok, Err, refl, sym, ap, subst, ◌∙◌, codes, arith}
use Rattle.std.specs.Prelude.{◌==◌, drop, if◌then◌else◌, map, nat_le, nat_lt, neg_ℤ, option_map}
use Rattle.std.specs.List.{All, Contains}
use Rattle.std.proofs.lemmas.Bool.{le-leb}
use Rattle.std.proofs.lemmas.List.Elements.{All-nil, All-cons, All-contains}
use Rattle.cts_base.specs.Names.{in_upper_case, is_name, spells}
use Rattle.cts_cmd.specs.declared.request.Request.{Request}
use Rattle.cts_conv.specs.declared.value.Value.{Value as Held}
use Rattle.cts_conv.specs.declared.value.ValueKind.{ValueKind}
use Rattle.cts_conv.specs.declared.value.ValueKind.TheVariants.{Converted, Formatted, Raw, WithUnits}
use Rattle.cts_def.specs.declared.ident.Ident.TheVariants.{Known, Unknown}
use Rattle.cts_def.specs.declared.time.Time.{Time}
use Rattle.cts_def.specs.Items.{ItemData}
use Rattle.cts_def.specs.Packets.{PacketData, is_named, unknown}
use Rattle.cts_def.specs.Sites.{InterfaceData}
use Rattle.cts_entry.specs.declared.entry.Entry.{Entry}
use Rattle.cts_entry.specs.Histories.{bytes_in, entries_in}
use Rattle.cts_entry.specs.Legal.{IsLegal}
use Rattle.cts_table.specs.declared.basis.Basis.{Basis}
use Rattle.cts_table.specs.declared.fault.Lookup.{Lookup}
use Rattle.cts_table.specs.Keeping.{rules_of}
use Rattle.cts_monitor.specs.declared.types.LimitsUsed.{LimitsUsed}
use Rattle.serde_json.specs.Data.{Data, Members, array, boolean, float, member, negative, no_members, null, number, object, string, unsigned}
use Rattle.cts_api.specs.Answers.{Done, ItemAt, Posting, answer, check, connection_text, first_with, given_or, has_name, interface_answer, is_called, is_unknown_target, item_at, limits_answer, limits_at, limits_row, next, or_unknown, packet_answer, packet_at, packet_rows, posts_nothing, received_answer, rows_from, sent_answer, set_asked, told, value_answer, value_said}
use Rattle.cts_methods.specs.Asking.{Asking, ItemName, PacketName, asks_events, asks_interface, asks_interfaces, asks_limits, asks_out_of_limits, asks_packet, asks_received, asks_sent, asks_set, asks_value, chooses_set, enables, injects, sends, sets_limits, stops}
use Rattle.cts_api.specs.Saying.{Said, gives, refused}
use Rattle.cts_methods.specs.Kinds.{item_in, count, events, interface, kind_in, limits, may_be, names_first, natural_in, nothing, packet, packet_first, packet_in, single, text_in, value}
use Rattle.cts_methods.specs.Methods.{method_named}
use Rattle.cts_api.specs.Points.{Point, point_of}
use Rattle.cts_api.specs.Replies.{IsReplyOf, IsReplyTo, Reply, done_reply, fit, history_full, made, posted, said_to}
use Rattle.cts_api.specs.Shown.{list, no_such, text, whole}
use Rattle.cts_api_laws.specs.LookUps.{LookUpsAppendNothing, LookUpsNeedNoRoom, look_ups}
use Rattle.cts_api_laws.proofs.Inverting.{and_then_some, map_some, some_is}

-- ---- what refuses by the code of what is missing

abbrev missing : ℤ
missing = neg_ℤ (pos 32001)

abbrev IsMissing : {A : Type 0} → Said A → Type 0
IsMissing (refused code message) = code ≡ missing
IsMissing (gives a) = Unit {0}

next_missing : {A B : Type 0} (said : Said A) (rest : A → Said B) → IsMissing said → ((a : A) → IsMissing (rest a)) → IsMissing (next said rest)
next_missing (refused code message) rest x y = x
next_missing (gives a) rest x y = y a

check_missing : {A : Type 0} (passes : Bool) (refusal more : Said A) → IsMissing refusal → IsMissing more → IsMissing (check passes refusal more)
check_missing true refusal more x y = y
check_missing false refusal more x y = x

given_missing : {A : Type 0} (message : List ℕ) (o : Option A) → IsMissing (given_or (no_such message) o)
given_missing message None = refl
given_missing message (Some a) = tt

packet_missing : (packets : List PacketData) (p : PacketName) → IsMissing (packet_at packets p)
packet_missing packets p =
    check_missing _ (no_such (codes "Unknown target")) (given_or (no_such (codes "Unknown packet")) (first_with (is_named p.target p.packet) packets)) refl (given_missing (codes "Unknown packet") (first_with (is_named p.target p.packet) packets))

item_missing : (packets : List PacketData) (name : ItemName) → IsMissing (item_at packets name)
item_missing packets name =
    next_missing (packet_at packets (record { target = name.target; packet = name.packet })) _ (packet_missing packets (record { target = name.target; packet = name.packet }))
    (λ (p : ℕ × PacketData). given_missing (codes "Unknown item") (option_map (λ (i : ℕ × ItemData). record { packet = p.0; of = p.1; item = i.0; it = i.1 }) (first_with (is_called name.item) p.1.items)))

unknown_missing : {A : Type 0} (p : PacketName) (of_none of_packet : Said A) → IsMissing of_none → IsMissing of_packet → IsMissing (or_unknown p of_none of_packet)
unknown_missing {A} p of_none of_packet x y =
    by_target (is_unknown_target p) (check (spells p.packet unknown) (no_such (codes "Unknown packet")) of_none) of_packet
    (check_missing (spells p.packet unknown) (no_such (codes "Unknown packet")) of_none refl x) y where
      by_target : (b : Bool) (first other : Said A) → IsMissing first → IsMissing other → IsMissing (if b then first else other)
      by_target true first other h k = h
      by_target false first other h k = k

value_missing : (r : Result Held Lookup) → IsMissing (value_said r)
value_missing (Ok v) = tt
value_missing (Err e) = refl

set_missing : (h : Point) (o : Option (List ℕ)) → IsMissing (set_asked h o)
set_missing h None = tt
set_missing h (Some name) = check_missing (is_name name && h.is_known (in_upper_case name)) (no_such (codes "Unknown limits set")) (gives (in_upper_case name)) refl tt

limits_missing : (h : Point) (name : ItemName) (set : Option (List ℕ)) → IsMissing (limits_answer h name set)
limits_missing h name set =
    next_missing (item_at h.site.definitions.telemetry name) (λ (at : ItemAt). after_item at) (item_missing h.site.definitions.telemetry name) (λ (at : ItemAt).
    next_missing (limits_at h at h.set) (λ (now : LimitsUsed). after_set at) (given_missing (codes "No limits") (h.limits_of at.packet at.item h.set)) (λ (now : LimitsUsed).
    next_missing (set_asked h set) (λ (s : List ℕ). after_limits at s) (set_missing h set) (λ (s : List ℕ).
    next_missing (limits_at h at s) (λ (u : LimitsUsed). gives (limits_row s u)) (given_missing (codes "No limits") (h.limits_of at.packet at.item s)) (λ (u : LimitsUsed). tt)))) where
      after_limits : ItemAt → List ℕ → Said Data
      after_limits at s = next (limits_at h at s) (λ (u : LimitsUsed). gives (limits_row s u))

      after_set : ItemAt → Said Data
      after_set at = next (set_asked h set) (λ (s : List ℕ). after_limits at s)

      after_item : ItemAt → Said Data
      after_item at = next (limits_at h at h.set) (λ (now : LimitsUsed). after_set at)

rows_missing : (h : Point) (p : PacketName) (kind : ValueKind) → IsMissing (packet_answer h p kind)
rows_missing h p kind =
    unknown_missing p (check (nat_lt 0 (h.received Unknown)) (no_such (codes "Never received")) (gives (list []))) (next (packet_at h.site.definitions.telemetry p) (packet_rows h kind))
    (check_missing (nat_lt 0 (h.received Unknown)) (no_such (codes "Never received")) (gives (list [])) refl tt)
    (next_missing (packet_at h.site.definitions.telemetry p) (packet_rows h kind) (packet_missing h.site.definitions.telemetry p) (λ (at : ℕ × PacketData).
    next_missing (given_or (no_such (codes "Never received")) (h.current at.0)) (λ (bytes : List ℕ). gives (list (rows_from h kind at.0 at.1 bytes 0 at.1.items))) (given_missing (codes "Never received") (h.current at.0))
    (λ (bytes : List ℕ). tt)))

received_missing : (h : Point) (p : PacketName) → IsMissing (received_answer h p)
received_missing h p =
    unknown_missing p (gives (whole (h.received Unknown))) (next (packet_at h.site.definitions.telemetry p) (λ (at : ℕ × PacketData). gives (whole (h.received (Known at.0)))))
    tt (next_missing (packet_at h.site.definitions.telemetry p) (λ (at : ℕ × PacketData). gives (whole (h.received (Known at.0)))) (packet_missing h.site.definitions.telemetry p) (λ (at : ℕ × PacketData). tt))

sent_missing : (h : Point) (p : PacketName) → IsMissing (sent_answer h p)
sent_missing h p =
    next_missing (packet_at h.site.definitions.commands p) (λ (at : ℕ × PacketData). gives (whole (h.sent at.0))) (packet_missing h.site.definitions.commands p) (λ (at : ℕ × PacketData). tt)

interface_missing : (h : Point) (name : List ℕ) → IsMissing (interface_answer h name)
interface_missing h name =
    next_missing (given_or (no_such (codes "Unknown interface")) (first_with (has_name name) h.site.interfaces)) (λ (i : ℕ × InterfaceData). gives (text (connection_text (h.connected i.0))))
    (given_missing (codes "Unknown interface") (first_with (has_name name) h.site.interfaces)) (λ (i : ℕ × InterfaceData). tt)

-- ---- what is asked by a method that only asks

abbrev IsLookUp : Asking → Type 0
IsLookUp (asks_value kind name) = Unit {0}
IsLookUp (asks_packet p kind) = Unit {0}
IsLookUp (asks_received p) = Unit {0}
IsLookUp (asks_sent p) = Unit {0}
IsLookUp (sends k order) = ⊥
IsLookUp (asks_limits name set) = Unit {0}
IsLookUp (sets_limits name new) = ⊥
IsLookUp (enables on name) = ⊥
IsLookUp asks_set = Unit {0}
IsLookUp (chooses_set name) = ⊥
IsLookUp asks_out_of_limits = Unit {0}
IsLookUp (asks_events from) = Unit {0}
IsLookUp asks_interfaces = Unit {0}
IsLookUp (asks_interface name) = Unit {0}
IsLookUp (injects name _) = ⊥
IsLookUp stops = ⊥

nothing_looks : (a : Asking) → IsLookUp a → (ds : List Data) (b : Asking) → nothing a ds ≡ Some b → IsLookUp b
nothing_looks a looks [] b e = subst IsLookUp (some_is a b e) looks
nothing_looks a looks (d ∷ ds) b e = absurd (cc e)

value_looks : (kind : ValueKind) (ds : List Data) (a : Asking) → value kind ds ≡ Some a → IsLookUp a
value_looks kind ds a e = let x = map_some _ (item_in ds) a e in subst IsLookUp x.2 tt

packet_looks : (ds : List Data) (a : Asking) → packet ds ≡ Some a → IsLookUp a
packet_looks ds a e =
    let p = and_then_some _ (packet_first ds) a e in
    let x = map_some _ (may_be kind_in p.0.1) a p.2 in subst IsLookUp x.2 tt

count_looks : (asks : PacketName → Asking) → ((p : PacketName) → IsLookUp (asks p)) → (ds : List Data) (a : Asking) → count asks ds ≡ Some a → IsLookUp a
count_looks asks looks ds a e = let x = map_some asks (packet_in ds) a e in subst IsLookUp x.2 (looks x.0)

limits_look : (ds : List Data) (a : Asking) → limits ds ≡ Some a → IsLookUp a
limits_look ds a e =
    let p = and_then_some _ (names_first ds) a e in
    let x = map_some _ (may_be text_in p.0.1) a p.2 in subst IsLookUp x.2 tt

events_look : (ds : List Data) (a : Asking) → events ds ≡ Some a → IsLookUp a
events_look ds a e = let x = map_some _ (may_be natural_in ds) a e in subst IsLookUp x.2 tt

interface_looks : (ds : List Data) (a : Asking) → interface ds ≡ Some a → IsLookUp a
interface_looks ds a e = let x = map_some _ (single text_in ds) a e in subst IsLookUp x.2 tt

module _ (h : Point) (by : ℕ) (time : Time) where
  -- a reply to what a look-up asks, or to params that ask nothing
  abbrev pub LookUpTo : Option Data → Reply → Type 0
  LookUpTo id a = (asked : Option Asking) × ((x : Asking) → asked ≡ Some x → IsLookUp x) × IsReplyTo h by time id asked a

  -- all replies of the method of this name
  abbrev Replies : List ℕ → Type 0
  Replies name = (id : Option Data) (ds : List Data) (a : Reply) → IsReplyOf h by time id ds (method_named name) a → LookUpTo id a

  all_look_up : All Replies look_ups
  all_look_up =
      All-cons Replies (codes "tlm") (drop 1 look_ups) (λ id ds a is. (value Converted ds, value_looks Converted ds, is)) (
      All-cons Replies (codes "tlm_raw") (drop 2 look_ups) (λ id ds a is. (value Raw ds, value_looks Raw ds, is)) (
      All-cons Replies (codes "tlm_formatted") (drop 3 look_ups) (λ id ds a is. (value Formatted ds, value_looks Formatted ds, is)) (
      All-cons Replies (codes "tlm_with_units") (drop 4 look_ups) (λ id ds a is. (value WithUnits ds, value_looks WithUnits ds, is)) (
      All-cons Replies (codes "get_tlm_packet") (drop 5 look_ups) (λ id ds a is. (packet ds, packet_looks ds, is)) (
      All-cons Replies (codes "get_tlm_cnt") (drop 6 look_ups) (λ id ds a is. (count asks_received ds, count_looks asks_received (λ p. tt) ds, is)) (
      All-cons Replies (codes "get_cmd_cnt") (drop 7 look_ups) (λ id ds a is. (count asks_sent ds, count_looks asks_sent (λ p. tt) ds, is)) (
      All-cons Replies (codes "get_limits") (drop 8 look_ups) (λ id ds a is. (limits ds, limits_look ds, is)) (
      All-cons Replies (codes "get_limits_set") (drop 9 look_ups) (λ id ds a is. (nothing asks_set ds, nothing_looks asks_set tt ds, is)) (
      All-cons Replies (codes "get_out_of_limits") (drop 10 look_ups) (λ id ds a is. (nothing asks_out_of_limits ds, nothing_looks asks_out_of_limits tt ds, is)) (
      All-cons Replies (codes "get_limits_events") (drop 11 look_ups) (λ id ds a is. (events ds, events_look ds, is)) (
      All-cons Replies (codes "get_interface_names") (drop 12 look_ups) (λ id ds a is. (nothing asks_interfaces ds, nothing_looks asks_interfaces tt ds, is)) (
      All-cons Replies (codes "interface_state") (drop 13 look_ups) (λ id ds a is. (interface ds, interface_looks ds, is)) (All-nil Replies)))))))))))))

  pub looks_up : (name : List ℕ) → Contains look_ups name → Replies name
  looks_up name here = All-contains Replies look_ups name all_look_up here

-- ---- its answers

abbrev IsQuiet : Said Done → Type 0
IsQuiet (refused code message) = code ≡ missing
IsQuiet (gives d) = d.posting ≡ posts_nothing

told_quiet : (said : Said Data) → IsMissing said → IsQuiet (told said)
told_quiet (refused code message) x = x
told_quiet (gives d) x = refl

quiet : (h : Point) (r : Option Request) (a : Asking) → IsLookUp a → IsQuiet (answer h r a)
quiet h r (asks_value kind name) looks = told_quiet (value_answer h kind name) (value_missing (h.value name kind))
quiet h r (asks_packet p kind) looks = told_quiet (packet_answer h p kind) (rows_missing h p kind)
quiet h r (asks_received p) looks = told_quiet (received_answer h p) (received_missing h p)
quiet h r (asks_sent p) looks = told_quiet (sent_answer h p) (sent_missing h p)
quiet h r (sends k order) looks = absurd looks
quiet h r (asks_limits name set) looks = told_quiet (limits_answer h name set) (limits_missing h name set)
quiet h r (sets_limits name new) looks = absurd looks
quiet h r (enables on name) looks = absurd looks
quiet h r asks_set looks = refl
quiet h r (chooses_set name) looks = absurd looks
quiet h r asks_out_of_limits looks = refl
quiet h r (asks_events from) looks = refl
quiet h r asks_interfaces looks = refl
quiet h r (asks_interface name) looks = told_quiet (interface_answer h name) (interface_missing h name)
quiet h r (injects name _) looks = absurd looks
quiet h r stops looks = absurd looks

-- ---- nothing is appended

module _ (h : Point) (by : ℕ) (time : Time) where
  with_none : (id : Option Data) (result : Data) (room : Bool) → (if room then done_reply id result [] else history_full id).entries ≡ []
  with_none id result true = refl
  with_none id result false = refl

  abbrev Posts : Option Data → Data → Posting → Reply
  Posts id result posting = let entries : List Entry = map (made by time) (posted h posting) in if fit h entries then done_reply id result entries else history_full id

  none_said : (id : Option Data) (said : Said Done) → IsQuiet said → (said_to h by time id said).entries ≡ []
  none_said id (refused code message) x = refl
  none_said id (gives d) x = ap (λ (p : Posting). (Posts id d.result p).entries) x ∙ with_none id d.result (fit h [])

  none_to : (id : Option Data) (asked : Option Asking) (a : Reply) → ((x : Asking) → asked ≡ Some x → IsLookUp x) → IsReplyTo h by time id asked a → a.entries ≡ []
  none_to id None a looks is = ap (λ (x : Reply). x.entries) is
  none_to id (Some asking) a looks (r, has, is) = ap (λ (x : Reply). x.entries) is ∙ none_said id (answer h r asking) (quiet h r asking (looks asking refl))

  -- ---- and there is room for it

  -- the name of the first member, and the number of an error's code
  abbrev name_in : Members → List ℕ
  name_in no_members = []
  name_in (member k d ms) = k

  abbrev value_in : Members → Data
  value_in no_members = null
  value_in (member k d ms) = d

  abbrev members_in : Data → Members
  members_in null = no_members
  members_in (boolean b) = no_members
  members_in (number n) = no_members
  members_in (string s) = no_members
  members_in (array ds) = no_members
  members_in (object ms) = ms

  abbrev below : Data → ℕ
  below null = 0
  below (boolean b) = 0
  below (number (unsigned n)) = 0
  below (number (negative (pos n))) = 0
  below (number (negative (negsuc n))) = n
  below (number (float x)) = 0
  below (string s) = 0
  below (array ds) = 0
  below (object ms) = 0

  abbrev said_in : Reply → Data
  said_in reply = in_some reply.response where
    in_some : Option Data → Data
    in_some None = null
    in_some (Some d) = d

  abbrev has_code : ℕ → Reply → Bool
  has_code n reply = below (value_in (members_in (value_in (members_in (said_in reply))))) == n

  abbrev kind_of : Reply → ℕ
  kind_of reply = length (name_in (members_in (said_in reply)))

  room_with : (id result : Data) (room : Bool) → room ≡ true → (if room then done_reply (Some id) result [] else history_full (Some id)) ≡ history_full (Some id) → ⊥
  room_with id result true is e = let kinds : 2 ≡ 5 = ap kind_of e in cc kinds
  room_with id result false is e = cc is

  room_said : (id : Data) (said : Said Done) → IsQuiet said → fit h [] ≡ true → said_to h by time (Some id) said ≡ history_full (Some id) → ⊥
  room_said id (refused code message) x room e =
      let other : false ≡ true = ap (λ (z : ℤ). has_code 32002 (said_to h by time (Some id) (refused z message))) (sym x) ∙ ap (has_code 32002) e in cc other
  room_said id (gives d) x room e = room_with id d.result (fit h []) room (sym (ap (Posts (Some id) d.result) x) ∙ e)

  room_to : (id : Data) (asked : Option Asking) (a : Reply) → ((x : Asking) → asked ≡ Some x → IsLookUp x) → fit h [] ≡ true → IsReplyTo h by time (Some id) asked a → a ≡ history_full (Some id) → ⊥
  room_to id None a looks room is e = let other : false ≡ true = ap (has_code 32002) (sym is ∙ e) in cc other
  room_to id (Some asking) a looks room (r, has, is) e = room_said id (answer h r asking) (quiet h r asking (looks asking refl)) room (sym is ∙ e)

pub appends_nothing : LookUpsAppendNothing
appends_nothing h by time id params name a here is = let to = looks_up h by time name here id params a is in none_to h by time id to.0 a to.1 to.2

both_true : (a b : Bool) → a ≡ true → b ≡ true → (a && b) ≡ true
both_true a b x y = ap (λ c. c && b) x ∙ y

has_room : (b : Basis) (history : List Entry) → IsLegal (rules_of b) history → fit (point_of b history) [] ≡ true
has_room b history legal =
    let entries = legal.entries in
    let bytes = legal.bytes in
    let few : entries_in history + 0 ≤ b.entries = grind arith in
    let small : bytes_in history + 0 ≤ b.bytes = grind arith in
    both_true (nat_le (entries_in history + 0) b.entries) (nat_le (bytes_in history + 0) b.bytes) (le-leb (entries_in history + 0) b.entries few) (le-leb (bytes_in history + 0) b.bytes small)

pub needs_no_room : LookUpsNeedNoRoom
needs_no_room b history by time id params name a here legal is e =
    let to = looks_up (point_of b history) by time name here (Some id) params a is in room_to (point_of b history) by time id to.0 a to.1 (has_room b history legal) to.2 e
