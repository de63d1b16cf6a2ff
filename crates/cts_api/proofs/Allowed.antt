-- What desks answer may be appended: each answer appends one entry at most, which a desk that has not ended may make there.
use Rattle.std.proofs.Common.{◌≡◌, ℕ, Bool, true, false, List, [], ◌∷◌, Option, Some, None, Result, Ok, Err, codes, unwrap_or, refl, sym, ap, subst, inl}
use Rattle.std.specs.Prelude.{if◌then◌else◌, ◌||◌, nat_lt, option_map, slice_get}
use Rattle.std.specs.List.{position}
use Rattle.cts_cmd.specs.Checks.{refusal}
use Rattle.cts_cmd.specs.Injects.{injection_refusal}
use Rattle.cts_cmd.specs.declared.refused.Refused.{Refused}
use Rattle.cts_cmd.specs.declared.refused.Refused.TheVariants as why
use Rattle.cts_cmd.specs.declared.request.Checks.{Checks}
use Rattle.cts_cmd.specs.declared.request.Given.{Given}
use Rattle.cts_cmd.specs.declared.request.Request.{Request}
use Rattle.cts_def.specs.Items.{are_in_order}
use Rattle.cts_def.specs.Most.{most_sets}
use Rattle.cts_def.specs.Packets.{PacketData, is_named}
use Rattle.cts_def.specs.declared.time.Time.{Time}
use Rattle.cts_entry.specs.declared.entry.Entry.{Entry}
use Rattle.cts_entry.specs.declared.what.What.{What}
use Rattle.cts_entry.specs.declared.what.What.TheVariants.{Opened, Packet, Closed, Command, SetLimits, Enable, LimitsSetIs, Injected, Unrouted, Stop, Ended}
use Rattle.cts_entry.specs.Histories.{is_connected}
use Rattle.cts_entry.specs.Legal.{Allows, IsAllowed, has_ended, is_ended}
use Rattle.cts_entry.specs.Workers.{interface_of, is_desk}
use Rattle.cts_table.specs.Keeping.{rules_of}
use Rattle.cts_table.specs.Routes.{route_to}
use Rattle.cts_table.specs.declared.basis.Basis.{Basis}
use Rattle.cts_table.specs.declared.fault.NoRoute.{NoRoute}
use Rattle.cts_table.specs.declared.fault.NoRoute.TheVariants.{NoInterface, NotConnected}
use Rattle.cts_monitor.specs.Watching.{is_watched}
use Rattle.cts_monitor.specs.declared.types.LimitsUsed.{LimitsUsed}
use Rattle.serde_json.specs.Data.{Data, null}
use Rattle.cts_api.specs.Answers.{Done, ItemAt, answer, appended, check, choose_answer, command_answer, command_row, enable_answer, given_or, inject_answer, item_at, known_set, limits_at, new_set, next, numbered, or_injection_refused, or_refused, packet_at, posts_command, posts_injected, request_answer, routed, set_limits_answer, stop_answer, told}
use Rattle.cts_methods.specs.Asking.{Asking, ItemName, NewLimits, PacketName, asks_events, asks_interface, asks_interfaces, asks_limits, asks_out_of_limits, asks_packet, asks_received, asks_sent, asks_set, asks_value, chooses_set, enables, injects, sends, sets_limits, stops}
use Rattle.cts_api.specs.Saying.{Said, gives, refused}
use Rattle.cts_methods.specs.Kinds.{members_given, or_else}
use Rattle.cts_api.specs.Made.{built}
use Rattle.cts_api.specs.Points.{Point, point_of}
use Rattle.cts_api.specs.Replies.{made, posted}
use Rattle.cts_api.specs.Shown.{injection_said, no_such, not_done}

-- ---- what answers append

-- a desk may append this: a command goes where it has a route, and a Stop comes where none stands
abbrev pub MayPost : Point → What → Type 0
MayPost h Opened = ⊥
MayPost h (Packet ident stored bytes) = ⊥
MayPost h (Closed why loss unposted unsent) = ⊥
MayPost h (Command interface command bytes) = h.route command ≡ Ok interface
MayPost h (SetLimits enabled packet item persistence set limits) = Unit {0}
MayPost h (Enable packet item enabled) = Unit {0}
MayPost h (LimitsSetIs set) = Unit {0}
MayPost h (Injected packet bytes) = Unit {0}
MayPost h (Unrouted why bytes) = ⊥
MayPost h Stop = h.stopped ≡ false
MayPost h Ended = ⊥

-- one alone, or nothing
abbrev pub OneMay : Point → List What → Type 0
OneMay h [] = Unit {0}
OneMay h (what ∷ []) = MayPost h what
OneMay h (what ∷ (other ∷ more)) = ⊥

abbrev SaidMay : Point → Said What → Type 0
SaidMay h (refused code message) = Unit {0}
SaidMay h (gives what) = MayPost h what

abbrev pub DoneMay : Point → Said Done → Type 0
DoneMay h (refused code message) = Unit {0}
DoneMay h (gives d) = OneMay h (posted h d.posting)

told_may : (h : Point) (said : Said Data) → DoneMay h (told said)
told_may h (refused code message) = tt
told_may h (gives d) = tt

appended_may : (h : Point) (said : Said What) → SaidMay h said → DoneMay h (appended said)
appended_may h (refused code message) may = tt
appended_may h (gives what) may = may

next_may : {A : Type 0} (h : Point) (said : Said A) (rest : A → Said What) → ((a : A) → SaidMay h (rest a)) → SaidMay h (next said rest)
next_may h (refused code message) rest may = tt
next_may h (gives a) rest may = may a

-- a refusal, unless the check passes
check_may : (h : Point) (passes : Bool) (said more : Said What) → SaidMay h said → SaidMay h more → SaidMay h (check passes said more)
check_may h true said more x y = y
check_may h false said more x y = x

-- ---- limits

module _ (h : Point) (name : ItemName) (new : NewLimits) where
  abbrev set_of : ItemAt → LimitsUsed → List ℕ → What
  set_of at now set = SetLimits new.enabled at.packet at.item (or_else now.persistence new.persistence) set new.limits

  abbrev after_order : ItemAt → LimitsUsed → List ℕ → Said What
  after_order at now set = check (h.is_known set || nat_lt h.sets most_sets) (not_done (codes "Too many sets")) (gives (set_of at now set))

  abbrev beyond_set : ItemAt → LimitsUsed → List ℕ → Said What
  beyond_set at now set = check (are_in_order new.limits) (not_done (codes "Limits order")) (after_order at now set)

  abbrev beyond_limits : ItemAt → LimitsUsed → Said What
  beyond_limits at now = next (new_set new.set) (beyond_set at now)

  abbrev beyond_item : ItemAt → Said What
  beyond_item at = next (limits_at h at h.set) (beyond_limits at)

  limits_may : SaidMay h (set_limits_answer h name new)
  limits_may =
      next_may h (item_at h.site.definitions.telemetry name) beyond_item (λ (at : ItemAt).
      next_may h (limits_at h at h.set) (beyond_limits at) (λ (now : LimitsUsed).
      next_may h (new_set new.set) (beyond_set at now) (λ (set : List ℕ).
      check_may h (are_in_order new.limits) (not_done (codes "Limits order")) (after_order at now set) tt
      (check_may h (h.is_known set || nat_lt h.sets most_sets) (not_done (codes "Too many sets")) (gives (set_of at now set)) tt tt))))

enable_may : (h : Point) (on : Bool) (name : ItemName) → SaidMay h (enable_answer h on name)
enable_may h on name =
    next_may h (item_at h.site.definitions.telemetry name) (λ (at : ItemAt). check (is_watched at.it) (no_such (codes "No limits")) (gives (Enable at.packet at.item on)))
    (λ (at : ItemAt). check_may h (is_watched at.it) (no_such (codes "No limits")) (gives (Enable at.packet at.item on)) tt tt)

choose_may : (h : Point) (name : List ℕ) → SaidMay h (choose_answer h name)
choose_may h name = next_may h (known_set h name) (λ (s : List ℕ). gives (LimitsSetIs s)) (λ (s : List ℕ). tt)

-- ---- commands

module _ (h : Point) (k : Checks) (r : Request) where
  abbrev commands : List PacketData
  commands = h.site.definitions.commands

  abbrev sends_to : ℕ × PacketData → ℕ → Said Done
  sends_to c i = gives (record { result = command_row c.1 r; posting = posts_command i r })

  abbrev after : ℕ × PacketData → Said Done
  after c = next (routed h.site (h.route c.0)) (sends_to c)

  routed_may : (c : ℕ × PacketData) (way : Result ℕ NoRoute) → h.route c.0 ≡ way → (built h.site.definitions r).command ≡ c.0 → DoneMay h (next (routed h.site way) (sends_to c))
  routed_may c (Ok i) goes same = subst (λ (n : ℕ). h.route n ≡ Ok i) (sym same) goes
  routed_may c (Err NoInterface) goes same = tt
  routed_may c (Err (NotConnected i)) goes same = tt

  at_may : (n : ℕ) (p : Option PacketData) → position (is_named r.target r.command) commands ≡ Some n
      → DoneMay h (next (given_or (not_done (codes "Unknown command")) (option_map (λ (a : PacketData). (n, a)) p)) after)
  at_may n None is = tt
  at_may n (Some p) is = routed_may (n, p) (h.route n) refl (ap (λ (o : Option ℕ). unwrap_or o 0) is)

  named_may : (place : Option ℕ) → position (is_named r.target r.command) commands ≡ place
      → DoneMay h (next (given_or (not_done (codes "Unknown command")) (numbered commands place)) after)
  named_may None is = tt
  named_may (Some n) is = at_may n (slice_get commands n) is

  checked_may : (o : Option Refused)
      → DoneMay h (next (or_refused o (given_or (not_done (codes "Unknown command")) (numbered commands (position (is_named r.target r.command) commands)))) after)
  checked_may None = named_may (position (is_named r.target r.command) commands) refl
  checked_may (Some e) = tt

  request_may : DoneMay h (request_answer h k r)
  request_may = checked_may (refusal h.site.definitions r k)

command_may : (h : Point) (k : Checks) (r : Option Request) → DoneMay h (command_answer h k r)
command_may h k None = tt
command_may h k (Some r) = request_may h k r

-- ---- injections, and the stop

refused_may : (h : Point) (e : Refused) → DoneMay h (injection_said e)
refused_may h why.UnknownTarget = tt
refused_may h why.UnknownCommand = tt
refused_may h (why.UnknownParameter name) = tt
refused_may h (why.Twice name) = tt
refused_may h (why.Missing name) = tt
refused_may h (why.WrongType name) = tt
refused_may h (why.UnknownState name) = tt
refused_may h (why.OutOfRange name value min max) = tt
refused_may h (why.Overflow name) = tt
refused_may h why.Hazardous = tt
refused_may h why.Memory = tt

module _ (h : Point) (name : PacketName) (members : List (List ℕ × Given)) where
  abbrev puts : ℕ × PacketData → Option Refused → Said Done
  puts p e = or_injection_refused e (gives (record { result = null; posting = posts_injected p.0 p.1 members }))

  puts_may : (p : ℕ × PacketData) (e : Option Refused) → DoneMay h (puts p e)
  puts_may p None = tt
  puts_may p (Some e) = refused_may h e

  packet_may : (said : Said (ℕ × PacketData)) → DoneMay h (next said (λ (p : ℕ × PacketData). puts p (injection_refusal p.1.items members)))
  packet_may (refused code message) = tt
  packet_may (gives p) = puts_may p (injection_refusal p.1.items members)

  inject_may : DoneMay h (inject_answer h name members)
  inject_may = packet_may (packet_at h.site.definitions.telemetry name)

stop_may : (h : Point) → DoneMay h (stop_answer h)
stop_may h = by_stop h.stopped refl where
  by_stop : (b : Bool) → h.stopped ≡ b → DoneMay h (if b then told (gives null) else appended (gives Stop))
  by_stop true is = tt
  by_stop false is = is

-- ---- all of them

pub answer_may : (h : Point) (r : Option Request) (a : Asking) → DoneMay h (answer h r a)
answer_may h r (asks_value kind name) = told_may h _
answer_may h r (asks_packet p kind) = told_may h _
answer_may h r (asks_received p) = told_may h _
answer_may h r (asks_sent p) = told_may h _
answer_may h r (sends k order) = command_may h k r
answer_may h r (asks_limits name set) = told_may h _
answer_may h r (sets_limits name new) = appended_may h (set_limits_answer h name new) (limits_may h name new)
answer_may h r (enables on name) = appended_may h (enable_answer h on name) (enable_may h on name)
answer_may h r asks_set = tt
answer_may h r (chooses_set name) = appended_may h (choose_answer h name) (choose_may h name)
answer_may h r asks_out_of_limits = tt
answer_may h r (asks_events from) = tt
answer_may h r asks_interfaces = tt
answer_may h r (asks_interface name) = told_may h _
answer_may h r (injects name members) = inject_may h name (members_given members)
answer_may h r stops = stop_may h

-- ---- a desk may say it

route_if : (on : Bool) (history : List Entry) (k i : ℕ) → is_connected k history ≡ on → (if on then Ok k else Err (NotConnected k)) ≡ Ok i → (Some k ≡ Some i) × (is_connected i history ≡ true)
route_if true history k i on e = let same : k ≡ i = cc in (ap (λ (n : ℕ). Some n) same, subst (λ (n : ℕ). is_connected n history ≡ true) same on)
route_if false history k i on e = absurd (cc e)

route_tells : (history : List Entry) (o : Option ℕ) (i : ℕ) → route_to history o ≡ Ok i → (o ≡ Some i) × (is_connected i history ≡ true)
route_tells history None i e = absurd (cc e)
route_tells history (Some k) i e = route_if (is_connected k history) history k i refl e

pub may_be_said : (b : Basis) (history : List Entry) (by : ℕ) (what : What) → is_desk b.site by ≡ true → MayPost (point_of b history) what → Allows (rules_of b) history by what
may_be_said b history by Opened desk may = absurd may
may_be_said b history by (Packet ident stored bytes) desk may = absurd may
may_be_said b history by (Closed why loss unposted unsent) desk may = absurd may
may_be_said b history by (Command interface command bytes) desk may = let to = route_tells history (interface_of b.site command) interface may in (to.0, to.1, inl desk)
may_be_said b history by (SetLimits enabled packet item persistence set limits) desk may = desk
may_be_said b history by (Enable packet item enabled) desk may = desk
may_be_said b history by (LimitsSetIs set) desk may = desk
may_be_said b history by (Injected packet bytes) desk may = desk
may_be_said b history by (Unrouted why bytes) desk may = absurd may
may_be_said b history by Stop desk may = may
may_be_said b history by Ended desk may = absurd may

pub ends_none : (h : Point) (what : What) → MayPost h what → is_ended what ≡ false
ends_none h Opened may = absurd may
ends_none h (Packet ident stored bytes) may = absurd may
ends_none h (Closed why loss unposted unsent) may = absurd may
ends_none h (Command interface command bytes) may = refl
ends_none h (SetLimits enabled packet item persistence set limits) may = refl
ends_none h (Enable packet item enabled) may = refl
ends_none h (LimitsSetIs set) may = refl
ends_none h (Injected packet bytes) may = refl
ends_none h (Unrouted why bytes) may = absurd may
ends_none h Stop may = refl
ends_none h Ended may = absurd may

-- what is appended for an answer may stand after the history
pub allowed : (b : Basis) (history : List Entry) (by : ℕ) (time : Time) (r : Option Request) (a : Asking) (d : Done) (what : What) → is_desk b.site by ≡ true → has_ended by history ≡ false
    → answer (point_of b history) r a ≡ gives d → posted (point_of b history) d.posting ≡ what ∷ [] → IsAllowed (rules_of b) history (made by time what)
allowed b history by time r a d what desk active e is =
    let one : OneMay (point_of b history) (posted (point_of b history) d.posting) = subst (DoneMay (point_of b history)) e (answer_may (point_of b history) r a) in
    record { active = active; says = may_be_said b history by what desk (subst (OneMay (point_of b history)) is one) }
