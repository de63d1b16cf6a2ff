-- What a desk says is of its site: the numbers, items and sets that it names are there.
use Rattle.std.proofs.Common.{◌≡◌, ℕ, ◌≤◌, ◌<◌, Bool, true, false, ◌||◌, List, [], ◌∷◌, ◌++◌, length, Option, Some, None, refl, sym, ◌∙◌, ap, subst, arith, append-nil, append_assoc}
use Rattle.std.specs.Prelude.{codes, nat_lt, slice_get, is_some, option_and_then, unwrap_or, if◌then◌else◌}
use Rattle.std.proofs.lemmas.Bool.Decides.{nat_tests}
use Rattle.std.proofs.lemmas.List.{length-append}
use Rattle.std.proofs.lemmas.Option.{slice_get_within}
use Rattle.cts_cmd.specs.Checks.{refusal}
use Rattle.cts_cmd.specs.Injects.{injection_refusal}
use Rattle.cts_cmd.specs.declared.refused.Refused.{Refused}
use Rattle.cts_cmd.specs.declared.refused.Refused.TheVariants.{UnknownTarget, UnknownCommand, UnknownParameter, Twice, Missing, WrongType, UnknownState, OutOfRange, Overflow, Hazardous, Memory}
use Rattle.cts_cmd.specs.declared.request.Checks.{Checks}
use Rattle.cts_cmd.specs.declared.request.Given.{Given}
use Rattle.cts_cmd.specs.declared.request.Request.{Request}
use Rattle.cts_def.specs.Items.{ItemData, are_in_order}
use Rattle.cts_def.specs.Most.{most_sets}
use Rattle.cts_def.specs.Packets.{PacketData, is_named}
use Rattle.cts_def.specs.Sites.{SiteData}
use Rattle.cts_def.specs.declared.limits_setup.LimitsSetup.{LimitsSetup}
use Rattle.cts_entry.specs.declared.entry.Entry.{Entry}
use Rattle.cts_entry.specs.declared.what.What.{What}
use Rattle.cts_entry.specs.declared.what.What.TheVariants.{Command, SetLimits, Enable, LimitsSetIs, Stop}
use Rattle.cts_table.specs.declared.basis.Basis.{Basis}
use Rattle.cts_table.specs.Keeping.{AllOfSite, IsSaid}
use Rattle.cts_table.proofs.KeptSteps.{few_named}
use Rattle.cts_monitor.specs.Items.{has_colors, has_limits, item_at as item_in}
use Rattle.cts_monitor.specs.Settings.{limits_of, limits_used_in, watched_in, watched_of}
use Rattle.cts_monitor.proofs.SetSteps.{all_append, set_known_is}
use Rattle.cts_monitor.specs.Sets.{is_among, known_sets}
use Rattle.cts_monitor.specs.Watching.{is_watched}
use Rattle.cts_monitor.specs.declared.types.LimitsUsed.{LimitsUsed}
use Rattle.serde_json.specs.Data.{Data, null}
use Rattle.cts_api.specs.Answers.{Done, ItemAt, answer, check, choose_answer, command_answer, command_row, enable_answer, events_answer, first_with, given_or, inject_answer, interface_answer, interfaces_answer, item_at, known_set, limits_answer, limits_at, limits_set_answer, new_set, next, or_injection_refused, out_of_limits_answer, packet_answer, packet_at, posts_command, posts_injected, posts_nothing, received_answer, request_answer, routed, sent_answer, set_limits_answer, sound_request, told, appended, value_answer, Posting}
use Rattle.cts_methods.specs.Asking.{Asking, NewLimits, ItemName, PacketName, asks_value, asks_packet, asks_received, asks_sent, sends, asks_limits, sets_limits, enables, asks_set, chooses_set, asks_out_of_limits, asks_events, asks_interfaces, asks_interface, injects, stops}
use Rattle.cts_api.specs.Saying.{Said, gives}
use Rattle.cts_methods.specs.Kinds.{members_given, or_else}
use Rattle.cts_api.specs.Made.{built}
use Rattle.cts_api.specs.Points.{Point, point_of}
use Rattle.cts_api.specs.Replies.{posted}
use Rattle.cts_api.specs.Settling.{IsPersistent}
use Rattle.cts_api.specs.Shown.{injection_said, no_such, not_done}
use Rattle.cts_api.proofs.Giving.{appended_posts, check_gives, first_there, given, item_there, next_gives, none_refused, or_gives, packet_there, told_posts}

-- ---- no more sets are known than may be

pub few_known : (site : SiteData) (before es : List Entry) → length (known_sets site before) ≤ most_sets → AllOfSite site before es → length (known_sets site (before ++ es)) ≤ most_sets
few_known site before [] few all = subst (λ (l : List Entry). length (known_sets site l) ≤ most_sets) (sym (append-nil before)) few
few_known site before (e ∷ es) few all =
    let one = subst (λ (sets : List (List ℕ)). length sets ≤ most_sets) (sym (all_append site.definitions.set_names before e)) (few_named site before e.by e.what few all.0.said) in
    subst (λ (l : List Entry). length (known_sets site l) ≤ most_sets) (append_assoc before (e ∷ []) es) (few_known site (before ++ e ∷ []) es one all.1)

sets_fit : (sets : List (List ℕ)) (set : List ℕ) (among : Bool) → length sets ≤ most_sets → is_among sets set ≡ among → (among || nat_lt (length sets) most_sets) ≡ true → length (if among then sets else sets ++ set ∷ []) ≤ most_sets
sets_fit sets set true few is fits = few
sets_fit sets set false few is fits = let one = length-append sets (set ∷ []) in grind (arith, nat_tests)

-- ---- an item with limits

no_limits : (q : PacketData) (item : ItemData) (p i : ℕ) (set : List ℕ) (h : List Entry) → item.limits ≡ None → limits_used_in (Some (record { packet = q; item = item; at = p; index = i })) set h ≡ None
no_limits q item p i set h e = rw e refl

limits_there : (site : SiteData) (p i : ℕ) (set : List ℕ) (h : List Entry) (u : LimitsUsed) → limits_of site p i set h ≡ Some u → has_limits (item_in site p i) ≡ true
limits_there site p i set h u e = by_packet (slice_get site.definitions.telemetry p) refl where
  by_limits : (q : PacketData) (item : ItemData) (l : Option LimitsSetup) → item.limits ≡ l → limits_used_in (Some (record { packet = q; item = item; at = p; index = i })) set h ≡ Some u → is_some item.limits ≡ true
  by_limits q item None is used = absurd (let none : None ≡ Some u = sym (no_limits q item p i set h is) ∙ used in cc none)
  by_limits q item (Some setup) is used = ap is_some is

  by_item : (q : PacketData) (o : Option ItemData) → limits_used_in (watched_of o q p i) set h ≡ Some u → has_limits o ≡ true
  by_item q None used = absurd (cc used)
  by_item q (Some item) used = by_limits q item item.limits refl used

  by_packet : (o : Option PacketData) → slice_get site.definitions.telemetry p ≡ o → has_limits (item_in site p i) ≡ true
  by_packet None at = absurd (let used = subst (λ (x : Option PacketData). limits_used_in (watched_in x p i) set h ≡ Some u) at e in cc used)
  by_packet (Some q) at =
      let used = subst (λ (x : Option PacketData). limits_used_in (watched_in x p i) set h ≡ Some u) at e in
      ap (λ (x : Option PacketData). has_limits (option_and_then (λ (y : PacketData). slice_get y.items i) x)) at ∙ by_item q (slice_get q.items i) used

-- ---- what is said, kind by kind

module _ (b : Basis) (history : List Entry) (by : ℕ) (few : length (known_sets b.site history) ≤ most_sets) where
  abbrev h : Point
  h = point_of b history

  abbrev Says : What → Type 0
  Says what = IsSaid b.site history by what

  limits_said : (name : ItemName) (new : NewLimits) (w : What) → set_limits_answer h name new ≡ gives w → IsPersistent w → Says w
  limits_said name new w e lasts =
      let a = next_gives (item_at b.site.definitions.telemetry name) (λ (at : ItemAt). of_item at) w e in
      let n = next_gives (limits_at h a.0 h.set) (λ (now : LimitsUsed). of_now a.0 now) w a.2 in
      let s = next_gives (new_set new.set) (λ (set : List ℕ). of_set a.0 n.0 set) w n.2 in
      let o = check_gives _ _ _ (of_order a.0 n.0 s.0) w s.2 in
      let f = check_gives _ _ _ (gives (made a.0 n.0 s.0)) w o.1 in
      let is : made a.0 n.0 s.0 ≡ w = given (made a.0 n.0 s.0) w f.1 in
      let used : limits_of b.site a.0.packet a.0.item h.set history ≡ Some n.0 = or_gives _ _ (limits_of b.site a.0.packet a.0.item h.set history) n.0 n.1 in
      subst Says is (limits_there b.site a.0.packet a.0.item h.set history n.0 used, subst IsPersistent (sym is) lasts, sets_fit (known_sets b.site history) s.0 (is_among (known_sets b.site history) s.0) few refl (ap (λ (known : Bool). known || nat_lt h.sets most_sets) (set_known_is b.site history s.0) ∙ f.0))
    where
      made : ItemAt → LimitsUsed → List ℕ → What
      made at now set = SetLimits new.enabled at.packet at.item (or_else now.persistence new.persistence) set new.limits

      of_order : ItemAt → LimitsUsed → List ℕ → Said What
      of_order at now set = check (h.is_known set || nat_lt h.sets most_sets) (not_done (codes "Too many sets")) (gives (made at now set))

      of_set : ItemAt → LimitsUsed → List ℕ → Said What
      of_set at now set = check (are_in_order new.limits) (not_done (codes "Limits order")) (of_order at now set)

      of_now : ItemAt → LimitsUsed → Said What
      of_now at now = next (new_set new.set) (λ (set : List ℕ). of_set at now set)

      of_item : ItemAt → Said What
      of_item at = next (limits_at h at h.set) (λ (now : LimitsUsed). of_now at now)

  enabling_said : (on : Bool) (name : ItemName) (w : What) → enable_answer h on name ≡ gives w → Says w
  enabling_said on name w e =
      let a = next_gives (item_at b.site.definitions.telemetry name) (λ (at : ItemAt). of_item at) w e in
      let c = check_gives _ _ _ (gives (Enable a.0.packet a.0.item on)) w a.2 in
      let there = item_there b.site.definitions.telemetry name a.0 a.1 in
      let here : item_in b.site a.0.packet a.0.item ≡ Some a.0.it = ap (option_and_then (λ (p : PacketData). slice_get p.items a.0.item)) there.0 ∙ there.1 in
      subst Says (given (Enable a.0.packet a.0.item on) w c.1) (ap (λ (o : Option ItemData). has_limits o || has_colors o) here ∙ c.0)
    where
      of_item : ItemAt → Said What
      of_item at = check (is_watched at.it) (no_such (codes "No limits")) (gives (Enable at.packet at.item on))

  choice_said : (name : List ℕ) (w : What) → choose_answer h name ≡ gives w → Says w
  choice_said name w e =
      let n = next_gives (known_set h name) (λ (s : List ℕ). gives (LimitsSetIs s)) w e in
      subst Says (given (LimitsSetIs n.0) w n.2) tt

  -- the command of a request at which no check fails is there
  command_there : (k : Checks) (r : Request) (c : ℕ × PacketData) → sound_request b.site k r ≡ gives c → (built b.site.definitions r).command < length b.site.definitions.commands
  command_there k r c e =
      let n = none_refused (refusal b.site.definitions r k) (given_or (not_done (codes "Unknown command")) (first_with (is_named r.target r.command) b.site.definitions.commands)) c e in
      let f = first_there (is_named r.target r.command) b.site.definitions.commands c (or_gives _ _ (first_with (is_named r.target r.command) b.site.definitions.commands) c n.1) in
      let same : (built b.site.definitions r).command ≡ c.0 = ap (λ (o : Option ℕ). unwrap_or o 0) f.0 in
      let within = slice_get_within b.site.definitions.commands c.0 c.1 f.1 in
      omega (arith, same, within)

  -- what is posted of what is given is said
  abbrev AllSaid : Posting → Type 0
  AllSaid p = (what : What) → posted h p ≡ what ∷ [] → Says what

  head_is : (w what : What) → w ∷ [] ≡ what ∷ [] → w ≡ what
  head_is w what e = ap first_of e where
    first_of : List What → What
    first_of [] = w
    first_of (x ∷ xs) = x

  nothing_said : AllSaid posts_nothing
  nothing_said what e = absurd (cc e)

  told_said : (said : Said Data) (d : Done) → told said ≡ gives d → AllSaid d.posting
  told_said said d e = subst AllSaid (sym (told_posts said d e)) nothing_said

  appended_said : (said : Said What) (d : Done) → ((w : What) → said ≡ gives w → Says w) → appended said ≡ gives d → AllSaid d.posting
  appended_said said d says e =
      let a = appended_posts said d e in
      subst AllSaid (sym a.2) (λ what same. subst Says (head_is a.0 what same) (says a.0 a.1))

  new_limits_said : (name : ItemName) (new : NewLimits) (d : Done) (what : What) → appended (set_limits_answer h name new) ≡ gives d → posted h d.posting ≡ what ∷ [] → IsPersistent what → Says what
  new_limits_said name new d what e same lasts =
      let a = appended_posts (set_limits_answer h name new) d e in
      let is : a.0 ≡ what = head_is a.0 what (ap (posted h) (sym a.2) ∙ same) in
      subst Says is (limits_said name new a.0 a.1 (subst IsPersistent (sym is) lasts))

  request_said : (k : Checks) (r : Request) (d : Done) → request_answer h k r ≡ gives d → AllSaid d.posting
  request_said k r d e =
      let c = next_gives (sound_request b.site k r) (λ (x : ℕ × PacketData). of_command x) d e in
      let i = next_gives (routed b.site (h.route c.0.0)) (λ (n : ℕ). of_route c.0 n) d c.2 in
      let p : posts_command i.0 r ≡ d.posting = ap (λ (x : Done). x.posting) (given _ d i.2) in
      subst AllSaid p (λ what same. subst Says (head_is (Command i.0 (built b.site.definitions r).command (built b.site.definitions r).bytes) what same) (command_there k r c.0 c.1))
    where
      of_route : ℕ × PacketData → ℕ → Said Done
      of_route x n = gives (record { result = command_row x.1 r; posting = posts_command n r })

      of_command : ℕ × PacketData → Said Done
      of_command x = next (routed b.site (h.route x.0)) (λ (n : ℕ). of_route x n)

  command_said : (k : Checks) (o : Option Request) (d : Done) → command_answer h k o ≡ gives d → AllSaid d.posting
  command_said k None d e = absurd (cc e)
  command_said k (Some r) d e = request_said k r d e

  injection_refused : {A : Type 0} (why : Refused) (a : A) → injection_said {A = A} why ≡ gives a → ⊥
  injection_refused UnknownTarget a e = cc e
  injection_refused UnknownCommand a e = cc e
  injection_refused (UnknownParameter name) a e = cc e
  injection_refused (Twice name) a e = cc e
  injection_refused (Missing name) a e = cc e
  injection_refused (WrongType name) a e = cc e
  injection_refused (UnknownState name) a e = cc e
  injection_refused (OutOfRange name value min max) a e = cc e
  injection_refused (Overflow name) a e = cc e
  injection_refused Hazardous a e = cc e
  injection_refused Memory a e = cc e

  injected_said : (name : PacketName) (members : List (List ℕ × Given)) (d : Done) → inject_answer h name members ≡ gives d → AllSaid d.posting
  injected_said name members d e =
      let p = next_gives (packet_at b.site.definitions.telemetry name) (λ (x : ℕ × PacketData). of_packet x) d e in
      let there = packet_there b.site.definitions.telemetry name p.0 p.1 in
      by_refusal p.0 (slice_get_within b.site.definitions.telemetry p.0.0 p.0.1 there) (injection_refusal p.0.1.items members) p.2
    where
      done : ℕ × PacketData → Done
      done x = record { result = null; posting = posts_injected x.0 x.1 members }

      of_packet : ℕ × PacketData → Said Done
      of_packet x = or_injection_refused (injection_refusal x.1.items members) (gives (done x))

      by_refusal : (x : ℕ × PacketData) → x.0 < length b.site.definitions.telemetry → (o : Option Refused) → or_injection_refused o (gives (done x)) ≡ gives d → AllSaid d.posting
      by_refusal x within (Some why) given_it = absurd (injection_refused why d given_it)
      by_refusal x within None given_it =
          let is : posts_injected x.0 x.1 members ≡ d.posting = ap (λ (y : Done). y.posting) (given (done x) d given_it) in
          subst AllSaid is (λ what same. subst Says (head_is _ what same) within)

  stop_said : (stopped : Bool) (d : Done) → (if stopped then told (gives null) else appended (gives Stop)) ≡ gives d → AllSaid d.posting
  stop_said true d e = told_said (gives null) d e
  stop_said false d e = appended_said (gives Stop) d (λ w is. subst Says (given Stop w is) tt) e

  -- new limits have to persist, and all else is said as it is
  abbrev pub Lasts : Asking → What → Type 0
  Lasts (sets_limits name new) what = IsPersistent what
  Lasts _ what = Unit {0}

  pub all_said : (r : Option Request) (a : Asking) (d : Done) (what : What) → answer h r a ≡ gives d → posted h d.posting ≡ what ∷ [] → Lasts a what → Says what
  all_said r (asks_value kind name) d what e same lasts = told_said (value_answer h kind name) d e what same
  all_said r (asks_packet p kind) d what e same lasts = told_said (packet_answer h p kind) d e what same
  all_said r (asks_received p) d what e same lasts = told_said (received_answer h p) d e what same
  all_said r (asks_sent p) d what e same lasts = told_said (sent_answer h p) d e what same
  all_said r (sends k order) d what e same lasts = command_said k r d e what same
  all_said r (asks_limits name set) d what e same lasts = told_said (limits_answer h name set) d e what same
  all_said r (sets_limits name new) d what e same lasts = new_limits_said name new d what e same lasts
  all_said r (enables on name) d what e same lasts = appended_said (enable_answer h on name) d (λ w is. enabling_said on name w is) e what same
  all_said r asks_set d what e same lasts = told_said (limits_set_answer h) d e what same
  all_said r (chooses_set name) d what e same lasts = appended_said (choose_answer h name) d (λ w is. choice_said name w is) e what same
  all_said r asks_out_of_limits d what e same lasts = told_said (out_of_limits_answer h) d e what same
  all_said r (asks_events from) d what e same lasts = told_said (events_answer h from) d e what same
  all_said r asks_interfaces d what e same lasts = told_said (interfaces_answer h) d e what same
  all_said r (asks_interface name) d what e same lasts = told_said (interface_answer h name) d e what same
  all_said r (injects name members) d what e same lasts = injected_said name (members_given members) d e what same
  all_said r stops d what e same lasts = stop_said h.stopped d e what same
