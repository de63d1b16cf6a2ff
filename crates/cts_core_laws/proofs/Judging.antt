-- In a run a command is sent or refused, and refused exactly where something stands against it.
use Rattle.std.proofs.Common.{◌≡◌, ◌⊎◌, ℕ, ◌+◌, Bool, true, false, List, [], ◌∷◌, length, Option, Some, None, Result, Ok, Err, codes, refl, sym, ◌∙◌, ap, subst, arith, inl, inr, unwrap_or}
use Rattle.std.specs.Prelude.{◌&&◌, if◌then◌else◌, nat_le, option_and_then, option_map, slice_get}
use Rattle.std.specs.List.{find, list_any, position, position_or_len}
use Rattle.std.proofs.lemmas.List.Folds.{find_at}
use Rattle.std.proofs.lemmas.List.Sums.{sum_by-cons}
use Rattle.std.proofs.lemmas.Option.{slice_get_within}
use Rattle.cts_api.specs.Answers.{Done, answer, command_row, given_or, next, numbered, or_refused, posts_command, request_answer, routed}
use Rattle.cts_methods.specs.Asking.{Asking, Order, sends}
use Rattle.cts_api.specs.Saying.{Said, gives}
use Rattle.cts_methods.specs.Kinds.{listed}
use Rattle.cts_api.specs.Made.{built}
use Rattle.cts_api.specs.Points.{Point, point_of}
use Rattle.cts_api.specs.Replies.{IsReply, IsReplyFor, IsReplyOf, IsReplyTo, IsRequested, Reply as Answer, done_reply, fit, history_full, made, said_to}
use Rattle.cts_api.specs.Shown.{not_done}
use Rattle.cts_methods.specs.Methods.{method_named, params_of}
use Rattle.cts_api.proofs.OneReply.{requested_one}
use Rattle.cts_cmd.specs.Checks.{has_target, refusal, refusal_at}
use Rattle.cts_cmd.specs.declared.built.Built.{Built}
use Rattle.cts_cmd.specs.declared.refused.Refused.{Refused}
use Rattle.cts_cmd.specs.declared.refused.Refused.TheVariants.{UnknownTarget}
use Rattle.cts_cmd.specs.declared.request.Checks.{Checks}
use Rattle.cts_cmd.specs.declared.request.Request.{Request}
use Rattle.cts_def.specs.Makers.{first_desk}
use Rattle.cts_def.specs.Packets.{PacketData, is_named}
use Rattle.cts_def.specs.Sites.{SiteData}
use Rattle.cts_def.specs.declared.time.Time.{Time}
use Rattle.cts_entry.specs.Histories.{bytes_for, bytes_in, entries_in}
use Rattle.cts_entry.specs.declared.entry.Entry.{Entry}
use Rattle.cts_entry.specs.declared.event.Event.{Event}
use Rattle.cts_entry.specs.declared.event.Event.TheVariants.{SetTime, Opens, Piece, Finish, Write, Call, DrainLog, DrainSlot, Stop}
use Rattle.cts_entry.specs.declared.what.What.TheVariants.{Command}
use Rattle.cts_rpc.specs.Requests.{Outcome, calls}
use Rattle.cts_rpc.proofs.Whole.{outcome_is_one}
use Rattle.cts_table.specs.Routes.{route_of}
use Rattle.cts_table.specs.declared.basis.Basis.{Basis}
use Rattle.cts_table.specs.declared.fault.NoRoute.{NoRoute}
use Rattle.cts_table.specs.declared.fault.NoRoute.TheVariants.{NoInterface, NotConnected}
use Rattle.serde_json.specs.Data.{Data}
use Rattle.cts_core.specs.Environments.{basis_of, site_environment}
use Rattle.cts_table.specs.States.{is_within}
use Rattle.cts_core.specs.Runs.{Did, Does, Runs, after}
use Rattle.cts_core.specs.Sendings.{AsksFor, AsksForNone, IsJudged, IsJudgedEvent, IsJudgedOrder, IsRefused, command_entry}
use Rattle.cts_core.specs.States.{State}
use Rattle.cts_core_laws.specs.Laws.{CommandsAreJudged}
use Rattle.cts_core.proofs.Building.{below}

-- ---- a request that no check refuses names a command

named_by : (r : Request) (k : Checks) (target : Bool) (found : Option PacketData) → (if target then refusal_at found r k else Some UnknownTarget) ≡ None → (p : PacketData) × (found ≡ Some p)
named_by r k true None e = absurd (cc e)
named_by r k true (Some p) e = (p, refl)
named_by r k false found e = absurd (cc e)

module _ (test : PacketData → Bool) (commands : List PacketData) (p : PacketData) (found : find test commands ≡ Some p) where
  at_place : slice_get commands (position_or_len test commands) ≡ Some p
  at_place = sym (find_at test commands) ∙ found

  place_is : position test commands ≡ Some (position_or_len test commands)
  place_is =
      let within = slice_get_within commands (position_or_len test commands) p at_place in
      ap (λ (b : Bool). if b then Some (position_or_len test commands) else None) (below (position_or_len test commands) (length commands) within)

-- ---- what a desk replies to a request

module _ (b : Basis) (history : List Entry) (by : ℕ) (time : Time) (id : Option Data) (k : Checks) (r : Request) where
  abbrev h : Point
  h = point_of b history

  -- the command that is built of it, among these
  abbrev c : Built
  c = built b.site.definitions r

  abbrev commands : List PacketData
  commands = b.site.definitions.commands

  abbrev test : PacketData → Bool
  test = is_named r.target r.command

  abbrev entry : ℕ → Entry
  entry interface = made by time (Command interface c.command c.bytes)

  abbrev Sends : Answer → Type 0
  Sends a = (interface : ℕ) × (route_of b.site history c.command ≡ Ok interface) × (a.entries ≡ entry interface ∷ [])

  -- what stands against it
  abbrev Against : Type 0
  Against = IsRefused b history k r

  abbrev Judges : Answer → Type 0
  Judges a = (Against × (a.entries ≡ [])) ⊎ ((Against → ⊥) × Sends a)

  abbrev sends_to : ℕ × PacketData → ℕ → Said Done
  sends_to p i = gives (record { result = command_row p.1 r; posting = posts_command i r })

  abbrev behind : ℕ × PacketData → Said Done
  behind p = next (routed b.site (h.route p.0)) (sends_to p)

  fit_is : (i : ℕ) → fit h (entry i ∷ []) ≡ is_within b history 1 (length c.bytes)
  fit_is i =
      let one : bytes_in (entry i ∷ []) ≡ length c.bytes + bytes_in [] = sum_by-cons (λ (e : Entry). bytes_for e.what) (entry i) [] in
      let size : bytes_in (entry i ∷ []) ≡ length c.bytes = omega (arith, one) in
      ap (λ (n : ℕ). nat_le (entries_in history + 1) b.entries && nat_le (bytes_in history + n) b.bytes) size

  free : (i : ℕ) → refusal b.site.definitions r k ≡ None → route_of b.site history c.command ≡ Ok i → is_within b history 1 (length c.bytes) ≡ true → Against → ⊥
  free i none way fits (inl fails) = let told = fails.1 in cc
  free i none way fits (inr (inl lost)) = let there = lost.1 in cc
  free i none way fits (inr (inr full)) = cc

  fits_judged : (p : PacketData) (i : ℕ) (fits : Bool) → refusal b.site.definitions r k ≡ None → route_of b.site history c.command ≡ Ok i → fit h (entry i ∷ []) ≡ fits
      → Judges (if fits then done_reply id (command_row p r) (entry i ∷ []) else history_full id)
  fits_judged p i false none way fits = inl (inr (inr (sym (fit_is i) ∙ fits)), refl)
  fits_judged p i true none way fits = inr (free i none way (sym (fit_is i) ∙ fits), (i, way, refl))

  route_judged : (n : ℕ) (p : PacketData) (way : Result ℕ NoRoute) → refusal b.site.definitions r k ≡ None → c.command ≡ n → h.route n ≡ way → Judges (said_to h by time id (next (routed b.site way) (sends_to (n, p))))
  route_judged n p (Ok i) none at w = fits_judged p i (fit h (entry i ∷ [])) none (ap h.route at ∙ w) refl
  route_judged n p (Err NoInterface) none at w = inl (inr (inl (NoInterface, ap h.route at ∙ w)), refl)
  route_judged n p (Err (NotConnected j)) none at w = inl (inr (inl (NotConnected j, ap h.route at ∙ w)), refl)

  named_judged : (p : PacketData) → refusal b.site.definitions r k ≡ None → find test commands ≡ Some p
      → Judges (said_to h by time id (next (given_or (not_done (codes "Unknown command")) (numbered commands (position test commands))) behind))
  named_judged p none found =
      let n : ℕ = position_or_len test commands in
      let place : position test commands ≡ Some n = place_is test commands p found in
      let first : numbered commands (position test commands) ≡ Some (n, p) = ap (numbered commands) place ∙ ap (option_map (λ (a : PacketData). (n, a))) (at_place test commands p found) in
      subst (λ (x : Option (ℕ × PacketData)). Judges (said_to h by time id (next (given_or (not_done (codes "Unknown command")) x) behind))) (sym first)
      (route_judged n p (h.route n) none (ap (λ (o : Option ℕ). unwrap_or o 0) place) refl)

  checked_judged : (o : Option Refused) → refusal b.site.definitions r k ≡ o
      → Judges (said_to h by time id (next (or_refused o (given_or (not_done (codes "Unknown command")) (numbered commands (position test commands)))) behind))
  checked_judged (Some e) is = inl (inl (e, is), refl)
  checked_judged None is = let p = named_by r k (list_any (has_target r.target) commands) (find test commands) is in named_judged p.0 is p.1

  request_judged : Judges (said_to h by time id (request_answer h k r))
  request_judged = checked_judged (refusal b.site.definitions r k) refl

-- ---- calls

-- what comes of a value in two steps comes of one between
known_by : {A B : Type 0} (f : A → Option B) (o : Option A) (b : B) → option_and_then f o ≡ Some b → (a : A) × (o ≡ Some a) × (f a ≡ Some b)
known_by f None b e = absurd (cc e)
known_by f (Some a) b e = (a, refl, e)

module _ (site : SiteData) (s : State) (desk : ℕ) (body : List ℕ) (did : Did) (a : Answer) (entries : did.entries ≡ a.entries) (is : IsReply (point_of (basis_of site) s.history) (first_desk + desk) s.time body a) where
  abbrev here : Point
  here = point_of (basis_of site) s.history

  -- the reply to what is asked
  abbrev Replies : Option Data → Checks → Order → Type 0
  Replies id checks order = (r : Option Request) × IsRequested order r × (a ≡ said_to here (first_desk + desk) s.time id (answer here r (sends checks order)))

  asked_reply : (checks : Checks) (order : Order) (x : AsksFor body checks order) → Replies x.id checks order
  asked_reply checks order x =
      let same : is.0 ≡ calls x.method x.params x.id = outcome_is_one body is.0 (calls x.method x.params x.id) is.1 x.calls_it in
      let one = subst (λ (q : Outcome). IsReplyFor here (first_desk + desk) s.time q a) same is.2 in
      let known = known_by (λ m. params_of m (listed x.params)) (method_named x.method) (sends checks order) x.sends_it in
      let two = subst (λ m. IsReplyOf here (first_desk + desk) s.time x.id (listed x.params) m a) known.1 one in
      let three = subst (λ (q : Option Asking). IsReplyTo here (first_desk + desk) s.time x.id q a) known.2 two in
      (three.0, three.1, three.2)

  judged_by : (id : Option Data) (k : Checks) (r : Request) → Judges (basis_of site) s.history (first_desk + desk) s.time id k r a → IsJudged site s desk k r did
  judged_by id k r (inl j) = record {
    refused = (λ none. j.0, λ refused. entries ∙ j.1);
    sent = λ fine. absurd (fine j.0);
  }
  judged_by id k r (inr j) =
      let some : did.entries ≡ command_entry site s desk j.1.0 r ∷ [] = entries ∙ j.1.2 in
      record {
        refused = (λ none. absurd (let one = some in cc), λ refused. absurd (j.0 refused));
        sent = λ fine. (j.1.0, j.1.1, some);
      }

  order_judged : (checks : Checks) (order : Order) → AsksFor body checks order → IsJudgedOrder site s desk checks order did
  order_judged checks order x =
      let y = asked_reply checks order x in
      let said : Option Request → Answer = λ (o : Option Request). said_to here (first_desk + desk) s.time x.id (answer here o (sends checks order)) in
      record {
        request = λ r asks.
            let told : a ≡ said (Some r) = y.2 ∙ ap said (requested_one order y.0 (Some r) y.1 asks) in
            judged_by x.id checks r (subst (Judges (basis_of site) s.history (first_desk + desk) s.time x.id checks r) (sym told) (request_judged (basis_of site) s.history (first_desk + desk) s.time x.id checks r));
        none = λ asks.
            let told : a ≡ said None = y.2 ∙ ap said (requested_one order y.0 None y.1 asks) in
            entries ∙ ap (λ (z : Answer). z.entries) told;
      }

  none_judged : AsksForNone body → did.entries ≡ []
  none_judged x =
      let same : is.0 ≡ calls x.method x.params x.id = outcome_is_one body is.0 (calls x.method x.params x.id) is.1 x.calls_it in
      let one = subst (λ (q : Outcome). IsReplyFor here (first_desk + desk) s.time q a) same is.2 in
      entries ∙ nothing_asked (listed x.params) x.id (method_named x.method) x.none one
    where
      nothing_asked : (params : List Data) (id : Option Data) (m : Option _) → option_and_then (λ k. params_of k params) m ≡ None → IsReplyOf here (first_desk + desk) s.time id params m a → a.entries ≡ []
      nothing_asked params id None e r = ap (λ (z : Answer). z.entries) r
      nothing_asked params id (Some k) e r = ap (λ (z : Answer). z.entries) (subst (λ (q : Option Asking). IsReplyTo here (first_desk + desk) s.time id q a) e r)

pub event_judged : (site : SiteData) (s : State) (event : Event) (did : Did) → Does (site_environment site) s event did → IsJudgedEvent site s event did
event_judged site s (SetTime time) did d = tt
event_judged site s (Opens by) did d = tt
event_judged site s (Piece by piece) did d = tt
event_judged site s (Finish by why) did d = tt
event_judged site s (Write by count) did d = tt
event_judged site s (Call desk body) did d = (order_judged site s desk body did d.answer d.appends d.answered, none_judged site s desk body did d.answer d.appends d.answered)
event_judged site s (DrainLog count) did d = tt
event_judged site s (DrainSlot by count) did d = tt
event_judged site s Stop did d = tt

pub run_judged : CommandsAreJudged
run_judged site s [] dids ending h = tt
run_judged site s (event ∷ events) [] ending h = tt
run_judged site s (event ∷ events) (did ∷ dids) ending (inl h) = absurd (let none = h.0 in cc)
run_judged site s (event ∷ events) (did ∷ dids) ending (inr h) =
    let head : did ≡ h.0 = ap (first_or did) h.2 in
    let tail : dids ≡ h.1 = ap rest_of h.2 in
    let d : Does (site_environment site) s event did = subst (Does (site_environment site) s event) (sym head) h.3 in
    let more = subst (λ (x : Did). Runs (site_environment site) (after s event x) events h.1 ending) (sym head) h.4 in
    (event_judged site s event did d, run_judged site (after s event did) events dids ending (subst (λ (l : List Did). Runs (site_environment site) (after s event did) events l ending) (sym tail) more))
  where
    first_or : Did → List Did → Did
    first_or d [] = d
    first_or d (x ∷ xs) = x

    rest_of : List Did → List Did
    rest_of [] = []
    rest_of (x ∷ xs) = xs
