-- The commands of a rehearsal are sent.
use Rattle.std.proofs.Common.{pos, ◌≡◌, ◌∙◌, ℕ, ◌≤◌, true, List, [], ◌∷◌, Some, None, Ok, codes, refl, ap, inl, inr, arith}
use Rattle.std.specs.Prelude.{slice_get, option_and_then}
use Rattle.cts_methods.specs.Asking.{in_text}
use Rattle.cts_api.specs.Made.{built}
use Rattle.cts_cmd.specs.Checks.{refusal, refusal_among}
use Rattle.cts_cmd.specs.declared.refused.Refused.TheVariants.{OutOfRange}
use Rattle.cts_cmd.specs.declared.request.Request.{Request}
use Rattle.cts_def.specs.Packets.{PacketData}
use Rattle.cts_def.specs.Sites.{InterfaceData, SiteData}
use Rattle.cts_entry.specs.Histories.{is_connected}
use Rattle.cts_entry.specs.Workers.{interface_with}
use Rattle.cts_entry.specs.declared.entry.Entry.{Entry}
use Rattle.cts_entry.specs.declared.event.Event.TheVariants.{Call}
use Rattle.cts_table.specs.Routes.{route_of, route_to}
use Rattle.cts_core.specs.Environments.{basis_of, site_environment}
use Rattle.cts_core.specs.Runs.{Did, Does, Finished}
use Rattle.cts_core.specs.Sendings.{FailsACheck, HasNoRoom, HasNoRoute, IsJudged, IsJudgedOrder, IsRefused, command_entry}
use Rattle.cts_core.specs.States.{State}
use Rattle.cts_core_laws.proofs.Judging.{run_judged}
use Rattle.cts_rehearsal.specs.Generated.{order}
use Rattle.cts_rehearsal_laws.specs.Demo.{HasDemoCommand, collect}
use Rattle.cts_rehearsal_laws.specs.Orders.{all_checks, order_request, order_text}
use Rattle.cts_rehearsal_laws.specs.Sent.{MaySend, OrdersAreChecked, OrdersAreSent, RefusedOrdersLeaveNothing}
use Rattle.cts_rehearsal_laws.proofs.Asked.{orders_ask_for}
use Rattle.cts_rehearsal_laws.proofs.Cases.{at_most_11}
use Rattle.cts_rehearsal_laws.proofs.Requested.{orders_request}

-- ---- checks

abbrev Passes : ℕ → Type 0
Passes v = v ≤ 10 → refusal_among (collect ∷ []) (order_request v) all_checks ≡ None

passes : (v : ℕ) → v ≤ 11 → Passes v
passes = at_most_11 Passes (λ h. refl) (λ h. refl) (λ h. refl) (λ h. refl) (λ h. refl) (λ h. refl) (λ h. refl) (λ h. refl) (λ h. refl) (λ h. refl) (λ h. refl) (λ h. absurd (omega (arith, h)))

none_refused : (site : SiteData) → HasDemoCommand site → (v : ℕ) → v ≤ 10 → refusal site.definitions (order_request v) all_checks ≡ None
none_refused site demo v low = ap (λ (cs : List PacketData). refusal_among cs (order_request v) all_checks) demo.commands ∙ passes v (omega (arith, low)) low

pub orders_are_checked : OrdersAreChecked
orders_are_checked site demo =
    (none_refused site demo, ap (λ (cs : List PacketData). refusal_among cs (order_request 11) all_checks) demo.commands ∙ refl)

-- ---- the route

interface_found : (commands : List PacketData) (interfaces : List InterfaceData) (first second : InterfaceData) → commands ≡ collect ∷ [] → interfaces ≡ first ∷ second ∷ [] → first.targets ≡ codes "INST" ∷ []
    → option_and_then (λ (p : PacketData). interface_with interfaces p.target) (slice_get commands 0) ≡ Some 0
interface_found commands interfaces first second ec ei et = rw (ec, ei, et) refl

is_collect : (commands : List PacketData) (v : ℕ) (site : SiteData) → site.definitions.commands ≡ collect ∷ [] → (built site.definitions (order_request v)).command ≡ 0
is_collect commands v site e = rw e refl

pub routed : (site : SiteData) → HasDemoCommand site → (history : List Entry) (v : ℕ) → is_connected 0 history ≡ true → route_of site history (built site.definitions (order_request v)).command ≡ Ok 0
routed site demo history v connected =
    ap (route_of site history) (is_collect site.definitions.commands v site demo.commands)
    ∙ (ap (route_to history) (interface_found site.definitions.commands site.interfaces demo.first demo.second demo.commands demo.interfaces demo.targets)
    ∙ rw connected refl)

-- ---- sending

module _ (site : SiteData) (demo : HasDemoCommand site) (s : State) (v : ℕ) (low : v ≤ 10) (may : MaySend site s v) where
  abbrev r : Request
  r = order_request v

  checks_pass : FailsACheck site all_checks r → ⊥
  checks_pass failed = let none = none_refused site demo v low in let some = failed.1 in cc

  has_route : HasNoRoute site s.history (built site.definitions r) → ⊥
  has_route lost = let there = routed site demo s.history v may.connected in let err = lost.1 in cc

  has_room : HasNoRoom (basis_of site) s.history (built site.definitions r) → ⊥
  has_room full = let room = may.room in cc

  not_refused : IsRefused (basis_of site) s.history all_checks r → ⊥
  not_refused (inl failed) = checks_pass failed
  not_refused (inr (inl lost)) = has_route lost
  not_refused (inr (inr full)) = has_room full

  pub sent : (did : Did) → Does (site_environment site) s (Call 0 (order v)) did → did.entries ≡ command_entry site s 0 0 r ∷ []
  sent did does =
      let below : v ≤ 11 = omega (arith, low) in
      let judged = run_judged site s (Call 0 (order v) ∷ []) (did ∷ []) Finished (inr (did, [], refl, does, (refl, refl))) in
      let order_judged : IsJudgedOrder site s 0 all_checks (in_text (order_text v)) did = judged.0.0 all_checks (in_text (order_text v)) (orders_ask_for v below) in
      let request_judged : IsJudged site s 0 all_checks r did = order_judged.request r (orders_request v below) in
      let is_sent = request_judged.sent not_refused in
      let there = routed site demo s.history v may.connected in
      let same : is_sent.0 ≡ 0 = (let to = is_sent.1 in cc) in
      is_sent.2 ∙ ap (λ (interface : ℕ). command_entry site s 0 interface r ∷ []) same

pub orders_are_sent : OrdersAreSent
orders_are_sent site demo s v did low may does = sent site demo s v low may did does

-- ---- a command that is out of range

pub refused_order_leaves_nothing : RefusedOrdersLeaveNothing
refused_order_leaves_nothing site demo s did does =
    let judged = run_judged site s (Call 0 (order 11) ∷ []) (did ∷ []) Finished (inr (did, [], refl, does, (refl, refl))) in
    let order_judged : IsJudgedOrder site s 0 all_checks (in_text (order_text 11)) did = judged.0.0 all_checks (in_text (order_text 11)) (orders_ask_for 11 (omega arith)) in
    let request_judged : IsJudged site s 0 all_checks (order_request 11) did = order_judged.request (order_request 11) (orders_request 11 (omega arith)) in
    let fails : FailsACheck site all_checks (order_request 11) = (OutOfRange (codes "DURATION") (pos 11) (pos 0) (pos 10), (orders_are_checked site demo).1) in
    request_judged.refused.1 (inl fails)
