use Rattle.std.proofs.Common.{rules, ◌≡◌, ◌∙◌, ℕ, List, Option, None, subst}
use Rattle.std.specs.Prelude.{option_map}
use Rattle.std.specs.List.{filter_map}
use Rattle.serde_json.specs.View.{members_view, view}
use Rattle.cts_cmd.specs.Injects.{Injects, injection_refusal, stood, with_item}
use Rattle.cts_cmd.specs.declared.request.Given.{Given}
use Rattle.cts_api.specs.Answers.{packet_at}
use Rattle.cts_api.specs.Saying.{gives}
use Rattle.cts_methods.specs.Kinds.{members_given}
use Rattle.cts_methods.specs.Seen.{packet_name}
use Rattle.cts_api.specs.Telling.{point}
use Rattle.cts_api.proofs.Injected.{is_injected}
use Rattle.cts_api.proofs.injecting.injection.Goals as goal

pub returns-in-Ok : goal.returns-in-Ok
returns-in-Ok c =
    let h = point c.args.hall.now in
    let n : ℕ = c.in_ok-number.number in
    let p = c.in_ok-number.packet.now in
    let members : List (List ℕ × Given) = members_given (members_view c.args.members.now.entries) in
    let given : c.as_slice-2.result.now ≡ members = search rules in
    let named : packet_at h.site.definitions.telemetry (packet_name c.args.names) ≡ gives (n, p) = search rules in
    let here : option_map (λ t. t.now) c.current-current.result ≡ h.current n = search rules in
    let over = subst (λ (l : List (List ℕ × Given)). Injects (filter_map (with_item p.items) l) (stood (option_map (λ t. t.now) c.current-current.result) p.length) c.in-Ok.bytes) given c.in-Ok.ensures.injected in
    is_injected h (packet_name c.args.names) members (n, p) c.in-Ok.bytes (view c.nothing.result) named
    (subst (λ (l : List (List ℕ × Given)). injection_refusal p.items l ≡ None) given c.in-Ok.ensures.refused)
    (λ bytes is. c.recall_current_bytes.ensures bytes (here ∙ is))
    (subst (λ (o : Option (List ℕ)). Injects (filter_map (with_item p.items) members) (stood o p.length) c.in-Ok.bytes) here over) c.nothing.ensures
