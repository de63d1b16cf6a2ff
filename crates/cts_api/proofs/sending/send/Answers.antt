use Rattle.std.proofs.Common.{rules, ◌≡◌, ◌<◌, ℕ, List, Some, length, refl, subst}
use Rattle.std.specs.Prelude.{slice_get}
use Rattle.std.proofs.lemmas.Option.{slice_get_read}
use Rattle.serde_json.specs.View.{view}
use Rattle.cts_def.specs.Packets.{PacketData}
use Rattle.cts_api.specs.Telling.{point}
use Rattle.cts_api.proofs.Sent.{is_sent}
use Rattle.cts_api.proofs.sending.send.Goals as goal

pub returns : goal.returns
returns c =
    let commands = c.as_slice-commands.result.now in
    let place : ℕ = c.in_ok-built.built.command in
    let within : place < length commands = search rules in
    let here : slice_get commands place ≡ Some c.in-Some.packet.now = slice_get_read commands (length commands) place c.in-Some.packet.now refl within c.in-Some.ensures.lookup.1 in
    let same : commands ≡ c.args.hall.now.basis.site.definitions.commands = search rules in
    let there = subst (λ (l : List PacketData). slice_get l place ≡ Some c.in-Some.packet.now) same here in
    is_sent (point c.args.hall.now) c.args.checks c.args.request.now c.in_ok-built.built c.in-Some.packet.now c.in_ok-interface.interface (view c.in_ok-result.result)
    c.in_ok-built.ensures.0 c.in_ok-built.ensures.1 there c.in_ok-interface.ensures c.in_ok-result.ensures
