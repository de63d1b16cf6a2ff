use Rattle.std.proofs.Common.{refl, sym, subst}
use Rattle.std.specs.Prelude.{option_map}
use Rattle.serde_json.specs.View.{members_view}
use Rattle.cts_api.specs.Answers.{choose_answer, enable_answer, events_answer, interface_answer, interfaces_answer, limits_answer, limits_set_answer, out_of_limits_answer, packet_answer, received_answer, sent_answer, value_answer}
use Rattle.cts_methods.specs.Asking.{asks_events, asks_interface, asks_interfaces, asks_limits, asks_out_of_limits, asks_packet, asks_received, asks_sent, asks_set, asks_value, chooses_set, enables, injects}
use Rattle.cts_methods.specs.Seen.{asking_data, item_name, packet_name}
use Rattle.cts_api.specs.Settling.{HasAnswered}
use Rattle.cts_api.specs.Telling.{point}
use Rattle.cts_api.proofs.Asked.{answered, free_answered}
use Rattle.cts_api.proofs.answering.asked.Goals as goal

pub returns-in-Value-clause-answered : goal.returns-in-Value-clause-answered
returns-in-Value-clause-answered g c =
    let h = point c.args.hall.now in
    let is = answered h (asks_value c.in-Value.kind (item_name c.in-Value.names)) c.told.result refl refl (c.told.ensures h (value_answer h c.in-Value.kind (item_name c.in-Value.names)) c.item_value.ensures.told) in
    subst (λ x. HasAnswered h (asking_data x) c.told.result) (sym c.in-Value.is) is

pub returns-in-Packet-clause-answered : goal.returns-in-Packet-clause-answered
returns-in-Packet-clause-answered g c =
    let h = point c.args.hall.now in
    let is = answered h (asks_packet (packet_name c.in-Packet.names) c.in-Packet.kind) c.told-in-Packet.result refl refl (c.told-in-Packet.ensures h (packet_answer h (packet_name c.in-Packet.names) c.in-Packet.kind) c.packet_values.ensures) in
    subst (λ x. HasAnswered h (asking_data x) c.told-in-Packet.result) (sym c.in-Packet.is) is

pub returns-in-Received-clause-answered : goal.returns-in-Received-clause-answered
returns-in-Received-clause-answered g c =
    let h = point c.args.hall.now in
    let is = free_answered h (asks_received (packet_name c.in-Received.names)) c.counted.result refl c.counted.ensures.free (c.counted.ensures.told h (received_answer h (packet_name c.in-Received.names)) c.packet_count.ensures) in
    subst (λ x. HasAnswered h (asking_data x) c.counted.result) (sym c.in-Received.is) is

pub returns-in-Sent-clause-answered : goal.returns-in-Sent-clause-answered
returns-in-Sent-clause-answered g c =
    let h = point c.args.hall.now in
    let is = free_answered h (asks_sent (packet_name c.in-Sent.names)) c.counted-in-Sent.result refl c.counted-in-Sent.ensures.free (c.counted-in-Sent.ensures.told h (sent_answer h (packet_name c.in-Sent.names)) c.command_count.ensures) in
    subst (λ x. HasAnswered h (asking_data x) c.counted-in-Sent.result) (sym c.in-Sent.is) is

pub returns-in-Limits-clause-answered : goal.returns-in-Limits-clause-answered
returns-in-Limits-clause-answered g c =
    let h = point c.args.hall.now in
    let is = answered h (asks_limits (item_name c.in-Limits.names) (option_map (λ t. t.now) c.in-Limits.set)) c.told-in-Limits.result refl refl (c.told-in-Limits.ensures h (limits_answer h (item_name c.in-Limits.names) (option_map (λ t. t.now) c.in-Limits.set)) c.item_limits.ensures) in
    subst (λ x. HasAnswered h (asking_data x) c.told-in-Limits.result) (sym c.in-Limits.is) is

pub returns-in-Enable-clause-answered : goal.returns-in-Enable-clause-answered
returns-in-Enable-clause-answered g c =
    let h = point c.args.hall.now in
    let is = free_answered h (enables c.in-Enable.on (item_name c.in-Enable.names)) c.switched.result refl c.switched.ensures.free (c.switched.ensures.told h (enable_answer h c.in-Enable.on (item_name c.in-Enable.names)) c.enable_limits.ensures.told) in
    subst (λ x. HasAnswered h (asking_data x) c.switched.result) (sym c.in-Enable.is) is

pub returns-in-Set-clause-answered : goal.returns-in-Set-clause-answered
returns-in-Set-clause-answered g c =
    let h = point c.args.hall.now in
    let is = answered h (asks_set) c.told-in-Set.result refl refl (c.told-in-Set.ensures h (limits_set_answer h) c.limits_set.ensures) in
    subst (λ x. HasAnswered h (asking_data x) c.told-in-Set.result) (sym c.in-Set.is) is

pub returns-in-ChooseSet-clause-answered : goal.returns-in-ChooseSet-clause-answered
returns-in-ChooseSet-clause-answered g c =
    let h = point c.args.hall.now in
    let is = answered h (chooses_set c.in-ChooseSet.name.now) c.appended.result refl refl (c.appended.ensures h (choose_answer h c.in-ChooseSet.name.now) c.choose_set.ensures.told) in
    subst (λ x. HasAnswered h (asking_data x) c.appended.result) (sym c.in-ChooseSet.is) is

pub returns-in-OutOfLimits-clause-answered : goal.returns-in-OutOfLimits-clause-answered
returns-in-OutOfLimits-clause-answered g c =
    let h = point c.args.hall.now in
    let is = answered h (asks_out_of_limits) c.told-in-OutOfLimits.result refl refl (c.told-in-OutOfLimits.ensures h (out_of_limits_answer h) c.out_of_limits.ensures) in
    subst (λ x. HasAnswered h (asking_data x) c.told-in-OutOfLimits.result) (sym c.in-OutOfLimits.is) is

pub returns-in-Events-clause-answered : goal.returns-in-Events-clause-answered
returns-in-Events-clause-answered g c =
    let h = point c.args.hall.now in
    let is = answered h (asks_events c.in-Events.from) c.told-in-Events.result refl refl (c.told-in-Events.ensures h (events_answer h c.in-Events.from) c.limits_events.ensures) in
    subst (λ x. HasAnswered h (asking_data x) c.told-in-Events.result) (sym c.in-Events.is) is

pub returns-in-Interfaces-clause-answered : goal.returns-in-Interfaces-clause-answered
returns-in-Interfaces-clause-answered g c =
    let h = point c.args.hall.now in
    let is = answered h (asks_interfaces) c.told-in-Interfaces.result refl refl (c.told-in-Interfaces.ensures h (interfaces_answer h) c.interface_names.ensures) in
    subst (λ x. HasAnswered h (asking_data x) c.told-in-Interfaces.result) (sym c.in-Interfaces.is) is

pub returns-in-Interface-clause-answered : goal.returns-in-Interface-clause-answered
returns-in-Interface-clause-answered g c =
    let h = point c.args.hall.now in
    let is = answered h (asks_interface c.in-Interface.name.now) c.told-in-Interface.result refl refl (c.told-in-Interface.ensures h (interface_answer h c.in-Interface.name.now) c.interface_state.ensures) in
    subst (λ x. HasAnswered h (asking_data x) c.told-in-Interface.result) (sym c.in-Interface.is) is

pub returns-in-Inject-clause-answered : goal.returns-in-Inject-clause-answered
returns-in-Inject-clause-answered g c =
    let h = point c.args.hall.now in
    let is = answered h (injects (packet_name c.in-Inject.names) (members_view c.in-Inject.members.now.entries)) c.injection.result refl refl c.injection.ensures in
    subst (λ x. HasAnswered h (asking_data x) c.injection.result) (sym c.in-Inject.is) is
