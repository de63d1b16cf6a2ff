use Rattle.std.proofs.Common.{◌≡◌, true, rules, Some}
use Rattle.std.specs.Prelude.{slice_get}
use Rattle.std.specs.List.{list_any}
use Rattle.cts_extract.specs.Columns.{has_target, kept_packets, packet_named}
use Rattle.cts_extract.proofs.Asking.{all_asked}
use Rattle.cts_extract.proofs.columns.Columns.new.Goals as goal

pub returns : goal.returns
returns c =
    let known : list_any (has_target c.args.target.now) (kept_packets c.args.definitions.now c.args.commands) ≡ true = search rules in
    let named : packet_named c.args.definitions.now c.args.commands c.args.target.now c.args.packet.now ≡ Some c.in-Some.of.now = search rules in
    let at : slice_get (kept_packets c.args.definitions.now c.args.commands) c.in-Some.number ≡ Some c.in-Some.of.now = search rules in
    all_asked c.args.definitions.now c.args.commands c.args.target.now c.args.packet.now _ c.args.kind c.in-Some.of.now c.in-Some.number c.in_ok-items.items c.in_ok-items.names known named at c.in_ok-items.ensures
