use Rattle.std.proofs.Common.{◌≡◌, ◌∙◌, List, ap, length, arith}
use Rattle.std.specs.List.{list_all}
use Rattle.cts_def.specs.Items.{ItemData}
use Rattle.cts_def.specs.Packets.{length_of}
use Rattle.cts_cmd.specs.Builds.{lies_within}
use Rattle.cts_cmd.proofs.Written.{all_within}
use Rattle.cts_cmd.proofs.injection.written.Goals as goal

pub write_members-requires : goal.write_members-requires
write_members-requires c =
    let least : c.packet.inside.length ≡ length_of c.packet.inside.items = c.packet.invariant.least in
    let n = length c.in_ok-buffer.buffer.items in
    ap (λ (x : List ItemData). list_all (lies_within n) x) c.as_slice.ensures ∙ all_within c.packet.inside.items n (omega (arith, least, c.in_ok-buffer.ensures.room))
