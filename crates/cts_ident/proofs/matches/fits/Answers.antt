use Rattle.std.proofs.Common.{◌∙◌, List, sym, ap}
use Rattle.std.specs.List.{list_all}
use Rattle.cts_def.specs.Items.{ItemData}
use Rattle.cts_def.specs.Packets.{PacketData}
use Rattle.cts_ident.proofs.Firsts.{all-filter_map}
use Rattle.cts_ident.specs.Matches.{has_own_id}
use Rattle.cts_ident.proofs.matches.fits.Goals as goal

pub returns : goal.returns
returns c =
    c.have_own_ids.ensures
    ∙ ap (λ (x : List ItemData). list_all (has_own_id c.args.bytes.now) x) (c.as_slice.ensures ∙ ap (λ (p : PacketData). p.items) c.packet.view_is)
    ∙ sym (all-filter_map c.args.bytes.now c.args.packet.now.items)
