use Rattle.std.proofs.Common.{◌∙◌, sym, ap}
use Rattle.cts_def.specs.Sites.{routed_targets}
use Rattle.cts_def.specs.Packets.{is_named}
use Rattle.cts_ident.specs.Matches.{at_place}
use Rattle.cts_ident.proofs.Firsts.{first_is_place}
use Rattle.cts_ident.proofs.search.first_named.Goals as goal

pub returns : goal.returns
returns c =
    c.ident.ensures ∙ ap at_place c.place_named.ensures
    ∙ sym (first_is_place (routed_targets c.args.interfaces.now c.args.routes.now) c.args.packets.now (is_named c.args.target.now c.args.name.now))
