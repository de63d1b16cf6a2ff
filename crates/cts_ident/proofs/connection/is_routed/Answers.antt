use Rattle.std.proofs.Common.{◌∙◌, sym}
use Rattle.cts_def.specs.Items.{is_same}
use Rattle.cts_def.specs.Sites.{targets_at}
use Rattle.cts_ident.proofs.Firsts.{any-flat_map}
use Rattle.cts_ident.proofs.connection.is_routed.Goals as goal

pub returns : goal.returns
returns c = c.any_reaches.ensures ∙ sym (any-flat_map (is_same c.args.target.now) (targets_at c.args.interfaces.now) c.args.routes.now)
