use Rattle.std.proofs.Common.{◌∙◌, sym, ap}
use Rattle.cts_def.specs.Sites.{RouterData}
use Rattle.cts_ident.proofs.Firsts.{routes_there}
use Rattle.cts_ident.proofs.connection.routes.Goals as goal

pub returns : goal.returns
returns c =
    let there = routes_there c.args.routers.now c.args.number c.index-routers-number.result c.requires c.index-routers-number.is in
    c.as_slice.ensures ∙ ap (λ (r : RouterData). r.routes) c.router.view_is ∙ sym there
