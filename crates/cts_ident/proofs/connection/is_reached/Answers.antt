use Rattle.std.proofs.Common.{ℕ, List, ◌∙◌, sym, ap}
use Rattle.std.specs.List.{list_any}
use Rattle.cts_def.specs.Items.{is_same}
use Rattle.cts_ident.proofs.Firsts.{targets_nowhere, targets_there}
use Rattle.cts_ident.proofs.connection.is_reached.Goals as goal

pub returns-in-Some : goal.returns-in-Some
returns-in-Some c =
    let there = targets_there c.args.interfaces.now c.args.number c.in-Some.interface.now c.in-Some.ensures.lookup.3.0 c.in-Some.ensures.lookup.1 in
    c.has_target.ensures ∙ ap (λ (x : List (List ℕ)). list_any (is_same c.args.target.now) x) (sym there)

pub returns-in-None : goal.returns-in-None
returns-in-None c =
    let nowhere = targets_nowhere c.args.interfaces.now c.args.number c.in-None.ensures.lookup.3 in
    ap (λ (x : List (List ℕ)). list_any (is_same c.args.target.now) x) (sym nowhere)
