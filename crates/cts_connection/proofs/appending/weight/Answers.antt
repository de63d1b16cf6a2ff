use Rattle.std.proofs.Common.{◌≡◌, [], ap, arith}
use Rattle.std.proofs.lemmas.List.{nil_from_length}
use Rattle.cts_entry.specs.Histories.{bytes_in}
use Rattle.cts_connection.proofs.appending.weight.Goals as goal

pub returns : goal.returns
returns c =
    let none : c.left.left.now ≡ [] = nil_from_length c.left.left.now c.in_default.ensures.cases in
    let left : bytes_in c.left.left.now ≡ 0 = ap bytes_in none in
    omega (arith, c.left.invariant.0, c.left.invariant.1, left)
