use Rattle.std.proofs.Common.{◌≡◌, length, arith}
use Rattle.std.proofs.lemmas.Bool.Decides.{nat_tests}
use Rattle.cts_run.proofs.DumpedLemmas.{head_copied}
use Rattle.cts_run.proofs.dump.head_after.Goals as goal

pub returns-then-is_empty : goal.returns-then-is_empty
returns-then-is_empty c =
    let test = c.if-is_empty.ensures in
    let none : length c.args.head.now ≡ 0 = grind (arith, nat_tests, test) in
    head_copied c.args.head.now c.args.file.now c.min.result c.copy.result none c.min.ensures c.copy.ensures
