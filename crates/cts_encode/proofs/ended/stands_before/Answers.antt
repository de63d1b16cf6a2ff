use Rattle.std.proofs.Common.{refl, length}
use Rattle.std.specs.Prelude.{Some, None}
use Rattle.cts_encode.proofs.Searches.{finds_first, some_test}
use Rattle.cts_encode.proofs.ended.stands_before.Goals as goal

pub returns-in-Some : goal.returns-in-Some
returns-in-Some c =
    let e = finds_first c.args.bytes.now c.args.pattern.now (Some c.in-Some.first) c.in-Some.ensures in
    let f = some_test (length c.args.pattern.now) c.if-is_empty.ensures in
    rw (f, ← e) refl

pub returns-in-None : goal.returns-in-None
returns-in-None c =
    let e = finds_first c.args.bytes.now c.args.pattern.now None c.in-None.ensures in
    let f = some_test (length c.args.pattern.now) c.if-is_empty.ensures in
    rw (f, ← e) refl
