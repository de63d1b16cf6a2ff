use Rattle.std.proofs.Common.{◌≡◌, ◌<◌, ◌∙◌, ap, arith, rules, true}
use Rattle.cts_turn.proofs.Makers.{has_from}
use Rattle.cts_turn.specs.Lists.{has}
use Rattle.cts_turn.specs.Passes.{view}
use Rattle.cts_worker_tests.proofs.lines.told.Goals as goal

pub work-requires : goal.work-requires
work-requires g c =
    let by = c.in_ok-by.by in
    let few : by < 32 = search rules in
    let mine : has by (view c.in_ok-turn.pass).makers ≡ true = ap (has by) c.in_ok-turn.ensures.makers ∙ has_from 0 by (omega arith) few in
    (c.in_ok-turn.ensures.pass, mine, search rules, search rules, search rules, search rules)
