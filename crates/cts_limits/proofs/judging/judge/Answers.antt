use Rattle.std.proofs.Common.{rules}
use Rattle.cts_limits.proofs.judging.judge.Goals as goal

pub returns-then-at-limits-clause-color : goal.returns-then-at-limits-clause-color
returns-then-at-limits-clause-color c = search rules

pub returns-then-at-limits-2-clause-color : goal.returns-then-at-limits-2-clause-color
returns-then-at-limits-2-clause-color c = search rules

pub returns-then-at-limits-3-clause-color : goal.returns-then-at-limits-3-clause-color
returns-then-at-limits-3-clause-color c = search rules

pub returns-then-at-limits-4-clause-color : goal.returns-then-at-limits-4-clause-color
returns-then-at-limits-4-clause-color c = search rules

pub returns-else-at-limits-4-clause-color : goal.returns-else-at-limits-4-clause-color
returns-else-at-limits-4-clause-color c = search rules

pub returns-then-at-limits-clause-judged : goal.returns-then-at-limits-clause-judged
returns-then-at-limits-clause-judged c = search rules
