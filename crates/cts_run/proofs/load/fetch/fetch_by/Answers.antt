use Rattle.std.proofs.Common.{rules, arith}
use Rattle.std.proofs.lemmas.Grind.{common_steps}
use Rattle.cts_run.proofs.load.fetch.fetch_by.Goals as goal

pub returns-clause-stays : goal.returns-clause-stays
returns-clause-stays c = search rules

pub returns-clause-content : goal.returns-clause-content
returns-clause-content c = search rules

pub returns-clause-small : goal.returns-clause-small
returns-clause-small c = search rules

pub returns-clause-counts : goal.returns-clause-counts
returns-clause-counts c = search rules

pub returns-in-End-clause-content : goal.returns-in-End-clause-content
returns-in-End-clause-content g c = grind (arith, common_steps)
