use Rattle.std.proofs.Common.{take, drop}
use Rattle.cts_plan.proofs.Runs.{IsReading}
use Rattle.cts_plan.proofs.draft.Draft.read_all.Given as goal

abbrev pub invariant-loop-statement : goal.invariant-loop-statement
invariant-loop-statement l = IsReading l.fn.self.site.definitions l.self (take l.statement-index l.statements) (drop l.statement-index l.statements) l.statements
