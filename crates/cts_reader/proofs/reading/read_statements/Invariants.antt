use Rattle.std.proofs.Common.{take, drop}
use Rattle.cts_reader.proofs.Passes.{IsPassing}
use Rattle.cts_reader.proofs.reading.read_statements.Given as goal

abbrev pub invariant-loop-statement : goal.invariant-loop-statement
invariant-loop-statement g l =
    IsPassing (g.R.Reader.refusal l.given) (g.R.Reader.stands l.given l.reader) (take l.statement-index l.statements) (drop l.statement-index l.statements) l.statements
