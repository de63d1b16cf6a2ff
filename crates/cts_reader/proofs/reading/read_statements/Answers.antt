use Rattle.std.proofs.Common.{rules, Err, subst}
use Rattle.cts_reader.specs.Reading.{Takes, Reads}
use Rattle.cts_reader.proofs.Passes.{ends, stops}
use Rattle.cts_reader.proofs.reading.read_statements.Goals as goal

pub returns-in_err-take : goal.returns-in_err-take
returns-in_err-take g c =
    let at = g.R.Reader.refusal c.args.given.now in
    let stood = g.R.Reader.stands c.args.given.now c.loop-statement.reader in
    let stands = g.R.Reader.stands c.args.given.now c.take.new.self in
    let s = c.statement-item.result in
    let all = c.args.statements.now in
    let stopped : Reads at stands all (Err c.in_err-take.field-0.0) =
    stops at stood stands all c.loop-statement.statement-index s c.in_err-take.field-0.0 c.loop-statement-test.true c.statement-item.is c.loop-statement.invariant
    (subst (λ r. Takes at stood stands s r) c.in_err-take.was c.take.ensures) in
    search rules

pub returns : goal.returns
returns g c = ends (g.R.Reader.refusal c.args.given.now) (g.R.Reader.stands c.args.given.now c.loop-statement.reader) c.args.statements.now c.loop-statement.statement-index c.loop-statement-test.false c.loop-statement.invariant
