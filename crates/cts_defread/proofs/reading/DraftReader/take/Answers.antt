use Rattle.cts_defread.proofs.Runs.{is_taken}
use Rattle.cts_defread.proofs.reading.DraftReader.take.Goals as goal

pub returns : goal.returns
returns c = λ before h.
    is_taken c.args.self.now c.add.new.self before c.args.statement.now c.in_ok-line.line h c.in_ok-line.ensures.judged c.in_ok-add.ensures.placed c.in_ok-add.ensures.set_names c.in_ok-add.ensures.kept
