use Rattle.std.proofs.Common.{◌<◌, ◌==◌, length, arith}
use Rattle.std.specs.List.{position_or_len}
use Rattle.std.proofs.lemmas.List.{take_rest}
use Rattle.cts_words.proofs.Words.{quoted, open_quote}
use Rattle.cts_words.proofs.line.close_quote.Goals as goal

pub returns-then-len-line-clause-open : goal.returns-then-len-line-clause-open
returns-then-len-line-clause-open c = open_quote c.args.quote _ c.args.line.now (omega arith)

pub returns-clause-word : goal.returns-clause-word
returns-clause-word c =
    let lt : position_or_len (λ x. x == c.args.quote) c.args.line.now < length c.args.line.now = omega arith in
    rw (c.run_len-len.ensures.place, take_rest) (quoted c.args.quote _ c.args.line.now lt)
