use Rattle.std.proofs.lemmas.List.{take_rest}
use Rattle.cts_words.proofs.Words.{white, black}
use Rattle.cts_words.proofs.line.skip_white.Goals as goal

pub returns-clause-same : goal.returns-clause-same
returns-clause-same c = rw (take_rest, c.run_len.ensures.place) (white c.args.line.now)

pub returns-clause-black : goal.returns-clause-black
returns-clause-black c = rw (take_rest, c.run_len.ensures.place) (black c.args.line.now)
