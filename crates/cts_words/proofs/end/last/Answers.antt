use Rattle.std.proofs.Common.{sym, ap, ◌∙◌}
use Rattle.cts_words.specs.Blocks.{last_of}
use Rattle.cts_words.proofs.Blocks.{last_snoc}
use Rattle.cts_words.proofs.end.last.Goals as goal

pub returns-in-Some : goal.returns-in-Some
returns-in-Some g c = sym (ap last_of c.in-Some.ensures.cases.0 ∙ last_snoc c.in-Some.field-0-1.now c.in-Some.last.now)
