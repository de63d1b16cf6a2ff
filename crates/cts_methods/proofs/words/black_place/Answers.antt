use Rattle.std.proofs.Common.{◌∙◌, ap, length, unwrap_or}
use Rattle.cts_base.proofs.DecimalLemmas.{position-or_length}
use Rattle.cts_methods.proofs.words.black_place.Goals as goal
use Rattle.cts_methods.specs.Kinds.{is_black}

pub returns-clause-place : goal.returns-clause-place
returns-clause-place c =
    c.unwrap_or.ensures ∙ (ap (λ o. unwrap_or o (length c.args.text.now)) c.first_black.ensures ∙ position-or_length is_black c.args.text.now)
