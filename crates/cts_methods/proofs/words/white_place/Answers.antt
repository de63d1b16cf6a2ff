use Rattle.std.proofs.Common.{◌∙◌, ap, length, unwrap_or}
use Rattle.cts_base.proofs.DecimalLemmas.{position-or_length}
use Rattle.cts_methods.proofs.words.white_place.Goals as goal
use Rattle.cts_cmd.specs.Words.{is_white}

pub returns-clause-place : goal.returns-clause-place
returns-clause-place c =
    c.unwrap_or.ensures ∙ (ap (λ o. unwrap_or o (length c.args.text.now)) c.first_white.ensures ∙ position-or_length is_white c.args.text.now)
