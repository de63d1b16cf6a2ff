use Rattle.std.proofs.Common.{◌∙◌, ap, length, unwrap_or}
use Rattle.cts_base.specs.Decimals.{is_point}
use Rattle.cts_base.proofs.DecimalLemmas.{position-or_length}
use Rattle.cts_base.proofs.decimal.point_place.Goals as goal

pub returns-clause-place : goal.returns-clause-place
returns-clause-place c =
    c.unwrap_or.ensures ∙ (ap (λ o. unwrap_or o (length c.args.body.now)) c.first_point.ensures ∙ position-or_length is_point c.args.body.now)
