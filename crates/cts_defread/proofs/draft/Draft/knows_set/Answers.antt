use Rattle.std.proofs.Common.{◌∙◌}
use Rattle.cts_defread.proofs.Keeping.{kept_set}
use Rattle.cts_defread.proofs.draft.Draft.knows_set.Goals as goal

pub returns : goal.returns
returns c = c.contains.ensures ∙ kept_set c.args.self.now c.args.name.now c.requires
