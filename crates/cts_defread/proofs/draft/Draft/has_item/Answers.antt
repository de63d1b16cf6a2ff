use Rattle.std.proofs.Common.{◌∙◌}
use Rattle.cts_defread.proofs.Keeping.{kept_item}
use Rattle.cts_defread.proofs.draft.Draft.has_item.Goals as goal

pub returns : goal.returns
returns c = c.contains.ensures ∙ kept_item c.args.self.now c.args.name.now c.requires
