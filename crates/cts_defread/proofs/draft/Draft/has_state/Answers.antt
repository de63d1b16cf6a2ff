use Rattle.std.proofs.Common.{◌∙◌}
use Rattle.cts_defread.proofs.Keeping.{kept_state}
use Rattle.cts_defread.proofs.draft.Draft.has_state.Goals as goal

pub returns : goal.returns
returns c = c.contains.ensures ∙ kept_state c.args.self.now c.args.name.now c.requires
