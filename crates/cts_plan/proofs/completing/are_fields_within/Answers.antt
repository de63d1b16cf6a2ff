use Rattle.std.proofs.Common.{sym, ◌∙◌}
use Rattle.cts_def.specs.Protocols.{is_id_within}
use Rattle.cts_def.specs.Starts.{id_field_data}
use Rattle.cts_plan.proofs.Lists.{all_map}
use Rattle.cts_plan.proofs.completing.are_fields_within.Goals as goal

pub returns : goal.returns
returns c = c.are_ids_within.ensures ∙ sym (all_map (is_id_within c.args.min_id) id_field_data c.args.ids.now)
