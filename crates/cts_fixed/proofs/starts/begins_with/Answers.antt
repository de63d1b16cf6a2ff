use Rattle.std.proofs.Common.{◌∙◌, List, ap, ℤ, Bool}
use Rattle.std.specs.List.{list_all}
use Rattle.cts_bits.specs.declared.place.Place.{Place}
use Rattle.cts_def.specs.Beginnings.{has_id}
use Rattle.cts_def.specs.Starts.{StartData, id_field_data}
use Rattle.cts_fixed.proofs.Starting.{all_ids}
use Rattle.cts_fixed.proofs.starts.begins_with.Goals as goal

pub returns : goal.returns
returns c =
    c.have_ids.ensures
    ∙ ap (λ (x : List (Place × ℤ × Bool)). list_all (λ i. has_id c.args.bytes.now (id_field_data i)) x) c.as_slice.ensures
    ∙ all_ids c.args.bytes.now c.start.inside.ids
    ∙ ap (λ (s : StartData). list_all (has_id c.args.bytes.now) s.ids) c.start.view_is
