use Rattle.std.proofs.Common.{List, ◌∙◌}
use Rattle.cts_def.specs.Spans.{is_too_far, is_refused_number, is_bad_from_end, is_split_text, is_text_past_end, ends_too_far}
use Rattle.cts_defstatement.specs.declared.line.ItemLine.{ItemLine}
use Rattle.cts_defread.specs.declared.drafted.Drafted.{Drafted}
use Rattle.cts_defread.specs.Causes.{of_place, is_after_open_end, is_id_from_end, is_from_end_in_command, is_after_rest_in_command}
use Rattle.cts_defread.proofs.Misplaced.{all_ten}
use Rattle.cts_defread.proofs.draft.Draft.has_bad_place.Goals as goal

pub returns : goal.returns
returns c =
    let packets : List Drafted = c.args.self.now.packets.items in
    let head : ItemLine = c.args.head.now in
    c.any_of.ensures
    ∙ all_ten (of_place is_too_far packets head) (of_place is_refused_number packets head) (of_place is_bad_from_end packets head) (of_place is_split_text packets head) (of_place is_text_past_end packets head) (of_place ends_too_far packets head)
    (is_after_open_end packets head) (is_id_from_end packets head) (is_from_end_in_command packets head) (is_after_rest_in_command packets head)
    c.is_misplaced-by_itself.result c.is_after_open_end-later.result c.is_id_from_end-id.result c.is_from_end_in_command-parameter.result c.is_after_rest_in_command.result
    c.is_misplaced-by_itself.ensures c.is_after_open_end-later.ensures c.is_id_from_end-id.ensures c.is_from_end_in_command-parameter.ensures c.is_after_rest_in_command.ensures
