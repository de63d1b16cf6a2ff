use Rattle.std.proofs.Common.{refl, ◌∙◌}
use Rattle.cts_defread.specs.Causes.{open_item}
use Rattle.cts_defread.specs.Drafts.{state_name, state_names}
use Rattle.cts_defread.proofs.Clean.{fits}
use Rattle.cts_defread.proofs.Kept.{detail_kept}
use Rattle.cts_defread.proofs.Taken.{is_there, on_ok, states_taken}
use Rattle.cts_defread.proofs.draft.Draft.add_detail.Goals as goal

pub change_last_item-requires : goal.change_last_item-requires
change_last_item-requires c = fits c.args.self.now.packets.items c.args.self.now.set_names.items c.args.detail c.requires.clean c.requires.rules.sound

pub returns-clause-kept : goal.returns-clause-kept
returns-clause-kept c =
    let item = open_item c.args.self.now.packets.items in
    on_ok c.change_last_item.result
    (λ placed.
    detail_kept c.args.self.now _ c.args.detail c.requires.kept c.requires.clean c.requires.rules.suited
    (record { telemetry = refl; commands = refl; items = refl; telemetry_count = refl; command_count = refl; item_count = refl; ends = refl; ended = refl; filled = refl })
    placed
    (states_taken c.know_names.new.states (state_names item) _ _ (state_name c.args.detail) (c.is_some-taken.ensures ∙ is_there c.open_item.result item c.open_item.ensures)
    (c.in_ok-know_names.ensures.states (state_names item) c.requires.kept.states))
    c.in_ok-know_names.ensures.sets c.in_ok-know_names.ensures.set_names)
    c.change_last_item.ensures
