use Rattle.cts_def.specs.Readings.{is_format}
use Rattle.cts_defread.proofs.Rules.{from_not}
use Rattle.cts_defread.proofs.items.set_format.Goals as goal

-- the format is one, and the other rules are the item's
pub invariant_of-item : goal.invariant_of-item
invariant_of-item c =
    let v = c.item.invariant in
    record {
      placed = v.placed;
      id = v.id;
      preset = v.preset;
      numbers_alone_have_states = v.numbers_alone_have_states;
      states = v.states;
      sound_states = v.sound_states;
      few_states = v.few_states;
      conversion = v.conversion;
      limits = v.limits;
      format = from_not (is_format c.args.text) c.requires.formed;
    }
