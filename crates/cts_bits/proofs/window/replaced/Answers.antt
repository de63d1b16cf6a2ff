use Rattle.cts_bits.proofs.Shifts.{replaced_shifts}
use Rattle.cts_bits.proofs.window.replaced.Goals as goal

pub returns : goal.returns
returns c =
    rw c.from.ensures (replaced_shifts c.args.number c.args.tail c.args.bits c.args.value c.requires.number c.requires.tail c.requires.bits c.requires.value)
