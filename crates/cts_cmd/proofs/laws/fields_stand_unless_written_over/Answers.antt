use Rattle.cts_cmd.proofs.Stays.{bits_stay, numbers_stand}
use Rattle.cts_cmd.proofs.laws.fields_stand_unless_written_over.Goals as goal

pub returns : goal.returns
returns c = record { bits = bits_stay; numbers = numbers_stand }
