use Rattle.cts_scriptread.proofs.Exact.{interfaces_are_named, makers_are_named, slots_are_named}
use Rattle.cts_scriptread.proofs.laws.names_are_those_of_the_site.Goals as goal

pub returns : goal.returns
returns c = record { makers = makers_are_named; interfaces = interfaces_are_named; slots = slots_are_named }
