use Rattle.std.proofs.Common.{◌≡◌}
use Rattle.cts_defstatement.specs.declared.open.PacketKind.TheVariants.{Telemetry, Command}
use Rattle.cts_defread.specs.Standing.{packets_of}
use Rattle.cts_defread.proofs.draft.split.Given as goal

abbrev pub invariant-loop-drafted : goal.invariant-loop-drafted
invariant-loop-drafted l = record { telemetry : l.telemetry ≡ packets_of Telemetry l.yielded; commands : l.commands ≡ packets_of Command l.yielded }
