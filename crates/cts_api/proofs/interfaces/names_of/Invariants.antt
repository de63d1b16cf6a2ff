use Rattle.std.proofs.Common.{◌≡◌, ◌++◌, drop, map}
use Rattle.serde_json.specs.View.{view}
use Rattle.cts_api.specs.Answers.{names_of}
use Rattle.cts_api.proofs.interfaces.names_of.Given as goal

abbrev pub invariant-loop-interface : goal.invariant-loop-interface
invariant-loop-interface l = map view l.names.items ++ names_of (drop l.interface-index l.interfaces) ≡ names_of l.interfaces
