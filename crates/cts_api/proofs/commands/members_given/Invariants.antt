use Rattle.std.proofs.Common.{◌≡◌, ◌++◌}
use Rattle.serde_json.specs.View.{members_view}
use Rattle.cts_methods.specs.Kinds.{members_given}
use Rattle.cts_api.proofs.commands.members_given.Given as goal

abbrev pub invariant-loop-name : goal.invariant-loop-name
invariant-loop-name l = l.params.items ++ members_given (members_view l.name-iterator) ≡ members_given (members_view l.members.entries)
