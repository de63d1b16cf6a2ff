use Rattle.std.proofs.Common.{◌≡◌, ◌&&◌}
use Rattle.serde_json.specs.View.{members_view}
use Rattle.cts_methods.specs.Kinds.{are_given}
use Rattle.cts_methods.proofs.params.are_given.Given as goal

abbrev pub invariant-loop-member : goal.invariant-loop-member
invariant-loop-member l = (l.all && are_given (members_view l.member-iterator)) ≡ are_given (members_view l.members.entries)
