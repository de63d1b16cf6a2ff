use Rattle.std.proofs.Common.{◌≡◌, drop}
use Rattle.serde_json.specs.View.{members_view}
use Rattle.cts_api.specs.Shown.{object_of, object_with}
use Rattle.cts_api.proofs.commands.object_of.Given as goal

abbrev pub invariant-loop-name : goal.invariant-loop-name
invariant-loop-name l = object_with (members_view l.members.entries) (drop l.name-index l.params) ≡ object_of l.params
