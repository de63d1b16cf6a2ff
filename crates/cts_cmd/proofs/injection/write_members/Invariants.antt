use Rattle.std.proofs.Common.{ℕ, List, length, drop, ◌≤◌}
use Rattle.std.specs.List.{filter_map}
use Rattle.cts_cmd.specs.Injects.{Injects, with_item}
use Rattle.cts_cmd.proofs.injection.write_members.Given as goal

-- what the members that are left do to what stands, all of them do to what stood at first
abbrev pub invariant-loop-member : goal.invariant-loop-member
invariant-loop-member l =
    (length l.initial.buffer.items ≤ length l.buffer.items)
    × ((new : List ℕ) → Injects (filter_map (with_item l.items) (drop l.member-index l.members)) l.buffer.items new → Injects (filter_map (with_item l.items) l.members) l.initial.buffer.items new)
