use Rattle.std.proofs.Common.{◌≡◌, ◌++◌, length, map}
use Rattle.std.specs.List.{filter_map}
use Rattle.std.specs.Vec.Iter.{into_iter_items, into_iter_len}
use Rattle.cts_server.specs.Homes.{last_of}
use Rattle.cts_server.specs.Kinds.{the_desk, the_interface, the_scribe, the_slot}
use Rattle.cts_server.proofs.Homing.{Home}
use Rattle.cts_server.proofs.undone.tasks_back.Given as goal

abbrev pub invariant-loop-task : goal.invariant-loop-task
invariant-loop-task g l = record {
  all : l.yielded ++ into_iter_items l.task-iterator ≡ l.fn.tasks.items;
  many : into_iter_len l.task-iterator ≡ length (into_iter_items l.task-iterator);
  lines : Home (λ t. the_interface t.work) (λ l. l.device) l.yielded l.fn.lines l.lines l.line;
  slots : Home (λ t. the_slot t.work) (λ l. l.device) l.yielded l.fn.slots l.slots l.slot;
  desks : Home (λ t. the_desk t.work) (λ d. d) l.yielded l.fn.desks l.desks l.desk;
  vault : l.vault ≡ last_of l.fn.vault (map (λ v. v) (filter_map (λ t. the_scribe t.work) l.yielded));
}
