use Rattle.std.proofs.Common.{◌≡◌, ◌++◌, None, length, map, vec_capacity}
use Rattle.std.specs.List.{filter_map}
use Rattle.std.specs.Vec.Iter.{into_iter_items, into_iter_len}
use Rattle.cts_server.specs.Homes.{last_of}
use Rattle.cts_server.specs.Kinds.{line_why, the_desk, the_interface, the_scribe, the_slot, desk_note}
use Rattle.cts_server.proofs.Homing.{Home}
use Rattle.cts_server.proofs.notes.notes_back.Given as goal

abbrev pub invariant-loop-note : goal.invariant-loop-note
invariant-loop-note g l = record {
  all : l.yielded ++ into_iter_items l.note-iterator ≡ l.fn.notes.items;
  many : into_iter_len l.note-iterator ≡ length (into_iter_items l.note-iterator);
  lines : Home the_interface (λ n. n.device) l.yielded l.fn.lines l.lines l.line;
  slots : Home the_slot (λ n. n.device) l.yielded l.fn.slots l.slots l.slot;
  desks : Home the_desk (λ n. n.door) l.yielded l.fn.desks l.desks l.desk;
  vault : l.vault ≡ last_of l.fn.vault (map (λ n. n.vault) (filter_map the_scribe l.yielded));
  whys : l.whys.items ≡ l.fn.whys.items ++ filter_map line_why l.yielded;
  left : l.left.items ≡ l.fn.left.items ++ filter_map desk_note l.yielded;
  scribe : l.scribe ≡ last_of None (map (λ n. n.why) (filter_map the_scribe l.yielded));
  whys_room : vec_capacity l.whys ≡ vec_capacity l.fn.whys;
  left_room : vec_capacity l.left ≡ vec_capacity l.fn.left;
}
