use Rattle.std.proofs.Common.{◌≡◌, ◌≤◌, ◌+◌, drop, length, vec_len, vec_capacity}
use Rattle.std.specs.List.{AllByRecursion}
use Rattle.cts_server.specs.Kinds.{IsInterface}
use Rattle.cts_server.specs.Places.{IsThere}
use Rattle.cts_server.specs.Making.{AreFit, FitsLine, ReadyLine}
use Rattle.cts_server.proofs.Taking.{Taking}
use Rattle.cts_server.proofs.tasks.line_tasks.Given as goal

abbrev pub invariant-lines : goal.invariant-lines
invariant-lines g l = record {
  taking : Taking (IsInterface (λ n aim d x. ReadyLine l.site n aim (g.D.Link.seen d) (g.D.Link.seen x.device) (g.C.Chained.shape x.chain))) 0
      l.fn.aims.items l.aims.items l.fn.places l.places l.fn.tasks.items l.tasks.items l.place;
  there : AllByRecursion IsThere (drop l.place l.places);
  many : l.place + vec_len l.aims ≡ vec_len l.fn.aims;
  long : length l.places ≡ length l.fn.places;
  fit : AreFit (λ n x. FitsLine l.site n (g.C.Chained.shape x)) (l.place) l.aims.items l.chains.items;
  chains : l.chains.items ≡ drop l.place l.fn.chains.items;
  room : vec_len l.tasks + vec_len l.aims ≤ vec_capacity l.tasks;
  same_room : vec_capacity l.tasks ≡ vec_capacity l.fn.tasks;
}

abbrev pub decreases-lines : goal.decreases-lines
decreases-lines g l = vec_len l.aims
