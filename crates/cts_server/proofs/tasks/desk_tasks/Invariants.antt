use Rattle.std.proofs.Common.{◌≡◌, ◌≤◌, ◌+◌, drop, length, vec_len, vec_capacity}
use Rattle.std.specs.List.{AllByRecursion}
use Rattle.cts_def.specs.Makers.{first_desk}
use Rattle.cts_server.specs.Kinds.{IsDesk}
use Rattle.cts_server.specs.Places.{IsThere}
use Rattle.cts_server.specs.Making.{AreFit, FitsDesk, ReadyDesk}
use Rattle.cts_server.proofs.Taking.{Taking}
use Rattle.cts_server.proofs.tasks.desk_tasks.Given as goal

abbrev pub invariant-desks : goal.invariant-desks
invariant-desks g l = record {
  taking : Taking (IsDesk (λ n aim d x. ReadyDesk l.site n aim (g.Q.Link.seen d) (g.Q.Link.seen x))) first_desk l.fn.aims.items l.aims.items
      l.fn.places l.places l.fn.tasks.items l.tasks.items l.place;
  there : AllByRecursion IsThere (drop l.place l.places);
  many : l.place + vec_len l.aims ≡ vec_len l.fn.aims;
  long : length l.places ≡ length l.fn.places;
  fit : AreFit (FitsDesk l.site) (first_desk + l.place) l.aims.items (drop l.place l.places);
  room : vec_len l.tasks + vec_len l.aims ≤ vec_capacity l.tasks;
  same_room : vec_capacity l.tasks ≡ vec_capacity l.fn.tasks;
}

abbrev pub decreases-desks : goal.decreases-desks
decreases-desks g l = vec_len l.aims
