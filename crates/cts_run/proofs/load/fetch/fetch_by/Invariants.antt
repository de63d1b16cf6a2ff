use Rattle.std.proofs.Common.{◌≡◌, ◌+◌, ◌-◌, ◌<◌, length, IfSome, vec_len}
use Rattle.cts_run.specs.Phases.{IsFound}
use Rattle.cts_run.proofs.LoadLemmas.{Begins}
use Rattle.cts_run.proofs.load.fetch.fetch_by.Given as goal

abbrev pub invariant-pieces : goal.invariant-pieces
invariant-pieces g l = record {
  stays : (g.F.Files.seen l.files).told ≡ (g.F.Files.seen l.fn.files).told;
  begins : IfSome (g.F.Files.seen l.fn.files).told (λ all. Begins (all l.name) l.held.items);
  found : IsFound (g.F.Files.seen l.fn.files) (g.F.Files.seen l.files);
  room : 0 < length l.piece;
}

abbrev pub decreases-pieces : goal.decreases-pieces
decreases-pieces g l = l.limit + 1 - vec_len l.held
