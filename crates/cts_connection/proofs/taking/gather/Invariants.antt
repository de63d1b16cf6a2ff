use Rattle.cts_chain.specs.Chains.{waiting}
use Rattle.cts_connection.proofs.Gathering.{Sofar}
use Rattle.cts_connection.proofs.taking.gather.Given as goal

abbrev pub invariant-loop-own : goal.invariant-loop-own
invariant-loop-own g l =
    let f = g.C.Chained.shape in
    Sofar l.hall.basis.site l.hall.entries l.by l.time (f l.initial.chain) l.initial.entries.items l.entries.items (f l.chain)

abbrev pub decreases-loop-own : goal.decreases-loop-own
decreases-loop-own g l = waiting (g.C.Chained.shape l.chain).stages
