use Rattle.cts_chain.specs.Chains.{waiting}
use Rattle.cts_connection.proofs.Gathering.{Gone}
use Rattle.cts_connection.proofs.taking.give_up.Given as goal

abbrev pub invariant-loop-unposted : goal.invariant-loop-unposted
invariant-loop-unposted g l =
    let f = g.C.Chained.shape in
    Gone (f l.initial.chain) l.unposted (f l.chain)

abbrev pub decreases-loop-unposted : goal.decreases-loop-unposted
decreases-loop-unposted g l = waiting (g.C.Chained.shape l.chain).stages
