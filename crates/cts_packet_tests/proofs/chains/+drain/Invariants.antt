use Rattle.cts_packet_tests.proofs.chains.+drain.Given as goal

abbrev pub decreases-drain : goal.decreases-drain
decreases-drain g l = l.most
