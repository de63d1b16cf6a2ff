use Rattle.cts_format_tests.proofs.log_parts.+with_more.Given as goal

abbrev pub decreases-with_more : goal.decreases-with_more
decreases-with_more l = l.count
