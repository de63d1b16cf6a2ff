use Rattle.cts_trace.proofs.Faults.{faults_are_told}
use Rattle.cts_trace.proofs.Looking.{said_is_past, put_before_its_entries, put_before_the_stop, puts_what_it_saw, full_leaves_some, holds_may_follow, entries_of_others_may_follow}
use Rattle.cts_trace.proofs.laws.lines.Goals as goal

pub returns : goal.returns
returns c = record { past = said_is_past; peer = put_before_its_entries; stop = put_before_the_stop; saw = puts_what_it_saw; full = full_leaves_some; faults = faults_are_told; holds = holds_may_follow; others = entries_of_others_may_follow }
