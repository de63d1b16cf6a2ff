use Rattle.cts_stream.proofs.terminated.TerminatedSearchSearch.find.Goals as goal

pub returns : goal.returns
returns c = rw (c.in-Terminated.is, ← c.as_slice.ensures, ← c.as_slice-in-Terminated.ensures) (c.find_terminated.ensures c.in-Terminated.write c.in-Terminated.fill)

pub find_terminated-requires-clause-seen : goal.find_terminated-requires-clause-seen
find_terminated-requires-clause-seen c = rw (c.as_slice.ensures, c.as_slice-in-Terminated.ensures) (rw c.in-Terminated.is at c.requires.seen)
