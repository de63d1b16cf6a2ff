use Rattle.cts_stream.proofs.burst.BurstSearchSearch.find.Goals as goal

pub returns : goal.returns
returns c = rw (c.in-Burst.is, ← c.as_slice.ensures) (c.find_burst.ensures c.in-Burst.fill)
