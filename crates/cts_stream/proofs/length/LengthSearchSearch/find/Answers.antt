use Rattle.cts_stream.proofs.length.LengthSearchSearch.find.Goals as goal

pub returns : goal.returns
returns c = rw (c.in-Length.is, ← c.as_slice.ensures) (c.find_length.ensures c.in-Length.fill)
