use Rattle.cts_run.specs.Story.{site_told}
use Rattle.cts_run.proofs.BelowLemmas.{wants_pieces}
use Rattle.cts_run.proofs.hub.below.run_below.Goals as goal

pub returns-in-Ok : goal.returns-in-Ok
returns-in-Ok g c = λ vault. record {
  pieces = c.in-Ok.pieces.items;
  pieces_are = rw c.requires.hub at c.in-Ok.ensures;
  brings = rw c.as_slice.ensures.value at (c.bring-done.ensures vault);
}

pub returns-in-Err : goal.returns-in-Err
returns-in-Err g c = λ vault. wants_pieces (site_told c.args.story.now) c.args.ends c.args.bytes.now c.args.story.now _ c.requires.least c.requires.stands
