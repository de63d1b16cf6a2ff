use Rattle.std.proofs.Common.{refl}
use Rattle.cts_book.proofs.Fronts.{prefix_self}
use Rattle.cts_turn.specs.Passes.{view}
use Rattle.cts_worker.proofs.Onwards.{onward_same}
use Rattle.cts_publisher.proofs.worker.Publisher.run.Goals as goal

pub looks-init : goal.looks-init
looks-init g c = record {
  pass = c.requires.pass;
  onward = onward_same (view c.args.pass);
  own = refl;
  grows = prefix_self c.args.writer.now.list;
  begins = c.requires.begins;
  follows = c.begin-progress.ensures.follows (view c.args.pass).seen;
}
