use Rattle.std.proofs.Common.{◌≡◌}
use mathlib.Core.List.{IsPrefix}
use Rattle.cts_trace.specs.Makers.{of_maker}
use Rattle.cts_turn.specs.Passes.{IsPassOf, view}
use Rattle.cts_worker.specs.Followed.{Follows}
use Rattle.cts_worker.specs.Holds.{Onward}
use Rattle.cts_publisher.specs.Publishing.{publisher}
use Rattle.cts_publisher.proofs.worker.Publisher.run.Given as goal

abbrev pub invariant-looks : goal.invariant-looks
invariant-looks g l = record {
  pass : IsPassOf l.turn l.pass;
  onward : Onward (view l.initial.pass) (view l.pass);
  own : of_maker publisher (view l.pass).seen ≡ of_maker publisher (view l.initial.pass).seen;
  grows : IsPrefix l.initial.writer.list l.writer.list;
  begins : IsPrefix l.writer.list (view l.pass).seen;
  follows : Follows l.progress (view l.pass).seen;
}
