use Rattle.std.proofs.Common.{◌∷◌, [], false, arith, refl}
use Rattle.cts_worker.proofs.Marking.{no_marks}
use Rattle.cts_worker.proofs.progress.Progress.begin.Goals as goal

pub returns-clause-follows : goal.returns-clause-follows
returns-clause-follows c = λ history. record {
  within = omega arith;
  ended = record { long = refl; tell = λ m lt. no_marks (false ∷ false ∷ false ∷ false ∷ false ∷ false ∷ false ∷ false ∷ false ∷ false ∷ false ∷ false ∷ false ∷ false ∷ false ∷ false ∷ false ∷ false ∷ false ∷ false ∷ false ∷ false ∷ false ∷ false ∷ false ∷ false ∷ false ∷ false ∷ false ∷ false ∷ false ∷ false ∷ []) m refl };
}
