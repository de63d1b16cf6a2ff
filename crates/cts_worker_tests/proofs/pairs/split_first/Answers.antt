use Rattle.std.proofs.Common.{[], ◌∷◌, ◌∙◌, ap, arith}
use Rattle.cts_turn.proofs.Makers.{has_from, split_from}
use Rattle.cts_turn.specs.Lists.{has}
use Rattle.cts_turn.specs.Passes.{view}
use Rattle.cts_worker_tests.proofs.pairs.split_first.Goals as goal

pub split-requires-clause-two : goal.split-requires-clause-two
split-requires-clause-two c = (split_from (view c.args.rest.now).makers 0 c.requires.makers (omega arith)).2

pub returns-clause-interface : goal.returns-clause-interface
returns-clause-interface c = ap (λ v. has 0 v.makers) c.split.ensures.new ∙ ap (λ k. has 0 (k ∷ [])) (split_from (view c.args.rest.now).makers 0 c.requires.makers (omega arith)).1

pub returns-clause-slot : goal.returns-clause-slot
returns-clause-slot c =
    ap (λ v. has 16 v.makers) c.split.ensures.view ∙ (ap (has 16) (split_from (view c.args.rest.now).makers 0 c.requires.makers (omega arith)).0 ∙ has_from 1 16 (omega arith) (omega arith))
