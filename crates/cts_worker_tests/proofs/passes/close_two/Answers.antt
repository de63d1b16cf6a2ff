use Rattle.std.proofs.Common.{lit<, ap, ◌∙◌}
use Rattle.cts_worker_tests.proofs.Two.{first_of_two, all_of_two, one_has}
use Rattle.cts_worker_tests.proofs.passes.close_two.Goals as goal

pub close-requires-clause-all : goal.close-requires-clause-all
close-requires-clause-all g c =
    let r = c.requires.makers in
    all_of_two _ _ _ _ _ r.0 r.1 r.2 (ap (λ v. v.makers) c.join.ensures.view) (ap (λ v. v.makers) c.join-2.ensures.view)

pub returns-clause-first : goal.returns-clause-first
returns-clause-first g c =
    let r = c.requires.makers in
    let j = ap (λ v. v.makers) c.join.ensures.view in
    let all = all_of_two _ _ _ _ _ r.0 r.1 r.2 j (ap (λ v. v.makers) c.join-2.ensures.view) in
    let has = first_of_two _ _ _ r.1 j in
    c.close.ensures.own 0 (all 0 (lit< tt)) ∙ c.join-2.ensures.my_own 0 has.1 ∙ c.join.ensures.their_own 0 has.0

pub returns-clause-second : goal.returns-clause-second
returns-clause-second g c =
    let r = c.requires.makers in
    let j = ap (λ v. v.makers) c.join.ensures.view in
    let all = all_of_two _ _ _ _ _ r.0 r.1 r.2 j (ap (λ v. v.makers) c.join-2.ensures.view) in
    c.close.ensures.own 1 (all 1 (lit< tt)) ∙ c.join-2.ensures.their_own 1 (one_has _ r.2)
