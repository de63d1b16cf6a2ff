use Rattle.std.proofs.Common.{◌≡◌, ◌+◌, ◌++◌, ◌∷◌, ◌∙◌, [], ℕ, List, take, sym, ap, subst}
use Rattle.std.proofs.lemmas.Cmp.{nat_list_cmp_total}
use Rattle.std.proofs.lemmas.List.{take_more}
use Rattle.std.specs.Cmp.Lexicographic.{slice_cmp}
use Rattle.std.specs.Ordering.{nat_cmp}
use Rattle.cts_base.specs.Known.{Knows}
use Rattle.cts_base.proofs.Known.{knows_more}
use Rattle.cts_plan.proofs.targets.set_of.Goals as goal

pub loop-name-preserved : goal.loop-name-preserved
loop-name-preserved c =
    let names = c.args.names.now in
    let i = c.loop-name.name-index in
    let item : c.in_ok-clone.field-0 ≡ _ = c.in_ok-clone.ensures.cases ∙ c.name-item.is in
    let front : take i names ++ c.in_ok-clone.field-0 ∷ [] ≡ take (i + 1) names =
    ap (λ (x : List ℕ). take i names ++ x ∷ []) item ∙ sym (take_more names i c.name-item.result c.loop-name-test.true) in
    subst (Knows (slice_cmp nat_cmp) c.insert.new.self) front
    (knows_more nat_list_cmp_total c.loop-name.known c.insert.new.self (take i names) c.in_ok-clone.field-0 c.in_ok-insert.ensures.updates c.loop-name.invariant)
