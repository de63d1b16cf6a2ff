use Rattle.std.proofs.Common.{ℕ, List, [], ◌∷◌, ◌++◌, refl, ap, ◌∙◌, subst}
use Rattle.std.specs.Cmp.Lexicographic.{slice_cmp}
use Rattle.std.specs.Ordering.{nat_cmp}
use Rattle.std.proofs.lemmas.Cmp.{nat_list_cmp_total}
use Rattle.cts_base.specs.Known.{Knows}
use Rattle.cts_base.proofs.Known.{knows_more, knows_none}
use Rattle.cts_defread.proofs.Kept.{none_kept}
use Rattle.cts_defread.proofs.draft.Draft.new.Goals as goal

pub returns-clause-kept : goal.returns-clause-kept
returns-clause-kept c =
    none_kept _ c.new.ensures.items
    (c.in_ok-push.ensures.items ∙ ap (λ (names : List (List ℕ)). names ++ c.in_ok-default_set.field-0 ∷ []) c.new-set_names.ensures.items ∙ ap (λ (name : List ℕ). name ∷ []) c.in_ok-default_set.ensures)
    c.new-2.ensures.empty c.new-3.ensures.empty c.new-4.ensures.empty c.new-5.ensures.empty
    (subst (λ (name : List ℕ). Knows (slice_cmp nat_cmp) c.insert.new.self (name ∷ [])) c.in_ok-default_set-2.ensures
    (knows_more nat_list_cmp_total c.new-sets.result c.insert.new.self [] c.in_ok-default_set-2.field-0 c.in_ok-insert.ensures.updates (knows_none (slice_cmp nat_cmp) c.new-sets.result c.new-sets.ensures.empty)))
    refl refl refl refl refl refl
