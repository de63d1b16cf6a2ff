use Rattle.std.proofs.Common.{◌≡◌, SFits, true, false, rules, sym, subst, w32}
use Rattle.std.specs.Int.{is_negative}
use Rattle.std.proofs.lemmas.Int.{to_z-of_z}
use Rattle.cts_def.specs.Items.{ItemData, span_of}
use Rattle.cts_def.specs.Spans.{is_misplaced}
use Rattle.cts_cmd.proofs.Behind.{after, placed_after}
use Rattle.cts_cmd.proofs.write.span_from_base.Goals as goal

pub returns-then-item-lt0-clause-placed : goal.returns-then-item-lt0-clause-placed
returns-then-item-lt0-clause-placed c =
    let i = c.args.item.now in
    let placed : is_misplaced (span_of i) ≡ false = subst (λ (j : ItemData). is_misplaced (span_of j) ≡ false) c.item.view_is c.item.invariant.placed in
    let end : is_negative i.offset ≡ true = search rules in
    let fits : SFits w32 c.item.inside.size = search rules in
    rw (to_z-of_z w32 c.item.inside.size fits) (subst (λ (j : ItemData). is_misplaced (after (span_of j)) ≡ false) (sym c.item.view_is) (placed_after (span_of i) end placed))

pub returns-clause-placed : goal.returns-clause-placed
returns-clause-placed c =
    let placed : is_misplaced (span_of c.args.item.now) ≡ false = subst (λ (j : ItemData). is_misplaced (span_of j) ≡ false) c.item.view_is c.item.invariant.placed in
    rw c.span.ensures placed
