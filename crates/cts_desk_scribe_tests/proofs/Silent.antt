-- A maker without entries.
use Rattle.std.proofs.Common.{◌≡◌, ◌∷◌, [], ℕ, ◌==◌, Bool, true, false, cond, List, refl, ap, ◌∙◌}
use Rattle.std.specs.Prelude.{◌||◌}
use Rattle.std.specs.List.{list_any}
use Rattle.cts_entry.specs.declared.entry.Entry.{Entry}
use Rattle.cts_trace.specs.Makers.{of_maker}

or_false : (a b : Bool) → (a || b) ≡ false → (a ≡ false) × (b ≡ false)
or_false true b e = absurd cc
or_false false b e = (refl, e)

pub silent : (by : ℕ) (es : List Entry) → list_any (λ (e : Entry). e.by == by) es ≡ false → of_maker by es ≡ []
silent by [] none = refl
silent by (e ∷ es) none =
    let both = or_false (e.by == by) (list_any (λ (x : Entry). x.by == by) es) none in
    ap (λ b. cond b (e ∷ of_maker by es) (of_maker by es)) both.0 ∙ silent by es both.1
