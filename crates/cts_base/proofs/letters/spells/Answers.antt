use Rattle.std.proofs.Common.{◌≡◌, ℕ, List, [], ◌∷◌, length, refl, ap, ◌∙◌, arith, ◌==◌, ◌&&◌}
use Rattle.std.specs.List.{list_all, zip}
use Rattle.cts_base.specs.Names.{spells, upper}
use Rattle.cts_base.proofs.letters.spells.Goals as goal

spells_by_bytes : (word text : List ℕ) → length word ≡ length text → list_all (λ (c : ℕ × ℕ). upper c.0 == c.1) (zip word text) ≡ spells word text
spells_by_bytes [] [] h = refl
spells_by_bytes [] (d ∷ text) h = absurd (omega arith)
spells_by_bytes (c ∷ word) [] h = absurd (omega arith)
spells_by_bytes (c ∷ word) (d ∷ text) h = ap (λ b. upper c == d && b) (spells_by_bytes word text (omega arith))

pub returns-then-word-text : goal.returns-then-word-text
returns-then-word-text c = c.agrees.ensures ∙ spells_by_bytes c.args.word.now c.args.text.now c.if-word-text.true
