-- Places with the same kind, order, offset and size.
use Rattle.std.proofs.Common.{◌≡◌, ℤ, Bool, true, false, ◌||◌, refl, ap, ◌∙◌}
use Rattle.cts_bits.specs.declared.order.Order.{Order}
use Rattle.cts_def.specs.declared.item_kind.ItemKind.{ItemKind}
use Rattle.cts_def.specs.declared.span.Span.{Span}
use Rattle.cts_def.specs.Spans.{is_misplaced}

abbrev pub at : ItemKind → Order → ℤ → ℤ → Span
at kind order offset size = record { kind = kind; order = order; offset = offset; size = size }

pub same_place : (kind : ItemKind) (o p : Order) (x y s t : ℤ) → o ≡ p → x ≡ y → s ≡ t → is_misplaced (at kind o x s) ≡ is_misplaced (at kind p y t)
same_place kind o p x y s t order offset size =
    ap (λ (q : Order). is_misplaced (at kind q x s)) order
    ∙ ap (λ (z : ℤ). is_misplaced (at kind p z s)) offset
    ∙ ap (λ (z : ℤ). is_misplaced (at kind p y z)) size

-- ---- ten tests, of which six are of the place alone

pub six_and_more : (a b c d e f g h i j : Bool)
    → (a || (b || (c || (d || (e || (f || false)))))) || g || h || i || j ≡ a || (b || (c || (d || (e || (f || (g || (h || (i || (j || false)))))))))
six_and_more true b c d e f g h i j = refl
six_and_more false true c d e f g h i j = refl
six_and_more false false true d e f g h i j = refl
six_and_more false false false true e f g h i j = refl
six_and_more false false false false true f g h i j = refl
six_and_more false false false false false true g h i j = refl
six_and_more false false false false false false true h i j = refl
six_and_more false false false false false false false true i j = refl
six_and_more false false false false false false false false true j = refl
six_and_more false false false false false false false false false true = refl
six_and_more false false false false false false false false false false = refl

pub all_ten : (a b c d e f g h i j by_itself later id parameter last : Bool) → by_itself ≡ a || (b || (c || (d || (e || (f || false))))) → later ≡ g → id ≡ h → parameter ≡ i → last ≡ j
    → by_itself || later || id || parameter || last ≡ a || (b || (c || (d || (e || (f || (g || (h || (i || (j || false)))))))))
all_ten a b c d e f g h i j by_itself later id parameter last p q r s t = rw (p, q, r, s, t) (six_and_more a b c d e f g h i j)

pub six_first : (a b c d e f rest : Bool) → a || (b || (c || (d || (e || (f || rest))))) ≡ false → (a || (b || (c || (d || (e || (f || false))))) ≡ false) × (rest ≡ false)
six_first true b c d e f rest h = absurd cc
six_first false true c d e f rest h = absurd cc
six_first false false true d e f rest h = absurd cc
six_first false false false true e f rest h = absurd cc
six_first false false false false true f rest h = absurd cc
six_first false false false false false true rest h = absurd cc
six_first false false false false false false rest h = (refl, h)
