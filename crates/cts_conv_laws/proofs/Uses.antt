-- Of some segments one is used.
use Rattle.std.proofs.Common.{◌≡◌, ◌∙◌, ℤ, List, [], ◌∷◌, Option, Some, None, refl, ap, subst, arith}
use Rattle.std.specs.List.{filter, fold, reduce}
use Rattle.cts_def.specs.Items.{ItemData, IsSoundConversion, IsSoundItem}
use Rattle.cts_def.specs.declared.conversion.Conversion.{Conversion}
use Rattle.cts_def.specs.declared.conversion.Conversion.TheVariants.{Segments}
use Rattle.cts_def.specs.declared.conversion.Segment.{Segment}
use Rattle.cts_conv.specs.Conversions.{before_states, by_segment, converted_number, greater, is_from, lesser, or_else, polynomial, used}
use Rattle.cts_conv.specs.declared.value.Value.{Value}
use Rattle.cts_conv.specs.declared.value.Value.TheVariants.{Whole, Parts}
use Rattle.cts_conv.proofs.Nearest.{used_is_nearest}
use Rattle.cts_conv_laws.specs.Uses.{SegmentsConvert, SomeSegmentIsUsed}

some_of : (s : Segment) (ss : List Segment) (o : Option Segment) → (t : Segment) × (or_else o (reduce lesser (s ∷ ss)) ≡ Some t)
some_of s ss None = (fold lesser s ss, refl)
some_of s ss (Some t) = (t, refl)

pub some_segment_is_used : SomeSegmentIsUsed
some_segment_is_used [] x some = absurd (omega (arith, some))
some_segment_is_used (s ∷ ss) x some =
    let one = some_of s ss (reduce greater (filter (is_from x) (s ∷ ss))) in
    record { segment = one.0; it = one.1; nearest = used_is_nearest (s ∷ ss) x one.0 one.1 }

converted_by : (i : ItemData) (segments : List Segment) (x : ℤ) (s : Segment) → i.conversion ≡ Segments segments → used segments x ≡ Some s → before_states i (Whole x) ≡ Parts (record { parts = polynomial s.coefficients x })
converted_by i segments x s e it =
    ap (λ (c : Conversion). converted_number c x) e ∙ ap (λ (o : Option Segment). let v : Value = Parts (record { parts = by_segment o x }) in v) it

pub segments_convert : (i : ItemData) → IsSoundItem i → SegmentsConvert i
segments_convert i sound segments x e =
    let kept : IsSoundConversion i.kind i.size (Segments segments) = subst (IsSoundConversion i.kind i.size) e sound.conversion in
    let one = some_segment_is_used segments x kept.1.some in
    record { segment = one.segment; nearest = one.nearest; value = converted_by i segments x one.segment e one.it }
