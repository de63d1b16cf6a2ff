-- What is true of a line without a cause.
use Rattle.std.proofs.Common.{◌≡◌, ℕ, false, List, None, Some, refl, ap, sym, ◌∙◌, Option}
use Rattle.cts_defstatement.specs.declared.details.Detail.{Detail}
use Rattle.cts_defstatement.specs.declared.details.Detail.TheVariants as detail
use Rattle.cts_defstatement.specs.declared.line.Line.{Line}
use Rattle.cts_defstatement.specs.declared.line.Line.TheVariants as line
use Rattle.cts_defread.specs.declared.drafted.Drafted.{Drafted}
use Rattle.cts_defread.specs.Causes.{is_wrong_kind, is_text_id, is_double, is_little_append, is_bad_place, is_bad_id, is_bad_preset, is_too_large_in, is_bad_order, is_bad_format, is_too_many, open_item, passes, has_state, has_set, has_bound, has_all_states, has_all_segments, holds, place_order, place_cause}
use Rattle.cts_defstatement.specs.Rules.{IsSoundLine}
use Rattle.cts_defread.specs.Sound.{FitsLast}
use Rattle.cts_def.specs.Items.{ItemData}
use Rattle.cts_words.proofs.Finds.{none_passes}

pub record Clean (packets : List Drafted) (sets : List (List ℕ)) (l : Line) : Type 0 where
  pub allowed : is_wrong_kind (open_item packets) l ≡ false
  pub whole_id : is_text_id l ≡ false
  pub single : is_double packets l ≡ false
  pub appended : is_little_append packets l ≡ false
  pub placed : is_bad_place packets l ≡ false
  pub id : is_bad_id l ≡ false
  pub preset : is_bad_preset l ≡ false
  pub small : is_too_large_in (open_item packets) l ≡ false
  pub ordered : is_bad_order (open_item packets) l ≡ false
  pub formed : is_bad_format l ≡ false
  pub few : is_too_many packets sets l ≡ false

pub clean : (packets : List Drafted) (sets : List (List ℕ)) (l : Line) → place_cause packets sets l ≡ None → Clean packets sets l
clean packets sets l none =
    let h = none_passes (λ c. holds c packets sets l) place_order none in
    record {
      allowed = h.0;
      whole_id = h.1.0;
      single = h.1.1.0;
      appended = h.1.1.1.0;
      placed = h.1.1.1.1.0;
      id = h.1.1.1.1.1.0;
      preset = h.1.1.1.1.1.1.0;
      small = h.1.1.1.1.1.1.1.0;
      ordered = h.1.1.1.1.1.1.1.1.0;
      formed = h.1.1.1.1.1.1.1.1.1.0;
      few = h.1.1.1.1.1.1.1.1.1.1.0;
    }

-- ---- details

fits_at : (packets : List Drafted) (sets : List (List ℕ)) (d : Detail) (o : Option ItemData) → open_item packets ≡ o → Clean packets sets (line.Detail d) → IsSoundLine (line.Detail d) → FitsLast o d
fits_at packets sets d None e h sound = tt
fits_at packets sets (detail.State s) (Some i) e h sound = record {
  allowed = ap (λ (o : Option ItemData). is_wrong_kind o (line.Detail (detail.State s))) (sym e) ∙ h.allowed;
  single = ap (passes (has_state s.name)) (sym e) ∙ h.single;
  small = h.small;
  ordered = h.ordered;
  formed = h.formed;
  few = ap (passes has_all_states) (sym e) ∙ h.few;
  lasting = sound;
}
fits_at packets sets (detail.Limits l) (Some i) e h sound = record {
  allowed = ap (λ (o : Option ItemData). is_wrong_kind o (line.Detail (detail.Limits l))) (sym e) ∙ h.allowed;
  single = ap (passes (has_set l.set)) (sym e) ∙ h.single;
  small = h.small;
  ordered = ap (λ (o : Option ItemData). is_bad_order o (line.Detail (detail.Limits l))) (sym e) ∙ h.ordered;
  formed = h.formed;
  few = refl;
  lasting = sound;
}
fits_at packets sets (detail.Poly coefficients) (Some i) e h sound = record {
  allowed = ap (λ (o : Option ItemData). is_wrong_kind o (line.Detail (detail.Poly coefficients))) (sym e) ∙ h.allowed;
  single = refl;
  small = ap (λ (o : Option ItemData). is_too_large_in o (line.Detail (detail.Poly coefficients))) (sym e) ∙ h.small;
  ordered = h.ordered;
  formed = h.formed;
  few = refl;
  lasting = sound;
}
fits_at packets sets (detail.Segment s) (Some i) e h sound = record {
  allowed = ap (λ (o : Option ItemData). is_wrong_kind o (line.Detail (detail.Segment s))) (sym e) ∙ h.allowed;
  single = ap (passes (has_bound s.bound)) (sym e) ∙ h.single;
  small = ap (λ (o : Option ItemData). is_too_large_in o (line.Detail (detail.Segment s))) (sym e) ∙ h.small;
  ordered = h.ordered;
  formed = h.formed;
  few = ap (passes has_all_segments) (sym e) ∙ h.few;
  lasting = sound;
}
fits_at packets sets (detail.Units full short) (Some i) e h sound =
    record { allowed = refl; single = refl; small = refl; ordered = refl; formed = refl; few = refl; lasting = sound }
fits_at packets sets (detail.Format text) (Some i) e h sound =
    record { allowed = refl; single = refl; small = refl; ordered = refl; formed = h.formed; few = refl; lasting = sound }
fits_at packets sets (detail.Overflow o) (Some i) e h sound =
    record { allowed = refl; single = refl; small = refl; ordered = refl; formed = refl; few = refl; lasting = sound }
fits_at packets sets detail.Required (Some i) e h sound =
    record { allowed = refl; single = refl; small = refl; ordered = refl; formed = refl; few = refl; lasting = sound }

pub fits : (packets : List Drafted) (sets : List (List ℕ)) (d : Detail) → place_cause packets sets (line.Detail d) ≡ None → IsSoundLine (line.Detail d) → FitsLast (open_item packets) d
fits packets sets d none sound = fits_at packets sets d (open_item packets) refl (clean packets sets (line.Detail d) none) sound
