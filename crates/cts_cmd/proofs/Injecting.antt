-- Injected values: which are of the wrong kind, what they are written over, and that they leave no choice for the bytes.
use Rattle.std.proofs.Common.{◌≡◌, ℕ, ℤ, pos, ◌≤◌, true, false, List, [], ◌∷◌, Some, ◌++◌, ◌-◌, length, take, drop, inl, inr, refl, sym, ap, ◌∙◌, subst, arith}
use Rattle.std.proofs.lemmas.Bool.{cases_Bool}
use Rattle.std.proofs.lemmas.List.{append-nil, length-append, length-replicate}
use Rattle.std.specs.Prelude.{int_le, replicate}
use Rattle.cts_def.specs.Items.{ItemData}
use Rattle.cts_def.specs.Spans.{is_number}
use Rattle.cts_cmd.specs.declared.request.Given.{Given}
use Rattle.cts_cmd.specs.declared.request.Given.TheVariants.{Whole, Text}
use Rattle.cts_cmd.specs.Contents.{content_given}
use Rattle.cts_cmd.specs.Checks.{is_wrong_raw}
use Rattle.cts_cmd.specs.Injects.{Injects, base, from_base, stood}
use Rattle.cts_cmd.specs.Laws.{InjectionsHaveOneOutcome, InjectionsStandOnBytes, RawValuesAreOfTheirKind}
use Rattle.cts_cmd.proofs.OneCommand.{written_one}

wrong_number : (i : ItemData) (t : List ℕ) → is_number i.kind ≡ true → is_wrong_raw i (Text t) ≡ true
wrong_number i t e = elim (cases_Bool (int_le i.size (pos 0))) [ inl h ↦ rw h refl | inr h ↦ rw h (rw e refl) ]

wrong_text : (i : ItemData) (z : ℤ) → is_number i.kind ≡ false → is_wrong_raw i (Whole z) ≡ true
wrong_text i z e = elim (cases_Bool (int_le i.size (pos 0))) [ inl h ↦ rw h refl | inr h ↦ rw h (rw e refl) ]

wrong_length : (i : ItemData) (g : Given) → int_le i.size (pos 0) ≡ true → is_wrong_raw i g ≡ true
wrong_length i g e = rw e refl

pub of_their_kind : RawValuesAreOfTheirKind
of_their_kind = record { number = wrong_number; text = wrong_text; length = wrong_length }

filled_up : (bytes : List ℕ) (count : ℕ) → length bytes ≤ count → length (stood (Some bytes) count) ≡ count
filled_up bytes count h = let e = length-append bytes (replicate (count - length bytes) 0) in let f = length-replicate {A = ℕ} (count - length bytes) 0 in omega (arith, e, f)

kept_whole : (bytes : List ℕ) (count : ℕ) → count ≤ length bytes → stood (Some bytes) count ≡ bytes
kept_whole bytes count h = let none : count - length bytes ≡ 0 = omega arith in rw none (append-nil bytes)

pub stand_on_bytes : InjectionsStandOnBytes
stand_on_bytes = record { zeros = λ count. refl; filled = filled_up; whole = kept_whole }

pub injected_one : InjectionsHaveOneOutcome
injected_one [] old one other a b = a ∙ sym b
injected_one (m ∷ ms) old one other a b =
    let at = base (length old) m.0 in
    let part = written_one (from_base m.0) (content_given m.0 m.1) (drop at old) a.1.0 b.1.0 a.1.1 b.1.1 in
    let next : a.0 ≡ b.0 = a.1.2 ∙ ap (λ (x : List ℕ). take at old ++ x) part ∙ sym b.1.2 in
    injected_one ms b.0 one other (subst (λ x. Injects ms x one) next a.2) b.2
