-- Parameters of protocols, each read of its own word.
use Rattle.std.proofs.Common.{◌≡◌, ℕ, zero, suc, pos, Bool, true, false, List, [], ◌∷◌, Option, Some, None, refl, sym, ◌∙◌, ap, subst}
use Rattle.std.specs.Prelude.{zip, slice_get, unwrap_or, is_none, nat_eq, length, option_map, if◌then◌else◌}
use Rattle.std.specs.List.{list_any}
use Rattle.cts_base.specs.Wholes.{whole_of}
use Rattle.cts_bits.specs.Places.{is_refused}
use Rattle.cts_bits.specs.declared.order.Order.TheVariants.{Big}
use Rattle.cts_def.specs.Most.{frame_limit}
use Rattle.cts_def.specs.Packets.{DefinitionsData}
use Rattle.cts_def.specs.declared.proto_spec.Kind.{Kind}
use Rattle.cts_def.specs.declared.proto_spec.Kind.TheVariants as kind
use Rattle.cts_plan.specs.declared.keyword.Field.{Field}
use Rattle.cts_plan.specs.declared.keyword.Field.TheVariants as field
use Rattle.cts_plan.specs.declared.words.Way.{Way}
use Rattle.cts_plan.specs.Steps.{StepData}
use Rattle.cts_plan.specs.Words.{word, flag_of, order_of, size_of, bits_of, per_count_of, max_of, layout_of, layout_in, signed_of, signed_in, natural_in, pattern_of}
use Rattle.cts_plan.specs.Forms.{parameter_fields, is_other_choice, is_no_number}
use Rattle.cts_plan.specs.Lines.{flag_or, size_or_zero, layout_or_two, length_offset, length_bits, length_order, length_with, terminated_with, step_with}
use Rattle.cts_plan.specs.Standing.{use_of}
use Rattle.cts_plan_laws.specs.Parameters.{IsRead, some_pattern, some_max, IsUse, Fit, ParametersAreOfTheirWords}
use Rattle.cts_plan.proofs.Lists.{neither}

-- the word at a place, where there is one and where there is none
word_at : (ws : List (List ℕ)) (k : ℕ) (w : List ℕ) → slice_get ws k ≡ Some w → word ws k ≡ w
word_at [] k w e = absurd cc
word_at (x ∷ ws) zero w e = cc
word_at (x ∷ ws) (suc k) w e = word_at ws k w e

no_word_at : (ws : List (List ℕ)) (k : ℕ) → slice_get ws k ≡ None → word ws k ≡ []
no_word_at [] k e = refl
no_word_at (x ∷ ws) zero e = absurd cc
no_word_at (x ∷ ws) (suc k) e = no_word_at ws k e

-- a word that passes the test of all fields passes that of its own
pub fits_at : (fails : Field → List ℕ → Bool) (fields : List Field) (ws : List (List ℕ)) (k : ℕ) (f : Field) (w : List ℕ)
    → list_any (λ p. fails p.0 p.1) (zip fields ws) ≡ false → slice_get fields k ≡ Some f → slice_get ws k ≡ Some w → fails f w ≡ false
fits_at fails [] ws k f w none here there = absurd cc
fits_at fails (g ∷ fields) [] k f w none here there = absurd cc
fits_at fails (g ∷ fields) (x ∷ ws) zero f w none here there = let h : fails g x ≡ false = (neither _ _ none).0 in cc
fits_at fails (g ∷ fields) (x ∷ ws) (suc k) f w none here there = fits_at fails fields ws k f w (neither _ _ none).1 here there

is_there : {X : Type 0} (o : Option X) (default : X) → is_none o ≡ false → o ≡ Some (unwrap_or o default)
is_there None default h = absurd cc
is_there (Some x) default h = refl

-- what is read with a default
read_or : {X : Type 0} (reads : List ℕ → Option X) (default : X) (ws : List (List ℕ)) (k : ℕ) (found : Option (List ℕ)) → slice_get ws k ≡ found
    → reads [] ≡ None → ((w : List ℕ) → slice_get ws k ≡ Some w → is_none (reads w) ≡ false) → IsRead reads default found (unwrap_or (reads (word ws k)) default)
read_or reads default ws k None e nothing fits = ap (λ w. unwrap_or (reads w) default) (no_word_at ws k e) ∙ ap (λ o. unwrap_or o default) nothing
read_or reads default ws k (Some w) e nothing fits = is_there (reads w) default (fits w e) ∙ ap (λ v. Some (unwrap_or (reads v) default)) (sym (word_at ws k w e))

read_always : {X : Type 0} (reads : List ℕ → X) (default : X) (ws : List (List ℕ)) (k : ℕ) (found : Option (List ℕ)) → slice_get ws k ≡ found
    → reads [] ≡ default → IsRead (λ w. Some (reads w)) default found (reads (word ws k))
read_always reads default ws k None e nothing = ap reads (no_word_at ws k e) ∙ nothing
read_always reads default ws k (Some w) e nothing = ap (λ v. Some (reads v)) (sym (word_at ws k w e))

no_number : whole_of [] ≡ None
unfolding whole_of
no_number = refl

size_at : (kind : Kind) (ws : List (List ℕ)) (k : ℕ) → Fit kind ws → slice_get (parameter_fields kind) k ≡ Some field.Size → IsRead size_of 0 (slice_get ws k) (size_or_zero (word ws k))
size_at kind ws k fit at = read_or size_of 0 ws k (slice_get ws k) refl (ap (natural_in 0 frame_limit) no_number) (λ w there. fits_at is_no_number (parameter_fields kind) ws k field.Size w fit.numbers at there)

bits_at : (kind : Kind) (ws : List (List ℕ)) (k default : ℕ) → Fit kind ws → slice_get (parameter_fields kind) k ≡ Some field.Bits → IsRead bits_of default (slice_get ws k) (unwrap_or (bits_of (word ws k)) default)
bits_at kind ws k default fit at = read_or bits_of default ws k (slice_get ws k) refl (ap (natural_in 0 8388608) no_number) (λ w there. fits_at is_no_number (parameter_fields kind) ws k field.Bits w fit.numbers at there)

flag_at : (kind : Kind) (ws : List (List ℕ)) (k : ℕ) (default : Bool) → Fit kind ws → slice_get (parameter_fields kind) k ≡ Some field.Flag → IsRead flag_of default (slice_get ws k) (flag_or default (word ws k))
flag_at kind ws k default fit at = read_or flag_of default ws k (slice_get ws k) refl refl (λ w there. fits_at is_other_choice (parameter_fields kind) ws k field.Flag w fit.choices at there)

pattern_at : (ws : List (List ℕ)) (k : ℕ) → IsRead some_pattern [] (slice_get ws k) (pattern_of (word ws k))
pattern_at ws k = read_always pattern_of [] ws k (slice_get ws k) refl refl

max_at : (ws : List (List ℕ)) (k : ℕ) → IsRead some_max None (slice_get ws k) (max_of (word ws k))
max_at ws k = read_always max_of None ws k (slice_get ws k) refl (ap (natural_in 0 18446744073709551615) no_number)

layout_at : (ws : List (List ℕ)) → Fit kind.Preidentified ws → IsRead layout_of 2 (slice_get ws 2) (layout_or_two (word ws 2))
layout_at ws fit =
    read_or layout_of 2 ws 2 (slice_get ws 2) refl (ap (λ o. layout_in (natural_in 2 4 o)) no_number) (λ w there. fits_at is_no_number (parameter_fields kind.Preidentified) ws 2 field.Layout w fit.numbers refl there)

the_same : {X : Type 0} (x y : X) → Some x ≡ Some y → x ≡ y
the_same x y e = cc

length_use : (d : DefinitionsData) (targets : List (List ℕ)) (n : ℕ) (way : Way) (ws : List (List ℕ)) (step : StepData) (refused : Bool) → Fit kind.Length ws
    → option_map (step_with n way) (option_map (length_with ws) (if refused then None else Some (record { offset = length_offset ws; bits = length_bits ws; order = length_order ws }))) ≡ Some step
    → IsUse way kind.Length ws (use_of d targets step)
length_use d targets n way ws step true fit e = absurd cc
length_use d targets n way ws step false fit e = subst (λ s. IsUse way kind.Length ws (use_of d targets s)) (the_same _ _ e) (record {
  same_kind = refl;
  parameters = record {
    offset = bits_at kind.Length ws 0 0 fit refl;
    bits = bits_at kind.Length ws 1 16 fit refl;
    value_offset = read_or signed_of (pos 0) ws 2 (slice_get ws 2) refl (ap signed_in no_number) (λ w there. fits_at is_no_number (parameter_fields kind.Length) ws 2 field.ValueOffset w fit.numbers refl there);
    per_count = read_or per_count_of 1 ws 3 (slice_get ws 3) refl (ap (natural_in 1 65535) no_number) (λ w there. fits_at is_no_number (parameter_fields kind.Length) ws 3 field.PerCount w fit.numbers refl there);
    order = read_or order_of Big ws 4 (slice_get ws 4) refl refl (λ w there. fits_at is_other_choice (parameter_fields kind.Length) ws 4 field.Endianness w fit.choices refl there);
    discard = size_at kind.Length ws 5 fit refl;
    sync = pattern_at ws 6;
    max = max_at ws 7;
    fill = flag_at kind.Length ws 8 false fit refl;
  };
  reads = refl;
  writes = refl;
})

terminated_use : (d : DefinitionsData) (targets : List (List ℕ)) (n : ℕ) (way : Way) (ws : List (List ℕ)) (step : StepData) (empty : Bool) → Fit kind.Terminated ws
    → option_map (step_with n way) (if empty then None else Some (terminated_with ws)) ≡ Some step
    → IsUse way kind.Terminated ws (use_of d targets step)
terminated_use d targets n way ws step true fit e = absurd cc
terminated_use d targets n way ws step false fit e = subst (λ s. IsUse way kind.Terminated ws (use_of d targets s)) (the_same _ _ e) (record {
  same_kind = refl;
  parameters = record {
    write = pattern_at ws 0;
    read = pattern_at ws 1;
    strip = flag_at kind.Terminated ws 2 true fit refl;
    discard = size_at kind.Terminated ws 3 fit refl;
    sync = pattern_at ws 4;
    fill = flag_at kind.Terminated ws 5 false fit refl;
  };
  reads = refl;
  writes = refl;
})

pub parameters_are_of_their_words : ParametersAreOfTheirWords
parameters_are_of_their_words d targets n way kind.Burst ws step fit e = subst (λ s. IsUse way kind.Burst ws (use_of d targets s)) (the_same _ _ e) (record {
  same_kind = refl;
  parameters = record { discard = size_at kind.Burst ws 0 fit refl; sync = pattern_at ws 1; fill = flag_at kind.Burst ws 2 false fit refl };
  reads = refl;
  writes = refl;
})
parameters_are_of_their_words d targets n way kind.Fixed ws step fit e = subst (λ s. IsUse way kind.Fixed ws (use_of d targets s)) (the_same _ _ e) (record {
  same_kind = refl;
  parameters = record {
    min_id = size_at kind.Fixed ws 0 fit refl;
    discard = size_at kind.Fixed ws 1 fit refl;
    sync = pattern_at ws 2;
    telemetry = flag_at kind.Fixed ws 3 true fit refl;
    fill = flag_at kind.Fixed ws 4 false fit refl;
    raise = flag_at kind.Fixed ws 5 false fit refl;
  };
  reads = refl;
  writes = refl;
})
parameters_are_of_their_words d targets n way kind.Length ws step fit e = length_use d targets n way ws step (is_refused (length_order ws) (length_offset ws) (length_bits ws)) fit e
parameters_are_of_their_words d targets n way kind.Terminated ws step fit e = terminated_use d targets n way ws step (nat_eq (length (pattern_of (word ws 1))) 0) fit e
parameters_are_of_their_words d targets n way kind.Preidentified ws step fit e = subst (λ s. IsUse way kind.Preidentified ws (use_of d targets s)) (the_same _ _ e) (record {
  same_kind = refl;
  parameters = record { sync = pattern_at ws 0; max = max_at ws 1; layout = layout_at ws fit };
  reads = refl;
  writes = refl;
})
