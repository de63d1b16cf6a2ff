-- Words for which no cause holds say lines that keep their rules.
use Rattle.std.proofs.Common.{◌≡◌, ℕ, ℤ, pos, negsuc, ◌+◌, ◌≤◌, suc, Bool, true, false, ◌&&◌, ◌||◌, List, [], ◌∷◌, ◌++◌, length, map, Option, Some, None, refl, ap, ap₂, ◌∙◌, arith, nat_le}
use Rattle.std.specs.Prelude.{not, unwrap_or, is_some, codes, if◌then◌else◌}
use Rattle.std.proofs.lemmas.Bool.{and_from, or_parts}
use Rattle.std.proofs.lemmas.Bool.Decides.{nat_tests}
use Rattle.std.proofs.lemmas.Cmp.{int_eq_equiv, nat_list_eq_equiv}
use Rattle.std.proofs.lemmas.List.{length-map}
use Rattle.cts_base.specs.Names.{in_upper_case, spells, upper}
use Rattle.cts_base.specs.Wholes.{whole_of}
use Rattle.cts_def.specs.declared.item_kind.Preset.{Preset}
use Rattle.cts_def.specs.declared.color.Color.TheVariants.{StateRed, StateYellow, StateGreen}
use Rattle.cts_def.specs.Items.{has_coefficients, has_color, is_same, is_sound_color, is_sound_state}
use Rattle.cts_def.specs.Spans.{is_number}
use Rattle.cts_defstatement.specs.declared.keyword.Keyword.{Keyword}
use Rattle.cts_defstatement.specs.declared.keyword.Keyword.TheVariants as keyword
use Rattle.cts_defstatement.specs.declared.line.Line.TheVariants as line
use Rattle.cts_defstatement.specs.declared.open.Open.{Open}
use Rattle.cts_defstatement.specs.declared.open.PacketKind.{PacketKind}
use Rattle.cts_defstatement.specs.declared.open.PacketKind.TheVariants as «kind»
use Rattle.cts_defstatement.specs.Fields.{is_color, is_other_choice}
use Rattle.cts_defstatement.specs.Forms.{size_at, wanted, more, fits, kind_of_keyword, state_wanted, state_fields}
use Rattle.cts_reader.specs.Words.{word_at}
use Rattle.cts_defstatement.specs.Lines.{bound_in, color_of, kind_in, line_of, number_parameter, state_def, text_parameter}
use Rattle.cts_defstatement.specs.Numbers.{count_in, decimal}
use Rattle.cts_defstatement.specs.Refusals.{form_kind, is_of_other_kind, open_kind}
use Rattle.cts_reader.specs.Words.{any_word}
use Rattle.cts_defstatement.specs.Rules.{IsSoundLine, KeepsRules, has_wanted_default, has_wanted_range, is_of_kind, suits}
use Rattle.cts_defstatement.proofs.NamesRead.{AreReadable, so_true}

-- ---- states

upper_twice : (c : ℕ) → upper (upper c) ≡ upper c
upper_twice c = grind (arith, nat_tests)

in_upper_case_twice : (word : List ℕ) → in_upper_case (in_upper_case word) ≡ in_upper_case word
in_upper_case_twice [] = refl
in_upper_case_twice (c ∷ word) = ap₂ ◌∷◌ (upper_twice c) (in_upper_case_twice word)

colors_of_states : (a b c : Bool) → is_sound_color (if a then Some StateGreen else if b then Some StateYellow else if c then Some StateRed else None) ≡ true
colors_of_states true b c = refl
colors_of_states false true c = refl
colors_of_states false false true = refl
colors_of_states false false false = refl

state_sound : (words : List (List ℕ)) → is_sound_state (state_def words) ≡ true
state_sound words =
    let name : List ℕ = in_upper_case (word_at words 0) in
    let word : List ℕ = word_at words 2 in
    and_from (is_sound_color (color_of word)) (spells name name)
    (colors_of_states (is_same word (codes "GREEN")) (is_same word (codes "YELLOW")) (is_same word (codes "RED")))
    (ap (λ (text : List ℕ). is_same text name) (in_upper_case_twice (word_at words 0)) ∙ nat_list_eq_equiv.refl name)

-- a word is no other text than the one that it is
other : (word text third : List ℕ) → is_same text third ≡ false → is_same word text ≡ true → is_same word third ≡ false
other word text third apart e = nat_list_eq_equiv.congr word text third e ∙ apart

one_of_three : (a b c d : Bool) → (a ≡ true → d ≡ false) → (b ≡ true → d ≡ false) → (c ≡ true → d ≡ false) → a || b || c ≡ true → d ≡ false
one_of_three true b c d p q r e = p refl
one_of_three false true c d p q r e = q refl
one_of_three false false true d p q r e = r refl
one_of_three false false false d p q r e = absurd cc

no_hazard : (word : List ℕ) → is_color word ≡ true → is_same word (codes "HAZARDOUS") ≡ false
no_hazard word e =
    one_of_three (is_same word (codes "GREEN")) (is_same word (codes "YELLOW")) (is_same word (codes "RED")) (is_same word (codes "HAZARDOUS"))
    (other word (codes "GREEN") (codes "HAZARDOUS") refl) (other word (codes "YELLOW") (codes "HAZARDOUS") refl) (other word (codes "RED") (codes "HAZARDOUS") refl) e

telemetry_state : (words : List (List ℕ)) → any_word is_other_choice (state_wanted ++ state_fields «kind».Telemetry) words ≡ false → not (state_def words).hazardous ≡ true
telemetry_state [] e = refl
telemetry_state (a ∷ []) e = refl
telemetry_state (a ∷ b ∷ []) e = refl
telemetry_state (a ∷ b ∷ c ∷ words) e = ap not (no_hazard c (so_true (is_color c) (or_parts (not (is_color c)) (any_word is_other_choice [] words) e).0))

colorless : (a b c : Bool) → a ≡ false → b ≡ false → c ≡ false → not (is_some (if a then Some StateGreen else if b then Some StateYellow else if c then Some StateRed else None)) ≡ true
colorless a b c p q r = rw (p, q, r) refl

command_state : (words : List (List ℕ)) → any_word is_other_choice (state_wanted ++ state_fields «kind».Command) words ≡ false → not (has_color (state_def words)) ≡ true
command_state [] e = refl
command_state (a ∷ []) e = refl
command_state (a ∷ b ∷ []) e = refl
command_state (a ∷ b ∷ c ∷ words) e =
    let hazard : is_same c (codes "HAZARDOUS") ≡ true = so_true (is_same c (codes "HAZARDOUS")) (or_parts (not (is_same c (codes "HAZARDOUS"))) _ e).0 in
    colorless (is_same c (codes "GREEN")) (is_same c (codes "YELLOW")) (is_same c (codes "RED"))
    (other c (codes "HAZARDOUS") (codes "GREEN") refl hazard) (other c (codes "HAZARDOUS") (codes "YELLOW") refl hazard) (other c (codes "HAZARDOUS") (codes "RED") refl hazard)

-- ---- what the words see to

some_samples : (o : Option ℤ) → 1 ≤ unwrap_or (count_in o) 1
some_samples None = omega arith
some_samples (Some (pos n)) = grind (arith, nat_tests)
some_samples (Some (negsuc n)) = omega arith

one_less : (n : ℕ) → nat_le 2 (suc n) && nat_le (suc n) 9 ≡ true → nat_le 1 n && nat_le n 8 ≡ true
one_less n e = grind (arith, nat_tests)

coefficients_counted : (words : List (List ℕ)) → nat_le 1 (length words) && nat_le (length words) 8 ≡ true → has_coefficients (map decimal words) ≡ true
coefficients_counted words e = ap (λ (n : ℕ). nat_le 1 n && nat_le n 8) (length-map words decimal) ∙ e

sound : (kind : PacketKind) (k : Keyword) (words : List (List ℕ)) → fits kind k words ≡ true → IsSoundLine (line_of k words)
sound kind keyword.Command words f = tt
sound kind keyword.Telemetry words f = tt
sound kind (keyword.Item append id) words f = tt
sound kind (keyword.Parameter append id) words f = tt
sound kind keyword.State words f = state_sound words
sound kind keyword.Limits words f = some_samples (whole_of (word_at words 1))
sound kind keyword.Poly words f = coefficients_counted words f
sound kind keyword.Segment [] f = absurd cc
sound kind keyword.Segment (word ∷ words) f = coefficients_counted words (one_less (length words) f)
sound kind keyword.Units words f = tt
sound kind keyword.Format words f = tt
sound kind keyword.Overflow words f = tt
sound kind keyword.Required words f = tt
sound kind keyword.Hazardous words f = tt
sound kind keyword.Meta words f = tt
sound kind keyword.AllowShort words f = tt

-- ---- what suits the open definition

number_or_id : (b same : Bool) → same ≡ true → (if b || true then true else false) && same ≡ true
number_or_id true same e = e
number_or_id false same e = e

no_id : (o : Option Preset) → has_wanted_default None o ≡ true
no_id None = refl
no_id (Some preset) = refl

ranged : (append : Bool) (words : List (List ℕ)) (number : Bool) → is_number (kind_in append words) ≡ number
    → is_of_kind «kind».Command (line.Item (if number then number_parameter append false words else text_parameter append words)) ≡ true
ranged append words true e = rw e refl
ranged append words false e =
    let range : has_wanted_range (text_parameter append words) ≡ true = rw e refl in
    and_from (has_wanted_range (text_parameter append words)) (has_wanted_default None (text_parameter append words).preset) range (no_id (text_parameter append words).preset)

of_kind : (kind : PacketKind) (k : Keyword) (words : List (List ℕ)) → is_of_other_kind (Some kind) (kind_of_keyword k) ≡ false
    → any_word is_other_choice (wanted k words ++ more kind k) words ≡ false → is_of_kind kind (line_of k words) ≡ true
of_kind «kind».Telemetry keyword.Command words own chosen = refl
of_kind «kind».Telemetry keyword.Telemetry words own chosen = refl
of_kind «kind».Telemetry (keyword.Item append id) words own chosen = refl
of_kind «kind».Telemetry (keyword.Parameter append id) words own chosen = absurd cc
of_kind «kind».Telemetry keyword.State words own chosen = telemetry_state words chosen
of_kind «kind».Telemetry keyword.Limits words own chosen = refl
of_kind «kind».Telemetry keyword.Poly words own chosen = refl
of_kind «kind».Telemetry keyword.Segment words own chosen = refl
of_kind «kind».Telemetry keyword.Units words own chosen = refl
of_kind «kind».Telemetry keyword.Format words own chosen = refl
of_kind «kind».Telemetry keyword.Overflow words own chosen = refl
of_kind «kind».Telemetry keyword.Required words own chosen = absurd cc
of_kind «kind».Telemetry keyword.Hazardous words own chosen = absurd cc
of_kind «kind».Telemetry keyword.Meta words own chosen = refl
of_kind «kind».Telemetry keyword.AllowShort words own chosen = refl
of_kind «kind».Command keyword.Command words own chosen = refl
of_kind «kind».Command keyword.Telemetry words own chosen = refl
of_kind «kind».Command (keyword.Item append id) words own chosen = absurd cc
of_kind «kind».Command (keyword.Parameter append true) words own chosen =
    number_or_id (is_number (kind_in append words)) _ (int_eq_equiv.refl (bound_in append words (size_at append + 2 + 2)))
of_kind «kind».Command (keyword.Parameter append false) words own chosen = ranged append words (is_number (kind_in append words)) refl
of_kind «kind».Command keyword.State words own chosen = command_state words chosen
of_kind «kind».Command keyword.Limits words own chosen = absurd cc
of_kind «kind».Command keyword.Poly words own chosen = absurd cc
of_kind «kind».Command keyword.Segment words own chosen = absurd cc
of_kind «kind».Command keyword.Units words own chosen = refl
of_kind «kind».Command keyword.Format words own chosen = refl
of_kind «kind».Command keyword.Overflow words own chosen = refl
of_kind «kind».Command keyword.Required words own chosen = refl
of_kind «kind».Command keyword.Hazardous words own chosen = refl
of_kind «kind».Command keyword.Meta words own chosen = refl
of_kind «kind».Command keyword.AllowShort words own chosen = refl

suited : (o : Option PacketKind) (k : Keyword) (words : List (List ℕ)) → is_of_other_kind o (kind_of_keyword k) ≡ false
    → any_word is_other_choice (wanted k words ++ more (form_kind o) k) words ≡ false → suits o (line_of k words) ≡ true
suited None k words own chosen = refl
suited (Some kind) k words own chosen = of_kind kind k words own chosen

pub line_keeps : (opened : Open) (k : Keyword) (words : List (List ℕ)) → AreReadable opened k words → KeepsRules (open_kind opened) (line_of k words)
line_keeps opened k words h = record {
  sound = sound (form_kind (open_kind opened)) k words h.counted;
  suited = suited (open_kind opened) k words h.own_kind h.chosen;
}
