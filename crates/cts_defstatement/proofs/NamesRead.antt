-- Words for which no cause holds are such as their fields ask for, and have names where names have to be.
use Rattle.std.proofs.Common.{◌≡◌, ℕ, ◌≤◌, Bool, true, false, ◌&&◌, List, [], ◌∷◌, ◌++◌, length, drop, Option, Some, None, cond, refl, arith}
use Rattle.std.specs.Prelude.{not, IsTrue, nat_le, find}
use Rattle.std.proofs.lemmas.Bool.{or_parts}
use Rattle.std.proofs.lemmas.Bool.Decides.{nat_tests}
use Rattle.cts_base.specs.Names.{is_name}
use Rattle.cts_defstatement.specs.declared.cause.DefCause.{DefCause}
use Rattle.cts_defstatement.specs.declared.cause.DefCause.TheVariants.{UnknownKeyword, OutsidePacket, WrongCount, BadName}
use Rattle.cts_defstatement.specs.declared.keyword.Keyword.{Keyword}
use Rattle.cts_defstatement.specs.declared.keyword.Keyword.TheVariants.{Command, Telemetry, Item, Parameter, State, Limits, Poly, Segment, Units, Format, Overflow, Required, Hazardous, Meta, AllowShort}
use Rattle.cts_defstatement.specs.declared.keyword.Field.{Field}
use Rattle.cts_defstatement.specs.declared.keyword.Field.TheVariants as field
use Rattle.cts_defstatement.specs.declared.open.Open.{Open}
use Rattle.cts_defstatement.specs.declared.open.PacketKind.{PacketKind}
use Rattle.cts_defstatement.specs.Fields.{is_bad_name, is_other_choice}
use Rattle.cts_defstatement.specs.Forms.{wanted, more, fits, fits_in, kind_of_keyword, has_text_type, item_fields, parameter_fields, last_fields, limits_wanted}
use Rattle.cts_reader.specs.Words.{word_at}
use Rattle.cts_defstatement.specs.Lines.{AreNames}
use Rattle.cts_defstatement.specs.Refusals.{open_kind, form_kind, is_of_other_kind, fields, holds, word_order}
use Rattle.cts_reader.specs.Words.{any_word}

none_of : {X : Type 0} (b : Bool) (x : X) (rest : Option X) → cond b (Some x) rest ≡ None → (b ≡ false) × (rest ≡ None)
none_of true x rest e = absurd cc
none_of false x rest e = (refl, e)

pub so_true : (b : Bool) → not b ≡ false → b ≡ true
so_true true e = refl
so_true false e = absurd cc

-- ---- names in front

one_name : (fs : List Field) (words : List (List ℕ)) → 1 ≤ length words → any_word is_bad_name (field.Name ∷ fs) words ≡ false
    → IsTrue (is_name (word_at words 0))
one_name fs [] h e = absurd (omega arith)
one_name fs (w ∷ words) h e = so_true (is_name w) (or_parts (not (is_name w)) (any_word is_bad_name fs words) e).0

two_names : (fs : List Field) (words : List (List ℕ)) → 2 ≤ length words
    → any_word is_bad_name (field.Name ∷ field.Name ∷ fs) words ≡ false
    → IsTrue (is_name (word_at words 0)) × IsTrue (is_name (word_at words 1))
two_names fs [] h e = absurd (omega arith)
two_names fs (w ∷ words) h e =
    let parts = or_parts (not (is_name w)) (any_word is_bad_name (field.Name ∷ fs) words) e in
    (so_true (is_name w) parts.0, one_name fs words (omega arith) parts.1)

-- enough words for the names
enough : (least most count : ℕ) → (nat_le least count && nat_le count most) ≡ true → least ≤ count
enough least most count e = grind (arith, nat_tests)

parameter_name : (append id text : Bool) (words : List (List ℕ))
    → fits_in (Parameter append id) (length (parameter_fields append id text)) (length (parameter_fields append id text ++ last_fields)) (length words) ≡ true
    → any_word is_bad_name (parameter_fields append id text ++ last_fields) words ≡ false
    → IsTrue (is_name (word_at words 0))
parameter_name true true true words f e = one_name (drop 1 (parameter_fields true true true ++ last_fields)) words (let h = enough 6 8 (length words) f in omega arith) e
parameter_name true true false words f e = one_name (drop 1 (parameter_fields true true false ++ last_fields)) words (let h = enough 6 8 (length words) f in omega arith) e
parameter_name true false true words f e = one_name (drop 1 (parameter_fields true false true ++ last_fields)) words (let h = enough 4 6 (length words) f in omega arith) e
parameter_name true false false words f e = one_name (drop 1 (parameter_fields true false false ++ last_fields)) words (let h = enough 6 8 (length words) f in omega arith) e
parameter_name false true true words f e = one_name (drop 1 (parameter_fields false true true ++ last_fields)) words (let h = enough 7 9 (length words) f in omega arith) e
parameter_name false true false words f e = one_name (drop 1 (parameter_fields false true false ++ last_fields)) words (let h = enough 7 9 (length words) f in omega arith) e
parameter_name false false true words f e = one_name (drop 1 (parameter_fields false false true ++ last_fields)) words (let h = enough 5 7 (length words) f in omega arith) e
parameter_name false false false words f e = one_name (drop 1 (parameter_fields false false false ++ last_fields)) words (let h = enough 7 9 (length words) f in omega arith) e

some_limits : (count : ℕ) → fits_in Limits 7 9 count ≡ true → 1 ≤ count
some_limits count e = grind (arith, nat_tests)

names_in : (kind : PacketKind) (k : Keyword) (words : List (List ℕ)) → fits kind k words ≡ true
    → any_word is_bad_name (wanted k words ++ more kind k) words ≡ false → AreNames k words
names_in kind Command words f e = two_names (field.Order ∷ field.Text ∷ []) words (let h = enough 3 4 (length words) f in omega arith) e
names_in kind Telemetry words f e = two_names (field.Order ∷ field.Text ∷ []) words (let h = enough 3 4 (length words) f in omega arith) e
names_in kind (Item true true) words f e = one_name (drop 1 (item_fields true true (has_text_type true words) ++ last_fields)) words (let h = enough 4 6 (length words) f in omega arith) e
names_in kind (Item true false) words f e = one_name (drop 1 (item_fields true false (has_text_type true words) ++ last_fields)) words (let h = enough 3 5 (length words) f in omega arith) e
names_in kind (Item false true) words f e = one_name (drop 1 (item_fields false true (has_text_type false words) ++ last_fields)) words (let h = enough 5 7 (length words) f in omega arith) e
names_in kind (Item false false) words f e = one_name (drop 1 (item_fields false false (has_text_type false words) ++ last_fields)) words (let h = enough 4 6 (length words) f in omega arith) e
names_in kind (Parameter append id) words f e = parameter_name append id (has_text_type append words) words f e
names_in kind State words f e = tt
names_in kind Limits words f e = one_name (drop 1 (limits_wanted ++ field.Decimal ∷ field.Decimal ∷ [])) words (some_limits (length words) f) e
names_in kind Poly words f e = tt
names_in kind Segment words f e = tt
names_in kind Units words f e = tt
names_in kind Format words f e = tt
names_in kind Overflow words f e = tt
names_in kind Required words f e = tt
names_in kind Hazardous words f e = tt
names_in kind Meta words f e = tt
names_in kind AllowShort words f e = tt

first_none : {X : Type 0} (test : X → Bool) (x : X) (xs : List X) → find test (x ∷ xs) ≡ None
    → (test x ≡ false) × (find test xs ≡ None)
first_none test x xs e = none_of (test x) x (find test xs) e

-- ---- what is known where no cause holds

pub record AreReadable (opened : Open) (k : Keyword) (words : List (List ℕ)) : Type 0 where
  pub own_kind : is_of_other_kind (open_kind opened) (kind_of_keyword k) ≡ false
  pub counted : fits (form_kind (open_kind opened)) k words ≡ true
  pub chosen : any_word is_other_choice (fields opened k words) words ≡ false
  pub named : any_word is_bad_name (fields opened k words) words ≡ false

pub are_readable : (opened : Open) (k : Keyword) (words : List (List ℕ))
    → find (λ c. holds c opened k words) word_order ≡ None → AreReadable opened k words
are_readable opened k words e =
    let test : DefCause → Bool = λ c. holds c opened k words in
    let first = first_none test UnknownKeyword (drop 1 word_order) e in
    let second = first_none test OutsidePacket (drop 2 word_order) first.1 in
    let third = first_none test WrongCount (drop 3 word_order) second.1 in
    let fourth = first_none test BadName (drop 4 word_order) third.1 in
    let count = or_parts (not (fits (form_kind (open_kind opened)) k words)) (any_word is_other_choice (fields opened k words) words) third.0 in
    record {
      own_kind = first.0;
      counted = so_true (fits (form_kind (open_kind opened)) k words) count.0;
      chosen = count.1;
      named = fourth.0;
    }

pub names_read : (opened : Open) (k : Keyword) (words : List (List ℕ)) → AreReadable opened k words → AreNames k words
names_read opened k words h = names_in (form_kind (open_kind opened)) k words h.counted h.named
