-- A line for which no cause holds says an event.
use Rattle.std.proofs.Common.{◌≡◌, ◌∙◌, ℕ, suc, ◌/◌, ◌%◌, Bool, true, false, ◌==◌, ◌||◌, ◌&&◌, List, [], ◌∷◌, length, Option, Some, None, Result, refl, sym, ap, arith}
use Rattle.std.specs.Prelude.{not, is_some, is_none, option_map, option_and_then, find, if◌then◌else◌}
use Rattle.std.specs.List.{list_all, AllByRecursion}
use Rattle.std.specs.Result.{result_ok}
use Rattle.std.proofs.lemmas.Bool.{eqb-true}
use Rattle.std.proofs.lemmas.List.Sums.{AllPass-from_list_all}
use Rattle.hex.specs.Hex.{is_hex_digit}
use Rattle.hex.proofs.HexLemmas.{decode_of-digits, decode_of-ok}
use Rattle.cts_def.specs.Sites.{SiteData}
use Rattle.cts_entry.specs.declared.event.Event.TheVariants as event
use Rattle.cts_words.proofs.Finds.{none_passes}
use Rattle.cts_scriptread.specs.declared.cause.ScriptCause.{ScriptCause}
use Rattle.cts_scriptread.specs.declared.form.Keyword.{Keyword}
use Rattle.cts_scriptread.specs.declared.form.Keyword.TheVariants as keyword
use Rattle.cts_reader.specs.Words.{any_word}
use Rattle.cts_scriptread.specs.Causes.{is_unknown_maker, is_no_number, is_bad_hex, is_wrong_size, is_unknown_why, holds, order}
use Rattle.cts_scriptread.specs.Events.{time_at, time_in, opens_in, piece_in, finish_in, write_in, call_in, drain_of, drain_in, stop_in, event_of}
use Rattle.cts_scriptread.specs.Forms.{fields}
use Rattle.cts_scriptread.specs.Makers.{both, interface_named, slot_named, maker_named}
use Rattle.cts_scriptread.specs.Words.{number_of, count_of, are_byte_digits, is_piece_size, if_piece, piece_of, why_of, is_log}

-- ---- tests

is_true : (b : Bool) → not b ≡ false → b ≡ true
is_true true e = refl
is_true false e = absurd cc

left_false : (a b : Bool) → (a || b) ≡ false → a ≡ false
left_false true b e = absurd cc
left_false false b e = refl

right_false : (a b : Bool) → (a || b) ≡ false → b ≡ false
right_false true b e = absurd cc
right_false false b e = e

left_true : (a b : Bool) → (a && b) ≡ true → a ≡ true
left_true true b e = refl
left_true false b e = absurd cc

right_true : (a b : Bool) → (a && b) ≡ true → b ≡ true
right_true true b e = e
right_true false b e = absurd cc

same_length : (a b : ℕ) → not (a == b) ≡ false → a ≡ b
same_length a b e = eqb-true a b (is_true (a == b) e)

-- ---- what is said together

mapped : {A B : Type 0} (f : A → B) (o : Option A) → is_none o ≡ false → is_some (option_map f o) ≡ true
mapped f None e = absurd cc
mapped f (Some a) e = refl

together : {A B C : Type 0} (f : A → B → C) (a : Option A) (b : Option B) → is_none a ≡ false → is_none b ≡ false → is_some (both f a b) ≡ true
together f None b e h = absurd cc
together f (Some a) None e h = absurd cc
together f (Some a) (Some b) e h = refl

-- what is there is not none
pub there : {A : Type 0} (o : Option A) → is_some o ≡ true → is_none o ≡ false
there None e = absurd cc
there (Some a) e = refl

-- ---- pieces

of_bytes : (bytes : List ℕ) (r : Bool) → is_piece_size (length bytes) ≡ r → r ≡ true → is_some (if_piece bytes) ≡ true
of_bytes bytes r e t = rw (e, t) refl

pub piece_said : (word : List ℕ) → are_byte_digits word ≡ true → is_piece_size (length word / 2) ≡ true → is_some (piece_of word) ≡ true
piece_said word digits size =
    let even : length word % 2 ≡ 0 = eqb-true (length word % 2) 0 (left_true (length word % 2 == 0) (list_all is_hex_digit word) digits) in
    let all = AllPass-from_list_all is_hex_digit word (right_true (length word % 2 == 0) (list_all is_hex_digit word) digits) in
    let read = decode_of-digits word even all in
    let twice = (decode_of-ok word read.0 read.1).2 in
    let half : length word / 2 ≡ length read.0 = omega (arith, twice) in
    ap (λ (r : Result (List ℕ) _). is_some (option_and_then if_piece (result_ok r))) read.1
    ∙ of_bytes read.0 (is_piece_size (length read.0)) refl (ap is_piece_size (sym half) ∙ size)

-- ---- lines

three : (n : ℕ) → suc (suc (suc n)) ≡ 2 → ⊥
three n e = omega (arith, e)

one_and : (n : ℕ) → suc (suc n) ≡ 1 → ⊥
one_and n e = omega (arith, e)

time_said : (words : List (List ℕ)) → not (length words == 2) ≡ false → any_word is_no_number (fields keyword.Time) words ≡ false → is_some (time_in words) ≡ true
time_said [] form number = absurd cc
time_said (s ∷ []) form number = absurd cc
time_said (s ∷ m ∷ []) form number =
    let rest = right_false (is_none (number_of s)) (is_none (number_of m) || false) number in
    together time_at (number_of s) (number_of m) (left_false (is_none (number_of s)) (is_none (number_of m) || false) number) (left_false (is_none (number_of m)) false rest)
time_said (s ∷ m ∷ w ∷ words) form number = absurd (three (length words) (same_length (length (s ∷ m ∷ w ∷ words)) 2 form))

opens_said : (site : SiteData) (words : List (List ℕ)) → not (length words == 1) ≡ false → any_word (is_unknown_maker site) (fields keyword.Open) words ≡ false → is_some (opens_in site words) ≡ true
opens_said site [] form maker = absurd cc
opens_said site (who ∷ []) form maker = mapped event.Opens (maker_named site who) (left_false (is_none (maker_named site who)) false maker)
opens_said site (who ∷ w ∷ words) form maker = absurd (one_and (length words) (same_length (length (who ∷ w ∷ words)) 1 form))

bytes_said : (site : SiteData) (words : List (List ℕ)) → not (length words == 2) ≡ false → any_word (is_unknown_maker site) (fields keyword.Bytes) words ≡ false
    → any_word is_bad_hex (fields keyword.Bytes) words ≡ false → any_word is_wrong_size (fields keyword.Bytes) words ≡ false → is_some (piece_in site words) ≡ true
bytes_said site [] form maker hex size = absurd cc
bytes_said site (who ∷ []) form maker hex size = absurd cc
bytes_said site (who ∷ digits ∷ []) form maker hex size =
    let good : are_byte_digits digits ≡ true = is_true (are_byte_digits digits) (left_false (not (are_byte_digits digits)) false hex) in
    let few : is_piece_size (length digits / 2) ≡ true = is_true (is_piece_size (length digits / 2)) (left_false (not (is_piece_size (length digits / 2))) false size) in
    together event.Piece (maker_named site who) (piece_of digits) (left_false (is_none (maker_named site who)) (false || false) maker) (there (piece_of digits) (piece_said digits good few))
bytes_said site (who ∷ digits ∷ w ∷ words) form maker hex size = absurd (three (length words) (same_length (length (who ∷ digits ∷ w ∷ words)) 2 form))

close_said : (site : SiteData) (words : List (List ℕ)) → not (length words == 2) ≡ false → any_word (is_unknown_maker site) (fields keyword.Close) words ≡ false
    → any_word is_unknown_why (fields keyword.Close) words ≡ false → is_some (finish_in site words) ≡ true
close_said site [] form maker why = absurd cc
close_said site (who ∷ []) form maker why = absurd cc
close_said site (who ∷ end ∷ []) form maker why =
    together event.Finish (maker_named site who) (why_of end) (left_false (is_none (maker_named site who)) (false || false) maker) (left_false (is_none (why_of end)) false why)
close_said site (who ∷ end ∷ w ∷ words) form maker why = absurd (three (length words) (same_length (length (who ∷ end ∷ w ∷ words)) 2 form))

write_said : (site : SiteData) (words : List (List ℕ)) → not (length words == 2) ≡ false → any_word (is_unknown_maker site) (fields keyword.Write) words ≡ false
    → any_word is_no_number (fields keyword.Write) words ≡ false → is_some (write_in site words) ≡ true
write_said site [] form maker number = absurd cc
write_said site (who ∷ []) form maker number = absurd cc
write_said site (who ∷ count ∷ []) form maker number =
    together event.Write (interface_named site who) (count_of count) (left_false (is_none (interface_named site who)) (false || false) maker) (left_false (is_none (count_of count)) false number)
write_said site (who ∷ count ∷ w ∷ words) form maker number = absurd (three (length words) (same_length (length (who ∷ count ∷ w ∷ words)) 2 form))

call_said : (words : List (List ℕ)) → not (length words == 2) ≡ false → any_word is_no_number (fields keyword.Call) words ≡ false → is_some (call_in words) ≡ true
call_said [] form number = absurd cc
call_said (desk ∷ []) form number = absurd cc
call_said (desk ∷ text ∷ []) form number = mapped (λ d. event.Call d text) (number_of desk) (left_false (is_none (number_of desk)) (false || false) number)
call_said (desk ∷ text ∷ w ∷ words) form number = absurd (three (length words) (same_length (length (desk ∷ text ∷ w ∷ words)) 2 form))

drained : (site : SiteData) (who : List ℕ) (count : ℕ) (log : Bool) → (not log && is_none (slot_named site who)) ≡ false
    → is_some (if log then Some (event.DrainLog count) else option_map (λ slot. event.DrainSlot slot count) (slot_named site who)) ≡ true
drained site who count true maker = refl
drained site who count false maker = mapped (λ slot. event.DrainSlot slot count) (slot_named site who) maker

drained_with : (site : SiteData) (who : List ℕ) (o : Option ℕ) → is_none o ≡ false → (not (is_log who) && is_none (slot_named site who)) ≡ false
    → is_some (option_and_then (drain_of site who) o) ≡ true
drained_with site who None number maker = absurd cc
drained_with site who (Some count) number maker = drained site who count (is_log who) maker

drain_said : (site : SiteData) (words : List (List ℕ)) → not (length words == 2) ≡ false → any_word (is_unknown_maker site) (fields keyword.Drain) words ≡ false
    → any_word is_no_number (fields keyword.Drain) words ≡ false → is_some (drain_in site words) ≡ true
drain_said site [] form maker number = absurd cc
drain_said site (who ∷ []) form maker number = absurd cc
drain_said site (who ∷ count ∷ []) form maker number =
    drained_with site who (count_of count) (left_false (is_none (count_of count)) false number)
    (left_false (not (is_log who) && is_none (slot_named site who)) (false || false) maker)
drain_said site (who ∷ count ∷ w ∷ words) form maker number = absurd (three (length words) (same_length (length (who ∷ count ∷ w ∷ words)) 2 form))

stop_said : (words : List (List ℕ)) → not (length words == 0) ≡ false → is_some (stop_in words) ≡ true
stop_said [] form = refl
stop_said (w ∷ words) form = let e : suc (length words) ≡ 0 = same_length (length (w ∷ words)) 0 form in absurd (omega (arith, e))

-- no cause holds
abbrev NoneHolds : SiteData → Keyword → List (List ℕ) → Type 0
NoneHolds site k words = AllByRecursion (λ c. holds site c k words ≡ false) order

event_said : (site : SiteData) (k : Keyword) (words : List (List ℕ)) → NoneHolds site k words → is_some (event_of site k words) ≡ true
event_said site keyword.Time words h = time_said words h.0 h.1.1.0
event_said site keyword.Open words h = opens_said site words h.0 h.1.0
event_said site keyword.Bytes words h = bytes_said site words h.0 h.1.0 h.1.1.1.0 h.1.1.1.1.0
event_said site keyword.Close words h = close_said site words h.0 h.1.0 h.1.1.1.1.1.0
event_said site keyword.Write words h = write_said site words h.0 h.1.0 h.1.1.0
event_said site keyword.Call words h = call_said words h.0 h.1.1.0
event_said site keyword.Drain words h = drain_said site words h.0 h.1.0 h.1.1.0
event_said site keyword.Stop words h = stop_said words h.0

-- The words after a keyword say an event, where no cause is found.
pub says_event : (site : SiteData) (k : Keyword) (words : List (List ℕ)) → find (λ c. holds site c k words) order ≡ None → is_some (event_of site k words) ≡ true
says_event site k words none = event_said site k words (none_passes (λ c. holds site c k words) order none)

cause_of : (site : SiteData) (k : Keyword) (words : List (List ℕ)) (o : Option ScriptCause) → find (λ c. holds site c k words) order ≡ o → event_of site k words ≡ None → is_some o ≡ true
cause_of site k words None is none = absurd (let said = says_event site k words is in cc)
cause_of site k words (Some c) is none = refl

-- The words after a keyword that say no event have a cause.
pub has_cause : (site : SiteData) (k : Keyword) (words : List (List ℕ)) → event_of site k words ≡ None → is_some (find (λ c. holds site c k words) order) ≡ true
has_cause site k words none = cause_of site k words (find (λ c. holds site c k words) order) refl none
