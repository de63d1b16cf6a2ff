-- A line that says an event is not refused.
use Rattle.std.proofs.Common.{◌≡◌, ◌∙◌, ℕ, ◌/◌, ◌%◌, Bool, true, false, ◌||◌, ◌&&◌, List, [], ◌∷◌, length, Option, Some, None, Ok, refl, sym, ap, arith}
use Rattle.std.specs.Prelude.{not, is_some, is_none, option_and_then, codes, IsTrue, if◌then◌else◌}
use Rattle.std.specs.List.{AllByRecursion}
use Rattle.std.specs.Str.{bytes_eq}
use Rattle.std.proofs.lemmas.Bool.{eq-eqb}
use Rattle.std.proofs.lemmas.List.Sums.{list_all-from_AllPass}
use Rattle.hex.specs.Hex.{decode_of, is_hex_digit}
use Rattle.hex.proofs.HexLemmas.{decode_of-ok}
use Rattle.cts_base.specs.Names.{in_upper_case}
use Rattle.cts_def.specs.Sites.{SiteData}
use Rattle.cts_entry.specs.declared.event.Event.{Event}
use Rattle.cts_entry.specs.declared.event.Event.TheVariants as event
use Rattle.cts_entry.specs.declared.why.Why.{Why}
use Rattle.cts_entry.specs.declared.why.Why.TheVariants as why
use Rattle.cts_words.specs.declared.statement.Statement.{Statement}
use Rattle.cts_reader.specs.Reading.{at_line}
use Rattle.cts_reader.specs.Words.{is_keyword}
use Rattle.cts_reader.proofs.FirstCause.{none_told}
use Rattle.cts_scriptread.specs.declared.form.Keyword.{Keyword}
use Rattle.cts_scriptread.specs.declared.form.Keyword.TheVariants as keyword
use Rattle.cts_scriptread.specs.Causes.{holds, order, cause_in}
use Rattle.cts_scriptread.specs.Events.{event_of}
use Rattle.cts_scriptread.specs.Forms.{keywords, keyword_of, parts, with_words}
use Rattle.cts_scriptread.specs.Laws.{LinesAreRefused}
use Rattle.cts_scriptread.specs.Lines.{IsLine, NamesMaker, WritesNumber, WritesCount, EndsBy, Says}
use Rattle.cts_scriptread.specs.Makers.{interface_named, slot_named, maker_named}
use Rattle.cts_scriptread.specs.Words.{number_of, count_of, are_byte_digits, is_piece_size, why_of, is_log}
use Rattle.cts_scriptread.specs.Scripts.{refusal_in, event_in}
use Rattle.cts_scriptread.proofs.OneEach.{one_event}
use Rattle.cts_scriptread.proofs.Rows.{keyword_text, says_words}
use Rattle.cts_scriptread.proofs.Said.{there}
use Rattle.cts_scriptread.proofs.Exact.{makers_are_named, interfaces_are_named, slots_are_named, numbers_are_written, counts_are_written}

is_there : {A : Type 0} (o : Option A) (a : A) → o ≡ Some a → is_none o ≡ false
is_there o a e = ap is_none e

one_false : (a : Bool) → a ≡ false → (a || false) ≡ false
one_false a e = rw e refl

two_false : (a b : Bool) → a ≡ false → b ≡ false → (a || (b || false)) ≡ false
two_false a b e h = rw (e, h) refl

none_of_both : (a b : Bool) → b ≡ false → (a && b) ≡ false
none_of_both true b e = e
none_of_both false b e = refl

-- ---- words

is_number : (word : List ℕ) (n : ℕ) → WritesNumber word n → is_none (number_of word) ≡ false
is_number word n h = is_there (number_of word) n ((numbers_are_written word n).1 h)

is_count : (word : List ℕ) (n : ℕ) → WritesCount word n → is_none (count_of word) ≡ false
is_count word n h = is_there (count_of word) n ((counts_are_written word n).1 h)

is_maker : (site : SiteData) (word : List ℕ) (n : ℕ) → NamesMaker site word n → is_none (maker_named site word) ≡ false
is_maker site word n h = there (maker_named site word) ((makers_are_named site word).1 (n, h))

ends : (w : Why) (word : List ℕ) → EndsBy w word → why_of word ≡ Some w
ends why.PeerEnded word e = ap why_of e
ends why.ReadFault word e = ap why_of e
ends why.WriteFault word e = ap why_of e
ends why.Stopped word e = ap why_of e
ends (why.BadFrame stage cause) word e = absurd e
ends why.NoMemory word e = absurd e
ends why.Full word e = absurd e

are_digits : (word bytes : List ℕ) → decode_of word ≡ Ok bytes → not (are_byte_digits word) ≡ false
are_digits word bytes e =
    let read = decode_of-ok word bytes e in
    rw (eq-eqb (length word % 2) 0 read.0, list_all-from_AllPass is_hex_digit word read.1) refl

is_size : (word bytes : List ℕ) → decode_of word ≡ Ok bytes → IsTrue (is_piece_size (length bytes)) → not (is_piece_size (length word / 2)) ≡ false
is_size word bytes e size =
    let twice = (decode_of-ok word bytes e).2 in
    let half : length word / 2 ≡ length bytes = omega (arith, twice) in
    ap (λ (n : ℕ). not (is_piece_size n)) half ∙ ap not size

-- ---- keywords

found_by : List (List ℕ × Keyword) → List ℕ → Option Keyword
found_by [] text = None
found_by (p ∷ list) text = if bytes_eq text p.0 then Some p.1 else found_by list text

known_keyword : (k : Keyword) (word : List ℕ) → in_upper_case word ≡ keyword_text k → keyword_of word ≡ Some k
unfolding keyword_of is_keyword found_by
known_keyword keyword.Time word h = ap (found_by keywords) h
known_keyword keyword.Open word h = ap (found_by keywords) h
known_keyword keyword.Bytes word h = ap (found_by keywords) h
known_keyword keyword.Close word h = ap (found_by keywords) h
known_keyword keyword.Write word h = ap (found_by keywords) h
known_keyword keyword.Call word h = ap (found_by keywords) h
known_keyword keyword.Drain word h = ap (found_by keywords) h
known_keyword keyword.Stop word h = ap (found_by keywords) h

-- no cause holds
abbrev NoneHolds : SiteData → Keyword → List (List ℕ) → Type 0
NoneHolds site k words = AllByRecursion (λ c. holds site c k words ≡ false) order

passes : (site : SiteData) (k : Keyword) (after words : List (List ℕ)) → IsLine (keyword_text k) after words → NoneHolds site k after → cause_in site (parts words) ≡ None
passes site k after words line none =
    let cut : parts words ≡ Some (k, after) = ap parts line.parts ∙ ap (with_words after) (known_keyword k line.first line.spelled) in
    ap (cause_in site) cut ∙ (none_told (λ c. holds site c k after) order).1 none

-- ---- rows

not_refused : (site : SiteData) (words : List (List ℕ)) (e : Event) → Says site words e → cause_in site (parts words) ≡ None
not_refused site words (event.SetTime t) h =
    let numbers = two_false (is_none (number_of h.0)) (is_none (number_of h.1)) (is_number h.0 t.seconds h.3) (is_number h.1 t.micros h.4) in
    passes site keyword.Time (h.0 ∷ h.1 ∷ []) words h.2 (refl, (refl, (numbers, (refl, (refl, (refl, tt))))))
not_refused site words (event.Opens by) h =
    let maker = one_false (is_none (maker_named site h.0)) (is_maker site h.0 by h.2) in
    passes site keyword.Open (h.0 ∷ []) words h.1 (refl, (maker, (refl, (refl, (refl, (refl, tt))))))
not_refused site words (event.Piece by bytes) h =
    let maker = one_false (is_none (maker_named site h.0)) (is_maker site h.0 by h.3) in
    let digits = one_false (not (are_byte_digits h.1)) (are_digits h.1 bytes h.4) in
    let size = one_false (not (is_piece_size (length h.1 / 2))) (is_size h.1 bytes h.4 h.5) in
    passes site keyword.Bytes (h.0 ∷ h.1 ∷ []) words h.2 (refl, (maker, (refl, (digits, (size, (refl, tt))))))
not_refused site words (event.Finish by end) h =
    let maker = one_false (is_none (maker_named site h.0)) (is_maker site h.0 by h.3) in
    let reason = one_false (is_none (why_of h.1)) (is_there (why_of h.1) end (ends end h.1 h.4)) in
    passes site keyword.Close (h.0 ∷ h.1 ∷ []) words h.2 (refl, (maker, (refl, (refl, (refl, (reason, tt))))))
not_refused site words (event.Write interface count) h =
    let maker = one_false (is_none (interface_named site h.0)) (there (interface_named site h.0) ((interfaces_are_named site h.0).1 (interface, h.3))) in
    let number = one_false (is_none (count_of h.1)) (is_count h.1 count h.4) in
    passes site keyword.Write (h.0 ∷ h.1 ∷ []) words h.2 (refl, (maker, (number, (refl, (refl, (refl, tt))))))
not_refused site words (event.Call desk text) h =
    let number = one_false (is_none (number_of h.0)) (is_number h.0 desk h.2) in
    passes site keyword.Call (h.0 ∷ text ∷ []) words h.1 (refl, (refl, (number, (refl, (refl, (refl, tt))))))
not_refused site words (event.DrainLog count) h =
    let number = one_false (is_none (count_of h.0)) (is_count h.0 count h.2) in
    passes site keyword.Drain (codes "LOG" ∷ h.0 ∷ []) words h.1 (refl, (refl, (number, (refl, (refl, (refl, tt))))))
not_refused site words (event.DrainSlot slot count) h =
    let known = there (slot_named site h.0) ((slots_are_named site h.0).1 (slot, h.3)) in
    let maker = one_false (not (is_log h.0) && is_none (slot_named site h.0)) (none_of_both (not (is_log h.0)) (is_none (slot_named site h.0)) known) in
    let number = one_false (is_none (count_of h.1)) (is_count h.1 count h.4) in
    passes site keyword.Drain (h.0 ∷ h.1 ∷ []) words h.2 (refl, (maker, (number, (refl, (refl, (refl, tt))))))
not_refused site words event.Stop h = passes site keyword.Stop [] words h (refl, (refl, (refl, (refl, (refl, (refl, tt))))))

pub lines_are_refused : LinesAreRefused
lines_are_refused site s = (
  λ none. let it = one_event site s none in (it.0, says_words site s.words it.0 it.1),
  λ h. ap (at_line s.line) (not_refused site s.words h.0 h.1),
)

-- A statement that says an event is not refused.
pub is_taken : (site : SiteData) (s : Statement) (k : Keyword) (words : List (List ℕ)) (e : Event) → parts s.words ≡ Some (k, words) → Some e ≡ event_of site k words
    → (refusal_in site s ≡ None) × (event_in site s.words ≡ Some e)
is_taken site s k words e cut said =
    let here : event_in site s.words ≡ Some e = ap (option_and_then (λ (l : Keyword × List (List ℕ)). event_of site l.0 l.1)) cut ∙ sym said in
    (ap (at_line s.line) (not_refused site s.words e (says_words site s.words e here)), here)
