-- Lines read one by one say what the text says, and each fault comes exactly where the text has it.
use Rattle.std.proofs.Common.{◌≡◌, ℕ, suc, Bool, true, false, List, [], ◌∷◌, length, map, Option, Some, None, Result, Ok, Err, refl, sym, ap, ◌∙◌}
use Rattle.std.specs.Prelude.{◌↔◌, if◌then◌else◌}
use Rattle.std.specs.Str.{IsUtf8, is_utf8}
use Rattle.std.specs.Str.Lossy.{utf8_valid_len}
use Rattle.std.proofs.lemmas.Str.{is_utf8-from_IsUtf8, IsUtf8-from_is_utf8}
use Rattle.std.proofs.lemmas.List.{length-map}
use Rattle.cts_words.specs.Answers.{Gives, UnlessMemory}
use Rattle.cts_words.specs.Grammar.{Word, Between, words}
use Rattle.cts_words.specs.Joining.{rows, unless_dangling, lines_said, ◌>>=◌}
use Rattle.cts_words.specs.Statements.{lines, line_words, joined, statements_of, dangles, not_text, first_open, open_quote, dangling_join, unless_fault, said, IsNotTextAt, IsOpenAt, IsDanglingAt}
use Rattle.cts_words.specs.declared.fault.WordFault.{WordFault}
use Rattle.cts_words.specs.declared.fault.WordFault.TheVariants.{OpenQuote, DanglingJoin, NotText, Memory}
use Rattle.cts_words.specs.declared.statement.Statement.{Statement}

-- ---- the fault that is met first is the one that comes first

one_more : (o : Option ℕ) (row : List Word) (others : List (List Word))
    → (unless_fault OpenQuote o (Ok others) >>= (λ others. Ok (row ∷ others))) ≡ unless_fault OpenQuote o (Ok (row ∷ others))
one_more None row others = refl
one_more (Some n) row others = refl

row_step : (o : Option (List Word)) (n : ℕ) (line : List ℕ) (others : List (List ℕ)) → words Between line ≡ o
    → rows (suc n) others ≡ unless_fault OpenQuote (first_open (suc n) others) (Ok (map line_words others))
    → rows n (line ∷ others) ≡ unless_fault OpenQuote (first_open n (line ∷ others)) (Ok (map line_words (line ∷ others)))
row_step None n line others e h = rw e refl
row_step (Some row) n line others e h = rw (e, h) (one_more (first_open (suc n) others) row (map line_words others))

rows-at : (n : ℕ) (ls : List (List ℕ)) → rows n ls ≡ unless_fault OpenQuote (first_open n ls) (Ok (map line_words ls))
rows-at n [] = refl
rows-at n (line ∷ others) = row_step (words Between line) n line others refl (rows-at (suc n) others)

then_dangling : (o : Option ℕ) (found : List (List Word)) → (unless_fault OpenQuote o (Ok found) >>= unless_dangling) ≡ unless_fault OpenQuote o (unless_dangling found)
then_dangling None found = refl
then_dangling (Some n) found = refl

dangling_last : (b : Bool) (ls : List (List ℕ)) → dangles false (map line_words ls) ≡ b
    → unless_dangling (map line_words ls) ≡ unless_fault DanglingJoin (if b then Some (length ls) else None) (Ok (joined (map line_words ls)))
dangling_last true ls e = rw (e, length-map) refl
dangling_last false ls e = rw e refl

lines_said-lines : (text : List ℕ)
    → lines_said (lines text) ≡ unless_fault OpenQuote (open_quote text) (unless_fault DanglingJoin (dangling_join text) (Ok (statements_of text)))
lines_said-lines text =
    rw rows-at (then_dangling (open_quote text) (map line_words (lines text)))
    ∙ ap (unless_fault OpenQuote (open_quote text)) (dangling_last (dangles false (map line_words (lines text))) (lines text) refl)

pub said-lines : (text : List ℕ) → IsUtf8 text → said text ≡ lines_said (lines text)
said-lines text is = rw (is_utf8-from_IsUtf8 text is) (sym (lines_said-lines text))

no_text_step : (b : Bool) (text : List ℕ) → is_utf8 text ≡ b → ¬ (IsUtf8 text) → said text ≡ Err (NotText (utf8_valid_len text))
no_text_step true text e is_not = absurd (is_not (IsUtf8-from_is_utf8 text e))
no_text_step false text e is_not = rw e refl

pub said-no_text : (text : List ℕ) (place : ℕ) → ¬ (IsUtf8 text) → place ≡ utf8_valid_len text → said text ≡ Err (NotText place)
said-no_text text place is_not e = no_text_step (is_utf8 text) text refl is_not ∙ ap (λ (n : ℕ). Err (NotText n)) (sym e)

-- ---- each fault where the text has it

not_text_where : (a b c : Option ℕ) (v : List Statement) (n : ℕ)
    → (unless_fault NotText a (unless_fault OpenQuote b (unless_fault DanglingJoin c (Ok v))) ≡ Err (NotText n)) ↔ (a ≡ Some n)
not_text_where (Some k) b c v n = (λ e. cc, λ e. cc)
not_text_where None (Some k) c v n = (λ e. cc, λ e. cc)
not_text_where None None (Some k) v n = (λ e. cc, λ e. cc)
not_text_where None None None v n = (λ e. cc, λ e. cc)

open_where : (a b c : Option ℕ) (v : List Statement) (n : ℕ)
    → (unless_fault NotText a (unless_fault OpenQuote b (unless_fault DanglingJoin c (Ok v))) ≡ Err (OpenQuote n)) ↔ ((a ≡ None) × (b ≡ Some n))
open_where (Some k) b c v n = (λ e. cc, λ e. let none = e.0 in cc)
open_where None (Some k) c v n = (λ e. (refl, cc), λ e. let here = e.1 in cc)
open_where None None (Some k) v n = (λ e. cc, λ e. let here = e.1 in cc)
open_where None None None v n = (λ e. cc, λ e. let here = e.1 in cc)

dangling_where : (a b c : Option ℕ) (v : List Statement) (n : ℕ)
    → (unless_fault NotText a (unless_fault OpenQuote b (unless_fault DanglingJoin c (Ok v))) ≡ Err (DanglingJoin n)) ↔ ((a ≡ None) × (b ≡ None) × (c ≡ Some n))
dangling_where (Some k) b c v n = (λ e. cc, λ e. let none = e.0 in cc)
dangling_where None (Some k) c v n = (λ e. cc, λ e. let none = e.1 in cc)
dangling_where None None (Some k) v n = (λ e. (refl, refl, cc), λ e. let here = e.2 in cc)
dangling_where None None None v n = (λ e. cc, λ e. let here = e.2 in cc)

-- an answer that gives what is said has a fault where that has it
exact : {X Y : Type 0} (view : X → Y) (answer : Result X WordFault) (told : Result Y WordFault) (fault : ℕ → WordFault) (At : ℕ → Type 0)
    → ((n : ℕ) → (told ≡ Err (fault n)) ↔ At n) → Gives view answer told → UnlessMemory answer ((n : ℕ) → (answer ≡ Err (fault n)) ↔ At n)
exact view (Ok x) told fault At at given = λ n. (λ e. cc, λ a. let e = (at n).1 a in cc)
exact view (Err Memory) told fault At at given = tt
exact view (Err (OpenQuote k)) told fault At at given = λ n. (λ e. (at n).0 (let same : OpenQuote k ≡ fault n = cc in cc), λ a. let e = (at n).1 a in let same : OpenQuote k ≡ fault n = cc in cc)
exact view (Err (DanglingJoin k)) told fault At at given = λ n. (λ e. (at n).0 (let same : DanglingJoin k ≡ fault n = cc in cc), λ a. let e = (at n).1 a in let same : DanglingJoin k ≡ fault n = cc in cc)
exact view (Err (NotText k)) told fault At at given = λ n. (λ e. (at n).0 (let same : NotText k ≡ fault n = cc in cc), λ a. let e = (at n).1 a in let same : NotText k ≡ fault n = cc in cc)

pub exact_not_text : {X : Type 0} (view : X → List Statement) (answer : Result X WordFault) (text : List ℕ) → Gives view answer (said text)
    → UnlessMemory answer ((n : ℕ) → (answer ≡ Err (NotText n)) ↔ IsNotTextAt text n)
exact_not_text view answer text = exact view answer (said text) NotText (IsNotTextAt text) (not_text_where (not_text text) (open_quote text) (dangling_join text) (statements_of text))

pub exact_open : {X : Type 0} (view : X → List Statement) (answer : Result X WordFault) (text : List ℕ) → Gives view answer (said text)
    → UnlessMemory answer ((n : ℕ) → (answer ≡ Err (OpenQuote n)) ↔ IsOpenAt text n)
exact_open view answer text = exact view answer (said text) OpenQuote (IsOpenAt text) (open_where (not_text text) (open_quote text) (dangling_join text) (statements_of text))

pub exact_dangling : {X : Type 0} (view : X → List Statement) (answer : Result X WordFault) (text : List ℕ) → Gives view answer (said text)
    → UnlessMemory answer ((n : ℕ) → (answer ≡ Err (DanglingJoin n)) ↔ IsDanglingAt text n)
exact_dangling view answer text = exact view answer (said text) DanglingJoin (IsDanglingAt text) (dangling_where (not_text text) (open_quote text) (dangling_join text) (statements_of text))
