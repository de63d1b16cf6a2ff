-- Lines joined one by one are joined as the grammar says.
use Rattle.std.proofs.Common.{◌≡◌, ℕ, zero, suc, ◌+◌, ◌<◌, ◌≤◌, Bool, true, false, cond, List, [], ◌∷◌, ◌++◌, length, take, drop, Result, Ok, Err, refl, sym, ap, ◌∙◌, arith, ◌==◌, map, subst, add-one, get_or}
use Rattle.std.proofs.lemmas.List.{append-nil, map-append}
use Rattle.cts_words.specs.Grammar.{Word, Between, text, words}
use Rattle.cts_words.specs.Statements.{lines, with_front, is_join, joins, own}
use Rattle.cts_words.specs.Answers.{IsRefused}
use Rattle.cts_words.specs.Seen.{word_of}
use Rattle.cts_words.specs.Joining.{ends, Adds, rows, or_open, unless_dangling, lines_said, ◌>>=◌}
use Rattle.cts_words.specs.declared.fault.WordFault.{WordFault}
use Rattle.cts_words.specs.declared.fault.WordFault.TheVariants as fault
use Rattle.cts_words.specs.declared.line.Piece.{Piece}
use Rattle.cts_words.specs.declared.joiner.Joiner.{Joiner}
use Rattle.cts_words.specs.declared.statement.Statement.{Statement}

pub joins_last : (ws : List Word) (w : Word) → joins (ws ++ w ∷ []) ≡ is_join w
joins_last [] w = refl
joins_last (v ∷ []) w = refl
joins_last (v ∷ u ∷ ws) w = joins_last (u ∷ ws) w

own_step : (b : Bool) (w : Word) → is_join w ≡ b → own (w ∷ []) ≡ cond b [] (text w ∷ [])
own_step b w e = rw e refl

pub own_last : (ws : List Word) (w : Word) → own (ws ++ w ∷ []) ≡ map text ws ++ cond (is_join w) [] (text w ∷ [])
own_last [] w = refl
own_last (v ∷ []) w = refl
own_last (v ∷ u ∷ ws) w = ap (λ (ts : List (List ℕ)). text v ∷ ts) (own_last (u ∷ ws) w)

pub joins_split : (row front : List Piece) (last : Piece) → row ≡ front ++ last ∷ [] → joins (map word_of row) ≡ is_join (word_of last)
joins_split row front last e = rw (e, map-append) (joins_last (map word_of front) (word_of last))

pub own_split : (row front : List Piece) (last : Piece) → row ≡ front ++ last ∷ [] → own (map word_of row) ≡ map text (map word_of front) ++ cond (is_join (word_of last)) [] (text (word_of last) ∷ [])
own_split row front last e = rw (e, map-append) (own_last (map word_of front) (word_of last))

pub whole_split : (row front : List Piece) (last : Piece) → row ≡ front ++ last ∷ [] → map text (map word_of row) ≡ map text (map word_of front) ++ text (word_of last) ∷ []
whole_split row front last e = rw (e, map-append, map-append) refl

pub none_split : (row : List Piece) → length row ≡ 0 → row ≡ []
none_split [] e = refl
none_split (p ∷ row) e = absurd (omega arith)

-- ---- lines of a text

no_feed_step : (b : Bool) (c : ℕ) (rest : List ℕ) → (c == 10) ≡ b → (0 < length rest → lines rest ≡ rest ∷ []) → ((k : ℕ) → k < length (c ∷ rest) → (get_or (c ∷ rest) k 0 == 10) ≡ false) → lines (c ∷ rest) ≡ (c ∷ rest) ∷ []
no_feed_step true c rest e h none = absurd (let f = none 0 (omega arith) in let g : true ≡ false = sym e ∙ f in cc)
no_feed_step false c [] e h none = rw e refl
no_feed_step false c (d ∷ rest) e h none = rw e (ap (with_front c) (h (omega arith)))

pub no_feed : (text : List ℕ) → 0 < length text → ((k : ℕ) → k < length text → (get_or text k 0 == 10) ≡ false) → lines text ≡ text ∷ []
no_feed [] lt none = absurd (omega arith)
no_feed (c ∷ rest) lt none = no_feed_step (c == 10) c rest refl (λ more. no_feed rest more (λ k below. none (suc k) (omega arith))) none

pub feed_front : (c : ℕ) (rest : List ℕ) (e : (c == 10) ≡ false) → lines (c ∷ rest) ≡ with_front c (lines rest)
feed_front c rest e = rw e refl

suc-plus-one : (n : ℕ) → suc n + 1 ≡ suc (n + 1)
suc-plus-one n = omega arith

pub feed_at : (text : List ℕ) (at : ℕ) → at < length text → ((k : ℕ) → k < at → (get_or text k 0 == 10) ≡ false) → (get_or text at 0 == 10) ≡ true → lines text ≡ take at text ∷ lines (drop (at + 1) text)
feed_at [] at lt none here = absurd (omega arith)
feed_at (c ∷ rest) zero lt none here = rw here refl
feed_at (c ∷ rest) (suc at) lt none here =
    rw (suc-plus-one at) (feed_front c rest (none 0 (omega arith)) ∙ ap (with_front c) (feed_at rest at (omega arith) (λ k below. none (suc k) (omega arith)) here))

-- ---- a line is added

bind_same : {A : Type 0} (r : Result A WordFault) (f g : A → Result (List Statement) WordFault) → ((x : A) → f x ≡ g x) → (r >>= f) ≡ (r >>= g)
bind_same (Ok x) f g h = h x
bind_same (Err e) f g h = refl

pub start : (j : Joiner) (lines : List (List ℕ)) (n : ℕ) → n ≡ 1 → ((rows : List (List Word)) → ends j rows ≡ unless_dangling rows) → (rows n lines >>= ends j) ≡ lines_said lines
start j lines n e h = rw e (bind_same (rows 1 lines) (ends j) unless_dangling h)

rows_then : (r : Result (List (List Word)) WordFault) (row : List Word) (f : List (List Word) → Result (List Statement) WordFault) → ((r >>= (λ others. Ok (row ∷ others))) >>= f) ≡ (r >>= (λ others. f (row ∷ others)))
rows_then (Ok x) row f = refl
rows_then (Err e) row f = refl

pub one_line : (old new : Joiner) (row : List Word) (line : List ℕ) (others : List (List ℕ)) (n : ℕ) → or_open n (words Between line) ≡ Ok row
    → Adds old row new → (rows n (line ∷ others) >>= ends old) ≡ (rows (suc n) others >>= ends new)
one_line old new row line others n e h =
    rw e (rows_then (rows (suc n) others) row (ends old) ∙ bind_same (rows (suc n) others) (λ others. ends old (row ∷ others)) (ends new) (λ rows. sym (h rows)))

pub fails_first : (e : WordFault) (line : List ℕ) (others : List (List ℕ)) (n : ℕ) (f : List (List Word) → Result (List Statement) WordFault) → IsRefused e (or_open n (words Between line)) → IsRefused e (rows n (line ∷ others) >>= f)
fails_first fault.Memory line others n f h = tt
fails_first (fault.OpenQuote k) line others n f h = rw h refl
fails_first (fault.DanglingJoin k) line others n f h = rw h refl
fails_first (fault.NotText k) line others n f h = rw h refl

pub fails_along : (e : WordFault) (r s : Result (List Statement) WordFault) → r ≡ s → IsRefused e r → IsRefused e s
fails_along e r s p h = subst (IsRefused e) p h

-- what holds as the lines are read
pub record IsReading (joiner : Joiner) (rest text : List ℕ) : Type 0 where
  pub said : (rows (joiner.line + 1) (lines rest) >>= ends joiner) ≡ lines_said (lines text)
  pub room : joiner.line + length rest ≤ length text
  pub idle : joiner.joined ≡ false → joiner.words.items ≡ []

abbrev OwnIs : Bool → List Piece → List Piece → Type 0
OwnIs true row front = own (map word_of row) ≡ map text (map word_of front)
OwnIs false row front = own (map word_of row) ≡ map text (map word_of row)

pub own_is : (b : Bool) (row front : List Piece) (last : Piece) → row ≡ front ++ last ∷ [] → is_join (word_of last) ≡ b → OwnIs b row front
own_is true row front last e j = own_split row front last e ∙ rw (j, append-nil) refl
own_is false row front last e j = own_split row front last e ∙ rw j (sym (whole_split row front last e))

pub goes_on : (old new : Joiner) (row : List Word) (line rest after all : List ℕ) → IsReading old rest all → lines rest ≡ line ∷ lines after → length after < length rest
    → or_open (old.line + 1) (words Between line) ≡ Ok row → Adds old row new → new.line ≡ old.line + 1
    → (new.joined ≡ false → new.words.items ≡ []) → IsReading new after all
goes_on old new row line rest after all so_far is_cut shorter spelled adds number idle = record {
  said =
      ap (λ (n : ℕ). rows (n + 1) (lines after) >>= ends new) number
      ∙ ap (λ (n : ℕ). rows n (lines after) >>= ends new) (add-one (old.line + 1))
      ∙ sym (one_line old new row line (lines after) (old.line + 1) spelled adds)
      ∙ ap (λ (ls : List (List ℕ)). rows (old.line + 1) ls >>= ends old) (sym is_cut)
      ∙ so_far.said;
  room = omega arith;
  idle = idle;
}
