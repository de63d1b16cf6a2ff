-- A line read word by word spells what the grammar says.
use Rattle.std.proofs.Common.{◌≡◌, ℕ, suc, ◌+◌, ◌<◌, ◌≤◌, Bool, true, false, List, [], ◌∷◌, ◌++◌, length, take, drop, Option, Some, None, refl, sym, ap, ◌∙◌, append_assoc, arith, ◌==◌, ◌-◌, map, subst}
use Rattle.std.specs.Prelude.{not}
use Rattle.std.specs.List.{position_or_len}
use Rattle.std.proofs.lemmas.List.{append-nil, take_rest, map-append}
use Rattle.cts_words.specs.Grammar.{Word, Bare, Quoted, Between, InWord, InQuotes, words, with_word, is_white, is_quote}
use Rattle.cts_words.specs.Seen.{IsBlackFirst, word_of}
use Rattle.cts_words.specs.declared.line.Piece.{Piece}

abbrev pub is_black : ℕ → Bool
is_black b = not (is_white b)

one-plus : (n : ℕ) → 1 + n ≡ suc n
one-plus n = omega arith

one-plus-one : (n : ℕ) → 1 + n + 1 ≡ suc (n + 1)
one-plus-one n = omega arith

white_step : (b : Bool) (c : ℕ) (rest : List ℕ) → is_white c ≡ b → words Between rest ≡ words Between (drop (position_or_len is_black rest) rest)
    → words Between (c ∷ rest) ≡ words Between (drop (position_or_len is_black (c ∷ rest)) (c ∷ rest))
white_step true c rest e h = rw (e, one-plus) h
white_step false c rest e h = rw e (rw e refl)

pub white : (line : List ℕ) → words Between line ≡ words Between (drop (position_or_len is_black line) line)
white [] = refl
white (c ∷ rest) = white_step (is_white c) c rest refl (white rest)

bare_step : (b : Bool) (c : ℕ) (w rest : List ℕ) → is_white c ≡ b
    → words (InWord (w ++ c ∷ [])) rest ≡ with_word (Bare ((w ++ c ∷ []) ++ take (position_or_len is_white rest) rest)) (words Between (drop (position_or_len is_white rest) rest))
    → words (InWord w) (c ∷ rest) ≡ with_word (Bare (w ++ take (position_or_len is_white (c ∷ rest)) (c ∷ rest))) (words Between (drop (position_or_len is_white (c ∷ rest)) (c ∷ rest)))
bare_step true c w rest e h = rw (e, append-nil w) (rw e refl)
bare_step false c w rest e h = rw (e, one-plus) (h ∙ rw append_assoc refl)

pub bare : (w line : List ℕ) → words (InWord w) line ≡ with_word (Bare (w ++ take (position_or_len is_white line) line)) (words Between (drop (position_or_len is_white line) line))
bare w [] = rw append-nil refl
bare w (c ∷ rest) = bare_step (is_white c) c w rest refl (bare (w ++ c ∷ []) rest)

quoted_step : (b : Bool) (q c : ℕ) (w rest : List ℕ) → (c == q) ≡ b
    → (position_or_len (λ x. x == q) rest < length rest → words (InQuotes q (w ++ c ∷ [])) rest ≡ with_word (Quoted ((w ++ c ∷ []) ++ take (position_or_len (λ x. x == q) rest) rest)) (words Between (drop (position_or_len (λ x. x == q) rest + 1) rest)))
    → position_or_len (λ x. x == q) (c ∷ rest) < length (c ∷ rest)
    → words (InQuotes q w) (c ∷ rest) ≡ with_word (Quoted (w ++ take (position_or_len (λ x. x == q) (c ∷ rest)) (c ∷ rest))) (words Between (drop (position_or_len (λ x. x == q) (c ∷ rest) + 1) (c ∷ rest)))
quoted_step true q c w rest e h lt = rw (e, append-nil w) refl
quoted_step false q c w rest e h lt = rw (e, one-plus-one) (rw one-plus (h (omega (arith, rw e at lt)) ∙ rw append_assoc refl))

pub quoted : (q : ℕ) (w line : List ℕ) → position_or_len (λ x. x == q) line < length line
    → words (InQuotes q w) line ≡ with_word (Quoted (w ++ take (position_or_len (λ x. x == q) line) line)) (words Between (drop (position_or_len (λ x. x == q) line + 1) line))
quoted q w [] lt = absurd (omega arith)
quoted q w (c ∷ rest) lt = quoted_step (c == q) q c w rest refl (quoted q (w ++ c ∷ []) rest) lt

open_step : (b : Bool) (q c : ℕ) (w rest : List ℕ) → (c == q) ≡ b
    → (length rest ≤ position_or_len (λ x. x == q) rest → words (InQuotes q (w ++ c ∷ [])) rest ≡ None)
    → length (c ∷ rest) ≤ position_or_len (λ x. x == q) (c ∷ rest) → words (InQuotes q w) (c ∷ rest) ≡ None
open_step true q c w rest e h le = absurd (omega (arith, rw e at le))
open_step false q c w rest e h le = rw e (h (omega (arith, rw e at le)))

pub open_quote : (q : ℕ) (w line : List ℕ) → length line ≤ position_or_len (λ x. x == q) line → words (InQuotes q w) line ≡ None
open_quote q w [] le = refl
open_quote q w (c ∷ rest) le = open_step (c == q) q c w rest refl (open_quote q (w ++ c ∷ []) rest) le

-- words in front of the rest of a line
abbrev pub with_words : List Word → Option (List Word) → Option (List Word)
with_words ws None = None
with_words ws (Some vs) = Some (ws ++ vs)

pub with_words-none : (r : Option (List Word)) → with_words [] r ≡ r
with_words-none None = refl
with_words-none (Some vs) = refl

pub with_words-more : (ws : List Word) (w : Word) (r : Option (List Word)) → with_words (ws ++ w ∷ []) r ≡ with_words ws (with_word w r)
with_words-more ws w None = refl
with_words-more ws w (Some vs) = rw append_assoc refl

black_step : (b : Bool) (c : ℕ) (rest : List ℕ) → is_white c ≡ b → IsBlackFirst (drop (position_or_len is_black rest) rest)
    → IsBlackFirst (drop (position_or_len is_black (c ∷ rest)) (c ∷ rest))
black_step true c rest e h = rw (e, one-plus) h
black_step false c rest e h = rw e e

pub black : (line : List ℕ) → IsBlackFirst (drop (position_or_len is_black line) line)
black [] = tt
black (c ∷ rest) = black_step (is_white c) c rest refl (black rest)

-- the four ways in which a line goes on that does not begin with white space
pub at_end : (line : List ℕ) → length line ≡ 0 → words Between line ≡ Some []
at_end [] e = refl
at_end (c ∷ rest) e = absurd (omega arith)

pub at_hash : (c : ℕ) (rest : List ℕ) → is_white c ≡ false → (c == 35) ≡ true → words Between (c ∷ rest) ≡ Some []
at_hash c rest w e = rw (w, e) refl

pub at_quote : (c : ℕ) (rest : List ℕ) → is_white c ≡ false → (c == 35) ≡ false → is_quote c ≡ true → words Between (c ∷ rest) ≡ words (InQuotes c []) rest
at_quote c rest w e q = rw (w, e, q) refl

pub at_bare : (c : ℕ) (rest : List ℕ) → is_white c ≡ false → (c == 35) ≡ false → is_quote c ≡ false → words Between (c ∷ rest) ≡ words (InWord (c ∷ [])) rest
at_bare c rest w e q = rw (w, e, q) refl

bare_front : (c : ℕ) (rest : List ℕ) (n : ℕ) → is_white c ≡ false → (c == 35) ≡ false → is_quote c ≡ false → n ≡ position_or_len is_white rest
    → words Between (c ∷ rest) ≡ with_word (Bare (take (1 + n) (c ∷ rest))) (words Between (drop (1 + n) (c ∷ rest)))
bare_front c rest n w e q at = rw (one-plus n, at) (at_bare c rest w e q ∙ bare (c ∷ []) rest)

pub bare_first : (line from : List ℕ) (c : ℕ) (rest : List ℕ) (n : ℕ) → words Between line ≡ words Between from → from ≡ c ∷ rest → IsBlackFirst from
    → (c == 35) ≡ false → is_quote c ≡ false → n ≡ position_or_len is_white rest
    → words Between line ≡ with_word (Bare (take (1 + n) from)) (words Between (take (length from - (1 + n)) (drop (1 + n) from)))
bare_first line from c rest n same cons black e q at =
    same ∙ rw (take_rest, cons) (bare_front c rest n (subst IsBlackFirst cons black) e q at)

-- one more word is found
pub found_more : (line : List ℕ) (old new : List Piece) (w : Piece) (r all : Option (List Word)) → words Between line ≡ with_word (word_of w) r
    → new ≡ old ++ w ∷ [] → with_words (map word_of old) (words Between line) ≡ all → with_words (map word_of new) r ≡ all
found_more line old new w r all next push so_far =
    ap (λ (ps : List Piece). with_words (map word_of ps) r) push ∙ rw map-append (with_words-more (map word_of old) (word_of w) r) ∙ ap (with_words (map word_of old)) (sym next) ∙ so_far
