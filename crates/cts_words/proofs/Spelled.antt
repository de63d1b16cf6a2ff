-- The words that are found byte by byte are those that the line spells.
use Rattle.std.proofs.Common.{◌≡◌, ℕ, Bool, true, false, List, [], ◌∷◌, ◌++◌, Option, Some, None, refl, sym, ap, ◌∙◌, append_assoc, ◌==◌, subst, inl, inr, eq-eqb}
use Rattle.std.specs.Prelude.{not, ◌⊎◌, ◌&&◌}
use Rattle.std.proofs.lemmas.Bool.{and_parts, and_from, or_cases, eqb-true}
use Rattle.std.proofs.lemmas.List.{append-nil}
use Rattle.cts_words.specs.Grammar.{Word, Bare, Quoted, Place, Between, InWord, InQuotes, words, with_word, is_white, is_quote, hash}
use Rattle.cts_words.specs.Spelling.{IsBlank, IsOpenWord, IsWord, SpellsThen, Spells, LeavesOpen, ends_word, ends_line, begins_bare, all_white, none_white, is_without}
use Rattle.cts_words.proofs.Words.{with_words, with_words-none, at_hash, at_quote, at_bare}

pub not_false : (b : Bool) → not b ≡ true → b ≡ false
not_false true e = cc
not_false false e = refl

not_true : (b : Bool) → b ≡ false → not b ≡ true
not_true true e = cc
not_true false e = refl

-- ---- what is spelled is found

at_white : (c : ℕ) (rest : List ℕ) → is_white c ≡ true → words Between (c ∷ rest) ≡ words Between rest
at_white c rest e = rw e refl

in_word : (v : List ℕ) (c : ℕ) (rest : List ℕ) → is_white c ≡ false → words (InWord v) (c ∷ rest) ≡ words (InWord (v ++ c ∷ [])) rest
in_word v c rest e = rw e refl

after_word : (v : List ℕ) (c : ℕ) (rest : List ℕ) → is_white c ≡ true → words (InWord v) (c ∷ rest) ≡ with_word (Bare v) (words Between rest)
after_word v c rest e = rw e refl

in_quotes : (q : ℕ) (v : List ℕ) (c : ℕ) (rest : List ℕ) → (c == q) ≡ false → words (InQuotes q v) (c ∷ rest) ≡ words (InQuotes q (v ++ c ∷ [])) rest
in_quotes q v c rest e = rw e refl

after_quotes : (q : ℕ) (v : List ℕ) (c : ℕ) (rest : List ℕ) → (c == q) ≡ true → words (InQuotes q v) (c ∷ rest) ≡ with_word (Quoted v) (words Between rest)
after_quotes q v c rest e = rw e refl

skip : (white rest : List ℕ) → all_white white ≡ true → words Between (white ++ rest) ≡ words Between rest
skip [] rest e = refl
skip (c ∷ white) rest e =
    let both = and_parts (is_white c) (all_white white) e in
    at_white c (white ++ rest) both.0 ∙ skip white rest both.1

bare_end : (v rest : List ℕ) → ends_word rest ≡ true → words (InWord v) rest ≡ with_word (Bare v) (words Between rest)
bare_end v [] e = refl
bare_end v (c ∷ rest) e = after_word v c rest e ∙ ap (with_word (Bare v)) (sym (at_white c rest e))

bare_through : (v w rest : List ℕ) → none_white w ≡ true → ends_word rest ≡ true → words (InWord v) (w ++ rest) ≡ with_word (Bare (v ++ w)) (words Between rest)
bare_through v [] rest e over = bare_end v rest over ∙ rw append-nil refl
bare_through v (c ∷ w) rest e over =
    let both = and_parts (not (is_white c)) (none_white w) e in
    in_word v c (w ++ rest) (not_false (is_white c) both.0) ∙ bare_through (v ++ c ∷ []) w rest both.1 over ∙ rw append_assoc refl

quoted_through : (q : ℕ) (v w rest : List ℕ) → is_without q w ≡ true → words (InQuotes q v) (w ++ q ∷ rest) ≡ with_word (Quoted (v ++ w)) (words Between rest)
quoted_through q v [] rest e = after_quotes q v q rest (eq-eqb q q refl) ∙ rw append-nil refl
quoted_through q v (c ∷ w) rest e =
    let both = and_parts (not (c == q)) (is_without q w) e in
    in_quotes q v c (w ++ q ∷ rest) (not_false (c == q) both.0) ∙ quoted_through q (v ++ c ∷ []) w rest both.1 ∙ rw append_assoc refl

open_through : (q : ℕ) (v w : List ℕ) → is_without q w ≡ true → words (InQuotes q v) w ≡ None
open_through q v [] e = refl
open_through q v (c ∷ w) e =
    let both = and_parts (not (c == q)) (is_without q w) e in
    in_quotes q v c w (not_false (c == q) both.0) ∙ open_through q (v ++ c ∷ []) w both.1

-- a quote is no white space and no comment
quote_is : (q : ℕ) → is_quote q ≡ true → (is_white q ≡ false) × ((q == 35) ≡ false)
quote_is q e =
    let P : ℕ → Type 0 = λ q. (is_white q ≡ false) × ((q == 35) ≡ false) in
    elim (or_cases (q == 34) (q == 39) e) [ inl e ↦ subst P (sym (eqb-true q 34 e)) (refl, refl) | inr e ↦ subst P (sym (eqb-true q 39 e)) (refl, refl) ]

bare_found : (w rest : List ℕ) → begins_bare w ≡ true → none_white w ≡ true → ends_word rest ≡ true → words Between (w ++ rest) ≡ with_word (Bare w) (words Between rest)
bare_found [] rest begin bytes over = cc
bare_found (c ∷ w) rest begin bytes over =
    let first = and_parts (not (is_white c) && not (c == hash)) (not (is_quote c)) begin in
    let two = and_parts (not (is_white c)) (not (c == hash)) first.0 in
    at_bare c (w ++ rest) (not_false (is_white c) two.0) (not_false (c == hash) two.1) (not_false (is_quote c) first.1)
    ∙ bare_through (c ∷ []) w rest (and_parts (not (is_white c)) (none_white w) bytes).1 over

word_found : (w : Word) (line rest : List ℕ) → IsWord w line rest → words Between line ≡ with_word w (words Between rest)
word_found (Bare w) line rest s = ap (words Between) s.parts ∙ skip s.white (w ++ rest) s.blank ∙ bare_found w rest s.begin s.bytes s.over
word_found (Quoted w) line rest s =
    let is = quote_is s.quote s.begin in
    ap (words Between) s.parts ∙ skip s.white (s.quote ∷ (w ++ s.quote ∷ rest)) s.blank
    ∙ at_quote s.quote (w ++ s.quote ∷ rest) is.0 is.1 s.begin ∙ quoted_through s.quote [] w rest s.bytes

over_found : (rest : List ℕ) → ends_line rest ≡ true → words Between rest ≡ Some []
over_found [] e = refl
over_found (c ∷ rest) e = at_hash c rest (ap is_white (eqb-true c 35 e)) e

blank_found : (line : List ℕ) → IsBlank line → words Between line ≡ Some []
blank_found line s = ap (words Between) s.parts ∙ skip s.white s.rest s.blank ∙ over_found s.rest s.over

open_found : (line : List ℕ) → IsOpenWord line → words Between line ≡ None
open_found line s =
    let is = quote_is s.quote s.begin in
    ap (words Between) s.parts ∙ skip s.white (s.quote ∷ s.word) s.blank ∙ at_quote s.quote s.word is.0 is.1 s.begin ∙ open_through s.quote [] s.word s.bytes

one_in_front : (w : Word) (ws : List Word) (o : Option (List Word)) → with_word w (with_words ws o) ≡ with_words (w ∷ ws) o
one_in_front w ws None = refl
one_in_front w ws (Some vs) = refl

found : (End : List ℕ → Type 0) (o : Option (List Word)) → ((rest : List ℕ) → End rest → words Between rest ≡ o)
    → (ws : List Word) (line : List ℕ) → SpellsThen End ws line → words Between line ≡ with_words ws o
found End o ended [] line s = ended line s ∙ sym (with_words-none o)
found End o ended (w ∷ ws) line s =
    word_found w line s.0 s.1 ∙ ap (with_word w) (found End o ended ws s.0 s.2) ∙ one_in_front w ws o

pub words_found : (line : List ℕ) (ws : List Word) → Spells line ws → words Between line ≡ Some ws
words_found line ws s = found IsBlank (Some []) blank_found ws line s ∙ rw append-nil refl

pub none_found : (line : List ℕ) → LeavesOpen line → words Between line ≡ None
none_found line s = found IsOpenWord None open_found s.0 line s.1

-- ---- what is found is spelled

abbrev pub Says : Option (List Word) → List ℕ → Type 0
Says None line = LeavesOpen line
Says (Some ws) line = Spells line ws

word_more : (w : Word) (tail : Option (List Word)) (line rest : List ℕ) → IsWord w line rest → Says tail rest → Says (with_word w tail) line
word_more w None line rest is s = (w ∷ s.0, (rest, is, s.1))
word_more w (Some ws) line rest is s = (rest, is, s)

-- white space in front changes nothing
white_word : (c : ℕ) (line rest : List ℕ) (w : Word) → is_white c ≡ true → IsWord w line rest → IsWord w (c ∷ line) rest
white_word c line rest (Bare w) e s = record { white = c ∷ s.white; parts = ap (λ l. c ∷ l) s.parts; blank = and_from (is_white c) (all_white s.white) e s.blank; begin = s.begin; bytes = s.bytes; over = s.over }
white_word c line rest (Quoted w) e s = record { white = c ∷ s.white; quote = s.quote; parts = ap (λ l. c ∷ l) s.parts; blank = and_from (is_white c) (all_white s.white) e s.blank; begin = s.begin; bytes = s.bytes }

white_blank : (c : ℕ) (line : List ℕ) → is_white c ≡ true → IsBlank line → IsBlank (c ∷ line)
white_blank c line e s = record { white = c ∷ s.white; rest = s.rest; parts = ap (λ l. c ∷ l) s.parts; blank = and_from (is_white c) (all_white s.white) e s.blank; over = s.over }

white_open : (c : ℕ) (line : List ℕ) → is_white c ≡ true → IsOpenWord line → IsOpenWord (c ∷ line)
white_open c line e s = record { white = c ∷ s.white; quote = s.quote; word = s.word; parts = ap (λ l. c ∷ l) s.parts; blank = and_from (is_white c) (all_white s.white) e s.blank; begin = s.begin; bytes = s.bytes }

white_then : (End : List ℕ → Type 0) (c : ℕ) (line : List ℕ) → is_white c ≡ true → (End line → End (c ∷ line)) → (ws : List Word) → SpellsThen End ws line → SpellsThen End ws (c ∷ line)
white_then End c line e more [] s = more s
white_then End c line e more (w ∷ ws) s = (s.0, white_word c line s.0 w e s.1, s.2)

white_more : (c : ℕ) (line : List ℕ) (o : Option (List Word)) → is_white c ≡ true → Says o line → Says o (c ∷ line)
white_more c line None e s = (s.0, white_then IsOpenWord c line e (white_open c line e) s.0 s.1)
white_more c line (Some ws) e s = white_then IsBlank c line e (white_blank c line e) ws s

-- What a place in a line says of the rest of it.
record InBare (v : List ℕ) (o : Option (List Word)) (line : List ℕ) : Type 0 where
  word : List ℕ
  rest : List ℕ
  tail : Option (List Word)
  parts : line ≡ word ++ rest
  bytes : none_white word ≡ true
  over : ends_word rest ≡ true
  is : o ≡ with_word (Bare (v ++ word)) tail
  says : Says tail rest

record Closes (q : ℕ) (v : List ℕ) (o : Option (List Word)) (line : List ℕ) : Type 0 where
  word : List ℕ
  rest : List ℕ
  tail : Option (List Word)
  parts : line ≡ word ++ q ∷ rest
  bytes : is_without q word ≡ true
  is : o ≡ with_word (Quoted (v ++ word)) tail
  says : Says tail rest

record StaysOpen (q : ℕ) (o : Option (List Word)) (line : List ℕ) : Type 0 where
  bytes : is_without q line ≡ true
  is : o ≡ None

abbrev SaysAt : Place → Option (List Word) → List ℕ → Type 0
SaysAt Between o line = Says o line
SaysAt (InWord v) o line = InBare v o line
SaysAt (InQuotes q v) o line = Closes q v o line ⊎ StaysOpen q o line

nothing : IsBlank []
nothing = record { white = []; rest = []; parts = refl; blank = refl; over = refl }

at_start : (c : ℕ) (rest : List ℕ) (o : Option (List Word)) → is_quote c ≡ true → Closes c [] o rest ⊎ StaysOpen c o rest → Says o (c ∷ rest)
at_start c rest o q (inl s) =
    subst (λ (o : Option (List Word)). Says o (c ∷ rest)) (sym s.is)
    (word_more (Quoted s.word) s.tail (c ∷ rest) s.rest (record { white = []; quote = c; parts = ap (λ l. c ∷ l) s.parts; blank = refl; begin = q; bytes = s.bytes }) s.says)
at_start c rest o q (inr s) =
    subst (λ (o : Option (List Word)). Says o (c ∷ rest)) (sym s.is)
    ([], record { white = []; quote = c; word = rest; parts = refl; blank = refl; begin = q; bytes = s.bytes })

bare_start : (c : ℕ) (rest : List ℕ) (o : Option (List Word)) → is_white c ≡ false → (c == hash) ≡ false → is_quote c ≡ false → InBare (c ∷ []) o rest → Says o (c ∷ rest)
bare_start c rest o e h q s =
    subst (λ (o : Option (List Word)). Says o (c ∷ rest)) (sym s.is)
    (word_more (Bare (c ∷ s.word)) s.tail (c ∷ rest) s.rest
    (record {
      white = [];
      parts = ap (λ l. c ∷ l) s.parts;
      blank = refl;
      begin = and_from _ _ (and_from _ _ (not_true (is_white c) e) (not_true (c == hash) h)) (not_true (is_quote c) q);
      bytes = and_from _ _ (not_true (is_white c) e) s.bytes;
      over = s.over;
    })
    s.says)

between_step : (a b d : Bool) (c : ℕ) (rest : List ℕ) → is_white c ≡ a → (c == hash) ≡ b → is_quote c ≡ d
    → Says (words Between rest) rest → SaysAt (InWord (c ∷ [])) (words (InWord (c ∷ [])) rest) rest → SaysAt (InQuotes c []) (words (InQuotes c []) rest) rest
    → Says (words Between (c ∷ rest)) (c ∷ rest)
between_step true b d c rest e h q between bare quoted =
    subst (λ (o : Option (List Word)). Says o (c ∷ rest)) (sym (at_white c rest e)) (white_more c rest (words Between rest) e between)
between_step false true d c rest e h q between bare quoted =
    subst (λ (o : Option (List Word)). Says o (c ∷ rest)) (sym (at_hash c rest e h)) (record { white = []; rest = c ∷ rest; parts = refl; blank = refl; over = h })
between_step false false true c rest e h q between bare quoted =
    subst (λ (o : Option (List Word)). Says o (c ∷ rest)) (sym (at_quote c rest e h q)) (at_start c rest (words (InQuotes c []) rest) q quoted)
between_step false false false c rest e h q between bare quoted =
    subst (λ (o : Option (List Word)). Says o (c ∷ rest)) (sym (at_bare c rest e h q)) (bare_start c rest (words (InWord (c ∷ [])) rest) e h q bare)

word_step : (b : Bool) (v : List ℕ) (c : ℕ) (rest : List ℕ) → is_white c ≡ b → Says (words Between rest) rest → InBare (v ++ c ∷ []) (words (InWord (v ++ c ∷ [])) rest) rest
    → InBare v (words (InWord v) (c ∷ rest)) (c ∷ rest)
word_step true v c rest e between bare = record {
  word = [];
  rest = c ∷ rest;
  tail = words Between rest;
  parts = refl;
  bytes = refl;
  over = e;
  is = after_word v c rest e ∙ rw append-nil refl;
  says = white_more c rest (words Between rest) e between;
}
word_step false v c rest e between bare = record {
  word = c ∷ bare.word;
  rest = bare.rest;
  tail = bare.tail;
  parts = ap (λ l. c ∷ l) bare.parts;
  bytes = and_from _ _ (not_true (is_white c) e) bare.bytes;
  over = bare.over;
  is = in_word v c rest e ∙ bare.is ∙ rw append_assoc refl;
  says = bare.says;
}

quote_on : (q : ℕ) (v : List ℕ) (c : ℕ) (rest : List ℕ) → (c == q) ≡ false → Closes q (v ++ c ∷ []) (words (InQuotes q (v ++ c ∷ [])) rest) rest ⊎ StaysOpen q (words (InQuotes q (v ++ c ∷ [])) rest) rest
    → Closes q v (words (InQuotes q v) (c ∷ rest)) (c ∷ rest) ⊎ StaysOpen q (words (InQuotes q v) (c ∷ rest)) (c ∷ rest)
quote_on q v c rest e (inl s) = inl (record {
  word = c ∷ s.word;
  rest = s.rest;
  tail = s.tail;
  parts = ap (λ l. c ∷ l) s.parts;
  bytes = and_from _ _ (not_true (c == q) e) s.bytes;
  is = in_quotes q v c rest e ∙ s.is ∙ rw append_assoc refl;
  says = s.says;
})
quote_on q v c rest e (inr s) = inr (record { bytes = and_from _ _ (not_true (c == q) e) s.bytes; is = in_quotes q v c rest e ∙ s.is })

quote_step : (b : Bool) (q : ℕ) (v : List ℕ) (c : ℕ) (rest : List ℕ) → (c == q) ≡ b → Says (words Between rest) rest
    → Closes q (v ++ c ∷ []) (words (InQuotes q (v ++ c ∷ [])) rest) rest ⊎ StaysOpen q (words (InQuotes q (v ++ c ∷ [])) rest) rest
    → Closes q v (words (InQuotes q v) (c ∷ rest)) (c ∷ rest) ⊎ StaysOpen q (words (InQuotes q v) (c ∷ rest)) (c ∷ rest)
quote_step true q v c rest e between quoted = inl (record {
  word = [];
  rest = rest;
  tail = words Between rest;
  parts = ap (λ (x : ℕ). x ∷ rest) (eqb-true c q e);
  bytes = refl;
  is = after_quotes q v c rest e ∙ rw append-nil refl;
  says = between;
})
quote_step false q v c rest e between quoted = quote_on q v c rest e quoted

told : (line : List ℕ) (place : Place) → SaysAt place (words place line) line
told [] Between = nothing
told [] (InWord v) = record { word = []; rest = []; tail = Some []; parts = refl; bytes = refl; over = refl; is = rw append-nil refl; says = nothing }
told [] (InQuotes q v) = inr (record { bytes = refl; is = refl })
told (c ∷ rest) Between =
    between_step (is_white c) (c == hash) (is_quote c) c rest refl refl refl (told rest Between) (told rest (InWord (c ∷ []))) (told rest (InQuotes c []))
told (c ∷ rest) (InWord v) = word_step (is_white c) v c rest refl (told rest Between) (told rest (InWord (v ++ c ∷ [])))
told (c ∷ rest) (InQuotes q v) = quote_step (c == q) q v c rest refl (told rest Between) (told rest (InQuotes q (v ++ c ∷ [])))

pub words_spelled : (line : List ℕ) (ws : List Word) → words Between line ≡ Some ws → Spells line ws
words_spelled line ws e = subst (λ (o : Option (List Word)). Says o line) e (told line Between)

pub open_left : (line : List ℕ) → words Between line ≡ None → LeavesOpen line
open_left line e = subst (λ (o : Option (List Word)). Says o line) e (told line Between)
