-- Each fault is told of the line that has it.
use Rattle.std.proofs.Common.{◌≡◌, ℕ, suc, ◌+◌, Bool, true, false, List, [], ◌∷◌, ◌++◌, length, map, Option, Some, None, refl, sym, ap, ◌∙◌, subst, arith, unwrap_or}
use Rattle.std.specs.Prelude.{◌↔◌, if◌then◌else◌}
use Rattle.std.specs.List.{AllByRecursion}
use Rattle.std.proofs.lemmas.List.{map-append, length-append}
use Rattle.std.proofs.lemmas.Bool.{eqb-true}
use Rattle.cts_words.specs.Grammar.{Word, Bare, Quoted, Between, words}
use Rattle.cts_words.specs.Spelling.{LeavesOpen}
use Rattle.cts_words.specs.Statements.{lines, line_words, is_join, joins, first_open, open_quote, dangles, dangling_join}
use Rattle.cts_words.specs.FaultPlaces.{IsClosed, IsFirstOpenLine, EndsWithJoinWord, IsJoinedToNothing}
use Rattle.cts_words.proofs.Lines.{joins_last}
use Rattle.cts_words.proofs.Spelled.{words_found, none_found, words_spelled, open_left}

-- ---- the first open quote

-- the lines up to the one of this number, which is the first that is left open; the first line of all has number n
record OpenFrom (n : ℕ) (ls : List (List ℕ)) (number : ℕ) : Type 0 where
  pub front : List (List ℕ)
  pub line : List ℕ
  pub later : List (List ℕ)
  pub parts : ls ≡ front ++ line ∷ later
  pub number_is : number ≡ length front + n
  pub closed : AllByRecursion IsClosed front
  pub left_open : LeavesOpen line

closed_by : (line : List ℕ) (row : List Word) → words Between line ≡ Some row → IsClosed line
closed_by line row e left = let none : words Between line ≡ None = none_found line left in let same = sym e ∙ none in cc

told_step : (o : Option (List Word)) (n number : ℕ) (line : List ℕ) (others : List (List ℕ)) → words Between line ≡ o
    → (first_open (suc n) others ≡ Some number → OpenFrom (suc n) others number) → first_open n (line ∷ others) ≡ Some number → OpenFrom n (line ∷ others) number
told_step None n number line others e h told = record {
  front = [];
  line = line;
  later = others;
  parts = refl;
  number_is = let same : Some n ≡ Some number = rw e at told in let is : n ≡ number = cc in sym is ∙ omega arith;
  closed = tt;
  left_open = open_left line e;
}
told_step (Some row) n number line others e h told =
    let rest = h (rw e at told) in record {
      front = line ∷ rest.front;
      line = rest.line;
      later = rest.later;
      parts = ap (λ (ls : List (List ℕ)). line ∷ ls) rest.parts;
      number_is = let is = rest.number_is in omega arith;
      closed = (closed_by line row e, rest.closed);
      left_open = rest.left_open;
    }

told_from : (n number : ℕ) (ls : List (List ℕ)) → first_open n ls ≡ Some number → OpenFrom n ls number
told_from n number [] told = cc
told_from n number (line ∷ others) told = told_step (words Between line) n number line others refl (told_from (suc n) number others) told

open_here : (n : ℕ) (line : List ℕ) (others : List (List ℕ)) → LeavesOpen line → first_open n (line ∷ others) ≡ Some n
open_here n line others left = rw (none_found line left) refl

passes_step : (o : Option (List Word)) (n : ℕ) (line : List ℕ) (others : List (List ℕ)) → words Between line ≡ o → IsClosed line → first_open n (line ∷ others) ≡ first_open (suc n) others
passes_step None n line others e closed = absurd (closed (open_left line e))
passes_step (Some row) n line others e closed = rw e refl

tells_from : (n : ℕ) (front : List (List ℕ)) (line : List ℕ) (later : List (List ℕ)) → AllByRecursion IsClosed front → LeavesOpen line
    → first_open n (front ++ line ∷ later) ≡ Some (length front + n)
tells_from n [] line later closed left = open_here n line later left ∙ ap (λ (k : ℕ). Some k) (omega arith)
tells_from n (l ∷ front) line later closed left =
    passes_step (words Between l) n l (front ++ line ∷ later) refl closed.0
    ∙ tells_from (suc n) front line later closed.1 left ∙ ap (λ (k : ℕ). Some k) (omega arith)

pub first_open_is_told : (text : List ℕ) (number : ℕ) → (open_quote text ≡ Some number) ↔ IsFirstOpenLine text number
first_open_is_told text number = (
  λ told. let o = told_from 1 number (lines text) told in
      record { front = o.front; line = o.line; later = o.later; parts = o.parts; number_is = o.number_is; closed = o.closed; left_open = o.left_open },
  λ f. ap (first_open 1) f.parts ∙ tells_from 1 f.front f.line f.later f.closed f.left_open ∙ ap (λ (k : ℕ). Some k) (sym f.number_is),
)

-- ---- no open quote

none_step : (o : Option (List Word)) (n : ℕ) (line : List ℕ) (others : List (List ℕ)) → words Between line ≡ o
    → (first_open (suc n) others ≡ None → AllByRecursion IsClosed others) → first_open n (line ∷ others) ≡ None → IsClosed line × AllByRecursion IsClosed others
none_step None n line others e h none = absurd (let some = rw e at none in cc)
none_step (Some row) n line others e h none = (closed_by line row e, h (rw e at none))

none_from : (n : ℕ) (ls : List (List ℕ)) → first_open n ls ≡ None → AllByRecursion IsClosed ls
none_from n [] none = tt
none_from n (line ∷ others) none = none_step (words Between line) n line others refl (none_from (suc n) others) none

closed_from : (n : ℕ) (ls : List (List ℕ)) → AllByRecursion IsClosed ls → first_open n ls ≡ None
closed_from n [] closed = refl
closed_from n (line ∷ others) closed = passes_step (words Between line) n line others refl closed.0 ∙ closed_from (suc n) others closed.1

pub closed_are_not_told : (text : List ℕ) → (open_quote text ≡ None) ↔ AllByRecursion IsClosed (lines text)
closed_are_not_told text = (none_from 1 (lines text), closed_from 1 (lines text))

-- ---- the dangling join

-- a list is empty, or ends with one element
data Ended {X : Type 0} (xs : List X) : Type 0 where
  Nothing : xs ≡ [] → Ended xs
  Behind : (front : List X) (last : X) → xs ≡ front ++ last ∷ [] → Ended xs

ended_after : {X : Type 0} (x : X) (xs : List X) → Ended xs → Ended (x ∷ xs)
ended_after x xs (Nothing e) = Behind [] x (ap (λ ys. x ∷ ys) e)
ended_after x xs (Behind front last e) = Behind (x ∷ front) last (ap (λ ys. x ∷ ys) e)

ended : {X : Type 0} (xs : List X) → Ended xs
ended [] = Nothing refl
ended (x ∷ xs) = ended_after x xs (ended xs)

-- only the last line tells whether the lines dangle
dangles_last : (before : Bool) (front : List (List Word)) (row : List Word) → dangles before (front ++ row ∷ []) ≡ joins row
dangles_last before [] row = refl
dangles_last before (r ∷ front) row = dangles_last (joins r) front row

join_is : (w : Word) → is_join w ≡ true → w ≡ Bare (38 ∷ [])
join_is (Quoted w) e = cc
join_is (Bare []) e = cc
join_is (Bare (c ∷ d ∷ w)) e = cc
join_is (Bare (c ∷ [])) e = ap (λ (x : ℕ). Bare (x ∷ [])) (eqb-true c 38 e)

joined_row : (ws : List Word) → joins ws ≡ true → Ended ws → (front : List Word) × (ws ≡ front ++ Bare (38 ∷ []) ∷ [])
joined_row ws j (Nothing e) = absurd (let none : joins [] ≡ true = subst (λ (row : List Word). joins row ≡ true) e j in cc)
joined_row ws j (Behind front last e) =
    let is : last ≡ Bare (38 ∷ []) = join_is last (sym (joins_last front last) ∙ (ap joins (sym e) ∙ j)) in
    (front, e ∙ ap (λ (w : Word). front ++ w ∷ []) is)

join_step : (o : Option (List Word)) (line : List ℕ) → words Between line ≡ o → joins (line_words line) ≡ true → EndsWithJoinWord line
join_step None line e j = absurd (let none = rw e at j in cc)
join_step (Some ws) line e j =
    let row = joined_row ws (rw e at j) (ended ws) in
    (row.0, words_spelled line (row.0 ++ Bare (38 ∷ []) ∷ []) (e ∙ ap (λ (r : List Word). Some r) row.1))

join_found : (line : List ℕ) → EndsWithJoinWord line → joins (line_words line) ≡ true
join_found line (ws, spells) =
    ap (λ (o : Option (List Word)). joins (unwrap_or o [])) (words_found line (ws ++ Bare (38 ∷ []) ∷ []) spells) ∙ joins_last ws (Bare (38 ∷ []))

last_joins : (ls front : List (List ℕ)) (last : List ℕ) → ls ≡ front ++ last ∷ [] → dangles false (map line_words ls) ≡ joins (line_words last)
last_joins ls front last e = ap (λ (xs : List (List ℕ)). dangles false (map line_words xs)) e ∙ rw map-append (dangles_last false (map line_words front) (line_words last))

count_last : (ls front : List (List ℕ)) (last : List ℕ) → ls ≡ front ++ last ∷ [] → length ls ≡ length front + 1
count_last ls front last e = ap length e ∙ length-append front (last ∷ [])

dangling_when : (b : Bool) (text : List ℕ) (number : ℕ) → dangles false (map line_words (lines text)) ≡ b → dangling_join text ≡ Some number → (b ≡ true) × (length (lines text) ≡ number)
dangling_when true text number e told = (refl, let same : Some (length (lines text)) ≡ Some number = rw e at told in cc)
dangling_when false text number e told = absurd (let none = rw e at told in cc)

told_join : (text : List ℕ) (number : ℕ) → (dangles false (map line_words (lines text)) ≡ true) × (length (lines text) ≡ number) → Ended (lines text) → IsJoinedToNothing text number
told_join text number told (Nothing e) =
    absurd (let none : dangles false (map line_words []) ≡ true = subst (λ (ls : List (List ℕ)). dangles false (map line_words ls) ≡ true) e told.0 in cc)
told_join text number told (Behind front last e) = record {
  front = front;
  last = last;
  parts = e;
  number_is = sym told.1 ∙ count_last (lines text) front last e;
  joins = join_step (words Between last) last refl (sym (last_joins (lines text) front last e) ∙ told.0);
}

tells_join : (text : List ℕ) (number : ℕ) → IsJoinedToNothing text number → dangling_join text ≡ Some number
tells_join text number j =
    let on : dangles false (map line_words (lines text)) ≡ true = last_joins (lines text) j.front j.last j.parts ∙ join_found j.last j.joins in
    ap (λ (b : Bool). if b then Some (length (lines text)) else None) on
    ∙ ap (λ (k : ℕ). Some k) (count_last (lines text) j.front j.last j.parts ∙ sym j.number_is)

pub join_is_told : (text : List ℕ) (number : ℕ) → (dangling_join text ≡ Some number) ↔ IsJoinedToNothing text number
join_is_told text number = (
  λ told. told_join text number (dangling_when (dangles false (map line_words (lines text))) text number refl told) (ended (lines text)),
  tells_join text number,
)
