-- What lines and joined lines give, said of the whole.
use Rattle.std.proofs.Common.{◌≡◌, ℕ, suc, ◌+◌, Bool, true, false, List, [], ◌∷◌, ◌++◌, length, map, refl, sym, ap, ◌∙◌, ◌==◌, arith}
use Rattle.std.specs.Prelude.{not, if◌then◌else◌}
use Rattle.std.specs.List.{list_all, flat_map}
use Rattle.std.proofs.lemmas.Bool.{and_parts}
use Rattle.std.proofs.lemmas.List.{append-nil, map-append}
use Rattle.cts_words.specs.Grammar.{Word, text}
use Rattle.cts_words.specs.Spelling.{is_without}
use Rattle.cts_words.specs.Statements.{lines, with_front, is_join, joins, own, statement, cut, joined_from}
use Rattle.cts_words.specs.declared.statement.Statement.{Statement}
use Rattle.cts_words.proofs.Lines.{feed_front, joins_last, own_last}
use Rattle.cts_words.proofs.Spelled.{not_false}

-- ---- lines

pub lines-feed : (line rest : List ℕ) → is_without 10 line ≡ true → lines (line ++ 10 ∷ rest) ≡ line ∷ lines rest
lines-feed [] rest e = refl
lines-feed (c ∷ line) rest e =
    let both = and_parts (not (c == 10)) (is_without 10 line) e in
    feed_front c (line ++ 10 ∷ rest) (not_false (c == 10) both.0) ∙ ap (with_front c) (lines-feed line rest both.1)

pub lines-last : (c : ℕ) (line : List ℕ) → is_without 10 (c ∷ line) ≡ true → lines (c ∷ line) ≡ (c ∷ line) ∷ []
lines-last c [] e = feed_front c [] (not_false (c == 10) (and_parts (not (c == 10)) true e).0)
lines-last c (d ∷ line) e =
    let both = and_parts (not (c == 10)) (is_without 10 (d ∷ line)) e in
    feed_front c (d ∷ line) (not_false (c == 10) both.0) ∙ ap (with_front c) (lines-last d line both.1)

-- ---- joined lines

joining : (n : ℕ) (row : List Word) (rows : List (List Word)) → joins row ≡ true → cut n (row ∷ rows) ≡ (own row ++ (cut (suc n) rows).0, (cut (suc n) rows).1)
joining n row rows e = rw e refl

ending : (n : ℕ) (row : List Word) (rows : List (List Word)) → joins row ≡ false → cut n (row ∷ rows) ≡ (own row, joined_from (suc n) rows)
ending n row rows e = rw e refl

next_line : (n : ℕ) → n + 0 + 1 ≡ suc n
next_line n = omega arith

line_after : (n k : ℕ) → suc n + k + 1 ≡ n + suc k + 1
line_after n k = omega arith

cut-group : (n : ℕ) (front : List (List Word)) (last : List Word) (rest : List (List Word)) → list_all joins front ≡ true → joins last ≡ false
    → cut n (front ++ last ∷ rest) ≡ (flat_map own (front ++ last ∷ []), joined_from (n + length front + 1) rest)
cut-group n [] last rest e ends = ending n last rest ends ∙ rw (next_line n, append-nil) refl
cut-group n (row ∷ front) last rest e ends =
    let both = and_parts (joins row) (list_all joins front) e in
    joining n row (front ++ last ∷ rest) both.0
    ∙ ap (λ (p : List (List ℕ) × List Statement). (own row ++ p.0, p.1)) (cut-group (suc n) front last rest both.1 ends)
    ∙ ap (λ (k : ℕ). (own row ++ flat_map own (front ++ last ∷ []), joined_from k rest)) (line_after n (length front))

pub joined-group : (n : ℕ) (front : List (List Word)) (last : List Word) (rest : List (List Word)) → list_all joins front ≡ true → joins last ≡ false
    → joined_from n (front ++ last ∷ rest) ≡ statement n (flat_map own (front ++ last ∷ [])) ++ joined_from (n + length front + 1) rest
joined-group n front last rest e ends =
    ap (λ (p : List (List ℕ) × List Statement). statement n p.0 ++ p.1) (cut-group n front last rest e ends)

own_cases : (b : Bool) (ws : List Word) (w : Word) → map text ws ++ (if b then [] else text w ∷ []) ≡ map text (if b then ws else ws ++ w ∷ [])
own_cases true ws w = append-nil (map text ws)
own_cases false ws w = sym (map-append text ws (w ∷ []))

pub join_word : (ws : List Word) (w : Word) → (joins (ws ++ w ∷ []) ≡ is_join w) × (own (ws ++ w ∷ []) ≡ map text (if is_join w then ws else ws ++ w ∷ []))
join_word ws w = (joins_last ws w, own_last ws w ∙ own_cases (is_join w) ws w)
