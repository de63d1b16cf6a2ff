-- One definition and one item for each statement that says so, and the first refusal.
use Rattle.std.proofs.Common.{◌≡◌, ℕ, max, List, [], ◌∷◌, ◌++◌, length, map, Option, Some, None, refl, ap, ◌∙◌, inl, true, false, Bool, arith}
use Rattle.std.specs.Prelude.{option_map, if◌then◌else◌}
use Rattle.cts_bits.specs.declared.order.Order.{Order}
use Rattle.cts_def.specs.Items.{ItemData, span_of}
use Rattle.cts_def.specs.Spans.{end_of}
use Rattle.cts_defstatement.specs.declared.keyword.Keyword.{Keyword}
use Rattle.cts_defstatement.specs.declared.line.ItemLine.{ItemLine}
use Rattle.cts_defstatement.specs.declared.line.Line.{Line}
use Rattle.cts_defstatement.specs.declared.line.PacketLine.{PacketLine}
use Rattle.cts_defstatement.specs.declared.open.Open.{Open}
use Rattle.cts_defstatement.specs.Forms.{keyword_of, is_array_keyword}
use Rattle.cts_defstatement.specs.Lines.{line_in, line_of}
use Rattle.cts_defstatement.specs.declared.cause.DefCause.TheVariants.{ArrayItem}
use Rattle.cts_defstatement.specs.Refusals.{word_cause, keyword_cause}
use Rattle.cts_defread.specs.Causes.{opened}
use Rattle.cts_defread.specs.Definitions.{refusal, at_end, lines_of, cause_of_line}
use Rattle.cts_defread.specs.Laws.{RefusesTheFirst, TakesTheOthers, StatementsSayLines, head_of, said_of, said_in, end_after, OneForEachHead, OneForEachItem, ItemsHaveTheirOffsets}
use Rattle.cts_defread.specs.Standing.{packet_in, item_in, item_at, end_from, items_from, offset_or, packet_of, standing, set_names_of, definitions_at}
use Rattle.cts_words.specs.Blocks.{blocks}
use Rattle.cts_words.specs.Refusals.{or_else}
use Rattle.cts_words.proofs.Blocks.{heads}
use Rattle.cts_reader.proofs.FirstRefused as frame
use Rattle.cts_reader.proofs.FirstRefused.{never_at_end}

-- ---- in order

heads_of : (bs : List (PacketLine × List Line)) → map head_of (map packet_of bs) ≡ map (λ (b : PacketLine × List Line). b.0) bs
heads_of [] = refl
heads_of (b ∷ bs) = ap (λ hs. b.0 ∷ hs) (heads_of bs)

pub one_for_each_head : OneForEachHead
one_for_each_head lines = heads_of (blocks packet_in lines) ∙ heads packet_in lines

said_from : (order : Order) (end : ℕ) (bs : List (ItemLine × List Line)) → map said_in (items_from order end bs) ≡ map said_of (map (λ (b : ItemLine × List Line). b.0) bs)
said_from order end [] = refl
said_from order end (b ∷ bs) = ap (λ ns. said_of b.0 ∷ ns) (said_from order (max end (end_of (span_of (item_at order end b.0 b.1)))) bs)

pub one_for_each_item : OneForEachItem
one_for_each_item head body = said_from head.order 0 (blocks item_in body) ∙ ap (map said_of) (heads item_in body)

-- ---- offsets

end_from_greatest : (end : ℕ) (items : List ItemData) → end_from end items ≡ max end (end_after items)
end_from_greatest end [] = omega arith
end_from_greatest end (i ∷ items) =
    let rest : end_from (max end (end_of (span_of i))) items ≡ max (max end (end_of (span_of i))) (end_after items) = end_from_greatest (max end (end_of (span_of i))) items in
    omega arith

offset_at : (order : Order) (end : ℕ) (bs : List (ItemLine × List Line)) (front rest : List ItemData) (i : ItemData) (before after : List ItemLine) (l : ItemLine)
    → items_from order end bs ≡ front ++ i ∷ rest → map (λ (b : ItemLine × List Line). b.0) bs ≡ before ++ l ∷ after → length front ≡ length before
    → i.offset ≡ offset_or (end_from end front) l.offset
offset_at order end [] [] rest i before after l items lines same = absurd cc
offset_at order end [] (f ∷ front) rest i before after l items lines same = absurd cc
offset_at order end (b ∷ bs) [] rest i [] after l items lines same =
    let item : i ≡ item_at order end b.0 b.1 = cc in
    let head : b.0 ≡ l = cc in
    ap (λ (j : ItemData). j.offset) item ∙ ap (λ (m : ItemLine). offset_or end m.offset) head
offset_at order end (b ∷ bs) [] rest i (k ∷ before) after l items lines same = absurd (omega arith)
offset_at order end (b ∷ bs) (f ∷ front) rest i [] after l items lines same = absurd (omega arith)
offset_at order end (b ∷ bs) (f ∷ front) rest i (k ∷ before) after l items lines same =
    let item : item_at order end b.0 b.1 ≡ f = cc in
    let others : items_from order (max end (end_of (span_of (item_at order end b.0 b.1)))) bs ≡ front ++ i ∷ rest = cc in
    let heads_left : map (λ (c : ItemLine × List Line). c.0) bs ≡ before ++ l ∷ after = cc in
    offset_at order (max end (end_of (span_of (item_at order end b.0 b.1)))) bs front rest i before after l others heads_left (omega arith)
    ∙ ap (λ (j : ItemData). offset_or (end_from (max end (end_of (span_of j))) front) l.offset) item

pub end_after_first : (items : List ItemData) → end_from 0 items ≡ end_after items
end_after_first items = let e = end_from_greatest 0 items in omega arith

pub items_have_their_offsets : ItemsHaveTheirOffsets
items_have_their_offsets head body front rest i before after l items lines same =
    offset_at head.order 0 (blocks item_in body) front rest i before after l items (heads item_in body ∙ lines) same
    ∙ ap (λ (n : ℕ). offset_or n l.offset) (end_after_first front)

-- ---- the first refusal

pub refuses_the_first : RefusesTheFirst
refuses_the_first all r =
    let law = frame.refuses_the_first refusal at_end (λ ss. definitions_at (lines_of ss)) all r in
    (λ e. never_at_end refusal at_end all r refl (law.0 e), λ w. law.1 (inl w))

pub takes_the_others : TakesTheOthers
takes_the_others all none = frame.takes_the_others refusal at_end (λ ss. definitions_at (lines_of ss)) all none refl

-- ---- lines

first_none : {R : Type 0} (o p : Option R) → or_else o p ≡ None → o ≡ None
first_none None p e = refl
first_none (Some r) p e = absurd cc

known_says : (o : Open) (k : Option Keyword) (b : Bool) (words : List (List ℕ))
    → (if b then Some ArrayItem else keyword_cause o k words) ≡ None → (l : Line) × (option_map (λ (j : Keyword). line_of j words) k ≡ Some l)
known_says o (Some k) b words e = (line_of k words, refl)
known_says o None true words e = absurd cc
known_says o None false words e = absurd cc

words_say : (o : Open) (words : List (List ℕ)) → word_cause o words ≡ None → (l : Line) × (line_in words ≡ Some l)
words_say o [] e = absurd cc
words_say o (word ∷ words) e = known_says o (keyword_of word) (is_array_keyword word) words e

pub statements_say_lines : StatementsSayLines
statements_say_lines before s e =
    let o : Open = opened (standing (lines_of before)) in
    words_say o s.words
    (first_none (word_cause o s.words) (cause_of_line (standing (lines_of before)) (set_names_of (lines_of before)) (line_in s.words)) e)
