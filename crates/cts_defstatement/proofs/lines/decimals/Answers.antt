use Rattle.std.proofs.Common.{◌≡◌, ◌<◌, ◌+◌, ◌++◌, ◌∷◌, ◌∙◌, [], ℕ, List, length, get_or, map, take, sym, ap}
use Rattle.std.proofs.lemmas.List.{map-append, take_more}
use Rattle.cts_base.specs.declared.decimal.Decimal.{Decimal}
use Rattle.cts_defstatement.specs.Numbers.{decimal}
use Rattle.cts_defstatement.proofs.lines.decimals.Goals as goal

one_more : (words : List (List ℕ)) (i : ℕ) (word : List ℕ) (held more : List Decimal) (d : Decimal) → i < length words → word ≡ get_or words i word → held ≡ map decimal (take i words) → d ≡ decimal word
    → more ≡ held ++ d ∷ [] → more ≡ map decimal (take (i + 1) words)
one_more words i word held more d lt item so_far said pushed =
    let front : take i words ++ word ∷ [] ≡ take (i + 1) words = ap (λ (w : List ℕ). take i words ++ w ∷ []) item ∙ sym (take_more words i word lt) in
    pushed ∙ ap (λ (ds : List Decimal). ds ++ d ∷ []) so_far ∙ ap (λ (e : Decimal). map decimal (take i words) ++ e ∷ []) said
    ∙ sym (map-append decimal (take i words) (word ∷ [])) ∙ ap (map decimal) front

pub loop-word-preserved : goal.loop-word-preserved
loop-word-preserved c =
    one_more c.args.words.now c.loop-word.word-index c.word-item.result c.loop-word.held.items c.push.new.self.items c.decimal.result c.loop-word-test.true c.word-item.is c.loop-word.invariant
    (c.decimal.ensures ∙ ap decimal c.as_slice.ensures) c.in_ok-push.ensures.items
