use Rattle.std.proofs.Common.{◌≡◌, ◌+◌, ◌∷◌, Some, List, ℕ, rules, take, ap, ◌∙◌}
use Rattle.std.specs.List.{position}
use Rattle.cts_extract.specs.Words.{is_comma, texts_of}
use Rattle.cts_extract.proofs.Texts.{all_behind, cut_there}
use Rattle.cts_extract.proofs.words.cut.Goals as goal

pub returns-in-Some-clause-cut : goal.returns-in-Some-clause-cut
returns-in-Some-clause-cut c =
    let found : position is_comma c.args.word.now ≡ Some c.in-Some.place = search rules in
    cut_there c.args.word.now c.in-Some.place found ∙ ap (λ (rest : List ℕ). take c.in-Some.place c.args.word.now ∷ texts_of rest) (all_behind c.args.word.now (c.in-Some.place + 1))
