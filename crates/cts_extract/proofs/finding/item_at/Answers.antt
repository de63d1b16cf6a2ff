use Rattle.std.proofs.Common.{◌≡◌, Some, rules, refl, sym, ◌∙◌}
use Rattle.std.specs.Prelude.{slice_get}
use Rattle.std.specs.List.{position}
use Rattle.std.proofs.lemmas.Option.{slice_get_read}
use Rattle.cts_extract.specs.Columns.{is_called}
use Rattle.cts_extract.proofs.Found.{found_at}
use Rattle.cts_extract.proofs.finding.item_at.Goals as goal

pub returns-in-Some-clause-found : goal.returns-in-Some-clause-found
returns-in-Some-clause-found c =
    let found : position (is_called c.args.word.now) c.args.items.now ≡ Some c.in-Some.place = search rules in
    let there : slice_get c.args.items.now c.in-Some.place ≡ Some c.index-items-place.result = slice_get_read c.args.items.now _ c.in-Some.place c.index-items-place.result refl c.in-Some.ensures.within c.index-items-place.is in
    sym (found_at (is_called c.args.word.now) c.args.items.now c.in-Some.place found ∙ there)
