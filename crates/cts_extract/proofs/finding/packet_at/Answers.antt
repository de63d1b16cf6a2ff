use Rattle.std.proofs.Common.{◌≡◌, Some, rules, refl, sym, ◌∙◌}
use Rattle.std.specs.Prelude.{slice_get}
use Rattle.std.specs.List.{position}
use Rattle.std.proofs.lemmas.Option.{slice_get_read}
use Rattle.cts_def.specs.Packets.{is_named}
use Rattle.cts_extract.proofs.Found.{found_at}
use Rattle.cts_extract.proofs.finding.packet_at.Goals as goal

pub returns-in-Some-clause-found : goal.returns-in-Some-clause-found
returns-in-Some-clause-found c =
    let found : position (is_named c.args.target.now c.args.name.now) c.args.packets.now ≡ Some c.in-Some.place = search rules in
    let there : slice_get c.args.packets.now c.in-Some.place ≡ Some c.index-packets-place.result = slice_get_read c.args.packets.now _ c.in-Some.place c.index-packets-place.result refl c.in-Some.ensures.within c.index-packets-place.is in
    sym (found_at (is_named c.args.target.now c.args.name.now) c.args.packets.now c.in-Some.place found ∙ there)
