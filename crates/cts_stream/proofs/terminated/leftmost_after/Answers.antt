use Rattle.std.proofs.Common.{rules, ◌≡◌, refl, sym, drop, length, Some, None}
use Rattle.std.proofs.lemmas.List.{length-drop}
use Rattle.cts_framing.proofs.Fronts.{first_fits}
use Rattle.cts_stream.proofs.Cutting.{found_later}
use Rattle.cts_stream.proofs.terminated.leftmost_after.Goals as goal

pub overflow_add-result : goal.overflow_add-result
overflow_add-result c =
    let fits = first_fits c.args.pattern.now c.after.result.now c.in-Some.place (sym c.in-Some.ensures) in
    let len : length c.after.result.now ≡ length (drop c.args.from c.args.bytes.now) = rw c.after.ensures refl in
    let rest = length-drop c.args.from c.args.bytes.now in
    search rules

pub returns-in-None : goal.returns-in-None
returns-in-None c = found_later c.args.pattern.now c.args.bytes.now c.after.result.now c.args.start c.args.from None c.requires.order c.requires.none c.after.ensures c.in-None.ensures

pub returns-in-Some : goal.returns-in-Some
returns-in-Some c = found_later c.args.pattern.now c.args.bytes.now c.after.result.now c.args.start c.args.from (Some c.in-Some.place) c.requires.order c.requires.none c.after.ensures c.in-Some.ensures
