use Rattle.std.proofs.Common.{rules, arith, length, take, drop, ◌≤◌, ◌-◌, ◌+◌, ◌*◌}
use Rattle.std.proofs.lemmas.List.{length-take, length-drop}
use Rattle.cts_http.specs.Heads.{most_head}
use Rattle.cts_http.proofs.reader.Reader.judged.Goals as goal

pub judge-requires : goal.judge-requires
judge-requires c =
    let xs = c.self.inside.held.items in
    let rest = take (length xs - c.self.inside.from) (drop c.self.inside.from xs) in
    let a = length-take most_head xs in
    let b = length-take most_head rest in
    let e = length-take (length xs - c.self.inside.from) (drop c.self.inside.from xs) in
    let f = length-drop c.self.inside.from xs in
    let room : length (take most_head rest) ≤ 3 * length c.self.inside.room.items + 2 = omega (arith, a, b, e, f, c.self.invariant.3) in
    record { room = search (rules, room) }
