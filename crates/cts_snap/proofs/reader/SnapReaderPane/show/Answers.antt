use Rattle.std.proofs.Common.{rules, ◌≡◌, ◌≤◌, length, List}
use mathlib.Core.List.{IsPrefix}
use Rattle.cts_book.proofs.Fronts.{prefix_shorter}
use Rattle.cts_snap.proofs.Keeping.{prefix_eq}
use Rattle.cts_snap.proofs.reader.SnapReaderPane.show.Goals as goal

pub returns-in-Some-clause-list : goal.returns-in-Some-clause-list
returns-in-Some-clause-list g c =
    let this : IsPrefix c.args.self.now.list c.longer-met.result = search rules in
    let that : IsPrefix c.copy.result c.longer-met.result = search rules in
    let long : length c.args.self.now.list ≤ length c.copy.result = search rules in
    prefix_shorter c.args.self.now.list c.copy.result c.longer-met.result this that long

pub returns-in_default-clause-list : goal.returns-in_default-clause-list
returns-in_default-clause-list g c = prefix_eq c.args.self.now.list c.match-this.self.list (search rules)
