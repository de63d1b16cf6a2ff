use Rattle.std.proofs.Common.{◌≡◌, rules, arith, length, ap, drop}
use Rattle.std.proofs.lemmas.List.{length-drop}
use Rattle.cts_http.proofs.ReadingLemmas.{gives_request}
use Rattle.cts_http.proofs.reader.Reader.give.Goals as goal

pub returns : goal.returns
returns c =
    let xs = c.self.inside.held.items in
    let left : c.args.self.now.left ≡ drop c.self.inside.from xs = search rules in
    let fits = c.requires.head.fits in
    gives_request c.args.self.now.left xs c.self.inside.from c.args.head _ c.args.self.now.held left c.requires.head
    (omega (arith, c.if-len-start.false, c.len.ensures, ap length left, length-drop c.self.inside.from xs, fits)) (search rules)
