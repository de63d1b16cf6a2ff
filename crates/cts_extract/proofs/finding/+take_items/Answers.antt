use Rattle.std.proofs.lemmas.List.{nil_from_length}
use Rattle.cts_extract.proofs.Asked.{and_later, no_words}
use Rattle.cts_extract.proofs.finding.+take_items.Goals as goal

pub returns-in_default : goal.returns-in_default
returns-in_default t c = rw (nil_from_length c.args.words.now c.in_default.ensures.cases) (no_words c.args.packet.now c.args.numbers.now c.args.names.now tt)

pub returns : goal.returns
returns t c =
    rw c.in-Some.ensures.cases.0
    (and_later c.args.packet.now _ _ c.args.numbers.now c.take_item.new.numbers c.take_items.new.numbers c.args.names.now c.take_item.new.names c.take_items.new.names tt c.take_items.result
    c.in_ok-take_item.ensures c.take_items.ensures)
