use Rattle.std.proofs.Common.{◌≡◌, ◌≤◌, ◌∙◌, length, List, arith, subst}
use Rattle.std.specs.Prelude.{IfOk}
use Rattle.cts_entry.specs.declared.entry.Entry.{Entry}
use Rattle.cts_book.proofs.Fronts.{prefix_whole}
use Rattle.cts_snap.proofs.writer.Snap.publish.Goals as goal

pub returns-clause-ok : goal.returns-clause-ok
returns-clause-ok g c =
    let all : List Entry = c.args.hall.now.entries in
    let list : List Entry = c.take_in.new.self.list in
    let e = c.in_ok-take_in.ensures in
    let few = c.is_kept.ensures.few in
    let many = e.ok in
    let le : length all ≤ length list = grind (arith, many, few) in
    let whole : c.take_in.new.self.waiting ≡ all = e.waiting ∙ prefix_whole list all e.begins le in
    subst (λ (l : List Entry). IfOk c.show.result (λ n. (n ≡ length l) × (c.show.new.self.published ≡ l))) whole c.show.ensures.ok
