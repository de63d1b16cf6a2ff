use Rattle.std.proofs.Common.{◌≡◌, ◌++◌, ◌∙◌, ap, rules, List, ℕ}
use Rattle.std.specs.List.{flat_map}
use Rattle.cts_script.specs.Lines.{time_text}
use Rattle.cts_extract.specs.Columns.{cell_of}
use Rattle.cts_extract.proofs.ItemCells.{cells_are}
use Rattle.cts_extract.proofs.columns.row_text.Goals as goal

pub returns : goal.returns
returns c = λ items h.
    let put : c.of.result ≡ time_text c.args.entry.now.time ++ flat_map (cell_of c.args.kind c.args.packet.now c.args.entry.now.bytes.now) c.args.numbers.now = search rules in
    put ∙ ap (λ (v : List ℕ). time_text c.args.entry.now.time ++ v) (cells_are c.args.kind c.args.packet.now c.args.entry.now.bytes.now c.args.numbers.now items h)
