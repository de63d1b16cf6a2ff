use Rattle.std.proofs.Common.{rules, ◌≡◌, Ok, ◌∙◌, length, ap, subst, List}
use Rattle.cts_entry.specs.declared.entry.Entry.{Entry}
use Rattle.cts_table.specs.States.{Shown}
use Rattle.cts_api.specs.declared.looked.Look.TheVariants.{Text}
use Rattle.cts_snap.specs.Reading.{IsShown}
use Rattle.cts_snap.proofs.Texts.{text_read}
use Rattle.cts_snap.proofs.writer.Snap.read.Goals as goal

pub returns-in-Ok-Ok-default-Text-clause-read : goal.returns-in-Ok-Ok-default-Text-clause-read
returns-in-Ok-Ok-default-Text-clause-read g c =
    let k = c.in-Ok-Ok-default-Text in
    let x = k.ensures.ok in
    let h : Shown = x.0 in
    let body = c.args.body.now in
    let whole : k.field-0 ≡ Ok (k.front, Text k.text) = search rules in
    let shown = subst (IsShown h body) whole (subst (λ (s : Shown). IsShown s body k.field-0) x.3.2 x.3.1) in
    (shown.0 ∙ ap (λ (l : List Entry). length l) x.2, shown.1.0, text_read h _ _ body k.text x.1 x.2 shown.1)
