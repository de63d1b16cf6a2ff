use Rattle.std.proofs.Common.{◌≡◌, ◌++◌, ℕ, List, ap, append_assoc, subst, sym}
use Rattle.std.specs.Prelude.{codes}
use Rattle.std.specs.Fmt.{decimal}
use Rattle.cts_run.specs.Lines.{full_line}
use Rattle.cts_run.specs.Putting.{Printed}
use Rattle.cts_serve.proofs.PieceLemmas.{printed_after, printed_of, printed_part}
use Rattle.cts_serve.proofs.serving.telling.put_full.Goals as goal

abbrev first : ℕ → List ℕ
first entries = codes "history full: " ++ (decimal entries ++ codes " entries, ")

abbrev rest : ℕ → List ℕ
rest bytes = decimal bytes ++ codes " bytes\n"

both : (entries bytes : ℕ) → first entries ++ rest bytes ≡ full_line entries bytes
both entries bytes = ap (λ (t : List ℕ). codes "history full: " ++ t)
    (sym (append_assoc (decimal entries ++ codes " entries, ") (decimal bytes) (codes " bytes\n")))

pub returns-then-put_numbered : goal.returns-then-put_numbered
returns-then-put_numbered g c =
    let old = g.O.Sink.seen c.args.out.now in
    let mid = g.O.Sink.seen c.put_numbered.new.out in
    let new = g.O.Sink.seen c.put_numbered-then-put_numbered.new.out in
    let e = c.args.counted.entries in
    let b = c.args.counted.bytes in
    subst (λ (t : List ℕ). Printed old new t) (both e b) (printed_after (first e) (rest b) old mid new c.if-put_numbered.ensures
    (printed_of (rest b) c.put_numbered-then-put_numbered.result mid new c.put_numbered-then-put_numbered.ensures))

pub returns-else-put_numbered : goal.returns-else-put_numbered
returns-else-put_numbered g c =
    let old = g.O.Sink.seen c.args.out.now in
    let new = g.O.Sink.seen c.put_numbered.new.out in
    let e = c.args.counted.entries in
    let b = c.args.counted.bytes in
    subst (λ (t : List ℕ). Printed old new t) (both e b) (printed_part (first e) (rest b) old new c.if-put_numbered.ensures)
