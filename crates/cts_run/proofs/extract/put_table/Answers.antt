use Rattle.std.proofs.Common.{◌≡◌, None, Some, sym}
use Rattle.cts_log.specs.Files.{kind_of}
use Rattle.cts_run.proofs.ExtractingLemmas.{no_log, puts_columns, unknown_name, wants_columns}
use Rattle.cts_run.proofs.extract.put_table.Goals as goal

pub returns-in-Ok : goal.returns-in-Ok
returns-in-Ok g c = λ vault.
    let of_kind : kind_of c.args.file.now ≡ Some c.in-Some.kind = sym (rw c.new-reader.ensures.value at c.in-Some.ensures) in
    let a = c.in-Ok.ensures.1 in
    puts_columns c.args.definitions.now c.args.wanted.now c.args.file.now c.in-Some.kind c.in-Ok.columns c.put_columns-done.result _ _ a of_kind c.in-Ok.ensures.0
    (rw c.new-reader.ensures.value at c.put_columns-done.ensures a.of a.items vault a.are_of)

pub returns-in-Err-Unknown : goal.returns-in-Err-Unknown
returns-in-Err-Unknown g c = λ vault.
    let of_kind : kind_of c.args.file.now ≡ Some c.in-Some.kind = sym (rw c.new-reader.ensures.value at c.in-Some.ensures) in
    rw c.in-Err-Unknown.field-0-is
    (unknown_name c.args.definitions.now c.args.wanted.now c.args.file.now c.in-Some.kind c.in-Err-Unknown.name _ of_kind (rw c.in-Err-Unknown.field-0-is at c.in-Err-Unknown.ensures))

pub returns-in-Err-Memory : goal.returns-in-Err-Memory
returns-in-Err-Memory g c = λ vault. wants_columns c.args.definitions.now c.args.wanted.now c.args.file.now _

pub returns-in-None : goal.returns-in-None
returns-in-None g c = λ vault.
    let none : kind_of c.args.file.now ≡ None = sym (rw c.new-reader.ensures.value at c.in-None.ensures) in
    no_log c.args.definitions.now c.args.wanted.now c.args.file.now _ none
