use Rattle.std.proofs.Common.{Err, ap}
use Rattle.cts_log.specs.Reading.{ReaderData, logged}
use Rattle.cts_run.specs.Extract.{row_line, row_puts}
use Rattle.cts_run.specs.declared.putting.Undone.TheVariants as undone
use Rattle.cts_run.proofs.ActLemmas.{put_done}
use Rattle.cts_run.proofs.DumpLemmas.{shorter}
use Rattle.cts_run.proofs.ExtractLemmas.{ends_cut, ends_well, faulted, more_put, none_put, there, wants}
use Rattle.cts_run.proofs.extract.put_rows.Goals as goal

pub loop-entry-init : goal.loop-entry-init
loop-entry-init g c = none_put c.args.definitions.now c.args.columns.now c.args.reader.now _ c.requires

pub loop-entry-smaller : goal.loop-entry-smaller
loop-entry-smaller g c =
    let far = c.loop-entry.invariant in
    let answers = rw c.in-Ok-Some.field-0-is at c.in-Ok-Some.ensures.answers in
    let reads = rw c.in-Ok-Some.field-0-is at c.in-Ok-Some.ensures.reads in
    shorter c.loop-entry.reader c.next.new.self far.entries _ far.read (reads far.entries far.read) answers.3

pub loop-entry-preserved : goal.loop-entry-preserved
loop-entry-preserved g c =
    let far = c.loop-entry.invariant in
    let answers = rw c.in-Ok-Some.field-0-is at c.in-Ok-Some.ensures.answers in
    let reads = rw c.in-Ok-Some.field-0-is at c.in-Ok-Some.ensures.reads in
    more_put c.args.definitions.now c.args.columns.now c.args.reader.now.file c.loop-entry.reader c.next.new.self (logged c.in-Ok-Some.entry) _ _ _ far (ap (λ (r : ReaderData). r.file) answers.3) (reads far.entries far.read) c.in-Ok.ensures

pub returns-in-Err-WriteFault : goal.returns-in-Err-WriteFault
returns-in-Err-WriteFault g c = λ p items vault are.
    let far = c.loop-entry.invariant in
    let answers = rw c.in-Ok-Some.field-0-is at c.in-Ok-Some.ensures.answers in
    let reads = rw c.in-Ok-Some.field-0-is at c.in-Ok-Some.ensures.reads in
    let put = rw c.in-Err-WriteFault.field-0-is at c.in-Err-WriteFault.ensures in
    faulted (row_puts c.args.columns.now.kind p items) c.args.reader.now.file c.loop-entry.reader c.next.new.self (logged c.in-Ok-Some.entry) _ _ _
    (there c.args.definitions.now c.args.columns.now _ _ _ _ p items vault are far) (ap (λ (r : ReaderData). r.file) answers.3) (reads far.entries far.read)
    (put_done (row_line c.args.columns.now.kind p items (logged c.in-Ok-Some.entry)) (Err undone.WriteFault) (g.O.Sink.seen c.loop-entry.out) (g.O.Sink.seen c.put_row.new.out) vault (put p items are))

pub returns-in-Err-LogFault : goal.returns-in-Err-LogFault
returns-in-Err-LogFault g c = λ p items vault are.
    let put = rw c.in-Err-LogFault.field-0-is at c.in-Err-LogFault.ensures in
    absurd (put p items are)

pub returns-in-Err-Memory : goal.returns-in-Err-Memory
returns-in-Err-Memory g c = λ p items vault are.
    let put = rw c.in-Err-Memory.field-0-is at c.in-Err-Memory.ensures in
    rw (put p items are) (wants (row_puts c.args.columns.now.kind p items) c.args.reader.now.file c.loop-entry.reader _ _ (there c.args.definitions.now c.args.columns.now _ _ _ _ p items vault are c.loop-entry.invariant))

pub returns-in-Ok-None : goal.returns-in-Ok-None
returns-in-Ok-None g c = λ p items vault are.
    let far = c.loop-entry.invariant in
    let reads = rw c.in-Ok-None.field-0-is at c.in-Ok-None.ensures.reads in
    ends_well (row_puts c.args.columns.now.kind p items) c.args.reader.now.file c.loop-entry.reader _ _ (there c.args.definitions.now c.args.columns.now _ _ _ _ p items vault are far) (reads far.entries far.read)

pub returns-in-Err-BadHead : goal.returns-in-Err-BadHead
returns-in-Err-BadHead g c =
    let far = c.loop-entry.invariant in
    let reads = rw c.in-Err-BadHead.field-0-is at c.in-Err-BadHead.ensures.reads in
    absurd (reads far.entries far.read)

pub returns-in-Err-Cut : goal.returns-in-Err-Cut
returns-in-Err-Cut g c = λ p items vault are.
    let far = c.loop-entry.invariant in
    let reads = rw c.in-Err-Cut.field-0-is at c.in-Err-Cut.ensures.reads in
    rw c.in-Err-Cut.place-is
    (ends_cut (row_puts c.args.columns.now.kind p items) c.args.reader.now.file c.loop-entry.reader c.in-Err-Cut.place _ _ (there c.args.definitions.now c.args.columns.now _ _ _ _ p items vault are far) (reads far.entries far.read))
