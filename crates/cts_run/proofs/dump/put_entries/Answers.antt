use Rattle.std.proofs.Common.{◌++◌, [], Ok, Err, ap}
use Rattle.cts_log.specs.Reading.{ReaderData, logged}
use Rattle.cts_run.specs.Acts.{puts}
use Rattle.cts_run.specs.declared.putting.Undone.TheVariants as undone
use Rattle.cts_run.proofs.ActLemmas.{put_done}
use Rattle.cts_run.proofs.CommandLemmas.{no_vault}
use Rattle.cts_run.proofs.DumpLemmas.{begun, goes_on, wants, faulted, ends_well, ends_cut, shorter}
use Rattle.cts_run.proofs.dump.put_entries.Goals as goal

pub loop-entry-init : goal.loop-entry-init
loop-entry-init g c = λ vault. ([], begun c.args.reader.now _ c.requires)

pub loop-entry-smaller : goal.loop-entry-smaller
loop-entry-smaller g c =
    let far = (c.loop-entry.invariant no_vault).1 in
    let answers = rw c.in-Ok-Some.field-0-is at c.in-Ok-Some.ensures.answers in
    let reads = rw c.in-Ok-Some.field-0-is at c.in-Ok-Some.ensures.reads in
    shorter c.loop-entry.reader c.next.new.self far.entries _ far.read (reads far.entries far.read) answers.3

pub loop-entry-preserved : goal.loop-entry-preserved
loop-entry-preserved g c = λ vault.
    let far = (c.loop-entry.invariant vault).1 in
    let answers = rw c.in-Ok-Some.field-0-is at c.in-Ok-Some.ensures.answers in
    let reads = rw c.in-Ok-Some.field-0-is at c.in-Ok-Some.ensures.reads in
    let line = c.in-Ok.ensures.0 in (
      (c.loop-entry.invariant vault).0 ++ puts line,
      goes_on c.args.reader.now.file c.loop-entry.reader c.next.new.self (c.loop-entry.invariant vault).0 line (logged c.in-Ok-Some.entry) _ _ _ far (ap (λ (r : ReaderData). r.file) answers.3) (reads far.entries far.read) c.in-Ok.ensures.1
          (put_done line (Ok tt) (g.O.Sink.seen c.loop-entry.out) (g.O.Sink.seen c.put_entry.new.out) vault c.in-Ok.ensures.2),
    )

pub returns-in-Err-WriteFault : goal.returns-in-Err-WriteFault
returns-in-Err-WriteFault g c = λ vault.
    let far = (c.loop-entry.invariant vault).1 in
    let answers = rw c.in-Ok-Some.field-0-is at c.in-Ok-Some.ensures.answers in
    let reads = rw c.in-Ok-Some.field-0-is at c.in-Ok-Some.ensures.reads in
    let put = rw c.in-Err-WriteFault.field-0-is at c.in-Err-WriteFault.ensures in
    faulted c.args.reader.now.file c.loop-entry.reader c.next.new.self (c.loop-entry.invariant vault).0 put.0 (logged c.in-Ok-Some.entry) _ _ _ far (ap (λ (r : ReaderData). r.file) answers.3) (reads far.entries far.read) put.1
    (put_done put.0 (Err undone.WriteFault) (g.O.Sink.seen c.loop-entry.out) (g.O.Sink.seen c.put_entry.new.out) vault put.2)

pub returns-in-Err-Memory : goal.returns-in-Err-Memory
returns-in-Err-Memory g c = λ vault.
    let far = (c.loop-entry.invariant vault).1 in
    let same = rw c.in-Err-Memory.field-0-is at c.in-Err-Memory.ensures in
    wants c.args.reader.now.file c.loop-entry.reader (c.loop-entry.invariant vault).0 _ _ (rw same far)

pub returns-in-Ok-None : goal.returns-in-Ok-None
returns-in-Ok-None g c = λ vault.
    let far = (c.loop-entry.invariant vault).1 in
    let reads = rw c.in-Ok-None.field-0-is at c.in-Ok-None.ensures.reads in
    ends_well c.args.reader.now.file c.loop-entry.reader (c.loop-entry.invariant vault).0 _ _ far (reads far.entries far.read)

pub returns-in-Err-BadHead : goal.returns-in-Err-BadHead
returns-in-Err-BadHead g c =
    let far = (c.loop-entry.invariant no_vault).1 in
    let reads = rw c.in-Err-BadHead.field-0-is at c.in-Err-BadHead.ensures.reads in
    absurd (reads far.entries far.read)

pub returns-in-Err-Cut : goal.returns-in-Err-Cut
returns-in-Err-Cut g c = λ vault.
    let far = (c.loop-entry.invariant vault).1 in
    let reads = rw c.in-Err-Cut.field-0-is at c.in-Err-Cut.ensures.reads in
    rw c.in-Err-Cut.place-is (ends_cut c.args.reader.now.file c.loop-entry.reader (c.loop-entry.invariant vault).0 c.in-Err-Cut.place _ _ far (reads far.entries far.read))
