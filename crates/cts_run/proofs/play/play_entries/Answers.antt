use Rattle.std.proofs.Common.{◌∷◌, ap, arith}
use Rattle.cts_entry.specs.declared.event.Event.TheVariants.{Opens}
use Rattle.cts_log.specs.Reading.{ReaderData, logged}
use Rattle.cts_run.proofs.DumpLemmas.{shorter}
use Rattle.cts_run.proofs.PlayLemmas.{entry_halts, last_fits, log_cut, log_whole, more_played, none_played}
use Rattle.cts_run.proofs.play.play_entries.Goals as goal

pub loop-entry-init : goal.loop-entry-init
loop-entry-init g c = none_played c.args.opened c.args.story.now (g.O.Sink.seen c.args.out.now) c.args.reader.now c.requires.read

pub play_entry-requires-clause-target : goal.play_entry-requires-clause-target
play_entry-requires-clause-target g c =
    let far = c.loop-entry.invariant in
    let reads = rw c.in-Ok-Some.field-0-is at c.in-Ok-Some.ensures.reads in
    let fits = last_fits c.next.new.self far.entries (logged c.in-Ok-Some.entry) (reads far.entries far.read) in
    omega (arith, fits.heading.target)

pub play_entry-requires-clause-packet : goal.play_entry-requires-clause-packet
play_entry-requires-clause-packet g c =
    let far = c.loop-entry.invariant in
    let reads = rw c.in-Ok-Some.field-0-is at c.in-Ok-Some.ensures.reads in
    let fits = last_fits c.next.new.self far.entries (logged c.in-Ok-Some.entry) (reads far.entries far.read) in
    omega (arith, fits.heading.packet)

pub play_entry-requires-clause-bytes : goal.play_entry-requires-clause-bytes
play_entry-requires-clause-bytes g c =
    let far = c.loop-entry.invariant in
    let reads = rw c.in-Ok-Some.field-0-is at c.in-Ok-Some.ensures.reads in
    (last_fits c.next.new.self far.entries (logged c.in-Ok-Some.entry) (reads far.entries far.read)).bytes

pub play_entry-requires-clause-plays : goal.play_entry-requires-clause-plays
play_entry-requires-clause-plays g c =
    let k = c.requires.plays in
    let n = c.loop-entry.invariant.plays k.0 k.1 k.2 k.3 in
    (k.0, Opens 0 ∷ n.0, k.1, k.2, n.2)

pub loop-entry-smaller : goal.loop-entry-smaller
loop-entry-smaller g c =
    let far = c.loop-entry.invariant in
    let answers = rw c.in-Ok-Some.field-0-is at c.in-Ok-Some.ensures.answers in
    let reads = rw c.in-Ok-Some.field-0-is at c.in-Ok-Some.ensures.reads in
    shorter c.loop-entry.reader c.next.new.self far.entries _ far.read (reads far.entries far.read) answers.3

pub loop-entry-preserved : goal.loop-entry-preserved
loop-entry-preserved g c =
    let far = c.loop-entry.invariant in
    let answers = rw c.in-Ok-Some.field-0-is at c.in-Ok-Some.ensures.answers in
    let reads = rw c.in-Ok-Some.field-0-is at c.in-Ok-Some.ensures.reads in
    rw c.later_time-last.ensures
    (more_played c.args.opened c.args.story.now (g.O.Sink.seen c.args.out.now) c.args.reader.now.file c.args.layout c.requires.layout c.loop-entry.reader c.next.new.self c.loop-entry.last c.loop-entry.over
    c.loop-entry.story c.play_entry.new.story (g.O.Sink.seen c.loop-entry.out) (g.O.Sink.seen c.play_entry.new.out) far (logged c.in-Ok-Some.entry) (ap (λ (r : ReaderData). r.file) answers.3) (reads far.entries far.read)
    c.in-Ok.now c.in-Ok.ensures)

pub returns-in-Err : goal.returns-in-Err
returns-in-Err g c = λ site old vault p.
    let far = c.loop-entry.invariant in
    let answers = rw c.in-Ok-Some.field-0-is at c.in-Ok-Some.ensures.answers in
    let reads = rw c.in-Ok-Some.field-0-is at c.in-Ok-Some.ensures.reads in
    entry_halts c.args.opened c.args.story.now (g.O.Sink.seen c.args.out.now) c.args.reader.now.file c.args.layout c.requires.layout c.loop-entry.reader c.next.new.self c.loop-entry.last c.loop-entry.over
    c.loop-entry.story c.play_entry.new.story (g.O.Sink.seen c.loop-entry.out) (g.O.Sink.seen c.play_entry.new.out) far (logged c.in-Ok-Some.entry) (ap (λ (r : ReaderData). r.file) answers.3) (reads far.entries far.read)
    c.in-Err.halt site old vault c.in-Err.ensures p

pub end_play-requires : goal.end_play-requires
end_play-requires g c =
    let k = c.requires.plays in
    let n = c.loop-entry.invariant.plays k.0 k.1 k.2 k.3 in
    (k.0, Opens 0 ∷ n.0, k.1, k.2, n.2)

pub returns-in-Ok-None : goal.returns-in-Ok-None
returns-in-Ok-None g c = λ site old vault p.
    let far = c.loop-entry.invariant in
    let reads = rw c.in-Ok-None.field-0-is at c.in-Ok-None.ensures.reads in
    log_whole c.args.reader.now.file c.args.opened c.args.story.now (g.O.Sink.seen c.args.out.now) c.loop-entry.reader c.loop-entry.last c.loop-entry.over c.loop-entry.story (g.O.Sink.seen c.loop-entry.out) far site old vault p
    c.end_play.result _ (reads far.entries far.read) (λ events q. c.end_play.ensures site events old vault q)

pub returns-in-Err-BadHead : goal.returns-in-Err-BadHead
returns-in-Err-BadHead g c =
    let far = c.loop-entry.invariant in
    let reads = rw c.in-Err-BadHead.field-0-is at c.in-Err-BadHead.ensures.reads in
    absurd (reads far.entries far.read)

pub returns-in-Err-Cut : goal.returns-in-Err-Cut
returns-in-Err-Cut g c = λ site old vault p.
    let far = c.loop-entry.invariant in
    let reads = rw c.in-Err-Cut.field-0-is at c.in-Err-Cut.ensures.reads in
    rw c.in-Err-Cut.place-is
    (log_cut c.args.reader.now.file c.args.opened c.args.story.now (g.O.Sink.seen c.args.out.now) c.loop-entry.reader c.loop-entry.last c.loop-entry.over c.loop-entry.story (g.O.Sink.seen c.loop-entry.out) far site old vault p
    c.in-Err-Cut.place (reads far.entries far.read))
