use Rattle.std.proofs.Common.{List, ℕ, Ok, Err, subst}
use Rattle.cts_run.specs.Acts.{AreDone, DoesActs, outside, puts}
use Rattle.cts_run.specs.Extract.{heading_line}
use Rattle.cts_run.proofs.ActLemmas.{put_done}
use Rattle.cts_run.proofs.ExtractLemmas.{headed, unheaded}
use Rattle.cts_run.proofs.extract.put_columns.Goals as goal

pub returns-in-Ok : goal.returns-in-Ok
returns-in-Ok g c = λ p items vault are.
    let seen = g.O.Sink.seen in
    let front = put_done (heading_line c.args.columns.now.names) (Ok tt) (seen c.args.out.now) (seen c.put_heading.new.out) vault c.in-Ok.ensures in
    headed c.args.columns.now.kind p items c.args.reader.now.file c.put_rows.result _ _ _
    (subst (λ (names : List (List ℕ)). AreDone (puts (heading_line names)) (outside (seen c.args.out.now) vault) (outside (seen c.put_heading.new.out) vault)) are.names front)
    (c.put_rows.ensures p items vault are)

pub returns-in-Err : goal.returns-in-Err
returns-in-Err g c = λ p items vault are.
    let seen = g.O.Sink.seen in
    let front = put_done (heading_line c.args.columns.now.names) (Err c.in-Err.why) (seen c.args.out.now) (seen c.put_heading.new.out) vault c.in-Err.ensures in
    rw c.from.ensures (unheaded c.args.columns.now.kind p items c.args.reader.now c.in-Err.why _ _ c.requires
    (subst (λ (names : List (List ℕ)). DoesActs (puts (heading_line names)) (Err c.in-Err.why) (outside (seen c.args.out.now) vault) (outside (seen c.put_heading.new.out) vault)) are.names front))
