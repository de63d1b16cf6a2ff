use Rattle.std.proofs.Common.{◌++◌, map}
use Rattle.std.specs.Prelude.{option_to_list}
use Rattle.cts_entry.specs.declared.event.Event.TheVariants.{SetTime}
use Rattle.cts_run.proofs.PlayLemmas.{halts_ending, halts_setting, numbered}
use Rattle.cts_run.proofs.play.end_play.Goals as goal

pub do_made-requires : goal.do_made-requires
do_made-requires g c =
    let k = c.requires in
    let q = c.in-Ok.ensures k.0 k.1 k.2 k.3 k.4 in
    (k.0, q.state, q.stands)

pub returns-in-Ok-do_made : goal.returns-in-Ok-do_made
returns-in-Ok-do_made g c = λ site before old vault p.
    let times = option_to_list c.args.last in
    let q = c.in-Ok.ensures site before old vault p in
    let f = c.in-Ok-do_made.ensures site (before ++ map SetTime times) old vault q in
    rw c.put_answer.ensures (numbered site before times _ _ old _ _ vault c.count.result c.put_end.result f c.count.ensures c.put_end.ensures)

pub returns-in-Err-do_made : goal.returns-in-Err-do_made
returns-in-Err-do_made g c = λ site before old vault p.
    let times = option_to_list c.args.last in
    let q = c.in-Ok.ensures site before old vault p in
    halts_ending site before times c.in-Err-do_made.halt old _ (c.in-Err-do_made.ensures site (before ++ map SetTime times) old vault q)

pub returns-in-Err : goal.returns-in-Err
returns-in-Err g c = λ site before old vault p. halts_setting site before (option_to_list c.args.last) c.in-Err.halt old _ (c.in-Err.ensures site before old vault p)
