use Rattle.std.proofs.Common.{◌≤◌, List, arith, length, subst}
use Rattle.cts_def.specs.Sites.{SiteData}
use Rattle.cts_entry.specs.declared.entry.Entry.{Entry}
use Rattle.cts_worker.specs.Followed.{HaveEnded}
use Rattle.cts_publisher.proofs.Followings.{follows_whole}
use Rattle.cts_publisher.proofs.Sightings.{all_ended, all_waits}
use Rattle.cts_publisher.proofs.looking.see.Goals as goal

pub returns-then-have_ended-clause-sight : goal.returns-then-have_ended-clause-sight
returns-then-have_ended-clause-sight g c =
    let all : List Entry = c.args.hall.now.entries in
    let w = c.take_in.new.self in
    let e = c.in_ok-take_in.ensures in
    let f = c.follow_to-next.ensures in
    let most : length all ≤ c.waiting-taken.result = (let n = c.count.ensures in let t = c.if-taken-count.false in omega (arith, n, t)) in
    let waits : length all ≤ length w.waiting = (let n = c.waiting-taken.ensures in omega (arith, n, most)) in
    let followed : length all ≤ c.follow_to-next.result.place = (let p = f.place in omega (arith, p, most)) in
    let others = (c.have_ended.ensures all (follows_whole c.follow_to-next.result all f.follows followed)).0 c.if-have_ended.true in (
      all_waits w.waiting w.list all e.waiting e.begins waits,
      all_ended c.args.hall.now.basis.site all c.is_kept.ensures.site (subst (λ (s : SiteData). HaveEnded s 29 all) c.site.ensures others),
    )

pub returns-clause-sight : goal.returns-clause-sight
returns-clause-sight g c =
    let all : List Entry = c.args.hall.now.entries in
    let w = c.take_in.new.self in
    let e = c.in_ok-take_in.ensures in
    let waits : length all ≤ length w.waiting = (let n = c.count.ensures in let t = c.if-taken-count.false in let m = c.waiting-taken.ensures in omega (arith, n, t, m)) in
    all_waits w.waiting w.list all e.waiting e.begins waits
