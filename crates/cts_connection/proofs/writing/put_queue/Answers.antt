use Rattle.std.proofs.Common.{◌≡◌, ◌+◌, ◌-◌, ◌<◌, ◌++◌, ◌∷◌, List, [], take, drop, sym, subst, arith, rules}
use Rattle.cts_chain.specs.Shapes.{writers}
use Rattle.cts_def.specs.Sites.{SiteData}
use Rattle.cts_entry.specs.declared.entry.Entry.{Entry}
use Rattle.cts_entry.specs.Queues.{refused, spelled}
use Rattle.cts_table.specs.Keeping.{IsOfSite}
use Rattle.cts_trace.specs.Routing.{queue}
use Rattle.cts_connection.specs.Routings.{site_routing}
use Rattle.cts_connection.specs.Writings.{Puts, spell_by}
use Rattle.cts_connection.proofs.Putting.{bytes_more, count_more, of_site_at, stretch_lent}
use Rattle.cts_connection.proofs.writing.put_queue.Goals as goal

pub put_entry-requires-clause-of_site : goal.put_entry-requires-clause-of_site
put_entry-requires-clause-of_site g c =
    let h = c.args.hall.now in
    let at = of_site_at h.basis.site c.loop-n.n h.entries c.lend.result.now c.is_kept.ensures.kept.of_site c.lend.ensures in
    (at.0, subst (λ (s : SiteData). IsOfSite s at.0 c.lend.result.now) (sym c.site.ensures) at.1)

pub loop-n-preserved : goal.loop-n-preserved
loop-n-preserved g c =
    let h = c.args.hall.now in
    let site = h.basis.site in
    let specs = writers (g.C.Chained.shape c.args.chain.now) in
    let spell = spell_by site specs in
    let mine = queue (site_routing site) c.args.by in
    let all = take c.args.next (drop c.args.place h.entries) in
    let e = c.lend.result.now in
    let until = c.args.place + c.args.next in
    let es = take (until - (c.loop-n.n + 1)) (drop (c.loop-n.n + 1) h.entries) in
    let below : c.loop-n.n < until = omega (arith, c.loop-n-test.true) in
    let split = stretch_lent h.entries c.loop-n.n until e below c.lend.ensures in
    let inv = c.loop-n.invariant in
    let put = subst (λ (s : SiteData). Puts s specs c.args.by (e ∷ []) c.loop-n.out.items c.put_entry.new.out.items c.in_ok-refused.field-0) c.site.ensures c.in_ok-refused.ensures.ok in
    record {
      bytes = bytes_more site specs c.args.by e es c.loop-n.out.items c.put_entry.new.out.items _ c.in_ok-refused.field-0 put
          (subst (λ (l : List Entry). c.loop-n.out.items ++ spelled spell (mine l) ≡ c.args.out.now.items ++ spelled spell (mine all)) split inv.bytes);
      count = count_more site specs c.args.by e es c.loop-n.out.items c.put_entry.new.out.items c.loop-n.refused c.in_ok-refused.field-0 _ put
          (subst (λ (l : List Entry). c.loop-n.refused + refused spell (mine l) ≡ refused spell (mine all)) split inv.count);
      few = omega (arith, inv.few, c.in_ok-refused.ensures.few);
    }

pub returns-clause-ok : goal.returns-clause-ok
returns-clause-ok g c = search rules
