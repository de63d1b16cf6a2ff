use Rattle.std.proofs.Common.{◌≡◌, ◌+◌, ◌-◌, ◌<◌, ◌∷◌, ◌++◌, [], List, arith, drop, subst, sym, take}
use Rattle.std.specs.Prelude.{◌^◌}
use Rattle.cts_connection.proofs.Putting.{of_site_at, stretch_lent}
use Rattle.cts_core.specs.Drainings.{site_commands_log, site_packets_log}
use Rattle.cts_def.specs.Sites.{SiteData}
use Rattle.cts_entry.proofs.Walks.{drop_lent}
use Rattle.cts_entry.specs.declared.entry.Entry.{Entry}
use Rattle.cts_entry.specs.Histories.{bytes_in}
use Rattle.cts_table.specs.Keeping.{IsOfSite}
use Rattle.cts_core.proofs.LogDrains.{commands_more, first_small, packets_more, small_drop}
use Rattle.cts_core.proofs.draining.put_logs.Goals as goal

pub add-requires-clause-of_site : goal.add-requires-clause-of_site
add-requires-clause-of_site c =
    let h = c.args.hall.now in
    let at = of_site_at h.basis.site c.loop-n.n h.entries c.lend.result.now c.is_kept.ensures.kept.of_site c.lend.ensures in
    (at.0, subst (λ (s : SiteData). IsOfSite s at.0 c.lend.result.now) (sym c.site.ensures) at.1)

pub add-requires-clause-small : goal.add-requires-clause-small
add-requires-clause-small c =
    let h = c.args.hall.now in
    let whole : bytes_in h.entries < 2 ^ 32 = omega (arith, c.is_kept.ensures.kept.legal.bytes, c.is_kept.ensures.bytes) in
    first_small c.lend.result.now (drop (c.loop-n.n + 1) h.entries) (2 ^ 32)
    (subst (λ (l : List Entry). bytes_in l < 2 ^ 32) (drop_lent h.entries c.loop-n.n c.lend.result.now c.lend.ensures) (small_drop c.loop-n.n (2 ^ 32) h.entries whole))

pub loop-n-preserved : goal.loop-n-preserved
loop-n-preserved c =
    let h = c.args.hall.now in
    let site = h.basis.site in
    let all = take c.args.count (drop c.args.place h.entries) in
    let e = c.lend.result.now in
    let until = c.args.place + c.args.count in
    let es = take (until - (c.loop-n.n + 1)) (drop (c.loop-n.n + 1) h.entries) in
    let below : c.loop-n.n < until = omega (arith, c.loop-n-test.true) in
    let split = stretch_lent h.entries c.loop-n.n until e below c.lend.ensures in
    let tlm = subst (λ (s : SiteData). c.add.new.self.tlm.items ≡ c.loop-n.batch.tlm.items ++ site_packets_log s (e ∷ [])) c.site.ensures c.in_ok-add.ensures.tlm in
    let cmd = subst (λ (s : SiteData). c.add.new.self.cmd.items ≡ c.loop-n.batch.cmd.items ++ site_commands_log s (e ∷ [])) c.site.ensures c.in_ok-add.ensures.cmd in
    record {
      tlm = packets_more site e es c.loop-n.batch.tlm.items c.add.new.self.tlm.items _ tlm
          (subst (λ (l : List Entry). c.loop-n.batch.tlm.items ++ site_packets_log site l ≡ c.args.batch.now.tlm.items ++ site_packets_log site all) split c.loop-n.invariant.tlm);
      cmd = commands_more site e es c.loop-n.batch.cmd.items c.add.new.self.cmd.items _ cmd
          (subst (λ (l : List Entry). c.loop-n.batch.cmd.items ++ site_commands_log site l ≡ c.args.batch.now.cmd.items ++ site_commands_log site all) split c.loop-n.invariant.cmd);
    }
