use Rattle.std.proofs.Common.{◌≡◌, ℕ, ◌≤◌, ◌<◌, ◌+◌, [], arith, ap, ◌∙◌, inr, length, subst, sym, take}
use Rattle.std.specs.Prelude.{◌⊎◌, ◌^◌}
use Rattle.cts_def.specs.Sites.{SiteData}
use Rattle.cts_entry.specs.Histories.{bytes_in}
use Rattle.cts_outside.specs.declared.vault.LogKind.TheVariants.{Cmd, Tlm}
use Rattle.cts_table.specs.Keeping.{IsOfSite}
use Rattle.cts_scribe.specs.declared.growth.Growth.{Growth}
use Rattle.cts_scribe.specs.Following.{Lays}
use Rattle.cts_scribe.specs.Growing.{Gives, bytes_given, most_bytes, most_entries}
use Rattle.cts_scribe.specs.Logs.{counted_after}
use Rattle.cts_scribe.proofs.Bounding.{given_as, later_on, left_out, short_on, taken_all}
use Rattle.cts_scribe.proofs.Giving.{counts_next, gives_next, gives_none}
use Rattle.cts_scribe.proofs.NextEntries.{follows_next, of_site_get, small_get}
use Rattle.cts_scribe.proofs.board.lay_out.Goals as goal
use Rattle.cts_scribe.proofs.board.lay_out.Goals.{else-entries-test, then-entries-test+in_ok-added+then-not-added}

pub add-requires-clause-of_site : goal.add-requires-clause-of_site
add-requires-clause-of_site c =
    let found = of_site_get c.args.hall.now.basis.site [] c.args.hall.now.entries c.entries.progress.place c.lend-entry.result.now
    c.is_kept.ensures.kept.of_site c.lend-entry.ensures in
    (found.0, subst (λ (s : SiteData). IsOfSite s found.0 c.lend-entry.result.now) (sym c.requires.site) found.1)

pub add-requires-clause-small : goal.add-requires-clause-small
add-requires-clause-small c =
    let es = c.args.hall.now.entries in
    let whole : bytes_in es < 2 ^ 32 = omega (arith, c.is_kept.ensures.kept.legal.bytes, c.is_kept.ensures.bytes) in
    small_get es c.entries.progress.place c.lend-entry.result.now (2 ^ 32) c.lend-entry.ensures whole

pub add-requires-clause-tlm : goal.add-requires-clause-tlm
add-requires-clause-tlm c = c.entries.invariant.gives.tlm.end

pub add-requires-clause-cmd : goal.add-requires-clause-cmd
add-requires-clause-cmd c = c.entries.invariant.gives.cmd.end

pub entries-preserved : goal.entries-preserved
entries-preserved c =
    let es = c.args.hall.now.entries in
    let site = c.args.site.now in
    let e = c.lend-entry.result.now in
    let there = c.lend-entry.ensures in
    let p = c.entries.progress in
    let q = c.follow.new.self in
    let from = c.args.from.place in
    let i = c.entries.invariant in
    let old = c.entries.growth in
    let new = c.add.new.self in
    let asked = c.entries.cycles in
    let then = c.add.new.cycles in
    let yes = c.if-not-added.false in
    let tlm = c.in_ok-added.ensures.tlm yes in
    let cmd = c.in_ok-added.ensures.cmd yes in
    let takes = c.in_ok-added.ensures.takes yes in
    let below = c.entries-test.true in
    let next = sym c.follow.ensures.place in
    record {
      begun = i.begun;
      within = i.within;
      few = i.few;
      from = omega (arith, i.from, c.follow.ensures.place);
      until = omega (arith, below, c.follow.ensures.place);
      follows = follows_next p q es e there c.follow.ensures.place (c.follow.ensures.ended (take p.place es) i.follows.ended);
      gives = record {
        tlm = subst (λ n. Gives Tlm site es from n new.batch.tlm.items new.tlm) next
            (gives_next Tlm site es from p.place e old.batch.tlm.items old.tlm there asked.tlm new.batch.tlm.items new.tlm then.tlm tlm i.count.tlm
            i.gives.tlm);
        cmd = subst (λ n. Gives Cmd site es from n new.batch.cmd.items new.cmd) next
            (gives_next Cmd site es from p.place e old.batch.cmd.items old.cmd there asked.cmd new.batch.cmd.items new.cmd then.cmd cmd i.count.cmd
            i.gives.cmd);
      };
      short = subst (λ (n : ℕ). (n ≡ from + 1) ⊎ (bytes_given new.batch ≤ most_bytes)) next (short_on from p.place (bytes_given new.batch) takes.short);
      count = record {
        tlm = counts_next Tlm site es from p.place e old.batch.tlm.items old.tlm there asked.tlm new.batch.tlm.items new.tlm then.tlm tlm i.count.tlm
            i.gives.tlm
            ∙ ap (λ n. counted_after Tlm site (take n es)) next;
        cmd = counts_next Cmd site es from p.place e old.batch.cmd.items old.cmd there asked.cmd new.batch.cmd.items new.cmd then.cmd cmd i.count.cmd
            i.gives.cmd
            ∙ ap (λ n. counted_after Cmd site (take n es)) next;
      };
    }

pub entries-init : goal.entries-init
entries-init c =
    let es = c.args.hall.now.entries in
    let site = c.args.site.now in
    let from = c.args.from.place in
    let none = c.none-growth.ensures in
    let growth = c.none-growth.result in
    record {
      begun = (let s = c.saturating_add.ensures in let m = c.min-end.ensures in let n = c.count.ensures in let a = c.requires.ahead in
          omega (arith, s, m, n, a));
      within = (let m = c.min-end.ensures in let n = c.count.ensures in omega (arith, m, n));
      few = (let s = c.saturating_add.ensures in let m = c.min-end.ensures in omega (arith, s, m));
      from = omega arith;
      until = (let s = c.saturating_add.ensures in let m = c.min-end.ensures in let n = c.count.ensures in let a = c.requires.ahead in
          omega (arith, s, m, n, a));
      follows = c.requires.follows;
      gives = record {
        tlm = gives_none Tlm site es from growth.batch.tlm.items growth.tlm none.bytes.0 none.places.0 none.end.0;
        cmd = gives_none Cmd site es from growth.batch.cmd.items growth.cmd none.bytes.1 none.places.1 none.end.1;
      };
      short = inr (omega (arith, ap length none.bytes.0, ap length none.bytes.1));
      count = c.requires.count;
    }

pub returns-clause-lays : goal.returns-clause-lays
returns-clause-lays c =
    let es = c.args.hall.now.entries in
    let site = c.args.site.now in
    let from = c.args.from in
    let p = c.entries.progress in
    let i = c.entries.invariant in
    let few : p.place ≤ from.place + most_entries = omega (arith, i.until, i.few) in
    elim c.entries-test.branch [
      | else-entries-test w ↦ subst (λ (g : Growth). Lays site es from p g) (sym w.growth-is) (record {
        further = (let past = w.entries-test.false in omega (arith, i.begun, past));
        follows = i.follows;
        gives = i.gives;
        bounded = taken_all site es from.place p.place c.entries.growth.batch few i.short
            (λ less. (let past = w.entries-test.false in let s = c.saturating_add.ensures in let m = c.min-end.ensures in
            let n = c.count.ensures in let k = c.is_kept.ensures.few in omega (arith, past, s, m, n, k, less)));
      })
      | then-entries-test+in_ok-added+then-not-added w ↦
          (let no = w.if-not-added.true in
          let leaves = w.in_ok-added.ensures.leaves no in
          let same = w.in_ok-added.ensures.same no in
          subst (λ (g : Growth). Lays site es from p g) (sym w.growth-is) (record {
            further = later_on from.place p.place i.from leaves.later;
            follows = i.follows;
            gives = given_as site es from.place p.place c.entries.growth w.add.new.self leaves.tlm leaves.cmd same.0 same.1 i.gives;
            bounded = left_out site es from.place p.place w.lend-entry.result.now _ c.entries.growth.batch w.add.new.self.batch w.lend-entry.ensures few
                i.short leaves;
          }))
    ]
