use Rattle.std.proofs.Common.{◌≡◌, ◌<◌, length, take, arith, set, get_or, sym, ◌∙◌, ap, subst, rules}
use Rattle.std.proofs.Math.ListN.{length-set}
use Rattle.cts_monitor.specs.Grid.{GridData, GridTells, rows_of}
use Rattle.cts_monitor.proofs.Keyed.{get_is}
use Rattle.cts_monitor.proofs.NoteSteps.{reset_tells, row_within, rows_before, rows_begin, rows_end, rows_step}
use Rattle.cts_monitor.proofs.grid.Grid.reset.Goals as goal

pub loop-p-init : goal.loop-p-init
loop-p-init g c =
    let t = subst (λ (r : GridData). GridTells c.args.site.now (take c.args.at (g.H.Stands.list c.args.history.now)) r) (sym c.self.view_is) c.requires.tells in
    record {
      long = t.long;
      top = omega arith;
      rows = rows_begin c.args.site.now (take c.args.at (g.H.Stands.list c.args.history.now)) (g.H.Stands.list c.args.history.now) c.self.inside.rows.items t.rows;
      events = ap (λ (r : GridData). r.events) c.self.view_is;
      free = ap (λ (r : GridData). r.free) c.self.view_is;
      room = c.self.invariant;
    }

pub reset_all-requires-clause-tells : goal.reset_all-requires-clause-tells
reset_all-requires-clause-tells g c =
    let site = c.args.site.now in
    let xs = (g.H.Stands.list c.args.history.now) in
    let first : length c.self.inside.rows.items ≡ rows_of site = ap (λ (r : GridData). length r.rows) c.self.view_is ∙ c.requires.tells.long in
    let rows = c.loop-p.self-inside.rows.items in
    let p = c.loop-p.p in
    let within : p < length rows = omega (arith, c.loop-p-test.true, c.loop-p.invariant.long, first) in
    let packet = c.index-as_slice-p.result in
    let found : packet ≡ get_or site.definitions.telemetry p packet = search rules in
    let there = get_is site.definitions.telemetry p packet (row_within site rows p c.loop-p.invariant.long within) found in
    let row = c.index_mut.result.now in
    let kept : row ≡ get_or rows p row = search rules in
    rows_before site (take c.args.at xs) xs p packet rows row there within kept c.loop-p.invariant.rows

pub loop-p-preserved : goal.loop-p-preserved
loop-p-preserved g c =
    let site = c.args.site.now in
    let xs = (g.H.Stands.list c.args.history.now) in
    let first : length c.self.inside.rows.items ≡ rows_of site = ap (λ (r : GridData). length r.rows) c.self.view_is ∙ c.requires.tells.long in
    let rows = c.loop-p.self-inside.rows.items in
    let p = c.loop-p.p in
    let within : p < length rows = omega (arith, c.loop-p-test.true, c.loop-p.invariant.long, first) in
    let packet = c.index-as_slice-p.result in
    let found : packet ≡ get_or site.definitions.telemetry p packet = search rules in
    let there = get_is site.definitions.telemetry p packet (row_within site rows p c.loop-p.invariant.long within) found in
    let long : length (set rows p c.reset_all.new.self) ≡ length rows = length-set _ _ _ in
    record {
      long = long ∙ c.loop-p.invariant.long;
      top = omega (arith, within, long);
      rows = rows_step site (take c.args.at xs) xs p packet rows c.reset_all.new.self there c.reset_all.ensures c.loop-p.invariant.rows;
      events = c.loop-p.invariant.events;
      free = c.loop-p.invariant.free;
      room = c.loop-p.invariant.room;
    }

pub invariant_of-self : goal.invariant_of-self
invariant_of-self g c = c.loop-p.invariant.room

pub returns-clause-tells : goal.returns-clause-tells
returns-clause-tells g c =
    let site = c.args.site.now in
    let xs = (g.H.Stands.list c.args.history.now) in
    let first : length c.self.inside.rows.items ≡ rows_of site = ap (λ (r : GridData). length r.rows) c.self.view_is ∙ c.requires.tells.long in
    let rows = c.loop-p.self-inside.rows.items in
    let end : c.loop-p.p ≡ length rows = omega (arith, c.loop-p.invariant.long, c.loop-p.invariant.top, first) in
    reset_tells site xs c.args.at c.requires.place c.requires.quiet c.args.self.now _ c.requires.tells c.loop-p.invariant.long c.loop-p.invariant.events (rows_end site (take c.args.at xs) xs rows c.loop-p.p end c.loop-p.invariant.rows)
