use Rattle.std.proofs.Common.{◌≡◌, ◌<◌, List, length, take, arith, get_or, sym, ◌∙◌, ap, subst, rules}
use Rattle.std.proofs.Math.ListN.{length-set}
use Rattle.cts_def.specs.Items.{ItemData}
use Rattle.cts_monitor.specs.Cells.{CellsTell}
use Rattle.cts_monitor.specs.declared.cells.Cell.{Cell}
use Rattle.cts_monitor.proofs.Keyed.{get_is}
use Rattle.cts_monitor.proofs.NoteSteps.{cells_long, row_before, row_begin, row_end, row_step}
use Rattle.cts_monitor.proofs.cells.Cells.reset_all.Goals as goal

pub loop-i-init : goal.loop-i-init
loop-i-init g c =
    let t = subst (λ (cs : List Cell). CellsTell c.args.packet.now c.args.number 0 (take c.args.at (g.H.Stands.list c.args.history.now)) c.args.packet.now.items cs) (sym c.self.view_is) c.requires.tells in
    record {
      long = cells_long c.args.packet.now c.args.number 0 (take c.args.at (g.H.Stands.list c.args.history.now)) c.args.packet.now.items c.self.inside.cells.items t;
      top = omega arith;
      cells = row_begin c.args.packet.now c.args.number (take c.args.at (g.H.Stands.list c.args.history.now)) (g.H.Stands.list c.args.history.now) c.args.packet.now.items c.self.inside.cells.items t;
    }

pub reset-requires-clause-before : goal.reset-requires-clause-before
reset-requires-clause-before g c =
    let seen : c.as_slice-items.result.now ≡ c.args.packet.now.items = search rules in
    let below : c.loop-i.i < length c.args.packet.now.items = omega (arith, c.loop-i-test.true, ap (λ (xs : List ItemData). length xs) seen) in
    let within : c.loop-i.i < length c.loop-i.self-inside.cells.items = omega (arith, below, c.loop-i.invariant.long) in
    let kept : c.index_mut.result.now ≡ get_or c.loop-i.self-inside.cells.items c.loop-i.i c.index_mut.result.now = search rules in
    let found : c.index-items-i.result ≡ get_or c.args.packet.now.items c.loop-i.i c.index-items-i.result = search rules in
    row_before c.args.packet.now c.args.number c.loop-i.i (take c.args.at (g.H.Stands.list c.args.history.now)) (g.H.Stands.list c.args.history.now) c.args.packet.now.items c.index-items-i.result c.loop-i.self-inside.cells.items c.index_mut.result.now
    (get_is c.args.packet.now.items c.loop-i.i c.index-items-i.result below found) within kept c.loop-i.invariant.cells

pub loop-i-preserved : goal.loop-i-preserved
loop-i-preserved g c =
    let seen : c.as_slice-items.result.now ≡ c.args.packet.now.items = search rules in
    let below : c.loop-i.i < length c.args.packet.now.items = omega (arith, c.loop-i-test.true, ap (λ (xs : List ItemData). length xs) seen) in
    let within : c.loop-i.i < length c.loop-i.self-inside.cells.items = omega (arith, below, c.loop-i.invariant.long) in
    let kept : c.index_mut.result.now ≡ get_or c.loop-i.self-inside.cells.items c.loop-i.i c.index_mut.result.now = search rules in
    let found : c.index-items-i.result ≡ get_or c.args.packet.now.items c.loop-i.i c.index-items-i.result = search rules in
    record {
      long = length-set _ _ _ ∙ c.loop-i.invariant.long;
      top = omega (arith, below);
      cells = row_step c.args.site.now (g.H.Stands.list c.args.history.now) c.args.at c.requires.place c.requires.quiet c.args.packet.now c.args.number c.loop-i.i c.args.packet.now.items c.index-items-i.result
          c.loop-i.self-inside.cells.items c.index_mut.result.now _ (get_is c.args.packet.now.items c.loop-i.i c.index-items-i.result below found) within kept c.reset.ensures c.loop-i.invariant.cells;
    }

pub returns : goal.returns
returns g c =
    let seen : c.as_slice-items.result.now ≡ c.args.packet.now.items = search rules in
    let top : c.loop-i.i ≡ length c.loop-i.self-inside.cells.items = omega (arith, ap (λ (xs : List ItemData). length xs) seen, c.loop-i.invariant.long, c.loop-i.invariant.top) in
    row_end c.args.packet.now c.args.number (take c.args.at (g.H.Stands.list c.args.history.now)) (g.H.Stands.list c.args.history.now) c.args.packet.now.items c.loop-i.self-inside.cells.items c.loop-i.i top c.loop-i.invariant.long c.loop-i.invariant.cells
