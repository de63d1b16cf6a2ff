use Rattle.std.proofs.Common.{◌≡◌, ◌<◌, ◌+◌, ◌++◌, List, length, arith, set, get_or, drop, refl, sym, ◌∙◌, ap, subst, rules}
use Rattle.std.proofs.Math.ListN.{length-set}
use Rattle.std.proofs.lemmas.Grind.{common_steps}
use Rattle.cts_def.specs.Items.{ItemData}
use Rattle.cts_monitor.specs.declared.cells.Cell.{Cell}
use Rattle.cts_monitor.specs.declared.types.LimitsEvent.{LimitsEvent}
use Rattle.cts_monitor.specs.Cells.{Fit, sampled, sampled_all, turns}
use Rattle.cts_monitor.specs.Events.{as_event}
use Rattle.cts_monitor.proofs.CellSteps.{fit_long, can_sample, fit_rest, cells_step, turns_step}
use Rattle.cts_monitor.proofs.cells.Cells.sample_all.Goals as goal

pub loop-i-init : goal.loop-i-init
loop-i-init c =
    let fitted = subst (λ (cs : List Cell). Fit c.args.packet.now.items cs) (sym c.self.view_is) c.requires.fit in
    record {
      long = fit_long c.args.packet.now.items c.self.inside.cells.items fitted;
      fit = fitted;
      top = omega arith;
      len = omega arith;
      capacity = refl;
      row = ap (λ (cs : List Cell). sampled_all c.args.packet.now c.args.bytes.now c.args.packet.now.items cs) c.self.view_is;
      told = ap (λ (cs : List Cell). c.args.events.now.items ++ turns c.args.at c.args.number 0 c.args.packet.now c.args.bytes.now c.args.packet.now.items cs) c.self.view_is;
    }

pub take-change-requires-clause-can : goal.take-change-requires-clause-can
take-change-requires-clause-can c =
    let seen : c.as_slice-items.result.now ≡ c.args.packet.now.items = search rules in
    let below : c.loop-i.i < length c.args.packet.now.items = omega (arith, c.loop-i-test.true, ap (λ (xs : List ItemData). length xs) seen) in
    let within : c.loop-i.i < length c.loop-i.self-inside.cells.items = omega (arith, below, c.loop-i.invariant.long) in
    let kept : c.index_mut.result.now ≡ get_or c.loop-i.self-inside.cells.items c.loop-i.i c.index_mut.result.now = search rules in
    let found : c.index-items-i.result ≡ get_or c.args.packet.now.items c.loop-i.i c.index-items-i.result = search rules in
    can_sample c.args.packet.now c.args.bytes.now c.args.packet.now.items c.loop-i.self-inside.cells.items c.loop-i.i c.index-items-i.result c.index-items-i.result
    c.index_mut.result.now c.index_mut.result.now c.args.at c.args.number below within found kept c.loop-i.invariant.fit

pub tell_reserved-requires : goal.tell_reserved-requires
tell_reserved-requires c =
    let seen : c.as_slice-items.result.now ≡ c.args.packet.now.items = search rules in
    let below : c.loop-i.i < length c.args.packet.now.items = omega (arith, c.loop-i-test.true, ap (λ (xs : List ItemData). length xs) seen) in
    omega (arith, below, c.loop-i.invariant.len, c.loop-i.invariant.capacity, c.requires.places)

pub loop-i-preserved : goal.loop-i-preserved
loop-i-preserved c =
    let seen : c.as_slice-items.result.now ≡ c.args.packet.now.items = search rules in
    let below : c.loop-i.i < length c.args.packet.now.items = omega (arith, c.loop-i-test.true, ap (λ (xs : List ItemData). length xs) seen) in
    let within : c.loop-i.i < length c.loop-i.self-inside.cells.items = omega (arith, below, c.loop-i.invariant.long) in
    let kept : c.index_mut.result.now ≡ get_or c.loop-i.self-inside.cells.items c.loop-i.i c.index_mut.result.now = search rules in
    let found : c.index-items-i.result ≡ get_or c.args.packet.now.items c.loop-i.i c.index-items-i.result = search rules in
    let next : c.take-change.new.self ≡ sampled c.args.packet.now c.args.bytes.now c.index-items-i.result c.index_mut.result.now = c.take-change.ensures.kept in
    let told : c.tell_reserved.new.events.items ≡ c.loop-i.events.items ++ as_event c.args.at c.args.number c.loop-i.i c.take-change.result = c.tell_reserved.ensures.items in
    record {
      long = length-set _ _ _ ∙ c.loop-i.invariant.long;
      fit = fit_rest c.args.packet.now c.args.bytes.now c.args.packet.now.items c.loop-i.self-inside.cells.items c.loop-i.i c.index-items-i.result c.index-items-i.result
          c.index_mut.result.now c.take-change.new.self c.args.at c.args.number below within found kept c.loop-i.invariant.fit;
      top = omega (arith, below);
      len = omega (arith, c.tell_reserved.ensures.len, c.loop-i.invariant.len);
      capacity = c.tell_reserved.ensures.capacity ∙ c.loop-i.invariant.capacity;
      row = cells_step c.args.packet.now c.args.bytes.now c.args.packet.now.items c.loop-i.self-inside.cells.items c.loop-i.i c.index-items-i.result c.index-items-i.result
          c.index_mut.result.now c.take-change.new.self c.args.at c.args.number below within found kept next ∙ c.loop-i.invariant.row;
      told = ap (λ (xs : List LimitsEvent). xs ++ turns c.args.at c.args.number (c.loop-i.i + 1) c.args.packet.now c.args.bytes.now (drop (c.loop-i.i + 1) c.args.packet.now.items) (drop (c.loop-i.i + 1) (set c.loop-i.self-inside.cells.items c.loop-i.i c.take-change.new.self)))
          (told ∙ ap (λ o. c.loop-i.events.items ++ as_event c.args.at c.args.number c.loop-i.i o) c.take-change.ensures.change)
          ∙ turns_step c.args.packet.now c.args.bytes.now c.args.packet.now.items c.loop-i.self-inside.cells.items c.loop-i.i c.index-items-i.result c.index-items-i.result
          c.index_mut.result.now c.take-change.new.self c.args.at c.args.number below within found kept next c.loop-i.events.items
          ∙ c.loop-i.invariant.told;
    }

pub returns-clause-cells : goal.returns-clause-cells
returns-clause-cells c = grind (arith, common_steps)

pub returns-clause-events : goal.returns-clause-events
returns-clause-events c = grind (arith, common_steps)

pub returns-clause-len : goal.returns-clause-len
returns-clause-len c = omega (arith, c.loop-i.invariant.len, c.loop-i.invariant.top)
