use Rattle.std.proofs.Common.{arith, ◌+◌, refl, subst, ◌∙◌}
use Rattle.std.proofs.lemmas.Grind.{common_steps}
use Rattle.cts_def.specs.Makers.{first_slot}
use Rattle.cts_server.specs.Kinds.{IsSlot}
use Rattle.cts_server.specs.Making.{AreFit, FitsLine, ReadyLine}
use Rattle.cts_server.proofs.Taking.{begun, took, there_more, fit_more, line_ready, rest_is}
use Rattle.cts_server.proofs.tasks.slot_tasks.Goals as goal

pub lines-init : goal.lines-init
lines-init g c = record {
  taking = begun (IsSlot (λ n aim d x. ReadyLine c.args.site.now n aim (g.Q.Link.seen d) (g.Q.Link.seen x.device) (g.C.Chained.shape x.chain)))
      first_slot c.args.aims.items c.args.places.now c.args.tasks.now.items;
  there = c.requires.there;
  many = omega arith;
  long = refl;
  fit = c.requires.fit;
  chains = refl;
  room = c.requires.room;
  same_room = refl;
}

pub lines-preserved : goal.lines-preserved
lines-preserved g c =
    let kept = c.lines.invariant in
    let place = c.lines.place in
    let aim = c.take_first.ensures.items in
    let made = c.take_line-line.ensures in
    let fit = fit_more (λ n x. FitsLine c.args.site.now n (g.C.Chained.shape x)) (first_slot + place) c.lines.aims.items c.take_first.new.items.items
    c.lines.chains.items c.take_line-line.new.chains.items c.take_first.result c.take_line-line.result.chain kept.fit aim made.chain in
    record {
      taking = took (IsSlot (λ n aim d x. ReadyLine c.args.site.now n aim (g.Q.Link.seen d) (g.Q.Link.seen x.device) (g.C.Chained.shape x.chain)))
          first_slot c.args.aims.items c.lines.aims.items c.take_first.new.items.items c.args.places.now c.lines.places c.take_line-line.new.places
          c.args.tasks.now.items c.lines.tasks.items _ place (first_slot + place)
          c.take_first.result made.device.0 _ kept.taking aim made.device.1 made.others made.long c.push_reserved.ensures.items (omega arith) refl
          (line_ready c.args.site.now (first_slot + place) c.take_first.result (g.Q.Link.seen made.device.0)
          (g.Q.Link.seen c.take_line-line.result.device) (g.C.Chained.shape c.take_line-line.result.chain) fit.0 made.device.2);
      there = there_more place c.lines.places c.take_line-line.new.places made.device.0 kept.there made.device.1 made.others;
      many = grind (arith, common_steps);
      long = made.long ∙ kept.long;
      fit = subst (λ n. AreFit (λ n x. FitsLine c.args.site.now n (g.C.Chained.shape x)) n c.take_first.new.items.items
          c.take_line-line.new.chains.items) (omega arith) fit.1;
      chains = rest_is place c.args.chains.now.items c.lines.chains.items c.take_line-line.new.chains.items c.take_line-line.result.chain kept.chains
          made.chain;
      room = grind (arith, common_steps);
      same_room = grind (arith, common_steps);
    }

pub lines-smaller : goal.lines-smaller
lines-smaller g c = grind (arith, common_steps)

pub push_reserved-requires : goal.push_reserved-requires
push_reserved-requires g c = grind (arith, common_steps)

pub take_first-requires : goal.take_first-requires
take_first-requires g c = grind (arith, common_steps)
