use Rattle.std.proofs.Common.{arith, ◌+◌, refl, subst, ◌∙◌, drop}
use Rattle.std.proofs.lemmas.Grind.{common_steps}
use Rattle.cts_def.specs.Makers.{first_desk}
use Rattle.cts_server.specs.Kinds.{IsDesk}
use Rattle.cts_server.specs.Making.{AreFit, FitsDesk, ReadyDesk}
use Rattle.cts_server.proofs.Taking.{begun, took, there_more, door_more, desk_ready}
use Rattle.cts_server.proofs.tasks.desk_tasks.Goals as goal

pub desks-init : goal.desks-init
desks-init g c = record {
  taking = begun (IsDesk (λ n aim d x. ReadyDesk c.args.site.now n aim (g.Q.Link.seen d) (g.Q.Link.seen x))) first_desk c.args.aims.items
      c.args.places.now c.args.tasks.now.items;
  there = c.requires.there;
  many = omega arith;
  long = refl;
  fit = c.requires.fit;
  room = c.requires.room;
  same_room = refl;
}

pub desks-preserved : goal.desks-preserved
desks-preserved g c =
    let kept = c.desks.invariant in
    let place = c.desks.place in
    let aim = c.take_first-aim.ensures.items in
    let at = c.take_at-door.ensures in
    let fit = door_more (FitsDesk c.args.site.now) (first_desk + place) place c.desks.aims.items c.take_first-aim.new.items.items
    c.desks.places c.take_at-door.new.places c.take_first-aim.result c.take_at-door.result kept.fit aim at.stood at.others in
    record {
      taking = took (IsDesk (λ n aim d x. ReadyDesk c.args.site.now n aim (g.Q.Link.seen d) (g.Q.Link.seen x))) first_desk c.args.aims.items
          c.desks.aims.items c.take_first-aim.new.items.items c.args.places.now c.desks.places c.take_at-door.new.places c.args.tasks.now.items
          c.desks.tasks.items _ place (first_desk + place)
          c.take_first-aim.result c.take_at-door.result _ kept.taking aim at.stood at.others at.long c.push_reserved.ensures.items (omega arith) refl
          (desk_ready c.args.site.now (first_desk + place) c.take_first-aim.result (g.Q.Link.seen c.take_at-door.result) (g.Q.Link.seen c.aim.new.self)
          fit.0 c.aim.ensures.content c.aim.ensures.linked c.aim.ensures.finished c.aim.ensures.faults c.aim.ensures.dials);
      there = there_more place c.desks.places c.take_at-door.new.places c.take_at-door.result kept.there at.stood at.others;
      many = grind (arith, common_steps);
      long = at.long ∙ kept.long;
      fit = subst (λ n. AreFit (FitsDesk c.args.site.now) n c.take_first-aim.new.items.items
          (drop (place + 1) c.take_at-door.new.places)) (omega arith) fit.1;
      room = grind (arith, common_steps);
      same_room = grind (arith, common_steps);
    }

pub desks-smaller : goal.desks-smaller
desks-smaller g c = grind (arith, common_steps)

pub push_reserved-requires : goal.push_reserved-requires
push_reserved-requires g c = grind (arith, common_steps)

pub take_first-aim-requires : goal.take_first-aim-requires
take_first-aim-requires g c = grind (arith, common_steps)
