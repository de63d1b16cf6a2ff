use Rattle.std.proofs.Common.{arith, length, refl, sym, ap, subst}
use Rattle.cts_def.specs.Makers.{first_slot}
use Rattle.cts_server.specs.Kinds.{IsInterface}
use Rattle.cts_server.specs.Making.{AreFit, FitsLine, ReadyLine, Taken}
use Rattle.cts_server.proofs.Whole.{taken_count}
use Rattle.cts_server.proofs.tasks.tasks_of.Goals as goal

pub line_tasks-requires : goal.line_tasks-requires
line_tasks-requires g c =
    let there = c.requires.there in
    let many = c.requires.many in
    let none = ap length c.requires.empty in
    record {
      there = there.0.1;
      many = omega (arith, many.0, there.0.0);
      few = omega (arith, there.0.0);
      fit = c.requires.lines;
      room = omega (arith, none, c.requires.room);
    }

pub slot_tasks-requires : goal.slot_tasks-requires
slot_tasks-requires g c =
    let there = c.requires.there in
    let many = c.requires.many in
    let none = ap length c.requires.empty in
    let came = taken_count _ _ _ _ _ _ _ c.line_tasks.ensures.taken in
    record {
      there = there.1.1;
      many = omega (arith, many.1, there.1.0);
      few = omega (arith, there.1.0);
      fit = subst (λ l. AreFit (λ n x. FitsLine c.args.site.now n (g.C.Chained.shape x)) first_slot c.args.aims.slots.items l)
          (sym c.line_tasks.ensures.chains) c.requires.slots;
      room = omega (arith, none, came, c.requires.room, c.line_tasks.ensures.room);
    }

pub desk_tasks-requires : goal.desk_tasks-requires
desk_tasks-requires g c =
    let there = c.requires.there in
    let many = c.requires.many in
    let none = ap length c.requires.empty in
    let came = taken_count _ _ _ _ _ _ _ c.line_tasks.ensures.taken in
    let later = taken_count _ _ _ _ _ _ _ c.slot_tasks.ensures.taken in
    record {
      there = there.2.1;
      many = omega (arith, many.2, there.2.0);
      few = omega (arith, there.2.0);
      fit = c.requires.desks;
      room = omega (arith, none, came, later, c.requires.room, c.line_tasks.ensures.room, c.slot_tasks.ensures.room);
    }

pub push_reserved-requires : goal.push_reserved-requires
push_reserved-requires g c =
    let none = ap length c.requires.empty in
    let came = taken_count _ _ _ _ _ _ _ c.line_tasks.ensures.taken in
    let later = taken_count _ _ _ _ _ _ _ c.slot_tasks.ensures.taken in
    let last = taken_count _ _ _ _ _ _ _ c.desk_tasks.ensures.taken in
    omega (arith, none, came, later, last, c.requires.room, c.line_tasks.ensures.room, c.slot_tasks.ensures.room, c.desk_tasks.ensures.room)

pub returns-clause-staff : goal.returns-clause-staff
returns-clause-staff g c = record {
  after_lines = c.line_tasks.new.tasks.items;
  after_slots = c.slot_tasks.new.tasks.items;
  after_desks = c.desk_tasks.new.tasks.items;
  last = record { by = 28; work = _ };
  of_lines = subst (λ b. Taken (IsInterface (λ n aim d x. ReadyLine c.args.site.now n aim (g.D.Link.seen d) (g.D.Link.seen x.device)
      (g.C.Chained.shape x.chain))) 0 c.args.aims.lines.items c.args.lines.now c.line_tasks.new.places b c.line_tasks.new.tasks.items)
      c.requires.empty c.line_tasks.ensures.taken;
  of_slots = c.slot_tasks.ensures.taken;
  of_desks = c.desk_tasks.ensures.taken;
  by = refl;
  of_scribe = c.take_vault.ensures.ready;
  all = c.push_reserved.ensures.items;
}
