use Rattle.std.proofs.Common.{arith, map, ap, length, length-append, ◌++◌, sym, subst, ◌∙◌, None}
use Rattle.std.specs.List.{filter_map}
use Rattle.cts_server.specs.Homes.{CameHome, last_of}
use Rattle.cts_server.specs.Kinds.{line_why, the_desk, the_interface, the_scribe, the_slot, desk_note}
use Rattle.cts_server.proofs.Homing.{added_one, added_other, has_place, home_one, home_other, home_place, last_one, last_other, walked, walked_all, walked_len}
use Rattle.cts_server.proofs.notes.notes_back.Goals as goal

pub put_next-requires : goal.put_next-requires
put_next-requires g c =
    let kept = c.loop-note.invariant in
    let more = walked c.loop-note.yielded _ _ _ c.in-Some.note kept.all c.in-Some.ensures.steps.0 in
    record {
      within = home_place the_interface (λ n. n.device) c.loop-note.yielded c.in-Some.note _ _ c.in-Interface.field-0 _ _ _ kept.lines more.0
          (ap the_interface c.in-Interface.is) c.requires.lines;
    }

pub push_reserved-requires : goal.push_reserved-requires
push_reserved-requires g c =
    let kept = c.loop-note.invariant in
    let more = walked c.loop-note.yielded _ _ _ c.in-Some.note kept.all c.in-Some.ensures.steps.0 in
    let lt = has_place line_why c.loop-note.yielded c.in-Some.note _ _ c.in-Interface.field-0.why
    (length (filter_map line_why c.args.notes.items)) more.0 (ap line_why c.in-Interface.is) (omega arith) in
    let many = ap length kept.whys ∙ length-append c.args.whys.now.items (filter_map line_why c.loop-note.yielded) in
    let room = c.requires.whys in
    omega (arith, lt, many, room, kept.whys_room)

pub loop-note-preserved-in-Interface : goal.loop-note-preserved-in-Interface
loop-note-preserved-in-Interface g c =
    let kept = c.loop-note.invariant in
    let steps = c.in-Some.ensures.steps in
    let more = walked c.loop-note.yielded _ _ _ c.in-Some.note kept.all steps.0 in
    record {
      all = more.1;
      many = walked_len _ _ c.in-Some.note _ _ steps.0 kept.many steps.1;
      lines = home_one the_interface (λ n. n.device) c.loop-note.yielded c.in-Some.note _ _ c.in-Interface.field-0 _ _ _ _ _ kept.lines more.0
          (ap the_interface c.in-Interface.is) c.requires.lines c.put_next.ensures.places c.put_next.ensures.place;
      slots = home_other the_slot (λ n. n.device) c.loop-note.yielded c.in-Some.note _ _ _ kept.slots (ap the_slot c.in-Interface.is);
      desks = home_other the_desk (λ n. n.door) c.loop-note.yielded c.in-Some.note _ _ _ kept.desks (ap the_desk c.in-Interface.is);
      vault = kept.vault ∙ last_other the_scribe (λ n. n.vault) c.loop-note.yielded c.in-Some.note c.args.vault.now (ap the_scribe c.in-Interface.is);
      whys = added_one line_why c.loop-note.yielded c.in-Some.note c.in-Interface.field-0.why _ _ _ kept.whys
          (ap line_why c.in-Interface.is) c.push_reserved.ensures.items;
      left = added_other desk_note c.loop-note.yielded c.in-Some.note _ _ kept.left (ap desk_note c.in-Interface.is);
      scribe = kept.scribe ∙ last_other the_scribe (λ n. n.why) c.loop-note.yielded c.in-Some.note None (ap the_scribe c.in-Interface.is);
      whys_room = c.push_reserved.ensures.capacity ∙ kept.whys_room;
      left_room = kept.left_room;
    }

pub put_next-requires-in-Slot : goal.put_next-requires-in-Slot
put_next-requires-in-Slot g c =
    let kept = c.loop-note.invariant in
    let more = walked c.loop-note.yielded _ _ _ c.in-Some.note kept.all c.in-Some.ensures.steps.0 in
    record {
      within = home_place the_slot (λ n. n.device) c.loop-note.yielded c.in-Some.note _ _ c.in-Slot.field-0 _ _ _ kept.slots more.0
          (ap the_slot c.in-Slot.is) c.requires.slots;
    }

pub push_reserved-requires-in-Slot : goal.push_reserved-requires-in-Slot
push_reserved-requires-in-Slot g c =
    let kept = c.loop-note.invariant in
    let more = walked c.loop-note.yielded _ _ _ c.in-Some.note kept.all c.in-Some.ensures.steps.0 in
    let lt = has_place line_why c.loop-note.yielded c.in-Some.note _ _ c.in-Slot.field-0.why (length (filter_map line_why c.args.notes.items)) more.0
    (ap line_why c.in-Slot.is) (omega arith) in
    let many = ap length kept.whys ∙ length-append c.args.whys.now.items (filter_map line_why c.loop-note.yielded) in
    let room = c.requires.whys in
    omega (arith, lt, many, room, kept.whys_room)

pub loop-note-preserved-in-Slot : goal.loop-note-preserved-in-Slot
loop-note-preserved-in-Slot g c =
    let kept = c.loop-note.invariant in
    let steps = c.in-Some.ensures.steps in
    let more = walked c.loop-note.yielded _ _ _ c.in-Some.note kept.all steps.0 in
    record {
      all = more.1;
      many = walked_len _ _ c.in-Some.note _ _ steps.0 kept.many steps.1;
      lines = home_other the_interface (λ n. n.device) c.loop-note.yielded c.in-Some.note _ _ _ kept.lines (ap the_interface c.in-Slot.is);
      slots = home_one the_slot (λ n. n.device) c.loop-note.yielded c.in-Some.note _ _ c.in-Slot.field-0 _ _ _ _ _ kept.slots more.0
          (ap the_slot c.in-Slot.is) c.requires.slots c.put_next-in-Slot.ensures.places c.put_next-in-Slot.ensures.place;
      desks = home_other the_desk (λ n. n.door) c.loop-note.yielded c.in-Some.note _ _ _ kept.desks (ap the_desk c.in-Slot.is);
      vault = kept.vault ∙ last_other the_scribe (λ n. n.vault) c.loop-note.yielded c.in-Some.note c.args.vault.now (ap the_scribe c.in-Slot.is);
      whys = added_one line_why c.loop-note.yielded c.in-Some.note c.in-Slot.field-0.why _ _ _ kept.whys
          (ap line_why c.in-Slot.is) c.push_reserved-in-Slot.ensures.items;
      left = added_other desk_note c.loop-note.yielded c.in-Some.note _ _ kept.left (ap desk_note c.in-Slot.is);
      scribe = kept.scribe ∙ last_other the_scribe (λ n. n.why) c.loop-note.yielded c.in-Some.note None (ap the_scribe c.in-Slot.is);
      whys_room = c.push_reserved-in-Slot.ensures.capacity ∙ kept.whys_room;
      left_room = kept.left_room;
    }

pub put_next-requires-in-Desk : goal.put_next-requires-in-Desk
put_next-requires-in-Desk g c =
    let kept = c.loop-note.invariant in
    let more = walked c.loop-note.yielded _ _ _ c.in-Some.note kept.all c.in-Some.ensures.steps.0 in
    record {
      within = home_place the_desk (λ n. n.door) c.loop-note.yielded c.in-Some.note _ _ c.in-Desk.field-0 _ _ _ kept.desks more.0
          (ap the_desk c.in-Desk.is) c.requires.desks;
    }

pub push_reserved-requires-in-Desk : goal.push_reserved-requires-in-Desk
push_reserved-requires-in-Desk g c =
    let kept = c.loop-note.invariant in
    let more = walked c.loop-note.yielded _ _ _ c.in-Some.note kept.all c.in-Some.ensures.steps.0 in
    let lt = has_place desk_note c.loop-note.yielded c.in-Some.note _ _
    (record { fronts = c.in-Desk.field-0.fronts; why = c.in-Desk.field-0.why; tied = c.in-Desk.field-0.tied })
    (length (filter_map desk_note c.args.notes.items)) more.0 (ap desk_note c.in-Desk.is) (omega arith) in
    let many = ap length kept.left ∙ length-append c.args.left.now.items (filter_map desk_note c.loop-note.yielded) in
    let room = c.requires.left in
    omega (arith, lt, many, room, kept.left_room)

pub loop-note-preserved-in-Desk : goal.loop-note-preserved-in-Desk
loop-note-preserved-in-Desk g c =
    let kept = c.loop-note.invariant in
    let steps = c.in-Some.ensures.steps in
    let more = walked c.loop-note.yielded _ _ _ c.in-Some.note kept.all steps.0 in
    record {
      all = more.1;
      many = walked_len _ _ c.in-Some.note _ _ steps.0 kept.many steps.1;
      lines = home_other the_interface (λ n. n.device) c.loop-note.yielded c.in-Some.note _ _ _ kept.lines (ap the_interface c.in-Desk.is);
      slots = home_other the_slot (λ n. n.device) c.loop-note.yielded c.in-Some.note _ _ _ kept.slots (ap the_slot c.in-Desk.is);
      desks = home_one the_desk (λ n. n.door) c.loop-note.yielded c.in-Some.note _ _ c.in-Desk.field-0 _ _ _ _ _ kept.desks more.0
          (ap the_desk c.in-Desk.is) c.requires.desks c.put_next-in-Desk.ensures.places c.put_next-in-Desk.ensures.place;
      vault = kept.vault ∙ last_other the_scribe (λ n. n.vault) c.loop-note.yielded c.in-Some.note c.args.vault.now (ap the_scribe c.in-Desk.is);
      whys = added_other line_why c.loop-note.yielded c.in-Some.note _ _ kept.whys (ap line_why c.in-Desk.is);
      left = added_one desk_note c.loop-note.yielded c.in-Some.note
          (record { fronts = c.in-Desk.field-0.fronts; why = c.in-Desk.field-0.why; tied = c.in-Desk.field-0.tied }) _ _ _ kept.left
          (ap desk_note c.in-Desk.is) c.push_reserved-in-Desk.ensures.items;
      scribe = kept.scribe ∙ last_other the_scribe (λ n. n.why) c.loop-note.yielded c.in-Some.note None (ap the_scribe c.in-Desk.is);
      whys_room = kept.whys_room;
      left_room = c.push_reserved-in-Desk.ensures.capacity ∙ kept.left_room;
    }

pub loop-note-preserved : goal.loop-note-preserved
loop-note-preserved g c =
    let kept = c.loop-note.invariant in
    let steps = c.in-Some.ensures.steps in
    let more = walked c.loop-note.yielded _ _ _ c.in-Some.note kept.all steps.0 in
    record {
      all = more.1;
      many = walked_len _ _ c.in-Some.note _ _ steps.0 kept.many steps.1;
      lines = home_other the_interface (λ n. n.device) c.loop-note.yielded c.in-Some.note _ _ _ kept.lines (ap the_interface c.in-Scribe.is);
      slots = home_other the_slot (λ n. n.device) c.loop-note.yielded c.in-Some.note _ _ _ kept.slots (ap the_slot c.in-Scribe.is);
      desks = home_other the_desk (λ n. n.door) c.loop-note.yielded c.in-Some.note _ _ _ kept.desks (ap the_desk c.in-Scribe.is);
      vault = sym (last_one the_scribe (λ n. n.vault) c.loop-note.yielded c.in-Some.note c.in-Scribe.field-0 c.args.vault.now (ap the_scribe c.in-Scribe.is));
      whys = added_other line_why c.loop-note.yielded c.in-Some.note _ _ kept.whys (ap line_why c.in-Scribe.is);
      left = added_other desk_note c.loop-note.yielded c.in-Some.note _ _ kept.left (ap desk_note c.in-Scribe.is);
      scribe = sym (last_one the_scribe (λ n. n.why) c.loop-note.yielded c.in-Some.note c.in-Scribe.field-0 None (ap the_scribe c.in-Scribe.is));
      whys_room = kept.whys_room;
      left_room = kept.left_room;
    }

pub returns-clause-lines : goal.returns-clause-lines
returns-clause-lines g c = subst (λ l. CameHome the_interface (λ n. n.device) l c.args.lines.now c.loop-note.lines)
    (walked_all c.loop-note.yielded _ _ _ c.loop-note.invariant.all c.loop-note.invariant.many c.in-None.ensures.steps.0) c.loop-note.invariant.lines.places

pub returns-clause-slots : goal.returns-clause-slots
returns-clause-slots g c = subst (λ l. CameHome the_slot (λ n. n.device) l c.args.slots.now c.loop-note.slots)
    (walked_all c.loop-note.yielded _ _ _ c.loop-note.invariant.all c.loop-note.invariant.many c.in-None.ensures.steps.0) c.loop-note.invariant.slots.places

pub returns-clause-desks : goal.returns-clause-desks
returns-clause-desks g c = subst (λ l. CameHome the_desk (λ n. n.door) l c.args.desks.now c.loop-note.desks)
    (walked_all c.loop-note.yielded _ _ _ c.loop-note.invariant.all c.loop-note.invariant.many c.in-None.ensures.steps.0) c.loop-note.invariant.desks.places

pub returns-clause-vault : goal.returns-clause-vault
returns-clause-vault g c = c.loop-note.invariant.vault ∙ ap (λ l. last_of c.args.vault.now (map (λ n. n.vault) (filter_map the_scribe l)))
    (walked_all c.loop-note.yielded _ _ _ c.loop-note.invariant.all c.loop-note.invariant.many c.in-None.ensures.steps.0)

pub returns-clause-whys : goal.returns-clause-whys
returns-clause-whys g c = c.loop-note.invariant.whys ∙ ap (λ l. c.args.whys.now.items ++ filter_map line_why l)
    (walked_all c.loop-note.yielded _ _ _ c.loop-note.invariant.all c.loop-note.invariant.many c.in-None.ensures.steps.0)

pub returns-clause-left : goal.returns-clause-left
returns-clause-left g c = c.loop-note.invariant.left ∙ ap (λ l. c.args.left.now.items ++ filter_map desk_note l)
    (walked_all c.loop-note.yielded _ _ _ c.loop-note.invariant.all c.loop-note.invariant.many c.in-None.ensures.steps.0)

pub returns-clause-scribe : goal.returns-clause-scribe
returns-clause-scribe g c = sym (c.loop-note.invariant.scribe ∙ ap (λ l. last_of None (map (λ n. n.why) (filter_map the_scribe l)))
    (walked_all c.loop-note.yielded _ _ _ c.loop-note.invariant.all c.loop-note.invariant.many c.in-None.ensures.steps.0)) ∙ c.in-Some-scribe.is
