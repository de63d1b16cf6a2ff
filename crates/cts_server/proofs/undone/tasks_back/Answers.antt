use Rattle.std.proofs.Common.{map, ap, set, subst, sym, ◌∙◌, Some}
use Rattle.std.specs.List.{filter_map}
use Rattle.cts_server.specs.Homes.{CameHome, last_of}
use Rattle.cts_server.specs.Kinds.{the_desk, the_interface, the_scribe, the_slot}
use Rattle.cts_server.proofs.Homing.{home_one, home_other, home_place, last_one, last_other, walked, walked_all, walked_len}
use Rattle.cts_server.proofs.undone.tasks_back.Goals as goal

pub put_next-requires : goal.put_next-requires
put_next-requires g c =
    let kept = c.loop-task.invariant in
    let more = walked c.loop-task.yielded _ _ _ c.in-Some.task kept.all c.in-Some.ensures.steps.0 in
    record {
      within = home_place (λ t. the_interface t.work) (λ l. l.device) c.loop-task.yielded c.in-Some.task _ _ c.in-Interface.work _ _ _
          kept.lines more.0 (ap the_interface c.in-Interface.is) c.requires.lines;
    }

pub loop-task-preserved-in-Interface : goal.loop-task-preserved-in-Interface
loop-task-preserved-in-Interface g c =
    let kept = c.loop-task.invariant in
    let steps = c.in-Some.ensures.steps in
    let more = walked c.loop-task.yielded _ _ _ c.in-Some.task kept.all steps.0 in
    record {
      all = more.1;
      many = walked_len _ _ c.in-Some.task _ _ steps.0 kept.many steps.1;
      lines = home_one (λ t. the_interface t.work) (λ l. l.device) c.loop-task.yielded c.in-Some.task _ _ c.in-Interface.work _ _ _ _ _ kept.lines
          more.0 (ap the_interface c.in-Interface.is) c.requires.lines
          (c.put_next.ensures.places ∙ ap (λ d. set c.loop-task.lines c.loop-task.line (Some d))
          (c.into_device.ensures ∙ ap (λ u. u.device) c.in-Interface.work-is)) c.put_next.ensures.place;
      slots = home_other (λ t. the_slot t.work) (λ l. l.device) c.loop-task.yielded c.in-Some.task _ _ _ kept.slots (ap the_slot c.in-Interface.is);
      desks = home_other (λ t. the_desk t.work) (λ d. d) c.loop-task.yielded c.in-Some.task _ _ _ kept.desks (ap the_desk c.in-Interface.is);
      vault = kept.vault ∙ last_other (λ t. the_scribe t.work) (λ v. v) c.loop-task.yielded c.in-Some.task c.args.vault.now (ap the_scribe c.in-Interface.is);
    }

pub put_next-requires-in-Slot : goal.put_next-requires-in-Slot
put_next-requires-in-Slot g c =
    let kept = c.loop-task.invariant in
    let more = walked c.loop-task.yielded _ _ _ c.in-Some.task kept.all c.in-Some.ensures.steps.0 in
    record {
      within = home_place (λ t. the_slot t.work) (λ l. l.device) c.loop-task.yielded c.in-Some.task _ _ c.in-Slot.work _ _ _ kept.slots more.0
          (ap the_slot c.in-Slot.is) c.requires.slots;
    }

pub loop-task-preserved-in-Slot : goal.loop-task-preserved-in-Slot
loop-task-preserved-in-Slot g c =
    let kept = c.loop-task.invariant in
    let steps = c.in-Some.ensures.steps in
    let more = walked c.loop-task.yielded _ _ _ c.in-Some.task kept.all steps.0 in
    record {
      all = more.1;
      many = walked_len _ _ c.in-Some.task _ _ steps.0 kept.many steps.1;
      lines = home_other (λ t. the_interface t.work) (λ l. l.device) c.loop-task.yielded c.in-Some.task _ _ _ kept.lines (ap the_interface c.in-Slot.is);
      slots = home_one (λ t. the_slot t.work) (λ l. l.device) c.loop-task.yielded c.in-Some.task _ _ c.in-Slot.work _ _ _ _ _ kept.slots more.0
          (ap the_slot c.in-Slot.is) c.requires.slots (c.put_next-in-Slot.ensures.places ∙ ap (λ d. set c.loop-task.slots c.loop-task.slot (Some d))
          (c.into_device-in-Slot.ensures ∙ ap (λ u. u.device) c.in-Slot.work-is)) c.put_next-in-Slot.ensures.place;
      desks = home_other (λ t. the_desk t.work) (λ d. d) c.loop-task.yielded c.in-Some.task _ _ _ kept.desks (ap the_desk c.in-Slot.is);
      vault = kept.vault ∙ last_other (λ t. the_scribe t.work) (λ v. v) c.loop-task.yielded c.in-Some.task c.args.vault.now (ap the_scribe c.in-Slot.is);
    }

pub put_next-requires-in-Desk : goal.put_next-requires-in-Desk
put_next-requires-in-Desk g c =
    let kept = c.loop-task.invariant in
    let more = walked c.loop-task.yielded _ _ _ c.in-Some.task kept.all c.in-Some.ensures.steps.0 in
    record {
      within = home_place (λ t. the_desk t.work) (λ d. d) c.loop-task.yielded c.in-Some.task _ _ c.in-Desk.door _ _ _ kept.desks more.0
          (ap the_desk c.in-Desk.is) c.requires.desks;
    }

pub loop-task-preserved-in-Desk : goal.loop-task-preserved-in-Desk
loop-task-preserved-in-Desk g c =
    let kept = c.loop-task.invariant in
    let steps = c.in-Some.ensures.steps in
    let more = walked c.loop-task.yielded _ _ _ c.in-Some.task kept.all steps.0 in
    record {
      all = more.1;
      many = walked_len _ _ c.in-Some.task _ _ steps.0 kept.many steps.1;
      lines = home_other (λ t. the_interface t.work) (λ l. l.device) c.loop-task.yielded c.in-Some.task _ _ _ kept.lines (ap the_interface c.in-Desk.is);
      slots = home_other (λ t. the_slot t.work) (λ l. l.device) c.loop-task.yielded c.in-Some.task _ _ _ kept.slots (ap the_slot c.in-Desk.is);
      desks = home_one (λ t. the_desk t.work) (λ d. d) c.loop-task.yielded c.in-Some.task _ _ c.in-Desk.door _ _ _ _ _ kept.desks more.0
          (ap the_desk c.in-Desk.is) c.requires.desks (c.put_next-in-Desk.ensures.places
          ∙ ap (λ d. set c.loop-task.desks c.loop-task.desk (Some d)) c.in-Desk.door-is) c.put_next-in-Desk.ensures.place;
      vault = kept.vault ∙ last_other (λ t. the_scribe t.work) (λ v. v) c.loop-task.yielded c.in-Some.task c.args.vault.now (ap the_scribe c.in-Desk.is);
    }

pub loop-task-preserved-in-Scribe : goal.loop-task-preserved-in-Scribe
loop-task-preserved-in-Scribe g c =
    let kept = c.loop-task.invariant in
    let steps = c.in-Some.ensures.steps in
    let more = walked c.loop-task.yielded _ _ _ c.in-Some.task kept.all steps.0 in
    record {
      all = more.1;
      many = walked_len _ _ c.in-Some.task _ _ steps.0 kept.many steps.1;
      lines = home_other (λ t. the_interface t.work) (λ l. l.device) c.loop-task.yielded c.in-Some.task _ _ _ kept.lines (ap the_interface c.in-Scribe.is);
      slots = home_other (λ t. the_slot t.work) (λ l. l.device) c.loop-task.yielded c.in-Some.task _ _ _ kept.slots (ap the_slot c.in-Scribe.is);
      desks = home_other (λ t. the_desk t.work) (λ d. d) c.loop-task.yielded c.in-Some.task _ _ _ kept.desks (ap the_desk c.in-Scribe.is);
      vault = ap Some c.in-Scribe.kept-is ∙ sym (last_one (λ t. the_scribe t.work) (λ v. v) c.loop-task.yielded c.in-Some.task c.in-Scribe.kept c.args.vault.now
          (ap the_scribe c.in-Scribe.is));
    }

pub loop-task-preserved : goal.loop-task-preserved
loop-task-preserved g c =
    let kept = c.loop-task.invariant in
    let steps = c.in-Some.ensures.steps in
    let more = walked c.loop-task.yielded _ _ _ c.in-Some.task kept.all steps.0 in
    record {
      all = more.1;
      many = walked_len _ _ c.in-Some.task _ _ steps.0 kept.many steps.1;
      lines = home_other (λ t. the_interface t.work) (λ l. l.device) c.loop-task.yielded c.in-Some.task _ _ _ kept.lines (ap the_interface c.in-Scribe.is);
      slots = home_other (λ t. the_slot t.work) (λ l. l.device) c.loop-task.yielded c.in-Some.task _ _ _ kept.slots (ap the_slot c.in-Scribe.is);
      desks = home_other (λ t. the_desk t.work) (λ d. d) c.loop-task.yielded c.in-Some.task _ _ _ kept.desks (ap the_desk c.in-Scribe.is);
      vault = ap Some c.in-Scribe.kept-is ∙ sym (last_one (λ t. the_scribe t.work) (λ v. v) c.loop-task.yielded c.in-Some.task c.in-Scribe.kept c.args.vault.now
          (ap the_scribe c.in-Scribe.is));
    }

pub returns-clause-lines : goal.returns-clause-lines
returns-clause-lines g c =
    let kept = c.loop-task.invariant in
    subst (λ l. CameHome (λ t. the_interface t.work) (λ l. l.device) l c.args.lines.now c.loop-task.lines)
    (walked_all c.loop-task.yielded _ _ _ kept.all kept.many c.in-None.ensures.steps.0) kept.lines.places

pub returns-clause-slots : goal.returns-clause-slots
returns-clause-slots g c =
    let kept = c.loop-task.invariant in
    subst (λ l. CameHome (λ t. the_slot t.work) (λ l. l.device) l c.args.slots.now c.loop-task.slots)
    (walked_all c.loop-task.yielded _ _ _ kept.all kept.many c.in-None.ensures.steps.0) kept.slots.places

pub returns-clause-desks : goal.returns-clause-desks
returns-clause-desks g c =
    let kept = c.loop-task.invariant in
    subst (λ l. CameHome (λ t. the_desk t.work) (λ d. d) l c.args.desks.now c.loop-task.desks)
    (walked_all c.loop-task.yielded _ _ _ kept.all kept.many c.in-None.ensures.steps.0) kept.desks.places

pub returns-clause-vault : goal.returns-clause-vault
returns-clause-vault g c =
    let kept = c.loop-task.invariant in
    kept.vault ∙ ap (λ l. last_of c.args.vault.now (map (λ v. v) (filter_map (λ t. the_scribe t.work) l)))
    (walked_all c.loop-task.yielded _ _ _ kept.all kept.many c.in-None.ensures.steps.0)
