use Rattle.std.proofs.Common.{arith, [], length, map, ◌∙◌, ap, subst, refl}
use Rattle.std.specs.List.{filter_map}
use Rattle.cts_def.specs.Makers.{server}
use Rattle.cts_scribe.specs.Laws.{StopsLeaveLogsOf}
use Rattle.cts_table.specs.Keeping.{IsKept}
use Rattle.cts_server.specs.DeskLaws.{held_lasts}
use Rattle.cts_server.specs.Desks.{ReadsInHolds}
use Rattle.cts_server.specs.Homes.{CameHome, last_of}
use Rattle.cts_server.specs.Kinds.{the_desk, the_interface, the_scribe, the_slot}
use Rattle.cts_server.specs.Owing.{was_cancelled}
use Rattle.cts_server.proofs.Plain.{plain_exact, plain_jobs, plain_served}
use Rattle.cts_server.proofs.Site.{Outfit, aims_few, closed_did, find_home, idled, idled_back, may, on_err, rises, served, served_back, undone_many}
use Rattle.cts_server.proofs.Steps.{none_is_server}
use Rattle.cts_server.proofs.serving.run_site.Given.{Over}
use Rattle.cts_server.proofs.serving.run_site.Goals as goal

abbrev outfit : Over → Outfit
outfit g = record {
  D = g.row.D.Denot;
  Q = g.row.Q.Denot;
  V = g.row.V.Denot;
  C = g.row.C.Denot;
  line_seen = g.D.Link.seen;
  door_seen = g.Q.Link.seen;
  vault_seen = g.V.Vault.seen;
  shape = g.C.Chained.shape;
  rule = ReadsInHolds;
  keeps = held_lasts;
}

-- ---- they work

pub run_workers-requires-clause-rising : goal.run_workers-requires-clause-rising
run_workers-requires-clause-rising g c κs within =
    let few = aims_few c.args.of.now.site.now _ _ _ c.in_ok-staged.ensures.staged.sound refl refl refl in
    rises (outfit g) c.args.of.now.site.now c.args.of.now.shared.now.digest.now c.in_ok-staged.ensures.staged.staff few.0 few.1 few.2

pub run_workers-requires-clause-can : goal.run_workers-requires-clause-can
run_workers-requires-clause-can g c κs within = may (outfit g) c.args.of.now.site.now c.args.of.now.shared.now.digest.now c.in_ok-staged.ensures.staged.staff _ c.in_ok-staged.ensures.staged.stands

-- ---- they have ended

pub settle-requires : goal.settle-requires
settle-requires g c = record {
  home = find_home (outfit g) c.args.of.now.site.now c.args.of.now.shared.now.digest.now c.in_ok-staged.ensures.staged.staff c.in_ok-staged.ensures.staged.stands c.close-history.result c.in-Ok.notes.items
      (closed_did (outfit g) c.args.of.now.site.now c.args.of.now.shared.now.digest.now _ _ _ c.close-history.result _ c.in-Ok.notes.items c.close-history.ensures.seen
      c.close-history.ensures.own c.in-Ok.ensures.holds)
      _ c.in_ok-staged.ensures.staged.room (aims_few c.args.of.now.site.now _ _ _ c.in_ok-staged.ensures.staged.sound refl refl refl) c.requires.there.0 c.requires.there.1 c.requires.there.2;
}

pub returns-in-Ok-clause-served : goal.returns-in-Ok-clause-served
returns-in-Ok-clause-served g c =
    let few = aims_few c.args.of.now.site.now _ _ _ c.in_ok-staged.ensures.staged.sound refl refl refl in
    let rising = rises (outfit g) c.args.of.now.site.now c.args.of.now.shared.now.digest.now c.in_ok-staged.ensures.staged.staff few.0 few.1 few.2 in
    let quiet = c.close-history.ensures.own server (c.in-Ok.ensures.all server (omega arith))
    ∙ c.in-Ok.ensures.silent server (omega arith) (none_is_server 0 _ rising) in
    let readable = subst (λ b. StopsLeaveLogsOf b.site c.close-history.result c.args.of.now.shared.now.digest.now) c.in_ok-staged.ensures.staged.stands c.close-history.ensures.readable in
    plain_served _ _ _ _ _ _ _ _ _ _ _ _ _ _ _ _
    (served (outfit g) c.args.of.now.site.now c.args.of.now.shared.now.digest.now c.in_ok-staged.ensures.staged.staff c.in_ok-staged.ensures.staged.stands c.close-history.result c.in-Ok.notes.items
    (closed_did (outfit g) c.args.of.now.site.now c.args.of.now.shared.now.digest.now _ _ _ c.close-history.result _ c.in-Ok.notes.items c.close-history.ensures.seen
    c.close-history.ensures.own c.in-Ok.ensures.holds)
    [] c.settle.result _ _ _ _ _ _ _ c.settle.ensures.history c.in_ok-staged.ensures.staged.sound
    (subst (λ b. IsKept b c.close-history.result) c.in_ok-staged.ensures.staged.stands c.close-history.ensures.legal) quiet readable c.settle.ensures.came refl refl refl
    (plain_jobs was_cancelled _ c.in-Ok.notes.items (g.W.Crew.seen c.args.crew.now) (g.W.Crew.seen c.run_workers.new.crew) c.in-Ok.ensures.crew)
    (λ in_turn. plain_exact was_cancelled _ c.in-Ok.notes.items (c.in-Ok.ensures.exact in_turn)))

pub returns-in-Ok-clause-back : goal.returns-in-Ok-clause-back
returns-in-Ok-clause-back g c =
    served_back (outfit g) c.args.of.now.site.now c.args.of.now.shared.now.digest.now c.in_ok-staged.ensures.staged.staff c.in_ok-staged.ensures.staged.stands c.close-history.result c.in-Ok.notes.items
    (closed_did (outfit g) c.args.of.now.site.now c.args.of.now.shared.now.digest.now _ _ _ c.close-history.result _ c.in-Ok.notes.items c.close-history.ensures.seen
    c.close-history.ensures.own c.in-Ok.ensures.holds)
    c.settle.result _ _ _ _ _ c.settle.ensures.came refl refl refl c.requires.there.0 c.requires.there.1 c.requires.there.2

-- ---- no memory was found for them

pub tasks_back-requires-clause-lines : goal.tasks_back-requires-clause-lines
tasks_back-requires-clause-lines g c =
    let few = aims_few c.args.of.now.site.now _ _ _ c.in_ok-staged.ensures.staged.sound refl refl refl in
    let many = undone_many (outfit g) c.args.of.now.site.now c.args.of.now.shared.now.digest.now c.in_ok-staged.ensures.staged.staff in
    let same = ap (λ ts. length (filter_map (λ t. the_interface t.work) ts)) c.in-Err.ensures.back in
    omega (arith, same, many.0, few.0, c.in_ok-staged.ensures.staged.staff.of_lines.long, c.requires.there.0.0)

pub tasks_back-requires-clause-slots : goal.tasks_back-requires-clause-slots
tasks_back-requires-clause-slots g c =
    let few = aims_few c.args.of.now.site.now _ _ _ c.in_ok-staged.ensures.staged.sound refl refl refl in
    let many = undone_many (outfit g) c.args.of.now.site.now c.args.of.now.shared.now.digest.now c.in_ok-staged.ensures.staged.staff in
    let same = ap (λ ts. length (filter_map (λ t. the_slot t.work) ts)) c.in-Err.ensures.back in
    omega (arith, same, many.1, few.1, c.in_ok-staged.ensures.staged.staff.of_slots.long, c.requires.there.1.0)

pub tasks_back-requires-clause-desks : goal.tasks_back-requires-clause-desks
tasks_back-requires-clause-desks g c =
    let few = aims_few c.args.of.now.site.now _ _ _ c.in_ok-staged.ensures.staged.sound refl refl refl in
    let many = undone_many (outfit g) c.args.of.now.site.now c.args.of.now.shared.now.digest.now c.in_ok-staged.ensures.staged.staff in
    let same = ap (λ ts. length (filter_map (λ t. the_desk t.work) ts)) c.in-Err.ensures.back in
    omega (arith, same, many.2, few.2, c.in_ok-staged.ensures.staged.staff.of_desks.long, c.requires.there.2.0)

pub returns-in-Err-clause-idle : goal.returns-in-Err-clause-idle
returns-in-Err-clause-idle g c =
    let back = c.tasks_back.ensures in
    idled (outfit g) c.args.of.now.site.now c.args.of.now.shared.now.digest.now c.in_ok-staged.ensures.staged.staff c.tasks_back.new.lines c.tasks_back.new.slots
    c.tasks_back.new.desks _ c.tasks_back.new.vault _ _
    (subst (λ ts. CameHome (λ t. the_interface t.work) (λ l. l.device) ts c.stage.new.lines c.tasks_back.new.lines) c.in-Err.ensures.back back.lines)
    (subst (λ ts. CameHome (λ t. the_slot t.work) (λ l. l.device) ts c.stage.new.slots c.tasks_back.new.slots) c.in-Err.ensures.back back.slots)
    (subst (λ ts. CameHome (λ t. the_desk t.work) (λ d. d) ts c.stage.new.desks c.tasks_back.new.desks) c.in-Err.ensures.back back.desks)
    (back.vault ∙ ap (λ ts. last_of c.stage.new.vault (map (λ v. v) (filter_map (λ t. the_scribe t.work) ts))) c.in-Err.ensures.back)
    refl refl refl c.in-Err.ensures.steady

pub returns-in-Err-clause-back : goal.returns-in-Err-clause-back
returns-in-Err-clause-back g c =
    let back = c.tasks_back.ensures in
    idled_back (outfit g) c.args.of.now.site.now c.args.of.now.shared.now.digest.now c.in_ok-staged.ensures.staged.staff c.tasks_back.new.lines
    c.tasks_back.new.slots c.tasks_back.new.desks _ c.tasks_back.new.vault
    (subst (λ ts. CameHome (λ t. the_interface t.work) (λ l. l.device) ts c.stage.new.lines c.tasks_back.new.lines) c.in-Err.ensures.back back.lines)
    (subst (λ ts. CameHome (λ t. the_slot t.work) (λ l. l.device) ts c.stage.new.slots c.tasks_back.new.slots) c.in-Err.ensures.back back.slots)
    (subst (λ ts. CameHome (λ t. the_desk t.work) (λ d. d) ts c.stage.new.desks c.tasks_back.new.desks) c.in-Err.ensures.back back.desks)
    (back.vault ∙ ap (λ ts. last_of c.stage.new.vault (map (λ v. v) (filter_map (λ t. the_scribe t.work) ts))) c.in-Err.ensures.back)
    c.requires.there.0 c.requires.there.1 c.requires.there.2

-- ---- it could not be said that they begin

pub returns-in_err-staged-clause-idle : goal.returns-in_err-staged-clause-idle
returns-in_err-staged-clause-idle g c = on_err c.from_residual.result _ (c.in_err-staged.ensures.idle (g.W.Crew.seen c.args.crew.now))
