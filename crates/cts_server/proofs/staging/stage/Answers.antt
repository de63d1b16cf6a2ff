use Rattle.std.proofs.Common.{rules, arith, false, ◌≡◌, [], drop, length, sym, subst, refl}
use Rattle.cts_def.specs.Makers.{first_desk, first_slot}
use Rattle.cts_server.specs.Aims.{slot_aims}
use Rattle.cts_server.specs.DeskLaws.{held_lasts}
use Rattle.cts_server.specs.Desks.{ReadsInHolds}
use Rattle.cts_server.specs.Making.{AreFit, FitsDesk, FitsLine}
use Rattle.cts_server.proofs.Fits.{desks_fit, lines_fit, slots_fit}
use Rattle.cts_server.proofs.Site.{Outfit, aims_few, idled, idled_back, staff_of, undone_many}
use Rattle.cts_server.proofs.staging.stage.Given.{Over}
use Rattle.cts_server.proofs.staging.stage.Goals as goal

abbrev outfit : Over → Outfit
outfit g = record {
  D = g.row.D.Denot;
  Q = g.row.Q.Denot;
  V = g.row.V.Denot;
  C = g.row.C.Denot;
  line_seen = g.D.Link.seen;
  door_seen = g.Q.Link.seen;
  vault_seen = g.V.Vault.seen;
  shape = g.C.Chained.shape;
  rule = ReadsInHolds;
  keeps = held_lasts;
}

-- ---- the devices go with their workers

pub tasks_of-requires-clause-there : goal.tasks_of-requires-clause-there
tasks_of-requires-clause-there g c = (c.requires.there.0, c.requires.there.1, c.requires.there.2)

pub tasks_of-requires-clause-vault : goal.tasks_of-requires-clause-vault
tasks_of-requires-clause-vault g c = c.requires.there.3

pub tasks_of-requires-clause-many : goal.tasks_of-requires-clause-many
tasks_of-requires-clause-many g c =
    let few = aims_few c.args.site.now c.args.begun.aims.lines.items c.args.begun.aims.slots.items c.args.begun.aims.desks.items c.requires.begun.sound
    c.requires.begun.lines c.requires.begun.slots c.requires.begun.desks in
    (omega (arith, few.0), omega (arith, few.1), omega (arith, few.2))

pub tasks_of-requires-clause-lines : goal.tasks_of-requires-clause-lines
tasks_of-requires-clause-lines g c =
    subst (λ l. AreFit (λ n x. FitsLine c.args.site.now n (g.C.Chained.shape x)) 0 l c.args.begun.chains.items) (sym c.requires.begun.lines)
    (lines_fit g.C.Chained.shape c.args.site.now c.args.begun.chains.items c.requires.begun.sound c.requires.chains)

pub tasks_of-requires-clause-slots : goal.tasks_of-requires-clause-slots
tasks_of-requires-clause-slots g c =
    subst (λ l. AreFit (λ n x. FitsLine c.args.site.now n (g.C.Chained.shape x)) first_slot l
    (drop (length c.args.begun.aims.lines.items) c.args.begun.chains.items)) (sym c.requires.begun.slots)
    (subst (λ l. AreFit (λ n x. FitsLine c.args.site.now n (g.C.Chained.shape x)) first_slot (slot_aims c.args.site.now)
    (drop (length l) c.args.begun.chains.items)) (sym c.requires.begun.lines)
    (slots_fit g.C.Chained.shape c.args.site.now c.args.begun.chains.items c.requires.begun.sound c.requires.chains))

pub tasks_of-requires-clause-desks : goal.tasks_of-requires-clause-desks
tasks_of-requires-clause-desks g c =
    subst (λ l. AreFit (FitsDesk c.args.site.now) first_desk l c.args.desks.now) (sym c.requires.begun.desks)
    (desks_fit c.args.site.now c.args.desks.now c.requires.begun.sound c.requires.there.2.0)

pub tasks_of-requires-clause-room : goal.tasks_of-requires-clause-room
tasks_of-requires-clause-room g c =
    let few = aims_few c.args.site.now c.args.begun.aims.lines.items c.args.begun.aims.slots.items c.args.begun.aims.desks.items c.requires.begun.sound
    c.requires.begun.lines c.requires.begun.slots c.requires.begun.desks in
    omega (arith, few.0, few.1, few.2, c.in-Ok.ensures.capacity)

-- ---- it could not be said that they begin

pub returns-then-not-puts_ready-clause-ready : goal.returns-then-not-puts_ready-clause-ready
returns-then-not-puts_ready-clause-ready g c = let h : c.puts_ready.result ≡ false = search rules in c.puts_ready.ensures.fault h

pub tasks_back-requires-clause-lines : goal.tasks_back-requires-clause-lines
tasks_back-requires-clause-lines g c =
    let few = aims_few c.args.site.now c.args.begun.aims.lines.items c.args.begun.aims.slots.items c.args.begun.aims.desks.items c.requires.begun.sound
    c.requires.begun.lines c.requires.begun.slots c.requires.begun.desks in
    let many = undone_many (outfit g) c.args.site.now [] c.tasks_of.ensures.staff in
    omega (arith, many.0, few.0, c.tasks_of.ensures.staff.of_lines.long, c.requires.there.0.0)

pub tasks_back-requires-clause-slots : goal.tasks_back-requires-clause-slots
tasks_back-requires-clause-slots g c =
    let few = aims_few c.args.site.now c.args.begun.aims.lines.items c.args.begun.aims.slots.items c.args.begun.aims.desks.items c.requires.begun.sound
    c.requires.begun.lines c.requires.begun.slots c.requires.begun.desks in
    let many = undone_many (outfit g) c.args.site.now [] c.tasks_of.ensures.staff in
    omega (arith, many.1, few.1, c.tasks_of.ensures.staff.of_slots.long, c.requires.there.1.0)

pub tasks_back-requires-clause-desks : goal.tasks_back-requires-clause-desks
tasks_back-requires-clause-desks g c =
    let few = aims_few c.args.site.now c.args.begun.aims.lines.items c.args.begun.aims.slots.items c.args.begun.aims.desks.items c.requires.begun.sound
    c.requires.begun.lines c.requires.begun.slots c.requires.begun.desks in
    let many = undone_many (outfit g) c.args.site.now [] c.tasks_of.ensures.staff in
    omega (arith, many.2, few.2, c.tasks_of.ensures.staff.of_desks.long, c.requires.there.2.0)

pub returns-then-not-puts_ready-clause-idle : goal.returns-then-not-puts_ready-clause-idle
returns-then-not-puts_ready-clause-idle g c =
    let back = c.tasks_back.ensures in
    λ crew. idled (outfit g) c.args.site.now [] c.tasks_of.ensures.staff c.tasks_back.new.lines c.tasks_back.new.slots
    c.tasks_back.new.desks c.tasks_of.new.vault c.tasks_back.new.vault _ _
    back.lines back.slots back.desks back.vault c.requires.begun.lines c.requires.begun.slots c.requires.begun.desks refl

pub returns-then-not-puts_ready-clause-back : goal.returns-then-not-puts_ready-clause-back
returns-then-not-puts_ready-clause-back g c =
    let back = c.tasks_back.ensures in
    idled_back (outfit g) c.args.site.now [] c.tasks_of.ensures.staff c.tasks_back.new.lines c.tasks_back.new.slots
    c.tasks_back.new.desks c.tasks_of.new.vault c.tasks_back.new.vault
    back.lines back.slots back.desks back.vault c.requires.there.0 c.requires.there.1 c.requires.there.2

-- ---- they may begin

pub returns-clause-staged : goal.returns-clause-staged
returns-clause-staged g c = record {
  pass = c.requires.begun.pass;
  makers = c.requires.begun.makers;
  seen = c.requires.begun.seen;
  stands = c.requires.begun.stands;
  sound = c.requires.begun.sound;
  staff = staff_of (outfit g) c.args.site.now c.requires.begun.lines c.requires.begun.slots c.requires.begun.desks c.tasks_of.ensures.staff;
  room = c.requires.begun.room;
}
