use Rattle.std.proofs.Common.{◌≡◌, Some, ap, length, map, arith}
use Rattle.cts_chain.specs.Shapes.{writers}
use Rattle.cts_connection.specs.Connections.{entries_ahead}
use Rattle.cts_connection.specs.Routings.{site_routing}
use Rattle.cts_connection.specs.Writings.{spell_by}
use Rattle.cts_entry.specs.Histories.{is_stopped}
use Rattle.cts_trace.specs.Routing.{queue}
use Rattle.cts_table.specs.contracts.hall.HallStands.TheImpl.{ghosts as hall}
use Rattle.cts_turn.specs.Passes.{basis_of, view}
use Rattle.cts_line.proofs.Following.{at_ok, caught_some, caught_up, look_kept, look_long, look_stop, looked_not, spellings_few}
use Rattle.cts_line.proofs.Telling.{retells_same}
use Rattle.cts_line.proofs.catching.catch_up.Goals as goal

pub pass-requires : goal.pass-requires
pass-requires g c =
    let v = view c.look-pass.result.0 in
    let k = c.args.connection.now in
    let site = (basis_of hall.basis c.args.turn.now).site in
    let long = look_long (basis_of hall.basis c.args.turn.now) c.args.by (view c.args.pass) v c.look-pass.ensures.hold in
    let few = spellings_few site (writers k.chain) c.args.by k.cursor.place v.seen in
    let there = at_ok (λ s. s.place ≡ length v.seen) c.in-Ok.is c.look-pass.ensures.place in
    let saw = at_ok (λ s. s.spellings.items ≡ map (spell_by site (writers k.chain)) (queue (site_routing site) c.args.by (entries_ahead k v.seen))) c.in-Ok.is c.look-pass.ensures.spellings in
    let many = ap length saw in
    let lent = ap length c.deref.ensures.value in
    omega (arith, long, few, many, lent, c.requires.place, c.put_all-unsent.ensures.few, c.is_kept.ensures, there)

pub returns-in-Ok-clause-keeps : goal.returns-in-Ok-clause-keeps
returns-in-Ok-clause-keeps g c = look_kept _ c.args.by (view c.args.pass) (view c.look-pass.result.0) c.look-pass.ensures.hold

pub returns-in-Ok-clause-talks : goal.returns-in-Ok-clause-talks
returns-in-Ok-clause-talks g c =
    let v = view c.look-pass.result.0 in
    let k = c.args.connection.now in
    let base = basis_of hall.basis c.args.turn.now in
    let site = base.site in
    let there = at_ok (λ s. s.place ≡ length v.seen) c.in-Ok.is c.look-pass.ensures.place in
    let saw = at_ok (λ s. s.spellings.items ≡ map (spell_by site (writers k.chain)) (queue (site_routing site) c.args.by (entries_ahead k v.seen))) c.in-Ok.is c.look-pass.ensures.spellings in
    let stands = at_ok (λ s. s.stop ≡ is_stopped v.seen) c.in-Ok.is c.look-pass.ensures.stop in
    λ n told.
    let talks = caught_up base c.args.by (view c.args.pass) v c.look-pass.ensures.hold k c.in-Ok.sight.spellings.items c.deref.result.now c.in-Ok.sight.place c.put_all-unsent.result.0 c.put_all-unsent.result.1 c.in-Ok.sight.stop _ _ c.requires.suits
    saw there stands c.deref.ensures.value (λ t. c.put_all-unsent.ensures.talks _ _ c.args.by c.in-Ok.sight.place k.cursor.refused k.chain.stages v.found v.seen n t) told in
    rw (c.stopped.ensures, c.pass.ensures) talks

pub returns-in-Err-clause-keeps : goal.returns-in-Err-clause-keeps
returns-in-Err-clause-keeps g c = look_kept _ c.args.by (view c.args.pass) (view c.look-pass.result.0) c.look-pass.ensures.hold

pub returns-in-Err-clause-talks : goal.returns-in-Err-clause-talks
returns-in-Err-clause-talks g c = λ n told. looked_not _ c.args.by (view c.args.pass) (view c.look-pass.result.0) c.look-pass.ensures.hold c.args.connection.now _ told

pub returns-in-Ok-clause-stop : goal.returns-in-Ok-clause-stop
returns-in-Ok-clause-stop g c = look_stop _ c.args.by (view c.args.pass) (view c.look-pass.result.0) c.look-pass.ensures.hold

pub returns-in-Err-clause-stop : goal.returns-in-Err-clause-stop
returns-in-Err-clause-stop g c = look_stop _ c.args.by (view c.args.pass) (view c.look-pass.result.0) c.look-pass.ensures.hold

pub returns-in-Ok-clause-retells : goal.returns-in-Ok-clause-retells
returns-in-Ok-clause-retells g c = c.put_all-unsent.ensures.retells

pub returns-in-Err-clause-retells : goal.returns-in-Err-clause-retells
returns-in-Err-clause-retells g c = retells_same _

pub returns-in-Ok-clause-some : goal.returns-in-Ok-clause-some
returns-in-Ok-clause-some g c =
    let v = view c.look-pass.result.0 in
    let k = c.args.connection.now in
    let base = basis_of hall.basis c.args.turn.now in
    let site = base.site in
    let there = at_ok (λ s. s.place ≡ length v.seen) c.in-Ok.is c.look-pass.ensures.place in
    let saw = at_ok (λ s. s.spellings.items ≡ map (spell_by site (writers k.chain)) (queue (site_routing site) c.args.by (entries_ahead k v.seen))) c.in-Ok.is c.look-pass.ensures.spellings in
    let stands = at_ok (λ s. s.stop ≡ is_stopped v.seen) c.in-Ok.is c.look-pass.ensures.stop in
    λ t.
    let talks = caught_some base c.args.by (view c.args.pass) v c.look-pass.ensures.hold k c.in-Ok.sight.spellings.items c.deref.result.now c.in-Ok.sight.place c.put_all-unsent.result.0 c.put_all-unsent.result.1 c.in-Ok.sight.stop c.requires.suits
    saw there stands c.deref.ensures.value (λ u. c.put_all-unsent.ensures.some _ _ c.args.by c.in-Ok.sight.place k.cursor.refused k.chain.stages v.found v.seen u) t in
    rw (c.stopped.ensures, c.pass.ensures) talks

pub returns-in-Err-clause-some : goal.returns-in-Err-clause-some
returns-in-Err-clause-some g c = λ t. (
  t.0,
  looked_not _ c.args.by (view c.args.pass) (view c.look-pass.result.0) c.look-pass.ensures.hold c.args.connection.now (Some t.0) t.1,
)
