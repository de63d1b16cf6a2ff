use Rattle.std.proofs.Common.{List, arith, ◌≡◌, ◌++◌, length, map, sym, ◌∙◌, ap, subst, length-append}
use Rattle.std.specs.Arc.{arc_value}
use Rattle.cts_chain.specs.Builds.{AreFresh}
use Rattle.cts_connection.specs.LineChains.{line_chains}
use Rattle.cts_def.specs.Sites.{IsSoundSite}
use Rattle.cts_server.specs.Aims.{desk_aims, line_aims, slot_aims}
use Rattle.cts_server.specs.Owed.{server_basis}
use Rattle.cts_server.specs.Places.{AreThere}
use Rattle.cts_server.proofs.Site.{doors_there, err_as, idled_whole, ok_as, served_whole, written}
use Rattle.cts_server.proofs.serving.serve_site.Goals as goal

pub run_site-requires-clause-begun : goal.run_site-requires-clause-begun
run_site-requires-clause-begun g c κs within =
    let made = c.in_ok-begun.ensures in
    record {
      pass = made.pass.0;
      makers = made.pass.1;
      seen = made.pass.2;
      stands = made.ground.0 ∙ ap server_basis (sym c.deref.ensures);
      sound = subst IsSoundSite (sym c.deref.ensures) made.ground.1;
      lines = made.aims.0 ∙ ap line_aims (sym c.deref.ensures);
      slots = made.aims.1 ∙ ap slot_aims (sym c.deref.ensures);
      desks = made.aims.2 ∙ ap desk_aims (sym c.deref.ensures);
      room = made.room;
    }

pub run_site-requires-clause-chains : goal.run_site-requires-clause-chains
run_site-requires-clause-chains g c κs within =
    subst (λ (xs : List g.row.C.Denot). AreFresh (line_chains c.deref.result.now) (map g.C.Chained.shape xs)) (sym c.in_ok-begun.ensures.chains)
    (subst (λ s. AreFresh (line_chains s) (map g.C.Chained.shape c.args.chains.items)) (sym c.deref.ensures) c.requires.chains)

pub run_site-requires-clause-there : goal.run_site-requires-clause-there
run_site-requires-clause-there g c κs within =
    let doors = doors_there c.args.doors.now.items c.split_at_mut-slots.result.0.now c.split_at_mut-slots.result.1.now
    (sym c.as_mut_slice.ensures.value ∙ c.split_at_mut-slots.ensures.value) (omega (arith, c.split_at_mut-slots.ensures.front_len)) c.requires.doors in
    (subst (AreThere 16) (sym c.as_mut_slice-2.ensures.value) c.requires.lines, doors.0, doors.1, c.requires.vault)

pub returns-clause-served : goal.returns-clause-served
returns-clause-served g c =
    let all : length (c.run_site.new.slots ++ c.run_site.new.desks) ≡ c.args.doors.now.len = omega (
      arith,
      length-append c.run_site.new.slots c.run_site.new.desks,
      c.run_site.ensures.back.1.0,
      c.run_site.ensures.back.2.0,
      c.as_mut_slice.ensures.len,
      ap length c.as_mut_slice.ensures.value,
      c.requires.doors.0,
    ) in
    let lines : length c.run_site.new.lines ≡ c.args.lines.now.len = omega
    (arith, c.run_site.ensures.back.0.0, c.as_mut_slice-2.ensures.len, ap length c.as_mut_slice-2.ensures.value, c.requires.lines.0) in
    ok_as c.run_site.result _ _
    (λ w s. served_whole g.D.Link.seen g.Q.Link.seen g.V.Vault.seen c.deref.result.now
    (arc_value c.args.site) c.deref.ensures _ _ _ _ c.args.doors.now.items _ c.split_at_mut-slots.result.0.now c.run_site.new.slots
    c.split_at_mut-slots.result.1.now c.run_site.new.desks
    c.as_mut_slice-2.ensures.value (sym (written c.args.lines.now.len c.args.lines.now.items c.run_site.new.lines lines))
    (sym c.as_mut_slice.ensures.value ∙ c.split_at_mut-slots.ensures.value) (omega (arith, c.split_at_mut-slots.ensures.front_len))
    (written c.args.doors.now.len c.args.doors.now.items (c.run_site.new.slots ++ c.run_site.new.desks) all) c.run_site.ensures.back.1.0 _ _ _ _ _ w s)
    c.run_site.ensures.served

pub returns-clause-idle : goal.returns-clause-idle
returns-clause-idle g c =
    let all : length (c.run_site.new.slots ++ c.run_site.new.desks) ≡ c.args.doors.now.len = omega (
      arith,
      length-append c.run_site.new.slots c.run_site.new.desks,
      c.run_site.ensures.back.1.0,
      c.run_site.ensures.back.2.0,
      c.as_mut_slice.ensures.len,
      ap length c.as_mut_slice.ensures.value,
      c.requires.doors.0,
    ) in
    let lines : length c.run_site.new.lines ≡ c.args.lines.now.len = omega
    (arith, c.run_site.ensures.back.0.0, c.as_mut_slice-2.ensures.len, ap length c.as_mut_slice-2.ensures.value, c.requires.lines.0) in
    err_as c.run_site.result _ _
    (λ s. idled_whole g.D.Link.seen g.Q.Link.seen g.V.Vault.seen c.deref.result.now
    (arc_value c.args.site) c.deref.ensures _ _ _ _ c.args.doors.now.items _ c.split_at_mut-slots.result.0.now c.run_site.new.slots
    c.split_at_mut-slots.result.1.now c.run_site.new.desks
    c.as_mut_slice-2.ensures.value (sym (written c.args.lines.now.len c.args.lines.now.items c.run_site.new.lines lines))
    (sym c.as_mut_slice.ensures.value ∙ c.split_at_mut-slots.ensures.value) (omega (arith, c.split_at_mut-slots.ensures.front_len))
    (written c.args.doors.now.len c.args.doors.now.items (c.run_site.new.slots ++ c.run_site.new.desks) all) c.run_site.ensures.back.1.0 _ _ _ _ s)
    c.run_site.ensures.idle
