use Rattle.std.proofs.Common.{◌≡◌, Some, arith, refl, rules, subst, sym, true, ◌∙◌}
use Rattle.cts_table.specs.contracts.hall.HallStands.TheImpl.{ghosts as hall}
use Rattle.cts_turn.specs.Passes.{basis_of, view}
use Rattle.cts_connection.specs.LinePlaces.{is_line}
use Rattle.cts_connection.specs.Routings.{site_routing}
use Rattle.cts_def.specs.Sites.{SiteData}
use Rattle.cts_line.specs.Rows.{ToldInRows}
use Rattle.cts_line.proofs.Rows.{settles_rows}
use Rattle.cts_line.specs.Talks.{Suits, room_of}
use Rattle.cts_outside.specs.Lines.{no_connections}
use Rattle.cts_line.specs.Telling.{SomeLine, since}
use Rattle.cts_line.proofs.Dialing.{count_untouched, rose_from, rose_untouched, undialed_settled, untouched}
use Rattle.cts_line.proofs.Telling.{retells_same}
use Rattle.cts_line.proofs.Heeding.{heeds_kept}
use Rattle.cts_line.proofs.Finishing.{dials_still}
use Rattle.cts_line.specs.declared.ending.LineWhy.TheVariants.{NoMemory}
use Rattle.cts_line.proofs.worker.equip.Goals as goal

pub returns-in_default-clause-shut : goal.returns-in_default-clause-shut
returns-in_default-clause-shut g c = (untouched c.args.hand.now.by (view c.args.pass).seen c.requires.new).shut

pub returns-in_default-clause-count : goal.returns-in_default-clause-count
returns-in_default-clause-count g c = count_untouched c.args.hand.now.by (view c.args.pass).seen c.args.connections.now (untouched c.args.hand.now.by (view c.args.pass).seen c.requires.new).opened c.requires.none

pub returns-in_default-clause-faults : goal.returns-in_default-clause-faults
returns-in_default-clause-faults g c = rose_untouched c.args.hand.now.by (view c.args.pass).seen _ _ (untouched c.args.hand.now.by (view c.args.pass).seen c.requires.new).faults refl

pub returns-in_default-clause-told : goal.returns-in_default-clause-told
returns-in_default-clause-told g c =
    let base = basis_of hall.basis c.args.hand.now.turn.now in
    let v = view c.args.pass in
    λ k has u. settles_rows (site_routing c.args.hand.now.site.now) (room_of base) c.args.hand.now.by v.found v.seen _ (undialed_settled (site_routing c.args.hand.now.site.now) (room_of base) c.args.hand.now.by v.found v.seen _ (untouched c.args.hand.now.by v.seen c.requires.new).quiet u)

pub connect-requires-clause-ready : goal.connect-requires-clause-ready
connect-requires-clause-ready g c =
    let site = c.args.hand.now.site.now in
    let by = c.args.hand.now.by in
    let fresh = untouched by (view c.args.pass).seen c.requires.new in record {
      makers = c.requires.by;
      site_is = c.requires.site;
      line = subst (λ (s : SiteData). is_line s by ≡ true) c.requires.site c.requires.line;
      suits = subst (λ (s : SiteData). Suits s by c.of-connection.result.chain) c.requires.site (search rules);
      shut = fresh.shut;
      count = count_untouched by (view c.args.pass).seen c.args.connections.now fresh.opened c.requires.none;
    }

pub returns-clause-faults : goal.returns-clause-faults
returns-clause-faults g c = rose_from c.args.hand.now.by (view c.args.pass).seen (view c.connect.result.0).seen _ _ (untouched c.args.hand.now.by (view c.args.pass).seen c.requires.new).faults c.connect.ensures.faults

pub returns-clause-told : goal.returns-clause-told
returns-clause-told g c =
    let base = basis_of hall.basis c.args.hand.now.turn.now in
    let v = view c.args.pass in
    let w = view c.connect.result.0 in
    λ k has u.
    subst (λ site. ToldInRows (site_routing site) (room_of base) c.args.hand.now.by w.found w.seen (since k (g.D.Link.seen c.connect.new.dialer).told)) (sym c.requires.site)
    (c.connect.ensures.told k has (undialed_settled (site_routing base.site) (room_of base) c.args.hand.now.by v.found v.seen _ (untouched c.args.hand.now.by v.seen c.requires.new).quiet u))

pub returns-in_default-clause-stop : goal.returns-in_default-clause-stop
returns-in_default-clause-stop g c = λ off. (untouched c.args.hand.now.by (view c.args.pass).seen c.requires.new).stop

pub returns-clause-stop : goal.returns-clause-stop
returns-clause-stop g c = λ off. c.connect.ensures.minds.stop off ∙ (untouched c.args.hand.now.by (view c.args.pass).seen c.requires.new).stop

pub returns-in_default-clause-retells : goal.returns-in_default-clause-retells
returns-in_default-clause-retells g c = retells_same _

pub returns-in_default-clause-once : goal.returns-in_default-clause-once
returns-in_default-clause-once g c = let n = (untouched c.args.hand.now.by (view c.args.pass).seen c.requires.new).opened in λ off. omega (arith, n)

pub returns-clause-once : goal.returns-clause-once
returns-clause-once g c =
    let n = (untouched c.args.hand.now.by (view c.args.pass).seen c.requires.new).opened in
    λ off. (let f = c.connect.ensures.once off in omega (arith, n, f))

pub returns-in_default-clause-heeds : goal.returns-in_default-clause-heeds
returns-in_default-clause-heeds g c = heeds_kept c.args.hand.now.by (view c.args.pass).seen (view c.args.pass).seen _ (λ test. refl)

pub returns-in_default-clause-some : goal.returns-in_default-clause-some
returns-in_default-clause-some g c =
    let base = basis_of hall.basis c.args.hand.now.turn.now in
    let v = view c.args.pass in (
      no_connections,
      settles_rows (site_routing c.args.hand.now.site.now) (room_of base) c.args.hand.now.by v.found v.seen (Some no_connections)
          (undialed_settled (site_routing c.args.hand.now.site.now) (room_of base) c.args.hand.now.by v.found v.seen (Some no_connections)
          (untouched c.args.hand.now.by v.seen c.requires.new).quiet (refl, refl)),
    )

pub returns-clause-some : goal.returns-clause-some
returns-clause-some g c =
    let base = basis_of hall.basis c.args.hand.now.turn.now in
    let v = view c.args.pass in
    let w = view c.connect.result.0 in
    subst (λ site. SomeLine (λ told. ToldInRows (site_routing site) (room_of base) c.args.hand.now.by w.found w.seen told)) (sym c.requires.site)
    (c.connect.ensures.some (
      no_connections,
      undialed_settled (site_routing base.site) (room_of base) c.args.hand.now.by v.found v.seen (Some no_connections)
          (untouched c.args.hand.now.by v.seen c.requires.new).quiet (refl, refl),
    ))

pub returns-clause-shut : goal.returns-clause-shut
returns-clause-shut g c = c.connect.ensures.between.shut

pub returns-clause-count : goal.returns-clause-count
returns-clause-count g c = c.connect.ensures.between.count

pub returns-clause-heeds : goal.returns-clause-heeds
returns-clause-heeds g c = c.connect.ensures.minds.heeds

pub returns-in_default-clause-dials : goal.returns-in_default-clause-dials
returns-in_default-clause-dials g c = dials_still c.args.hand.now.site.now c.args.hand.now.by (Some NoMemory) (g.D.Link.seen c.args.dialer.now) refl

pub returns-clause-dials : goal.returns-clause-dials
returns-clause-dials g c = c.connect.ensures.dials
