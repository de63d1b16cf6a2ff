use Rattle.std.proofs.Common.{◌≡◌, arith, length, refl, take}
use Rattle.std.proofs.lemmas.Bool.{both_ways}
use Rattle.cts_scribe.proofs.Sighting.{drained_at, drained_others}
use Rattle.cts_scribe.proofs.board.see.Goals as goal

pub returns-then-not-have_ended-clause-sees : goal.returns-then-not-have_ended-clause-sees
returns-then-not-have_ended-clause-sees c =
    let p = c.args.progress.now in
    let es = c.args.hall.now.entries in
    let iff = c.have_ended.ensures (take p.place es) c.requires.follows.ended in (
      refl,
      refl,
      (λ d. both_ways c.have_ended.result (let h = c.if-not-have_ended.true in grind arith)
          (iff.1 (drained_others c.args.site.now c.args.by p es d))),
      c.requires.count,
    )

pub returns-clause-sees : goal.returns-clause-sees
returns-clause-sees c =
    let p = c.args.progress.now in
    let es = c.args.hall.now.entries in
    let iff = c.have_ended.ensures (take p.place es) c.requires.follows.ended in
    let last : p.place ≡ length es =
    (let a = c.if-progress-count.false in let b = c.count.ensures in let w = c.requires.follows.within in omega (arith, a, b, w)) in
    (c.say_ended.ensures.entries, refl, drained_at c.args.site.now c.args.by p es last (iff.0 (let h = c.if-not-have_ended.false in grind arith)))
