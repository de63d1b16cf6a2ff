use Rattle.std.proofs.Common.{rules, ◌≡◌, Ok, refl, subst, arith}
use Rattle.cts_api.specs.declared.looked.Look.TheVariants.{Text}
use Rattle.cts_snap.specs.Reading.{IsShown}
use Rattle.cts_snap.proofs.Texts.{text_read}
use Rattle.cts_snap_desk.proofs.course.course_of.Goals as goal

pub returns-else-front-floor : goal.returns-else-front-floor
returns-else-front-floor c = λ h body before now s.
    let k = c.in-Ok-default-Text in
    let whole : c.args.seen ≡ Ok (k.front, Text k.text) = search rules in
    let shown = subst (IsShown h body) whole s in
    let f = c.if-front-floor.false in
    (omega (arith, f), shown.0, text_read h h.basis h.entries body k.text refl refl shown.1)
