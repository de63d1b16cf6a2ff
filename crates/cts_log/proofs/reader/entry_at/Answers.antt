use Rattle.std.proofs.Common.{rules, arith, ◌≡◌, ◌≤◌, ◌-◌, true, Bool, length, subst}
use Rattle.std.proofs.lemmas.Grind.{common_steps}
use Rattle.cts_framing.specs.Layouts.{are_flags}
use Rattle.cts_encode.specs.HeadSpans.{IsHead}
use Rattle.cts_log.proofs.Lent.{lends}
use Rattle.cts_log.proofs.reader.entry_at.Goals as goal

pub returns : goal.returns
returns c =
    let h = c.in_ok-head.head in
    let is = subst (λ (b : Bool). IsHead b c.args.left.now h) c.layout_of.ensures.flags c.in_ok-head.ensures in
    let right : are_flags h.flags ≡ true = search rules in
    let fits : h.count ≤ length c.args.left.now - h.begin = search rules in
    lends c.args.flagged c.args.left.now h is right fits
