use Rattle.std.proofs.Common.{arith, ap}
use Rattle.cts_log_parts.specs.Growths.{CutsData}
use Rattle.cts_log_parts.proofs.Cutting.{fall_later}
use Rattle.cts_log_parts.proofs.cuts.Cuts.go_on.Goals as goal

pub invariant_of-self : goal.invariant_of-self
invariant_of-self c =
    let end = ap (λ (d : CutsData). d.end) c.self.view_is in
    fall_later 0 c.self.inside.places.items c.self.inside.end c.args.end (let le = c.requires in omega (arith, end, le)) c.self.invariant
