use Rattle.std.proofs.Common.{arith, subst, sym}
use Rattle.cts_log_parts.specs.Growths.{DoNotFall}
use Rattle.cts_log_parts.proofs.Cutting.{fall_more}
use Rattle.cts_log_parts.proofs.cuts.Cuts.cut.Goals as goal

pub invariant_of-self-2 : goal.invariant_of-self-2
invariant_of-self-2 c =
    subst (λ l. DoNotFall 0 l c.self.inside.end) (sym c.in_ok-push.ensures.items)
    (fall_more 0 c.self.inside.places.items c.self.inside.end c.self.inside.end (omega arith) c.self.invariant)
