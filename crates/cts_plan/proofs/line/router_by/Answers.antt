use Rattle.std.proofs.Common.{sym, subst, nat_eq}
use Rattle.std.specs.List.{IsDistinct}
use Rattle.cts_plan.proofs.Kept.{no_two}
use Rattle.cts_plan.proofs.line.router_by.Goals as goal

pub invariant_of-result : goal.invariant_of-result
invariant_of-result c = record { port = c.port_or_one.ensures.some; routes = subst (IsDistinct nat_eq) (sym c.new.ensures) (no_two nat_eq) }
