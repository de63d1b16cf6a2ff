use Rattle.std.proofs.Common.{◌∙◌, sym, ap}
use Rattle.cts_plan.specs.Steps.{are_packets_last}
use Rattle.cts_plan.proofs.Chained.{sound_uses}
use Rattle.cts_plan.proofs.completing.router_chain.Goals as goal

pub returns-clause-sound : goal.returns-clause-sound
returns-clause-sound c =
    sound_uses c.site.inside.definitions c.in_ok-targets.targets c.args.line c.args.chain c.chain_of.result (ap are_packets_last (sym c.chain.view_is) ∙ c.chain.invariant.packets_last) c.chain_of.ensures.settled c.chain_of.ensures.value
