use Rattle.std.proofs.Common.{◌∙◌, sym, ap, subst, List, arith}
use Rattle.std.proofs.lemmas.Grind.{common_steps}
use Rattle.std.specs.Prelude.{IsTrue}
use Rattle.cts_def.specs.Protocols.{UseData, is_chain}
use Rattle.cts_plan.specs.Steps.{are_packets_last}
use Rattle.cts_plan.proofs.Chained.{sound_chain, not_too_long}
use Rattle.cts_plan.proofs.completing.interface_of.Goals as goal

pub invariant_of-result : goal.invariant_of-result
invariant_of-result c =
    let sound = c.draft.invariant in
    let made = c.in_ok-chain.ensures in
    record {
      port = sound.port;
      host = sound.host;
      chain = subst (λ (us : List UseData). IsTrue (is_chain us)) (sym made.value)
          (sound_chain c.args.definitions.now _ c.draft.inside.chain (not_too_long c.args.definitions.now _ _ c.draft.inside.chain made.settled)
          (ap are_packets_last (sym c.chain.view_is) ∙ c.chain.invariant.packets_last));
      delay = sound.delay;
    }

pub returns-clause-settled : goal.returns-clause-settled
returns-clause-settled c = grind (arith, common_steps)

pub returns-clause-value : goal.returns-clause-value
returns-clause-value c = grind (arith, common_steps)
