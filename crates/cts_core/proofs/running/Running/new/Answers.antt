use Rattle.std.proofs.Common.{◌≡◌, length, map, sym, ◌∙◌, subst}
use Rattle.cts_connection.specs.LinePlaces.{line_count}
use Rattle.cts_connection.specs.LineChains.{line_chains}
use Rattle.cts_core.specs.Worlds.{IsSoundHeld, held_with}
use Rattle.cts_core.proofs.Holding.{fresh_idle, sound_first}
use Rattle.cts_connection.proofs.Supplying.{chains_count}
use Rattle.cts_core.proofs.WorldSteps.{fresh_count}
use Rattle.cts_core.proofs.running.Running.new.Goals as goal

pub all_shut-requires-clause-idle : goal.all_shut-requires-clause-idle
all_shut-requires-clause-idle g c = fresh_idle _ _ c.requires.fresh

pub invariant_of-result : goal.invariant_of-result
invariant_of-result g c =
    let b = c.args.hall.basis in
    let cs = map g.C.Chained.shape c.args.chains.items in
    let count : length cs ≡ line_count b.site = fresh_count (line_chains b.site) cs c.requires.fresh ∙ chains_count b.site in
    subst IsSoundHeld (λ i. held_with (record { seconds = 0; micros = 0 }) (sym c.requires.begun i) (sym c.all_shut.ensures i)) (sound_first b.site b.entries b.bytes cs c.is_kept.ensures.site count c.requires.small)

pub returns : goal.returns
returns g c = λ i. held_with (record { seconds = 0; micros = 0 }) (c.requires.begun i) (c.all_shut.ensures i)
