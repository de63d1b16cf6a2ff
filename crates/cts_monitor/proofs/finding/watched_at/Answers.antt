use Rattle.std.proofs.Common.{◌≡◌, rules, subst, Bor}
use Rattle.std.specs.List.{Contains}
use Rattle.cts_def.specs.Items.{ItemData}
use Rattle.cts_def.specs.Packets.{PacketData}
use Rattle.cts_monitor.proofs.finding.watched_at.Goals as goal

pub returns-clause-held : goal.returns-clause-held
returns-clause-held c x e =
    let same : (c.in_ok-held.held, c.in_ok-found.found) ≡ x = cc in
    subst (λ (y : Bor PacketData × Bor ItemData). Contains y.0.now.items y.1.now) same (c.args.item, search rules, search rules)
