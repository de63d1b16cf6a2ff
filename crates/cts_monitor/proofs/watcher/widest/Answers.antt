use Rattle.std.proofs.Common.{◌≡◌, ◌++◌, ◌∷◌, [], ◌+◌, take, length, max, arith, rules, ap, sym, ◌∙◌}
use Rattle.std.proofs.lemmas.List.{take_more}
use Rattle.cts_def.specs.Packets.{PacketData}
use Rattle.cts_monitor.specs.Widest.{widest_of}
use Rattle.cts_monitor.proofs.WatcherSteps.{widest_more}
use Rattle.cts_monitor.proofs.watcher.widest.Goals as goal

pub loop-packet-preserved : goal.loop-packet-preserved
loop-packet-preserved c =
    let ps = c.as_slice-packet-items.result.now in
    let i = c.loop-packet.packet-index in
    let p = c.packet-item.result in
    let more : widest_of (take (i + 1) ps) ≡ max (length p.items) (widest_of (take i ps)) =
    ap widest_of (take_more ps i p (omega arith)) ∙ ap (λ (x : PacketData). widest_of (take i ps ++ x ∷ [])) (sym c.packet-item.is) ∙ widest_more (take i ps) p in
    let long : c.len.result ≡ length p.items = search rules in
    let same : length c.packet.inside.items ≡ length p.items = search rules in
    let before = c.loop-packet.invariant.most in
    let narrow = c.loop-packet.invariant.narrow in
    let few = c.packet.invariant.few in
    let now : c.max-most.result ≡ max c.len.result c.loop-packet.most = search rules in
    record { items = c.loop-packet.invariant.items; most = omega (arith, more, long, before, now); narrow = omega (arith, long, same, few, narrow, now) }
