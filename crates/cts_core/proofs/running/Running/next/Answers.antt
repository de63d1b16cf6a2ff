use Rattle.std.proofs.Common.{rules, ◌≡◌, true, false, refl, sym, ◌∙◌, ap, subst}
use Rattle.std.specs.Prelude.{MatchOption}
use Rattle.cts_core.specs.Worlds.{Held, held_with}
use Rattle.cts_connection.specs.Connections.{HeldConnection}
use Rattle.cts_core.specs.Writings.{IsNext, can_pass}
use Rattle.cts_core.proofs.Exchanging.{connection_is, found}
use Rattle.cts_core.proofs.Puttings.{next_is, not_open}
use Rattle.cts_core.proofs.running.Running.next.Goals as goal

pub returns-then-not-is_connected : goal.returns-then-not-is_connected
returns-then-not-is_connected g c =
    let w = held_with c.self.inside.time c.self.inside.hall c.self.inside.connections.items in
    let f = found w _ c.args.by c.place.result c.index-connection.result.now c.self.view_is c.place.ensures.place c.place.ensures.there c.index-connection.ensures in
    let off : c.is_connected.result ≡ false = search rules in
    subst (λ (x : Held). can_pass x c.args.by c.args.count ≡ false) c.self.view_is (not_open w c.args.by c.args.count (ap (λ (x : HeldConnection). x.connected) (connection_is w c.args.by c.place.result _ f) ∙ (sym c.is_connected.ensures ∙ off)))

pub returns : goal.returns
returns g c =
    let w = held_with c.self.inside.time c.self.inside.hall c.self.inside.connections.items in
    let f = found w _ c.args.by c.place.result c.index-connection.result.now c.self.view_is c.place.ensures.place c.place.ensures.there c.index-connection.ensures in
    let on : c.is_connected.result ≡ true = search rules in
    let mine = connection_is w c.args.by c.place.result _ f in
    subst (λ (x : Held). MatchOption c.next.result (can_pass x c.args.by c.args.count ≡ false) (λ n. IsNext x c.args.by c.args.count n)) c.self.view_is
    (next_is w c.args.by c.args.count c.next.result w.basis.site c.index-connection.result.now w.history (ap (λ (x : HeldConnection). x.connected) mine ∙ (sym c.is_connected.ensures ∙ on)) refl (sym mine) refl c.next.ensures)
