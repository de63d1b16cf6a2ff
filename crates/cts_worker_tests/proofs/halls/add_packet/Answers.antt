use Rattle.std.proofs.Common.{ap, ◌∙◌, ◌≡◌, ◌++◌, ◌∷◌, [], subst, sym, true}
use Rattle.cts_entry.specs.Histories.{is_connected}
use Rattle.cts_turn.specs.Lists.{has}
use Rattle.cts_worker_tests.specs.Added.{entry_at}
use Rattle.cts_worker_tests.proofs.Owns.{connected_of, added_either, match_bool}
use Rattle.cts_worker_tests.proofs.halls.add_packet.Goals as goal

pub append-done-requires-clause-open : goal.append-done-requires-clause-open
append-done-requires-clause-open g c =
    let e = c.enter-held.ensures in
    ap (λ s. is_connected c.args.by s.entries) c.state_mut.ensures.value ∙ (connected_of c.args.by _ _ (e.own c.args.by c.requires.by) ∙ c.requires.open)

pub leave-requires-clause-new : goal.leave-requires-clause-new
leave-requires-clause-new g c =
    let e = c.enter-held.ensures in
    let one = entry_at c.args.by c.args.seconds ∷ [] in
    let to = ap (λ s. s.entries) c.state_mut.ensures.value ∙ sym (ap (λ v. v.seen) e.view) in
    added_either c.append-done.result _ _ _ one (subst (λ ms. has c.args.by ms ≡ true) (sym (ap (λ v. v.makers) e.view)) c.requires.by, tt)
    (match_bool c.append-done.result _ _ _ _ (λ p. p ∙ ap (λ l. l ++ one) to) (λ p. p ∙ to) c.append-done.ensures.entries)
