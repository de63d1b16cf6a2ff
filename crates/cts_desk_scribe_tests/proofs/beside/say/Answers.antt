use Rattle.std.proofs.Common.{◌≡◌, ◌∷◌, [], ◌++◌, ap, ◌∙◌, subst, sym, true, rules}
use Rattle.cts_turn.specs.Lists.{has}
use Rattle.cts_turn.specs.Passes.{view}
use Rattle.cts_desk_scribe_tests.proofs.Owns.{added_either, match_bool}
use Rattle.cts_desk_scribe_tests.proofs.beside.say.Goals as goal

pub leave-requires-clause-new : goal.leave-requires-clause-new
leave-requires-clause-new g c =
    let e = c.enter-held.ensures in
    let one = c.args.entry ∷ [] in
    let first : c.args.entry.by ≡ 0 = search rules in
    let mine : has c.args.entry.by (view c.args.pass).makers ≡ true = subst (λ m. has m (view c.args.pass).makers ≡ true) (sym first) c.requires.by in
    let to = ap (λ s. s.entries) c.state_mut.ensures.value ∙ sym (ap (λ v. v.seen) e.view) in
    added_either c.add.result _ _ _ one (subst (λ ms. has c.args.entry.by ms ≡ true) (sym (ap (λ v. v.makers) e.view)) mine, tt)
    (match_bool c.add.result _ _ _ _ (λ p. p ∙ ap (λ l. l ++ one) to) (λ p. p ∙ to) c.add.ensures.entries)
