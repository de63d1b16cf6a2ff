use Rattle.std.proofs.Common.{◌≡◌, ◌++◌, ◌∷◌, [], sym, ap, subst, ◌∙◌, append_assoc, zero-add, ℕ, List}
use Rattle.std.specs.Prelude.{MatchBool}
use Rattle.std.proofs.lemmas.List.FromFn.{map-range_with_len_more}
use Rattle.cts_turn.specs.Lists.{of}
use Rattle.cts_turn.specs.Passes.{view}
use Rattle.cts_turn.specs.declared.turn.Pass.{Pass}
use Rattle.cts_worker_tests.specs.declared.written.Written.{Written}
use Rattle.cts_entry.specs.declared.entry.Entry.{Entry}
use Rattle.cts_worker_tests.specs.Added.{added, entry_at}
use Rattle.cts_worker_tests.proofs.holds.add_many.Goals as goal

pub loop-seconds-preserved : goal.loop-seconds-preserved
loop-seconds-preserved g c =
    let by = c.args.by in
    let time = c.loop-seconds.seconds in
    let mine : Pass Written ℕ _ → List Entry = λ p. of (λ e. e.by) by (view p).seen in
    let own = subst (λ b. MatchBool b (mine c.add-next.result.0 ≡ mine c.loop-seconds.pass ++ entry_at by time ∷ []) (mine c.add-next.result.0 ≡ mine c.loop-seconds.pass)) c.if-not-done.false c.add-next.ensures.own in (
      c.add-next.ensures.pass,
      c.add-next.ensures.makers ∙ c.loop-seconds.invariant.1,
      own
          ∙ ap (λ l. l ++ entry_at by time ∷ []) c.loop-seconds.invariant.2
          ∙ append_assoc (mine c.args.pass) (added by time) (entry_at by time ∷ [])
          ∙ ap (λ l. mine c.args.pass ++ l) (sym (map-range_with_len_more (entry_at by) 0 time time (zero-add time))),
    )
