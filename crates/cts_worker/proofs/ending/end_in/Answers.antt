use Rattle.std.proofs.Common.{[], ap, ◌∙◌, ◌++◌, ◌∷◌, append_assoc, subst, sym}
use Rattle.std.specs.Prelude.{◌&&◌, not}
use Rattle.cts_entry.specs.Histories.{is_stopped}
use Rattle.cts_entry.specs.declared.what.What.TheVariants.{Ended}
use Rattle.cts_worker.specs.Lasts.{MayEnd, entry_of, stop_if}
use Rattle.cts_worker.proofs.Lasting.{may_end_stop}
use Rattle.cts_worker.proofs.ending.end_in.Goals as goal

pub say_ended-requires : goal.say_ended-requires
say_ended-requires c =
    let s = c.args.hall.now in
    let may = may_end_stop s.basis.site (c.args.stops && not (is_stopped s.entries)) c.args.by c.args.by c.args.time s.entries c.requires.may in
    record { may = subst (λ b. MayEnd b.site c.args.by c.stop_unless.new.hall.entries) (sym c.stop_unless.ensures.basis) (subst (λ l. MayEnd s.basis.site c.args.by l) (sym c.stop_unless.ensures.entries) may) }

pub returns-clause-entries : goal.returns-clause-entries
returns-clause-entries c =
    let es = c.args.hall.now.entries in
    let end = entry_of c.args.by c.args.time Ended ∷ [] in
    c.say_ended.ensures.entries ∙ (ap (λ l. l ++ end) c.stop_unless.ensures.entries ∙ append_assoc es (stop_if (c.args.stops && not (is_stopped es)) c.args.by c.args.time) end)
