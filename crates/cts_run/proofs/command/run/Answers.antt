use Rattle.std.proofs.Common.{refl, sym, ◌∙◌, map}
use Rattle.cts_run.specs.Acts.{outside}
use Rattle.cts_run.proofs.CommandLemmas.{answers, command_shelf, completes, misused_answers}
use Rattle.cts_run.proofs.DueLemmas.{due_answer}
use Rattle.cts_run.proofs.EndingLemmas.{caused, misused_caused}
use Rattle.cts_run.proofs.RehearsedLemmas.{command_rehearsed, misused_rehearsed}
use Rattle.cts_run.proofs.command.run.Goals as goal

-- ---- the words fit no command

pub returns-in-None-clause-causes : goal.returns-in-None-clause-causes
returns-in-None-clause-causes g c = misused_caused _ _ _ _ _ c.end_misused.ensures.status c.end_misused.ensures.printed

pub returns-in-None-clause-transcript : goal.returns-in-None-clause-transcript
returns-in-None-clause-transcript g c = misused_answers _ _ _ _ (outside _ _) (outside _ _) (sym c.in-None.ensures) c.end_misused.ensures.status c.end_misused.ensures.printed refl

pub returns-in-None-clause-complete : goal.returns-in-None-clause-complete
returns-in-None-clause-complete g c =
    let usage = c.end_misused.ensures.status in
    λ s. completes _ _ _ _ (outside _ _) (outside _ _) _ _ (λ e. absurd (cc)) (λ e. absurd (cc)) (λ e. absurd (cc)) s.0 s.1 s.2 (returns-in-None-clause-transcript g c)

pub returns-in-None-clause-due : goal.returns-in-None-clause-due
returns-in-None-clause-due g c = due_answer _ _ _ _ (outside _ _) (outside _ _) _ (returns-in-None-clause-transcript g c) (returns-in-None-clause-complete g c)

-- ---- a command

pub returns-in-Some-clause-usage : goal.returns-in-Some-clause-usage
returns-in-Some-clause-usage g c = λ e. absurd (cc (c.in-Some.ensures ∙ e))

pub returns-in-Some-clause-causes : goal.returns-in-Some-clause-causes
returns-in-Some-clause-causes g c = caused _ _ _ _ _ _ _ c.perform-done.result _ c.perform-done.ensures.files c.perform-done.ensures.sink c.perform-done.ensures.vault c.end.ensures

pub returns-in-Some-clause-misused : goal.returns-in-Some-clause-misused
returns-in-Some-clause-misused g c = λ e. absurd (cc (c.in-Some.ensures ∙ e))

pub returns-in-Some-clause-transcript : goal.returns-in-Some-clause-transcript
returns-in-Some-clause-transcript g c = answers _ _ c.in-Some.command _ c.perform-done.result _ (outside _ _) (outside _ _) (outside _ _) (sym c.in-Some.ensures) c.perform-done.ensures.performs c.perform-done.ensures.keeps c.end.ensures refl

pub returns-in-Some-clause-complete : goal.returns-in-Some-clause-complete
returns-in-Some-clause-complete g c =
    let why = returns-in-Some-clause-causes g c in
    λ s. completes _ _ _ _ (outside _ _) (outside _ _) _ _ why.read why.write why.log s.0 s.1 s.2 (returns-in-Some-clause-transcript g c)

pub returns-in-Some-clause-due : goal.returns-in-Some-clause-due
returns-in-Some-clause-due g c = due_answer _ _ _ _ (outside _ _) (outside _ _) _ (returns-in-Some-clause-transcript g c) (returns-in-Some-clause-complete g c)

pub returns-in-Some-clause-boxes : goal.returns-in-Some-clause-boxes
returns-in-Some-clause-boxes g c = command_shelf _ c.in-Some.command _ c.perform-done.result _ _ _ _ _ (sym c.in-Some.ensures) c.perform-done.ensures.boxes c.end.ensures

-- ---- a rehearsal

pub returns-in-None-clause-rehearsed : goal.returns-in-None-clause-rehearsed
returns-in-None-clause-rehearsed g c = misused_rehearsed _ _ _ (sym c.in-None.ensures)

pub returns-in-Some-clause-rehearsed : goal.returns-in-Some-clause-rehearsed
returns-in-Some-clause-rehearsed g c = command_rehearsed _ (map (λ w. w.now) c.args.words.now) c.in-Some.command c.perform-done.result _ _ _ (sym c.in-Some.ensures) c.perform-done.ensures.rehearsed c.end.ensures
