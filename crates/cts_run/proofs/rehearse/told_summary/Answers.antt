use Rattle.std.proofs.Common.{List, length, filter, Ok, ◌∙◌, ap, subst}
use Rattle.cts_entry.specs.declared.entry.Entry.{Entry}
use Rattle.cts_entry.specs.declared.event.Effect.{Effect}
use Rattle.cts_run.specs.Story.{Drains}
use Rattle.cts_run.specs.Rehearsal.{IsSummary, is_command, is_packet}
use Rattle.cts_run.proofs.RehearsalLemmas.{of_ok, sums_up}
use Rattle.cts_run.proofs.rehearse.told_summary.Goals as goal

pub returns-in-Ok-Logged : goal.returns-in-Ok-Logged
returns-in-Ok-Logged g c = λ site n p.
    of_ok c.summary.result _ (λ b. IsSummary site n b)
    (λ b text. sums_up site n c.args.refused c.args.story.now p c.count-entries.result c.in_ok-events.events c.packets_in-packets.result c.commands_in-commands.result c.in-Ok-Logged.tlm _ b
    c.count-entries.ensures c.in_ok-events.ensures
    (c.packets_in-packets.ensures ∙ ap (λ (h : List Entry). length (filter is_packet h)) c.hall.ensures)
    (c.commands_in-commands.ensures ∙ ap (λ (h : List Entry). length (filter is_command h)) c.hall-2.ensures)
    (subst (λ (e : Effect). Drains site p.state (Ok e)) c.in-Ok-Logged.field-0-is (c.in-Ok-Logged.ensures site p.state p.goes)) text)
    c.summary.ensures
