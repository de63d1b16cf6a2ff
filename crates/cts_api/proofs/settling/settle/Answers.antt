use Rattle.std.proofs.Common.{◌≡◌, arith, sym, subst, option_map, Option, Ok, true, false, ◌++◌, ◌∷◌, []}
use Rattle.std.proofs.lemmas.Grind.{common_steps}
use Rattle.cts_entry.specs.Histories.{bytes_for, entries_for}
use Rattle.cts_entry.specs.declared.what.What.{What}
use Rattle.cts_table.specs.States.{fits}
use Rattle.serde_json.specs.View.{view}
use Rattle.cts_api.specs.Replies.{IsTextFor, made}
use Rattle.cts_api.specs.Settling.{Settled, text_by}
use Rattle.cts_api.proofs.Appended.{appended, refused}
use Rattle.cts_api.proofs.settling.settle.Goals as goal
use Rattle.cts_api.proofs.settling.settle.Goals.{then-room, else-room}

pub returns-in_default : goal.returns-in_default
returns-in_default c = grind (arith, common_steps)

pub returns-clause-settled : goal.returns-clause-settled
returns-clause-settled c =
    let old = c.args.hall.now in
    let what : What = c.in-Some.what in
    let id = option_map (λ i. view i.now) c.args.id in
    let n = c.from.result in
    let new = c.if-room.hall in
    subst (λ s. Settled old c.args.by c.args.time id (view c.args.done.result) s (Ok (record { text = c.in_ok-text-2.text; appended = n })) new) (sym c.in-Some.is)
    (elim c.if-room.branch [
      | then-room w ↦
          appended old c.args.by c.args.time what id (view c.args.done.result) c.in_ok-text-2.text n new
          (grind (arith, common_steps)) (grind (arith, common_steps)) (grind (arith, common_steps)) (grind (arith, common_steps)) (grind (arith, common_steps))
      | else-room w ↦
          refused old c.args.by c.args.time what id (view c.args.done.result) c.in_ok-text-2.text n new
          (grind (arith, common_steps)) (grind (arith, common_steps)) (grind (arith, common_steps)) (grind (arith, common_steps)) (grind (arith, common_steps))
    ])

pub returns-clause-memory : goal.returns-clause-memory
returns-clause-memory c = grind (arith, common_steps)
