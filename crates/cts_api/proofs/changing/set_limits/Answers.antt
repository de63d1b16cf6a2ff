use Rattle.std.proofs.Common.{arith, ℕ, Some, rules, ◌≡◌, sym}
use Rattle.std.proofs.lemmas.Grind.{common_steps}
use Rattle.std.specs.Prelude.{slice_get}
use Rattle.cts_api.proofs.Persisting.{limits_persist}
use Rattle.cts_api.proofs.changing.set_limits.Goals as goal

pub returns-clause-persistent : goal.returns-clause-persistent
returns-clause-persistent c asked =
    let site = c.args.hall.now.basis.site in
    let history = c.args.hall.now.entries in
    let p : ℕ = c.in_ok-place.place.packet in
    let there : slice_get site.definitions.telemetry p ≡ Some c.in_ok-place.place.of.now = search rules in
    let some = limits_persist site history c.is_kept.ensures.kept.of_site p c.in_ok-place.place.item c.in_ok-place.place.of.now c.in_ok-place.place.it.now c.recall_sound_limits.ensures _ c.in-Some.now there c.in_ok-place.ensures.item (sym c.in-Some.ensures.used) in
    c.limits_given.ensures.persistent asked some

pub returns-clause-told : goal.returns-clause-told
returns-clause-told c = grind (arith, common_steps)

pub returns-in_default-clause-told : goal.returns-in_default-clause-told
returns-in_default-clause-told c = grind (arith, common_steps)

pub overflow_cast-packet : goal.overflow_cast-packet
overflow_cast-packet c = grind (arith, common_steps)

pub returns-in_err-place-clause-told : goal.returns-in_err-place-clause-told
returns-in_err-place-clause-told c = grind (arith, common_steps)
