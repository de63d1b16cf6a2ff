use Rattle.std.proofs.Common.{rules, ◌≡◌, true, false, sym, ◌∙◌}
use Rattle.std.proofs.lemmas.Result.{err_from_is_err_and}
use Rattle.cts_entry.specs.declared.event.Event.TheVariants.{DrainSlot}
use Rattle.cts_entry.specs.declared.event.Effect.TheVariants.{Routed}
use Rattle.cts_core.proofs.PassingSteps.{has_passed, has_slot, line_of_slot, no_slot, not_passed, drains}
use Rattle.cts_core.proofs.WorldSteps.{site_of}
use Rattle.cts_core.proofs.running.Running.drain_slot.Goals as goal

pub returns-then-not-is_slot : goal.returns-then-not-is_slot
returns-then-not-is_slot g c =
    let off : c.is_slot.result ≡ false = search rules in
    λ base s h. no_slot base c.args.self.now s c.args.by c.args.count h (sym c.is_slot.ensures.test ∙ off)

pub put_next-requires : goal.put_next-requires
put_next-requires g c = line_of_slot c.args.self.now.basis.site c.args.by (sym c.is_slot.ensures.test ∙ (search rules))

pub returns-in_err-bytes : goal.returns-in_err-bytes
returns-in_err-bytes g c =
    let w = c.args.self.now in
    let on : c.is_slot.result ≡ true = search rules in
    let p = err_from_is_err_and c.from_residual.result c.from_residual.ensures.1 in
    rw (p.1, p.2) (λ base s h.
    let e = drains base s c.args.by c.args.count (has_slot base w s c.args.by c.args.count h (sym c.is_slot.ensures.test ∙ on)) in
    not_passed base w c.put_next.new.self s (DrainSlot c.args.by c.args.count) c.args.by c.args.count (Routed c.args.by) e h c.in_err-bytes.field-0.0 c.in_err-bytes.ensures)

pub returns : goal.returns
returns g c =
    let w = c.args.self.now in
    let on : c.is_slot.result ≡ true = search rules in
    λ base s h.
    let e = drains base s c.args.by c.args.count (has_slot base w s c.args.by c.args.count h (sym c.is_slot.ensures.test ∙ on)) in
    has_passed base w c.put_next.new.self s (DrainSlot c.args.by c.args.count) c.args.by c.args.count (Routed c.args.by) e h c.in_ok-bytes.bytes (site_of base w s c.is_slot.ensures.sound h) c.in_ok-bytes.ensures
