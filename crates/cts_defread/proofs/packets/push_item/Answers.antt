use Rattle.std.proofs.Common.{◌≡◌, Bool, ◌||◌, max, sym, ap, ◌∙◌}
use Rattle.cts_def.specs.Items.{span_of}
use Rattle.cts_def.specs.Spans.{bytes_needed, is_variable}
use Rattle.cts_defread.proofs.PacketRules.{pushed_sound}
use Rattle.cts_defread.proofs.packets.push_item.Goals as goal
use Rattle.cts_defread.proofs.packets.push_item.Goals.{then-packet, else-packet}

pub invariant_of-packet : goal.invariant_of-packet
invariant_of-packet c =
    let varies : c.if-packet.packet ≡ c.packet.inside.variable || is_variable (span_of c.args.item) =
    elim c.if-packet.branch [
      | then-packet w ↦ w.packet-is ∙ w.if-packet.true ∙ sym (ap (λ (b : Bool). b || is_variable (span_of c.args.item)) w.if-packet.true)
      | else-packet w ↦ w.packet-is ∙ w.is_variable.ensures ∙ ap is_variable c.span-span.ensures ∙ sym (ap (λ (b : Bool). b || is_variable (span_of c.args.item)) w.if-packet.false)
    ] in
    pushed_sound _ _ c.args.item _ _ _ c.packet.view_is c.packet.invariant c.requires.placed c.requires.few c.requires.other c.requires.single c.in_ok-push.ensures.pushed
    (c.max.ensures ∙ ap (max c.packet.inside.length) (c.bytes_needed.ensures ∙ ap bytes_needed c.span-span.ensures)) varies
