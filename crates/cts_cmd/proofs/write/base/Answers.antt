use Rattle.std.proofs.Common.{◌≡◌, true, false, rules, subst, arith, unsigned_abs}
use Rattle.std.specs.Int.{is_negative}
use Rattle.cts_def.specs.Items.{ItemData, span_of}
use Rattle.cts_def.specs.Spans.{is_misplaced}
use Rattle.cts_cmd.proofs.Behind.{base_end, base_start, room_after}
use Rattle.cts_cmd.proofs.write.base.Goals as goal

pub returns-then-item-lt0-clause-room : goal.returns-then-item-lt0-clause-room
returns-then-item-lt0-clause-room c =
    let i = c.args.item.now in
    let placed : is_misplaced (span_of i) ≡ false = subst (λ (j : ItemData). is_misplaced (span_of j) ≡ false) c.item.view_is c.item.invariant.placed in
    let end : is_negative i.offset ≡ true = search rules in
    let far : c.unsigned_abs.result ≡ unsigned_abs i.offset = search rules in
    let room = room_after i c.args.count true end placed c.requires in
    let at = base_end c.args.count i end in
    omega (arith, room, at, far)

pub returns-clause-room : goal.returns-clause-room
returns-clause-room c =
    let i = c.args.item.now in
    let placed : is_misplaced (span_of i) ≡ false = subst (λ (j : ItemData). is_misplaced (span_of j) ≡ false) c.item.view_is c.item.invariant.placed in
    let start : is_negative i.offset ≡ false = search rules in
    let room = room_after i c.args.count false start placed c.requires in
    let at = base_start c.args.count i start in
    omega (arith, room, at)
