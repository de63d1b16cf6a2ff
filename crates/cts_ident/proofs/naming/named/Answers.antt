use Rattle.cts_ident.proofs.FirstMatches.{interface_packets, interface_targets, named_known, named_unknown, slot_packets, slot_targets}
use Rattle.cts_ident.proofs.naming.named.Goals as goal

pub returns-then-by-lt-FIRST_SLOT-clause-known : goal.returns-then-by-lt-FIRST_SLOT-clause-known
returns-then-by-lt-FIRST_SLOT-clause-known c n =
    let s = c.args.site.now in
    let lt = c.if-by-lt-FIRST_SLOT.true in
    named_known _ _ _ _ c.args.target.now c.args.packet.now n _ (interface_targets s c.args.by lt) (interface_packets s.definitions c.args.by lt) c.named_packet.ensures.distinct c.named_packet.ensures.value

pub returns-then-by-lt-FIRST_SLOT-clause-unknown :
    goal.returns-then-by-lt-FIRST_SLOT-clause-unknown
returns-then-by-lt-FIRST_SLOT-clause-unknown c =
    let s = c.args.site.now in
    let lt = c.if-by-lt-FIRST_SLOT.true in
    named_unknown _ _ _ _ c.args.target.now c.args.packet.now _ (interface_targets s c.args.by lt) (interface_packets s.definitions c.args.by lt) c.named_packet.ensures.value

pub returns-else-by-lt-FIRST_SLOT-clause-known : goal.returns-else-by-lt-FIRST_SLOT-clause-known
returns-else-by-lt-FIRST_SLOT-clause-known c n =
    let s = c.args.site.now in
    let le = c.if-by-lt-FIRST_SLOT.false in
    named_known _ _ _ _ c.args.target.now c.args.packet.now n _ (slot_targets s c.args.by le) (slot_packets s.definitions c.args.by le) c.named_command.ensures.distinct c.named_command.ensures.value

pub returns-else-by-lt-FIRST_SLOT-clause-unknown :
    goal.returns-else-by-lt-FIRST_SLOT-clause-unknown
returns-else-by-lt-FIRST_SLOT-clause-unknown c =
    let s = c.args.site.now in
    let le = c.if-by-lt-FIRST_SLOT.false in
    named_unknown _ _ _ _ c.args.target.now c.args.packet.now _ (slot_targets s c.args.by le) (slot_packets s.definitions c.args.by le) c.named_command.ensures.value
