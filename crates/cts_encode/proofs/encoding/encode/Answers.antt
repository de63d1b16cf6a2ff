use Rattle.std.proofs.Common.{List, ℕ, subst, arith}
use Rattle.cts_def.specs.Protocols.{BurstData, FixedData, TerminatedData, spec_data}
use Rattle.cts_def.specs.Starts.{place_data}
use Rattle.cts_framing.specs.Heads.{AreBytes}
use Rattle.cts_encode.specs.Putting.{plain_data}
use Rattle.cts_encode.specs.Spellings.{Encodes, heading_of}
use Rattle.cts_encode.proofs.Told.{burst_spells, encoded_spells, fixed_spells, terminated_spells}
use Rattle.cts_encode.proofs.Same.{as_burst, as_fixed, as_terminated, with_sync}
use Rattle.cts_encode.proofs.encoding.encode.Goals as goal

pub returns-in-Burst-clause-put : goal.returns-in-Burst-clause-put
returns-in-Burst-clause-put c =
    let h = heading_of c.args.label.now in
    rw c.in-Burst.is (as_burst h c.args.bytes.now c.args.out.now.items c.encode_plain.new.out.items (record { discard = c.in-Burst.discard; sync = c.in-Burst.sync; fill = c.in-Burst.fill }) c.encode_plain.result (c.encode_plain.ensures h))

pub returns-in-Fixed-clause-put : goal.returns-in-Fixed-clause-put
returns-in-Fixed-clause-put c =
    let h = heading_of c.args.label.now in
    let b = c.in-Fixed in
    rw b.is (as_fixed h c.args.bytes.now c.args.out.now.items c.encode_plain-in-Fixed.new.out.items
    (record { min_id = b.min_id; discard = b.discard; sync = b.sync; telemetry = b.telemetry; fill = b.fill; raise = b.raise; starts = b.starts }) c.encode_plain-in-Fixed.result (c.encode_plain-in-Fixed.ensures h))

pub returns-in-Length-clause-put : goal.returns-in-Length-clause-put
returns-in-Length-clause-put c =
    let l = c.in-Length in
    rw l.is (with_sync (heading_of c.args.label.now) c.args.bytes.now c.args.out.now.items c.encode_length.new.out.items (place_data l.place) l.value_offset l.per_count l.discard c.as_slice-sync.result.now l.sync l.max l.fill c.encode_length.result
    c.as_slice-sync.ensures (c.encode_length.ensures.put (heading_of c.args.label.now)))

pub returns-in-Terminated-clause-put : goal.returns-in-Terminated-clause-put
returns-in-Terminated-clause-put c =
    let h = heading_of c.args.label.now in
    let t = c.in-Terminated in
    rw t.is (as_terminated h c.args.bytes.now c.args.out.now.items c.encode_plain-in-Terminated.new.out.items
    (record { write = t.write; read = t.read; strip = t.strip; discard = t.discard; sync = t.sync; fill = t.fill }) c.encode_plain-in-Terminated.result
    (subst (λ (w : List ℕ). Encodes (plain_data t.discard t.sync w t.fill) h c.args.bytes.now c.args.out.now.items c.encode_plain-in-Terminated.new.out.items c.encode_plain-in-Terminated.result) c.as_slice.ensures (c.encode_plain-in-Terminated.ensures h)))

pub returns-in-Burst-clause-spelled : goal.returns-in-Burst-clause-spelled
returns-in-Burst-clause-spelled c =
    let h = heading_of c.args.label.now in
    let b : BurstData = record { discard = c.in-Burst.discard; sync = c.in-Burst.sync; fill = c.in-Burst.fill } in
    rw c.in-Burst.is (burst_spells b h c.args.bytes.now c.args.out.now.items c.encode_plain.new.out.items c.encode_plain.result
    (as_burst h c.args.bytes.now c.args.out.now.items c.encode_plain.new.out.items b c.encode_plain.result (c.encode_plain.ensures h)))

pub returns-in-Fixed-clause-spelled : goal.returns-in-Fixed-clause-spelled
returns-in-Fixed-clause-spelled c =
    let h = heading_of c.args.label.now in
    let b = c.in-Fixed in
    let f : FixedData = record { min_id = b.min_id; discard = b.discard; sync = b.sync; telemetry = b.telemetry; fill = b.fill; raise = b.raise; starts = b.starts } in
    rw b.is (fixed_spells f h c.args.bytes.now c.args.out.now.items c.encode_plain-in-Fixed.new.out.items c.encode_plain-in-Fixed.result
    (as_fixed h c.args.bytes.now c.args.out.now.items c.encode_plain-in-Fixed.new.out.items f c.encode_plain-in-Fixed.result (c.encode_plain-in-Fixed.ensures h)))

pub returns-in-Terminated-clause-spelled : goal.returns-in-Terminated-clause-spelled
returns-in-Terminated-clause-spelled c =
    let h = heading_of c.args.label.now in
    let t = c.in-Terminated in
    let d : TerminatedData = record { write = t.write; read = t.read; strip = t.strip; discard = t.discard; sync = t.sync; fill = t.fill } in
    rw t.is (terminated_spells d h c.args.bytes.now c.args.out.now.items c.encode_plain-in-Terminated.new.out.items c.encode_plain-in-Terminated.result
    (as_terminated h c.args.bytes.now c.args.out.now.items c.encode_plain-in-Terminated.new.out.items d c.encode_plain-in-Terminated.result
    (subst (λ (w : List ℕ). Encodes (plain_data t.discard t.sync w t.fill) h c.args.bytes.now c.args.out.now.items c.encode_plain-in-Terminated.new.out.items c.encode_plain-in-Terminated.result) c.as_slice.ensures (c.encode_plain-in-Terminated.ensures h))))

pub returns-in-Length-clause-spelled : goal.returns-in-Length-clause-spelled
returns-in-Length-clause-spelled c =
    let l = c.in-Length in
    let sync : AreBytes l.sync = subst AreBytes c.as_slice-sync.ensures c.encode_length.ensures.bytes in
    encoded_spells (spec_data c.args.spec.now) (heading_of c.args.label.now) c.args.bytes.now c.args.out.now.items c.encode_length.new.out.items c.encode_length.result
    c.requires (rw l.is sync) (λ i. omega (arith, c.type_inv.bytes i)) (returns-in-Length-clause-put c)
