use Rattle.std.proofs.Common.{◌≡◌, length, max, arith, sym, ◌∙◌}
use Rattle.cts_def.specs.Protocols.{FixedData}
use Rattle.cts_framing.specs.Rows.{decided_at, fixed_states}
use Rattle.cts_framing.specs.Stating.{Long, Wrong}
use Rattle.cts_fixed.specs.Finding.{fixed_row}
use Rattle.cts_fixed.proofs.Fixing.{decided_states, fixed_few, fixed_short, fixed_part, fixed_fault, fixed_frame}
use Rattle.cts_fixed.proofs.found.found_fixed.Goals as goal

pub returns-then-bytes-least : goal.returns-then-bytes-least
returns-then-bytes-least c =
    let a = c.args in
    let f : FixedData = fixed_row a.min_id a.discard a.sync.now a.raise a.starts.now in
    let least_is : c.max-least.result ≡ max (max (decided_at f) (length f.sync)) 1 = omega (arith, c.max.ensures, c.max-least.ensures) in
    fixed_few f a.bytes.now c.requires c.max-least.result least_is c.if-bytes-least.true

pub returns-in-Err : goal.returns-in-Err
returns-in-Err c =
    let a = c.args in
    let f : FixedData = fixed_row a.min_id a.discard a.sync.now a.raise a.starts.now in
    let least_is : c.max-least.result ≡ max (max (decided_at f) (length f.sync)) 1 = omega (arith, c.max.ensures, c.max-least.ensures) in
    let s : fixed_states f a.bytes.now ≡ Wrong c.in-Err.cause = decided_states f a.bytes.now (omega (arith, least_is, c.if-bytes-least.false)) ∙ sym c.in-Err.ensures in
    fixed_fault f a.bytes.now c.requires c.max-least.result least_is c.in-Err.cause s c.if-bytes-least.false

pub returns-in-Ok : goal.returns-in-Ok
returns-in-Ok c =
    let a = c.args in
    let f : FixedData = fixed_row a.min_id a.discard a.sync.now a.raise a.starts.now in
    let least_is : c.max-least.result ≡ max (max (decided_at f) (length f.sync)) 1 = omega (arith, c.max.ensures, c.max-least.ensures) in
    let s : fixed_states f a.bytes.now ≡ Long c.in-Ok.len = decided_states f a.bytes.now (omega (arith, least_is, c.if-bytes-least.false)) ∙ sym c.in-Ok.ensures in
    fixed_short f a.bytes.now c.requires c.max-least.result least_is c.in-Ok.len s c.if-len-least.true

pub returns-in-Ok-2 : goal.returns-in-Ok-2
returns-in-Ok-2 c =
    let a = c.args in
    let f : FixedData = fixed_row a.min_id a.discard a.sync.now a.raise a.starts.now in
    let least_is : c.max-least.result ≡ max (max (decided_at f) (length f.sync)) 1 = omega (arith, c.max.ensures, c.max-least.ensures) in
    let s : fixed_states f a.bytes.now ≡ Long c.in-Ok.len = decided_states f a.bytes.now (omega (arith, least_is, c.if-bytes-least.false)) ∙ sym c.in-Ok.ensures in
    fixed_part f a.bytes.now c.requires c.max-least.result least_is c.in-Ok.len s c.if-bytes-len.true

pub returns-in-Ok-3 : goal.returns-in-Ok-3
returns-in-Ok-3 c =
    let a = c.args in
    let f : FixedData = fixed_row a.min_id a.discard a.sync.now a.raise a.starts.now in
    let least_is : c.max-least.result ≡ max (max (decided_at f) (length f.sync)) 1 = omega (arith, c.max.ensures, c.max-least.ensures) in
    let s : fixed_states f a.bytes.now ≡ Long c.in-Ok.len = decided_states f a.bytes.now (omega (arith, least_is, c.if-bytes-least.false)) ∙ sym c.in-Ok.ensures in
    (fixed_frame f a.bytes.now c.requires c.max-least.result least_is c.in-Ok.len s c.if-len-least.false c.if-bytes-len.false c.min.result c.min.ensures, omega (arith, c.min.ensures), omega arith, tt)
