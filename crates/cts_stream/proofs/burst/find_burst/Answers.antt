use Rattle.std.proofs.Common.{arith, inl, inr}
use Rattle.cts_stream.specs.Parameters.{burst_data}
use Rattle.cts_stream.proofs.BurstFinding.{burst_none, burst_fault, burst_found}
use Rattle.cts_stream.proofs.burst.find_burst.Goals.{then-len-eq0-via-then-len-eq0, then-len-eq0-via-else-len-eq0+then-len-sync}
use Rattle.cts_stream.proofs.burst.find_burst.Goals as goal

pub returns-then-len-eq0 : goal.returns-then-len-eq0
returns-then-len-eq0 c fill =
    burst_none (burst_data c.args.discard c.args.sync.now fill) c.args.bytes.now c.requires (elim c.then-len-eq0.branch [
      | then-len-eq0-via-then-len-eq0 w ↦ inr (omega (arith, w.if-len-eq0))
      | then-len-eq0-via-else-len-eq0+then-len-sync w ↦ inl (omega (arith, w.if-len-sync.true))
    ])

pub returns-then-len-gt-FRAME_LIMIT : goal.returns-then-len-gt-FRAME_LIMIT
returns-then-len-gt-FRAME_LIMIT c fill =
    burst_fault (burst_data c.args.discard c.args.sync.now fill) c.args.bytes.now c.requires (omega (arith, c.if-len-sync.false)) c.if-len-gt-FRAME_LIMIT.true

pub returns : goal.returns
returns c fill = (
  burst_found (burst_data c.args.discard c.args.sync.now fill) c.args.bytes.now c.requires (omega (arith, c.if-len-sync.false)) (omega (arith, c.if-len-eq0.false)) (omega (arith, c.if-len-gt-FRAME_LIMIT.false)) c.min.result c.min.ensures,
  omega (arith, c.min.ensures),
  omega arith,
  tt,
)
