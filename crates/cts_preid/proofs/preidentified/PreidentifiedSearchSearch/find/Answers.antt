use Rattle.std.proofs.Common.{subst, List, ℕ}
use Rattle.cts_def.specs.Protocols.{Preidentified}
use Rattle.cts_framing.specs.Rows.{framing_of}
use Rattle.cts_proto.specs.Founds.{Finds}
use Rattle.cts_preid.proofs.preidentified.PreidentifiedSearchSearch.find.Goals as goal

pub returns : goal.returns
returns c =
    let b = c.in-Preidentified in
    rw b.is (subst (λ (x : List ℕ). Finds (framing_of (Preidentified (record { sync = x; max = b.max; layout = b.layout }))) c.args.bytes.now c.found_preidentified.result) c.as_slice.ensures c.found_preidentified.ensures)
