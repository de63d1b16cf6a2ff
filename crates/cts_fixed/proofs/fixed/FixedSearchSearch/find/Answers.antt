use Rattle.cts_fixed.proofs.Fixing.{with_parts}
use Rattle.cts_fixed.proofs.fixed.FixedSearchSearch.find.Goals as goal

pub returns : goal.returns
returns c =
    let b = c.in-Fixed in
    rw b.is (with_parts (record { min_id = b.min_id; discard = b.discard; sync = b.sync; telemetry = b.telemetry; fill = b.fill; raise = b.raise; starts = b.starts }) c.args.bytes.now c.found_fixed.result
    c.as_slice.result.now c.as_slice-in-Fixed.result.now c.as_slice.ensures c.as_slice-in-Fixed.ensures c.found_fixed.ensures)
