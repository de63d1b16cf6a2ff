use Rattle.std.proofs.Common.{arith, ap, subst, sym, ◌∙◌, length}
use Rattle.cts_log_parts.specs.Growths.{CutsData, DoNotFall}
use Rattle.cts_log_parts.proofs.Cutting.{fall_later}
use Rattle.cts_log_parts.proofs.putting.put_growth.Goals as goal

pub put_pieces-requires-clause-places : goal.put_pieces-requires-clause-places
put_pieces-requires-clause-places g c =
    let end = ap (λ (d : CutsData). d.end) c.cuts.view_is in
    subst (λ l. DoNotFall 0 l (length c.args.bytes.now)) (sym c.deref.ensures.value)
    (fall_later 0 c.cuts.inside.places.items c.cuts.inside.end (length c.args.bytes.now) (let le = c.requires.all in omega (arith, end, le)) c.cuts.invariant)
