use Rattle.std.proofs.Common.{◌≡◌, ◌≤◌, ◌∷◌, ap, subst, sym, length, arith, Ok, Err}
use Rattle.std.specs.Prelude.{slice_range}
use Rattle.cts_log_parts.specs.Growths.{DoNotFall, headed, pieces_from}
use Rattle.cts_log_parts.specs.Told.{PutsGrowth}
use Rattle.cts_log_parts.proofs.Cutting.{within}
use Rattle.cts_log_parts.proofs.Puttings.{pieces_refused, pieces_then}
use Rattle.cts_log_parts.proofs.putting.+put_pieces.Goals as goal

pub slice_bounds-close_piece-end : goal.slice_bounds-close_piece-end
slice_bounds-close_piece-end g t c =
    let d = subst (λ l. DoNotFall c.args.from l (length c.args.bytes.now)) c.in-Some.ensures.cases.0 c.requires.places in
    let w = within c.in-Some.place.now c.in-Some.rest.now (length c.args.bytes.now) d.1 in
    omega (arith, d.0, w)

pub returns-in-Ok-clause-content : goal.returns-in-Ok-clause-content
returns-in-Ok-clause-content g t c =
    subst (λ l. PutsGrowth c.args.kind (g.V.Vault.seen c.args.vault.now).told (g.V.Vault.seen c.put_pieces.new.vault).told (headed c.args.head.now (pieces_from c.args.from l c.args.bytes.now)) c.put_pieces.result) (sym c.in-Some.ensures.cases.0)
    (pieces_then c.args.kind _ _ _ c.args.head.now _ c.args.bytes.now c.in-Some.place.now c.in-Some.rest.now c.in-Ok.field-0 c.put_pieces.result c.in-Ok.ensures.content c.put_pieces.ensures.content)

pub returns-in-Err-clause-content : goal.returns-in-Err-clause-content
returns-in-Err-clause-content g t c =
    subst (λ l. PutsGrowth {T = Unit {0}} c.args.kind (g.V.Vault.seen c.args.vault.now).told (g.V.Vault.seen c.close_piece.new.vault).told (headed c.args.head.now (pieces_from c.args.from l c.args.bytes.now)) (Err c.in-Err.fault)) (sym c.in-Some.ensures.cases.0)
    (pieces_refused c.args.kind _ _ c.args.head.now _ c.args.bytes.now c.in-Some.place.now c.in-Some.rest.now c.in-Err.fault c.in-Err.ensures.content)
