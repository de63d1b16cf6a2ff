use Rattle.cts_log_parts.proofs.Puttings.{piece_closed, piece_refused}
use Rattle.cts_log_parts.proofs.putting.close_piece.Goals as goal

pub returns-in-Ok-clause-content : goal.returns-in-Ok-clause-content
returns-in-Ok-clause-content g c = piece_closed c.args.kind _ _ _ c.args.bytes.now c.args.head.now c.in-Ok.field-0 c.begin_part.result c.in-Ok.ensures.content c.begin_part.ensures.content

pub returns-in-Err-clause-content : goal.returns-in-Err-clause-content
returns-in-Err-clause-content g c = piece_refused c.args.kind _ _ c.args.bytes.now c.args.head.now c.in-Err.fault c.in-Err.ensures.content
