use Rattle.cts_log_parts.proofs.Puttings.{part_begun, part_refused}
use Rattle.cts_log_parts.proofs.putting.begin_part.Goals as goal

pub returns-in-Ok-clause-content : goal.returns-in-Ok-clause-content
returns-in-Ok-clause-content g c = part_begun c.args.kind _ _ _ c.args.head.now c.in-Ok.field-0 c.put_piece.result c.in-Ok.ensures.content c.put_piece.ensures.content

pub returns-in-Err-clause-content : goal.returns-in-Err-clause-content
returns-in-Err-clause-content g c = part_refused c.args.kind _ _ c.args.head.now c.in-Err.fault c.in-Err.ensures.content
