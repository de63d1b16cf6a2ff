use Rattle.std.proofs.Common.{◌≡◌, ◌∙◌, [], length, sym}
use Rattle.std.proofs.lemmas.Bool.{eqb-true}
use Rattle.std.proofs.lemmas.List.{nil_from_length}
use Rattle.cts_log_parts.proofs.Puttings.{puts_cut, puts_nothing, puts_synced}
use Rattle.cts_log_parts.proofs.putting.put_piece.Goals as goal

pub returns-then-is_empty-clause-content : goal.returns-then-is_empty-clause-content
returns-then-is_empty-clause-content g c =
    let none : c.args.bytes.now ≡ [] = nil_from_length c.args.bytes.now (eqb-true (length c.args.bytes.now) 0 (sym c.is_empty.ensures ∙ c.if-is_empty.true)) in
    puts_nothing c.args.kind (g.V.Vault.seen c.args.vault.now).told c.args.bytes.now none

pub returns-in-Ok-clause-content : goal.returns-in-Ok-clause-content
returns-in-Ok-clause-content g c = puts_synced c.args.kind _ _ _ c.args.bytes.now c.sync.result c.in-Ok.ensures.content c.sync.ensures.content

pub returns-in-Err-clause-content : goal.returns-in-Err-clause-content
returns-in-Err-clause-content g c = puts_cut c.args.kind _ _ c.args.bytes.now c.in-Err.fault c.in-Err.ensures.content
