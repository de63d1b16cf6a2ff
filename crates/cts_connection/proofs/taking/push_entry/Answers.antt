use Rattle.std.proofs.Common.{◌≡◌, ◌∙◌, sym, ap, ◌++◌, ◌∷◌, []}
use Rattle.cts_chain.specs.Chains.{packet_at}
use Rattle.cts_def.specs.Sites.{SiteData}
use Rattle.cts_entry.specs.declared.what.What.{What}
use Rattle.cts_framing.specs.Framing.{Output}
use Rattle.cts_connection.specs.Routings.{ident_of}
use Rattle.cts_connection.proofs.taking.push_entry.Goals as goal

pub returns-clause-ok : goal.returns-clause-ok
returns-clause-ok g c =
    let d = g.C.Chained.shape c.args.chain.now in
    let o : Output = packet_at d.lent d.place in
    let bytes : o.bytes ≡ c.in_ok-bytes.bytes = sym (c.in_ok-bytes.ensures ∙ c.packet_bytes-2.ensures) in
    let ident : ident_of c.args.hall.now.basis.site c.args.by o ≡ c.ident_by-ident.result =
    ap (λ (s : SiteData). ident_of s c.args.by o) (sym c.site.ensures) ∙ sym (c.ident_by-ident.ensures o (sym c.packet_bytes.ensures) c.packet_names.ensures) in
    let said = c.said.ensures o ident (sym c.packet_stored-stored.ensures) bytes in
    c.in_ok-push.ensures.items ∙ ap (λ (w : What). c.args.entries.now.items ++ (record { by = c.args.by; time = c.args.time; what = w }) ∷ []) said
