use Rattle.std.proofs.Common.{◌≡◌, List, sym, ◌∙◌, ap, subst, arith}
use Rattle.std.proofs.lemmas.Result.{err_from_is_err_and}
use Rattle.cts_entry.specs.declared.entry.Entry.{Entry}
use Rattle.cts_entry.specs.Histories.{entries_in, bytes_in}
use Rattle.cts_framing.specs.Packets.{capped}
use Rattle.cts_table.specs.States.{Shown}
use Rattle.cts_connection.specs.Postings.{CanAddAll}
use Rattle.cts_connection.proofs.LinePosts.{entries_count}
use Rattle.cts_connection.proofs.Posting.{can_post, ends_then, grown, not_posted, room_same}
use Rattle.cts_connection.proofs.connection.Connection.post.Goals as goal

pub returns-in_err-room : goal.returns-in_err-room
returns-in_err-room g c =
    let s = c.args.hall.now in
    let items = c.args.entries.items in
    let k = c.is_kept.ensures in
    let r = c.requires in
    let count : c.len.result ≡ entries_in items = omega (arith, c.len.ensures, c.args.entries.ok.0, entries_count s.basis.site c.args.by s.entries c.args.time r.packets items k.site r.line r.entries_are) in
    let size : c.weight.result ≡ capped (bytes_in items) = c.weight.ensures ∙ ap (λ (l : List Entry). capped (bytes_in l)) c.deref.ensures.value in
    let refused = not_posted c.args.by c.args.time s c.room.new.self c.args.self.now items c.args.end _ _ c.in_err-room.field-0.0 (room_same s items c.len.result c.weight.result count size k.bytes) c.in_err-room.ensures.answer c.in_err-room.ensures.err in
    let p = err_from_is_err_and c.from_residual.result c.from_residual.ensures.1 in
    rw (p.1, p.2) refused

pub append_all-requires : goal.append_all-requires
append_all-requires g c =
    let s = c.args.hall.now in
    let items = c.args.entries.items in
    let k = c.is_kept.ensures in
    let r = c.requires in
    let count : c.len.result ≡ entries_in items = omega (arith, c.len.ensures, c.args.entries.ok.0, entries_count s.basis.site c.args.by s.entries c.args.time r.packets items k.site r.line r.entries_are) in
    let size : c.weight.result ≡ capped (bytes_in items) = c.weight.ensures ∙ ap (λ (l : List Entry). capped (bytes_in l)) c.deref.ensures.value in
    subst (λ (t : Shown). CanAddAll t items) (sym c.in_ok-room.ensures.ok)
    (can_post s c.args.by c.args.time items c.len.result c.weight.result r.packets k.site k.kept r.line r.on r.entries_are count size k.bytes c.in_ok-room.ensures.answer)

pub end-requires : goal.end-requires
end-requires g c =
    let s = c.args.hall.now in
    let r = c.requires in
    ends_then s c.append_all.new.hall c.args.by c.args.time c.args.entries.items r.packets c.args.end r.line r.on r.entries_are r.stops (grown s c.room.new.self c.append_all.new.hall c.args.entries.items c.len.result c.weight.result c.in_ok-room.ensures.ok c.append_all.ensures)

pub returns : goal.returns
returns g c =
    let s = c.args.hall.now in
    let items = c.args.entries.items in
    let k = c.is_kept.ensures in
    let r = c.requires in
    let count : c.len.result ≡ entries_in items = omega (arith, c.len.ensures, c.args.entries.ok.0, entries_count s.basis.site c.args.by s.entries c.args.time r.packets items k.site r.line r.entries_are) in
    let size : c.weight.result ≡ capped (bytes_in items) = c.weight.ensures ∙ ap (λ (l : List Entry). capped (bytes_in l)) c.deref.ensures.value in
    (sym (room_same s items c.len.result c.weight.result count size k.bytes) ∙ c.in_ok-room.ensures.answer, (c.append_all.new.hall, grown s c.room.new.self c.append_all.new.hall items c.len.result c.weight.result c.in_ok-room.ensures.ok c.append_all.ensures, c.end.ensures))
