use Rattle.std.proofs.Common.{◌≡◌, ◌+◌, length, arith, inr, subst, sym}
use Rattle.cts_connection.specs.Postings.{Closes}
use Rattle.cts_framing.specs.Packets.{capped}
use Rattle.cts_line.specs.Doing.{IsRefused}
use Rattle.cts_line.proofs.Boarding.{close_same, posts_taken, refused_is, refused_same, taken_adds}
use Rattle.cts_line.proofs.board.post_taken.Goals as goal

pub returns-in-Ok-clause-adds : goal.returns-in-Ok-clause-adds
returns-in-Ok-clause-adds g c =
    let s = c.args.hall.now in
    let t = c.args.taken in
    let p = c.requires.packets in
    taken_adds c.args.by c.args.time s c.post.new.hall c.args.connection.now c.post.new.self p.0 t.entries.items t.unposted t.why c.posted.result p.1
    (posts_taken c.args.by c.args.time s c.post.new.hall c.args.connection.now c.post.new.self t.entries.items t.unposted t.why c.end-end.result c.posted.result c.end-end.ensures c.posted.ensures c.in-Ok.ensures.1)

pub returns-in-Err-clause-posts : goal.returns-in-Err-clause-posts
returns-in-Err-clause-posts g c =
    let s = c.args.hall.now in
    let t = c.args.taken in
    let p = c.requires.packets in
    let k = c.is_kept.ensures in
    let f = c.in-Err.fault in
    let r = refused_same s c.post.new.hall c.args.connection.now c.post.new.self _ _ f c.in-Err.ensures in
    let count : c.saturating_add-count.result ≡ capped (t.unposted + length t.entries.items) = omega (arith, c.saturating_add-count.ensures, c.len.ensures, t.entries.ok.0) in
    inr (
      subst (IsRefused s t.entries.items) (sym c.refused_for-why.ensures) (refused_is s c.post.new.hall c.args.by c.args.time c.args.connection.now c.post.new.self p.0 t.entries.items c.end-end.result f k.site k.kept c.requires.line p.1 c.in-Err.ensures),
      subst (λ n. Closes c.args.by c.args.time s c.args.connection.now c.refused_for-why.result n c.close.new.hall c.close.new.self) count
          (close_same s c.post.new.hall c.close.new.hall c.args.by c.args.time c.args.connection.now c.post.new.self c.close.new.self c.refused_for-why.result c.saturating_add-count.result r.0 r.1 c.close.ensures),
    )
