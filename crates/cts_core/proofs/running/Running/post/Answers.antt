use Rattle.std.proofs.Common.{◌≡◌, true, Option, sym, ◌∙◌, ap, subst, set}
use Rattle.std.specs.Prelude.{IfSome}
use Rattle.cts_entry.specs.Legal.{StopsAfter}
use Rattle.cts_connection.specs.Postings.{Posts as ConnectionPosts, end_of}
use Rattle.cts_connection.specs.declared.end.End.{End}
use Rattle.cts_connection.proofs.Posting.{end_stops}
use Rattle.cts_core.specs.Takings.{CanPost, Posts, told_as}
use Rattle.cts_core.specs.Worlds.{Held, held_with}
use Rattle.cts_core.proofs.Exchanging.{found, posts_is}
use Rattle.cts_core.proofs.Holding.{IsOpen, sound_posts, stands_at}
use Rattle.cts_core.proofs.running.Running.post.Goals as goal

pub place-place-requires : goal.place-place-requires
place-place-requires g c = c.requires.can.line

pub post-requires : goal.post-requires
post-requires g c =
    let w = held_with c.self.inside.time c.self.inside.hall c.self.inside.connections.items in
    let can = subst (λ (x : Held). CanPost c.args.by x c.args.taken.entries.items c.args.taken.why) (sym c.self.view_is) c.requires.can in
    let is : IsOpen w c.args.by true = stands_at w c.args.by c.self.invariant can.line can.connected in
    let end : c.end-end.result ≡ end_of c.args.taken.unposted c.args.taken.why = c.end-end.ensures in
    record {
      line = is.line;
      on = is.on;
      packets = can.packets;
      entries_are = can.entries_are;
      stops = subst (λ (e : Option End). IfSome e (λ x. StopsAfter w.history x.why)) (sym (end ∙ ap (end_of c.args.taken.unposted) can.why_is)) (end_stops w.history c.args.taken.unposted can.fault);
    }

pub invariant_of-self : goal.invariant_of-self
invariant_of-self g c =
    let w = held_with c.self.inside.time c.self.inside.hall c.self.inside.connections.items in
    let can = subst (λ (x : Held). CanPost c.args.by x c.args.taken.entries.items c.args.taken.why) (sym c.self.view_is) c.requires.can in
    let f = found w _ c.args.by c.place-place.result c.index_mut-connection.result.now c.self.view_is c.place-place.ensures.place c.place-place.ensures.there c.index_mut-connection.ensures.value in
    let end : c.end-end.result ≡ end_of 0 c.args.taken.why = c.end-end.ensures ∙ ap (λ n. end_of n c.args.taken.why) c.requires.all in
    let put = subst (λ (e : Option End). ConnectionPosts c.args.by w.time c.self.inside.hall c.index_mut-connection.result.now c.args.taken.entries.items e c.post.result c.post.new.hall c.post.new.self) end c.post.ensures in
    sound_posts w _ c.args.by c.args.taken.entries.items c.args.taken.why _ c.self.invariant can (posts_is w.time c.self.inside.hall c.post.new.hall w.connections c.args.by c.place-place.result _ c.post.new.self f c.args.taken.entries.items c.args.taken.why c.post.result put)

pub returns : goal.returns
returns g c =
    let w = held_with c.self.inside.time c.self.inside.hall c.self.inside.connections.items in
    let f = found w _ c.args.by c.place-place.result c.index_mut-connection.result.now c.self.view_is c.place-place.ensures.place c.place-place.ensures.there c.index_mut-connection.ensures.value in
    let end : c.end-end.result ≡ end_of 0 c.args.taken.why = c.end-end.ensures ∙ ap (λ n. end_of n c.args.taken.why) c.requires.all in
    let put = subst (λ (e : Option End). ConnectionPosts c.args.by w.time c.self.inside.hall c.index_mut-connection.result.now c.args.taken.entries.items e c.post.result c.post.new.hall c.post.new.self) end c.post.ensures in
    let done = posts_is w.time c.self.inside.hall c.post.new.hall w.connections c.args.by c.place-place.result _ c.post.new.self f c.args.taken.entries.items c.args.taken.why c.post.result put in
    rw c.told_as.ensures (subst (λ (x : Held). Posts c.args.by x c.args.taken.entries.items c.args.taken.why (told_as c.post.result) (held_with w.time c.post.new.hall (set w.connections c.place-place.result c.post.new.self))) c.self.view_is done)
