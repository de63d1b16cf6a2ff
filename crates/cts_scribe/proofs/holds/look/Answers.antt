use Rattle.std.proofs.Common.{◌≡◌, ◌∙◌, List, ap, subst, sym, take}
use Rattle.cts_entry.specs.declared.entry.Entry.{Entry}
use Rattle.cts_table.specs.States.{Shown}
use Rattle.cts_table.specs.declared.basis.Basis.{Basis}
use Rattle.cts_turn.specs.Passes.{view}
use Rattle.cts_worker.specs.Grounds.{ground}
use Rattle.cts_worker.specs.Lasts.{MayEnd}
use Rattle.cts_worker.proofs.Holdings.{a_held, kept_may_end, new_by}
use Rattle.cts_scribe.specs.Following.{Sees}
use Rattle.cts_scribe.specs.Growing.{Count}
use Rattle.cts_worker.specs.Followed.{Follows}
use Rattle.cts_scribe.proofs.Sighting.{follows_more, may_end, sees_adds, take_kept}
use Rattle.cts_scribe.proofs.holds.look.Goals as goal

pub see-sight-requires-clause-site : goal.see-sight-requires-clause-site
see-sight-requires-clause-site g c =
    c.requires.site ∙ sym (ap (λ (b : Basis). b.site) c.enter-held.ensures.basis) ∙ sym (ap (λ (h : Shown). h.basis.site) c.state_mut.ensures.value)

pub see-sight-requires-clause-may : goal.see-sight-requires-clause-may
see-sight-requires-clause-may g c =
    let e = c.enter-held.ensures in
    let s = c.enter-held.result.state in
    let f = c.requires.following in
    let site = (ground c.args.turn.now).site in
    let v = view c.args.follower.pass in
    let may = kept_may_end c.args.by v _ s e.view e.seen e.own f.makers site (may_end site c.args.by v.seen c.requires.scribe f.silent) in
    subst (λ (h : Shown). MayEnd h.basis.site c.args.by h.entries) (sym c.state_mut.ensures.value)
    (subst (λ (b : Basis). MayEnd b.site c.args.by s.entries) (sym e.basis) may)

pub see-sight-requires-clause-follows : goal.see-sight-requires-clause-follows
see-sight-requires-clause-follows g c =
    let e = c.enter-held.ensures in
    subst (λ (h : Shown). Follows c.args.follower.progress h.entries) (sym c.state_mut.ensures.value)
    (follows_more c.args.follower.progress (view c.args.follower.pass).seen c.enter-held.result.state.entries e.seen c.requires.following.follows)

pub see-sight-requires-clause-count : goal.see-sight-requires-clause-count
see-sight-requires-clause-count g c =
    let e = c.enter-held.ensures in
    let v = view c.args.follower.pass in
    let p = c.args.follower.progress in
    let es = c.enter-held.result.state.entries in
    subst (λ (h : Shown). Count c.args.site.now (take p.place h.entries) c.args.follower.cycles) (sym c.state_mut.ensures.value)
    (subst (λ (l : List Entry). Count c.args.site.now l c.args.follower.cycles)
    (sym (take_kept v.seen es p.place c.requires.following.follows.within e.seen)) c.requires.count)

pub leave-pass-requires-clause-new : goal.leave-pass-requires-clause-new
leave-pass-requires-clause-new g c =
    let e = c.enter-held.ensures in
    let s = c.enter-held.result.state in
    let t = c.see-sight.new.hall in
    let p = c.args.follower.progress in
    let q = c.see-sight.new.progress in
    let d = c.see-sight.new.cycles in
    let same = c.state_mut.ensures.value in
    let base : t.basis ≡ s.basis = subst (λ (h : Shown). t.basis ≡ h.basis) same c.see-sight.ensures.basis in
    let sees = subst (λ (h : Shown). Sees c.args.site.now c.args.by h.entries p c.see-sight.result t.entries q d) same c.see-sight.ensures.sees in
    new_by c.args.by (view c.args.follower.pass) _ s e.view e.seen e.own c.requires.following.makers t
    (sees_adds c.args.site.now c.args.by s t p q d c.see-sight.result base sees)

pub returns-clause-hold : goal.returns-clause-hold
returns-clause-hold g c =
    let e = c.enter-held.ensures in
    let s = c.enter-held.result.state in
    let t = c.see-sight.new.hall in
    let p = c.args.follower.progress in
    let q = c.see-sight.new.progress in
    let d = c.see-sight.new.cycles in (
      s,
      t,
      e.basis,
      a_held c.args.by (view c.args.follower.pass) _ s e.view e.seen e.own c.requires.following.makers t _ c.leave-pass.ensures.view,
      subst (λ (h : Shown). Sees c.args.site.now c.args.by h.entries p c.see-sight.result t.entries q d) c.state_mut.ensures.value c.see-sight.ensures.sees,
    )
