use Rattle.std.proofs.Common.{◌≡◌, ◌++◌, ◌∙◌, ap, subst, sym}
use Rattle.cts_turn.specs.Passes.{view}
use Rattle.cts_worker.specs.Grounds.{ground}
use Rattle.cts_worker.specs.Lasts.{MayEnd, last_entries}
use Rattle.cts_worker.proofs.Holdings.{a_held, hold_of, kept_may_end, new_by}
use Rattle.cts_worker.proofs.Lasting.{adds_last}
use Rattle.cts_worker.proofs.holds.end.Goals as goal

pub end_in-requires : goal.end_in-requires
end_in-requires g c =
    let e = c.enter-held.ensures in
    let s = c.enter-held.result.state in
    let may = kept_may_end c.args.by (view c.args.pass) _ s e.view e.seen e.own c.requires.by (ground c.args.turn.now).site c.requires.may in
    record { may = subst (λ h. MayEnd h.basis.site c.args.by h.entries) (sym c.state_mut.ensures.value) (subst (λ b. MayEnd b.site c.args.by s.entries) (sym e.basis) may) }

pub leave-requires-clause-new : goal.leave-requires-clause-new
leave-requires-clause-new g c =
    let e = c.enter-held.ensures in
    let s = c.enter-held.result.state in
    let t = c.end_in.new.hall in
    let basis = subst (λ h. t.basis ≡ h.basis) c.state_mut.ensures.value c.end_in.ensures.basis in
    let grows = subst (λ h. t.entries ≡ h.entries ++ last_entries c.args.stops c.args.by c.args.time h.entries) c.state_mut.ensures.value c.end_in.ensures.entries in
    new_by c.args.by (view c.args.pass) _ s e.view e.seen e.own c.requires.by t (adds_last s t c.args.by c.args.time c.args.stops basis grows)

pub returns-clause-ended : goal.returns-clause-ended
returns-clause-ended g c =
    let e = c.enter-held.ensures in
    let s = c.enter-held.result.state in
    let t = c.end_in.new.hall in
    let grows : t.entries ≡ s.entries ++ last_entries c.args.stops c.args.by c.args.time s.entries = subst (λ h. t.entries ≡ h.entries ++ last_entries c.args.stops c.args.by c.args.time h.entries) c.state_mut.ensures.value c.end_in.ensures.entries in
    record {
      added = last_entries c.args.stops c.args.by c.args.time s.entries;
      hold = hold_of c.args.by (view c.args.pass) _ s t (last_entries c.args.stops c.args.by c.args.time s.entries) (a_held c.args.by (view c.args.pass) _ s e.view e.seen e.own c.requires.by t _ c.leave.ensures.view) grows;
      words = ap (last_entries c.args.stops c.args.by c.args.time) e.seen.1;
    }
