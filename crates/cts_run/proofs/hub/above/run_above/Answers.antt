use Rattle.std.proofs.Common.{rules, ◌≡◌, ◌∷◌, [], ℕ, List, false, length, refl, sym, subst, arith}
use Rattle.cts_entry.specs.declared.event.Event.{Event}
use Rattle.cts_run.specs.Hub.{IsHeard}
use Rattle.cts_run.specs.Story.{site_told}
use Rattle.cts_run.proofs.AboveLemmas.{heard_all, heard_begun, heard_halts, heard_on}
use Rattle.cts_run.proofs.hub.above.run_above.Goals as goal

pub events-init : goal.events-init
events-init g c =
    subst (λ (held : List ℕ). IsHeard (site_told c.args.story.now) c.args.slot c.args.events.now c.args.events.now false held c.args.story.now) (sym c.new-held.ensures.items)
    (heard_begun (site_told c.args.story.now) c.args.slot c.args.events.now c.args.story.now c.requires)

pub do_above-requires : goal.do_above-requires
do_above-requires g c = (site_told c.args.story.now, c.events.invariant.state, c.events.invariant.stands)

pub events-preserved : goal.events-preserved
events-preserved g c =
    let site = site_told c.args.story.now in
    let left : c.events.left.now ≡ c.in-Some.next.now ∷ c.in-Some.after.now = search rules in
    let p = subst (λ (t : List (ℕ × Event)). IsHeard site c.args.slot c.args.events.now t c.events.live c.events.held.items c.events.story) left c.events.invariant in
    heard_on site c.args.slot c.args.events.now c.args.script.now c.in-Some.next.now c.in-Some.after.now c.events.live c.events.held.items c.events.story p c.in-Ok.now c.do_above.new.held.items c.do_above.new.story (c.in-Ok.ensures site p.state p.stands)

pub returns-in-Err : goal.returns-in-Err
returns-in-Err g c =
    let site = site_told c.args.story.now in
    let left : c.events.left.now ≡ c.in-Some.next.now ∷ c.in-Some.after.now = search rules in
    let p = subst (λ (t : List (ℕ × Event)). IsHeard site c.args.slot c.args.events.now t c.events.live c.events.held.items c.events.story) left c.events.invariant in
    heard_halts site c.args.slot c.args.events.now c.args.script.now c.in-Some.next.now c.in-Some.after.now c.events.live c.events.held.items c.events.story p c.in-Err.halt c.do_above.new.held.items c.do_above.new.story (c.in-Err.ensures site p.state p.stands)

none_left : (xs : List (ℕ × Event)) → length xs ≡ 0 → xs ≡ []
none_left [] h = refl
none_left (x ∷ xs) h = absurd (omega (arith, h))

pub returns : goal.returns
returns g c =
    let site = site_told c.args.story.now in
    let p = subst (λ (t : List (ℕ × Event)). IsHeard site c.args.slot c.args.events.now t c.events.live c.events.held.items c.events.story) (none_left c.events.left.now c.in_default.ensures.cases) c.events.invariant in
    rw c.of.ensures (heard_all site c.args.slot c.args.events.now c.args.script.now c.events.live c.events.held.items c.events.story p)
