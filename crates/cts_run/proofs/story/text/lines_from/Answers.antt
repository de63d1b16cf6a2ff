use Rattle.std.proofs.Common.{◌≡◌, ℕ, ◌+◌, ◌<◌, ◌≤◌, List, ◌∷◌, ◌++◌, map, sym, append_assoc, length-append, length, take, drop, arith, get_or, ap, ◌∙◌, length-drop, length-take}
use Rattle.std.proofs.lemmas.Grind.{common_steps}
use Rattle.std.proofs.lemmas.List.{drop_more, get_or-drop, take-append-drop}
use Rattle.std.proofs.lemmas.Option.{get_or_from_slice_get, slice_get_within}
use Rattle.std.specs.List.{filter}
use Rattle.cts_def.specs.Sites.{SiteData}
use Rattle.cts_monitor.specs.Events.{events_from}
use Rattle.cts_monitor.specs.declared.types.LimitsEvent.{LimitsEvent as Change}
use Rattle.cts_monitor.proofs.Placed.{at_place, events_from_here}
use Rattle.cts_entry.specs.declared.entry.Entry.{Entry}
use Rattle.cts_run.specs.Transcript.{limits_events, line_event, lines_of}
use Rattle.cts_script.proofs.LineLemmas.{lines_after-take_more}
use Rattle.cts_script.specs.declared.limits_event.LimitsEvent.{LimitsEvent}
use Rattle.cts_script.specs.Transcripts.{entry_lines}
use Rattle.cts_run.proofs.story.text.lines_from.Goals as goal

-- what stands before an entry and after it
split_at : (es : List Entry) (from i : ℕ) (e : Entry) → i < length (drop from es) → e ≡ get_or (drop from es) i e → es ≡ (take from es ++ take i (drop from es)) ++ e ∷ drop (i + 1) (drop from es)
split_at es from i e below is =
    sym (take-append-drop from es)
    ∙ (ap (λ (l : List Entry). take from es ++ l) (sym (take-append-drop i (drop from es)) ∙ ap (λ (l : List Entry). take i (drop from es) ++ l) (drop_more (drop from es) i e below ∙ ap (λ (x : Entry). x ∷ drop (i + 1) (drop from es)) (sym is)))
    ∙ sym (append_assoc (take from es) (take i (drop from es)) (e ∷ drop (i + 1) (drop from es))))

-- the changes at an entry are those that name its number
changes_here : (site : SiteData) (es : List Entry) (from i n : ℕ) (e : Entry) (changes : List Change) → i < length (drop from es) → e ≡ get_or (drop from es) i e → length (take from es) + i ≡ n → changes ≡ events_from site es from
    → map line_event (filter (at_place n) changes) ≡ limits_events site (take from es ++ take i (drop from es)) e
changes_here site es from i n e changes below is number given =
    let before : List Entry = take from es ++ take i (drop from es) in
    let long : length before ≡ n = length-append (take from es) (take i (drop from es)) ∙ (omega (arith, length-take i (drop from es), below) ∙ number) in
    let le : from ≤ length before = omega (arith, below, length-drop from es, length-take from es, long, number) in
    ap (map line_event)
    (ap (filter (at_place n)) given
    ∙ (ap (λ (l : List Entry). filter (at_place n) (events_from site l from)) (split_at es from i e below is)
    ∙ (ap (λ (k : ℕ). filter (at_place k) (events_from site (before ++ e ∷ drop (i + 1) (drop from es)) from)) (sym long)
    ∙ events_from_here site before e (drop (i + 1) (drop from es)) from le)))

pub loop-i-preserved : goal.loop-i-preserved
loop-i-preserved g c =
    let history = g.H.Stands.list c.args.history.now in
    let site = c.args.site.now in
    let from = c.args.from in
    let index = c.loop-i.i in
    let n = from + index in
    let e = c.lend.result.now in
    let there = slice_get_within history n e c.lend.ensures in
    let below : index < length (drop from history) = omega (arith, there, length-drop from history) in
    let is : e ≡ get_or (drop from history) index e = sym (get_or-drop from history index e ∙ get_or_from_slice_get history n e e c.lend.ensures) in
    let more = lines_after-take_more site (limits_events site) (take from history) (drop from history) index e below is in
    let number : length (take from history) + index ≡ n = omega (arith, length-take from history, there) in
    let events = c.in_ok-events.ensures ∙ changes_here site history from index n e c.args.changes.now below is number c.requires in
    let line = ap (λ (m : ℕ). entry_lines site m e (limits_events site (take from history ++ take index (drop from history)) e)) number ∙ ap (entry_lines site n e) (sym events) in
    let text = c.in_ok-put_entry_lines.ensures in
    let so_far = lines_of site (take from history) (take index (drop from history)) in
    text
    ∙ (ap (λ (es : List LimitsEvent). c.loop-i.lines.items ++ entry_lines site n e es) c.deref.ensures.value
    ∙ (ap (λ (l : List ℕ). l ++ entry_lines site n e c.in_ok-events.events.items) c.loop-i.invariant ∙ (ap (λ (l : List ℕ). so_far ++ l) (sym line) ∙ sym more)))

pub returns : goal.returns
returns g c =
    let end = c.count.ensures in
    let before = c.loop-i.invariant in
    grind (arith, common_steps)
