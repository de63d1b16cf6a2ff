-- What a connection has passed of the history, when entries are appended.
use Rattle.std.proofs.Common.{◌≡◌, ℕ, ◌+◌, Bool, true, false, ◌&&◌, ◌||◌, List, [], ◌∷◌, ◌++◌, length, drop, Option, Some, None, refl, sym, ◌∙◌, ap, subst, arith, append-nil, eq-eqb}
use Rattle.std.specs.Prelude.{◌==◌, if◌then◌else◌}
use Rattle.std.specs.List.{list_any}
use Rattle.std.proofs.lemmas.List.{drop-append-le}
use Rattle.cts_def.specs.Sites.{SiteData}
use Rattle.cts_def.specs.declared.time.Time.{Time}
use Rattle.cts_entry.specs.declared.entry.Entry.{Entry}
use Rattle.cts_entry.specs.declared.event.Event.{Event}
use Rattle.cts_entry.specs.declared.what.What.TheVariants.{Opened}
use Rattle.cts_entry.specs.Histories.{latest, or_earlier, connects_maker, is_opened, opens as is_opening, since}
use Rattle.cts_entry.proofs.Queuing.{since_opened}
use Rattle.cts_framing.specs.Framing.{Output}
use Rattle.cts_framing.specs.Packets.{capped}
use Rattle.cts_trace.specs.Routing.{queue}
use Rattle.cts_trace.proofs.Stretches.{opens_nothing}
use Rattle.cts_trace.proofs.Walks.{packets_queue, queue-append}
use Rattle.cts_core.specs.Cursors.{IsPassed}
use Rattle.cts_core.specs.Environments.{site_environment}
use Rattle.cts_core.specs.Runs.{Did, after, passed_for}
use Rattle.cts_core.specs.States.{State, unsent}
use Rattle.cts_connection.specs.Takings.{entries_of}
use Rattle.cts_connection.specs.Routings.{site_routing}
use Rattle.cts_connection.specs.Connections.{HeldCursor, waiting}
use Rattle.cts_core.proofs.Keeping.{cursor_stays}
use Rattle.cts_core.proofs.Passing.{passed_more, passed_none, unsent_is}

-- ---- entries that open and close nothing of a maker

none_both : (later first : Option Bool) → or_earlier later first ≡ None → (later ≡ None) × (first ≡ None)
none_both (Some b) first h = absurd (cc h)
none_both None first h = (refl, h)

quiet_opens : (by : ℕ) (es : List Entry) → latest (connects_maker by) es ≡ None → list_any (is_opening by) es ≡ false
quiet_opens by [] n = refl
quiet_opens by (e ∷ es) n =
    let parts = none_both (latest (connects_maker by) es) (connects_maker by e) n in
    ap (λ (b : Bool). b || list_any (is_opening by) es) (opens_nothing (e.by == by) e.what parts.1) ∙ quiet_opens by es parts.0

-- what a maker has passed in one state, it has passed in the other
abbrev pub PassesOn : SiteData → State → State → ℕ → Type 0
PassesOn site s t by = (place count : ℕ) → IsPassed (site_environment site) s by place count → IsPassed (site_environment site) t by place count

-- entries stand after the others, and nothing more is passed
pub passes : (site : SiteData) (s : State) (event : Event) (did : Did) (by : ℕ) → latest (connects_maker by) did.entries ≡ None → passed_for by event ≡ 0 → PassesOn site s (after s event did) by
passes site s event did by none p place count h = passed_more (site_environment site) s by place count h (after s event did) did.entries refl (quiet_opens by did.entries none) (cursor_stays by event did.entries s.cursor none p)

-- ---- a connection is opened

pub passed_opened : (site : SiteData) (t : State) (by : ℕ) (history : List Entry) (opened : Entry) (k : HeldCursor) → opened.by ≡ by → opened.what ≡ Opened → t.history ≡ history ++ opened ∷ [] → t.cursor by ≡ 0 → k ≡ record { place = length t.history; refused = 0 }
    → IsPassed (site_environment site) t by k.place k.refused
passed_opened site t by history opened k mine says grown first is =
    let opens : is_opening by opened ≡ true = ap (λ (b : Bool). b && is_opened opened.what) (eq-eqb opened.by by mine) ∙ ap is_opened says in
    let none : since by t.history ≡ [] = ap (since by) grown ∙ since_opened by history [] opened opens refl in
    subst (λ (c : HeldCursor). IsPassed (site_environment site) t by c.place c.refused) (sym is) (passed_none (site_environment site) t by none first)

-- ---- what waits

-- what a Closed says is unsent
pub waits : (site : SiteData) (s : State) (by : ℕ) (k : HeldCursor) → IsPassed (site_environment site) s by k.place k.refused → unsent (site_environment site) s by ≡ waiting site by s.history k
waits site s by k p = unsent_is (site_environment site) s by k.place k.refused p

-- a maker's own packets are not for its peer
pub waiting_kept : (site : SiteData) (s : State) (by : ℕ) (now : Time) (packets : List Output) (k : HeldCursor) → IsPassed (site_environment site) s by k.place k.refused → waiting site by (s.history ++ entries_of site s.history by now packets) k ≡ waiting site by s.history k
waiting_kept site s by now packets k p =
    let g = site_routing site in
    let more = entries_of site s.history by now packets in
    let left : queue g by (drop k.place (s.history ++ more)) ≡ queue g by (drop k.place s.history) =
    ap (queue g by) (drop-append-le k.place s.history more (omega (arith, p.place_is)))
    ∙ (queue-append g by (drop k.place s.history) more
    ∙ (ap (λ (l : List Entry). queue g by (drop k.place s.history) ++ l) (packets_queue g s.history now by packets) ∙ append-nil (queue g by (drop k.place s.history)))) in
    ap (λ (l : List Entry). capped (k.refused + length l)) left
