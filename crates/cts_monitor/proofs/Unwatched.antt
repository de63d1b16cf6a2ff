-- Where no item has limits or state colours, no limits state changes.
use Rattle.std.proofs.Common.{◌≡◌, ℕ, zero, suc, ◌+◌, Bool, true, false, ◌||◌, List, [], ◌∷◌, ◌++◌, Option, Some, None, length, refl, ◌∙◌, ap, is_some}
use Rattle.std.specs.Prelude.{slice_get, if◌then◌else◌}
use Rattle.std.specs.List.{list_any, find, filter}
use Rattle.cts_def.specs.Items.{ItemData, has_color}
use Rattle.cts_def.specs.Packets.{PacketData}
use Rattle.cts_def.specs.Sites.{SiteData}
use Rattle.cts_def.specs.declared.color.Color.TheVariants.{Stale}
use Rattle.cts_def.specs.declared.ident.Ident.{Ident}
use Rattle.cts_def.specs.declared.ident.Ident.TheVariants.{Known, Unknown}
use Rattle.cts_def.specs.declared.limits_setup.LimitsSetup.{LimitsSetup}
use Rattle.cts_def.specs.declared.state_def.StateDef.{StateDef}
use Rattle.cts_conv.specs.Conversions.{before_states, is_state_of}
use Rattle.cts_conv.specs.Raws.{raw_value}
use Rattle.cts_entry.specs.declared.entry.Entry.{Entry}
use Rattle.cts_limits.specs.States.{Sample, state_of, change_from}
use Rattle.cts_limits.specs.States as states
use Rattle.cts_monitor.specs.Brought.{brings, brought_by}
use Rattle.cts_monitor.specs.Gathered.{gathered_from}
use Rattle.cts_monitor.specs.Settings.{Watched, current_set, flat_told, sets_with, limits_used}
use Rattle.cts_monitor.specs.Samples.{color_in, color_seen, sample_with, sample_in, sample_at, setting_of, state_after}
use Rattle.cts_monitor.specs.Events.{as_event, event_of, item_events, packet_events, ident_events, brought_events, events_at, events_from, is_from}
use Rattle.cts_monitor.specs.Watching.{is_watched, has_watched, watches}

pub or_off : (a b : Bool) → (a || b) ≡ false → (a ≡ false) × (b ≡ false)
or_off true b h = absurd (cc h)
or_off false b h = (refl, h)

nothing : {T : Type 0} (o : Option T) → is_some o ≡ false → o ≡ None
nothing None h = refl
nothing (Some x) h = absurd (cc h)

-- a state without a colour gives none

color_if : (b : Bool) (s : StateDef) (rest : Option StateDef) → has_color s ≡ false → color_in rest ≡ None → color_in (if b then Some s else rest) ≡ None
color_if true s rest h k = nothing s.color h
color_if false s rest h k = k

uncolored : (test : StateDef → Bool) (states : List StateDef) → list_any has_color states ≡ false → color_in (find test states) ≡ None
uncolored test [] h = refl
uncolored test (s ∷ states) h =
    let parts = or_off (has_color s) (list_any has_color states) h in
    color_if (test s) s (find test states) parts.0 (uncolored test states parts.1)

no_sample : (w : Watched) (before : List Entry) (e : Entry) → is_watched w.item ≡ false → sample_at w before e ≡ []
no_sample w before e h =
    let parts = or_off (is_some w.item.limits) (list_any has_color w.item.states) h in
    let limits = nothing w.item.limits parts.0 in
    of_bytes (brought_by (Known w.at) e) (ap (λ (l : Option LimitsSetup). limits_used (current_set before) (sets_with l (flat_told w.at w.index before))) limits) parts.1
  where
    none_seen : (b : Bool) (n : ℕ) (bytes : List ℕ) → list_any has_color w.item.states ≡ false
        → (if b then sample_with n (color_seen None w.item (raw_value w.packet w.item bytes)) else []) ≡ []
    none_seen true n bytes h = ap (sample_with n) (uncolored (is_state_of (before_states w.item (raw_value w.packet w.item bytes))) w.item.states h)
    none_seen false n bytes h = refl

    of_bytes : (o : Option (List ℕ)) → (setting_of w before).limits ≡ None → list_any has_color w.item.states ≡ false → sample_in w (setting_of w before) o ≡ []
    of_bytes None l h = refl
    of_bytes (Some bytes) l h =
        ap (λ m. if (setting_of w before).enabled then sample_with (setting_of w before).persistence (color_seen m w.item (raw_value w.packet w.item bytes)) else []) l
        ∙ none_seen (setting_of w before).enabled (setting_of w before).persistence bytes h

no_samples : (w : Watched) (before rest : List Entry) → is_watched w.item ≡ false → gathered_from (sample_at w) before rest ≡ []
unfolding gathered_from
no_samples w before [] h = refl
no_samples w before (e ∷ rest) h = ap (λ (l : List Sample). l ++ gathered_from (sample_at w) (before ++ e ∷ []) rest) (no_sample w before e h) ∙ no_samples w (before ++ e ∷ []) rest h

no_event : (before : List Entry) (e : Entry) (w : Watched) → is_watched w.item ≡ false → event_of before e w ≡ []
unfolding states.state_back states.state_of
no_event before e w h =
    ap (λ (l : List Sample). as_event (length before) w.at w.index (change_from (state_of l) (state_after w (before ++ e ∷ [])))) (no_samples w [] before h)
    ∙ ap (λ (l : List Sample). as_event (length before) w.at w.index (change_from (state_of []) (state_of l))) (no_samples w [] (before ++ e ∷ []) h)

no_items : (before : List Entry) (e : Entry) (packet : PacketData) (p i : ℕ) (items : List ItemData) → list_any is_watched items ≡ false → item_events before e packet p i items ≡ []
no_items before e packet p i [] h = refl
no_items before e packet p i (item ∷ items) h =
    let parts = or_off (is_watched item) (list_any is_watched items) h in
    ap (λ l. l ++ item_events before e packet p (i + 1) items) (no_event before e (record { packet = packet; item = item; at = p; index = i }) parts.0)
    ∙ no_items before e packet p (i + 1) items parts.1

no_packet : (before : List Entry) (e : Entry) (packets : List PacketData) (p n : ℕ) → list_any has_watched packets ≡ false → packet_events before e p (slice_get packets n) ≡ []
no_packet before e [] p n h = refl
no_packet before e (q ∷ packets) p zero h = no_items before e q p 0 q.items (or_off (has_watched q) (list_any has_watched packets) h).0
no_packet before e (q ∷ packets) p (suc n) h = no_packet before e packets p n (or_off (has_watched q) (list_any has_watched packets) h).1

no_ident : (site : SiteData) (before : List Entry) (e : Entry) (i : Ident) → watches site ≡ false → ident_events site before e i ≡ []
no_ident site before e (Known p) h = no_packet before e site.definitions.telemetry p p h
no_ident site before e Unknown h = refl

pub no_brought : (site : SiteData) (before : List Entry) (e : Entry) (o : Option (Ident × List ℕ)) → watches site ≡ false → brought_events site before e o ≡ []
no_brought site before e None h = refl
no_brought site before e (Some b) h = no_ident site before e b.0 h

no_events : (site : SiteData) (before rest : List Entry) → watches site ≡ false → gathered_from (events_at site) before rest ≡ []
unfolding gathered_from
no_events site before [] h = refl
no_events site before (e ∷ rest) h = ap (λ l. l ++ gathered_from (events_at site) (before ++ e ∷ []) rest) (no_brought site before e (brings e.what) h) ∙ no_events site (before ++ e ∷ []) rest h

-- no history has a change of a limits state
pub none_from : (site : SiteData) (h : List Entry) (n : ℕ) → watches site ≡ false → events_from site h n ≡ []
none_from site h n off = ap (filter (is_from n)) (no_events site [] h off)

-- the state of an item that is not watched is never known
pub state_off : (w : Watched) (h : List Entry) → is_watched w.item ≡ false → state_after w h ≡ Stale
unfolding states.state_back states.state_of
state_off w h off = ap (λ (l : List Sample). state_of l) (no_samples w [] h off)
