-- What is routed to a slot is handed on.
use Rattle.std.proofs.Common.{◌≡◌, ℕ, ◌==◌, ◌||◌, Bool, true, false, List, [], ◌∷◌, ◌++◌, length, refl, sym, ◌∙◌, ap, subst, append-nil, Some}
use Rattle.std.specs.Prelude.{slice_get, slice_range}
use Rattle.std.specs.List.{AllByRecursion, flat_map, list_any}
use Rattle.std.proofs.lemmas.List.Folds.{list_any-append}
use Rattle.cts_chain.specs.Writing.{chain_spelling}
use Rattle.cts_connection.specs.Routings.{is_routed, site_routing}
use Rattle.cts_def.specs.Items.{is_same}
use Rattle.cts_def.specs.Makers.{router_of}
use Rattle.cts_def.specs.Packets.{DefinitionsData}
use Rattle.cts_def.specs.Protocols.{PreidentifiedData, SpecData}
use Rattle.cts_def.specs.Sites.{InterfaceData, SiteData, routed_targets, targets_at}
use Rattle.cts_def.specs.declared.ident.Ident.{Ident}
use Rattle.cts_def.specs.declared.ident.Ident.TheVariants.{Known, Unknown}
use Rattle.cts_entry.specs.Histories.{bytes_of, is_packet, packets_from, stored_of}
use Rattle.cts_entry.specs.Queues.{bytes_or_none}
use Rattle.cts_entry.specs.Workers.{is_slot}
use Rattle.cts_entry.specs.declared.entry.Entry.{Entry}
use Rattle.cts_entry.specs.declared.what.What.{What}
use Rattle.cts_entry.specs.declared.what.What.TheVariants.{Opened, Packet, Closed, Command, SetLimits, Enable, LimitsSetIs, Injected, Unrouted, Stop, Ended}
use Rattle.cts_framing.specs.Layouts.{has_flags}
use Rattle.cts_framing.proofs.Fronts.{and_tells, same_tells}
use Rattle.cts_ident.specs.Identification.{routes_at}
use Rattle.cts_ident_laws.specs.Named.{IsOfTargets}
use Rattle.cts_trace_laws.specs.Streams.{stream}
use Rattle.cts_trace_laws.proofs.Splits.{only_all}
use Rattle.cts_trace.specs.Routing.{heading_of, names_in, spell}
use Rattle.cts_play_laws.specs.Handing.{CanHandOn, IsPacketOf, relayed, handed_history}
use Rattle.cts_play_laws.specs.Hubs.{AreTied, HubsHandOn, HubsHandOnAll, routed_packets}
use Rattle.cts_play_laws.proofs.Handed.{are_handed_on}

-- a target of an interface is among those of all routed ones
among_routed : (test : List ℕ → Bool) (interfaces : List InterfaceData) (routes : List ℕ) (by : ℕ) → list_any (λ n. n == by) routes ≡ true → list_any test (targets_at interfaces by) ≡ true
    → list_any test (routed_targets interfaces routes) ≡ true
among_routed test interfaces [] by r t = cc
among_routed test interfaces (n ∷ routes) by r t = by_first (n == by) refl (λ k. among_routed test interfaces routes by k t)
  where
    or_first : (a b : Bool) → a ≡ true → (a || b) ≡ true
    or_first true b h = refl
    or_first false b h = cc

    or_later : (a b : Bool) → b ≡ true → (a || b) ≡ true
    or_later true b h = refl
    or_later false b h = h

    rest_of : (a b : Bool) → a ≡ false → (a || b) ≡ true → b ≡ true
    rest_of true b e h = cc
    rest_of false b e h = h

    by_first : (b : Bool) → (n == by) ≡ b → (list_any (λ k. k == by) routes ≡ true → list_any test (routed_targets interfaces routes) ≡ true)
        → list_any test (targets_at interfaces n ++ routed_targets interfaces routes) ≡ true
    by_first true e rec =
        list_any-append test (targets_at interfaces n) (routed_targets interfaces routes)
        ∙ or_first (list_any test (targets_at interfaces n)) (list_any test (routed_targets interfaces routes)) (ap (λ k. list_any test (targets_at interfaces k)) (same_tells n by e) ∙ t)
    by_first false e rec =
        list_any-append test (targets_at interfaces n) (routed_targets interfaces routes)
        ∙ or_later (list_any test (targets_at interfaces n)) (list_any test (routed_targets interfaces routes))
        (rec (rest_of (n == by) (list_any (λ k. k == by) routes) e r))

module _ (d : PreidentifiedData) (above : SiteData) (slot : ℕ) (below : SiteData) (m : ℕ) (t : AreTied d above slot below m) where
  abbrev can_above : Entry → Type 0
  can_above e = CanHandOn above.definitions (targets_at above.interfaces e.by) e

  abbrev can_below : Entry → Type 0
  can_below e = CanHandOn below.definitions (targets_at below.interfaces m) e

  ident_below : (by : ℕ) (i : Ident) → is_routed above slot by ≡ true → IsOfTargets above.definitions (targets_at above.interfaces by) i → IsOfTargets below.definitions (targets_at below.interfaces m) i
  ident_below by (Known n) r of = (
    of.0,
    subst (λ (e : DefinitionsData). slice_get e.telemetry n ≡ Some of.0) (sym t.hearer.definitions) of.1,
    t.targets of.0.target
        (among_routed (is_same of.0.target) above.interfaces (routes_at above.routers (router_of slot)) by (and_tells (is_slot above slot) (list_any (λ n. n == by) (routes_at above.routers (router_of slot))) r).1 of.2),
  )
  ident_below by Unknown r of = tt

  packet_below : (by : ℕ) (what : What) → is_routed above slot by ≡ true → IsPacketOf above.definitions (targets_at above.interfaces by) what → IsPacketOf below.definitions (targets_at below.interfaces m) what
  packet_below by Opened r p = p
  packet_below by (Packet ident stored bytes) r p = (p.0, ident_below by ident r p.1)
  packet_below by (Closed why loss unposted unsent) r p = p
  packet_below by (Command interface command bytes) r p = p
  packet_below by (SetLimits enabled packet item persistence set limits) r p = p
  packet_below by (Enable packet item enabled) r p = p
  packet_below by (LimitsSetIs set) r p = p
  packet_below by (Injected packet bytes) r p = p
  packet_below by (Unrouted why bytes) r p = p
  packet_below by Stop r p = p
  packet_below by Ended r p = p

  pub all_below : (es : List Entry) → AllByRecursion can_above (routed_packets above slot es) → AllByRecursion can_below (routed_packets above slot es)
  all_below [] all = tt
  all_below (e ∷ es) all = by_test (packets_from (is_routed above slot) e) refl (all_below es)
    where
      by_test : (b : Bool) → packets_from (is_routed above slot) e ≡ b → (AllByRecursion can_above (routed_packets above slot es) → AllByRecursion can_below (routed_packets above slot es))
          → AllByRecursion can_below (routed_packets above slot (e ∷ es))
      by_test true h rec =
          let mine : AllByRecursion can_above (e ∷ routed_packets above slot es) = rw h at all in
          let r : is_routed above slot e.by ≡ true = (and_tells (is_packet e.what) (is_routed above slot e.by) h).1 in
          rw h (record { time = mine.0.time; packet = packet_below e.by e.what r mine.0.packet }, rec mine.1)
      by_test false h rec =
          let others : AllByRecursion can_above (routed_packets above slot es) = rw h at all in
          rw h (rec others)

  -- what the slot writes is what PREIDENTIFIED puts
  pub same_stream : (es : List Entry) → flat_map (λ e. bytes_or_none (spell (site_routing above) slot e)) es ≡ stream (relayed d above) es
  same_stream es = ap (λ (w : List SpecData). flat_map (λ (e : Entry). bytes_or_none (chain_spelling w (heading_of (names_in (site_routing above) e.what) (stored_of e.what) e.time) (bytes_of e.what))) es) t.writes

pub hubs_hand_on : HubsHandOn
hubs_hand_on d above slot base m history from end pieces more dids t can is runs =
    let es = routed_packets above slot (slice_range history from end) in
    are_handed_on d above base m es pieces more [] dids t.hearer (all_below d above slot base.site m t (slice_range history from end) can) (is ∙ same_stream d above slot base.site m t es) runs

pub hubs_hand_on_all : HubsHandOnAll
hubs_hand_on_all d above slot base m history from end pieces dids t can is runs =
    let es = routed_packets above slot (slice_range history from end) in
    let r = hubs_hand_on d above slot base m history from end pieces [] dids t can (append-nil _ ∙ is) runs in
    let all = only_all (relayed d above) es r.0 _ r.1 (is ∙ same_stream d above slot base.site m t es) r.2 in
    r.3 ∙ (λ i. handed_history (has_flags d.layout) m [] (all.0 i) (length (all.1 i)))
