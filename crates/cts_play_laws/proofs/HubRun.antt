-- A run of a hub, over the run above it.
use Rattle.std.proofs.Common.{◌≡◌, ℕ, zero, suc, ◌+◌, ◌-◌, ◌≤◌, ◌==◌, ◌||◌, inl, inr, Bool, true, false, List, [], ◌∷◌, ◌++◌, length, map, take, drop, refl, sym, ◌∙◌, ap, subst, arith, append-nil, append_assoc, length-append}
use Rattle.std.specs.Prelude.{nat_le, nat_lt, not, slice_range, sum_by}
use Rattle.std.specs.List.{AllByRecursion, filter, list_all, list_any}
use Rattle.std.proofs.lemmas.List.{drop_at, length-map}
use Rattle.std.proofs.lemmas.List.Sums.{sum_by-append, sum_by-cons, sum_by-take-le}
use Rattle.cts_connection.specs.Routings.{is_routed, site_routing}
use Rattle.cts_core.specs.Environments.{basis_of, site_environment}
use Rattle.cts_core.specs.Runs.{Did, Ending, Finished, Runs}
use Rattle.cts_core.specs.States.{is_line, opening}
use Rattle.cts_core_laws.specs.Told.{history_of, told}
use Rattle.cts_core_laws.proofs.Legality.{core_is_legal}
use Rattle.cts_core_laws.proofs.SiteSound.{apart, by_desks, legally, site_sound}
use Rattle.cts_core_laws.proofs.Telling.{core_is_told}
use Rattle.cts_def.specs.Makers.{first_slot, router_of}
use Rattle.cts_def.specs.Protocols.{PreidentifiedData}
use Rattle.cts_def.specs.Sites.{IsSoundSite, RouterData, SiteData, routes_within, targets_at}
use Rattle.cts_entry.specs.Histories.{bytes_for, bytes_in, entries_for, entries_in, is_packet, packets_from}
use Rattle.cts_entry.specs.Queues.{is_refused}
use Rattle.cts_entry.specs.Workers.{is_interface, is_slot}
use Rattle.cts_entry.specs.declared.entry.Entry.{Entry}
use Rattle.cts_entry.specs.declared.event.Event.{Event}
use Rattle.cts_entry.specs.declared.what.What.{What}
use Rattle.cts_entry.specs.declared.what.What.TheVariants.{Opened, Packet, Closed, Command, SetLimits, Enable, LimitsSetIs, Injected, Unrouted, Stop, Ended}
use Rattle.cts_framing.specs.Framing.{Output}
use Rattle.cts_framing.specs.Packets.{joined}
use Rattle.cts_framing.proofs.Fronts.{and_tells, le_tells, not_lt_test, same_tells}
use Rattle.cts_ident.specs.Identification.{routes_at}
use Rattle.cts_trace_laws.specs.Packets.{cut_by}
use Rattle.cts_trace_laws.specs.Streams.{spoken}
use Rattle.cts_trace.specs.Routing.{spell}
use Rattle.cts_trace.specs.Streams.{routed}
use Rattle.cts_play_laws.specs.Handing.{CanHandOn, IsHearer, IsPacketOf, IsShortTime, relayed}
use Rattle.cts_play_laws.specs.Hearing.{HasRoomFor, MayCome, hearing}
use Rattle.cts_play_laws.specs.Hubs.{AreTied, CanBeRouted, HandsOn, HaveShortTimes, HubsRun, IsStretch, routed_packets}
use Rattle.cts_play_laws.specs.Keeping.{HaveStages, IsOfMaker}
use Rattle.cts_play_laws.proofs.Ends.{sites_end}
use Rattle.cts_play_laws.proofs.Handed.{all_back, device, out, out_bytes}
use Rattle.cts_play_laws.proofs.Hubbing.{all_below, hubs_hand_on, same_stream}
use Rattle.cts_play_laws.proofs.Kept.{runs_keep_packets}
use Rattle.cts_play_laws.proofs.Put.{last_put_is_routed}

-- ---- lists

all_take : {X : Type 0} (P : X → Type 0) (n : ℕ) (xs : List X) → AllByRecursion P xs → AllByRecursion P (take n xs)
all_take P zero xs all = tt
all_take P (suc n) [] all = tt
all_take P (suc n) (x ∷ xs) all = (all.0, all_take P n xs all.1)

all_drop : {X : Type 0} (P : X → Type 0) (n : ℕ) (xs : List X) → AllByRecursion P xs → AllByRecursion P (drop n xs)
all_drop P zero xs all = all
all_drop P (suc n) [] all = tt
all_drop P (suc n) (x ∷ xs) all = all_drop P n xs all.1

filter_weighs : {X : Type 0} (f : X → ℕ) (test : X → Bool) (xs : List X) → sum_by f (filter test xs) ≤ sum_by f xs
filter_weighs f test [] = omega arith
filter_weighs f test (x ∷ xs) = weighs_by (test x) refl (filter_weighs f test xs)
  where
    weighs_by : (b : Bool) → test x ≡ b → sum_by f (filter test xs) ≤ sum_by f xs → sum_by f (filter test (x ∷ xs)) ≤ sum_by f (x ∷ xs)
    weighs_by true e rec = rw e (omega (arith, rec, sum_by-cons f x (filter test xs), sum_by-cons f x xs))
    weighs_by false e rec = rw e (omega (arith, rec, sum_by-cons f x xs))

filter_short : {X : Type 0} (test : X → Bool) (xs : List X) → length (filter test xs) ≤ length xs
filter_short test [] = omega arith
filter_short test (x ∷ xs) = short_by (test x) refl (filter_short test xs)
  where
    short_by : (b : Bool) → test x ≡ b → length (filter test xs) ≤ length xs → length (filter test (x ∷ xs)) ≤ length (x ∷ xs)
    short_by true e rec = rw e (omega (arith, rec))
    short_by false e rec = rw e (omega (arith, rec))

-- a packet counts in a history
packet_counts : (what : What) → is_packet what ≡ true → entries_for what ≡ 1
packet_counts Opened h = refl
packet_counts (Packet ident stored bytes) h = refl
packet_counts (Closed why loss unposted unsent) h = cc
packet_counts (Command interface command bytes) h = refl
packet_counts (SetLimits enabled packet item persistence set limits) h = refl
packet_counts (Enable packet item enabled) h = refl
packet_counts (LimitsSetIs set) h = refl
packet_counts (Injected packet bytes) h = refl
packet_counts (Unrouted why bytes) h = refl
packet_counts Stop h = cc
packet_counts Ended h = cc

packets_few : (makers : ℕ → Bool) (es : List Entry) → length (filter (packets_from makers) es) ≤ entries_in es
packets_few makers [] = omega arith
packets_few makers (e ∷ es) = few_by (packets_from makers e) refl (packets_few makers es)
  where
    few_by : (b : Bool) → packets_from makers e ≡ b → length (filter (packets_from makers) es) ≤ entries_in es → length (filter (packets_from makers) (e ∷ es)) ≤ entries_in (e ∷ es)
    few_by true h rec =
        let one : entries_for e.what ≡ 1 = packet_counts e.what (and_tells (is_packet e.what) (makers e.by) h).0 in
        let step : entries_in (e ∷ es) ≡ entries_for e.what + entries_in es = sum_by-cons (λ (x : Entry). entries_for x.what) e es in
        rw h (omega (arith, rec, one, step))
    few_by false h rec =
        let step : entries_in (e ∷ es) ≡ entries_for e.what + entries_in es = sum_by-cons (λ (x : Entry). entries_for x.what) e es in
        rw h (omega (arith, rec, step))

-- ---- routed interfaces are interfaces

in_routes : (k by : ℕ) (routes : List ℕ) → list_all (λ n. nat_lt n k) routes ≡ true → list_any (λ n. n == by) routes ≡ true → nat_lt by k ≡ true
in_routes k by [] all any = cc
in_routes k by (n ∷ routes) all any = in_by (n == by) refl (λ rest. in_routes k by routes (and_tells (nat_lt n k) (list_all (λ x. nat_lt x k) routes) all).1 rest)
  where
    in_by : (b : Bool) → (n == by) ≡ b → (list_any (λ x. x == by) routes ≡ true → nat_lt by k ≡ true) → nat_lt by k ≡ true
    in_by true e rec = ap (λ x. nat_lt x k) (sym (same_tells n by e)) ∙ (and_tells (nat_lt n k) (list_all (λ x. nat_lt x k) routes) all).0
    in_by false e rec = rec (ap (λ (b : Bool). b || list_any (λ x. x == by) routes) (sym e) ∙ any)

routes_low : (k by : ℕ) (routers : List RouterData) (r : ℕ) → list_all (routes_within k) routers ≡ true → list_any (λ n. n == by) (routes_at routers r) ≡ true → nat_lt by k ≡ true
routes_low k by [] zero all any = cc
routes_low k by [] (suc r) all any = cc
routes_low k by (x ∷ routers) zero all any = in_routes k by x.routes (and_tells (routes_within k x) (list_all (routes_within k) routers) all).0 any
routes_low k by (x ∷ routers) (suc r) all any = routes_low k by routers r (and_tells (routes_within k x) (list_all (routes_within k) routers) all).1 any

-- ---- what is routed can be handed on

is_of_maker : (site : SiteData) (by : ℕ) (what : What) → is_packet what ≡ true → IsOfMaker site by what → IsPacketOf site.definitions (targets_at site.interfaces by) what
is_of_maker site by Opened p m = cc
is_of_maker site by (Packet ident stored bytes) p m = m
is_of_maker site by (Closed why loss unposted unsent) p m = cc
is_of_maker site by (Command interface command bytes) p m = cc
is_of_maker site by (SetLimits enabled packet item persistence set limits) p m = cc
is_of_maker site by (Enable packet item enabled) p m = cc
is_of_maker site by (LimitsSetIs set) p m = cc
is_of_maker site by (Injected packet bytes) p m = cc
is_of_maker site by (Unrouted why bytes) p m = cc
is_of_maker site by Stop p m = cc
is_of_maker site by Ended p m = cc

module _ (above : SiteData) (sound : IsSoundSite above) (slot : ℕ) where
  abbrev Kept : Entry → Type 0
  Kept e = is_interface above e.by ≡ true → IsOfMaker above e.by e.what

  abbrev Can : Entry → Type 0
  Can e = CanHandOn above.definitions (targets_at above.interfaces e.by) e

  can_route : (es : List Entry) → AllByRecursion Kept es → HaveShortTimes es → CanBeRouted above slot es
  can_route [] kept short = tt
  can_route (e ∷ es) kept short = can_by (packets_from (is_routed above slot) e) refl (can_route es kept.1 short.1)
    where
      can_by : (b : Bool) → packets_from (is_routed above slot) e ≡ b → AllByRecursion Can (routed_packets above slot es) → AllByRecursion Can (routed_packets above slot (e ∷ es))
      can_by true h rec =
          let both = and_tells (is_packet e.what) (is_routed above slot e.by) h in
          let any = (and_tells (is_slot above slot) (list_any (λ n. n == e.by) (routes_at above.routers (router_of slot))) both.1).1 in
          let line : is_interface above e.by ≡ true = routes_low (length above.interfaces) e.by above.routers (router_of slot) sound.routes any in
          rw h (record { time = short.0; packet = is_of_maker above e.by e.what both.0 (kept.0 line) }, rec)
      can_by false h rec = rw h rec

-- ---- room below

module _ (d : PreidentifiedData) (above below : SiteData) (m slot : ℕ) (t : IsHearer d above below m) where
  abbrev given : List Entry → List Output
  given xs = map (out d above below m t) (spoken (relayed d above) (routed_packets above slot xs))

  given_few : (xs : List Entry) → length (given xs) ≤ entries_in xs
  given_few xs =
      omega (
        arith,
        length-map (spoken (relayed d above) (routed_packets above slot xs)) (out d above below m t),
        filter_short (λ e. not (is_refused (relayed d above e))) (routed_packets above slot xs),
        packets_few (is_routed above slot) xs,
      )

  given_short : (xs : List Entry) → sum_by (λ (o : Output). length o.bytes) (given xs) ≤ bytes_in xs
  given_short xs =
      omega (
        arith,
        out_bytes d above below m t (spoken (relayed d above) (routed_packets above slot xs)),
        filter_weighs (λ (e : Entry). bytes_for e.what) (λ e. not (is_refused (relayed d above e))) (routed_packets above slot xs),
        filter_weighs (λ (e : Entry). bytes_for e.what) (packets_from (is_routed above slot)) xs,
      )

  room_in : (before later : List Entry) (opened : Entry) (history : List Entry) (end most many : ℕ) → history ≡ before ++ opened ∷ later → opened.what ≡ Opened → entries_in history ≤ most → bytes_in history ≤ many
      → HasRoomFor most many (given (slice_range history (length before + 1) end))
  room_in before later opened history end most many e o entries bytes =
      let n : ℕ = end - (length before + 1) in
      let split : history ≡ (before ++ opened ∷ []) ++ later = e ∙ sym (append_assoc before (opened ∷ []) later) in
      let cut : slice_range history (length before + 1) end ≡ take n later =
      ap (λ (es : List Entry). slice_range es (length before + 1) end) split ∙ ap (take n) (drop_at (before ++ opened ∷ []) later (length before + 1) (length-append before (opened ∷ []))) in
      let one : entries_for opened.what ≡ 1 = ap entries_for o in
      let all_entries : entries_in history ≡ entries_in before + entries_in (opened ∷ later) = ap entries_in e ∙ sum_by-append (λ (x : Entry). entries_for x.what) before (opened ∷ later) in
      let more_entries : entries_in (opened ∷ later) ≡ entries_for opened.what + entries_in later = sum_by-cons (λ (x : Entry). entries_for x.what) opened later in
      let all_bytes : bytes_in history ≡ bytes_in before + bytes_in (opened ∷ later) = ap bytes_in e ∙ sum_by-append (λ (x : Entry). bytes_for x.what) before (opened ∷ later) in
      let more_bytes : bytes_in (opened ∷ later) ≡ bytes_for opened.what + bytes_in later = sum_by-cons (λ (x : Entry). bytes_for x.what) opened later in
      let few : entries_in (take n later) ≤ entries_in later = sum_by-take-le (λ (x : Entry). entries_for x.what) later n in
      let light : bytes_in (take n later) ≤ bytes_in later = sum_by-take-le (λ (x : Entry). bytes_for x.what) later n in
      subst (λ (xs : List Entry). HasRoomFor most many (given xs)) (sym cut)
      (record {
        few = omega (arith, given_few (take n later), few, all_entries, more_entries, one, entries);
        short = omega (arith, given_short (take n later), light, all_bytes, more_bytes, bytes);
      })

-- ---- the run below

module _ (d : PreidentifiedData) (above below : SiteData) (slot m : ℕ) (events : List Event) (dids : List Did) (ending : Ending) (pieces : List (List ℕ)) (below_dids : List Did) (below_ending : Ending)
    (sound : IsSoundSite above) (stages : HaveStages above) (t : AreTied d above slot below m) (is_there : is_slot above slot ≡ true) (short : HaveShortTimes (history_of dids))
    (runs : Runs (site_environment above) opening events dids ending) (come : MayCome pieces)
    (runs_below : Runs (site_environment below) opening (hearing m pieces []) below_dids below_ending) where
  hub_in : (from end : ℕ) (more : List ℕ) → IsStretch slot (history_of dids) from end
      → joined pieces ++ more ≡ routed (spell (site_routing above) slot) (is_routed above slot) (history_of dids) from end
      → HasRoomFor 4000000 1073741824 (given d above below m slot t.hearer (slice_range (history_of dids) from end))
      → (below_ending ≡ Finished) × HandsOn d above slot m (history_of dids) (joined pieces) (history_of below_dids)
  hub_in from end more stretch is room =
      let history = history_of dids in
      let xs = slice_range history from end in
      let kept = runs_keep_packets (basis_of above) events dids ending sound stages runs in
      let can = can_route above sound slot xs (all_take (Kept above sound slot) (end - from) (drop from history) (all_drop (Kept above sound slot) from history kept))
      (all_take (λ (e : Entry). IsShortTime e.time) (end - from) (drop from history) (all_drop (λ (e : Entry). IsShortTime e.time) from history short)) in
      let es = routed_packets above slot xs in
      let back = all_back d above below m t.hearer es (all_below d above slot below m t xs can) in
      let done : below_ending ≡ Finished =
      sites_end (basis_of below) m (cut_by d) (relayed d above) (out d above below m t.hearer) es pieces more [] below_dids below_ending (device d above below m t.hearer) back (is ∙ same_stream d above slot below m t es) come tt room runs_below in
      let r = hubs_hand_on d above slot (basis_of below) m history from end pieces more below_dids t can is (subst (Runs (site_environment below) opening (hearing m pieces []) below_dids) done runs_below) in
      (done, record { from = from; end = end; stretch = stretch; whole = r.0; rest = r.1; holds = r.2; below_is = r.3 })

pub hubs_run : HubsRun
hubs_run d above below slot m events dids ending pieces below_dids below_ending sound stages t is_there short runs bytes come runs_below =
    let base = basis_of above in
    let high : first_slot ≤ slot = le_tells first_slot slot (and_tells (nat_le first_slot slot) (nat_lt (router_of slot) (length above.routers)) is_there).0 in
    let line : is_line (site_environment above) slot ≡ true = ap (λ (b : Bool). b || is_interface above slot) is_there in
    let off : is_interface above slot ≡ false = not_lt_test slot (length above.interfaces) (omega (arith, high, sound.few_interfaces)) in
    let history_told = core_is_told (site_environment above) (site_sound base) (by_desks base) events dids ending slot (apart base sound) line runs in
    let legal = core_is_legal base (legally base) events dids ending runs in
    let go = hub_in d above below slot m events dids ending pieces below_dids below_ending sound stages t is_there short runs come runs_below in
    elim (last_put_is_routed (site_routing above) slot (history_of dids) (told slot events dids) off history_told) [
      | inl none ↦ go 0 0 [] (inl (refl, refl)) (append-nil (joined pieces) ∙ (bytes ∙ none)) (record { few = omega arith; short = omega arith })
      | inr b ↦
          go (length b.before + 1) b.end b.more (inr (b.before, b.opened, b.later, b.history_is, b.opens, refl, b.within)) (ap (λ (v : List ℕ). v ++ b.more) bytes ∙ b.all)
          (room_in d above below m slot t.hearer b.before b.later b.opened (history_of dids) b.end 4000000 1073741824 b.history_is b.opens.what_is legal.entries legal.bytes)
    ]
