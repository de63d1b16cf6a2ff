-- The events at one entry are those of all events that name its place.
use Rattle.std.proofs.Common.{◌≡◌, ℕ, ◌+◌, ◌≤◌, ◌<◌, Bool, true, false, List, [], ◌∷◌, ◌++◌, length, Option, Some, None, refl, sym, ◌∙◌, ap, arith, append-nil, append_assoc, length-append}
use Rattle.std.specs.Prelude.{◌==◌, ◌≢◌, nat_le, slice_get, if◌then◌else◌}
use Rattle.std.specs.List.{filter}
use Rattle.std.proofs.lemmas.Bool.{eq-eqb, ne_eqb}
use Rattle.std.proofs.lemmas.Bool.Decides.{nat_tests}
use Rattle.std.proofs.lemmas.List.Elements.{filter-append}
use Rattle.cts_def.specs.Items.{ItemData}
use Rattle.cts_def.specs.Packets.{PacketData}
use Rattle.cts_def.specs.Sites.{SiteData}
use Rattle.cts_def.specs.declared.ident.Ident.{Ident}
use Rattle.cts_def.specs.declared.ident.Ident.TheVariants.{Known, Unknown}
use Rattle.cts_entry.specs.declared.entry.Entry.{Entry}
use Rattle.cts_limits.specs.declared.running.Change.{Change}
use Rattle.cts_monitor.specs.Brought.{brings}
use Rattle.cts_monitor.specs.Gathered.{gathered_from}
use Rattle.cts_monitor.specs.Settings.{Watched}
use Rattle.cts_monitor.specs.Events.{as_event, event_of, item_events, packet_events, ident_events, brought_events, events_at, events, events_from, is_from}
use Rattle.cts_monitor.specs.declared.types.LimitsEvent.{LimitsEvent}

-- those at one place
abbrev pub at_place : ℕ → LimitsEvent → Bool
at_place n event = event.at == n

-- a test that goes by the place alone takes all of the events at an entry, or none
module _ (test : LimitsEvent → Bool) (by : ℕ → Bool) (tests : (event : LimitsEvent) → test event ≡ by event.at) where
  kept_change : (b : Bool) (at packet item : ℕ) (c : Option Change) → by at ≡ b → filter test (as_event at packet item c) ≡ (if b then as_event at packet item c else [])
  kept_change true at packet item None h = refl
  kept_change false at packet item None h = refl
  kept_change true at packet item (Some c) h = ap (λ (t : Bool). if t then record { at = at; packet = packet; item = item; before = c.before; after = c.after } ∷ [] else []) (tests (record { at = at; packet = packet; item = item; before = c.before; after = c.after }) ∙ h)
  kept_change false at packet item (Some c) h = ap (λ (t : Bool). if t then record { at = at; packet = packet; item = item; before = c.before; after = c.after } ∷ [] else []) (tests (record { at = at; packet = packet; item = item; before = c.before; after = c.after }) ∙ h)

  both_if : (b : Bool) (xs ys : List LimitsEvent) → ((if b then xs else []) ++ (if b then ys else [])) ≡ (if b then xs ++ ys else [])
  both_if true xs ys = refl
  both_if false xs ys = refl

  abbrev nothing : List LimitsEvent
  nothing = []

  none_if : (b : Bool) → (if b then nothing else nothing) ≡ nothing
  none_if true = refl
  none_if false = refl

  kept_items : (b : Bool) (before : List Entry) (e : Entry) (packet : PacketData) (p i : ℕ) (items : List ItemData) → by (length before) ≡ b → filter test (item_events before e packet p i items) ≡ (if b then item_events before e packet p i items else [])
  kept_items b before e packet p i [] h = sym (none_if b)
  kept_items b before e packet p i (item ∷ items) h =
      let w : Watched = record { packet = packet; item = item; at = p; index = i } in
      filter-append test (event_of before e w) (item_events before e packet p (i + 1) items)
      ∙ (ap (λ (l : List LimitsEvent). l ++ filter test (item_events before e packet p (i + 1) items)) (kept_change b (length before) p i _ h)
      ∙ (ap (λ (l : List LimitsEvent). (if b then event_of before e w else []) ++ l) (kept_items b before e packet p (i + 1) items h) ∙ both_if b (event_of before e w) (item_events before e packet p (i + 1) items)))

  kept_packet : (b : Bool) (before : List Entry) (e : Entry) (p : ℕ) (o : Option PacketData) → by (length before) ≡ b → filter test (packet_events before e p o) ≡ (if b then packet_events before e p o else [])
  kept_packet b before e p None h = sym (none_if b)
  kept_packet b before e p (Some packet) h = kept_items b before e packet p 0 packet.items h

  kept_ident : (b : Bool) (site : SiteData) (before : List Entry) (e : Entry) (i : Ident) → by (length before) ≡ b → filter test (ident_events site before e i) ≡ (if b then ident_events site before e i else [])
  kept_ident b site before e (Known p) h = kept_packet b before e p (slice_get site.definitions.telemetry p) h
  kept_ident b site before e Unknown h = sym (none_if b)

  kept_brought : (b : Bool) (site : SiteData) (before : List Entry) (e : Entry) (o : Option (Ident × List ℕ)) → by (length before) ≡ b → filter test (brought_events site before e o) ≡ (if b then brought_events site before e o else [])
  kept_brought b site before e None h = sym (none_if b)
  kept_brought b site before e (Some x) h = kept_ident b site before e x.0 h

  kept_entry : (b : Bool) (site : SiteData) (before : List Entry) (e : Entry) → by (length before) ≡ b → filter test (events_at site before e) ≡ (if b then events_at site before e else [])
  kept_entry b site before e h = kept_brought b site before e (brings e.what) h

-- those of entries at other places
module _ (site : SiteData) (n : ℕ) where
  keeps : (event : LimitsEvent) → at_place n event ≡ (event.at == n)
  keeps event = refl

  none_before : (before rest : List Entry) → length before + length rest ≤ n → filter (at_place n) (gathered_from (events_at site) before rest) ≡ []
  unfolding gathered_from
  none_before before [] h = refl
  none_before before (e ∷ rest) h =
      let other : length before ≢ n = λ same. absurd (omega (arith, h, same)) in
      let next : length (before ++ e ∷ []) + length rest ≤ n = omega (arith, h, length-append before (e ∷ [])) in
      filter-append (at_place n) (events_at site before e) (gathered_from (events_at site) (before ++ e ∷ []) rest)
      ∙ (ap (λ (l : List LimitsEvent). l ++ filter (at_place n) (gathered_from (events_at site) (before ++ e ∷ []) rest)) (kept_entry (at_place n) (λ k. k == n) keeps false site before e (ne_eqb (length before) n other))
      ∙ none_before (before ++ e ∷ []) rest next)

  none_behind : (before rest : List Entry) → n < length before → filter (at_place n) (gathered_from (events_at site) before rest) ≡ []
  unfolding gathered_from
  none_behind before [] h = refl
  none_behind before (e ∷ rest) h =
      let other : length before ≢ n = λ same. absurd (omega (arith, h, same)) in
      let next : n < length (before ++ e ∷ []) = omega (arith, h, length-append before (e ∷ [])) in
      filter-append (at_place n) (events_at site before e) (gathered_from (events_at site) (before ++ e ∷ []) rest)
      ∙ (ap (λ (l : List LimitsEvent). l ++ filter (at_place n) (gathered_from (events_at site) (before ++ e ∷ []) rest)) (kept_entry (at_place n) (λ k. k == n) keeps false site before e (ne_eqb (length before) n other))
      ∙ none_behind (before ++ e ∷ []) rest next)

pub gathered_join : (site : SiteData) (before xs ys : List Entry) → gathered_from (events_at site) before (xs ++ ys) ≡ gathered_from (events_at site) before xs ++ gathered_from (events_at site) (before ++ xs) ys
unfolding gathered_from
gathered_join site before [] ys = ap (λ (l : List Entry). gathered_from (events_at site) l ys) (sym (append-nil before))
gathered_join site before (e ∷ xs) ys =
    ap (λ (l : List LimitsEvent). events_at site before e ++ l) (gathered_join site (before ++ e ∷ []) xs ys)
    ∙ (ap (λ (l : List Entry). events_at site before e ++ (gathered_from (events_at site) (before ++ e ∷ []) xs ++ gathered_from (events_at site) l ys)) (append_assoc before (e ∷ []) xs)
    ∙ sym (append_assoc (events_at site before e) (gathered_from (events_at site) (before ++ e ∷ []) xs) (gathered_from (events_at site) (before ++ e ∷ xs) ys)))

-- the events at an entry are those of the history that name its place
pub events_here : (site : SiteData) (h : List Entry) (e : Entry) (rest : List Entry) → filter (at_place (length h)) (events site (h ++ e ∷ rest)) ≡ events_at site h e
unfolding gathered_from
events_here site h e rest =
    let n = length h in
    let same : (n == n) ≡ true = eq-eqb n n refl in
    let tail = gathered_from (events_at site) (h ++ e ∷ []) rest in
    let here : n < length (h ++ e ∷ []) = omega (arith, length-append h (e ∷ [])) in
    ap (filter (at_place n)) (gathered_join site [] h (e ∷ rest))
    ∙ (filter-append (at_place n) (gathered_from (events_at site) [] h) (events_at site h e ++ tail)
    ∙ (ap (λ (l : List LimitsEvent). l ++ filter (at_place n) (events_at site h e ++ tail)) (none_before site n [] h (omega arith))
    ∙ (filter-append (at_place n) (events_at site h e) tail
    ∙ (ap (λ (l : List LimitsEvent). l ++ filter (at_place n) tail) (kept_entry (at_place n) (λ k. k == n) (keeps site n) true site h e same)
    ∙ (ap (λ (l : List LimitsEvent). events_at site h e ++ l) (none_behind site n (h ++ e ∷ []) rest here) ∙ append-nil (events_at site h e))))))

-- and so they are of those from an earlier place on
one_twice : (n from : ℕ) (x : LimitsEvent) (rest all : List LimitsEvent) (b : Bool) → from ≤ n → nat_le from x.at ≡ b → filter (at_place n) rest ≡ filter (at_place n) all → filter (at_place n) (if b then x ∷ rest else rest) ≡ filter (at_place n) (x ∷ all)
one_twice n from x rest all true h k more = ap (λ (l : List LimitsEvent). if at_place n x then x ∷ l else l) more
one_twice n from x rest all false h k more =
    let other : x.at ≢ n = λ same. absurd (grind (arith, nat_tests)) in
    more ∙ ap (λ (t : Bool). if t then x ∷ filter (at_place n) all else filter (at_place n) all) (sym (ne_eqb x.at n other))

filter_twice : (n from : ℕ) (xs : List LimitsEvent) → from ≤ n → filter (at_place n) (filter (is_from from) xs) ≡ filter (at_place n) xs
filter_twice n from [] h = refl
filter_twice n from (x ∷ xs) h = one_twice n from x (filter (is_from from) xs) xs (nat_le from x.at) h refl (filter_twice n from xs h)

pub events_from_here : (site : SiteData) (h : List Entry) (e : Entry) (rest : List Entry) (from : ℕ) → from ≤ length h → filter (at_place (length h)) (events_from site (h ++ e ∷ rest) from) ≡ events_at site h e
events_from_here site h e rest from le = filter_twice (length h) from (events site (h ++ e ∷ rest)) le ∙ events_here site h e rest

-- ---- those from a place on

module _ (site : SiteData) (n : ℕ) where
  from_place : (event : LimitsEvent) → is_from n event ≡ nat_le n event.at
  from_place event = refl

  pub all_from : (before rest : List Entry) → n ≤ length before → filter (is_from n) (gathered_from (events_at site) before rest) ≡ gathered_from (events_at site) before rest
  unfolding gathered_from
  all_from before [] h = refl
  all_from before (e ∷ rest) h =
      let here : nat_le n (length before) ≡ true = grind (arith, nat_tests) in
      let next : n ≤ length (before ++ e ∷ []) = omega (arith, h, length-append before (e ∷ [])) in
      filter-append (is_from n) (events_at site before e) (gathered_from (events_at site) (before ++ e ∷ []) rest)
      ∙ (ap (λ (l : List LimitsEvent). l ++ filter (is_from n) (gathered_from (events_at site) (before ++ e ∷ []) rest)) (kept_entry (is_from n) (λ k. nat_le n k) from_place true site before e here)
      ∙ ap (λ (l : List LimitsEvent). events_at site before e ++ l) (all_from (before ++ e ∷ []) rest next))

  pub none_from : (before rest : List Entry) → length before + length rest ≤ n → filter (is_from n) (gathered_from (events_at site) before rest) ≡ []
  unfolding gathered_from
  none_from before [] h = refl
  none_from before (e ∷ rest) h =
      let here : nat_le n (length before) ≡ false = grind (arith, nat_tests) in
      let next : length (before ++ e ∷ []) + length rest ≤ n = omega (arith, h, length-append before (e ∷ [])) in
      filter-append (is_from n) (events_at site before e) (gathered_from (events_at site) (before ++ e ∷ []) rest)
      ∙ (ap (λ (l : List LimitsEvent). l ++ filter (is_from n) (gathered_from (events_at site) (before ++ e ∷ []) rest)) (kept_entry (is_from n) (λ k. nat_le n k) from_place false site before e here)
      ∙ none_from (before ++ e ∷ []) rest next)

-- the events at entries after a history
pub events_behind : (site : SiteData) (h entries : List Entry) → events_from site (h ++ entries) (length h) ≡ gathered_from (events_at site) h entries
events_behind site h entries =
    ap (filter (is_from (length h))) (gathered_join site [] h entries)
    ∙ (filter-append (is_from (length h)) (gathered_from (events_at site) [] h) (gathered_from (events_at site) h entries)
    ∙ (ap (λ (l : List LimitsEvent). l ++ filter (is_from (length h)) (gathered_from (events_at site) h entries)) (none_from site (length h) [] h (omega arith))
    ∙ all_from site (length h) h entries (omega arith)))

-- all events are those from the first place on
pub events_from_first : (site : SiteData) (h : List Entry) → events_from site h 0 ≡ events site h
events_from_first site h = all_from site 0 [] h (omega arith)
