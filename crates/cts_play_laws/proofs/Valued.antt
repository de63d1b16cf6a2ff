-- Values, counts and limits events hang on what entries bring.
use Rattle.std.proofs.Common.{◌≡◌, ℕ, ◌+◌, Bool, false, ◌&&◌, cond, List, [], ◌∷◌, ◌++◌, length, map, refl, sym, ◌∙◌, ap, arith, append-nil, Option, Some, None}
use Rattle.std.specs.Prelude.{count_by, option_map, option_to_list, slice_get, unwrap_or}
use Rattle.std.specs.List.{AllByRecursion, filter, flat_map}
use Rattle.std.proofs.lemmas.Grind.{flat_map-append}
use Rattle.std.proofs.lemmas.List.{map-append}
use Rattle.std.proofs.lemmas.List.Sums.{sum_by-cons}
use Rattle.cts_connection.specs.Routings.{is_logged}
use Rattle.cts_def.specs.Items.{ItemData}
use Rattle.cts_def.specs.Packets.{PacketData, default_set}
use Rattle.cts_def.specs.Sites.{SiteData}
use Rattle.cts_def.specs.declared.ident.Ident.{Ident}
use Rattle.cts_def.specs.declared.ident.Ident.TheVariants.{Known, Unknown}
use Rattle.cts_def.specs.declared.limits.Limits.{Limits}
use Rattle.cts_def.specs.declared.time.Time.{Time}
use Rattle.cts_entry.specs.Histories.{latest, or_earlier, packets_from}
use Rattle.cts_entry.specs.declared.entry.Entry.{Entry}
use Rattle.cts_entry.specs.declared.what.What.{What}
use Rattle.cts_entry.specs.declared.what.What.TheVariants.{Opened, Packet, Closed, Command, SetLimits, Enable, LimitsSetIs, Injected, Unrouted, Stop, Ended}
use Rattle.cts_limits.specs.States.{Sample, change_from, state_of}
use Rattle.cts_limits.specs.declared.running.Change.{Change}
use Rattle.cts_table.specs.Lookups.{counted, every_length, is_long_of, is_short_of, packet_of}
use Rattle.cts_monitor.specs.Brought.{brings, brought_by, of_ident}
use Rattle.cts_monitor.specs.Events.{as_event, brought_events, event_of, events, events_at, ident_events, item_events, packet_events}
use Rattle.cts_monitor.specs.Gathered.{gathered_from}
use Rattle.cts_monitor.specs.Samples.{sample_at, sample_in, samples, setting_of, state_after}
use Rattle.cts_monitor.specs.Settings.{Watched, choice_told, enabling_in_what, enabling_told, first_enabled, first_persistence, limits_used, persistence_in_what, persistence_told, set_chosen, sets_in_what, sets_told, sets_with}
use Rattle.cts_monitor.specs.declared.types.LimitsEvent.{LimitsEvent}
use Rattle.cts_monitor.specs.declared.types.Setting.{Setting}
use Rattle.cts_play_laws.specs.Handing.{handed}
use Rattle.cts_play_laws.specs.Hearing.{clock_after, closed_last, first_time, opened_first}
use Rattle.cts_play_laws.specs.Values.{BroughtSaysAll, IsOfLogged, NothingIsSet, PlayedSaysSame, SetsNothing, brought, unplaced}

-- ---- current bytes and counts

abbrev one_if : Bool → ℕ
one_if b = cond b 1 0

count_more : {X : Type 0} (p : X → Bool) (x : X) (xs : List X) → count_by p (x ∷ xs) ≡ one_if (p x) + count_by p xs
count_more p x xs = sum_by-cons (λ y. cond (p y) 1 0) x xs

module _ (ident : Ident) where
  abbrev current_in : List (Ident × List ℕ) → Option (List ℕ)
  current_in bs = latest (λ b. of_ident ident (Some b)) bs

  or_none : (x : Option (List ℕ)) → or_earlier x None ≡ x
  or_none None = refl
  or_none (Some v) = refl

  current_step : (o : Option (Ident × List ℕ)) (rest : Option (List ℕ)) (bs : List (Ident × List ℕ)) → rest ≡ current_in bs → or_earlier rest (of_ident ident o) ≡ current_in (option_to_list o ++ bs)
  current_step None rest bs e = or_none rest ∙ e
  current_step (Some b) rest bs e = ap (λ (x : Option (List ℕ)). or_earlier x (of_ident ident (Some b))) e

  current_is : (h : List Entry) → latest (brought_by ident) h ≡ current_in (brought h)
  current_is [] = refl
  current_is (e ∷ h) = current_step (brings e.what) (latest (brought_by ident) h) (brought h) (current_is h)

  module _ (test : ℕ → Bool) where
    abbrev passes : Option (Ident × List ℕ) → Bool
    passes o = unwrap_or (option_map (λ bytes. test (length bytes)) (of_ident ident o)) false

    abbrev counted_in : List (Ident × List ℕ) → ℕ
    counted_in bs = count_by (λ b. passes (Some b)) bs

    count_step : (o : Option (Ident × List ℕ)) (rest : ℕ) (bs : List (Ident × List ℕ)) (all : ℕ) → rest ≡ counted_in bs → all ≡ one_if (passes o) + rest → all ≡ counted_in (option_to_list o ++ bs)
    count_step None rest bs all e f = let none : all ≡ 0 + rest = f in omega (arith, e, none)
    count_step (Some b) rest bs all e f = let more : counted_in (b ∷ bs) ≡ one_if (passes (Some b)) + counted_in bs = count_more (λ (x : Ident × List ℕ). passes (Some x)) b bs in omega (arith, e, f, more)

    counted_is : (h : List Entry) → counted ident test h ≡ counted_in (brought h)
    counted_is [] = refl
    counted_is (e ∷ h) = count_step (brings e.what) (counted ident test h) (brought h) (counted ident test (e ∷ h)) (counted_is h) (count_more (λ (x : Entry). passes (brings x.what)) e h)

-- ---- settings

record IsQuiet (p i : ℕ) (what : What) : Type 0 where
  pub set : set_chosen what ≡ None
  pub sets : sets_in_what p i what ≡ []
  pub persistence : persistence_in_what p i what ≡ None
  pub enabling : enabling_in_what p i what ≡ None

quiet : (p i : ℕ) (what : What) → SetsNothing what → IsQuiet p i what
quiet p i Opened n = record { set = refl; sets = refl; persistence = refl; enabling = refl }
quiet p i (Packet ident stored bytes) n = record { set = refl; sets = refl; persistence = refl; enabling = refl }
quiet p i (Closed why loss unposted unsent) n = record { set = refl; sets = refl; persistence = refl; enabling = refl }
quiet p i (Command interface command bytes) n = record { set = refl; sets = refl; persistence = refl; enabling = refl }
quiet p i (SetLimits enabled packet item persistence set limits) n = absurd n
quiet p i (Enable packet item enabled) n = absurd n
quiet p i (LimitsSetIs set) n = absurd n
quiet p i (Injected packet bytes) n = record { set = refl; sets = refl; persistence = refl; enabling = refl }
quiet p i (Unrouted why bytes) n = record { set = refl; sets = refl; persistence = refl; enabling = refl }
quiet p i Stop n = record { set = refl; sets = refl; persistence = refl; enabling = refl }
quiet p i Ended n = record { set = refl; sets = refl; persistence = refl; enabling = refl }

none_latest : {T : Type 0} (tells : Entry → Option T) (h : List Entry) → AllByRecursion (λ (e : Entry). tells e ≡ None) h → latest tells h ≡ None
none_latest tells [] all = refl
none_latest tells (e ∷ h) all = ap (λ x. or_earlier x (tells e)) (none_latest tells h all.1) ∙ all.0

none_told : {B : Type 0} (tells : Entry → List B) (h : List Entry) → AllByRecursion (λ (e : Entry). tells e ≡ []) h → flat_map tells h ≡ []
none_told tells [] all = refl
none_told tells (e ∷ h) all = ap (λ x. x ++ flat_map tells h) all.0 ∙ none_told tells h all.1

each : (P : What → Type 0) → ((what : What) → SetsNothing what → P what) → (h : List Entry) → NothingIsSet h → AllByRecursion (λ (e : Entry). P e.what) h
each P f [] n = tt
each P f (e ∷ h) n = (f e.what n.0, each P f h n.1)

module _ (w : Watched) where
  abbrev setting_by : Option (List ℕ) → List (List ℕ × Limits) → Option ℕ → Option Bool → Setting
  setting_by set told persistence enabling = record {
    limits = limits_used (unwrap_or set default_set) (sets_with w.item.limits told);
    persistence = unwrap_or persistence (first_persistence w.item.limits);
    enabled = unwrap_or enabling (first_enabled w.item.limits);
  }

  setting_is : (h : List Entry) → NothingIsSet h → setting_of w h ≡ setting_of w []
  setting_is h n =
      let a = none_latest choice_told h (each (λ what. set_chosen what ≡ None) (λ what q. (quiet w.at w.index what q).set) h n) in
      let b = none_told (sets_told w.at w.index) h (each (λ what. sets_in_what w.at w.index what ≡ []) (λ what q. (quiet w.at w.index what q).sets) h n) in
      let c = none_latest (persistence_told w.at w.index) h (each (λ what. persistence_in_what w.at w.index what ≡ None) (λ what q. (quiet w.at w.index what q).persistence) h n) in
      let d = none_latest (enabling_told w.at w.index) h (each (λ what. enabling_in_what w.at w.index what ≡ None) (λ what q. (quiet w.at w.index what q).enabling) h n) in
      λ i. setting_by (a i) (b i) (c i) (d i)

  -- ---- samples

  abbrev samples_in : List (Ident × List ℕ) → List Sample
  samples_in bs = flat_map (λ b. sample_in w (setting_of w []) (of_ident (Known w.at) (Some b))) bs

  sample_step : (o : Option (Ident × List ℕ)) (bs : List (Ident × List ℕ)) → sample_in w (setting_of w []) (of_ident (Known w.at) o) ++ samples_in bs ≡ samples_in (option_to_list o ++ bs)
  sample_step None bs = refl
  sample_step (Some b) bs = refl

from_none : {E B : Type 0} (f : List E → E → List B) (before : List E) → gathered_from f before [] ≡ []
unfolding gathered_from
from_none f before = refl

from_more : {E B : Type 0} (f : List E → E → List B) (before : List E) (e : E) (rest : List E) → gathered_from f before (e ∷ rest) ≡ f before e ++ gathered_from f (before ++ e ∷ []) rest
unfolding gathered_from
from_more f before e rest = refl

none_set_more : (before : List Entry) (e : Entry) → NothingIsSet before → SetsNothing e.what → NothingIsSet (before ++ e ∷ [])
none_set_more [] e n q = (q, tt)
none_set_more (x ∷ before) e n q = (n.0, none_set_more before e n.1 q)

brought_append : (h k : List Entry) → brought (h ++ k) ≡ brought h ++ brought k
brought_append h k = flat_map-append (λ (e : Entry). option_to_list (brings e.what)) h k

brought_more : (before : List Entry) (e : Entry) → brought (before ++ e ∷ []) ≡ brought before ++ option_to_list (brings e.what)
brought_more before e = brought_append before (e ∷ []) ∙ ap (λ bs. brought before ++ bs) (append-nil (option_to_list (brings e.what)))

module _ (w : Watched) where
  samples_from : (before h : List Entry) → NothingIsSet before → NothingIsSet h → gathered_from (sample_at w) before h ≡ samples_in w (brought h)
  samples_from before [] n k = from_none (sample_at w) before
  samples_from before (e ∷ h) n k =
      from_more (sample_at w) before e h
      ∙ (ap (λ (s : Setting). sample_in w s (brought_by (Known w.at) e) ++ gathered_from (sample_at w) (before ++ e ∷ []) h) (setting_is w before n)
      ∙ (ap (λ (xs : List Sample). sample_in w (setting_of w []) (brought_by (Known w.at) e) ++ xs) (samples_from (before ++ e ∷ []) h (none_set_more before e n k.0) k.1) ∙ sample_step w (brings e.what) (brought h)))

  samples_are : (h : List Entry) → NothingIsSet h → samples w h ≡ samples_in w (brought h)
  samples_are h n = samples_from [] h tt n

-- ---- events

abbrev change_of : Watched → List (Ident × List ℕ) → Ident × List ℕ → List LimitsEvent
change_of w bs b = as_event 0 w.at w.index (change_from (state_of (samples_in w bs)) (state_of (samples_in w (bs ++ b ∷ []))))

abbrev item_changes : List (Ident × List ℕ) → Ident × List ℕ → PacketData → ℕ → ℕ → List ItemData → List LimitsEvent
item_changes bs b packet p i [] = []
item_changes bs b packet p i (item ∷ items) = change_of (record { packet = packet; item = item; at = p; index = i }) bs b ++ item_changes bs b packet p (i + 1) items

abbrev packet_changes : List (Ident × List ℕ) → Ident × List ℕ → ℕ → Option PacketData → List LimitsEvent
packet_changes bs b p None = []
packet_changes bs b p (Some packet) = item_changes bs b packet p 0 packet.items

abbrev ident_changes : SiteData → List (Ident × List ℕ) → Ident × List ℕ → Ident → List LimitsEvent
ident_changes site bs b (Known p) = packet_changes bs b p (slice_get site.definitions.telemetry p)
ident_changes site bs b Unknown = []

abbrev changes_from : SiteData → List (Ident × List ℕ) → List (Ident × List ℕ) → List LimitsEvent
changes_from site before [] = []
changes_from site before (b ∷ bs) = ident_changes site before b b.0 ++ changes_from site (before ++ b ∷ []) bs

unplaced_event : (at p i : ℕ) (o : Option Change) → map unplaced (as_event at p i o) ≡ as_event 0 p i o
unplaced_event at p i None = refl
unplaced_event at p i (Some c) = refl

module _ (site : SiteData) (before : List Entry) (e : Entry) (b : Ident × List ℕ) (n : NothingIsSet before) (q : SetsNothing e.what) (is : brings e.what ≡ Some b) where
  state_before : (w : Watched) → state_after w before ≡ state_of (samples_in w (brought before))
  state_before w = ap state_of (samples_are w before n)

  state_then : (w : Watched) → state_after w (before ++ e ∷ []) ≡ state_of (samples_in w (brought before ++ b ∷ []))
  state_then w =
      ap state_of (samples_are w (before ++ e ∷ []) (none_set_more before e n q)
      ∙ ap (samples_in w) (brought_more before e ∙ ap (λ (o : Option (Ident × List ℕ)). brought before ++ option_to_list o) is))

  one_event : (w : Watched) → map unplaced (event_of before e w) ≡ change_of w (brought before) b
  one_event w =
      unplaced_event (length before) w.at w.index (change_from (state_after w before) (state_after w (before ++ e ∷ [])))
      ∙ (λ i. as_event 0 w.at w.index (change_from (state_before w i) (state_then w i)))

  items_are : (packet : PacketData) (p i : ℕ) (items : List ItemData) → map unplaced (item_events before e packet p i items) ≡ item_changes (brought before) b packet p i items
  items_are packet p i [] = refl
  items_are packet p i (item ∷ items) =
      let w : Watched = record { packet = packet; item = item; at = p; index = i } in
      map-append unplaced (event_of before e w) (item_events before e packet p (i + 1) items) ∙ (λ j. one_event w j ++ items_are packet p (i + 1) items j)

  packet_is : (p : ℕ) (o : Option PacketData) → map unplaced (packet_events before e p o) ≡ packet_changes (brought before) b p o
  packet_is p None = refl
  packet_is p (Some packet) = items_are packet p 0 packet.items

  ident_is : (i : Ident) → map unplaced (ident_events site before e i) ≡ ident_changes site (brought before) b i
  ident_is (Known p) = packet_is p (slice_get site.definitions.telemetry p)
  ident_is Unknown = refl

module _ (site : SiteData) where
  events_step : (before : List Entry) (e : Entry) (o : Option (Ident × List ℕ)) → brings e.what ≡ o → NothingIsSet before → SetsNothing e.what → (rest : List (Ident × List ℕ)) (more : List LimitsEvent)
      → more ≡ changes_from site (brought before ++ option_to_list o) rest → map unplaced (brought_events site before e o) ++ more ≡ changes_from site (brought before) (option_to_list o ++ rest)
  events_step before e None is n q rest more m = m ∙ ap (λ bs. changes_from site bs rest) (append-nil (brought before))
  events_step before e (Some b) is n q rest more m = λ i. ident_is site before e b n q is b.0 i ++ m i

  events_go : (before h : List Entry) → NothingIsSet before → NothingIsSet h → map unplaced (gathered_from (events_at site) before h) ≡ changes_from site (brought before) (brought h)
  events_go before [] n k = ap (map unplaced) (from_none (events_at site) before)
  events_go before (e ∷ h) n k =
      let rest : map unplaced (gathered_from (events_at site) (before ++ e ∷ []) h) ≡ changes_from site (brought before ++ option_to_list (brings e.what)) (brought h) =
      events_go (before ++ e ∷ []) h (none_set_more before e n k.0) k.1 ∙ ap (λ bs. changes_from site bs (brought h)) (brought_more before e) in
      ap (map unplaced) (from_more (events_at site) before e h)
      ∙ (map-append unplaced (events_at site before e) (gathered_from (events_at site) (before ++ e ∷ []) h)
      ∙ events_step before e (brings e.what) refl n k.0 (brought h) (map unplaced (gathered_from (events_at site) (before ++ e ∷ []) h)) rest)

  events_are : (h : List Entry) → NothingIsSet h → map unplaced (events site h) ≡ changes_from site [] (brought h)
  events_are h n = events_go [] h tt n

pub brought_says_all : BroughtSaysAll
brought_says_all site h k n m e = record {
  current = λ p. current_is (Known p) h ∙ (ap (current_in (Known p)) e ∙ sym (current_is (Known p) k));
  counts = λ i.
      let by : (test : ℕ → Bool) → counted i test h ≡ counted i test k = λ test. counted_is i test h ∙ (ap (counted_in i test) e ∙ sym (counted_is i test k)) in
      λ j. record { received = by every_length j; short = by (is_short_of (packet_of site i)) j; long = by (is_long_of (packet_of site i)) j };
  events_are = events_are site h n ∙ (ap (changes_from site []) e ∙ sym (events_are site k m));
}

-- ---- a log that is played

module _ (flagged : Bool) (logged : ℕ → Bool) where
  abbrev are_played : List Entry → List Entry
  are_played h = map (handed flagged 0) (filter (packets_from logged) h)

  record IsPlayed (before after : List Entry) : Type 0 where
    pub brought_are : brought before ≡ brought after
    pub before_sets : NothingIsSet before
    pub after_sets : NothingIsSet after

  -- a packet whose stored flag is carried brings what it brought
  brought_more_of : (ident : Ident) (stored : Bool) (bytes : List ℕ) (h k : List Entry) → (flagged && stored) ≡ stored → brought h ≡ brought k
      → option_to_list (brings (Packet ident stored bytes)) ++ brought h ≡ option_to_list (brings (Packet ident (flagged && stored) bytes)) ++ brought k
  brought_more_of ident stored bytes h k e r =
      (λ i. option_to_list (brings (Packet ident ((sym e) i) bytes)) ++ r i)

  one_played : (by : ℕ) (time : Time) (what : What) (h : List Entry) → IsOfLogged flagged logged by what → IsPlayed h (are_played h)
      → IsPlayed (record { by = by; time = time; what = what } ∷ h) (are_played (record { by = by; time = time; what = what } ∷ h))
  one_played by time Opened h o r = record { brought_are = r.brought_are; before_sets = (tt, r.before_sets); after_sets = r.after_sets }
  one_played by time (Packet ident stored bytes) h o r =
      rw o.0 (record {
        brought_are = brought_more_of ident stored bytes h (are_played h) o.1 r.brought_are;
        before_sets = (tt, r.before_sets);
        after_sets = (tt, r.after_sets);
      })
  one_played by time (Closed why loss unposted unsent) h o r = record { brought_are = r.brought_are; before_sets = (tt, r.before_sets); after_sets = r.after_sets }
  one_played by time (Command interface command bytes) h o r = record { brought_are = r.brought_are; before_sets = (tt, r.before_sets); after_sets = r.after_sets }
  one_played by time (SetLimits enabled packet item persistence set limits) h o r = absurd o
  one_played by time (Enable packet item enabled) h o r = absurd o
  one_played by time (LimitsSetIs set) h o r = absurd o
  one_played by time (Injected packet bytes) h o r = absurd o
  one_played by time (Unrouted why bytes) h o r = record { brought_are = r.brought_are; before_sets = (tt, r.before_sets); after_sets = r.after_sets }
  one_played by time Stop h o r = record { brought_are = r.brought_are; before_sets = (tt, r.before_sets); after_sets = r.after_sets }
  one_played by time Ended h o r = record { brought_are = r.brought_are; before_sets = (tt, r.before_sets); after_sets = r.after_sets }

  all_played : (h : List Entry) → AllByRecursion (λ (e : Entry). IsOfLogged flagged logged e.by e.what) h → IsPlayed h (are_played h)
  all_played [] all = record { brought_are = refl; before_sets = tt; after_sets = tt }
  all_played (e ∷ h) all = one_played e.by e.time e.what h all.0 (all_played h all.1)

pub played_says_same : PlayedSaysSame
played_says_same flagged site history times all =
    let r = all_played flagged (is_logged site) history all in
    let es = are_played flagged (is_logged site) history in
    let last = closed_last 0 (clock_after first_time times) 0 in
    brought_says_all site history (opened_first 0 ∷ (es ++ last ∷ [])) r.before_sets (tt, none_set_more es last r.after_sets tt) (r.brought_are ∙ (sym (append-nil (brought es)) ∙ sym (brought_append es (last ∷ []))))
