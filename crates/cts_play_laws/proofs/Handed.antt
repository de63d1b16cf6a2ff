-- Packets are handed on.
use Rattle.std.proofs.Common.{◌≡◌, ℕ, ◌<◌, Bool, true, false, ◌&&◌, List, [], ◌∷◌, ◌++◌, ◌+◌, length, map, refl, sym, ◌∙◌, ap, subst, arith}
use Rattle.std.specs.Prelude.{not, sum_by}
use Rattle.std.proofs.lemmas.List.Sums.{sum_by-cons}
use Rattle.std.specs.List.{AllByRecursion, filter}
use Rattle.cts_connection.specs.Routings.{packet_names, site_routing}
use Rattle.cts_def.specs.Names.{names_at}
use Rattle.cts_def.specs.Packets.{DefinitionsData}
use Rattle.cts_def.specs.Protocols.{Preidentified, PreidentifiedData}
use Rattle.cts_def.specs.Sites.{SiteData, targets_at}
use Rattle.cts_def.specs.declared.ident.Ident.{Ident}
use Rattle.cts_def.specs.declared.ident.Ident.TheVariants.{Known, Unknown}
use Rattle.cts_def.specs.declared.time.Time.{Time}
use Rattle.cts_entry.specs.Histories.{bytes_for, bytes_of, stored_of}
use Rattle.cts_entry.specs.Queues.{is_refused}
use Rattle.cts_entry.specs.Workers.{is_interface}
use Rattle.cts_entry.specs.declared.entry.Entry.{Entry}
use Rattle.cts_entry.specs.declared.what.What.{What}
use Rattle.cts_entry.specs.declared.what.What.TheVariants.{Opened, Packet, Closed, Command, SetLimits, Enable, LimitsSetIs, Injected, Unrouted, Stop, Ended}
use Rattle.cts_framing.specs.Chains.{framings_at}
use Rattle.cts_framing.specs.Framing.{Output}
use Rattle.cts_framing.specs.Layouts.{has_flags}
use Rattle.cts_framing.proofs.Sound.{is_sound}
use Rattle.cts_ident.specs.Identification.{named}
use Rattle.cts_ident_laws.specs.Named.{IsNamed, IsOfTargets, outer_names}
use Rattle.cts_ident_laws.proofs.Naming.{each_at, names_are, names_are_known}
use Rattle.cts_trace_laws.specs.Packets.{FitsPacked, cut_by, taken}
use Rattle.cts_trace_laws.specs.Streams.{AreReadBack, IsReadBack, spoken}
use Rattle.cts_trace_laws.proofs.Preidentified.{read_back}
use Rattle.cts_trace.specs.Routing.{heading_of, names_in, packet_entries}
use Rattle.cts_play_laws.specs.Handing.{AreHandedOn, CanHandOn, IsHearer, IsPacketOf, IsShortTime, carried, handed, packed, relayed}
use Rattle.cts_play_laws.specs.Hearing.{IsDevice, clock_after, closed_last, first_time, opened_first}
use Rattle.cts_play_laws.proofs.Hears.{sites_hear}

-- ---- lists

pub all_filter : {X : Type 0} (P : X → Type 0) (test : X → Bool) (xs : List X) → AllByRecursion P xs → AllByRecursion P (filter test xs)
all_filter P test [] all = tt
all_filter P test (x ∷ xs) all = by_test (test x) refl (all_filter P test xs all.1)
  where
    by_test : (b : Bool) → test x ≡ b → AllByRecursion P (filter test xs) → AllByRecursion P (filter test (x ∷ xs))
    by_test true e rec = rw e (all.0, rec)
    by_test false e rec = rw e rec

pub all_map : {X : Type 0} (P Q : X → Type 0) → ((x : X) → P x → Q x) → (xs : List X) → AllByRecursion P xs → AllByRecursion Q xs
all_map P Q h [] all = tt
all_map P Q h (x ∷ xs) all = (h x all.0, all_map P Q h xs all.1)

pub all_front : {X : Type 0} (P : X → Type 0) (xs ys : List X) → AllByRecursion P (xs ++ ys) → AllByRecursion P xs
all_front P [] ys all = tt
all_front P (x ∷ xs) ys all = (all.0, all_front P xs ys all.1)

-- ---- names

module _ (d : PreidentifiedData) (above below : SiteData) (m : ℕ) (h : IsHearer d above below m) where
  abbrev targets : List (List ℕ)
  targets = targets_at below.interfaces m

  names_below : (i : Ident) → packet_names above i ≡ outer_names below.definitions i
  names_below (Known n) = ap (λ (e : DefinitionsData). names_at e.telemetry n) (sym h.definitions)
  names_below Unknown = refl

  record Short (names : List ℕ × List ℕ) : Type 0 where
    pub target : length names.0 < 256
    pub packet : length names.1 < 256

  short_names : (i : Ident) → IsOfTargets below.definitions targets i → Short (outer_names below.definitions i)
  short_names (Known n) of =
      let p = each_at IsNamed below.definitions.telemetry n of.0 h.names.each of.1 in
      subst Short (sym (names_are below.definitions n of.0 of.1)) (record { target = p.short_target; packet = p.short_name })
  short_names Unknown of = record { target = omega arith; packet = omega arith }

  ident_again : (i : Ident) → IsOfTargets below.definitions targets i → named below m (packet_names above i).0 (packet_names above i).1 ≡ i
  ident_again i of = ap (λ (t : List ℕ × List ℕ). named below m t.0 t.1) (names_below i) ∙ names_are_known below m i h.few h.names of

  -- ---- one entry

  pub fits_by : (time : Time) (what : What) → IsShortTime time → IsPacketOf below.definitions targets what
      → FitsPacked (record { heading = heading_of (names_in (site_routing above) what) (stored_of what) time; bytes = bytes_of what })
  fits_by time Opened t p = absurd p
  fits_by time (Packet ident stored bytes) t p =
      let s = subst Short (sym (names_below ident)) (short_names ident p.1) in
      record { heading = record { seconds = t.0; micros = t.1; target = s.target; packet = s.packet }; some = p.0 }
  fits_by time (Closed why loss unposted unsent) t p = absurd p
  fits_by time (Command interface command bytes) t p = absurd p
  fits_by time (SetLimits enabled packet item persistence set limits) t p = absurd p
  fits_by time (Enable packet item enabled) t p = absurd p
  fits_by time (LimitsSetIs set) t p = absurd p
  fits_by time (Injected packet bytes) t p = absurd p
  fits_by time (Unrouted why bytes) t p = absurd p
  fits_by time Stop t p = absurd p
  fits_by time Ended t p = absurd p

  abbrev pub out : Entry → Output
  out e = taken d (packed above e)

  -- what an interface says of an output with these
  abbrev said : Time → What → Entry
  said time what = record {
    by = m;
    time = time;
    what = Packet (named below m (names_in (site_routing above) what).0 (names_in (site_routing above) what).1) (has_flags d.layout && stored_of what) (bytes_of what);
  }

  said_again : (time : Time) (what : What) → IsPacketOf below.definitions targets what → said time what ≡ record { by = m; time = time; what = carried (has_flags d.layout) what }
  said_again time Opened p = absurd p
  said_again time (Packet ident stored bytes) p = ap (λ (i : Ident). record { by = m; time = time; what = Packet i (has_flags d.layout && stored) bytes }) (ident_again ident p.1)
  said_again time (Closed why loss unposted unsent) p = absurd p
  said_again time (Command interface command bytes) p = absurd p
  said_again time (SetLimits enabled packet item persistence set limits) p = absurd p
  said_again time (Enable packet item enabled) p = absurd p
  said_again time (LimitsSetIs set) p = absurd p
  said_again time (Injected packet bytes) p = absurd p
  said_again time (Unrouted why bytes) p = absurd p
  said_again time Stop p = absurd p
  said_again time Ended p = absurd p

  -- ---- all entries

  heard_again : (now : Time) (es : List Entry) → AllByRecursion (CanHandOn below.definitions targets) es → packet_entries (site_routing below) now m (map out es) ≡ map (handed (has_flags d.layout) m) es
  heard_again now [] all = refl
  heard_again now (e ∷ es) all =
      ap (λ (x : Entry). x ∷ packet_entries (site_routing below) now m (map out es)) (said_again e.time e.what all.0.packet) ∙ ap (λ (xs : List Entry). handed (has_flags d.layout) m e ∷ xs) (heard_again now es all.1)

  one_back : (e : Entry) → CanHandOn below.definitions targets e → IsReadBack (cut_by d) (relayed d above) out e
  one_back e c w is = read_back d (packed above e) (fits_by e.time e.what c.time c.packet) w is

  pub all_back : (es : List Entry) → AllByRecursion (CanHandOn below.definitions targets) es → AreReadBack (cut_by d) (relayed d above) out (spoken (relayed d above) es)
  all_back es all =
      all_map (CanHandOn below.definitions targets) (IsReadBack (cut_by d) (relayed d above) out) one_back (spoken (relayed d above) es)
      (all_filter (CanHandOn below.definitions targets) (λ e. not (is_refused (relayed d above e))) es all)

  pub device : IsDevice (is_interface below) (framings_at below) m (cut_by d)
  device = record { is_interface = h.is_interface; chain_is = h.chain; sound = is_sound (Preidentified d); all_bytes = refl }

-- and has as many bytes
pub out_bytes : (d : PreidentifiedData) (above below : SiteData) (m : ℕ) (t : IsHearer d above below m) (es : List Entry)
    → sum_by (λ (o : Output). length o.bytes) (map (out d above below m t) es) ≡ sum_by (λ (e : Entry). bytes_for e.what) es
out_bytes d above below m t [] = refl
out_bytes d above below m t (e ∷ es) =
    sum_by-cons (λ (o : Output). length o.bytes) (out d above below m t e) (map (out d above below m t) es)
    ∙ (ap (λ n. bytes_for e.what + n) (out_bytes d above below m t es) ∙ sym (sum_by-cons (λ (x : Entry). bytes_for x.what) e es))

pub are_handed_on : AreHandedOn
are_handed_on d above base m es pieces more times dids h all is runs =
    let can = CanHandOn base.site.definitions (targets_at base.site.interfaces m) in
    let heard = sites_hear base m (cut_by d) (relayed d above) (out d above base.site m h) es pieces more times dids (device d above base.site m h) (all_back d above base.site m h es all) is runs in
    let whole = all_front can heard.0 heard.2.later (subst (AllByRecursion can) heard.2.all (all_filter can (λ e. not (is_refused (relayed d above e))) es all)) in (
      heard.0,
      heard.1,
      heard.2,
      heard.3
          ∙ ap (λ (xs : List Entry). opened_first m ∷ (xs ++ closed_last m (clock_after first_time times) (length heard.1) ∷ [])) (heard_again d above base.site m h first_time heard.0 whole),
    )
