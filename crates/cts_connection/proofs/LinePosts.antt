-- What a line posts is of the site.
use Rattle.std.proofs.Common.{◌≡◌, ℕ, ◌+◌, ◌≤◌, ◌<◌, Bool, true, false, ◌||◌, List, [], ◌∷◌, ◌++◌, length, refl, sym, ◌∙◌, ap, arith, Option, Some, None}
use Rattle.std.specs.Prelude.{nat_lt, if◌then◌else◌}
use Rattle.std.proofs.lemmas.Bool.Decides.{nat_tests}
use Rattle.std.specs.List.{list_any}
use Rattle.std.proofs.lemmas.List.{length-map}
use Rattle.std.proofs.lemmas.List.Sums.{sum_by-cons}
use Rattle.std.proofs.lemmas.Option.{slice_get_within}
use Rattle.cts_def.specs.Makers.{first_slot, router_of}
use Rattle.cts_def.specs.Packets.{PacketData, is_named}
use Rattle.cts_def.specs.Sites.{IsSoundSite, SiteData, targets_at}
use Rattle.cts_def.specs.declared.ident.Ident.{Ident}
use Rattle.cts_def.specs.declared.ident.Ident.TheVariants.{Known, Unknown}
use Rattle.cts_def.specs.declared.time.Time.{Time}
use Rattle.cts_entry.specs.declared.entry.Entry.{Entry}
use Rattle.cts_entry.specs.declared.what.What.{What}
use Rattle.cts_entry.specs.declared.what.What.TheVariants.{Packet, Command, Unrouted}
use Rattle.cts_entry.specs.declared.what.NotSent.TheVariants.{NotConnected as NoConnection}
use Rattle.cts_entry.specs.Histories.{entries_for, entries_in, is_connected}
use Rattle.cts_entry.specs.Legal.{is_ended}
use Rattle.cts_entry.specs.Workers.{interface_of, is_interface, is_maker, is_slot}
use Rattle.cts_framing.specs.Framing.{Heading, Output, is_stored}
use Rattle.cts_ident.specs.Identification.{first_of, fits, router_targets}
use Rattle.cts_ident.proofs.FirstMatches.{known_is_first}
use Rattle.cts_table.specs.Keeping.{AllOfSite, IsSaid}
use Rattle.cts_trace.specs.Routing.{routed_as, said_of, sent_on, time_in, posted_entries}
use Rattle.cts_connection.specs.LinePlaces.{is_line}
use Rattle.cts_connection.specs.Routings.{ident_by, ident_of, site_routing}
use Rattle.cts_connection.specs.Takings.{entries_of}
use Rattle.cts_connection.proofs.Placing.{slot_of_line, slot_tells}

-- what a line posts is of the site, counts one each, and ends nobody
pub record AreOfLine (site : SiteData) (before entries : List Entry) (outs : List Output) : Type 0 where
  pub of_site : AllOfSite site before entries
  pub count : entries_in entries ≡ length outs
  pub lasting : list_any (λ (e : Entry). is_ended e.what) entries ≡ false

lt_tells : (m n : ℕ) → nat_lt m n ≡ true → m < n
lt_tells m n h = grind (arith, nat_tests)

lt_test : (m n : ℕ) → m < n → nat_lt m n ≡ true
lt_test m n h = grind (arith, nat_tests)

not_lt_test : (m n : ℕ) → n ≤ m → nat_lt m n ≡ false
not_lt_test m n h = grind (arith, nat_tests)

-- interfaces stand below the first slot
pub kind_is : (site : SiteData) (by : ℕ) (b : Bool) → IsSoundSite site → is_line site by ≡ true → is_interface site by ≡ b → nat_lt by first_slot ≡ b
kind_is site by true sound line e = let m = lt_tells by (length site.interfaces) e in lt_test by first_slot (omega (arith, m, sound.few_interfaces))
kind_is site by false sound line e = not_lt_test by first_slot (slot_tells site by (slot_of_line site by line e)).0

-- a number that is found is one of the definitions
found_within : (targets : List (List ℕ)) (packets : List PacketData) (test : PacketData → Bool) (n : ℕ) → first_of targets packets test ≡ Known n → n < length packets
found_within targets packets test n h =
    let first = (known_is_first targets packets test n).0 h in
    slice_get_within packets n first.match.packet first.match.at

module _ (site : SiteData) (by : ℕ) (sound : IsSoundSite site) (line : is_line site by ≡ true) where
  packet_within : (o : Output) (heading : Option Heading) (n : ℕ) → is_interface site by ≡ true → ident_by site by o.bytes heading ≡ Known n → n < length site.definitions.telemetry
  packet_within o None n e h = found_within (targets_at site.interfaces by) site.definitions.telemetry (fits o.bytes) n (rw e at h)
  packet_within o (Some heading) n e h = found_within (targets_at site.interfaces by) site.definitions.telemetry (is_named heading.target heading.packet) n (rw (kind_is site by true sound line e) at h)

  command_within : (o : Output) (heading : Option Heading) (n : ℕ) → is_interface site by ≡ false → ident_by site by o.bytes heading ≡ Known n → n < length site.definitions.commands
  command_within o None n e h = found_within (router_targets site (router_of by)) site.definitions.commands (fits o.bytes) n (rw e at h)
  command_within o (Some heading) n e h = found_within (router_targets site (router_of by)) site.definitions.commands (is_named heading.target heading.packet) n (rw (kind_is site by false sound line e) at h)

  -- what is said is of the site, counts one and ends nobody
  record Fits (before : List Entry) (what : What) : Type 0 where
    said : IsSaid site before by what
    one : entries_for what ≡ 1
    lasting : is_ended what ≡ false

  packet_fits : (before : List Entry) (i : Ident) (stored : Bool) (bytes : List ℕ) → ((n : ℕ) → i ≡ Known n → n < length site.definitions.telemetry) → Fits before (Packet i stored bytes)
  packet_fits before (Known n) stored bytes h = record { said = h n refl; one = refl; lasting = refl }
  packet_fits before Unknown stored bytes h = record { said = tt; one = refl; lasting = refl }

  sent_fits : (before history : List Entry) (to : Option ℕ) (n : ℕ) (bytes : List ℕ) → n < length site.definitions.commands → Fits before (sent_on history to n bytes)
  sent_fits before history None n bytes m = record { said = tt; one = refl; lasting = refl }
  sent_fits before history (Some interface) n bytes m = pick (is_connected interface history)
    where
      pick : (on : Bool) → Fits before (if on then Command interface n bytes else Unrouted NoConnection bytes)
      pick true = record { said = m; one = refl; lasting = refl }
      pick false = record { said = tt; one = refl; lasting = refl }

  routed_fits : (before history : List Entry) (i : Ident) (bytes : List ℕ) → ((n : ℕ) → i ≡ Known n → n < length site.definitions.commands) → Fits before (routed_as (site_routing site) history i bytes)
  routed_fits before history (Known n) bytes h = sent_fits before history (interface_of site n) n bytes (h n refl)
  routed_fits before history Unknown bytes h = record { said = tt; one = refl; lasting = refl }

  said_fits : (before history : List Entry) (o : Output) (b : Bool) → is_interface site by ≡ b → Fits before (said_of (site_routing site) history by o)
  said_fits before history o true e = rw e (packet_fits before (ident_of site by o) (is_stored o.heading) o.bytes (λ n. packet_within o o.heading n e))
  said_fits before history o false e = rw e (routed_fits before history (ident_of site by o) o.bytes (λ n. command_within o o.heading n e))

  pub makes : is_maker site by ≡ true
  makes = maker (is_slot site by) (is_interface site by) _ _ _ line
    where
      maker : (slot interface a b c : Bool) → (slot || interface) ≡ true → ((((interface || slot) || a) || b) || c) ≡ true
      maker slot interface a b c h = grind arith

  pub posted : (history before : List Entry) (now : Time) (outs : List Output) → AreOfLine site before (posted_entries (site_routing site) history now by outs) outs
  posted history before now [] = record { of_site = tt; count = refl; lasting = refl }
  posted history before now (o ∷ outs) =
      let e : Entry = record { by = by; time = time_in o.heading now; what = said_of (site_routing site) history by o } in
      let f = said_fits before history o (is_interface site by) refl in
      let more = posted history (before ++ e ∷ []) now outs in
      let rest = posted_entries (site_routing site) history now by outs in
      let step : entries_in (e ∷ rest) ≡ entries_for e.what + entries_in rest = sum_by-cons (λ (x : Entry). entries_for x.what) e rest in
      record {
        of_site = (record { maker = makes; said = f.said }, more.of_site);
        count = step ∙ omega (arith, f.one, more.count);
        lasting = ap (λ (b : Bool). b || list_any (λ (x : Entry). is_ended x.what) rest) f.lasting ∙ more.lasting;
      }

-- entries of packets count one each
pub entries_count : (site : SiteData) (by : ℕ) (history : List Entry) (now : Time) (outs : List Output) (entries : List Entry) → IsSoundSite site → is_line site by ≡ true → entries ≡ entries_of site history by now outs → entries_in entries ≡ length entries
entries_count site by history now outs entries sound line e =
    ap entries_in e ∙ ((posted site by sound line history history now outs).count ∙ (sym (length-map outs (λ (o : Output). record { by = by; time = time_in o.heading now; what = said_of (site_routing site) history by o })) ∙ sym (ap length e)))
