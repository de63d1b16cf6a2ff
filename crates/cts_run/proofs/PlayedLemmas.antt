-- The playback of a file is one, and there is one.
use Rattle.std.proofs.Common.{◌≡◌, ℕ, Bool, true, List, [], ◌∷◌, ◌++◌, length, nat_eq, Option, Some, None, Result, Err, refl, sym, ◌∙◌, ap, ap₂, subst, arith, inl, inr}
use Rattle.std.specs.Prelude.{is_some, min}
use Rattle.std.specs.List.{flat_map}
use Rattle.std.proofs.lemmas.Bool.Decides.{nat_tests}
use Rattle.std.proofs.lemmas.Grind.{flat_map-append}
use Rattle.cts_core.specs.Environments.{basis_of, site_environment}
use Rattle.cts_core.specs.Runs.{Did, Ending, Finished, Runs}
use Rattle.cts_core.specs.States.{opening}
use Rattle.cts_core_laws.proofs.Legality.{core_is_legal}
use Rattle.cts_core_laws.proofs.OneRun.{has_one_run, has_run}
use Rattle.cts_core_laws.proofs.SiteSound.{legally, site_sound}
use Rattle.cts_core_laws.specs.Told.{history_of}
use Rattle.cts_def.specs.Sites.{SiteData}
use Rattle.cts_def.specs.declared.time.Time.{Time}
use Rattle.cts_entry.specs.declared.entry.Entry.{Entry}
use Rattle.cts_entry.specs.declared.event.Event.{Event}
use Rattle.cts_entry.specs.declared.event.Event.TheVariants.{Opens}
use Rattle.cts_framing.specs.Layouts.{has_flags}
use Rattle.cts_framing.specs.Packets.{joined}
use Rattle.cts_log.specs.Files.{kind_of, layout_of, log_head_len}
use Rattle.cts_log.specs.Logged.{Logged, entry_bytes}
use Rattle.cts_log.specs.Reading.{IsLogRead, ReaderData, flagged}
use Rattle.cts_log.specs.declared.kind.LogKind.{LogKind}
use Rattle.cts_log.specs.declared.kind.LogKind.TheVariants.{Tlm, Cmd}
use Rattle.cts_log.proofs.ReadOnce.{begins_to_read, logs_are_read_once}
use Rattle.cts_play.specs.Played.{played}
use Rattle.cts_play_laws.specs.Files.{HaveRoom, IsLogOf}
use Rattle.cts_play_laws.specs.Handing.{handed_history}
use Rattle.cts_play_laws.specs.Hearing.{hearing}
use Rattle.cts_play_laws.specs.Plays.{logged_packets}
use Rattle.cts_play_laws.specs.Values.{SaySame}
use Rattle.cts_play_laws.proofs.Filed.{log_files_are_played, log_files_are_read, log_files_end}
use Rattle.cts_play_laws.proofs.Valued.{played_says_same}
use Rattle.cts_run.specs.Acts.{Act, puts, put_by, text_of}
use Rattle.cts_run.specs.Dump.{dump_answer}
use Rattle.cts_run.specs.Play.{AreEvents, IsPlay, IsPlayed, IsPlayedHistory, closing_events, end_acts, last_time, packets_halt, play_acts, play_answer, play_run, text_acts}
use Rattle.cts_run.specs.Transcript.{event_text, transcript}
use Rattle.cts_run.specs.declared.halt.Halt.{Halt}
use Rattle.cts_run.specs.declared.halt.Halt.TheVariants as halt
use Rattle.cts_run.proofs.DumpLemmas.{ahead}
use Rattle.cts_run.proofs.EventLemmas.{last_set, one_events, pieces_of, some_events}
use Rattle.cts_run.proofs.ExtractLemmas.{kind_read}
use Rattle.cts_run.proofs.LogLemmas.{text_puts}
use Rattle.cts_run.proofs.PlayLemmas.{flags_again}

-- ---- what is put

texts_are : (site : SiteData) (history : List Entry) (dids : List Did) → text_of (text_acts site history dids) ≡ transcript site history dids
texts_are site history [] = refl
texts_are site history (did ∷ dids) =
    flat_map-append put_by (puts (event_text site history did)) (text_acts site (history ++ did.entries) dids)
    ∙ ap₂ ◌++◌ (text_puts (event_text site history did)) (texts_are site (history ++ did.entries) dids)

pub all_text : (site : SiteData) (whole : Bool) (dids : List Did) (ending : Ending) → text_of (play_acts site whole dids ending) ≡ transcript site [] dids ++ text_of (end_acts whole dids ending)
all_text site whole dids ending =
    flat_map-append put_by (text_acts site [] dids) (end_acts whole dids ending) ∙ ap (λ (t : List ℕ). t ++ text_of (end_acts whole dids ending)) (texts_are site [] dids)

-- ---- a run of a file's entries is its playback

whole_place : (place n : ℕ) → place ≡ n → nat_eq place n ≡ true
whole_place place n e = grind (arith, nat_tests)

module _ (site : SiteData) (file : List ℕ) (fl : Bool) (entries : List Logged) (place : ℕ) (read : IsLogRead file Tlm fl entries place) (events : List Event) (are : AreEvents fl entries events)
    (dids : List Did) (ending : Ending) (runs : Runs (site_environment (played (layout_of fl) site)) opening (play_run (nat_eq place (length file)) (last_time entries) events) dids ending) where
  abbrev on : SiteData
  on = played (layout_of fl) site

  abbrev times : List Time
  times = last_time entries

  -- the pieces, laid out as the law has them
  pieces : List (List ℕ)
  pieces = (pieces_of fl entries events are).pieces

  bytes_are : joined pieces ≡ flat_map (entry_bytes (has_flags (layout_of fl))) entries
  unfolding pieces
  bytes_are = (pieces_of fl entries events are).bytes_are ∙ ap (λ (b : Bool). flat_map (entry_bytes b) entries) (sym (flags_again fl))

  -- where the file is the log of a history, it is whole, so that the peer ends
  heard : (history : List Entry) → IsLogOf (layout_of fl) site history file → Runs (site_environment on) opening (hearing 0 pieces times) dids ending
  unfolding pieces
  heard history is =
      let end : place ≡ length file = (log_files_are_read (layout_of fl) site history file Tlm fl entries place is read).3 in
      let run = subst (λ (b : Bool). Runs (site_environment on) opening (play_run b times events) dids ending) (whole_place place (length file) end) runs in
      subst (λ (es : List Event). Runs (site_environment on) opening (Opens 0 ∷ (es ++ closing_events times)) dids ending) (pieces_of fl entries events are).events_are run

  ends : (history : List Entry) → IsLogOf (layout_of fl) site history file → HaveRoom (logged_packets site history) → ending ≡ Finished
  unfolding pieces
  ends history is room =
      log_files_end (layout_of fl) site history file Tlm fl entries place pieces times dids ending is read bytes_are (pieces_of fl entries events are).come (last_set entries) room (heard history is)

  again : (history : List Entry) → IsLogOf (layout_of fl) site history file → ending ≡ Finished → IsPlayedHistory fl times (logged_packets site history) (history_of dids)
  again history is e =
      let run = subst (λ (x : Ending). Runs (site_environment on) opening (hearing 0 pieces times) dids x) e (heard history is) in
      log_files_are_played (layout_of fl) site history file Tlm fl entries place pieces times dids is read bytes_are run
      ∙ ap (λ (b : Bool). handed_history b 0 times (logged_packets site history) 0) (flags_again fl)

  pub played_is : IsPlayed site file (play_acts (played (layout_of fl) site) (nat_eq place (length file)) dids ending) (play_answer (dump_answer place (length file)) dids ending)
  played_is = record {
    flagged = fl;
    entries = entries;
    place = place;
    read = read;
    events = events;
    events_are = are;
    dids = dids;
    ending = ending;
    runs = runs;
    acts_are = refl;
    text = all_text on (nat_eq place (length file)) dids ending;
    legal = core_is_legal (basis_of on) (legally (basis_of on)) (play_run (nat_eq place (length file)) times events) dids ending runs;
    ends = ends;
    again = again;
    same = λ history is e all. subst (SaySame site history) (sym (again history is e)) (played_says_same fl site history times all);
    due_is = refl;
  }

-- ---- each file has a playback

abbrev Some_play : SiteData → List ℕ → Type 0
Some_play site file = (acts : List Act) × (due : Result (Unit {0}) Halt) × IsPlay site file acts due

none_play : (site : SiteData) (file : List ℕ) → packets_halt (kind_of file) ≡ Some (halt.LogRefused 0) → Some_play site file
none_play site file e = ([], Err (halt.LogRefused 0), inr (record { none = e; nothing = refl; refused = refl }))

some_kind : (a b : LogKind) → Some a ≡ Some b → a ≡ b
some_kind a b e = cc e

play_by : (site : SiteData) (file : List ℕ) (kind : Option LogKind) → kind_of file ≡ kind → Some_play site file
play_by site file None e = none_play site file (ap packets_halt e)
play_by site file (Some Cmd) e = none_play site file (ap packets_halt e)
play_by site file (Some Tlm) e =
    let start : ReaderData = record { file = file; place = min log_head_len (length file) } in
    let a = ahead start [] (begins_to_read file (ap is_some e)) in
    let fl = flagged start in
    let kind : a.kind ≡ Tlm = some_kind a.kind Tlm (sym (kind_read file a.kind fl a.entries a.place a.read) ∙ e) in
    let read = subst (λ (k : LogKind). IsLogRead file k fl a.entries a.place) kind a.read in
    let events = some_events fl a.entries in
    let on = played (layout_of fl) site in
    let run = has_run (site_environment on) (site_sound (basis_of on)) opening (play_run (nat_eq a.place (length file)) (last_time a.entries) events.0) in (
      play_acts on (nat_eq a.place (length file)) run.0 run.1,
      play_answer (dump_answer a.place (length file)) run.0 run.1,
      inl (played_is site file fl a.entries a.place read events.0 events.1 run.0 run.1 run.2),
    )

pub some_play : (site : SiteData) (file : List ℕ) → Some_play site file
some_play site file = play_by site file (kind_of file) refl

-- ---- and one alone

-- a log of packets that was read is no file without its head
pub no_packets_no_read : (file : List ℕ) (fl : Bool) (es : List Logged) (place : ℕ) → packets_halt (kind_of file) ≡ Some (halt.LogRefused 0) → IsLogRead file Tlm fl es place → ⊥
no_packets_no_read file fl es place e read =
    let never : None ≡ Some (halt.LogRefused 0) = sym (ap packets_halt (kind_read file Tlm fl es place read)) ∙ e in
    cc never

pub one_play : (site : SiteData) (file : List ℕ) (acts other : List Act) (due answer : Result (Unit {0}) Halt) → IsPlay site file acts due → IsPlay site file other answer → (acts ≡ other) × (due ≡ answer)
one_play site file acts other due answer (inl a) (inl b) =
    let n = length file in
    let same = logs_are_read_once file Tlm Tlm a.flagged b.flagged a.entries b.entries a.place b.place a.read b.read in
    let at_flags = subst (λ (fl : Bool). AreEvents fl a.entries a.events) same.1 a.events_are in
    let at_entries = subst (λ (es : List Logged). AreEvents b.flagged es a.events) same.2 at_flags in
    let events : a.events ≡ b.events = one_events b.flagged b.entries a.events b.events at_entries b.events_are in
    let on = played (layout_of b.flagged) site in
    let run_1 = subst (λ (fl : Bool). Runs (site_environment (played (layout_of fl) site)) opening (play_run (nat_eq a.place n) (last_time a.entries) a.events) a.dids a.ending) same.1 a.runs in
    let run_2 = subst (λ (es : List Logged). Runs (site_environment on) opening (play_run (nat_eq a.place n) (last_time es) a.events) a.dids a.ending) same.2 run_1 in
    let run_3 = subst (λ (place : ℕ). Runs (site_environment on) opening (play_run (nat_eq place n) (last_time b.entries) a.events) a.dids a.ending) same.3 run_2 in
    let run_4 = subst (λ (es : List Event). Runs (site_environment on) opening (play_run (nat_eq b.place n) (last_time b.entries) es) a.dids a.ending) events run_3 in
    let one = has_one_run (site_environment on) (site_sound (basis_of on)) opening (play_run (nat_eq b.place n) (last_time b.entries) b.events) a.dids b.dids a.ending b.ending run_4 b.runs in (
      a.acts_are ∙ ((λ i. play_acts (played (layout_of (same.1 i)) site) (nat_eq (same.3 i) n) (one.0 i) (one.1 i)) ∙ sym b.acts_are),
      a.due_is ∙ ((λ i. play_answer (dump_answer (same.3 i) n) (one.0 i) (one.1 i)) ∙ sym b.due_is),
    )
one_play site file acts other due answer (inl a) (inr b) = absurd (no_packets_no_read file a.flagged a.entries a.place b.none a.read)
one_play site file acts other due answer (inr a) (inl b) = absurd (no_packets_no_read file b.flagged b.entries b.place a.none b.read)
one_play site file acts other due answer (inr a) (inr b) = (a.nothing ∙ sym b.nothing, a.refused ∙ sym b.refused)
