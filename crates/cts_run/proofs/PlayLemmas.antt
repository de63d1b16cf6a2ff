-- How far a playback has come, and what it has done when it ends.
use Rattle.std.proofs.Common.{◌≡◌, ℕ, ◌<◌, Bool, true, false, List, [], ◌∷◌, ◌++◌, length, map, take, nat_eq, Option, None, Result, Ok, Err, refl, sym, ◌∙◌, ap, ap₂, subst, arith, append_assoc, inl, inr}
use Rattle.std.specs.Prelude.{option_to_list}
use Rattle.std.proofs.lemmas.Bool.Decides.{nat_tests}
use Rattle.std.proofs.lemmas.Grind.{flat_map-append}
use Rattle.std.proofs.lemmas.List.{append-nil}
use Rattle.std.specs.List.{All}
use Rattle.std.proofs.lemmas.List.Elements.{All-head, All-tail}
use Rattle.cts_core.specs.Endings.{held_in}
use Rattle.cts_core.specs.Environments.{basis_of, site_environment}
use Rattle.cts_core.specs.Runs.{Did, Does, after, Ending, Finished, NotEnabled, HistoryFull, Refuses, Runs}
use Rattle.cts_core.specs.States.{State, opening}
use Rattle.cts_core.specs.declared.fault.WorldFault.{WorldFault}
use Rattle.cts_core.specs.declared.fault.WorldFault.TheVariants as fault
use Rattle.cts_core_laws.proofs.OneRun.{has_run}
use Rattle.cts_core_laws.proofs.SiteSound.{site_sound}
use Rattle.cts_core_laws.specs.Told.{history_of}
use Rattle.cts_def.specs.Sites.{SiteData}
use Rattle.cts_def.specs.declared.time.Time.{Time}
use Rattle.cts_entry.specs.Histories.{entries_in, bytes_in}
use Rattle.cts_entry.specs.declared.entry.Entry.{Entry}
use Rattle.cts_entry.specs.declared.event.Effect.{Effect}
use Rattle.cts_entry.specs.declared.event.Event.{Event}
use Rattle.cts_entry.specs.declared.event.Event.TheVariants.{Finish, Opens, SetTime}
use Rattle.cts_entry.specs.declared.why.Why.TheVariants.{PeerEnded}
use Rattle.cts_framing.specs.Layouts.{has_flags}
use Rattle.cts_log.specs.Files.{flagged_of, layout_of}
use Rattle.cts_log.specs.Logged.{FitsLogged, Logged, entry_bytes}
use Rattle.cts_log.specs.Reading.{HasRead, IsLogRead, ReaderData}
use Rattle.cts_log.specs.declared.kind.LogKind.{LogKind}
use Rattle.cts_outside.specs.Seen.{SinkSeen, VaultSeen}
use Rattle.cts_run.specs.Acts.{Act, AreDone, DoesAll, Outside, PutFails, is_put, outside, puts}
use Rattle.cts_run.specs.Causes.{put_answer, undone_halt}
use Rattle.cts_run.specs.Dump.{dump_answer}
use Rattle.cts_run.specs.Lines.{end_line}
use Rattle.cts_run.specs.Play.{AreEvents, IsPlaying, Plays, PlaysEnd, PlaysEntry, PlaysLog, Stops, closing_events, end_acts, fault_over, last_events, last_time, later_time, number_acts, play_acts, play_answer, put_over, text_acts}
use Rattle.cts_run.specs.Putting.{PutsText}
use Rattle.cts_run.specs.Story.{Stands, StoryData, Tells}
use Rattle.cts_run.specs.Transcript.{event_text}
use Rattle.cts_run.specs.declared.halt.Halt.{Halt}
use Rattle.cts_run.specs.declared.halt.Halt.TheVariants as halt
use Rattle.cts_run.specs.declared.putting.Undone.{Undone}
use Rattle.cts_run.specs.declared.putting.Undone.TheVariants as undone
use Rattle.cts_run.proofs.ActLemmas.{all_of, all_then, done_then, fails_first, fails_then, put_done, wants_first, wants_whole}
use Rattle.cts_run.proofs.DumpLemmas.{ahead}
use Rattle.cts_play.specs.Pieces.{ArePieces}
use Rattle.cts_run.proofs.EventLemmas.{events_then, later_is, one_more, some_events, some_own}
use Rattle.cts_run.proofs.ReplayLemmas.{count_is}

-- ---- texts

text_append : (site : SiteData) (history : List Entry) (ds es : List Did) → text_acts site history (ds ++ es) ≡ text_acts site history ds ++ text_acts site (history ++ history_of ds) es
text_append site history [] es = ap (λ (h : List Entry). text_acts site h es) (sym (append-nil history))
text_append site history (d ∷ ds) es =
    ap (λ (t : List Act). puts (event_text site history d) ++ t) (text_append site (history ++ d.entries) ds es)
    ∙ (sym (append_assoc (puts (event_text site history d)) (text_acts site (history ++ d.entries) ds) (text_acts site ((history ++ d.entries) ++ history_of ds) es))
    ∙ ap (λ (h : List Entry). (puts (event_text site history d) ++ text_acts site (history ++ d.entries) ds) ++ text_acts site h es) (append_assoc history d.entries (history_of ds)))

history_then : (ds es : List Did) → history_of (ds ++ es) ≡ history_of ds ++ history_of es
history_then ds es = flat_map-append (λ (d : Did). d.entries) ds es

-- the texts with one more event
text_more : (site : SiteData) (ds es : List Did) (s : State) (d : Did) → s.history ≡ history_of ds
    → text_acts site [] (ds ++ d ∷ es) ≡ text_acts site [] ds ++ (puts (event_text site s.history d) ++ text_acts site (s.history ++ d.entries) es)
text_more site ds es s d h =
    text_append site [] ds (d ∷ es)
    ∙ ap (λ (t : List Entry). text_acts site [] ds ++ (puts (event_text site t d) ++ text_acts site (t ++ d.entries) es)) (sym h)

one_text : (site : SiteData) (ds : List Did) (s : State) (d : Did) → s.history ≡ history_of ds → text_acts site [] (ds ++ d ∷ []) ≡ text_acts site [] ds ++ puts (event_text site s.history d)
one_text site ds s d h = text_more site ds [] s d h ∙ ap (λ (t : List Act). text_acts site [] ds ++ t) (append-nil (puts (event_text site s.history d)))

-- ---- one event after another

pub begun : (site : SiteData) (w : StoryData) (o : Outside) → Stands site opening w → IsPlaying site [] false w o o
begun site w o h = record { state = opening; prior = []; stands = h; history = refl; runs = λ later dids ending r. r; done = refl }

-- events after the end of the connection change nothing
pub stays_over : (site : SiteData) (events more : List Event) (w : StoryData) (old new : Outside) → IsPlaying site events true w old new → IsPlaying site (events ++ more) true w old new
stays_over site events more w old new p = record {
  state = p.state;
  prior = p.prior;
  stands = p.stands;
  history = p.history;
  runs = λ later. subst (λ (es : List Event). Runs (site_environment site) opening es p.prior NotEnabled) (sym (append_assoc events more later)) (p.runs (more ++ later));
  done = p.done;
}

-- a playback that halts has halted, whatever events come after that
pub stops_on : (site : SiteData) (events more : List Event) (h : Halt) (old new : Outside) → Stops site events h old new → Stops site (events ++ more) h old new
stops_on site events more halt.WriteFault old new s = λ later.
    let k = s (more ++ later) in
    (k.0, k.1, subst (λ (es : List Event). Runs (site_environment site) opening es k.0 k.1) (sym (append_assoc events more later)) k.2, k.3)
stops_on site events more halt.Memory old new s = λ later.
    let k = s (more ++ later) in
    (k.0, k.1, subst (λ (es : List Event). Runs (site_environment site) opening es k.0 k.1) (sym (append_assoc events more later)) k.2, k.3, k.4)
stops_on site events more (halt.HistoryFull entries bytes) old new s = λ later.
    let k = s (more ++ later) in
    (k.0, subst (λ (es : List Event). Runs (site_environment site) opening es k.0 HistoryFull) (sym (append_assoc events more later)) k.1, k.2, k.3)
stops_on site events more (halt.ReadFault name) old new s = absurd s
stops_on site events more (halt.Absent name) old new s = absurd s
stops_on site events more halt.LogFault old new s = absurd s
stops_on site events more (halt.Refused name kind line why) old new s = absurd s
stops_on site events more (halt.ShelfEmpty kind needed stocked) old new s = absurd s
stops_on site events more (halt.LogRefused place) old new s = absurd s
stops_on site events more (halt.UnknownName name) old new s = absurd s
stops_on site events more (halt.HubRefused cause) old new s = absurd s
stops_on site events more halt.Misused old new s = absurd s

-- there is a run, whatever comes
some_run : (site : SiteData) (events : List Event) (over : Bool) (w : StoryData) (old new : Outside) (p : IsPlaying site events over w old new) (later : List Event)
    → (more : List Did) × (ending : Ending) × Runs (site_environment site) opening (events ++ later) (p.prior ++ more) ending
some_run site events false w old new p later =
    let r = has_run (site_environment site) (site_sound (basis_of site)) p.state later in
    (r.0, r.1, p.runs later r.0 r.1 r.2)
some_run site events true w old new p later =
    ([], NotEnabled, subst (λ (ds : List Did). Runs (site_environment site) opening (events ++ later) ds NotEnabled) (sym (append-nil p.prior)) (p.runs later))

-- memory was wanted
pub wants : (site : SiteData) (events : List Event) (over : Bool) (w : StoryData) (old new : Outside) → IsPlaying site events over w old new → Stops site events halt.Memory old new
wants site events over w old new p = λ later.
    let r = some_run site events over w old new p later in
    let k = wants_whole old new (text_acts site [] p.prior) (text_acts site ([] ++ history_of p.prior) r.0) p.done in
    let all : AreDone (take k.0 (text_acts site [] (p.prior ++ r.0))) old new =
    subst (λ (t : List Act). AreDone (take k.0 t) old new) (sym (text_append site [] p.prior r.0)) k.1 in
    (p.prior ++ r.0, r.1, r.2, k.0, all)

module _ (site : SiteData) (events : List Event) (event : Event) (w new : StoryData) (old mid : Outside) (p : IsPlaying site events false w old mid) where
  abbrev all_events : List Event
  all_events = events ++ event ∷ []

  -- the run of events goes on with this one, and then with those that come later
  with_later : (later : List Event) (dids : List Did) (ending : Ending) → Runs (site_environment site) opening (events ++ event ∷ later) dids ending → Runs (site_environment site) opening (all_events ++ later) dids ending
  with_later later dids ending r = subst (λ (es : List Event). Runs (site_environment site) opening es dids ending) (sym (append_assoc events (event ∷ []) later)) r

  -- it was done
  pub goes_on : (now : Outside) (did : Did) → Does (site_environment site) p.state event did → Stands site (after p.state event did) new → AreDone (puts (event_text site p.state.history did)) mid now
      → IsPlaying site (events ++ event ∷ []) false new old now
  goes_on now did d h put = record {
    state = after p.state event did;
    prior = p.prior ++ did ∷ [];
    stands = h;
    history = ap (λ (t : List Entry). t ++ did.entries) p.history ∙ (ap (λ (t : List Entry). history_of p.prior ++ t) (sym (append-nil did.entries)) ∙ sym (history_then p.prior (did ∷ [])));
    runs = λ later dids ending r.
        with_later later ((p.prior ++ did ∷ []) ++ dids) ending
        (subst (λ (t : List Did). Runs (site_environment site) opening (events ++ event ∷ later) t ending) (sym (append_assoc p.prior (did ∷ []) dids)) (p.runs (event ∷ later) (did ∷ dids) ending (inr (did, dids, refl, d, r))));
    done = subst (λ (t : List Act). AreDone t old now) (sym (one_text site p.prior p.state did p.history)) (done_then old mid now (text_acts site [] p.prior) (puts (event_text site p.state.history did)) p.done put);
  }

  -- it is refused
  refused_run : (ending : Ending) (later : List Event) → Refuses (site_environment site) p.state event ending → Runs (site_environment site) opening (all_events ++ later) p.prior ending
  refused_run ending later r =
      with_later later p.prior ending
      (subst (λ (ds : List Did). Runs (site_environment site) opening (events ++ event ∷ later) ds ending) (append-nil p.prior) (p.runs (event ∷ later) [] ending (inl (refl, r))))

  -- because the connection is over
  pub is_refused : Refuses (site_environment site) p.state event NotEnabled → Stands site p.state new → IsPlaying site (events ++ event ∷ []) true new old mid
  is_refused r h = record { state = p.state; prior = p.prior; stands = h; history = p.history; runs = λ later. refused_run NotEnabled later r; done = p.done }

  -- or because the history is full
  pub is_full : (entries bytes : ℕ) → Refuses (site_environment site) p.state event HistoryFull → entries ≡ entries_in p.state.history → bytes ≡ bytes_in p.state.history
      → Stops site (events ++ event ∷ []) (halt.HistoryFull entries bytes) old mid
  is_full entries bytes r e f = λ later. (
    p.prior,
    refused_run HistoryFull later r,
    ap₂ (λ (a b : ℕ). halt.HistoryFull a b) (e ∙ ap entries_in p.history) (f ∙ ap bytes_in p.history),
    p.done,
  )

  -- its put failed
  put_failed : (now : Outside) (did : Did) → Does (site_environment site) p.state event did → PutFails (puts (event_text site p.state.history did)) mid now → Stops site (events ++ event ∷ []) halt.WriteFault old now
  put_failed now did d fails = λ later.
      let r = has_run (site_environment site) (site_sound (basis_of site)) (after p.state event did) later in
      let own = puts (event_text site p.state.history did) in
      let rest = text_acts site (p.state.history ++ did.entries) r.0 in
      let whole = fails_then is_put old mid now (text_acts site [] p.prior) (own ++ rest) p.done (fails_first is_put mid now own rest fails) in (
        p.prior ++ did ∷ r.0,
        r.1,
        with_later later (p.prior ++ did ∷ r.0) r.1 (p.runs (event ∷ later) (did ∷ r.0) r.1 (inr (did, r.0, refl, d, r.2))),
        subst (λ (t : List Act). PutFails t old now) (sym (text_more site p.prior r.0 p.state did p.history)) whole,
      )

-- its text was put
pub told_on : (site : SiteData) (events : List Event) (event : Event) (w new : StoryData) (old : Outside) (out out' : SinkSeen) (vault : VaultSeen) (p : IsPlaying site events false w old (outside out vault)) (text : List ℕ) (effect : Effect)
    → Tells site p.state event (Ok (text, effect)) new → PutsText text (Ok tt) out out' → IsPlaying site (events ++ event ∷ []) false new old (outside out' vault)
told_on site events event w new old out out' vault p text effect h put =
    goes_on site events event w new old (outside out vault) p (outside out' vault) h.0 h.1 h.4
    (subst (λ (t : List ℕ). AreDone (puts t) (outside out vault) (outside out' vault)) h.2 (put_done text (Ok tt) out out' vault put))

-- or not
pub told_not : (site : SiteData) (events : List Event) (event : Event) (w new : StoryData) (old : Outside) (out out' : SinkSeen) (vault : VaultSeen) (p : IsPlaying site events false w old (outside out vault)) (text : List ℕ) (effect : Effect) (why : Undone)
    → Tells site p.state event (Ok (text, effect)) new → PutsText text (Err why) out out' → Stops site (events ++ event ∷ []) (undone_halt why) old (outside out' vault)
told_not site events event w new old out out' vault p text effect undone.WriteFault h put =
    put_failed site events event w new old (outside out vault) p (outside out' vault) h.0 h.1
    (subst (λ (t : List ℕ). PutFails (puts t) (outside out vault) (outside out' vault)) h.2 (put_done text (Err undone.WriteFault) out out' vault put))
told_not site events event w new old out out' vault p text effect undone.LogFault h put = absurd put
told_not site events event w new old out out' vault p text effect undone.Memory h put =
    stops_on site events (event ∷ []) halt.Memory old (outside out' vault)
    (subst (λ (o : SinkSeen). Stops site events halt.Memory old (outside o vault)) (sym put) (wants site events false w old (outside out vault) p))

-- what is answered then
pub told_plays : (site : SiteData) (events : List Event) (event : Event) (w new : StoryData) (old : Outside) (out out' : SinkSeen) (vault : VaultSeen) (p : IsPlaying site events false w old (outside out vault)) (text : List ℕ) (effect : Effect) (done : Result (Unit {0}) Undone)
    → Tells site p.state event (Ok (text, effect)) new → PutsText text done out out' → Plays site (events ++ event ∷ []) (put_over done) new old (outside out' vault)
told_plays site events event w new old out out' vault p text effect (Ok done) h put = told_on site events event w new old out out' vault p text effect h put
told_plays site events event w new old out out' vault p text effect (Err why) h put = told_not site events event w new old out out' vault p text effect why h put

pub untold_plays : (site : SiteData) (events : List Event) (event : Event) (w new : StoryData) (old mid : Outside) (p : IsPlaying site events false w old mid) (why : WorldFault) → Tells site p.state event (Err why) new
    → Plays site (events ++ event ∷ []) (fault_over why) new old mid
untold_plays site events event w new old mid p fault.NotEnabled h = is_refused site events event w new old mid p h.0 h.1
untold_plays site events event w new old mid p (fault.Full entries bytes) h = is_full site events event w new old mid p entries bytes h.0 h.1 h.2
untold_plays site events event w new old mid p fault.Memory h = stops_on site events (event ∷ []) halt.Memory old mid (wants site events false w old mid p)

-- ---- where it halts

-- the run of all events, and what was done of it
pub halt_does : (site : SiteData) (whole : Bool) (due : Result (Unit {0}) Halt) (events later : List Event) (h : Halt) (old new : Outside) → Stops site events h old new
    → (dids : List Did) × (ending : Ending) × Runs (site_environment site) opening (events ++ later) dids ending × DoesAll (play_acts site whole dids ending) (play_answer due dids ending) (Err h) old new
halt_does site whole due events later halt.WriteFault old new s =
    let k = s later in
    (k.0, k.1, k.2, fails_first is_put old new (text_acts site [] k.0) (end_acts whole k.0 k.1) k.3)
halt_does site whole due events later halt.Memory old new s =
    let k = s later in
    (k.0, k.1, k.2, wants_first old new (text_acts site [] k.0) (end_acts whole k.0 k.1) (k.3, k.4))
halt_does site whole due events later (halt.HistoryFull entries bytes) old new s =
    let k = s later in
    (k.0, HistoryFull, k.1, (ap (λ (h : Halt). Err h) k.2, subst (λ (t : List Act). AreDone t old new) (sym (append-nil (text_acts site [] k.0))) k.3))
halt_does site whole due events later (halt.ReadFault name) old new s = absurd s
halt_does site whole due events later (halt.Absent name) old new s = absurd s
halt_does site whole due events later halt.LogFault old new s = absurd s
halt_does site whole due events later (halt.Refused name kind line why) old new s = absurd s
halt_does site whole due events later (halt.ShelfEmpty kind needed stocked) old new s = absurd s
halt_does site whole due events later (halt.LogRefused place) old new s = absurd s
halt_does site whole due events later (halt.UnknownName name) old new s = absurd s
halt_does site whole due events later (halt.HubRefused cause) old new s = absurd s
halt_does site whole due events later halt.Misused old new s = absurd s

-- ---- where no more events come

pub record IsEnded (site : SiteData) (events : List Event) (s : State) (old new : Outside) : Type 0 where
  pub dids : List Did
  pub ending : Ending
  pub runs : Runs (site_environment site) opening (events ++ []) dids ending
  pub history : s.history ≡ history_of dids
  pub done : AreDone (text_acts site [] dids) old new
  pub due_is : (due : Result (Unit {0}) Halt) → play_answer due dids ending ≡ due
  pub last_is : (whole : Bool) → end_acts whole dids ending ≡ number_acts whole dids

pub ended : (site : SiteData) (events : List Event) (over : Bool) (w : StoryData) (old new : Outside) (p : IsPlaying site events over w old new) → IsEnded site events p.state old new
ended site events false w old new p = record {
  dids = p.prior ++ [];
  ending = Finished;
  runs = p.runs [] [] Finished (refl, refl);
  history = p.history ∙ ap history_of (sym (append-nil p.prior));
  done = subst (λ (ds : List Did). AreDone (text_acts site [] ds) old new) (sym (append-nil p.prior)) p.done;
  due_is = λ due. refl;
  last_is = λ whole. refl;
}
ended site events true w old new p = record {
  dids = p.prior;
  ending = NotEnabled;
  runs = p.runs [];
  history = p.history;
  done = p.done;
  due_is = λ due. refl;
  last_is = λ whole. refl;
}

-- the clock was set and the peer has ended, and the number of entries was put or not
pub numbered : (site : SiteData) (before : List Event) (times : List Time) (over : Bool) (w : StoryData) (old : Outside) (out out' : SinkSeen) (vault : VaultSeen) (count : ℕ) (put : Result (Unit {0}) Undone)
    → IsPlaying site ((before ++ map SetTime times) ++ Finish 0 PeerEnded ∷ []) over w old (outside out vault) → count ≡ length (held_in w.world).history → PutsText (end_line count) put out out'
    → PlaysEnd site before times (put_answer put) old (outside out' vault)
numbered site before times over w old out out' vault count put p n text =
    let mid = outside out vault in
    let new = outside out' vault in
    let e = ended site ((before ++ map SetTime times) ++ Finish 0 PeerEnded ∷ []) over w old mid p in
    let number : count ≡ length (history_of e.dids) = count_is site p.state w count n p.stands ∙ ap (λ (h : List Entry). length h) e.history in
    let line = puts (end_line (length (history_of e.dids))) in
    let text' = subst (λ (k : ℕ). PutsText (end_line k) put out out') number text in
    let does = all_then old mid new (text_acts site [] e.dids) line (Ok tt) (put_answer put) e.done (all_of line put mid new (put_done (end_line (length (history_of e.dids))) put out out' vault text')) in
    record {
      dids = e.dids;
      ending = e.ending;
      runs = subst (λ (es : List Event). Runs (site_environment site) opening es e.dids e.ending)
          (append-nil ((before ++ map SetTime times) ++ Finish 0 PeerEnded ∷ []) ∙ append_assoc before (map SetTime times) (Finish 0 PeerEnded ∷ [])) e.runs;
      does = subst (λ (d : Result (Unit {0}) Halt). DoesAll (play_acts site true e.dids e.ending) d (put_answer put) old new) (sym (e.due_is (Ok tt)))
          (subst (λ (t : List Act). DoesAll (text_acts site [] e.dids ++ t) (Ok tt) (put_answer put) old new) (sym (e.last_is true)) does);
    }

-- the playback halts before that
pub halts_before : (site : SiteData) (before : List Event) (times : List Time) (h : Halt) (old new : Outside) → Stops site (before ++ closing_events times) h old new → PlaysEnd site before times (Err h) old new
halts_before site before times h old new s =
    let k = halt_does site true (Ok tt) (before ++ closing_events times) [] h old new s in
    record { dids = k.0; ending = k.1; runs = subst (λ (es : List Event). Runs (site_environment site) opening es k.0 k.1) (append-nil (before ++ closing_events times)) k.2; does = k.3 }

-- at the setting of the clock, or at the end
pub halts_setting : (site : SiteData) (before : List Event) (times : List Time) (h : Halt) (old new : Outside) → Stops site (before ++ map SetTime times) h old new → PlaysEnd site before times (Err h) old new
halts_setting site before times h old new s =
    halts_before site before times h old new
    (subst (λ (es : List Event). Stops site es h old new) (append_assoc before (map SetTime times) (Finish 0 PeerEnded ∷ [])) (stops_on site (before ++ map SetTime times) (Finish 0 PeerEnded ∷ []) h old new s))

pub halts_ending : (site : SiteData) (before : List Event) (times : List Time) (h : Halt) (old new : Outside) → Stops site ((before ++ map SetTime times) ++ Finish 0 PeerEnded ∷ []) h old new → PlaysEnd site before times (Err h) old new
halts_ending site before times h old new s =
    halts_before site before times h old new (subst (λ (es : List Event). Stops site es h old new) (append_assoc before (map SetTime times) (Finish 0 PeerEnded ∷ [])) s)

-- ---- entries

-- the events of an entry that are not done, and those that are
pub entry_over : (fl : Bool) (e : Logged) (site : SiteData) (events : List Event) (w : StoryData) (old new : Outside) → IsPlaying site events true w old new → PlaysEntry fl e site events (Ok true) w old new
entry_over fl e site events w old new p =
    let own = some_own fl e in
    record { own = own.0; own_are = own.1; plays = stays_over site events own.0 w old new p }

pub entry_wanted : (fl : Bool) (e : Logged) (site : SiteData) (events : List Event) (over : Bool) (w : StoryData) (old new : Outside) → IsPlaying site events over w old new → PlaysEntry fl e site events (Err halt.Memory) w old new
entry_wanted fl e site events over w old new p =
    let own = some_own fl e in
    record { own = own.0; own_are = own.1; plays = stops_on site events own.0 halt.Memory old new (wants site events over w old new p) }

-- The reader has read these entries of the file and they were played, where the connection was opened before.
pub record HasPlayed (file : List ℕ) (opened : Bool) (first : StoryData) (out : SinkSeen) (r : ReaderData) (last : Option Time) (over : Bool) (w : StoryData) (out' : SinkSeen) : Type 0 where
  pub file_is : r.file ≡ file
  pub entries : List Logged
  pub read : HasRead r entries
  pub last_is : option_to_list last ≡ last_time entries
  pub plays : (site : SiteData) (old : Outside) (vault : VaultSeen) → IsPlaying site (Opens 0 ∷ []) opened first old (outside out vault)
      → (events : List Event) × AreEvents (flagged_of file) entries events × IsPlaying site (Opens 0 ∷ events) over w old (outside out' vault)

-- the layout says whether there are flags
pub flags_again : (flagged : Bool) → has_flags (layout_of flagged) ≡ flagged
flags_again true = refl
flags_again false = refl

pub flags_are : (file : List ℕ) (layout : ℕ) → layout ≡ layout_of (flagged_of file) → has_flags layout ≡ flagged_of file
flags_are file layout e = ap has_flags e ∙ flags_again (flagged_of file)

module _ (opened : Bool) (first : StoryData) (out : SinkSeen) where
  pub none_played : (r : ReaderData) → HasRead r [] → HasPlayed r.file opened first out r None opened first out
  none_played r h = record { file_is = refl; entries = []; read = h; last_is = refl; plays = λ site old vault p. ([], refl, p) }

  module _ (file : List ℕ) (layout : ℕ) (is : layout ≡ layout_of (flagged_of file)) (r s : ReaderData) (last : Option Time) (over : Bool) (w new : StoryData) (mid out' : SinkSeen) (f : HasPlayed file opened first out r last over w mid)
      (e : Logged) (same : s.file ≡ r.file) (more : HasRead s (f.entries ++ e ∷ [])) where
    -- the events of one more entry
    abbrev Entry_plays : Result Bool Halt → Type 0
    Entry_plays answer = (site : SiteData) (events : List Event) (old : Outside) (vault : VaultSeen) → IsPlaying site events over w old (outside mid vault) → PlaysEntry (has_flags layout) e site events answer new old (outside out' vault)

    pub more_played : (now : Bool) → Entry_plays (Ok now) → HasPlayed file opened first out s (later_time last e.heading.time) now new out'
    more_played now step = record {
      file_is = same ∙ f.file_is;
      entries = f.entries ++ e ∷ [];
      read = more;
      last_is = later_is last f.entries e f.last_is;
      plays = λ site old vault p.
          let k = f.plays site old vault p in
          let m = step site (Opens 0 ∷ k.0) old vault k.2 in
          (k.0 ++ m.own, one_more (flagged_of file) f.entries e k.0 m.own k.1 (subst (λ (fl : Bool). ArePieces 0 65536 (entry_bytes fl e) m.own) (flags_are file layout is) m.own_are), m.plays);
    }

    pub entry_halts : (h : Halt) (site : SiteData) (old : Outside) (vault : VaultSeen) → Entry_plays (Err h) → IsPlaying site (Opens 0 ∷ []) opened first old (outside out vault) → PlaysLog site file (Err h) old (outside out' vault)
    entry_halts h site old vault step p =
        let k = f.plays site old vault p in
        let m = step site (Opens 0 ∷ k.0) old vault k.2 in
        let a = ahead s (f.entries ++ e ∷ []) more in
        let fl = flagged_of file in
        let rest = some_events fl a.entries in
        let entries = (f.entries ++ e ∷ []) ++ a.entries in
        let whole = nat_eq a.place (length file) in
        let last = last_events whole (last_time entries) in
        let are = one_more fl f.entries e k.0 m.own k.1 (subst (λ (b : Bool). ArePieces 0 65536 (entry_bytes b e) m.own) (flags_are file layout is) m.own_are) in
        let d = halt_does site whole (dump_answer a.place (length file)) (Opens 0 ∷ (k.0 ++ m.own)) (rest.0 ++ last) h old (outside out' vault) m.plays in
        record {
          kind = a.kind;
          entries = entries;
          place = a.place;
          read = subst (λ (t : List ℕ). IsLogRead t a.kind (flagged_of t) entries a.place) (same ∙ f.file_is) a.read;
          events = (k.0 ++ m.own) ++ rest.0;
          events_are = events_then fl (f.entries ++ e ∷ []) a.entries (k.0 ++ m.own) rest.0 are rest.1;
          whole = whole;
          whole_is = refl;
          dids = d.0;
          ending = d.1;
          runs = subst (λ (es : List Event). Runs (site_environment site) opening (Opens 0 ∷ es) d.0 d.1) (sym (append_assoc (k.0 ++ m.own) rest.0 last)) d.2;
          does = d.3;
        }

-- ---- the end of the file

whole_place : (n : ℕ) → nat_eq n n ≡ true
whole_place n = grind (arith, nat_tests)

cut_place : (place n : ℕ) → place < n → nat_eq place n ≡ false
cut_place place n h = grind (arith, nat_tests)

whole_answer : (n : ℕ) → dump_answer n n ≡ Ok tt
whole_answer n = rw (whole_place n) refl

cut_answer : (place n : ℕ) → place < n → dump_answer place n ≡ Err (halt.LogRefused place)
cut_answer place n h = rw (cut_place place n h) refl

module _ (file : List ℕ) (opened : Bool) (first : StoryData) (out : SinkSeen) (r : ReaderData) (last : Option Time) (over : Bool) (w : StoryData) (out' : SinkSeen) (f : HasPlayed file opened first out r last over w out')
    (site : SiteData) (old : Outside) (vault : VaultSeen) (p : IsPlaying site (Opens 0 ∷ []) opened first old (outside out vault)) where
  -- it is no whole entry
  pub log_cut : (place : ℕ) → (kind : LogKind) × IsLogRead r.file kind (flagged_of r.file) f.entries place × (place < length r.file) → PlaysLog site file (Err (halt.LogRefused place)) old (outside out' vault)
  log_cut place h =
      let k = f.plays site old vault p in
      let e = ended site (Opens 0 ∷ k.0) over w old (outside out' vault) k.2 in
      let before : place < length file = subst (λ (t : List ℕ). place < length t) f.file_is h.2 in
      let due : Err (halt.LogRefused place) ≡ play_answer (dump_answer place (length file)) e.dids e.ending = sym (e.due_is (dump_answer place (length file)) ∙ cut_answer place (length file) before) in
      record {
        kind = h.0;
        entries = f.entries;
        place = place;
        read = subst (λ (t : List ℕ). IsLogRead t h.0 (flagged_of t) f.entries place) f.file_is h.1;
        events = k.0;
        events_are = k.1;
        whole = false;
        whole_is = cut_place place (length file) before;
        dids = e.dids;
        ending = e.ending;
        runs = e.runs;
        does = (
          due,
          subst (λ (t : List Act). AreDone (text_acts site [] e.dids ++ t) old (outside out' vault)) (sym (e.last_is false))
              (subst (λ (t : List Act). AreDone t old (outside out' vault)) (sym (append-nil (text_acts site [] e.dids))) e.done),
        );
      }

  -- it is the end of the last entry
  pub log_whole : (answer : Result (Unit {0}) Halt) (now : Outside) → (kind : LogKind) × IsLogRead r.file kind (flagged_of r.file) f.entries (length r.file)
      → ((events : List Event) → IsPlaying site events over w old (outside out' vault) → PlaysEnd site events (option_to_list last) answer old now) → PlaysLog site file answer old now
  log_whole answer now h end =
      let k = f.plays site old vault p in
      let e = end (Opens 0 ∷ k.0) k.2 in
      record {
        kind = h.0;
        entries = f.entries;
        place = length file;
        read = subst (λ (t : List ℕ). IsLogRead t h.0 (flagged_of t) f.entries (length t)) f.file_is h.1;
        events = k.0;
        events_are = k.1;
        whole = true;
        whole_is = whole_place (length file);
        dids = e.dids;
        ending = e.ending;
        runs = subst (λ (times : List Time). Runs (site_environment site) opening (Opens 0 ∷ (k.0 ++ closing_events times)) e.dids e.ending) f.last_is e.runs;
        does = subst (λ (due : Result (Unit {0}) Halt). DoesAll (play_acts site true e.dids e.ending) (play_answer due e.dids e.ending) answer old now) (sym (whole_answer (length file))) e.does;
      }

-- the connection was not opened
pub unopened : (site : SiteData) (r : ReaderData) (h : Halt) (old new : Outside) → HasRead r [] → Stops site (Opens 0 ∷ []) h old new → PlaysLog site r.file (Err h) old new
unopened site r h old new read s =
    let a = ahead r [] read in
    let fl = flagged_of r.file in
    let events = some_events fl a.entries in
    let whole = nat_eq a.place (length r.file) in
    let d = halt_does site whole (dump_answer a.place (length r.file)) (Opens 0 ∷ []) (events.0 ++ last_events whole (last_time a.entries)) h old new s in
    record {
      kind = a.kind;
      entries = a.entries;
      place = a.place;
      read = a.read;
      events = events.0;
      events_are = events.1;
      whole = whole;
      whole_is = refl;
      dids = d.0;
      ending = d.1;
      runs = d.2;
      does = d.3;
    }

-- an entry that was read can be laid out
last_all : {X : Type 0} (P : X → Type 0) (xs : List X) (x : X) → All P (xs ++ x ∷ []) → P x
last_all P [] x h = All-head P x [] h
last_all P (y ∷ xs) x h = last_all P xs x (All-tail P y (xs ++ x ∷ []) h)

pub last_fits : (r : ReaderData) (es : List Logged) (e : Logged) → HasRead r (es ++ e ∷ []) → FitsLogged (flagged_of r.file) e
last_fits r es e h = last_all (FitsLogged (flagged_of r.file)) es e h.fit
