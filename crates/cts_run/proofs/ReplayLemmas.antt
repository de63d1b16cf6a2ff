-- How far a replay has come, and what it has done when it ends.
use Rattle.std.proofs.Common.{◌≡◌, ℕ, ◌+◌, Bool, List, [], ◌∷◌, ◌++◌, length, take, drop, Result, Ok, Err, refl, sym, ◌∙◌, ap, subst, arith, append_assoc, inl, inr}
use Rattle.std.proofs.lemmas.Grind.{flat_map-append}
use Rattle.std.proofs.lemmas.List.{append-nil}
use Rattle.cts_entry.specs.declared.entry.Entry.{Entry}
use Rattle.cts_entry.specs.declared.event.Effect.{Effect}
use Rattle.cts_entry.specs.declared.event.Event.{Event}
use Rattle.cts_entry.specs.Histories.{entries_in, bytes_in}
use Rattle.cts_core.specs.States.{State, log_ahead, opening}
use Rattle.cts_core.specs.Runs.{Did, Does, after, drained, Ending, Finished, NotEnabled, HistoryFull, Runs}
use Rattle.cts_core_laws.proofs.OneRun.{has_run}
use Rattle.cts_core_laws.proofs.SiteSound.{site_sound}
use Rattle.cts_core_laws.specs.Logs.{drained_by}
use Rattle.cts_core_laws.specs.Told.{history_of}
use Rattle.cts_def.specs.Sites.{SiteData}
use Rattle.cts_core.specs.Environments.{basis_of, site_environment}
use Rattle.cts_core.specs.Endings.{held_in}
use Rattle.cts_core.specs.declared.fault.WorldFault.{WorldFault}
use Rattle.cts_core.specs.declared.fault.WorldFault.TheVariants as fault
use Rattle.cts_run.specs.Acts.{Act, AreDone, DoesActs, DoesAll, FailsIn, Outside, TakesNoMemory, is_kept, is_put, puts, syncs}
use Rattle.cts_run.specs.Causes.{put_answer}
use Rattle.cts_run.specs.Lines.{end_line}
use Rattle.cts_run.specs.Replay.{DoesEvent, DoesEvents, EndsAfter, Replays, did_acts, event_acts, event_halt, head_acts, last_acts, log_acts, next_line, not_enabled, replay_answer, rest_acts}
use Rattle.cts_run.specs.Story.{Drains, Stands, StoryData, Tells}
use Rattle.cts_run.specs.Transcript.{events_of, event_text}
use Rattle.cts_run.specs.declared.halt.Halt.{Halt}
use Rattle.cts_run.specs.declared.halt.Halt.TheVariants as halt
use Rattle.cts_run.specs.declared.putting.Undone.{Undone}
use Rattle.cts_run.specs.declared.putting.Undone.TheVariants as undone
use Rattle.cts_run.proofs.ActLemmas.{all_first, all_of, all_then, fails_first, fails_then, wants_whole}

-- Some events were done with their acts, and these are left.
pub record IsProgress (site : SiteData) (events left : List (ℕ × Event)) (w : StoryData) (acts : List Act) : Type 0 where
  pub state : State
  pub prior : List Did
  pub stands : Stands site state w
  pub history : state.history ≡ history_of prior
  pub acts_are : acts ≡ did_acts site [] prior
  pub runs : (dids : List Did) (ending : Ending) → Runs (site_environment site) state (events_of left) dids ending → Runs (site_environment site) opening (events_of events) (prior ++ dids) ending
  pub lines : (dids : List Did) → next_line (prior ++ dids) events ≡ next_line dids left
  pub places : (dids : List Did) → drained_by (events_of events) (prior ++ dids) ≡ state.log_cursor + drained_by (events_of left) dids

pub begun : (site : SiteData) (events : List (ℕ × Event)) (w : StoryData) → Stands site opening w → IsProgress site events events w []
begun site events w h = record { state = opening; prior = []; stands = h; history = refl; acts_are = refl; runs = λ dids ending r. r; lines = λ dids. refl; places = λ dids. omega arith }

history_append : (ds es : List Did) → history_of (ds ++ es) ≡ history_of ds ++ history_of es
history_append ds es = flat_map-append (λ (d : Did). d.entries) ds es

acts_append : (site : SiteData) (history : List Entry) (ds es : List Did) → did_acts site history (ds ++ es) ≡ did_acts site history ds ++ did_acts site (history ++ history_of ds) es
acts_append site history [] es = ap (λ (h : List Entry). did_acts site h es) (sym (append-nil history))
acts_append site history (d ∷ ds) es =
    ap (λ (t : List Act). event_acts site history d ++ t) (acts_append site (history ++ d.entries) ds es)
    ∙ (sym (append_assoc (event_acts site history d) (did_acts site (history ++ d.entries) ds) (did_acts site ((history ++ d.entries) ++ history_of ds) es))
    ∙ ap (λ (h : List Entry). (event_acts site history d ++ did_acts site (history ++ d.entries) ds) ++ did_acts site h es) (append_assoc history d.entries (history_of ds)))

-- the acts with one more event
acts_more : (site : SiteData) (ds es : List Did) (s : State) (d : Did) → s.history ≡ history_of ds
    → did_acts site [] (ds ++ d ∷ es) ≡ did_acts site [] ds ++ (event_acts site s.history d ++ did_acts site (s.history ++ d.entries) es)
acts_more site ds es s d h =
    acts_append site [] ds (d ∷ es)
    ∙ ap (λ (t : List Entry). did_acts site [] ds ++ (event_acts site t d ++ did_acts site (t ++ d.entries) es)) (sym h)

pub goes_on : (site : SiteData) (events rest : List (ℕ × Event)) (x : ℕ × Event) (w new : StoryData) (acts : List Act) (p : IsProgress site events (x ∷ rest) w acts) (did : Did) → Does (site_environment site) p.state x.1 did → Stands site (after p.state x.1 did) new
    → IsProgress site events rest new (acts ++ event_acts site p.state.history did)
goes_on site events rest x w new acts p did d h = record {
  state = after p.state x.1 did;
  prior = p.prior ++ did ∷ [];
  stands = h;
  history = ap (λ (t : List Entry). t ++ did.entries) p.history ∙ (ap (λ (t : List Entry). history_of p.prior ++ t) (sym (append-nil did.entries)) ∙ sym (history_append p.prior (did ∷ [])));
  acts_are = ap (λ (t : List Act). t ++ event_acts site p.state.history did) p.acts_are
      ∙ (ap (λ (t : List Act). did_acts site [] p.prior ++ t) (sym (append-nil (event_acts site p.state.history did))) ∙ sym (acts_more site p.prior [] p.state did p.history));
  runs = λ dids ending r. subst (λ (t : List Did). Runs (site_environment site) opening (events_of events) t ending) (sym (append_assoc p.prior (did ∷ []) dids)) (p.runs (did ∷ dids) ending (inr (did, dids, refl, d, r)));
  lines = λ dids. ap (λ (t : List Did). next_line t events) (append_assoc p.prior (did ∷ []) dids) ∙ p.lines (did ∷ dids);
  places = λ dids.
      let more : drained_by (events_of events) (p.prior ++ did ∷ dids) ≡ p.state.log_cursor + (drained x.1 + drained_by (events_of rest) dids) = p.places (did ∷ dids) in
      ap (drained_by (events_of events)) (append_assoc p.prior (did ∷ []) dids) ∙ omega (arith, more);
}

-- ---- what is done

regroup : (a b c d : List Act) → (a ++ (b ++ c)) ++ d ≡ (a ++ b) ++ (c ++ d)
regroup a b c d = simp append_assoc

-- all acts of the events of a replay, and how it ends
abbrev all_acts : SiteData → List (ℕ × Event) → List Did → Ending → List Act
all_acts site events dids ending = did_acts site [] dids ++ last_acts site events dids ending

-- the acts of a run that goes on with this event begin with those so far and the event's
more_acts : (site : SiteData) (events left : List (ℕ × Event)) (w : StoryData) (acts : List Act) (p : IsProgress site events left w acts) (did : Did) (dids : List Did) (ending : Ending)
    → all_acts site events (p.prior ++ did ∷ dids) ending ≡ (acts ++ event_acts site p.state.history did) ++ (did_acts site (p.state.history ++ did.entries) dids ++ last_acts site events (p.prior ++ did ∷ dids) ending)
more_acts site events left w acts p did dids ending =
    let own = event_acts site p.state.history did in
    let last = last_acts site events (p.prior ++ did ∷ dids) ending in
    ap (λ (t : List Act). t ++ last) (acts_more site p.prior dids p.state did p.history)
    ∙ (ap (λ (t : List Act). (t ++ (own ++ did_acts site (p.state.history ++ did.entries) dids)) ++ last) (sym p.acts_are)
    ∙ regroup acts own (did_acts site (p.state.history ++ did.entries) dids) last)

-- the acts of any run that goes on from here begin with those so far
front_acts : (site : SiteData) (events left : List (ℕ × Event)) (w : StoryData) (acts : List Act) (p : IsProgress site events left w acts) (dids : List Did) (ending : Ending)
    → all_acts site events (p.prior ++ dids) ending ≡ acts ++ (did_acts site ([] ++ history_of p.prior) dids ++ last_acts site events (p.prior ++ dids) ending)
front_acts site events left w acts p dids ending =
    let last = last_acts site events (p.prior ++ dids) ending in
    ap (λ (t : List Act). t ++ last) (acts_append site [] p.prior dids)
    ∙ (append_assoc (did_acts site [] p.prior) (did_acts site ([] ++ history_of p.prior) dids) last
    ∙ ap (λ (t : List Act). t ++ (did_acts site ([] ++ history_of p.prior) dids ++ last)) (sym p.acts_are))

-- memory was wanted after these acts
pub wants : (site : SiteData) (script : List ℕ) (events left : List (ℕ × Event)) (w : StoryData) (acts : List Act) (p : IsProgress site events left w acts) (old new : Outside)
    → AreDone acts old new → DoesEvents site script events (Err halt.Memory) old new
wants site script events left w acts p old new h =
    let r = has_run (site_environment site) (site_sound (basis_of site)) p.state (events_of left) in
    let more = did_acts site ([] ++ history_of p.prior) r.0 ++ last_acts site events (p.prior ++ r.0) r.1 in
    record {
      dids = p.prior ++ r.0;
      ending = r.1;
      runs = p.runs r.0 r.1 r.2;
      does = subst (λ (t : List Act). (n : ℕ) × AreDone (take n t) old new) (sym (front_acts site events left w acts p r.0 r.1)) (wants_whole old new acts more h);
    }

-- one of the acts of an event failed that was done
faulted : (of : Act → Bool) (why : Halt) (fault : (xs : List Act) (due : Result (Unit {0}) Halt) (old new : Outside) → FailsIn of xs old new → DoesAll xs due (Err why) old new) (site : SiteData) (script : List ℕ) (events rest : List (ℕ × Event)) (x : ℕ × Event)
    (w : StoryData) (acts : List Act) (p : IsProgress site events (x ∷ rest) w acts) (did : Did) (old mid new : Outside)
    → Does (site_environment site) p.state x.1 did → AreDone acts old mid → FailsIn of (event_acts site p.state.history did) mid new → DoesEvents site script events (Err why) old new
faulted of why fault site script events rest x w acts p did old mid new d m fails =
    let r = has_run (site_environment site) (site_sound (basis_of site)) (after p.state x.1 did) (events_of rest) in
    let own = event_acts site p.state.history did in
    let dids = p.prior ++ did ∷ r.0 in
    let more = did_acts site (p.state.history ++ did.entries) r.0 ++ last_acts site events dids r.1 in
    let whole = fails_first of old new (acts ++ own) more (fails_then of old mid new acts own m fails) in
    record {
      dids = dids;
      ending = r.1;
      runs = p.runs (did ∷ r.0) r.1 (inr (did, r.0, refl, d, r.2));
      does = fault (all_acts site events dids r.1) (replay_answer script events dids r.1) old new (subst (λ (t : List Act). FailsIn of t old new) (sym (more_acts site events (x ∷ rest) w acts p did r.0 r.1)) whole);
    }

nothing_more : (site : SiteData) (events left : List (ℕ × Event)) (w : StoryData) (acts : List Act) (p : IsProgress site events left w acts) → did_acts site [] (p.prior ++ []) ≡ acts
nothing_more site events left w acts p = ap (did_acts site []) (append-nil p.prior) ∙ sym p.acts_are

all_done : (site : SiteData) (events left : List (ℕ × Event)) (w : StoryData) (acts : List Act) (p : IsProgress site events left w acts) → p.state.history ≡ history_of (p.prior ++ [])
all_done site events left w acts p = p.history ∙ ap history_of (sym (append-nil p.prior))

stopped_acts : (site : SiteData) (events left : List (ℕ × Event)) (w : StoryData) (acts : List Act) (p : IsProgress site events left w acts) → acts ≡ did_acts site [] (p.prior ++ []) ++ []
stopped_acts site events left w acts p = sym (nothing_more site events left w acts p) ∙ sym (append-nil (did_acts site [] (p.prior ++ [])))

-- a replay halts at an event: what was done so far are its acts, or memory, the sink or the vault failed
pub halts : (site : SiteData) (script : List ℕ) (events rest : List (ℕ × Event)) (x : ℕ × Event) (w stopped : StoryData) (acts : List Act) (p : IsProgress site events (x ∷ rest) w acts) (old mid new : Outside) (why : Halt)
    → AreDone acts old mid → DoesEvent site p.state script x.0 x.1 (Err why) stopped mid new → DoesEvents site script events (Err why) old new
halts site script events rest x w stopped acts p old mid new halt.WriteFault m d = faulted is_put halt.WriteFault (λ xs due o n f. f) site script events rest x w acts p d.0 old mid new d.1 m d.2
halts site script events rest x w stopped acts p old mid new halt.LogFault m d = faulted is_kept halt.LogFault (λ xs due o n f. f) site script events rest x w acts p d.0 old mid new d.1 m d.2
halts site script events rest x w stopped acts p old mid new halt.Memory m d = wants site script events (x ∷ rest) w acts p old new (d ∙ m)
halts site script events rest x w stopped acts p old mid new (halt.Refused name kind line why) m d = record {
  dids = p.prior ++ [];
  ending = NotEnabled;
  runs = p.runs [] NotEnabled (inl (refl, d.0));
  does = (
    ap (λ (h : Halt). Err h) (d.1 ∙ ap (not_enabled script) (sym (p.lines []))),
    subst (λ (t : List Act). AreDone t old new) (stopped_acts site events (x ∷ rest) w acts p) (d.2 ∙ m),
  );
}
halts site script events rest x w stopped acts p old mid new (halt.HistoryFull entries bytes) m d =
    let all = all_done site events (x ∷ rest) w acts p in
    record {
      dids = p.prior ++ [];
      ending = HistoryFull;
      runs = p.runs [] HistoryFull (inl (refl, d.0));
      does = (
        ap (λ (n : ℕ). Err (halt.HistoryFull n bytes)) (d.1 ∙ ap entries_in all) ∙ ap (λ (n : ℕ). Err (halt.HistoryFull (entries_in (history_of (p.prior ++ []))) n)) (d.2 ∙ ap bytes_in all),
        subst (λ (t : List Act). AreDone t old new) (stopped_acts site events (x ∷ rest) w acts p) (d.3 ∙ m),
      );
    }
halts site script events rest x w stopped acts p old mid new (halt.ReadFault name) m d = absurd d
halts site script events rest x w stopped acts p old mid new (halt.Absent name) m d = absurd d
halts site script events rest x w stopped acts p old mid new (halt.ShelfEmpty kind needed stocked) m d = absurd d
halts site script events rest x w stopped acts p old mid new (halt.LogRefused place) m d = absurd d
halts site script events rest x w stopped acts p old mid new (halt.UnknownName name) m d = absurd d
halts site script events rest x w stopped acts p old mid new (halt.HubRefused cause) m d = absurd d
halts site script events rest x w stopped acts p old mid new halt.Misused m d = absurd d

-- ---- all events were done

-- what the logs have not passed, and how many entries there are, by what the events did
last_is : (site : SiteData) (events : List (ℕ × Event)) (w : StoryData) (acts : List Act) (p : IsProgress site events [] w acts)
    → rest_acts site (log_ahead p.state) ++ (syncs ++ puts (end_line (length p.state.history))) ≡ last_acts site events (p.prior ++ []) Finished
last_is site events w acts p =
    let place : drained_by (events_of events) (p.prior ++ []) ≡ p.state.log_cursor = omega (arith, p.places []) in
    ap (λ (n : ℕ). rest_acts site (drop n p.state.history) ++ (syncs ++ puts (end_line (length p.state.history)))) (sym place)
    ∙ ap (λ (h : List Entry). rest_acts site (drop (drained_by (events_of events) (p.prior ++ [])) h) ++ (syncs ++ puts (end_line (length h)))) (all_done site events [] w acts p)

-- and the replay ends
pub ends_so : (site : SiteData) (script : List ℕ) (events : List (ℕ × Event)) (w : StoryData) (acts : List Act) (p : IsProgress site events [] w acts) (answer : Result (Unit {0}) Halt) (old mid new : Outside)
    → AreDone acts old mid → EndsAfter site p.state answer mid new → DoesEvents site script events answer old new
ends_so site script events w acts p answer old mid new m e =
    let last = last_acts site events (p.prior ++ []) Finished in
    let e' = subst (λ (t : List Act). DoesAll t (Ok tt) answer mid new) (last_is site events w acts p) e in
    record {
      dids = p.prior ++ [];
      ending = Finished;
      runs = p.runs [] Finished (refl, refl);
      does = subst (λ (t : List Act). DoesAll (t ++ last) (Ok tt) answer old new) (sym (nothing_more site events [] w acts p)) (all_then old mid new acts last (Ok tt) answer m e');
    }

-- ---- the heads of the logs, and then the events

pub heads_then : (digest : List ℕ) (site : SiteData) (script : List ℕ) (events : List (ℕ × Event)) (answer : Result (Unit {0}) Halt) (old mid new : Outside)
    → AreDone (head_acts site digest) old mid → DoesEvents site script events answer mid new → Replays digest site script events answer old new
heads_then digest site script events answer old mid new h k = record {
  dids = k.dids;
  ending = k.ending;
  runs = k.runs;
  does = all_then old mid new (head_acts site digest) (all_acts site events k.dids k.ending) (replay_answer script events k.dids k.ending) answer h k.does;
}

pub heads_fail : (digest : List ℕ) (site : SiteData) (script : List ℕ) (events : List (ℕ × Event)) (why : Undone) (old new : Outside)
    → DoesActs (head_acts site digest) (Err why) old new → Replays digest site script events (put_answer (Err why)) old new
heads_fail digest site script events why old new h =
    let r = has_run (site_environment site) (site_sound (basis_of site)) opening (events_of events) in
    record {
      dids = r.0;
      ending = r.1;
      runs = r.2;
      does = all_first old new (head_acts site digest) (all_acts site events r.0 r.1) (replay_answer script events r.0 r.1) why h;
    }

-- ---- one event

-- its acts were done, or not
pub told_does : (site : SiteData) (s : State) (script : List ℕ) (line : ℕ) (event : Event) (told : List ℕ × Effect) (done : Result (Unit {0}) Undone) (story : StoryData) (old new : Outside)
    → Tells site s event (Ok told) story → DoesActs (log_acts told.1 ++ puts told.0) done old new → TakesNoMemory done → DoesEvent site s script line event (put_answer done) story old new
told_does site s script line event told done story old new h d n = by_done done (acts_so d) n
  where
    acts_so : DoesActs (log_acts told.1 ++ puts told.0) done old new → DoesActs (event_acts site s.history h.0) done old new
    acts_so d = subst (λ (e : Effect). DoesActs (log_acts e ++ puts (event_text site s.history h.0)) done old new) h.3 (subst (λ (t : List ℕ). DoesActs (log_acts told.1 ++ puts t) done old new) h.2 d)

    by_done : (r : Result (Unit {0}) Undone) → DoesActs (event_acts site s.history h.0) r old new → TakesNoMemory r → DoesEvent site s script line event (put_answer r) story old new
    by_done (Ok x) d n = (h.0, h.1, h.4, d)
    by_done (Err undone.WriteFault) d n = (h.0, h.1, d)
    by_done (Err undone.LogFault) d n = (h.0, h.1, d)
    by_done (Err undone.Memory) d n = absurd n

-- it was not done
pub untold_does : (site : SiteData) (s : State) (script : List ℕ) (line : ℕ) (event : Event) (why : WorldFault) (story : StoryData) (o : Outside)
    → Tells site s event (Err why) story → DoesEvent site s script line event (Err (event_halt script line why)) story o o
untold_does site s script line event fault.NotEnabled story o h = (h.0, refl, refl)
untold_does site s script line event (fault.Full entries bytes) story o h = (h.0, h.1, h.2, refl)
untold_does site s script line event fault.Memory story o h = refl

-- ---- the end

-- the rest was given to the logs, and the end was done or not
pub rest_ends : (site : SiteData) (s : State) (rest : Effect) (count : ℕ) (done : Result (Unit {0}) Undone) (old new : Outside) → Drains site s (Ok rest) → count ≡ length s.history
    → DoesActs (log_acts rest ++ (syncs ++ puts (end_line count))) done old new → EndsAfter site s (put_answer done) old new
rest_ends site s rest count done old new r n d =
    all_of (rest_acts site (log_ahead s) ++ (syncs ++ puts (end_line (length s.history)))) done old new
    (subst (λ (e : Effect). DoesActs (log_acts e ++ (syncs ++ puts (end_line (length s.history)))) done old new) r (subst (λ (k : ℕ). DoesActs (log_acts rest ++ (syncs ++ puts (end_line k))) done old new) n d))

-- memory was wanted before anything of it
pub rest_wanted : (site : SiteData) (s : State) (o : Outside) → EndsAfter site s (Err halt.Memory) o o
rest_wanted site s o = (0, refl)

-- the entries that a story counts are those of its state
pub count_is : (site : SiteData) (s : State) (story : StoryData) (count : ℕ) → count ≡ length (held_in story.world).history → Stands site s story → count ≡ length s.history
count_is site s story count e h = e ∙ ap (λ (t : List Entry). length t) h.represents.history
