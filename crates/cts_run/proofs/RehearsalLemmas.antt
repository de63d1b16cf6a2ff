-- How far a rehearsal has come, and what it has done when it ends.
use Rattle.std.proofs.Common.{◌≡◌, ℕ, zero, suc, ◌+◌, ◌*◌, ◌%◌, ◌<◌, ◌≤◌, ◌^◌, Bool, true, false, List, [], ◌∷◌, ◌++◌, length, drop, filter, Option, Some, None, Result, Ok, Err, IfOk, refl, sym, ◌∙◌, ap, subst, arith, append_assoc, length-append, inl, inr}
use Rattle.std.specs.Prelude.{◌==◌, nat_lt, nat_le, if◌then◌else◌}
use Rattle.std.proofs.lemmas.Grind.{flat_map-append}
use Rattle.std.proofs.lemmas.List.{append-nil}
use Rattle.std.proofs.lemmas.List.Elements.{filter-append}
use Rattle.cts_core.specs.Endings.{held_in}
use Rattle.cts_core.specs.Environments.{basis_of, site_environment}
use Rattle.cts_core.specs.Runs.{Did, after, drained, Ending, Finished, NotEnabled, HistoryFull, Runs}
use Rattle.cts_core.specs.States.{commands_log, opening, packets_log}
use Rattle.cts_core.specs.declared.fault.WorldFault.{WorldFault}
use Rattle.cts_core.specs.declared.fault.WorldFault.TheVariants as fault
use Rattle.cts_core_laws.proofs.OneRun.{has_run}
use Rattle.cts_core_laws.proofs.SiteSound.{site_sound}
use Rattle.cts_core_laws.specs.Told.{history_of}
use Rattle.cts_def.specs.Sites.{SiteData}
use Rattle.cts_entry.specs.Histories.{entries_in, bytes_in}
use Rattle.cts_entry.specs.declared.entry.Entry.{Entry}
use Rattle.cts_entry.specs.declared.event.Effect.{Effect}
use Rattle.cts_entry.specs.declared.event.Effect.TheVariants.{Logged}
use Rattle.cts_entry.specs.declared.event.Event.{Event}
use Rattle.cts_entry.specs.declared.event.Event.TheVariants.{SetTime, Opens, Piece, Finish, Write, Call, DrainLog, DrainSlot, Stop}
use Rattle.cts_outside.specs.Seen.{SinkSeen, VaultSeen}
use Rattle.cts_rehearsal.proofs.Walking.{rehearsals_walk}
use Rattle.cts_rehearsal.specs.Generated.{duration, events_from, events_of, generated, order}
use Rattle.cts_rehearsal.specs.Numbers.{choice_of, next_number}
use Rattle.cts_rehearsal.specs.Walks.{Walks, turned}
use Rattle.cts_run.specs.Acts.{DoesAll, Outside, outside, puts}
use Rattle.cts_run.specs.Causes.{put_answer}
use Rattle.cts_run.specs.Putting.{PutsText}
use Rattle.cts_run.specs.Rehearsal.{Halts, IsFar, IsSummary, Rehearses, is_command, is_packet, is_refusal, ones, refusals_in, rehearsal_acts, rehearsal_answer, rehearsal_name, rehearsal_text}
use Rattle.cts_rehearsal.specs.Summaries.{summary_text}
use Rattle.cts_run.specs.Replay.{event_halt, not_enabled}
use Rattle.cts_run.specs.Story.{Drains, Moves, Stands, StoryData, site_told}
use Rattle.cts_run.specs.declared.halt.Halt.{Halt}
use Rattle.cts_run.specs.declared.halt.Halt.TheVariants as halt
use Rattle.cts_run.specs.declared.putting.Undone.{Undone}
use Rattle.cts_table.specs.declared.basis.Basis.{Basis}
use Rattle.cts_monitor.specs.Events.{events}
use Rattle.cts_run.proofs.ActLemmas.{all_of, put_done}

-- ---- how many events there are

order_few : (v : ℕ) (fits : Bool) → nat_le v 10 ≡ fits → length (Call 0 (order v) ∷ (if nat_le v 10 then Write 0 1 ∷ [] else [])) ≤ 2
order_few v true e = rw e (omega arith)
order_few v false e = rw e (omega arith)

few_by : (r : ℕ) (a b c d : Bool) → nat_lt (r % 8) 4 ≡ a → (r % 8 == 4) ≡ b → (r % 8 == 5) ≡ c → (r % 8 == 6) ≡ d → length (events_of r) ≤ 2
few_by r true b c d ea eb ec ed = rw ea (omega arith)
few_by r false true c d ea eb ec ed = rw (ea, eb) (omega arith)
few_by r false false true d ea eb ec ed = rw (ea, eb, ec) (omega arith)
few_by r false false false true ea eb ec ed = rw (ea, eb, ec, ed) (order_few (duration r) (nat_le (duration r) 10) refl)
few_by r false false false false ea eb ec ed = rw (ea, eb, ec, ed) (omega arith)

choice_few : (r : ℕ) → length (events_of r) ≤ 2
choice_few r = few_by r (nat_lt (r % 8) 4) (r % 8 == 4) (r % 8 == 5) (r % 8 == 6) refl refl refl refl

choices_few : (n x : ℕ) → length (events_from n x) ≤ 2 * n
choices_few zero x = omega arith
choices_few (suc n) x =
    let here = choice_few (choice_of (next_number x)) in
    let more = choices_few n (next_number x) in
    omega (arith, length-append (events_of (choice_of (next_number x))) (events_from n (next_number x)), here, more)

generated_few : (n : ℕ) → n < 2 ^ 32 → length (generated n) < 2 ^ 34
generated_few n h = omega (arith, h, choices_few n n)

-- ---- one event after another

pub begun : (site : SiteData) (n : ℕ) (story : StoryData) → n < 2 ^ 32 → Stands site opening story → IsFar site n (generated n) 0 story
begun site n story small h = record {
  state = opening;
  prior = [];
  goes = h;
  history = refl;
  runs = λ dids ending r. r;
  refusals = refl;
  count = omega arith;
  few = generated_few n small;
  connected = λ k. false;
  request = None;
  walks = rehearsals_walk n;
  undrained = refl;
}

-- the events after one of a walk are a walk, and it gives the logs nothing
walks_on : (connected : ℕ → Bool) (request : Option (List ℕ)) (event : Event) (rest : List Event) → Walks connected request (event ∷ rest)
    → (drained event ≡ 0) × (connected' : ℕ → Bool) × (request' : Option (List ℕ)) × Walks connected' request' rest
walks_on connected request (SetTime time) rest w = absurd w
walks_on connected request (Opens by) rest w = (refl, turned by true connected, None, w.1)
walks_on connected request (Piece by piece) rest w = (refl, connected, None, w.3)
walks_on connected request (Finish by why) rest w = (refl, turned by false connected, None, w.2)
walks_on connected request (Write by count) rest w = (refl, connected, None, w.4)
walks_on connected request (Call desk body) rest w = (refl, connected, Some body, w.1)
walks_on connected request (DrainLog count) rest w = absurd w
walks_on connected request (DrainSlot by count) rest w = absurd w
walks_on connected request Stop rest w = absurd w

one_by : (did : Did) (refuses : Bool) → is_refusal did.effect ≡ refuses → refusals_in (did ∷ []) ≡ ones refuses
one_by did true e = rw e refl
one_by did false e = rw e refl

refusals_more : (dids : List Did) (did : Did) → refusals_in (dids ++ did ∷ []) ≡ refusals_in dids + ones (is_refusal did.effect)
refusals_more dids did =
    ap length (filter-append (λ (d : Did). is_refusal d.effect) dids (did ∷ []))
    ∙ (length-append (filter (λ (d : Did). is_refusal d.effect) dids) (filter (λ (d : Did). is_refusal d.effect) (did ∷ []))
    ∙ ap (λ (k : ℕ). refusals_in dids + k) (one_by did (is_refusal did.effect) refl))

history_more : (dids : List Did) (did : Did) → history_of (dids ++ did ∷ []) ≡ history_of dids ++ did.entries
history_more dids did = flat_map-append (λ (d : Did). d.entries) dids (did ∷ []) ∙ ap (λ (t : List Entry). history_of dids ++ t) (append-nil did.entries)

pub goes_on : (site : SiteData) (n : ℕ) (event : Event) (rest : List Event) (before now : ℕ) (effect : Effect) (old new : StoryData) (p : IsFar site n (event ∷ rest) before old)
    → Moves site p.state event (Ok effect) new → now ≡ before + ones (is_refusal effect) → IsFar site n rest now new
goes_on site n event rest before now effect old new p m e =
    let did = m.0 in
    let w = walks_on p.connected p.request event rest p.walks in
    record {
      state = after p.state event did;
      prior = p.prior ++ did ∷ [];
      goes = m.3;
      history = ap (λ (t : List Entry). t ++ did.entries) p.history ∙ sym (history_more p.prior did);
      runs = λ dids ending r. subst (λ (t : List Did). Runs (site_environment site) opening (generated n) t ending) (sym (append_assoc p.prior (did ∷ []) dids)) (p.runs (did ∷ dids) ending (inr (did, dids, refl, m.1, r)));
      refusals = e ∙ (ap (λ (f : Effect). before + ones (is_refusal f)) m.2 ∙ (ap (λ (k : ℕ). k + ones (is_refusal did.effect)) p.refusals ∙ sym (refusals_more p.prior did)));
      count = omega (arith, p.count, length-append p.prior (did ∷ []));
      few = p.few;
      connected = w.1;
      request = w.2;
      walks = w.3;
      undrained = omega (arith, p.undrained, w.0);
    }

-- there are no more refusals than events
first_few : (d : Did) (dids : List Did) (b : Bool) → is_refusal d.effect ≡ b → refusals_in dids ≤ length dids → refusals_in (d ∷ dids) ≤ suc (length dids)
first_few d dids true e k = rw e (omega (arith, k))
first_few d dids false e k = rw e (omega (arith, k))

refusals_few : (dids : List Did) → refusals_in dids ≤ length dids
refusals_few [] = omega arith
refusals_few (d ∷ dids) = first_few d dids (is_refusal d.effect) refl (refusals_few dids)

-- one more reply is counted in a number
pub counted : (site : SiteData) (n : ℕ) (event : Event) (rest : List Event) (refused : ℕ) (story : StoryData) → IsFar site n (event ∷ rest) refused story → refused < 2 ^ 34
counted site n event rest refused story p = omega (arith, p.count, p.few, p.refusals, refusals_few p.prior)

-- one reply tells one refusal at most
ones_few : (b : Bool) → ones b ≤ 1
ones_few true = omega arith
ones_few false = omega arith

pub one_more : (effect : Effect) → ones (is_refusal effect) ≤ 1
one_more effect = ones_few (is_refusal effect)

-- an event is refused, or memory ran out
pub stops : (site : SiteData) (n : ℕ) (event : Event) (rest : List Event) (refused : ℕ) (old new : StoryData) (why : WorldFault) (p : IsFar site n (event ∷ rest) refused old)
    → Moves site p.state event (Err why) new → Halts site n (event_halt rehearsal_name 0 why)
stops site n event rest refused old new fault.NotEnabled p m = inr (p.prior ++ [], NotEnabled, p.runs [] NotEnabled (inl (refl, m)), refl)
stops site n event rest refused old new (fault.Full entries bytes) p m =
    let all : p.state.history ≡ history_of (p.prior ++ []) = p.history ∙ ap history_of (sym (append-nil p.prior)) in
    let due = ap (λ (k : ℕ). Err (halt.HistoryFull k bytes)) (m.1 ∙ ap entries_in all) ∙ ap (λ (k : ℕ). Err (halt.HistoryFull (entries_in (history_of (p.prior ++ []))) k)) (m.2 ∙ ap bytes_in all) in
    inr (p.prior ++ [], HistoryFull, p.runs [] HistoryFull (inl (refl, m.0)), sym due)
stops site n event rest refused old new fault.Memory p m = inl refl

-- ---- the summary

same_text : (entries entries' limits limits' packets packets' commands commands' refused refused' : ℕ) (log log' : List ℕ)
    → entries ≡ entries' → limits ≡ limits' → packets ≡ packets' → commands ≡ commands' → refused ≡ refused' → log ≡ log'
    → summary_text entries limits (record { packets = packets; commands = commands; refused = refused; log = log }) ≡ summary_text entries' limits' (record { packets = packets'; commands = commands'; refused = refused'; log = log' })
same_text entries entries' limits limits' packets packets' commands commands' refused refused' log log' a b c d e f = rw (a, b, c, d, e, f) refl

log_is : (tlm cmd a b : List ℕ) → Logged tlm cmd ≡ Logged a b → tlm ≡ a
log_is tlm cmd a b e = cc e

pub sums_up : (site : SiteData) (n refused : ℕ) (story : StoryData) (p : IsFar site n [] refused story) (entries limits packets commands : ℕ) (tlm cmd text : List ℕ)
    → entries ≡ length (held_in story.world).history → limits ≡ length (events (site_told story) (held_in story.world).history)
    → packets ≡ length (filter is_packet (held_in story.world).history) → commands ≡ length (filter is_command (held_in story.world).history)
    → Drains site p.state (Ok (Logged tlm cmd)) → text ≡ summary_text entries limits (record { packets = packets; commands = commands; refused = refused; log = tlm }) → IsSummary site n text
sums_up site n refused story p entries limits packets commands tlm cmd text en li pa co dr te =
    let all : (held_in story.world).history ≡ history_of p.prior = p.goes.represents.history ∙ p.history in
    let on : site_told story ≡ site = ap (λ (b : Basis). b.site) p.goes.represents.basis in
    let ahead : drop p.state.log_cursor p.state.history ≡ history_of p.prior = ap (λ (k : ℕ). drop k p.state.history) p.undrained ∙ p.history in
    let log : tlm ≡ packets_log (site_environment site) (history_of p.prior) =
    log_is tlm cmd (packets_log (site_environment site) (drop p.state.log_cursor p.state.history)) (commands_log (site_environment site) (drop p.state.log_cursor p.state.history)) dr
    ∙ ap (λ (es : List Entry). packets_log (site_environment site) es) ahead in (
      p.prior,
      subst (λ (t : List Did). Runs (site_environment site) opening (generated n) t Finished) (append-nil p.prior) (p.runs [] Finished (refl, refl)),
      te ∙ same_text _ _ _ _ _ _ _ _ _ _ _ _
          (en ∙ ap (λ (h : List Entry). length h) all)
          (li ∙ (ap (λ (s : SiteData). length (events s (held_in story.world).history)) on ∙ ap (λ (h : List Entry). length (events site h)) all))
          (pa ∙ ap (λ (h : List Entry). length (filter is_packet h)) all)
          (co ∙ ap (λ (h : List Entry). length (filter is_command h)) all)
          p.refusals log,
    )

-- what is so of an answer is so otherwise
pub of_ok : {A E : Type 0} (result : Result A E) (P Q : A → Type 0) → ((a : A) → P a → Q a) → IfOk result P → IfOk result Q
of_ok (Ok a) P Q f k = f a k
of_ok (Err e) P Q f k = tt

-- ---- the end

-- memory ran out before anything
pub wants : (site : SiteData) (n : ℕ) (o : Outside) → Rehearses site n (Err halt.Memory) o o
wants site n o =
    let r = has_run (site_environment site) (site_sound (basis_of site)) opening (generated n) in
    record { dids = r.0; ending = r.1; runs = r.2; does = (0, refl) }

pub halts : (site : SiteData) (n : ℕ) (why : Halt) (o : Outside) → Halts site n why → Rehearses site n (Err why) o o
halts site n why o (inl e) = subst (λ (h : Halt). Rehearses site n (Err h) o o) (sym e) (wants site n o)
halts site n why o (inr h) = record { dids = h.0; ending = h.1; runs = h.2; does = by_ending h.0 h.1 h.3 }
  where
    by_ending : (dids : List Did) (ending : Ending) → rehearsal_answer dids ending ≡ Err why → DoesAll (rehearsal_acts site dids ending) (rehearsal_answer dids ending) (Err why) o o
    by_ending dids Finished e = absurd (cc e)
    by_ending dids NotEnabled e = subst (λ (r : Result (Unit {0}) Halt). DoesAll [] (Err (not_enabled rehearsal_name 0)) r o o) e (refl, refl)
    by_ending dids HistoryFull e = subst (λ (r : Result (Unit {0}) Halt). DoesAll [] (Err (halt.HistoryFull (entries_in (history_of dids)) (bytes_in (history_of dids)))) r o o) e (refl, refl)

-- the summary was put, or not
pub puts_so : (site : SiteData) (n : ℕ) (text : List ℕ) (put : Result (Unit {0}) Undone) (old new : SinkSeen) (vault : VaultSeen) → IsSummary site n text → PutsText text put old new
    → Rehearses site n (put_answer put) (outside old vault) (outside new vault)
puts_so site n text put old new vault h p = record {
  dids = h.0;
  ending = Finished;
  runs = h.1;
  does = all_of (puts (rehearsal_text site h.0)) put (outside old vault) (outside new vault) (put_done (rehearsal_text site h.0) put old new vault (subst (λ (t : List ℕ). PutsText t put old new) h.2 p));
}
