-- What the acts of a replay put and append in all: the transcript, and what the logs have to have.
use Rattle.std.proofs.Common.{◌≡◌, ℕ, Bool, List, [], ◌∷◌, ◌++◌, length, take, drop, filter, refl, sym, ◌∙◌, ap, ap₂}
use Rattle.std.specs.List.{flat_map}
use Rattle.std.proofs.lemmas.Grind.{flat_map-append}
use Rattle.std.proofs.lemmas.List.{append-nil, take-append-drop}
use Rattle.std.proofs.lemmas.List.Elements.{filter-append}
use Rattle.cts_core.specs.Environments.{basis_of, site_environment}
use Rattle.cts_core.specs.Runs.{Did, Ending, Finished, NotEnabled, HistoryFull, Runs}
use Rattle.cts_core.specs.States.{Environment, commands_log, opening, packets_log}
use Rattle.cts_core_laws.proofs.Judging.{run_judged}
use Rattle.cts_core_laws.proofs.Legality.{core_is_legal}
use Rattle.cts_core_laws.proofs.Logging.{core_is_logged}
use Rattle.cts_core_laws.proofs.SiteSound.{apart, by_desks, legally, site_sound}
use Rattle.cts_core_laws.proofs.Telling.{core_is_told}
use Rattle.cts_core_laws.specs.Logs.{commands_in, commands_logged, drained_by, packets_in, packets_logged}
use Rattle.cts_core_laws.specs.Told.{history_of}
use Rattle.cts_def.specs.Sites.{IsSoundSite, SiteData}
use Rattle.cts_entry.specs.Histories.{commands_to, packets_from}
use Rattle.cts_entry.specs.declared.entry.Entry.{Entry}
use Rattle.cts_entry.specs.declared.event.Effect.{Effect}
use Rattle.cts_entry.specs.declared.event.Effect.TheVariants.{Posted, Reply, Written, Logged, Routed}
use Rattle.cts_entry.specs.declared.event.Event.{Event}
use Rattle.cts_log.specs.declared.kind.LogKind.TheVariants.{Tlm as Telemetry, Cmd as Commands}
use Rattle.cts_outside.specs.declared.vault.LogKind.{LogKind}
use Rattle.cts_outside.specs.declared.vault.LogKind.TheVariants.{Tlm, Cmd}
use Rattle.cts_run.specs.Acts.{appended_by, logged_of, put_by, puts, text_of}
use Rattle.cts_run.specs.Lines.{end_line}
use Rattle.cts_run.specs.Replay.{IsReplay, did_acts, event_acts, head_for, kept_entries, last_acts, log_acts, replay_acts, replay_answer, replay_text}
use Rattle.cts_run.specs.Transcript.{events_of, event_text, transcript}
use Rattle.cts_trace.specs.Routing.{names_in}
use Rattle.cts_trace.specs.Streams.{lay_out}

-- ---- one put

pub text_puts : (text : List ℕ) → text_of (puts text) ≡ text
text_puts [] = refl
text_puts (c ∷ text) = append-nil (c ∷ text)

logged_puts : (kind : LogKind) (text : List ℕ) → logged_of kind (puts text) ≡ []
logged_puts kind [] = refl
logged_puts kind (c ∷ text) = refl

-- ---- the acts of an event

text_logs : (effect : Effect) → text_of (log_acts effect) ≡ []
text_logs Posted = refl
text_logs (Reply desk front text) = refl
text_logs (Written interface bytes) = refl
text_logs (Logged tlm cmd) = refl
text_logs (Routed slot bytes) = refl

tlm_logs : (effect : Effect) → logged_of Tlm (log_acts effect) ≡ packets_in effect
tlm_logs Posted = refl
tlm_logs (Reply desk front text) = refl
tlm_logs (Written interface bytes) = refl
tlm_logs (Logged tlm cmd) = append-nil tlm
tlm_logs (Routed slot bytes) = refl

cmd_logs : (effect : Effect) → logged_of Cmd (log_acts effect) ≡ commands_in effect
cmd_logs Posted = refl
cmd_logs (Reply desk front text) = refl
cmd_logs (Written interface bytes) = refl
cmd_logs (Logged tlm cmd) = append-nil cmd
cmd_logs (Routed slot bytes) = refl

event_puts : (site : SiteData) (history : List Entry) (did : Did) → text_of (event_acts site history did) ≡ event_text site history did
event_puts site history did = flat_map-append put_by (log_acts did.effect) (puts (event_text site history did)) ∙ ap₂ ◌++◌ (text_logs did.effect) (text_puts (event_text site history did))

dids_put : (site : SiteData) (history : List Entry) (dids : List Did) → text_of (did_acts site history dids) ≡ transcript site history dids
dids_put site history [] = refl
dids_put site history (did ∷ dids) =
    flat_map-append put_by (event_acts site history did) (did_acts site (history ++ did.entries) dids) ∙ ap₂ ◌++◌ (event_puts site history did) (dids_put site (history ++ did.entries) dids)

-- ---- the transcript

last_puts : (site : SiteData) (events : List (ℕ × Event)) (dids : List Did) (ending : Ending) → transcript site [] dids ++ text_of (last_acts site events dids ending) ≡ replay_text site dids ending
last_puts site events dids Finished = ap (λ (t : List ℕ). transcript site [] dids ++ t) (text_puts (end_line (length (history_of dids))))
last_puts site events dids NotEnabled = append-nil (transcript site [] dids)
last_puts site events dids HistoryFull = append-nil (transcript site [] dids)

replay_puts : (digest : List ℕ) (site : SiteData) (events : List (ℕ × Event)) (dids : List Did) (ending : Ending) → text_of (replay_acts digest site events dids ending) ≡ replay_text site dids ending
replay_puts digest site events dids ending =
    flat_map-append put_by (did_acts site [] dids) (last_acts site events dids ending)
    ∙ (ap (λ (t : List ℕ). t ++ text_of (last_acts site events dids ending)) (dids_put site [] dids) ∙ last_puts site events dids ending)

-- ---- the logs

module _ (env : Environment) (keep : Entry → Bool) where
  abbrev log_of : List Entry → List ℕ
  log_of entries = flat_map (lay_out env.layout (names_in env.routing)) (filter keep entries)

  log_append : (xs ys : List Entry) → log_of (xs ++ ys) ≡ log_of xs ++ log_of ys
  log_append xs ys = ap (flat_map (lay_out env.layout (names_in env.routing))) (filter-append keep xs ys) ∙ flat_map-append (lay_out env.layout (names_in env.routing)) (filter keep xs) (filter keep ys)

  -- what was drained, and then the rest
  log_whole : (k : ℕ) (entries : List Entry) → log_of (take k entries) ++ log_of (drop k entries) ≡ log_of entries
  log_whole k entries = sym (log_append (take k entries) (drop k entries)) ∙ ap log_of (take-append-drop k entries)

module _ (kind : LogKind) (tells : Effect → List ℕ) (logs : (e : Effect) → logged_of kind (log_acts e) ≡ tells e) where
  event_logs : (site : SiteData) (history : List Entry) (did : Did) → logged_of kind (event_acts site history did) ≡ tells did.effect
  event_logs site history did =
      flat_map-append (appended_by kind) (log_acts did.effect) (puts (event_text site history did))
      ∙ (ap₂ ◌++◌ (logs did.effect) (logged_puts kind (event_text site history did)) ∙ append-nil (tells did.effect))

  dids_log : (site : SiteData) (history : List Entry) (dids : List Did) → logged_of kind (did_acts site history dids) ≡ flat_map (λ d. tells d.effect) dids
  dids_log site history [] = refl
  dids_log site history (did ∷ dids) =
      flat_map-append (appended_by kind) (event_acts site history did) (did_acts site (history ++ did.entries) dids) ∙ ap₂ ◌++◌ (event_logs site history did) (dids_log site (history ++ did.entries) dids)

  replay_logs : (site : SiteData) (events : List (ℕ × Event)) (dids : List Did) (ending : Ending)
      → logged_of kind (did_acts site [] dids ++ last_acts site events dids ending) ≡ flat_map (λ d. tells d.effect) dids ++ logged_of kind (last_acts site events dids ending)
  replay_logs site events dids ending =
      flat_map-append (appended_by kind) (did_acts site [] dids) (last_acts site events dids ending) ∙ ap (λ (t : List ℕ). t ++ logged_of kind (last_acts site events dids ending)) (dids_log site [] dids)

module _ (site : SiteData) (events : List (ℕ × Event)) (dids : List Did) where
  abbrev env : Environment
  env = site_environment site

  abbrev place : ℕ
  place = drained_by (events_of events) dids

  packets_last : (ending : Ending) → packets_log env (take place (history_of dids)) ++ logged_of Tlm (last_acts site events dids ending) ≡ packets_log env (kept_entries events dids ending)
  packets_last Finished =
      ap (λ (t : List ℕ). packets_log env (take place (history_of dids)) ++ (packets_log env (drop place (history_of dids)) ++ t)) (logged_puts Tlm (end_line (length (history_of dids))))
      ∙ (ap (λ (t : List ℕ). packets_log env (take place (history_of dids)) ++ t) (append-nil (packets_log env (drop place (history_of dids)))) ∙ log_whole env (packets_from env.is_logged) place (history_of dids))
  packets_last NotEnabled = append-nil (packets_log env (take place (history_of dids)))
  packets_last HistoryFull = append-nil (packets_log env (take place (history_of dids)))

  commands_last : (ending : Ending) → commands_log env (take place (history_of dids)) ++ logged_of Cmd (last_acts site events dids ending) ≡ commands_log env (kept_entries events dids ending)
  commands_last Finished =
      ap (λ (t : List ℕ). commands_log env (take place (history_of dids)) ++ (commands_log env (drop place (history_of dids)) ++ t)) (logged_puts Cmd (end_line (length (history_of dids))))
      ∙ (ap (λ (t : List ℕ). commands_log env (take place (history_of dids)) ++ t) (append-nil (commands_log env (drop place (history_of dids)))) ∙ log_whole env (commands_to env.is_logged) place (history_of dids))
  commands_last NotEnabled = append-nil (commands_log env (take place (history_of dids)))
  commands_last HistoryFull = append-nil (commands_log env (take place (history_of dids)))

  replay_packets : (digest : List ℕ) (ending : Ending) → packets_logged dids ≡ packets_log env (take place (history_of dids)) → logged_of Tlm (replay_acts digest site events dids ending) ≡ head_for site Telemetry digest ++ packets_log env (kept_entries events dids ending)
  replay_packets digest ending law =
      ap (λ (t : List ℕ). head_for site Telemetry digest ++ t)
      (replay_logs Tlm packets_in tlm_logs site events dids ending ∙ (ap (λ (t : List ℕ). t ++ logged_of Tlm (last_acts site events dids ending)) law ∙ packets_last ending))

  replay_commands : (digest : List ℕ) (ending : Ending) → commands_logged dids ≡ commands_log env (take place (history_of dids)) → logged_of Cmd (replay_acts digest site events dids ending) ≡ head_for site Commands digest ++ commands_log env (kept_entries events dids ending)
  replay_commands digest ending law =
      ap (λ (t : List ℕ). head_for site Commands digest ++ t)
      (replay_logs Cmd commands_in cmd_logs site events dids ending ∙ (ap (λ (t : List ℕ). t ++ logged_of Cmd (last_acts site events dids ending)) law ∙ commands_last ending))

-- ---- a run is a replay

pub replay_is : (digest : List ℕ) (site : SiteData) (script : List ℕ) (events : List (ℕ × Event)) (dids : List Did) (ending : Ending) → IsSoundSite site → Runs (site_environment site) opening (events_of events) dids ending
    → IsReplay digest site script events (replay_acts digest site events dids ending) (replay_answer script events dids ending)
replay_is digest site script events dids ending sound runs =
    let logged = core_is_logged (site_environment site) (events_of events) dids ending runs in
    record {
      dids = dids;
      ending = ending;
      runs = runs;
      acts_are = refl;
      text = replay_puts digest site events dids ending;
      packets = replay_packets site events dids digest ending logged.0;
      commands = replay_commands site events dids digest ending logged.1;
      legal = core_is_legal (basis_of site) (legally (basis_of site)) (events_of events) dids ending runs;
      lines = λ m line. core_is_told (site_environment site) (site_sound (basis_of site)) (by_desks (basis_of site)) (events_of events) dids ending m (apart (basis_of site) sound) line runs;
      judged = run_judged site opening (events_of events) dids ending runs;
      due_is = refl;
    }
