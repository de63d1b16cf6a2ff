-- The logs of a run have the layouts of the entries that were drained.
use Rattle.std.proofs.Common.{nat_le, ◌≡◌, ℕ, ◌+◌, ◌≤◌, Bool, List, [], ◌∷◌, ◌++◌, length, take, drop, refl, sym, ◌∙◌, ap, subst, arith, append-nil, append_assoc, length-append, length-drop, filter, inl, inr}
use Rattle.std.specs.Prelude.{true}
use Rattle.std.specs.List.{flat_map}
use Rattle.std.proofs.lemmas.Grind.{flat_map-append}
use Rattle.std.proofs.lemmas.List.Elements.{filter-append}
use Rattle.std.proofs.lemmas.List.{take-append-le}
use Rattle.std.proofs.Math.Seq.{take-add}
use Rattle.cts_entry.specs.declared.entry.Entry.{Entry}
use Rattle.cts_entry.specs.declared.event.Event.{Event}
use Rattle.cts_entry.specs.declared.event.Event.TheVariants.{SetTime, Opens, Piece, Finish, Write, Call, DrainLog, DrainSlot, Stop}
use Rattle.cts_entry.specs.declared.event.Effect.{Effect}
use Rattle.cts_entry.specs.Histories.{packets_from, commands_to}
use Rattle.cts_api.specs.Replies.{Reply as Answer}
use Rattle.cts_core.specs.States.{Environment, State, opening, is_enabled, log_ahead, packets_log, commands_log}
use Rattle.cts_core.specs.Runs.{Did, Does, after, drained, effect_of, Ending, Runs}
use Rattle.cts_core_laws.specs.Told.{history_of}
use Rattle.cts_core_laws.specs.Logs.{drained_by, packets_in, commands_in}
use Rattle.cts_core_laws.specs.Laws.{CoreIsLogged}
use Rattle.cts_trace.specs.Routing.{names_in}
use Rattle.cts_trace.specs.Streams.{lay_out}
use Rattle.cts_trace.proofs.Walks.{enough_of}

-- the logs have passed no more than stands
drained_within : (env : Environment) (s : State) (event : Event) → is_enabled env s event ≡ true → s.log_cursor ≤ length s.history → s.log_cursor + drained event ≤ length s.history
drained_within env s (SetTime time) e within = omega (arith, within)
drained_within env s (Opens by) e within = omega (arith, within)
drained_within env s (Piece by piece) e within = omega (arith, within)
drained_within env s (Finish by why) e within = omega (arith, within)
drained_within env s (Write by count) e within = omega (arith, within)
drained_within env s (Call desk body) e within = omega (arith, within)
drained_within env s (DrainLog count) e within =
    let enough : nat_le count (length (log_ahead s)) ≡ true = (let n = e in grind arith) in
    omega (arith, within, enough_of count (length (log_ahead s)) enough, length-drop s.log_cursor s.history)
drained_within env s (DrainSlot by count) e within = omega (arith, within)
drained_within env s Stop e within = omega (arith, within)

module _ (env : Environment) (keep : Entry → Bool) (tells : Effect → List ℕ) where
  abbrev log_of : List Entry → List ℕ
  log_of entries = flat_map (lay_out env.layout (names_in env.routing)) (filter keep entries)

  log_append : (xs ys : List Entry) → log_of (xs ++ ys) ≡ log_of xs ++ log_of ys
  log_append xs ys = ap (flat_map (lay_out env.layout (names_in env.routing))) (filter-append keep xs ys) ∙ flat_map-append (lay_out env.layout (names_in env.routing)) (filter keep xs) (filter keep ys)

  -- what an event gives is the log of the entries that it drains
  abbrev Drains : Type 0
  Drains = (s : State) (event : Event) (a : Answer) → tells (effect_of env s event a) ≡ log_of (take (drained event) (log_ahead s))

  log_step : Drains → (s : State) (event : Event) (did : Did) → Does env s event did → s.log_cursor ≤ length s.history
      → log_of (take s.log_cursor s.history) ++ tells did.effect ≡ log_of (take (s.log_cursor + drained event) (s.history ++ did.entries))
  log_step drains s event did d within =
      let c = s.log_cursor in
      let n = drained event in
      ap (λ (l : List ℕ). log_of (take c s.history) ++ l) (ap tells d.effect ∙ drains s event d.answer)
      ∙ (sym (log_append (take c s.history) (take n (drop c s.history)))
      ∙ (ap log_of (sym (take-add c n s.history)) ∙ ap log_of (sym (take-append-le (c + n) s.history did.entries (drained_within env s event d.enabled within)))))

  log_ends : (s : State) → log_of (take s.log_cursor s.history) ++ [] ≡ log_of (take (s.log_cursor + 0) (s.history ++ []))
  log_ends s =
      let same : s.log_cursor ≡ s.log_cursor + 0 = omega arith in
      append-nil (log_of (take s.log_cursor s.history)) ∙ (ap (λ (k : ℕ). log_of (take k s.history)) same ∙ ap (λ (l : List Entry). log_of (take (s.log_cursor + 0) l)) (sym (append-nil s.history)))

  abbrev all_told : List Did → List ℕ
  all_told dids = flat_map (λ d. tells d.effect) dids

  log_run : Drains → (s : State) (events : List Event) (dids : List Did) (ending : Ending) → s.log_cursor ≤ length s.history → Runs env s events dids ending
      → log_of (take s.log_cursor s.history) ++ all_told dids ≡ log_of (take (s.log_cursor + drained_by events dids) (s.history ++ history_of dids))
  log_run drains s [] dids ending within h = subst (λ (l : List Did). log_of (take s.log_cursor s.history) ++ all_told l ≡ log_of (take (s.log_cursor + 0) (s.history ++ history_of l))) (sym h.0) (log_ends s)
  log_run drains s (event ∷ events) dids ending within (inl h) =
      subst (λ (l : List Did). log_of (take s.log_cursor s.history) ++ all_told l ≡ log_of (take (s.log_cursor + drained_by (event ∷ events) l) (s.history ++ history_of l))) (sym h.0) (log_ends s)
  log_run drains s (event ∷ events) dids ending within (inr h) =
      let next = after s event h.0 in
      let e : Did = h.0 in
      let still = drained_within env s event h.3.enabled within in
      let inside : next.log_cursor ≤ length next.history = omega (arith, still, length-append s.history e.entries) in
      let more = log_run drains next events h.1 ending inside h.4 in
      let step = log_step drains s event e h.3 within in
      let rest = all_told h.1 in
      let places : next.log_cursor + drained_by events h.1 ≡ s.log_cursor + (drained event + drained_by events h.1) = omega arith in
      subst (λ (l : List Did). log_of (take s.log_cursor s.history) ++ all_told l ≡ log_of (take (s.log_cursor + drained_by (event ∷ events) l) (s.history ++ history_of l))) (sym h.2)
      (sym (append_assoc (log_of (take s.log_cursor s.history)) (tells e.effect) rest)
      ∙ (ap (λ (l : List ℕ). l ++ rest) step
      ∙ (more ∙ (ap (λ (k : ℕ). log_of (take k (next.history ++ history_of h.1))) places
      ∙ ap (λ (l : List Entry). log_of (take (s.log_cursor + (drained event + drained_by events h.1)) l)) (append_assoc s.history e.entries (history_of h.1))))))

packets_drain : (env : Environment) (s : State) (event : Event) (a : Answer) → packets_in (effect_of env s event a) ≡ flat_map (lay_out env.layout (names_in env.routing)) (filter (packets_from env.is_logged) (take (drained event) (log_ahead s)))
packets_drain env s (SetTime time) a = refl
packets_drain env s (Opens by) a = refl
packets_drain env s (Piece by piece) a = refl
packets_drain env s (Finish by why) a = refl
packets_drain env s (Write by count) a = refl
packets_drain env s (Call desk body) a = refl
packets_drain env s (DrainLog count) a = refl
packets_drain env s (DrainSlot by count) a = refl
packets_drain env s Stop a = refl

commands_drain : (env : Environment) (s : State) (event : Event) (a : Answer) → commands_in (effect_of env s event a) ≡ flat_map (lay_out env.layout (names_in env.routing)) (filter (commands_to env.is_logged) (take (drained event) (log_ahead s)))
commands_drain env s (SetTime time) a = refl
commands_drain env s (Opens by) a = refl
commands_drain env s (Piece by piece) a = refl
commands_drain env s (Finish by why) a = refl
commands_drain env s (Write by count) a = refl
commands_drain env s (Call desk body) a = refl
commands_drain env s (DrainLog count) a = refl
commands_drain env s (DrainSlot by count) a = refl
commands_drain env s Stop a = refl

pub core_is_logged : (env : Environment) → CoreIsLogged env
core_is_logged env events dids ending h =
    let places : 0 + drained_by events dids ≡ drained_by events dids = omega arith in
    let packets = log_run env (packets_from env.is_logged) packets_in (packets_drain env) opening events dids ending (omega arith) h in
    let commands = log_run env (commands_to env.is_logged) commands_in (commands_drain env) opening events dids ending (omega arith) h in (
      packets ∙ ap (λ (k : ℕ). packets_log env (take k (history_of dids))) places,
      commands ∙ ap (λ (k : ℕ). commands_log env (take k (history_of dids))) places,
    )
