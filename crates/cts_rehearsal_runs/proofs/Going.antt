-- How a run goes on.
use Rattle.std.proofs.Common.{◌≡◌, ◌∙◌, ℕ, ◌+◌, ◌*◌, ◌≤◌, Bool, true, false, List, [], ◌∷◌, ◌++◌, length, Option, refl, sym, ap, subst, arith, le-leb, inl, inr}
use Rattle.std.specs.Prelude.{◌&&◌, ◌||◌, nat_le}
use Rattle.cts_def.specs.Protocols.{SpecData}
use Rattle.cts_def.specs.Sites.{SiteData}
use Rattle.cts_entry.specs.Histories.{bytes_in, entries_in, is_stopped, since}
use Rattle.cts_entry.specs.Legal.{most_bytes, most_entries}
use Rattle.cts_entry.specs.declared.entry.Entry.{Entry}
use Rattle.cts_entry.specs.declared.event.Effect.TheVariants.{Posted}
use Rattle.cts_entry.specs.declared.event.Event.{Event}
use Rattle.cts_entry.proofs.Appending.{bytes-append, entries-append, stopped-append}
use Rattle.cts_entry.proofs.Queuing.{since-append}
use Rattle.cts_framing.specs.Rows.{framing_of}
use Rattle.cts_framing.proofs.Framings.{ends_nil, taken_none}
use Rattle.cts_framing.proofs.Sound.{is_sound}
use Rattle.cts_trace.specs.Routing.{walk}
use Rattle.cts_trace.proofs.Walks.{connected_kept, reach_kept}
use Rattle.cts_core.specs.Environments.{site_environment}
use Rattle.cts_core.specs.Runs.{Appends, Did, Does, Ending, Finished, NotEnabled, HistoryFull, Refuses, Runs, after, kept, passed_for, pieces_for, silent}
use Rattle.cts_core.specs.States.{Environment, State, has_room, is_enabled, takes_room}
use Rattle.cts_rehearsal_runs.specs.Cut.{kept as kept_pieces}
use Rattle.cts_rehearsal_runs.specs.Protocols.{frames, lines}
use Rattle.cts_rehearsal_runs.proofs.Standing.{Holds, IsOnTheWay}
use Rattle.cts_rehearsal_runs.proofs.Quiet.{IsQuiet}

-- each run of these events comes to its end
abbrev pub Finishes : Environment → State → List Event → Type 0
Finishes env s events = (dids : List Did) (ending : Ending) → Runs env s events dids ending → ending ≡ Finished

-- an event is enabled, and there is room for what it appends
pub record Can (env : Environment) (s : State) (event : Event) : Type 0 where
  pub enabled : is_enabled env s event ≡ true
  pub room : takes_room event ≡ true → (entries : List Entry) → Appends env s event silent entries → has_room env s entries ≡ true

never : (env : Environment) (s : State) (event : Event) (ending : Ending) → Can env s event → Refuses env s event ending → ⊥
never env s event Finished can r = r
never env s event NotEnabled can r = let yes = can.enabled in cc
never env s event HistoryFull can r = let yes = can.room r.1 r.2.0 r.2.1 in let no = r.2.2 in cc

pub goes : (env : Environment) (s : State) (event : Event) (events : List Event) → Can env s event → ((did : Did) → Does env s event did → Finishes env (after s event did) events)
    → Finishes env s (event ∷ events)
goes env s event events can next dids ending (inl r) = absurd (never env s event ending can r.1)
goes env s event events can next dids ending (inr d) = next d.0 d.3 d.1 ending d.4

-- ---- room

two_true : (a b : Bool) → a ≡ true → b ≡ true → (a && b) ≡ true
two_true a b x y = rw (x, y) refl

pub room_for : (site : SiteData) (s : State) (entries : List Entry) → entries_in s.history + entries_in entries ≤ 4000000 → bytes_in s.history + bytes_in entries ≤ 1073741824
    → has_room (site_environment site) s entries ≡ true
room_for site s entries few small =
    two_true (nat_le (entries_in (s.history ++ entries)) most_entries) (nat_le (bytes_in (s.history ++ entries)) most_bytes)
    (le-leb (entries_in (s.history ++ entries)) most_entries (subst (λ (n : ℕ). n ≤ 4000000) (sym (entries-append s.history entries)) few))
    (le-leb (bytes_in (s.history ++ entries)) most_bytes (subst (λ (n : ℕ). n ≤ 1073741824) (sym (bytes-append s.history entries)) small))

-- ---- what quiet entries keep

module _ (s : State) (event : Event) (did : Did) (quiet : IsQuiet did.entries) where
  pub stopped_after : is_stopped s.history ≡ false → is_stopped (after s event did).history ≡ false
  stopped_after h = stopped-append s.history did.entries ∙ neither (is_stopped s.history) (is_stopped did.entries) h quiet.stops
    where
      neither : (a b : Bool) → a ≡ false → b ≡ false → (a || b) ≡ false
      neither a b x y = rw (x, y) refl

  pub pieces_after_are : (k : ℕ) → (after s event did).pieces k ≡ s.pieces k ++ pieces_for k event
  pieces_after_are k = ap (λ (t : Option Bool). kept t [] (s.pieces k ++ pieces_for k event)) (quiet.connects k)

  pub cursor_after_is : (k : ℕ) → (after s event did).cursor k ≡ s.cursor k + passed_for k event
  cursor_after_is k = ap (λ (t : Option Bool). kept t 0 (s.cursor k + passed_for k event)) (quiet.connects k)

-- an event that passes no command, with its entries, so that it is on the way again
module _ (site : SiteData) (s : State) (event : Event) (did : Did) (choices next : ℕ) (part new_part : List ℕ) (way : IsOnTheWay site s choices part) (quiet : IsQuiet did.entries) where
  pub on_again : passed_for 0 event ≡ 0 → choices + entries_in did.entries ≤ next → 41 * choices + bytes_in did.entries ≤ 41 * next
      → Holds frames (s.pieces 0 ++ pieces_for 0 event) new_part → Holds lines (s.pieces 1 ++ pieces_for 1 event) [] → IsOnTheWay site (after s event did) next new_part
  on_again none few small frame line = record {
    first = connected_kept 0 s.history did.entries (quiet.connects 0) ∙ way.first;
    second = connected_kept 1 s.history did.entries (quiet.connects 1) ∙ way.second;
    running = stopped_after s event did quiet way.running;
    frame = subst (λ (ps : List (List ℕ)). Holds frames ps new_part) (sym (pieces_after_are s event did quiet 0)) frame;
    line = subst (λ (ps : List (List ℕ)). Holds lines ps []) (sym (pieces_after_are s event did quiet 1)) line;
    passed =
        let stays : (after s event did).cursor 0 ≡ s.cursor 0 = cursor_after_is s event did quiet 0 ∙ ap (λ (k : ℕ). s.cursor 0 + k) none ∙ omega arith in
        let reach = reach_kept (site_environment site).routing 0 (s.cursor 0) (since 0 s.history) did.entries way.passed in
        let longer : s.cursor 0 ≤ length (walk (site_environment site).routing 0 (since 0 (s.history ++ did.entries))) =
        subst (λ (l : List Entry). s.cursor 0 ≤ length (walk (site_environment site).routing 0 l)) (sym (since-append 0 s.history did.entries (quiet.opens 0))) reach in
        subst (λ (k : ℕ). k ≤ length (walk (site_environment site).routing 0 (since 0 (s.history ++ did.entries)))) (sym stays) longer;
    entries = omega (arith, entries-append s.history did.entries, way.entries, few);
    bytes = omega (arith, bytes-append s.history did.entries, way.bytes, small);
  }

-- the state after an event is told by the entries that it appended
pub with_entries : (env : Environment) (s : State) (event : Event) (did : Did) (entries : List Entry) (events : List Event) → did.entries ≡ entries
    → Finishes env (after s event (record { entries = entries; effect = Posted })) events → Finishes env (after s event did) events
with_entries env s event did entries events e h =
    subst (λ (es : List Entry). Finishes env (after s event (record { entries = es; effect = Posted })) events) (sym e) h

-- where no piece came nothing is left
pub nothing_held : (spec : SpecData) → Holds spec [] []
nothing_held spec = (kept_pieces [], record { taken = taken_none (framing_of spec) []; ends = ends_nil (framing_of spec) (is_sound spec) }, refl, refl)
