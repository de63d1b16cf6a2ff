-- The history of a run is legal.
use Rattle.std.proofs.Common.{◌≡◌, ℕ, ◌≤◌, Bool, true, false, List, [], ◌∷◌, ◌++◌, Option, Some, None, refl, sym, ◌∙◌, ap, subst, arith, append-nil, append_assoc, inl, inr}
use Rattle.std.specs.Prelude.{nat_le}
use Rattle.cts_def.specs.Makers.{server}
use Rattle.cts_def.specs.declared.time.Time.{Time}
use Rattle.cts_entry.specs.declared.entry.Entry.{Entry}
use Rattle.cts_entry.specs.declared.what.What.TheVariants.{Opened, Stop as StopEntry}
use Rattle.cts_entry.specs.declared.why.Why.TheVariants.{BadFrame}
use Rattle.cts_entry.specs.declared.event.Event.{Event}
use Rattle.cts_entry.specs.declared.event.Event.TheVariants.{SetTime, Opens, Piece, Finish, Write, Call, DrainLog, DrainSlot, Stop}
use Rattle.cts_entry.specs.Histories.{is_connected, is_stopped, entries_in, bytes_in}
use Rattle.cts_entry.proofs.Allowing.{allowed_append}
use Rattle.cts_entry.proofs.Appending.{entries-append, bytes-append}
use Rattle.cts_entry.specs.Legal.{IsLine, IsLegal}
use Rattle.cts_framing.specs.Cuts.{Pieces}
use Rattle.cts_framing.specs.Packets.{Fault, fault_of}
use Rattle.cts_core.specs.States.{Environment, State, opening, is_line, may_close, has_room, unsent}
use Rattle.cts_api.specs.Replies.{Reply as Answer}
use Rattle.cts_table.specs.declared.basis.Basis.{Basis}
use Rattle.cts_core.specs.Environments.{environment_of}
use Rattle.cts_core.specs.Runs.{Did, Does, Receives, Closes, after, closing, closed_entry, Ending, Runs}
use Rattle.cts_core_laws.specs.Told.{history_of}
use Rattle.cts_core_laws.specs.Laws.{IsAnsweredLegally, CoreIsLegal}
use Rattle.cts_trace.specs.Routing.{posted_entries}
use Rattle.cts_trace.proofs.Walks.{enough_of, connected_kept, packets_connect}
use Rattle.cts_core.proofs.Following.{Follows, Lasting, lasting_append, one_follows, packets_follow, rules_by, stops_after}

closing_follows : (env : Environment) (before : List Entry) (now : Time) (m unsent : ℕ) (cuts : List Pieces) (fault : Option Fault) → is_connected m before ≡ true → Lasting before → Follows env before (closing now m unsent cuts fault)
closing_follows env before now m unsent cuts None on last = (tt, refl)
closing_follows env before now m unsent cuts (Some fault) on last = one_follows env before (closed_entry now m (BadFrame fault.stage fault.cause) unsent cuts) last (on, tt) refl

piece_follows : (env : Environment) (s : State) (m : ℕ) (piece : List ℕ) (entries : List Entry) → is_line env m ≡ true → is_connected m s.history ≡ true → Lasting s.history → Receives env s m piece entries → Follows env s.history entries
piece_follows env s m piece entries line on last r =
    let packets = posted_entries env.routing s.history s.time m r.packets in
    let posted = packets_follow env s.history s.time m r.packets line on last in
    let still : is_connected m (s.history ++ packets) ≡ true = connected_kept m s.history packets (packets_connect m env.routing s.history s.time m r.packets) ∙ on in
    let ends = closing_follows env (s.history ++ packets) s.time m (unsent env s m) r.cuts (fault_of r.cuts) still (lasting_append s.history packets last posted.1) in
    subst (Follows env s.history) (sym r.entries_are) (
      allowed_append (rules_by env) s.history packets (closing s.time m (unsent env s m) r.cuts (fault_of r.cuts)) posted.0 ends.0,
      lasting_append packets (closing s.time m (unsent env s m) r.cuts (fault_of r.cuts)) posted.1 ends.1,
    )

is_line_of : (env : Environment) (by : ℕ) (b : Bool) → env.is_slot by ≡ b → is_line env by ≡ true → IsLine (rules_by env) by
is_line_of env by true slot line = inl slot
is_line_of env by false slot line = inr (let l = line in grind arith)

-- what an event appends leaves the limits

abbrev Within : Environment → List Entry → Type 0
Within env history = (entries_in history ≤ env.most_entries) × (bytes_in history ≤ env.most_bytes)

within_room : (env : Environment) (s : State) (entries : List Entry) → has_room env s entries ≡ true → Within env (s.history ++ entries)
within_room env s entries room =
    let some : nat_le (entries_in (s.history ++ entries)) env.most_entries ≡ true = grind arith in
    let bytes : nat_le (bytes_in (s.history ++ entries)) env.most_bytes ≡ true = grind arith in
    (enough_of (entries_in (s.history ++ entries)) env.most_entries some, enough_of (bytes_in (s.history ++ entries)) env.most_bytes bytes)

-- entries that take nothing of them
within_free : (env : Environment) (history entries : List Entry) → entries_in entries ≡ 0 → bytes_in entries ≡ 0 → IsLegal (rules_by env) history → Within env (history ++ entries)
within_free env history entries none free legal =
    (omega (arith, none, legal.entries, entries-append history entries), omega (arith, free, legal.bytes, bytes-append history entries))

-- An event leaves a legal history, and nobody ends by it.
abbrev Leaves : Environment → List Entry → List Entry → Type 0
Leaves env history entries = IsLegal (rules_by env) (history ++ entries) × Lasting entries

leaves : (env : Environment) (history entries : List Entry) → IsLegal (rules_by env) history → Follows env history entries → Within env (history ++ entries) → Leaves env history entries
leaves env history entries legal follows within = (record { each = allowed_append (rules_by env) [] history entries legal.each follows.0; entries = within.0; bytes = within.1 }, follows.1)

nothing_leaves : (env : Environment) (history entries : List Entry) → IsLegal (rules_by env) history → entries ≡ [] → Leaves env history entries
nothing_leaves env history entries legal e = subst (Leaves env history) (sym e) (leaves env history [] legal (tt, refl) (within_free env history [] refl refl legal))

-- what desks reply
record AnswersLegally (env : Environment) : Type 0 where
  legal : (history : List Entry) (desk : ℕ) (time : Time) (body : List ℕ) (a : Answer) → env.is_desk desk ≡ true → Lasting history → env.answers history desk time body a → IsLegal (rules_by env) history → IsLegal (rules_by env) (history ++ a.entries)
  none_ended : (history : List Entry) (desk : ℕ) (time : Time) (body : List ℕ) (a : Answer) → env.answers history desk time body a → Lasting a.entries

event_leaves : (env : Environment) (s : State) (event : Event) (did : Did) → AnswersLegally env → IsLegal (rules_by env) s.history → Lasting s.history → Does env s event did → Leaves env s.history did.entries
event_leaves env s (SetTime time) did desks legal last d = nothing_leaves env s.history did.entries legal d.appends
event_leaves env s (Opens by) did desks legal last d =
    let e : Entry = record { by = by; time = s.time; what = Opened } in
    let n = d.enabled in
    let line : is_line env by ≡ true = grind arith in
    let off : is_connected by s.history ≡ false = grind arith in
    let going : is_stopped s.history ≡ false = grind arith in
    let follows = subst (Follows env s.history) (sym d.appends) (one_follows env s.history e last (is_line_of env by (env.is_slot by) refl line, off, going) refl) in
    leaves env s.history did.entries legal follows (within_room env s did.entries (d.room refl))
event_leaves env s (Piece by piece) did desks legal last d =
    let n = d.enabled in
    let line : is_line env by ≡ true = grind arith in
    let on : is_connected by s.history ≡ true = grind arith in
    leaves env s.history did.entries legal (piece_follows env s by piece did.entries line on last d.appends) (within_room env s did.entries (d.room refl))
event_leaves env s (Finish by why) did desks legal last d =
    let n = d.enabled in
    let on : is_connected by s.history ≡ true = grind arith in
    let may : may_close s.history why ≡ true = grind arith in
    let k : Closes env s by why did.entries = d.appends in
    let e = closed_entry s.time by why (unsent env s by) k.cuts in
    subst (Leaves env s.history) (sym k.entries_are) (leaves env s.history (e ∷ []) legal (one_follows env s.history e last (on, stops_after s.history why may) refl) (within_free env s.history (e ∷ []) refl refl legal))
event_leaves env s (Write by count) did desks legal last d = nothing_leaves env s.history did.entries legal d.appends
event_leaves env s (Call desk body) did desks legal last d =
    let there : env.is_desk desk ≡ true = (let n = d.enabled in grind arith) in
    subst (Leaves env s.history) (sym d.appends) (desks.legal s.history desk s.time body d.answer there last d.answered legal, desks.none_ended s.history desk s.time body d.answer d.answered)
event_leaves env s (DrainLog count) did desks legal last d = nothing_leaves env s.history did.entries legal d.appends
event_leaves env s (DrainSlot by count) did desks legal last d = nothing_leaves env s.history did.entries legal d.appends
event_leaves env s Stop did desks legal last d =
    let e : Entry = record { by = server; time = s.time; what = StopEntry } in
    let n = d.enabled in
    let going : is_stopped s.history ≡ false = grind arith in
    subst (Leaves env s.history) (sym d.appends) (leaves env s.history (e ∷ []) legal (one_follows env s.history e last going refl) (within_free env s.history (e ∷ []) refl refl legal))

legal_of : (env : Environment) (history whole : List Entry) → whole ≡ history → IsLegal (rules_by env) history → IsLegal (rules_by env) whole
legal_of env history whole same legal = subst (IsLegal (rules_by env)) (sym same) legal

run_legal : (env : Environment) (s : State) (events : List Event) (dids : List Did) (ending : Ending) → AnswersLegally env → IsLegal (rules_by env) s.history → Lasting s.history → Runs env s events dids ending
    → IsLegal (rules_by env) (s.history ++ history_of dids)
run_legal env s [] dids ending desks legal last h = legal_of env s.history (s.history ++ history_of dids) (ap (λ (l : List Did). s.history ++ history_of l) h.0 ∙ append-nil s.history) legal
run_legal env s (event ∷ events) dids ending desks legal last (inl h) = legal_of env s.history (s.history ++ history_of dids) (ap (λ (l : List Did). s.history ++ history_of l) h.0 ∙ append-nil s.history) legal
run_legal env s (event ∷ events) dids ending desks legal last (inr h) =
    let step = event_leaves env s event h.0 desks legal last h.3 in
    let next = s.history ++ h.0.entries in
    let more = run_legal env (after s event h.0) events h.1 ending desks step.0 (lasting_append s.history h.0.entries last step.1) h.4 in
    legal_of env (next ++ history_of h.1) (s.history ++ history_of dids) (ap (λ (l : List Did). s.history ++ history_of l) h.2 ∙ sym (append_assoc s.history h.0.entries (history_of h.1))) more

pub core_is_legal : (base : Basis) → IsAnsweredLegally base → CoreIsLegal base
core_is_legal base desks events dids ending h =
    run_legal (environment_of base) opening events dids ending (record { legal = desks.legal; none_ended = desks.none_ended }) (record { each = tt; entries = omega arith; bytes = omega arith }) refl h
