-- Each list of events has exactly one run.
use Rattle.std.proofs.Common.{◌≡◌, ℕ, Bool, true, false, List, [], ◌∷◌, ◌++◌, refl, sym, ◌∙◌, ap, subst, ◌⊎◌, inl, inr}
use Rattle.std.proofs.lemmas.List.{append_cancel_left}
use Rattle.cts_entry.specs.declared.entry.Entry.{Entry}
use Rattle.cts_entry.specs.declared.event.Event.{Event}
use Rattle.cts_entry.specs.declared.event.Event.TheVariants.{SetTime, Opens, Piece, Finish, Write, Call, DrainLog, DrainSlot, Stop}
use Rattle.cts_framing.specs.Framing.{Output}
use Rattle.cts_framing.specs.Cuts.{Pieces}
use Rattle.cts_framing.specs.Packets.{IsPackets, fault_of}
use Rattle.cts_framing.specs.Laws.{AllSound}
use Rattle.cts_framing.proofs.Stagings.{has_packets, has_one_packets, packets_grow}
use Rattle.cts_trace.specs.Routing.{posted_entries}
use Rattle.cts_api.specs.Replies.{Reply as Answer}
use Rattle.cts_core.specs.States.{Environment, State, is_enabled, takes_room, has_room, unsent}
use Rattle.cts_core.specs.Runs.{Receives, Closes, IsAnswered, silent, Appends, Did, Does, after, Ending, Finished, NotEnabled, HistoryFull, Refuses, Runs, closing, closed_entry, effect_of}
use Rattle.cts_core_laws.specs.Laws.{IsSoundEnvironment, HasRun, HasOneRun}

-- what an enabled event appends

some_received : (env : Environment) (s : State) (by : ℕ) (piece : List ℕ) → AllSound (env.routing.chain by) → (entries : List Entry) × Receives env s by piece entries
some_received env s by piece sound =
    let before = has_packets (env.routing.chain by) (s.pieces by) sound in
    let now = has_packets (env.routing.chain by) (s.pieces by ++ piece ∷ []) sound in
    let grown = packets_grow (env.routing.chain by) (s.pieces by) (piece ∷ []) before.0 now.0 before.1 now.1 sound before.2 now.2 in
    let entries : List Entry = posted_entries env.routing s.history s.time by grown.0 ++ closing s.time by (unsent env s by) now.0 (fault_of now.0) in (
      entries,
      record {
        earlier = before.0;
        given = before.1;
        before = before.2;
        cuts = now.0;
        packets = grown.0;
        after = subst (λ (p : List Output). IsPackets (env.routing.chain by) (s.pieces by ++ piece ∷ []) now.0 p) grown.1 now.2;
        entries_are = refl;
      },
    )

some_appended : (env : Environment) (s : State) (event : Event) (a : Answer) → IsSoundEnvironment env → (entries : List Entry) × Appends env s event a entries
some_appended env s (SetTime time) a sound = ([], refl)
some_appended env s (Opens by) a sound = (_, refl)
some_appended env s (Piece by piece) a sound = some_received env s by piece (sound.chains by)
some_appended env s (Finish by why) a sound =
    let before = has_packets (env.routing.chain by) (s.pieces by) (sound.chains by) in
    (closed_entry s.time by why (unsent env s by) before.0 ∷ [], record { cuts = before.0; given = before.1; before = before.2; entries_are = refl })
some_appended env s (Write by count) a sound = ([], refl)
some_appended env s (Call desk body) a sound = (_, refl)
some_appended env s (DrainLog count) a sound = ([], refl)
some_appended env s (DrainSlot by count) a sound = ([], refl)
some_appended env s Stop a sound = (_, refl)

-- what is answered to an event

some_answered : (env : Environment) (s : State) (event : Event) → IsSoundEnvironment env → (a : Answer) × IsAnswered env s event a
some_answered env s (SetTime time) sound = (silent, refl)
some_answered env s (Opens by) sound = (silent, refl)
some_answered env s (Piece by piece) sound = (silent, refl)
some_answered env s (Finish by why) sound = (silent, refl)
some_answered env s (Write by count) sound = (silent, refl)
some_answered env s (Call desk body) sound = sound.some_answer s.history desk s.time body
some_answered env s (DrainLog count) sound = (silent, refl)
some_answered env s (DrainSlot by count) sound = (silent, refl)
some_answered env s Stop sound = (silent, refl)

one_answered : (env : Environment) (s : State) (event : Event) (a b : Answer) → IsSoundEnvironment env → IsAnswered env s event a → IsAnswered env s event b → a ≡ b
one_answered env s (SetTime time) a b sound h k = h ∙ sym k
one_answered env s (Opens by) a b sound h k = h ∙ sym k
one_answered env s (Piece by piece) a b sound h k = h ∙ sym k
one_answered env s (Finish by why) a b sound h k = h ∙ sym k
one_answered env s (Write by count) a b sound h k = h ∙ sym k
one_answered env s (Call desk body) a b sound h k = sound.one_answer s.history desk s.time body a b h k
one_answered env s (DrainLog count) a b sound h k = h ∙ sym k
one_answered env s (DrainSlot by count) a b sound h k = h ∙ sym k
one_answered env s Stop a b sound h k = h ∙ sym k

-- an event that may find the history full asks no desk
asks_none : (env : Environment) (s : State) (event : Event) (a b : Answer) (entries : List Entry) → takes_room event ≡ true → Appends env s event a entries → Appends env s event b entries
asks_none env s (SetTime time) a b entries t h = absurd (cc t)
asks_none env s (Opens by) a b entries t h = h
asks_none env s (Piece by piece) a b entries t h = h
asks_none env s (Finish by why) a b entries t h = absurd (cc t)
asks_none env s (Write by count) a b entries t h = absurd (cc t)
asks_none env s (Call desk body) a b entries t h = absurd (cc t)
asks_none env s (DrainLog count) a b entries t h = absurd (cc t)
asks_none env s (DrainSlot by count) a b entries t h = absurd (cc t)
asks_none env s Stop a b entries t h = absurd (cc t)

one_received : (env : Environment) (s : State) (by : ℕ) (piece : List ℕ) (xs ys : List Entry) → AllSound (env.routing.chain by) → Receives env s by piece xs → Receives env s by piece ys → xs ≡ ys
one_received env s by piece xs ys sound h k =
    let same_given = (has_one_packets (env.routing.chain by) (s.pieces by) h.earlier k.earlier h.given k.given sound h.before k.before).1 in
    let now = has_one_packets (env.routing.chain by) (s.pieces by ++ piece ∷ []) h.cuts k.cuts (h.given ++ h.packets) (k.given ++ k.packets) sound h.after k.after in
    let packets = append_cancel_left h.given h.packets k.packets (now.1 ∙ ap (λ (o : List Output). o ++ k.packets) (sym same_given)) in
    h.entries_are ∙ (ap (λ (o : List Output). posted_entries env.routing s.history s.time by o ++ closing s.time by (unsent env s by) h.cuts (fault_of h.cuts)) packets
    ∙ (ap (λ (c : List Pieces). posted_entries env.routing s.history s.time by k.packets ++ closing s.time by (unsent env s by) c (fault_of c)) now.0 ∙ sym k.entries_are))

one_closed : (env : Environment) (s : State) (by : ℕ) (why : _) (xs ys : List Entry) → AllSound (env.routing.chain by) → Closes env s by why xs → Closes env s by why ys → xs ≡ ys
one_closed env s by why xs ys sound h k =
    let cuts = (has_one_packets (env.routing.chain by) (s.pieces by) h.cuts k.cuts h.given k.given sound h.before k.before).0 in
    h.entries_are ∙ (ap (λ (c : List Pieces). closed_entry s.time by why (unsent env s by) c ∷ []) cuts ∙ sym k.entries_are)

pub one_appended : (env : Environment) (s : State) (event : Event) (a : Answer) (xs ys : List Entry) → IsSoundEnvironment env → Appends env s event a xs → Appends env s event a ys → xs ≡ ys
one_appended env s (SetTime time) a xs ys sound h k = h ∙ sym k
one_appended env s (Opens by) a xs ys sound h k = h ∙ sym k
one_appended env s (Piece by piece) a xs ys sound h k = one_received env s by piece xs ys (sound.chains by) h k
one_appended env s (Finish by why) a xs ys sound h k = one_closed env s by why xs ys (sound.chains by) h k
one_appended env s (Write by count) a xs ys sound h k = h ∙ sym k
one_appended env s (Call desk body) a xs ys sound h k = h ∙ sym k
one_appended env s (DrainLog count) a xs ys sound h k = h ∙ sym k
one_appended env s (DrainSlot by count) a xs ys sound h k = h ∙ sym k
one_appended env s Stop a xs ys sound h k = h ∙ sym k

-- what stands next: the event is refused in one way, or does one thing

true_or_false : (b : Bool) → (b ≡ true) ⊎ (b ≡ false)
true_or_false true = inl refl
true_or_false false = inr refl

-- an event is done or refused
pub data Next (env : Environment) (s : State) (event : Event) : Type 0 where
  Done : (did : Did) → Does env s event did → Next env s event
  Refused : (ending : Ending) → Refuses env s event ending → Next env s event

next_of : (env : Environment) (s : State) (event : Event) (a : Answer) (entries : List Entry) (b room : Bool) → is_enabled env s event ≡ true → IsAnswered env s event a → Appends env s event a entries → takes_room event ≡ b → has_room env s entries ≡ room → Next env s event
next_of env s event a entries true false e answered appends takes full = Refused HistoryFull (e, takes, (entries, asks_none env s event a silent entries takes appends, full))
next_of env s event a entries true true e answered appends takes room = Done (record { entries = entries; effect = effect_of env s event a }) (record { enabled = e; answer = a; answered = answered; appends = appends; room = λ h. room; effect = refl })
next_of env s event a entries false room e answered appends takes h = Done (record { entries = entries; effect = effect_of env s event a }) (record { enabled = e; answer = a; answered = answered; appends = appends; room = λ h. absurd (let f = takes in cc); effect = refl })

next : (env : Environment) (s : State) (event : Event) → IsSoundEnvironment env → (is_enabled env s event ≡ true) ⊎ (is_enabled env s event ≡ false) → Next env s event
next env s event sound (inl e) =
    let answer = some_answered env s event sound in
    let entries = some_appended env s event answer.0 sound in
    next_of env s event answer.0 entries.0 (takes_room event) (has_room env s entries.0) e answer.1 entries.1 refl refl
next env s event sound (inr e) = Refused NotEnabled e

go_on : (env : Environment) (s : State) (event : Event) (events : List Event) → ((t : State) → (dids : List Did) × (ending : Ending) × Runs env t events dids ending) → Next env s event
    → (dids : List Did) × (ending : Ending) × Runs env s (event ∷ events) dids ending
go_on env s event events more (Done did d) = let rest = more (after s event did) in (did ∷ rest.0, rest.1, inr (did, rest.0, refl, d, rest.2))
go_on env s event events more (Refused ending r) = ([], ending, inl (refl, r))

pub has_run : (env : Environment) → IsSoundEnvironment env → HasRun env
has_run env sound s [] = ([], Finished, (refl, refl))
has_run env sound s (event ∷ events) = go_on env s event events (λ t. has_run env sound t events) (next env s event sound (true_or_false (is_enabled env s event)))

-- refused and done exclude one another
never_both : (env : Environment) (s : State) (event : Event) (ending : Ending) (did : Did) → IsSoundEnvironment env → Refuses env s event ending → Does env s event did → ⊥
never_both env s event Finished did sound r d = r
never_both env s event NotEnabled did sound r d = let e = d.enabled in cc
never_both env s event HistoryFull did sound r d =
    let same = one_appended env s event d.answer r.2.0 did.entries sound (asks_none env s event silent d.answer r.2.0 r.1 r.2.1) d.appends in
    let room = d.room r.1 in
    let full = r.2.2 in
    cc

one_refusal : (env : Environment) (s : State) (event : Event) (a b : Ending) → Refuses env s event a → Refuses env s event b → a ≡ b
one_refusal env s event Finished b h k = absurd h
one_refusal env s event a Finished h k = absurd k
one_refusal env s event NotEnabled NotEnabled h k = refl
one_refusal env s event NotEnabled HistoryFull h k = let e = k.0 in cc
one_refusal env s event HistoryFull NotEnabled h k = let e = h.0 in cc
one_refusal env s event HistoryFull HistoryFull h k = refl

one_did : (env : Environment) (s : State) (event : Event) (a b : Did) → IsSoundEnvironment env → Does env s event a → Does env s event b → a ≡ b
one_did env s event a b sound h k =
    let answers = one_answered env s event h.answer k.answer sound h.answered k.answered in
    let mine = subst (λ (x : Answer). Appends env s event x a.entries) answers h.appends in
    let entries = one_appended env s event k.answer a.entries b.entries sound mine k.appends in
    let effect = h.effect ∙ (ap (effect_of env s event) answers ∙ sym k.effect) in
    λ i. record { entries = entries i; effect = effect i }

pub has_one_run : (env : Environment) → IsSoundEnvironment env → HasOneRun env
has_one_run env sound s [] dids others ending other h k = (h.0 ∙ sym k.0, h.1 ∙ sym k.1)
has_one_run env sound s (event ∷ events) dids others ending other (inl h) (inl k) = (h.0 ∙ sym k.0, one_refusal env s event ending other h.1 k.1)
has_one_run env sound s (event ∷ events) dids others ending other (inl h) (inr k) = absurd (never_both env s event ending k.0 sound h.1 k.3)
has_one_run env sound s (event ∷ events) dids others ending other (inr h) (inl k) = absurd (never_both env s event other h.0 sound k.1 h.3)
has_one_run env sound s (event ∷ events) dids others ending other (inr h) (inr k) =
    let head : h.0 ≡ k.0 = one_did env s event h.0 k.0 sound h.3 k.3 in
    let tail = has_one_run env sound (after s event h.0) events h.1 k.1 ending other h.4 (subst (λ (d : Did). Runs env (after s event d) events k.1 other) (sym head) k.4) in
    (h.2 ∙ (cc (head, tail.0)) ∙ sym k.2, tail.1)
