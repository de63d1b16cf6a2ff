-- How far the run above has come, and what the slot has put on its last connection.
use Rattle.std.proofs.Common.{◌≡◌, ℕ, ◌+◌, Bool, true, false, List, [], ◌∷◌, ◌++◌, length, drop, Option, Some, None, Ok, Err, refl, sym, ◌∙◌, ap, ap₂, subst, append_assoc, inl, inr}
use Rattle.std.specs.Option.{option_or}
use Rattle.std.specs.Prelude.{is_some, option_map, slice_get, unwrap_or}
use Rattle.std.proofs.Math.Seq.{drop-append_seam}
use Rattle.std.proofs.lemmas.Grind.{flat_map-append}
use Rattle.std.proofs.lemmas.List.{append-nil}
use Rattle.cts_core.specs.Endings.{held_in}
use Rattle.cts_core.specs.Environments.{site_environment}
use Rattle.cts_core.specs.Runs.{Did, Finished, NotEnabled, HistoryFull, Runs, after}
use Rattle.cts_core.specs.States.{State, opening}
use Rattle.cts_core.specs.declared.fault.WorldFault.{WorldFault}
use Rattle.cts_core.specs.declared.fault.WorldFault.TheVariants as fault
use Rattle.cts_core_laws.specs.Told.{Line, heard, history_of, told, turned}
use Rattle.cts_def.specs.Sites.{SiteData}
use Rattle.cts_entry.proofs.Walks.{drop_lent}
use Rattle.cts_entry.specs.Histories.{bytes_in, connects_maker, entries_in, latest, or_earlier}
use Rattle.cts_entry.specs.declared.entry.Entry.{Entry}
use Rattle.cts_entry.specs.declared.event.Effect.{Effect}
use Rattle.cts_entry.specs.declared.event.Event.{Event}
use Rattle.cts_outside.specs.Lines.{Connection}
use Rattle.cts_play_laws.specs.Putting.{last_of, last_put}
use Rattle.cts_run.specs.Hub.{IsHeard, RunsAbove, StepsAbove, held_after, put_while}
use Rattle.cts_run.specs.Replay.{event_halt, next_line, not_enabled}
use Rattle.cts_run.specs.Story.{Moves, Stands, StoryData}
use Rattle.cts_run.specs.Transcript.{events_of}
use Rattle.cts_run.specs.declared.halt.Halt.{Halt}
use Rattle.cts_run.specs.declared.halt.Halt.TheVariants as halt

-- ---- what is told of the slot after an event

last_more : (past : List Connection) (c : Connection) → last_of (past ++ c ∷ []) ≡ c.put
last_more [] c = refl
last_more (x ∷ []) c = refl
last_more (x ∷ y ∷ past) c = last_more (y ∷ past) c

abbrev line_of : List Connection → Option Connection → Line
line_of past now = record { past = past; now = now }

turn_live : (turn : Option Bool) (past : List Connection) (now : Option Connection) → is_some (turned turn (line_of past now)).now ≡ unwrap_or turn (is_some now)
turn_live None past now = refl
turn_live (Some true) past now = refl
turn_live (Some false) past now = refl

turn_put : (turn : Option Bool) (past : List Connection) (now : Option Connection) → last_put (turned turn (line_of past now)) ≡ held_after turn (last_put (line_of past now))
turn_put None past now = refl
turn_put (Some true) past now = refl
turn_put (Some false) past (Some c) = last_more past c
turn_put (Some false) past None = ap last_of (append-nil past)

still : (f : Connection → Connection) (now : Option Connection) → is_some (option_map f now) ≡ is_some now
still f None = refl
still f (Some c) = refl

heard_put : (slot : ℕ) (event : Event) (did : Did) (past : List Connection) (now : Option Connection)
    → last_put (line_of past (option_map (heard slot event did) now)) ≡ last_put (line_of past now) ++ put_while (is_some now) slot did.effect
heard_put slot event did past None = sym (append-nil (last_of past))
heard_put slot event did past (Some c) = refl

-- an entry tells before what was found, and after it those that follow
or_assoc : (a b c : Option Bool) → or_earlier (or_earlier a b) c ≡ or_earlier a (option_or b c)
or_assoc (Some a) b c = refl
or_assoc None (Some b) c = refl
or_assoc None None c = refl

pub later_turn : (history : List Entry) (maker n : ℕ) (e : Entry) (found now after_it total : Option Bool) → slice_get history n ≡ Some e → now ≡ connects_maker maker e → after_it ≡ option_or now found
    → or_earlier (latest (connects_maker maker) (drop n history)) found ≡ total → or_earlier (latest (connects_maker maker) (drop (n + 1) history)) after_it ≡ total
later_turn history maker n e found now after_it total is tells next before =
    let tell = connects_maker maker in
    let rest : Option Bool = latest tell (drop (n + 1) history) in
    let split : latest tell (drop n history) ≡ or_earlier rest (tell e) = ap (latest tell) (drop_lent history n e is) in
    let told : or_earlier rest after_it ≡ or_earlier rest (option_or (tell e) found) =
    ap (or_earlier rest) (next ∙ ap (λ (t : Option Bool). option_or t found) tells) in
    told ∙ (sym (or_assoc rest (tell e) found) ∙ (ap (λ (t : Option Bool). or_earlier t found) (sym split) ∙ before))

-- ---- event by event

module _ (site : SiteData) (slot : ℕ) (all : List (ℕ × Event)) where
  pub heard_begun : (story : StoryData) → Stands site opening story → IsHeard site slot all all false [] story
  heard_begun story h = record {
    state = opening;
    prior = [];
    stands = h;
    history = refl;
    runs = λ dids ending r. r;
    lines = λ dids. refl;
    line = line_of [] None;
    tells = λ dids. refl;
    live_is = refl;
    held_is = refl;
  }

  history_more : (ds es : List Did) → history_of (ds ++ es) ≡ history_of ds ++ history_of es
  history_more ds es = flat_map-append (λ (d : Did). d.entries) ds es

  module _ (script : List ℕ) (x : ℕ × Event) (rest : List (ℕ × Event)) (live : Bool) (held : List ℕ) (w : StoryData) (p : IsHeard site slot all (x ∷ rest) live held w) where
    pub heard_on : (now : Bool) (later : List ℕ) (new : StoryData) → StepsAbove site p.state script x.0 x.1 slot live held (Ok now) later new → IsHeard site slot all rest now later new
    heard_on now later new h =
        let did = h.0 in
        let turn = latest (connects_maker slot) did.entries in
        let past = p.line.past in
        let on = option_map (heard slot x.1 did) p.line.now in
        let put : last_put (line_of past on) ≡ held ++ put_while live slot did.effect =
        heard_put slot x.1 did past p.line.now ∙ ap₂ (λ (bytes : List ℕ) (b : Bool). bytes ++ put_while b slot did.effect) p.held_is p.live_is in
        let alive : is_some on ≡ live = still (heard slot x.1 did) p.line.now ∙ p.live_is in
        record {
          state = after p.state x.1 did;
          prior = p.prior ++ did ∷ [];
          stands = h.2;
          history = ap (λ (t : List Entry). t ++ did.entries) p.history ∙ (ap (λ (t : List Entry). history_of p.prior ++ t) (sym (append-nil did.entries)) ∙ sym (history_more p.prior (did ∷ [])));
          runs = λ dids ending r. subst (λ (t : List Did). Runs (site_environment site) opening (events_of all) t ending) (sym (append_assoc p.prior (did ∷ []) dids)) (p.runs (did ∷ dids) ending (inr (did, dids, refl, h.1, r)));
          lines = λ dids. ap (λ (t : List Did). next_line t all) (append_assoc p.prior (did ∷ []) dids) ∙ p.lines (did ∷ dids);
          line = turned turn (line_of past on);
          tells = λ dids. ap (told slot (events_of all)) (append_assoc p.prior (did ∷ []) dids) ∙ p.tells (did ∷ dids);
          live_is = turn_live turn past on ∙ (ap (unwrap_or turn) alive ∙ sym h.3);
          held_is = turn_put turn past on ∙ (ap (held_after turn) put ∙ sym h.4);
        }

    whole : p.state.history ≡ history_of (p.prior ++ [])
    whole = p.history ∙ ap history_of (sym (append-nil p.prior))

    -- an event is refused, or memory ran out
    pub heard_halts : (why : Halt) (later : List ℕ) (new : StoryData) → StepsAbove site p.state script x.0 x.1 slot live held (Err why) later new → RunsAbove site script slot all (Err why) new
    heard_halts halt.Memory later new h = tt
    heard_halts (halt.Refused name kind line cause) later new h = (
      p.prior ++ [],
      NotEnabled,
      p.runs [] NotEnabled (inl (refl, h.0)),
      ap (λ (n : ℕ). Err (not_enabled script n)) (p.lines []) ∙ ap (λ (y : Halt). Err y) (sym h.1),
    )
    heard_halts (halt.HistoryFull entries bytes) later new h = (
      p.prior ++ [],
      HistoryFull,
      p.runs [] HistoryFull (inl (refl, h.0)),
      ap₂ (λ (n m : ℕ). Err (halt.HistoryFull n m)) (sym (h.1 ∙ ap entries_in whole)) (sym (h.2 ∙ ap bytes_in whole)),
    )
    heard_halts (halt.ReadFault name) later new h = absurd h
    heard_halts (halt.Absent name) later new h = absurd h
    heard_halts halt.WriteFault later new h = absurd h
    heard_halts halt.LogFault later new h = absurd h
    heard_halts (halt.ShelfEmpty kind needed stocked) later new h = absurd h
    heard_halts (halt.LogRefused place) later new h = absurd h
    heard_halts (halt.UnknownName name) later new h = absurd h
    heard_halts (halt.HubRefused cause) later new h = absurd h
    heard_halts halt.Misused later new h = absurd h

  -- all were done
  pub heard_all : (script : List ℕ) (live : Bool) (held : List ℕ) (w : StoryData) → IsHeard site slot all [] live held w → RunsAbove site script slot all (Ok held) w
  heard_all script live held w p = (
    p.prior ++ [],
    p.runs [] Finished (refl, refl),
    sym (ap last_put (p.tells []) ∙ p.held_is),
    p.stands.represents.history ∙ (p.history ∙ ap history_of (sym (append-nil p.prior))),
  )

-- ---- one event

module _ (site : SiteData) (s : State) (script : List ℕ) (line : ℕ) (event : Event) (slot : ℕ) (live : Bool) (held : List ℕ) (old new : StoryData) where
  pub steps_above : (n : ℕ) (effect : Effect) (kept later : List ℕ) (now : Bool) → Stands site s old → Moves site s event (Ok effect) new → n ≡ length (held_in old.world).history
      → kept ≡ held ++ put_while live slot effect → now ≡ unwrap_or (latest (connects_maker slot) (drop n (held_in new.world).history)) live
      → later ≡ held_after (latest (connects_maker slot) (drop n (held_in new.world).history)) kept → StepsAbove site s script line event slot live held (Ok now) later new
  steps_above n effect kept later now h m number k live_is held_is =
      let did = m.0 in
      let there : drop n (held_in new.world).history ≡ did.entries =
      ap₂ (λ (i : ℕ) (t : List Entry). drop i t) (number ∙ ap (λ (t : List Entry). length t) h.represents.history) m.3.represents.history ∙ drop-append_seam s.history did.entries in
      let turn = ap (λ (t : List Entry). latest (connects_maker slot) t) there in (
        did,
        m.1,
        m.3,
        live_is ∙ ap (λ (t : Option Bool). unwrap_or t live) turn,
        held_is ∙ ap₂ (λ (t : Option Bool) (bytes : List ℕ). held_after t bytes) turn (k ∙ ap (λ (e : Effect). held ++ put_while live slot e) m.2),
      )

  pub steps_not : (why : WorldFault) (later : List ℕ) → Moves site s event (Err why) new → StepsAbove site s script line event slot live held (Err (event_halt script line why)) later new
  steps_not fault.NotEnabled later m = (m, refl)
  steps_not (fault.Full entries bytes) later m = (m.0, m.1, m.2)
  steps_not fault.Memory later m = tt
