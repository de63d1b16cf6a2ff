-- What a device hears of a stream.
use Rattle.std.proofs.Common.{◌≡◌, ℕ, inl, inr, Bool, List, [], ◌∷◌, ◌++◌, length, map, refl, sym, ◌∙◌, ap, subst, append_assoc, append-nil, Option}
use Rattle.std.proofs.lemmas.Grind.{flat_map-append}
use Rattle.cts_core.specs.Environments.{environment_of}
use Rattle.cts_core.specs.Runs.{Did, Finished, Runs, after}
use Rattle.cts_core.specs.States.{Environment, State, opening}
use Rattle.cts_core_laws.specs.Told.{history_of}
use Rattle.cts_def.specs.declared.time.Time.{Time}
use Rattle.cts_entry.specs.declared.entry.Entry.{Entry}
use Rattle.cts_entry.specs.declared.event.Event.{Event}
use Rattle.cts_entry.specs.declared.event.Event.TheVariants.{Finish, Opens, Piece, SetTime}
use Rattle.cts_entry.specs.declared.what.What.TheVariants.{Closed}
use Rattle.cts_def.specs.declared.loss.Loss.{Loss}
use Rattle.cts_entry.specs.declared.why.Why.TheVariants.{PeerEnded}
use Rattle.cts_framing.specs.Framing.{Framing, Output}
use Rattle.cts_framing.specs.Cuts.{Pieces}
use Rattle.cts_framing.specs.Packets.{IsPackets, cut_by, joined}
use Rattle.cts_framing.proofs.Framings.{ends_nil, taken_none}
use Rattle.cts_framing.proofs.Stagings.{joined_append}
use Rattle.cts_trace_laws.specs.Laws.{Hears}
use Rattle.cts_trace_laws.specs.Streams.{AreReadBack, Holds, clean, spoken, stream}
use Rattle.cts_trace_laws.proofs.Splits.{streams_split}
use Rattle.cts_trace_laws.proofs.Cutting.{streams_are_heard}
use Rattle.cts_trace.specs.Routing.{packet_entries}
use Rattle.cts_play_laws.specs.Hearing.{IsDevice, SitesHear, clock_after, closed_last, first_time, heard, hearing, opened_first}
use Rattle.cts_play_laws.proofs.Steps.{Heard, end_heard, opens_heard, piece_heard, time_heard}

history_append : (ds es : List Did) → history_of (ds ++ es) ≡ history_of ds ++ history_of es
history_append ds es = flat_map-append (λ (d : Did). d.entries) ds es

module _ {X : Type 0} (env : Environment) (m : ℕ) (f : Framing) (d : IsDevice env.routing.is_interface env.routing.chain m f) (spell : X → Option (List ℕ)) (out : X → Output) (xs : List X) (more : List ℕ)
    (back : AreReadBack f spell out (spoken spell xs)) where
  -- what these pieces hold, and what the chain makes of them
  pub record Front (ps : List (List ℕ)) : Type 0 where
    pub whole : List X
    pub rest : List ℕ
    pub holds : Holds spell xs (joined ps) whole rest
    pub hears : (cuts : List Pieces) (packets : List Output) → IsPackets (f ∷ []) ps cuts packets → Hears out whole rest cuts packets

  pub front : (ps later : List (List ℕ)) → joined (ps ++ later) ++ more ≡ stream spell xs → Front ps
  front ps later is =
      let all : joined ps ++ (joined later ++ more) ≡ stream spell xs = sym (append_assoc (joined ps) (joined later) more) ∙ (ap (λ v. v ++ more) (sym (joined_append ps later)) ∙ is) in
      let split = streams_split spell xs (joined ps) (joined later ++ more) all in
      record {
        whole = split.0;
        rest = split.1;
        holds = split.2;
        hears = λ cuts packets p. streams_are_heard f spell out xs split.0 (joined ps) split.1 ps cuts packets d.sound d.all_bytes back split.2 refl p;
      }

  -- a state to which some of the events that were done lead, and the others from there
  record Reached (before : List Entry) (clock : Time) (ps : List (List ℕ)) (events : List Event) (dids : List Did) : Type 0 where
    pub first : List Did
    pub last : List Did
    pub dids_are : dids ≡ first ++ last
    pub state : State
    pub given : List Output
    pub heard : Heard env m f clock ps given state
    pub runs : Runs env state events last Finished
    pub history : state.history ≡ before ++ history_of first

  and_did : (before entries : List Entry) (clock : Time) (ps : List (List ℕ)) (events : List Event) (dids more_dids : List Did) (did : Did) → dids ≡ did ∷ more_dids → entries ≡ before ++ did.entries
      → Reached entries clock ps events more_dids → Reached before clock ps events dids
  and_did before entries clock ps events dids more_dids did e is r = record {
    first = did ∷ r.first;
    last = r.last;
    dids_are = e ∙ ap (λ (ds : List Did). did ∷ ds) r.dids_are;
    state = r.state;
    given = r.given;
    heard = r.heard;
    runs = r.runs;
    history = r.history ∙ (ap (λ (es : List Entry). es ++ history_of r.first) is ∙ append_assoc before did.entries (history_of r.first));
  }

  pieces_reach : (pieces ps : List (List ℕ)) (given : List Output) (s : State) (events : List Event) (dids : List Did) → Heard env m f first_time ps given s → joined (ps ++ pieces) ++ more ≡ stream spell xs
      → Runs env s (map (Piece m) pieces ++ events) dids Finished → Reached s.history first_time (ps ++ pieces) events dids
  pieces_reach [] ps given s events dids h is runs = record {
    first = [];
    last = dids;
    dids_are = refl;
    state = s;
    given = given;
    heard = subst (λ (q : List (List ℕ)). Heard env m f first_time q given s) (sym (append-nil ps)) h;
    runs = runs;
    history = sym (append-nil s.history);
  }
  pieces_reach (p ∷ pieces) ps given s events dids h is runs = elim runs [
    | inl r ↦ absurd r.1
    | inr r ↦
        let same : (ps ++ p ∷ []) ++ pieces ≡ ps ++ p ∷ pieces = append_assoc ps (p ∷ []) pieces in
        let all : joined ((ps ++ p ∷ []) ++ pieces) ++ more ≡ stream spell xs = ap (λ (q : List (List ℕ)). joined q ++ more) same ∙ is in
        let f' = front (ps ++ p ∷ []) pieces all in
        let step = piece_heard env m f d ps p given s h r.0 r.3 (λ cuts packets k. (f'.hears cuts packets k).unfailed) in
        let reached = pieces_reach pieces (ps ++ p ∷ []) (given ++ step.0) (after s (Piece m p) r.0) events r.1 step.1 all r.4 in
        and_did s.history (after s (Piece m p) r.0).history first_time (ps ++ p ∷ pieces) events dids r.1 r.0 r.2 refl
        (subst (λ (q : List (List ℕ)). Reached (after s (Piece m p) r.0).history first_time q events r.1) same reached)
  ]

  times_reach : (times : List Time) (clock : Time) (ps : List (List ℕ)) (given : List Output) (s : State) (events : List Event) (dids : List Did) → Heard env m f clock ps given s
      → Runs env s (map SetTime times ++ events) dids Finished → Reached s.history (clock_after clock times) ps events dids
  times_reach [] clock ps given s events dids h runs = record {
    first = [];
    last = dids;
    dids_are = refl;
    state = s;
    given = given;
    heard = h;
    runs = runs;
    history = sym (append-nil s.history);
  }
  times_reach (t ∷ times) clock ps given s events dids h runs = elim runs [
    | inl r ↦ absurd r.1
    | inr r ↦
        let step = time_heard env m f d ps given clock t s h r.0 r.3 in
        and_did s.history (after s (SetTime t) r.0).history (clock_after t times) ps events dids r.1 r.0 r.2 refl
        (times_reach times t ps given (after s (SetTime t) r.0) events r.1 step.1 r.4)
  ]

  -- the end of it
  finish_reach : (times : List Time) (ps : List (List ℕ)) (given : List Output) (s : State) (dids : List Did) → Heard env m f (clock_after first_time times) ps given s → (fr : Front ps)
      → Runs env s (Finish m PeerEnded ∷ []) dids Finished → s.history ++ history_of dids ≡ heard env m times (map out fr.whole) (length fr.rest)
  finish_reach times ps given s dids h fr runs = elim runs [
    | inl r ↦ absurd r.1
    | inr r ↦
        let clock : Time = clock_after first_time times in
        let end = end_heard env m f d ps given clock s h r.0 r.3 in
        let alone : history_of dids ≡ r.0.entries = ap history_of (r.2 ∙ ap (λ (ds : List Did). r.0 ∷ ds) r.4.0) ∙ append-nil r.0.entries in
        let given_is : given ≡ map out fr.whole = (fr.hears h.cuts given h.packets).packets_are in
        let closed : r.0.entries ≡ closed_last m clock (length fr.rest) ∷ [] =
        end.2 ∙ ap (λ (l : Loss). record { by = m; time = clock; what = Closed PeerEnded l 0 0 } ∷ []) (fr.hears end.0 end.1 end.3).loss in
        ap (λ (es : List Entry). s.history ++ es) (alone ∙ closed)
        ∙ (ap (λ (es : List Entry). es ++ closed_last m clock (length fr.rest) ∷ []) h.history
        ∙ ap (λ (outs : List Output). opened_first m ∷ (packet_entries env.routing first_time m outs ++ closed_last m clock (length fr.rest) ∷ [])) given_is)
  ]

  pub nothing : IsPackets (f ∷ []) [] (clean [] [] ∷ []) []
  nothing = (subst (λ (b : Bool). cut_by b f [] (clean [] [])) (sym d.all_bytes) (record { taken = taken_none f []; ends = ends_nil f d.sound }), refl)

  pub devices_hear : (pieces : List (List ℕ)) (times : List Time) (dids : List Did) → joined pieces ++ more ≡ stream spell xs → Runs env opening (hearing m pieces times) dids Finished
      → (whole : List X) × (rest : List ℕ) × Holds spell xs (joined pieces) whole rest × (history_of dids ≡ heard env m times (map out whole) (length rest))
  devices_hear pieces times dids is runs = elim runs [
    | inl r ↦ absurd r.1
    | inr r ↦
        let opened = opens_heard env m f d r.0 r.3 nothing in
        let one = pieces_reach pieces [] [] (after opening (Opens m) r.0) (map SetTime times ++ Finish m PeerEnded ∷ []) r.1 opened is r.4 in
        let two = times_reach times first_time pieces one.given one.state (Finish m PeerEnded ∷ []) one.last one.heard one.runs in
        let fr = front pieces [] (ap (λ (q : List (List ℕ)). joined q ++ more) (append-nil pieces) ∙ is) in
        let end = finish_reach times pieces two.given two.state two.last two.heard fr two.runs in
        let before : two.state.history ≡ r.0.entries ++ (history_of one.first ++ history_of two.first) =
        two.history ∙ (ap (λ (es : List Entry). es ++ history_of two.first) one.history ∙ append_assoc r.0.entries (history_of one.first) (history_of two.first)) in
        let later : history_of r.1 ≡ history_of one.first ++ (history_of two.first ++ history_of two.last) =
        ap history_of one.dids_are ∙ (history_append one.first one.last ∙ ap (λ (es : List Entry). history_of one.first ++ es) (ap history_of two.dids_are ∙ history_append two.first two.last)) in
        let all : history_of dids ≡ two.state.history ++ history_of two.last =
        ap history_of r.2
        ∙ (ap (λ (es : List Entry). r.0.entries ++ es) later
        ∙ (ap (λ (es : List Entry). r.0.entries ++ es) (sym (append_assoc (history_of one.first) (history_of two.first) (history_of two.last)))
        ∙ (sym (append_assoc r.0.entries (history_of one.first ++ history_of two.first) (history_of two.last)) ∙ ap (λ (es : List Entry). es ++ history_of two.last) (sym before)))) in
        (fr.whole, fr.rest, fr.holds, all ∙ end)
  ]

pub sites_hear : {X : Type 0} → SitesHear X
sites_hear base m f spell out xs pieces more times dids d back is runs = devices_hear (environment_of base) m f d spell out xs more back pieces times dids is runs
