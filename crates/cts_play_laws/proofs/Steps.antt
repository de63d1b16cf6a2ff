-- What each event of a device's connection does.
use Rattle.std.proofs.Common.{◌≡◌, ℕ, zero, suc, ◌==◌, Bool, true, false, cond, List, [], ◌∷◌, ◌++◌, take, drop, refl, sym, ◌∙◌, ap, subst, append-nil, Option, Some, None}
use Rattle.std.specs.List.{filter, list_any}
use Rattle.std.proofs.lemmas.List.{map-append}
use Rattle.cts_core.specs.Runs.{Closes, Did, Does, Receives, after, closing, kept, pieces_for}
use Rattle.cts_core.specs.States.{Environment, State, opening, unsent}
use Rattle.cts_def.specs.declared.time.Time.{Time}
use Rattle.cts_entry.specs.declared.entry.Entry.{Entry}
use Rattle.cts_entry.specs.declared.event.Event.TheVariants.{Finish, Opens, Piece, SetTime}
use Rattle.cts_entry.specs.declared.what.What.TheVariants.{Closed}
use Rattle.cts_entry.specs.declared.why.Why.TheVariants.{PeerEnded}
use Rattle.cts_entry.specs.Histories.{commands_to, connects_maker, latest, opens, packets_from, since}
use Rattle.cts_entry.proofs.Queuing.{since_opened}
use Rattle.cts_framing.specs.Framing.{Framing, Output}
use Rattle.cts_framing.specs.Cuts.{Pieces}
use Rattle.cts_framing.specs.Packets.{Fault, IsPackets, capped, fault_of, loss_of}
use Rattle.cts_framing.proofs.Fronts.{same_test}
use Rattle.cts_framing.proofs.Stagings.{has_one_packets}
use Rattle.cts_trace.specs.Routing.{Routing, packet_entries, posted_entries, queue, spell, walk}
use Rattle.cts_entry.specs.Queues.{unsent_of}
use Rattle.cts_trace_laws.specs.Streams.{clean}
use Rattle.cts_play_laws.specs.Hearing.{IsDevice, first_time, opened_first}

-- ---- packets open and close nothing, and are no commands

module _ (g : Routing) (m : ℕ) where
  pub none_connects : (now : Time) (outs : List Output) → latest (connects_maker m) (packet_entries g now m outs) ≡ None
  none_connects now [] = refl
  none_connects now (o ∷ outs) = rw (none_connects now outs, same_test m m refl) refl

  pub none_opens : (now : Time) (outs : List Output) → list_any (opens m) (packet_entries g now m outs) ≡ false
  none_opens now [] = refl
  none_opens now (o ∷ outs) = rw (same_test m m refl, none_opens now outs) refl

  pub none_commanded : (now : Time) (outs : List Output) → filter (commands_to (λ interface. interface == m)) (packet_entries g now m outs) ≡ []
  none_commanded now [] = refl
  none_commanded now (o ∷ outs) = none_commanded now outs

  pub opens_first : opens m (opened_first m) ≡ true
  opens_first = rw (same_test m m refl) refl

  pub connects_first : latest (connects_maker m) (opened_first m ∷ []) ≡ Some true
  connects_first = rw (same_test m m refl) refl

  module _ (interface : g.is_interface m ≡ true) where
    -- what an interface's outputs say
    pub posted_packets : (history : List Entry) (now : Time) (outs : List Output) → posted_entries g history now m outs ≡ packet_entries g now m outs
    posted_packets history now [] = refl
    posted_packets history now (o ∷ outs) = rw (interface, posted_packets history now outs) refl

    queue_is : (entries : List Entry) → queue g m entries ≡ filter (commands_to (λ interface. interface == m)) entries
    queue_is entries = ap (λ (b : Bool). filter (λ e. cond b (commands_to (λ interface. interface == m) e) (packets_from (g.routes m) e)) entries) interface

    pub walk_none : (now : Time) (outs : List Output) → walk g m (packet_entries g now m outs) ≡ []
    walk_none now outs = ap (λ (b : Bool). cond b (queue g m (packet_entries g now m outs)) (packet_entries g now m outs)) interface ∙ (queue_is (packet_entries g now m outs) ∙ none_commanded now outs)

-- ---- a state in which a device is heard

-- The device's connection has brought these pieces and given these outputs, and nothing else stands.
pub record Heard (env : Environment) (m : ℕ) (f : Framing) (clock : Time) (ps : List (List ℕ)) (given : List Output) (s : State) : Type 0 where
  pub history : s.history ≡ opened_first m ∷ packet_entries env.routing first_time m given
  pub time : s.time ≡ clock
  pub pieces : s.pieces m ≡ ps
  pub cuts : List Pieces
  pub packets : IsPackets (f ∷ []) ps cuts given

-- how much of a queue is not put whole, where so many of these entries are passed
abbrev pub unsent_among : Environment → ℕ → ℕ → List Entry → ℕ
unsent_among env m n es = capped (unsent_of (spell env.routing m) (queue env.routing m (take n es)) (queue env.routing m (drop n es)))

take_none : {A : Type 0} (n : ℕ) → take {A = A} n [] ≡ []
take_none zero = refl
take_none (suc n) = refl

drop_none : {A : Type 0} (n : ℕ) → drop {A = A} n [] ≡ []
drop_none zero = refl
drop_none (suc n) = refl

nothing_unsent : (env : Environment) (m : ℕ) (n : ℕ) → unsent_among env m n [] ≡ 0
nothing_unsent env m n =
    ap (λ (es : List Entry). capped (unsent_of (spell env.routing m) (queue env.routing m es) (queue env.routing m (drop n [])))) (take_none n)
    ∙ ap (λ (es : List Entry). capped (unsent_of (spell env.routing m) [] (queue env.routing m es))) (drop_none n)

module _ (env : Environment) (m : ℕ) (f : Framing) (d : IsDevice env.routing.is_interface env.routing.chain m f) where
  piece_for : (p : List ℕ) → pieces_for m (Piece m p) ≡ p ∷ []
  piece_for p = rw (same_test m m refl) refl

  -- it is opened
  pub opens_heard : (did : Did) → Does env opening (Opens m) did → (nothing : IsPackets (f ∷ []) [] (clean [] [] ∷ []) []) → Heard env m f first_time [] [] (after opening (Opens m) did)
  opens_heard did does nothing =
      let e : did.entries ≡ opened_first m ∷ [] = does.appends in
      record {
        history = e;
        time = refl;
        pieces = ap (λ (es : List Entry). kept (latest (connects_maker m) es) [] ([] ++ [])) e ∙ ap (λ (o : Option Bool). kept o [] ([] ++ [])) (connects_first env.routing m);
        cuts = clean [] [] ∷ [];
        packets = nothing;
      }

  -- a piece comes
  module _ (ps : List (List ℕ)) (p : List ℕ) (given : List Output) (s : State) (h : Heard env m f first_time ps given s) (entries : List Entry) (got : Receives env s m p entries)
      (sound : (cuts : List Pieces) (packets : List Output) → IsPackets (f ∷ []) (ps ++ p ∷ []) cuts packets → fault_of cuts ≡ None) where
    before : IsPackets (f ∷ []) ps got.earlier got.given
    before = subst (λ (c : List Framing). IsPackets c ps got.earlier got.given) d.chain_is (subst (λ (q : List (List ℕ)). IsPackets (env.routing.chain m) q got.earlier got.given) h.pieces got.before)

    then_is : IsPackets (f ∷ []) (ps ++ p ∷ []) got.cuts (got.given ++ got.packets)
    then_is =
        subst (λ (c : List Framing). IsPackets c (ps ++ p ∷ []) got.cuts (got.given ++ got.packets)) d.chain_is
        (subst (λ (q : List (List ℕ)). IsPackets (env.routing.chain m) (q ++ p ∷ []) got.cuts (got.given ++ got.packets)) h.pieces got.after)

    same_given : got.given ≡ given
    same_given = (has_one_packets (f ∷ []) ps got.earlier h.cuts got.given given (d.sound, tt) before h.packets).1

    pub packets_then : IsPackets (f ∷ []) (ps ++ p ∷ []) got.cuts (given ++ got.packets)
    packets_then = subst (λ (o : List Output). IsPackets (f ∷ []) (ps ++ p ∷ []) got.cuts (o ++ got.packets)) same_given then_is

    pub entries_are : entries ≡ packet_entries env.routing first_time m got.packets
    entries_are =
        got.entries_are
        ∙ (ap (λ (o : Option Fault). posted_entries env.routing s.history s.time m got.packets ++ closing s.time m (unsent env s m) got.cuts o) (sound got.cuts (got.given ++ got.packets) then_is)
        ∙ (append-nil (posted_entries env.routing s.history s.time m got.packets)
        ∙ (posted_packets env.routing m d.is_interface s.history s.time got.packets ∙ ap (λ (t : Time). packet_entries env.routing t m got.packets) h.time)))

    pub history_then : s.history ++ entries ≡ opened_first m ∷ packet_entries env.routing first_time m (given ++ got.packets)
    history_then =
        ap (λ (es : List Entry). es ++ entries) h.history
        ∙ (ap (λ (es : List Entry). opened_first m ∷ (packet_entries env.routing first_time m given ++ es)) entries_are
        ∙ ap (λ (es : List Entry). opened_first m ∷ es) (sym (map-append _ given got.packets)))

  module _ (ps : List (List ℕ)) (p : List ℕ) (given : List Output) (s : State) (h : Heard env m f first_time ps given s) (did : Did) (does : Does env s (Piece m p) did)
      (sound : (cuts : List Pieces) (packets : List Output) → IsPackets (f ∷ []) (ps ++ p ∷ []) cuts packets → fault_of cuts ≡ None) where
    got_by : Receives env s m p did.entries
    got_by = does.appends

    pub piece_heard : (more : List Output) × Heard env m f first_time (ps ++ p ∷ []) (given ++ more) (after s (Piece m p) did)
    piece_heard = (
      got_by.packets,
      record {
        history = history_then ps p given s h did.entries got_by sound;
        time = h.time;
        pieces =
            ap (λ (es : List Entry). kept (latest (connects_maker m) es) [] (s.pieces m ++ pieces_for m (Piece m p))) (entries_are ps p given s h did.entries got_by sound)
            ∙ (ap (λ (o : Option Bool). kept o [] (s.pieces m ++ pieces_for m (Piece m p))) (none_connects env.routing m first_time got_by.packets)
            ∙ (ap (λ (q : List (List ℕ)). q ++ pieces_for m (Piece m p)) h.pieces ∙ ap (λ (q : List (List ℕ)). ps ++ q) (piece_for p)));
        cuts = got_by.cuts;
        packets = packets_then ps p given s h did.entries got_by sound;
      },
    )

  -- the clock is set
  pub time_heard : (ps : List (List ℕ)) (given : List Output) (clock t : Time) (s : State) → Heard env m f clock ps given s → (did : Did) → Does env s (SetTime t) did
      → (did.entries ≡ []) × Heard env m f t ps given (after s (SetTime t) did)
  time_heard ps given clock t s h did does =
      let e : did.entries ≡ [] = does.appends in (
        e,
        record {
          history = ap (λ (es : List Entry). s.history ++ es) e ∙ (append-nil s.history ∙ h.history);
          time = refl;
          pieces = ap (λ (es : List Entry). kept (latest (connects_maker m) es) [] (s.pieces m ++ [])) e ∙ (append-nil (s.pieces m) ∙ h.pieces);
          cuts = h.cuts;
          packets = h.packets;
        },
      )

  -- it ends
  module _ (ps : List (List ℕ)) (given : List Output) (clock : Time) (s : State) (h : Heard env m f clock ps given s) (did : Did) (does : Does env s (Finish m PeerEnded) did) where
    ends : Closes env s m PeerEnded did.entries
    ends = does.appends

    at_end : IsPackets (f ∷ []) ps ends.cuts ends.given
    at_end = subst (λ (c : List Framing). IsPackets c ps ends.cuts ends.given) d.chain_is (subst (λ (q : List (List ℕ)). IsPackets (env.routing.chain m) q ends.cuts ends.given) h.pieces ends.before)

    since_is : since m s.history ≡ packet_entries env.routing first_time m given
    since_is = ap (since m) h.history ∙ since_opened m [] (packet_entries env.routing first_time m given) (opened_first m) (opens_first env.routing m) (none_opens env.routing m first_time given)

    walk_is : walk env.routing m (since m s.history) ≡ []
    walk_is = ap (walk env.routing m) since_is ∙ walk_none env.routing m d.is_interface first_time given

    none_unsent : unsent env s m ≡ 0
    none_unsent = ap (unsent_among env m (s.cursor m)) walk_is ∙ nothing_unsent env m (s.cursor m)

    pub end_heard : (cuts : List Pieces) × (packets : List Output) × (did.entries ≡ record { by = m; time = clock; what = Closed PeerEnded (loss_of cuts) 0 0 } ∷ []) × IsPackets (f ∷ []) ps cuts packets
    end_heard = (
      ends.cuts,
      ends.given,
      ends.entries_are ∙ (λ i. record { by = m; time = h.time i; what = Closed PeerEnded (loss_of ends.cuts) 0 (none_unsent i) } ∷ []),
      at_end,
    )
