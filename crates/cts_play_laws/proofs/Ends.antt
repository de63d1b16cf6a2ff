-- All events of a device are done where there is room.
use Rattle.std.proofs.Common.{◌≡◌, ℕ, ◌+◌, ◌||◌, ◌&&◌, inl, inr, Bool, true, false, List, [], ◌∷◌, ◌++◌, length, map, refl, sym, ◌∙◌, ap, subst, arith, append_assoc, append-nil, length-append, Option}
use Rattle.std.specs.Prelude.{nat_le, nat_lt, sum_by}
use Rattle.std.proofs.lemmas.List.{map-append}
use Rattle.std.proofs.lemmas.List.Sums.{sum_by-append, sum_by-cons}
use Rattle.cts_core.specs.Environments.{environment_of}
use Rattle.cts_core.specs.Runs.{Did, Ending, Finished, HistoryFull, NotEnabled, Receives, Refuses, Runs, after}
use Rattle.cts_core.specs.States.{Environment, State, has_room, is_enabled, is_line, is_piece, opening}
use Rattle.cts_def.specs.declared.time.Time.{Time}
use Rattle.cts_entry.specs.Histories.{bytes_for, bytes_in, entries_for, entries_in, is_connected}
use Rattle.cts_entry.specs.declared.entry.Entry.{Entry}
use Rattle.cts_entry.specs.declared.event.Event.{Event}
use Rattle.cts_entry.specs.declared.event.Event.TheVariants.{Finish, Opens, Piece, SetTime}
use Rattle.cts_entry.specs.declared.why.Why.TheVariants.{PeerEnded}
use Rattle.cts_framing.specs.Framing.{Framing, Output, is_stored}
use Rattle.cts_framing.specs.Packets.{joined}
use Rattle.cts_framing.proofs.Fronts.{le_test, same_test}
use Rattle.cts_trace_laws.specs.Streams.{AreReadBack, spoken, stream}
use Rattle.cts_trace.specs.Routing.{Routing, packet_entries, time_in}
use Rattle.cts_entry.specs.declared.what.What.TheVariants.{Packet}
use Rattle.cts_play_laws.specs.Hearing.{HasRoomFor, IsDevice, MayBeSet, MayCome, SitesEnd, first_time, hearing, opened_first}
use Rattle.cts_play_laws.proofs.Hears.{front, nothing}
use Rattle.cts_play_laws.proofs.Steps.{Heard, history_then, none_connects, opens_heard, packets_then, piece_heard, time_heard}

true_false : (b : Bool) → b ≡ true → b ≡ false → ⊥
true_false true h k = cc
true_false false h k = cc

and_true : (a b : Bool) → a ≡ true → b ≡ true → (a && b) ≡ true
and_true true b h k = k
and_true false b h k = cc

or_true : (a b : Bool) → b ≡ true → (a || b) ≡ true
or_true true b h = refl
or_true false b h = h

module _ (g : Routing) (m : ℕ) (now : Time) where
  entries_count : (outs : List Output) → entries_in (packet_entries g now m outs) ≡ length outs
  entries_count [] = refl
  entries_count (o ∷ outs) =
      let e : Entry = record { by = m; time = time_in o.heading now; what = Packet (g.ident m o) (is_stored o.heading) o.bytes } in
      let step : entries_in (e ∷ packet_entries g now m outs) ≡ 1 + entries_in (packet_entries g now m outs) = sum_by-cons (λ (x : Entry). entries_for x.what) e (packet_entries g now m outs) in
      omega (arith, step, entries_count outs)

  bytes_count : (outs : List Output) → bytes_in (packet_entries g now m outs) ≡ sum_by (λ (o : Output). length o.bytes) outs
  bytes_count [] = refl
  bytes_count (o ∷ outs) =
      let e : Entry = record { by = m; time = time_in o.heading now; what = Packet (g.ident m o) (is_stored o.heading) o.bytes } in
      let step : bytes_in (e ∷ packet_entries g now m outs) ≡ length o.bytes + bytes_in (packet_entries g now m outs) = sum_by-cons (λ (x : Entry). bytes_for x.what) e (packet_entries g now m outs) in
      let more : sum_by (λ (x : Output). length x.bytes) (o ∷ outs) ≡ length o.bytes + sum_by (λ (x : Output). length x.bytes) outs = sum_by-cons (λ (x : Output). length x.bytes) o outs in
      omega (arith, step, more, bytes_count outs)

  entries_all : (outs : List Output) → entries_in (opened_first m ∷ packet_entries g now m outs) ≡ 1 + length outs
  entries_all outs =
      let step : entries_in (opened_first m ∷ packet_entries g now m outs) ≡ 1 + entries_in (packet_entries g now m outs) = sum_by-cons (λ (x : Entry). entries_for x.what) (opened_first m) (packet_entries g now m outs) in
      omega (arith, step, entries_count outs)

  bytes_all : (outs : List Output) → bytes_in (opened_first m ∷ packet_entries g now m outs) ≡ sum_by (λ (o : Output). length o.bytes) outs
  bytes_all outs =
      let step : bytes_in (opened_first m ∷ packet_entries g now m outs) ≡ 0 + bytes_in (packet_entries g now m outs) = sum_by-cons (λ (x : Entry). bytes_for x.what) (opened_first m) (packet_entries g now m outs) in
      omega (arith, step, bytes_count outs)

  connected_is : (outs : List Output) → is_connected m (opened_first m ∷ packet_entries g now m outs) ≡ true
  connected_is outs = rw (none_connects g m now outs, same_test m m refl) refl

module _ {X : Type 0} (env : Environment) (m : ℕ) (f : Framing) (d : IsDevice env.routing.is_interface env.routing.chain m f) (spell : X → Option (List ℕ)) (out : X → Output) (xs : List X) (more : List ℕ)
    (back : AreReadBack f spell out (spoken spell xs)) (room : HasRoomFor env.most_entries env.most_bytes (map out (spoken spell xs))) where
  line : is_line env m ≡ true
  line = or_true (env.is_slot m) (env.routing.is_interface m) d.is_interface

  room_front : (whole later : List X) → spoken spell xs ≡ whole ++ later → HasRoomFor env.most_entries env.most_bytes (map out whole)
  room_front whole later e =
      let all : map out (spoken spell xs) ≡ map out whole ++ map out later = ap (map out) e ∙ map-append out whole later in
      record {
        few = omega (arith, room.few, ap length all, length-append (map out whole) (map out later));
        short = omega (arith, room.short, ap (sum_by (λ (o : Output). length o.bytes)) all, sum_by-append (λ (o : Output). length o.bytes) (map out whole) (map out later));
      }

  has_room_for : (history : List Entry) (outs : List Output) → HasRoomFor env.most_entries env.most_bytes outs → history ≡ opened_first m ∷ packet_entries env.routing first_time m outs
      → (nat_le (entries_in history) env.most_entries && nat_le (bytes_in history) env.most_bytes) ≡ true
  has_room_for history outs r e =
      let entries : entries_in history ≡ 1 + length outs = ap entries_in e ∙ entries_all env.routing m first_time outs in
      let bytes : bytes_in history ≡ sum_by (λ (o : Output). length o.bytes) outs = ap bytes_in e ∙ bytes_all env.routing m first_time outs in
      and_true (nat_le (entries_in history) env.most_entries) (nat_le (bytes_in history) env.most_bytes) (le_test (entries_in history) env.most_entries (omega (arith, entries, r.few)))
      (le_test (bytes_in history) env.most_bytes (omega (arith, bytes, r.short)))

  connected_in : (clock : Time) (ps : List (List ℕ)) (given : List Output) (s : State) → Heard env m f clock ps given s → is_connected m s.history ≡ true
  connected_in clock ps given s h = ap (is_connected m) h.history ∙ connected_is env.routing m first_time given

  -- no piece is refused
  piece_taken : (ps later : List (List ℕ)) (p : List ℕ) (given : List Output) (s : State) (ending : Ending) → Heard env m f first_time ps given s → is_piece p ≡ true
      → joined ((ps ++ p ∷ []) ++ later) ++ more ≡ stream spell xs → Refuses env s (Piece m p) ending → ending ≡ Finished
  piece_taken ps later p given s Finished h k is r = refl
  piece_taken ps later p given s NotEnabled h k is r =
      absurd (true_false (is_enabled env s (Piece m p)) (and_true (is_line env m) (is_connected m s.history && is_piece p) line (and_true (is_connected m s.history) (is_piece p) (connected_in first_time ps given s h) k)) r)
  piece_taken ps later p given s HistoryFull h k is r =
      let fr = front env m f d spell out xs more back (ps ++ p ∷ []) later is in
      let got : Receives env s m p r.2.0 = r.2.1 in
      let history = history_then env m f d ps p given s h r.2.0 got (λ cuts packets q. (fr.hears cuts packets q).unfailed) in
      let packets = (fr.hears got.cuts (given ++ got.packets) (packets_then env m f d ps p given s h r.2.0 got (λ cuts packets q. (fr.hears cuts packets q).unfailed))).packets_are in
      let whole = history ∙ ap (λ (outs : List Output). opened_first m ∷ packet_entries env.routing first_time m outs) packets in
      absurd (true_false (has_room env s r.2.0) (has_room_for (s.history ++ r.2.0) (map out fr.whole) (room_front fr.whole fr.holds.later fr.holds.all) whole) r.2.2)

  pieces_taken : (pieces ps : List (List ℕ)) (given : List Output) (s : State) (events : List Event) (dids : List Did) (ending : Ending) → Heard env m f first_time ps given s
      → joined (ps ++ pieces) ++ more ≡ stream spell xs → MayCome pieces → Runs env s (map (Piece m) pieces ++ events) dids ending
      → ((given' : List Output) (s' : State) (dids' : List Did) → Heard env m f first_time (ps ++ pieces) given' s' → Runs env s' events dids' ending → ending ≡ Finished) → ending ≡ Finished
  pieces_taken [] ps given s events dids ending h is may runs go = go given s dids (subst (λ (q : List (List ℕ)). Heard env m f first_time q given s) (sym (append-nil ps)) h) runs
  pieces_taken (p ∷ pieces) ps given s events dids ending h is may runs go =
      let same : (ps ++ p ∷ []) ++ pieces ≡ ps ++ p ∷ pieces = append_assoc ps (p ∷ []) pieces in
      let all : joined ((ps ++ p ∷ []) ++ pieces) ++ more ≡ stream spell xs = ap (λ (q : List (List ℕ)). joined q ++ more) same ∙ is in
      elim runs [
        | inl r ↦ piece_taken ps pieces p given s ending h may.0 all r.1
        | inr r ↦
            let fr = front env m f d spell out xs more back (ps ++ p ∷ []) pieces all in
            let step = piece_heard env m f d ps p given s h r.0 r.3 (λ cuts packets k. (fr.hears cuts packets k).unfailed) in
            pieces_taken pieces (ps ++ p ∷ []) (given ++ step.0) (after s (Piece m p) r.0) events r.1 ending step.1 all may.1 r.4
            (λ given' s' dids' h' runs'. go given' s' dids' (subst (λ (q : List (List ℕ)). Heard env m f first_time q given' s') same h') runs')
      ]

  time_taken : (t : Time) (s : State) (ending : Ending) → nat_lt t.micros 1000000 ≡ true → Refuses env s (SetTime t) ending → ending ≡ Finished
  time_taken t s Finished k r = refl
  time_taken t s NotEnabled k r = absurd (true_false (nat_lt t.micros 1000000) k r)
  time_taken t s HistoryFull k r = cc

  end_taken : (clock : Time) (ps : List (List ℕ)) (given : List Output) (s : State) (ending : Ending) → Heard env m f clock ps given s → Refuses env s (Finish m PeerEnded) ending → ending ≡ Finished
  end_taken clock ps given s Finished h r = refl
  end_taken clock ps given s NotEnabled h r =
      absurd (true_false (is_enabled env s (Finish m PeerEnded)) (and_true (is_line env m) (is_connected m s.history && true) line (and_true (is_connected m s.history) true (connected_in clock ps given s h) refl)) r)
  end_taken clock ps given s HistoryFull h r = cc

  times_taken : (times : List Time) (clock : Time) (ps : List (List ℕ)) (given : List Output) (s : State) (dids : List Did) (ending : Ending) → Heard env m f clock ps given s → MayBeSet times
      → Runs env s (map SetTime times ++ Finish m PeerEnded ∷ []) dids ending → ending ≡ Finished
  times_taken [] clock ps given s dids ending h may runs = elim runs [
    | inl r ↦ end_taken clock ps given s ending h r.1
    | inr r ↦ r.4.1
  ]
  times_taken (t ∷ times) clock ps given s dids ending h may runs = elim runs [
    | inl r ↦ time_taken t s ending may.0 r.1
    | inr r ↦
        let step = time_heard env m f d ps given clock t s h r.0 r.3 in
        times_taken times t ps given (after s (SetTime t) r.0) r.1 ending step.1 may.1 r.4
  ]

  open_taken : (ending : Ending) → Refuses env opening (Opens m) ending → ending ≡ Finished
  open_taken Finished r = refl
  open_taken NotEnabled r = absurd (true_false (is_enabled env opening (Opens m)) (and_true (is_line env m) true line refl) r)
  open_taken HistoryFull r =
      let none = room_front [] (spoken spell xs) refl in
      absurd (true_false (has_room env opening r.2.0) (has_room_for ([] ++ r.2.0) [] none r.2.1) r.2.2)

  pub devices_end : (pieces : List (List ℕ)) (times : List Time) (dids : List Did) (ending : Ending) → joined pieces ++ more ≡ stream spell xs → MayCome pieces → MayBeSet times
      → Runs env opening (hearing m pieces times) dids ending → ending ≡ Finished
  devices_end pieces times dids ending is come set runs = elim runs [
    | inl r ↦ open_taken ending r.1
    | inr r ↦
        let opened = opens_heard env m f d r.0 r.3 (nothing env m f d spell out xs more back) in
        pieces_taken pieces [] [] (after opening (Opens m) r.0) (map SetTime times ++ Finish m PeerEnded ∷ []) r.1 ending opened is come r.4
        (λ given s dids' h runs'. times_taken times first_time pieces given s dids' ending h set runs')
  ]

pub sites_end : {X : Type 0} → SitesEnd X
sites_end base m f spell out xs pieces more times dids ending d back is come set room runs = devices_end (environment_of base) m f d spell out xs more back room pieces times dids ending is come set runs
