-- How the first bytes of a stream are cut.
use Rattle.std.proofs.Common.{◌≡◌, ◌≢◌, ℕ, ◌<◌, Bool, true, false, List, [], ◌∷◌, ◌++◌, length, map, refl, sym, ◌∙◌, ap, subst, arith, append_assoc, length-append, Option, Some, None}
use Rattle.std.specs.List.{AllByRecursion}
use Rattle.std.proofs.lemmas.List.{append-nil}
use Rattle.cts_def.specs.declared.bad_cause.BadCause.{BadCause}
use Rattle.cts_entry.specs.Queues.{bytes_or_none}
use Rattle.cts_framing.specs.Framing.{Framing, Output, Agree, IsSound, plain}
use Rattle.cts_framing.specs.Cuts.{Part, Parts, Ends, IsCut, Pieces, and_output, outputs, empties, gaps, one_if_empty}
use Rattle.cts_framing.specs.Packets.{IsPackets, cut_by, fault_of, joined, loss_of}
use Rattle.cts_framing.proofs.Framings.{agree_shorter, ends_nil, whole_agrees}
use Rattle.cts_framing.proofs.OneCut.{one_cut}
use Rattle.cts_framing.proofs.Stagings.{plain_bytes}
use Rattle.cts_trace_laws.specs.Laws.{Hears, StreamsAreCut, StreamsAreHeard}
use Rattle.cts_trace_laws.specs.Streams.{AreReadBack, Holds, IsPart, IsPartOfNext, IsReadBack, clean, spoken, stream}

-- ---- a part of a frame

module _ (f : Framing) (s : IsSound f) (steady : f.by_piece ≡ false) where
  module _ (w rest y : List ℕ) (h : f.whole w [] ≡ true) (short : length rest < length w) (is : w ≡ rest ++ y) where
    part_synced : Agree f.sync rest
    part_synced = agree_shorter f.sync rest y (subst (Agree f.sync) (append-nil w ∙ is) (whole_agrees f s w [] h))

    part_no_frame : (v x : List ℕ) → rest ≡ v ++ x → f.whole v x ≡ true → ⊥
    part_no_frame v x e k =
        let all : w ++ [] ≡ v ++ (x ++ y) = append-nil w ∙ (is ∙ (ap (λ t. t ++ y) e ∙ append_assoc v x y)) in
        let same : w ≡ v = s.one w v [] (x ++ y) h (s.whole_stays steady v x y k) all in
        omega (arith, short, ap length same, ap length e, length-append v x)

    no_error_by : (o : Option BadCause) → f.error rest ≡ o → f.error rest ≡ None
    no_error_by None e = e
    no_error_by (Some c) e =
        let stays : f.error (rest ++ y) ≡ Some c = s.error_stays rest y c e in
        let none : f.error (w ++ []) ≡ None = s.apart w [] h in
        let same : f.error (w ++ []) ≡ f.error (rest ++ y) = ap f.error (append-nil w ∙ is) in
        cc (stays, none, same)

    pub part_ends : Ends f rest None
    part_ends = record { synced = part_synced; no_frame = part_no_frame; error = no_error_by (f.error rest) refl }

  module _ {X : Type 0} (spell : X → Option (List ℕ)) (out : X → Output) where
    rest_by : (x : X) (rest : List ℕ) (o : Option (List ℕ)) → spell x ≡ o → IsReadBack f spell out x → IsPart rest o → Ends f rest None
    rest_by x rest None e back part = absurd part
    rest_by x rest (Some w) e back part = part_ends w rest part.1.0 (back w e).whole part.0 part.1.1

    -- no frame and no error stands at what is left
    rest_ends : (later : List X) (rest : List ℕ) → AreReadBack f spell out later → IsPartOfNext spell later rest → Ends f rest None
    rest_ends [] rest back part = subst (λ (r : List ℕ). Ends f r None) (sym part) (ends_nil f s)
    rest_ends (x ∷ later) rest back part = rest_by x rest (spell x) refl back.0 part

    abbrev frame_part : X → Part
    frame_part x = record { gap = []; frame = bytes_or_none (spell x) }

    -- these have a spelling
    abbrev HasSpelling : X → Type 0
    HasSpelling x = (w : List ℕ) × (spell x ≡ Some w)

    frame_is : (x : X) (h : HasSpelling x) → bytes_or_none (spell x) ≡ h.0
    frame_is x h = ap bytes_or_none h.1

    one_whole : (x : X) (more : List ℕ) → HasSpelling x → IsReadBack f spell out x → f.whole (bytes_or_none (spell x)) more ≡ true
    one_whole x more h back = subst (λ (w : List ℕ). f.whole w more ≡ true) (sym (frame_is x h)) (s.whole_stays steady h.0 [] more (back h.0 h.1).whole)

    frames_stand : (xs : List X) (rest : List ℕ) → AllByRecursion HasSpelling xs → AreReadBack f spell out xs → Parts f (map frame_part xs) (stream spell xs ++ rest) rest
    frames_stand [] rest all back = refl
    frames_stand (x ∷ xs) rest all back = (
      stream spell xs ++ rest,
      append_assoc (bytes_or_none (spell x)) (stream spell xs) rest,
      one_whole x (stream spell xs ++ rest) all.0 back.0,
      tt,
      frames_stand xs rest all.1 back.1,
    )

    output_is : (x : X) → HasSpelling x → IsReadBack f spell out x → f.output (bytes_or_none (spell x)) ≡ out x
    output_is x h back = ap f.output (frame_is x h) ∙ (back h.0 h.1).output

    output_put : (o : Output) (bytes : List ℕ) (outs : List Output) → bytes ≢ [] → and_output o bytes outs ≡ o ∷ outs
    output_put o [] outs some = absurd (some refl)
    output_put o (b ∷ bytes) outs some = refl

    not_empty : (bytes : List ℕ) → bytes ≢ [] → one_if_empty bytes ≡ 0
    not_empty [] some = absurd (some refl)
    not_empty (b ∷ bytes) some = refl

    outputs_are : (xs : List X) → AllByRecursion HasSpelling xs → AreReadBack f spell out xs → outputs f (map frame_part xs) ≡ map out xs
    outputs_are [] all back = refl
    outputs_are (x ∷ xs) all back =
        let o = output_is x all.0 back.0 in
        ap (λ (p : Output). and_output p p.bytes (outputs f (map frame_part xs))) o
        ∙ (output_put (out x) (out x).bytes (outputs f (map frame_part xs)) (back.0 all.0.0 all.0.1).some ∙ ap (λ (outs : List Output). out x ∷ outs) (outputs_are xs all.1 back.1))

    empties_are : (xs : List X) → AllByRecursion HasSpelling xs → AreReadBack f spell out xs → empties f (map frame_part xs) ≡ 0
    empties_are [] all back = refl
    empties_are (x ∷ xs) all back =
        let o = output_is x all.0 back.0 in
        let one : one_if_empty (f.output (bytes_or_none (spell x))).bytes ≡ 0 = ap (λ (p : Output). one_if_empty p.bytes) o ∙ not_empty (out x).bytes (back.0 all.0.0 all.0.1).some in
        omega (arith, one, empties_are xs all.1 back.1)

    gaps_are : (xs : List X) → gaps (map frame_part xs) ≡ 0
    gaps_are [] = refl
    gaps_are (x ∷ xs) = omega (arith, gaps_are xs)

    spoken_have : (xs : List X) → AllByRecursion HasSpelling (spoken spell xs)
    spoken_have [] = tt
    spoken_have (x ∷ xs) = have_by x xs (spell x) refl (spoken_have xs)
      where
        have_by : (x : X) (xs : List X) (o : Option (List ℕ)) → spell x ≡ o → AllByRecursion HasSpelling (spoken spell xs) → AllByRecursion HasSpelling (spoken spell (x ∷ xs))
        have_by x xs None e rec = rw e rec
        have_by x xs (Some w) e rec = rw e ((w, e), rec)

    all_front : (P : X → Type 0) (xs ys : List X) → AllByRecursion P (xs ++ ys) → AllByRecursion P xs × AllByRecursion P ys
    all_front P [] ys all = (tt, all)
    all_front P (x ∷ xs) ys all = let more = all_front P xs ys all.1 in ((all.0, more.0), more.1)

    pub stream_cut : (xs whole : List X) (bytes rest : List ℕ) → AreReadBack f spell out (spoken spell xs) → Holds spell xs bytes whole rest → IsCut f bytes (clean (map out whole) rest)
    stream_cut xs whole bytes rest back h =
        let both = all_front (IsReadBack f spell out) whole h.later (subst (AreReadBack f spell out) h.all back) in
        let have = all_front HasSpelling whole h.later (subst (AllByRecursion HasSpelling) h.all (spoken_have xs)) in
        subst (λ (b : List ℕ). IsCut f b (clean (map out whole) rest)) (sym h.bytes_are)
        (record {
          taken = record {
            parts = map frame_part whole;
            gap = [];
            cut = frames_stand whole rest have.0 both.0;
            clear = tt;
            outs_are = sym (outputs_are whole have.0 both.0);
            skipped_is = omega (arith, gaps_are whole);
            empty_is = sym (empties_are whole have.0 both.0);
          };
          ends = rest_ends h.later rest both.1 h.part;
        })

    -- ---- a chain of this stage

    one_stage : (pieces : List (List ℕ)) (cuts : List Pieces) (packets : List Output) → IsPackets (f ∷ []) pieces cuts packets
        → (c : Pieces) × (cuts ≡ c ∷ []) × IsCut f (joined pieces) c × (c.outs ≡ packets)
    one_stage pieces [] packets h = absurd h
    one_stage pieces (c ∷ []) packets h =
        let once : IsCut f (joined (map (λ o. o.bytes) (map plain pieces))) c = subst (λ (b : Bool). cut_by b f (map (λ o. o.bytes) (map plain pieces)) c) steady h.0 in
        (c, refl, subst (λ (ps : List (List ℕ)). IsCut f (joined ps) c) (plain_bytes pieces) once, h.1)
    one_stage pieces (c ∷ d ∷ cuts) packets h = absurd h.1

    pub stream_heard : (xs whole : List X) (bytes rest : List ℕ) (pieces : List (List ℕ)) (cuts : List Pieces) (packets : List Output) → AreReadBack f spell out (spoken spell xs)
        → Holds spell xs bytes whole rest → joined pieces ≡ bytes → IsPackets (f ∷ []) pieces cuts packets → Hears out whole rest cuts packets
    stream_heard xs whole bytes rest pieces cuts packets back h j p =
        let one = one_stage pieces cuts packets p in
        let due : Pieces = clean (map out whole) rest in
        let cut = stream_cut xs whole bytes rest back h in
        let same : one.0 ≡ due = one_cut f bytes one.0 due s (subst (λ (b : List ℕ). IsCut f b one.0) j one.2) cut in
        let cuts_are : cuts ≡ due ∷ [] = one.1 ∙ ap (λ (c : Pieces). c ∷ []) same in
        record {
          packets_are = sym one.3 ∙ ap (λ (c : Pieces). c.outs) same;
          cuts_are = cuts_are;
          unfailed = ap fault_of cuts_are;
          loss = ap loss_of cuts_are;
        }

pub streams_are_cut : {X : Type 0} → StreamsAreCut X
streams_are_cut f spell out xs whole bytes rest s steady back h = stream_cut f s steady spell out xs whole bytes rest back h

pub streams_are_heard : {X : Type 0} → StreamsAreHeard X
streams_are_heard f spell out xs whole bytes rest pieces cuts packets s steady back h j p = stream_heard f s steady spell out xs whole bytes rest pieces cuts packets back h j p
