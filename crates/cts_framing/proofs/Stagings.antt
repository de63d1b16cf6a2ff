-- The laws of a chain's packets.
use Rattle.std.proofs.Common.{◌≡◌, ℕ, Bool, true, false, List, [], ◌∷◌, ◌++◌, map, refl, sym, ◌∙◌, ap, subst, append_assoc, Option, None}
use Rattle.std.proofs.lemmas.List.{map-append}
use Rattle.cts_def.specs.declared.bad_cause.BadCause.{BadCause}
use Rattle.cts_framing.specs.Framing.{Framing, Output, IsSound, plain}
use Rattle.cts_framing.specs.Cuts.{Pieces, IsCut, Ends}
use Rattle.cts_framing.specs.Packets.{joined, and_then, CutEach, cut_by, IsStage, Stages}
use Rattle.cts_framing.specs.Laws.{AllSound, HasPackets, HasOnePackets, PacketsGrow, HoweverCut}
use Rattle.cts_framing.proofs.Framings.{taken_none, ends_nil}
use Rattle.cts_framing.proofs.OneCut.{one_cut}
use Rattle.cts_framing.proofs.SomeCut.{some_cut}
use Rattle.cts_framing.proofs.Takings.{cut_more}

pub joined_append : (ps qs : List (List ℕ)) → joined (ps ++ qs) ≡ joined ps ++ joined qs
joined_append [] qs = refl
joined_append (p ∷ ps) qs = ap (λ t. p ++ t) (joined_append ps qs) ∙ sym (append_assoc p (joined ps) (joined qs))

pub plain_bytes : (ps : List (List ℕ)) → map (λ o. o.bytes) (map plain ps) ≡ ps
plain_bytes [] = refl
plain_bytes (p ∷ ps) = ap (λ t. p ∷ t) (plain_bytes ps)

-- a stage that cuts each piece for itself

each_some : (f : Framing) → IsSound f → (from : List ℕ) (ps : List (List ℕ)) → (c : Pieces) × CutEach f from ps c
each_some f s from [] = some_cut f from s
each_some f s from (p ∷ ps) =
    let first = some_cut f (from ++ p) s in
    let more = each_some f s first.0.rest ps in
    (and_then first.0 more.0, (first.0, more.0, first.1, more.1, refl))

each_one : (f : Framing) → IsSound f → (from : List ℕ) (ps : List (List ℕ)) (c d : Pieces) → CutEach f from ps c → CutEach f from ps d → c ≡ d
each_one f s from [] c d h k = one_cut f from c d s h k
each_one f s from (p ∷ ps) c d h k =
    let first = one_cut f (from ++ p) h.0 k.0 s h.2 k.2 in
    let more = each_one f s h.0.rest ps h.1 k.1 h.3 (subst (λ (r : Pieces). CutEach f r.rest ps k.1) (sym first) k.3) in
    h.4 ∙ (ap (λ (r : Pieces). and_then r h.1) first ∙ (ap (and_then k.0) more ∙ sym k.4))

-- nothing is cut off what is left
rest_gives_none : (f : Framing) → IsSound f → (from : List ℕ) (bad : Option BadCause) (c : Pieces) → Ends f from bad → IsCut f from c → c.outs ≡ []
rest_gives_none f s from bad c e h =
    let still : Pieces = record { outs = []; skipped = 0; empty = 0; rest = from; bad = bad } in
    ap (λ (p : Pieces). p.outs) (one_cut f from c still s h (record { taken = taken_none f from; ends = e }))

each_grows : (f : Framing) → IsSound f → (from : List ℕ) (bad : Option BadCause) (ps qs : List (List ℕ)) (c d : Pieces) → Ends f from bad → CutEach f from ps c → CutEach f from (ps ++ qs) d
    → (added : List Output) × (d.outs ≡ c.outs ++ added)
each_grows f s from bad [] qs c d e h k = (d.outs, ap (λ (o : List Output). o ++ d.outs) (sym (rest_gives_none f s from bad c e h)))
each_grows f s from bad (p ∷ ps) qs c d e h k =
    let first = one_cut f (from ++ p) h.0 k.0 s h.2 k.2 in
    let more = each_grows f s h.0.rest h.0.bad ps qs h.1 k.1 h.2.ends h.3 (subst (λ (r : Pieces). CutEach f r.rest (ps ++ qs) k.1) (sym first) k.3) in (
      more.0,
      ap (λ (r : Pieces). r.outs) k.4 ∙ (ap (λ (r : Pieces). r.outs ++ k.1.outs) (sym first)
          ∙ (ap (λ (o : List Output). h.0.outs ++ o) more.1 ∙ (sym (append_assoc h.0.outs h.1.outs more.0) ∙ ap (λ (r : Pieces). r.outs ++ more.0) (sym h.4)))),
    )

-- any stage

stage_some : (b : Bool) (f : Framing) → IsSound f → (ps : List (List ℕ)) → (c : Pieces) × cut_by b f ps c
stage_some false f s ps = some_cut f (joined ps) s
stage_some true f s ps = each_some f s [] ps

pub stage_one : (b : Bool) (f : Framing) → IsSound f → (ps : List (List ℕ)) (c d : Pieces) → cut_by b f ps c → cut_by b f ps d → c ≡ d
stage_one false f s ps c d h k = one_cut f (joined ps) c d s h k
stage_one true f s ps c d h k = each_one f s [] ps c d h k

-- the cut of more bytes has more outputs
outs_grow : (f : Framing) → IsSound f → f.by_piece ≡ false → (b y : List ℕ) (c d : Pieces) → IsCut f b c → IsCut f (b ++ y) d → (added : List Output) × (d.outs ≡ c.outs ++ added)
outs_grow f s e b y c d h k =
    let more = some_cut f (c.rest ++ y) s in
    (more.0.outs, ap (λ (p : Pieces). p.outs) (one_cut f (b ++ y) d (and_then c more.0) s k (cut_more f s e b y c more.0 h more.1)))

stage_grows : (b : Bool) (f : Framing) → IsSound f → f.by_piece ≡ b → (ps qs : List (List ℕ)) (c d : Pieces) → cut_by b f ps c → cut_by b f (ps ++ qs) d → (added : List Output) × (d.outs ≡ c.outs ++ added)
stage_grows false f s e ps qs c d h k = outs_grow f s e (joined ps) (joined qs) c d h (subst (λ (t : List ℕ). IsCut f t d) (joined_append ps qs) k)
stage_grows true f s e ps qs c d h k = each_grows f s [] None ps qs c d (ends_nil f s) h k

-- any chain

stages_some : (fs : List Framing) (ins : List Output) → AllSound fs → (cuts : List Pieces) × (packets : List Output) × Stages fs ins cuts packets
stages_some [] ins s = ([], ins, refl)
stages_some (f ∷ fs) ins s =
    let c = stage_some f.by_piece f s.0 (map (λ o. o.bytes) ins) in
    let more = stages_some fs c.0.outs s.1 in
    (c.0 ∷ more.0, more.1, (c.1, more.2))

stages_one : (fs : List Framing) (ins : List Output) (cs ds : List Pieces) (packets others : List Output) → AllSound fs → Stages fs ins cs packets → Stages fs ins ds others → (cs ≡ ds) × (packets ≡ others)
stages_one [] ins [] [] packets others s h k = (refl, sym h ∙ k)
stages_one [] ins [] (d ∷ ds) packets others s h k = absurd k
stages_one [] ins (c ∷ cs) ds packets others s h k = absurd h
stages_one (f ∷ fs) ins [] ds packets others s h k = absurd h
stages_one (f ∷ fs) ins (c ∷ cs) [] packets others s h k = absurd k
stages_one (f ∷ fs) ins (c ∷ cs) (d ∷ ds) packets others s h k =
    let head : c ≡ d = stage_one f.by_piece f s.0 (map (λ o. o.bytes) ins) c d h.0 k.0 in
    let tail = stages_one fs c.outs cs ds packets others s.1 h.1 (subst (λ (r : Pieces). Stages fs r.outs ds others) (sym head) k.1) in
    (cc (head, tail.0), tail.1)

stages_grow : (fs : List Framing) (ins new : List Output) (cs ds : List Pieces) (packets others : List Output) → AllSound fs → Stages fs ins cs packets → Stages fs (ins ++ new) ds others
    → (added : List Output) × (others ≡ packets ++ added)
stages_grow [] ins new [] [] packets others s h k = (new, sym k ∙ ap (λ (p : List Output). p ++ new) h)
stages_grow [] ins new [] (d ∷ ds) packets others s h k = absurd k
stages_grow [] ins new (c ∷ cs) ds packets others s h k = absurd h
stages_grow (f ∷ fs) ins new [] ds packets others s h k = absurd h
stages_grow (f ∷ fs) ins new (c ∷ cs) [] packets others s h k = absurd k
stages_grow (f ∷ fs) ins new (c ∷ cs) (d ∷ ds) packets others s h k =
    let grown = stage_grows f.by_piece f s.0 refl (map (λ o. o.bytes) ins) (map (λ o. o.bytes) new) c d h.0 (subst (λ (t : List (List ℕ)). IsStage f t d) (map-append (λ (o : Output). o.bytes) ins new) k.0) in
    stages_grow fs c.outs grown.0 cs ds packets others s.1 h.1 (subst (λ (o : List Output). Stages fs o ds others) grown.1 k.1)

-- the laws

pub has_packets : HasPackets
has_packets chain pieces s = stages_some chain (map plain pieces) s

pub has_one_packets : HasOnePackets
has_one_packets chain pieces cuts ducts packets others s h k = stages_one chain (map plain pieces) cuts ducts packets others s h k

pub packets_grow : PacketsGrow
packets_grow chain pieces new cuts more_cuts packets more_packets s h k =
    stages_grow chain (map plain pieces) (map plain new) cuts more_cuts packets more_packets s h (subst (λ (t : List Output). Stages chain t more_cuts more_packets) (map-append plain pieces new) k)

same_bytes : (f : Framing) (pieces others : List (List ℕ)) (c : Pieces) → f.by_piece ≡ false → joined pieces ≡ joined others → IsStage f (map (λ o. o.bytes) (map plain others)) c → IsStage f (map (λ o. o.bytes) (map plain pieces)) c
same_bytes f pieces others c e j h =
    let once = subst (λ (b : Bool). cut_by b f (map (λ o. o.bytes) (map plain others)) c) e h in
    let same : joined (map (λ o. o.bytes) (map plain others)) ≡ joined (map (λ o. o.bytes) (map plain pieces)) = ap joined (plain_bytes others) ∙ (sym j ∙ ap joined (sym (plain_bytes pieces))) in
    subst (λ (b : Bool). cut_by b f (map (λ o. o.bytes) (map plain pieces)) c) (sym e) (subst (λ (t : List ℕ). IsCut f t c) same once)

pub however_cut : HoweverCut
however_cut [] pieces others cuts ducts packets more s b j h k = absurd b
however_cut (f ∷ fs) pieces others [] ducts packets more s b j h k = absurd h
however_cut (f ∷ fs) pieces others (c ∷ cs) [] packets more s b j h k = absurd k
however_cut (f ∷ fs) pieces others (c ∷ cs) (d ∷ ds) packets more s b j h k =
    stages_one (f ∷ fs) (map plain pieces) (c ∷ cs) (d ∷ ds) packets more s h (same_bytes f pieces others d b j k.0, k.1)
