-- A stage cuts what comes to it in one way, its frames too.
use Rattle.std.proofs.Common.{◌≡◌, ℕ, Bool, true, false, List, [], ◌∷◌, ◌++◌, refl, ap}
use Rattle.cts_framing.specs.Framing.{Framing, IsSound}
use Rattle.cts_framing.specs.Cuts.{Pieces}
use Rattle.cts_framing.specs.Packets.{CutEach, cut_by, joined}
use Rattle.cts_framing.specs.Laws.{each_frames, frames_by, HasOneStage}
use Rattle.cts_framing.proofs.OneCut.{same_cut}
use Rattle.cts_framing.proofs.Stagings.{stage_one}

each_frames_one : (f : Framing) → IsSound f → (from from' : List ℕ) → from ≡ from' → (ps : List (List ℕ)) (c d : Pieces) (h : CutEach f from ps c) (k : CutEach f from' ps d) → each_frames f from ps c h ≡ each_frames f from' ps d k
each_frames_one f s from from' e [] c d h k =
    let same = same_cut f s from from' e c d h k in
    λ i. record { parts = same.parts i; gap = same.gap_is i } ∷ []
each_frames_one f s from from' e (p ∷ ps) c d h k =
    let same = same_cut f s (from ++ p) (from' ++ p) (ap (λ v. v ++ p) e) h.0 k.0 h.2 k.2 in
    let more = each_frames_one f s h.0.rest k.0.rest same.rest_is ps h.1 k.1 h.3 k.3 in
    λ i. record { parts = same.parts i; gap = same.gap_is i } ∷ more i

frames_one : (b : Bool) (f : Framing) → IsSound f → (ps : List (List ℕ)) (c d : Pieces) (h : cut_by b f ps c) (k : cut_by b f ps d) → frames_by b f ps c h ≡ frames_by b f ps d k
frames_one false f s ps c d h k =
    let same = same_cut f s (joined ps) (joined ps) refl c d h k in
    λ i. record { parts = same.parts i; gap = same.gap_is i } ∷ []
frames_one true f s ps c d h k = each_frames_one f s [] [] refl ps c d h k

pub has_one_stage : HasOneStage
has_one_stage f pieces c d s h k = record { pieces_are = stage_one f.by_piece f s pieces c d h k; frames = frames_one f.by_piece f s pieces c d h k }
