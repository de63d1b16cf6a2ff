-- What whole frames give.
use Rattle.std.proofs.Common.{◌≡◌, ℕ, ◌-◌, Bool, true, false, ◌&&◌, cond, List, ◌++◌, length, take, drop, refl, sym, ◌∙◌, ap, arith, append_assoc, length-append, Some}
use Rattle.std.proofs.lemmas.List.{take_at, drop_at}
use Rattle.cts_def.specs.Protocols.{TerminatedData, PreidentifiedData, Burst, Fixed, Length, Terminated, Preidentified}
use Rattle.cts_framing.specs.Frames.{IsTerminatedFrame, IsPreidentifiedFrame}
use Rattle.cts_framing.specs.Framing.{Output, plain}
use Rattle.cts_framing.specs.Heads.{HeadData}
use Rattle.cts_framing.specs.Layouts.{has_flags, laid_head, laid_end, laid_of, stored_at}
use Rattle.cts_framing.specs.RowLaws.{OutputsAreExact}
use Rattle.cts_framing.specs.Rows.{after_head}
use Rattle.cts_framing.proofs.Laid.{laid_end_again, laid_again, stored_again}

-- a frame without its termination
strips : (t : TerminatedData) (w : List ℕ) (h : IsTerminatedFrame t w) (b : Bool) → cond b (take (length w - length t.read) w) w ≡ cond b (t.sync ++ h.body) w
strips t w h false = refl
strips t w h true =
    let is : w ≡ (t.sync ++ h.body) ++ t.read = h.frame_is ∙ sym (append_assoc t.sync h.body t.read) in
    let len : length w - length t.read ≡ length (t.sync ++ h.body) = omega (arith, ap length is, length-append (t.sync ++ h.body) t.read) in
    ap (take (length w - length t.read)) is ∙ take_at (t.sync ++ h.body) t.read (length w - length t.read) (sym len)

-- what a head is followed by
head_output : (d : HeadData) (stored : Bool) (bytes : List ℕ) → Output
head_output d stored bytes = record { bytes = bytes; heading = Some (record { time = d.time; target = d.target; packet = d.packet; stored = stored }) }

later : (p : PreidentifiedData) (w : List ℕ) (h : IsPreidentifiedFrame p w) → after_head (has_flags p.layout) (drop (length p.sync) w) ≡ head_output h.head (has_flags p.layout && h.stored) h.bytes
unfolding head_output
later p w h =
    let b : Bool = has_flags p.layout in
    let l : List ℕ = laid_head b h.stored h.head in
    let v : List ℕ = l ++ h.bytes in
    let rest : drop (length p.sync) w ≡ v = ap (drop (length p.sync)) h.frame_is ∙ drop_at p.sync v (length p.sync) refl in
    let bytes : drop (laid_end b v) v ≡ h.bytes = drop_at l h.bytes (laid_end b v) (sym (laid_end_again b h.stored h.head h.bytes)) in
    let head : laid_of b v ≡ h.head = laid_again b h.stored h.head h.bytes h.fits in
    let stored : stored_at b v ≡ (b && h.stored) = stored_again b h.stored h.head h.bytes in
    ap (after_head b) rest ∙ (λ i. record { bytes = bytes i; heading = Some (record { time = (head i).time; target = (head i).target; packet = (head i).packet; stored = stored i }) })

pub outputs_are_exact : OutputsAreExact
unfolding head_output
outputs_are_exact (Burst b) w x h = refl
outputs_are_exact (Fixed f) w x h = refl
outputs_are_exact (Length l) w x h = refl
outputs_are_exact (Terminated t) w x h = ap (λ v. plain (drop t.discard v)) (strips t w h t.strip)
outputs_are_exact (Preidentified p) w x h = later p w h
