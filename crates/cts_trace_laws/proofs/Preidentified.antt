-- What PREIDENTIFIED puts it takes out again.
use Rattle.std.proofs.Common.{◌≡◌, ℕ, true, List, [], ◌∷◌, refl, sym, ◌∙◌, ap, subst, Option, Some, None}
use Rattle.cts_def.specs.Protocols.{PreidentifiedData, Preidentified}
use Rattle.cts_encode.specs.Spelled.{unless_refused}
use Rattle.cts_encode.specs.Spellings.{headed, holds_termination, no_place, refusal, too_large}
use Rattle.cts_encode.specs.declared.encode_fault.EncodeFault.{EncodeFault}
use Rattle.cts_encode.specs.declared.encode_fault.EncodeFault.TheVariants.{HoldsTermination, LengthTooLarge, NoPlace}
use Rattle.cts_encode.proofs.AgainCut.{no_refusal}
use Rattle.cts_encode.proofs.AgainPreidentified.{preidentified_output, preidentified_whole}
use Rattle.cts_trace_laws.specs.Laws.{PacketsAreReadBack}
use Rattle.cts_trace_laws.specs.Packets.{FitsPacked, Packed, cut_by, put_by, taken}
use Rattle.cts_trace_laws.specs.Streams.{IsReadBack}

some_frame : (o : Option EncodeFault) (frame w : List ℕ) → unless_refused o frame ≡ Some w → (o ≡ None) × (frame ≡ w)
some_frame None frame w e = (refl, cc)
some_frame (Some fault) frame w e = cc

pub read_back : (d : PreidentifiedData) (p : Packed) → FitsPacked p → IsReadBack (cut_by d) (put_by d) (taken d) p
read_back d p fits w e =
    let t = some_frame (refusal (Preidentified d) p.heading p.bytes) (headed d p.heading p.bytes) w e in
    let none = no_refusal (holds_termination (Preidentified d) p.bytes) (no_place (Preidentified d) p.bytes) (too_large (Preidentified d) p.heading p.bytes) HoldsTermination NoPlace LengthTooLarge t.0 in
    record {
      whole = subst (λ (v : List ℕ). (cut_by d).whole v [] ≡ true) t.1 (preidentified_whole d p.heading p.bytes fits.heading none.2);
      output = ap (cut_by d).output (sym t.1) ∙ preidentified_output d p.heading p.bytes fits.heading none.2;
      some = fits.some;
    }

pub all_read_back : PacketsAreReadBack
all_read_back d [] fit = tt
all_read_back d (p ∷ packets) fit = (read_back d p fit.0, all_read_back d packets fit.1)
