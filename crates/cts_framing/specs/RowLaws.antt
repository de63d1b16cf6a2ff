-- Laws of the rows.
use Rattle.std.specs.Prelude.{◌≡◌, ◌≤◌, ◌↔◌, ℕ, Bool, true, false, List, ◌++◌, length, Some, IsTrue}
use Rattle.cts_def.specs.Protocols.{SpecData, is_sound_spec}
use Rattle.cts_def.specs.declared.bad_cause.BadCause.{BadCause}
use Rattle.cts_framing.specs.Errors.{IsError}
use Rattle.cts_framing.specs.Frames.{IsFrame, output_of}
use Rattle.cts_framing.specs.Framing.{IsSound}
use Rattle.cts_framing.specs.Heads.{AreBytes, HeadData, FitsHead}
use Rattle.cts_framing.specs.Layouts.{has_wrong_flags, has_laid, laid_head}
use Rattle.cts_framing.specs.Rows.{framing_of}

-- each protocol, with any parameters, is a sound framing
abbrev pub AreSound : Type 0
AreSound = (s : SpecData) → IsSound (framing_of s)

-- and what a frame gives is no longer than the frame
abbrev pub AreNoLonger : Type 0
AreNoLonger = (s : SpecData) (w : List ℕ) → length ((framing_of s).output w).bytes ≤ length w

-- with parameters that a site may give, the test of a framing passes exactly the whole frames
abbrev pub FramesAreExact : Type 0
FramesAreExact = (s : SpecData) (w x : List ℕ) → IsTrue (is_sound_spec s) → AreBytes w → ((framing_of s).whole w x ≡ true) ↔ IsFrame s w x

-- what each of them gives is its output
abbrev pub OutputsAreExact : Type 0
OutputsAreExact = (s : SpecData) (w x : List ℕ) (h : IsFrame s w x) → (framing_of s).output w ≡ output_of s w x h

-- and its error stands exactly where the description has it
abbrev pub ErrorsAreExact : Type 0
ErrorsAreExact = (s : SpecData) (u : List ℕ) (c : BadCause) → IsTrue (is_sound_spec s) → AreBytes u → ((framing_of s).error u ≡ Some c) ↔ IsError s u c

-- with flags or without, bytes hold a whole head, whose flags are right, exactly where they begin with the bytes of one
abbrev pub HeadsAreExact : Type 0
HeadsAreExact = (flagged : Bool) (u : List ℕ) → AreBytes u
    → ((has_wrong_flags flagged u ≡ false) × (has_laid flagged u ≡ true)) ↔
    ((stored : Bool) × (h : HeadData) × (x : List ℕ) × FitsHead h × (u ≡ laid_head flagged stored h ++ x))
