-- The framing of each protocol is sound.
use Rattle.std.proofs.Common.{ℕ, ◌-◌, ◌≤◌, Bool, true, false, cond, List, [], ◌∷◌, length, map, filter, take, drop, arith}
use Rattle.std.proofs.lemmas.List.{length-drop, length-take}
use Rattle.cts_framing.specs.Layouts.{has_flags, laid_end}
use Rattle.cts_framing.specs.RowLaws.{AreNoLonger}
use Rattle.cts_def.specs.Protocols.{SpecData, Burst, Fixed, Length, Terminated, Preidentified, UseData, reads}
use Rattle.cts_framing.specs.Chains.{use_framing, uses_at}
use Rattle.cts_framing.specs.Framing.{IsSound}
use Rattle.cts_framing.specs.Laws.{AllSound}
use Rattle.cts_framing.specs.ChainLaws.{ChainsAreSound}
use Rattle.cts_framing.specs.Rows.{stripped, framing_of, length_states, terminated_states, fixed_states, preidentified_states}
use Rattle.cts_framing.proofs.Steady.{stating_is_sound}
use Rattle.cts_framing.proofs.BurstSound.{burst_is_sound}
use Rattle.cts_framing.proofs.FixedSteady.{fixed_steady}
use Rattle.cts_framing.proofs.LengthSteady.{length_steady}
use Rattle.cts_framing.proofs.TerminatedSteady.{terminated_steady}
use Rattle.cts_framing.proofs.PreidentifiedSteady.{preidentified_steady}

pub is_sound : (s : SpecData) → IsSound (framing_of s)
is_sound (Burst b) = burst_is_sound b
is_sound (Fixed f) = stating_is_sound f.sync (fixed_states f) _ (fixed_steady f)
is_sound (Length l) = stating_is_sound l.sync (length_states l) _ (length_steady l)
is_sound (Terminated t) = stating_is_sound t.sync (terminated_states t) _ (terminated_steady t)
is_sound (Preidentified p) = stating_is_sound p.sync (preidentified_states p) _ (preidentified_steady p)

-- ---- what a frame gives is no longer

drop_short : (n : ℕ) (w : List ℕ) → length (drop n w) ≤ length w
drop_short n w = omega (arith, length-drop n w)

strip_short : (b : Bool) (n : ℕ) (w : List ℕ) → length (cond b (take n w) w) ≤ length w
strip_short true n w = omega (arith, length-take n w)
strip_short false n w = omega arith

pub are_no_longer : AreNoLonger
are_no_longer (Burst b) w = drop_short b.discard w
are_no_longer (Fixed f) w = drop_short f.discard w
are_no_longer (Length l) w = drop_short l.discard w
are_no_longer (Terminated t) w = omega (arith, drop_short t.discard (stripped t w), strip_short t.strip (length w - length t.read) w)
are_no_longer (Preidentified p) w = omega (arith, drop_short (laid_end (has_flags p.layout) (drop (length p.sync) w)) (drop (length p.sync) w), drop_short (length p.sync) w)

-- ---- chains

pub all_sound : (uses : List UseData) → AllSound (map use_framing uses)
all_sound [] = tt
all_sound (u ∷ uses) = (is_sound u.spec, all_sound uses)

pub chains_are_sound : ChainsAreSound
chains_are_sound site by = all_sound (filter reads (uses_at site by))
