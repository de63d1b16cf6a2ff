-- How many bytes are left where no more can be cut off and no error stands.
use Rattle.std.specs.Prelude.{◌<◌, ℕ, List, length, None, max, IsTrue}
use Rattle.cts_def.specs.Protocols.{SpecData, Burst, Fixed, Length, Terminated, Preidentified, is_sound_spec}
use Rattle.cts_framing.specs.Cuts.{Ends}
use Rattle.cts_framing.specs.Heads.{AreBytes}
use Rattle.cts_def.specs.Most.{frame_limit}
use Rattle.cts_framing.specs.Rows.{decided_at, framing_of}

-- A rest has fewer bytes than this: than the greatest frame, or, of FIXED, than decide, where these are more.
abbrev pub rest_limit : SpecData → ℕ
rest_limit (Burst b) = frame_limit
rest_limit (Fixed f) = max frame_limit (decided_at f)
rest_limit (Length l) = frame_limit
rest_limit (Terminated t) = frame_limit
rest_limit (Preidentified p) = frame_limit

-- with parameters that a site may give, bytes at which neither a whole frame nor an error stands are so few
abbrev pub RestsAreShort : Type 0
RestsAreShort = (s : SpecData) (rest : List ℕ) → IsTrue (is_sound_spec s) → AreBytes rest → Ends (framing_of s) rest None → length rest < rest_limit s
