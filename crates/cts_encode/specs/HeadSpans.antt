-- What is read of a head.
use Rattle.std.specs.Prelude.{◌≡◌, ℕ, ◌+◌, Bool, true, false, List, Option, Some, None}
use Rattle.cts_framing.specs.Heads.{target_end, packet_end}
use Rattle.cts_framing.specs.Layouts.{flag_len, flags_at, after_flags, has_laid, laid_of, laid_end}
use Rattle.cts_encode.specs.declared.head.Head.{Head}

-- What was read is the head at the beginning of the bytes u, with its flags, where there are any, or 0. The names are told by where
-- they stand: the target's after its length, and the packet's after its own.
pub record IsHead (flagged : Bool) (u : List ℕ) (h : Head) : Type 0 where
  pub whole : has_laid flagged u ≡ true
  pub time : h.time ≡ (laid_of flagged u).time
  pub flags : h.flags ≡ flags_at flagged u
  pub target : h.target ≡ (flag_len flagged + 9, flag_len flagged + target_end (after_flags flagged u))
  pub packet : h.packet ≡ (flag_len flagged + (target_end (after_flags flagged u) + 1), flag_len flagged + packet_end (after_flags flagged u))
  pub begin : h.begin ≡ laid_end flagged u
  pub count : h.count ≡ (laid_of flagged u).count

-- nothing was read exactly where no whole head stands there
abbrev pub ReadsHead : Bool → List ℕ → Option Head → Type 0
ReadsHead flagged u None = has_laid flagged u ≡ false
ReadsHead flagged u (Some h) = IsHead flagged u h
