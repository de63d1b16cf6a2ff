-- Places for the events of the entries for which there is room.
use Rattle.std.proofs.Common.{◌≡◌, ◌∷◌, [], ℕ, zero, suc, ◌+◌, ◌-◌, ◌*◌, ◌≤◌, List, length, subst, arith, Some, max}
use Rattle.std.specs.Prelude.{slice_get}
use Rattle.cts_def.specs.Packets.{PacketData}
use Rattle.cts_monitor.specs.Widest.{widest_of}

pub within_widest : (ps : List PacketData) (q : ℕ) (p : PacketData) → slice_get ps q ≡ Some p → length p.items ≤ widest_of ps
within_widest [] q p is = (cc)
within_widest (x ∷ ps) zero p is = let same : x ≡ p = cc in subst (λ (y : PacketData). length y.items ≤ max (length x.items) (widest_of ps)) same (omega arith)
within_widest (x ∷ ps) (suc q) p is = let rest = within_widest ps q p is in omega (arith, rest)

-- an entry of n events uses up one of the entries for which there is room
pub places_left : (w s free n : ℕ) → n ≤ w → w * (s + 1) ≤ free → w * s ≤ free - n
places_left w s free n le room = omega (arith, le, room)
