-- Dialers that were not used yet stand in their places.
use Rattle.std.proofs.Common.{ℕ, List, [], ◌∷◌, Option, Some, None}
use Rattle.std.specs.List.{AllByRecursion}
use Rattle.cts_net.specs.Devices.{AreUnused, IsUnused}
use Rattle.cts_outside.specs.Seen.{LineSeen}
use Rattle.cts_server.specs.Places.{AreThere, IsThere}

module _ {X : Type 0} (seen : X → LineSeen) where
  all_there : (places : List (Option X)) → AllByRecursion (IsUnused seen) places → AllByRecursion IsThere places
  all_there [] all = tt
  all_there (Some x ∷ places) all = (tt, all_there places all.1)
  all_there (None ∷ places) all = absurd all.0

  pub there : (n : ℕ) (places : List (Option X)) → AreUnused seen n places → AreThere n places
  there n places are = (are.0, all_there places are.1)
