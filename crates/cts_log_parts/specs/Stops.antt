-- What a stop of the program or of the system leaves of the parts of a log, and what is read of it.
use Rattle.std.specs.Prelude.{◌≡◌, ◌<◌, ◌≤◌, ℕ, ◌-◌, Bool, List, [], ◌∷◌, ◌++◌, length, take}
use Rattle.cts_log.specs.Files.{log_file, log_head, log_head_len}
use Rattle.cts_log.specs.Laws.{whole_within}
use Rattle.cts_log.specs.Logged.{Logged}
use Rattle.cts_log.specs.Reading.{HasNoHead, IsLogRead}
use Rattle.cts_log.specs.declared.kind.LogKind.{LogKind}
use Rattle.cts_outside.specs.Vaults.{Part}
use Rattle.cts_log_parts.specs.Grouping.{StartsWith}

-- all but the last are synced
abbrev pub AreClosed : List Part → Type 0
AreClosed [] = Unit {0}
AreClosed (p ∷ []) = Unit {0}
AreClosed (p ∷ q ∷ ps) = (p.synced ≡ p.bytes) × AreClosed (q ∷ ps)

-- a part to which nothing was appended
abbrev pub no_part : Part
no_part = record { bytes = []; synced = [] }

-- of a part a stop leaves a beginning of its bytes, which has all that were synced
abbrev pub IsPartLeft : Part → List ℕ → Type 0
IsPartLeft p file = StartsWith p.bytes file × StartsWith file p.synced

-- a stop leaves a file of each part; of a last one without bytes it may leave none
abbrev pub AreLeft : List Part → List (List ℕ) → Type 0
AreLeft [] [] = Unit {0}
AreLeft [] (f ∷ fs) = ⊥
AreLeft (p ∷ []) [] = p ≡ no_part
AreLeft (p ∷ q ∷ ps) [] = ⊥
AreLeft (p ∷ ps) (f ∷ fs) = IsPartLeft p f × AreLeft ps fs

-- ---- reading

-- the entries that lie whole in the files, where each of these has the entries of a part, as far as it goes
abbrev pub read_of : Bool → List (List Logged) → List (List ℕ) → List Logged
read_of fl [] files = []
read_of fl (g ∷ gs) [] = []
read_of fl (g ∷ gs) (f ∷ fs) = whole_within fl (length f - log_head_len) g ++ read_of fl gs fs

-- A whole part: it is read as its entries up to its end, and its head is the head that all parts have.
pub record IsPartRead (kind : LogKind) (fl : Bool) (digest : List ℕ) (file : List ℕ) (es : List Logged) : Type 0 where
  pub read : IsLogRead file kind fl es (length file)
  pub head : take log_head_len file ≡ log_head kind fl digest

-- The last one may be cut: with the whole head it is read as the entries that lie whole in it, up to the place after them; with less it is
-- no log, and nothing is read.
pub record IsLastRead (kind : LogKind) (fl : Bool) (digest : List ℕ) (file : List ℕ) (es : List Logged) : Type 0 where
  pub read : log_head_len ≤ length file → IsLogRead file kind fl es (length (log_file kind fl digest es)) × (take log_head_len file ≡ log_head kind fl digest)
  pub none : length file < log_head_len → HasNoHead file × (es ≡ [])

-- the files are read so, one after the other
abbrev pub AreRead : LogKind → Bool → List ℕ → List (List ℕ) → List (List Logged) → Type 0
AreRead kind fl digest [] [] = Unit {0}
AreRead kind fl digest [] (es ∷ ess) = ⊥
AreRead kind fl digest (f ∷ fs) [] = ⊥
AreRead kind fl digest (f ∷ []) (es ∷ []) = IsLastRead kind fl digest f es
AreRead kind fl digest (f ∷ []) (es ∷ ds ∷ ess) = ⊥
AreRead kind fl digest (f ∷ g ∷ fs) (es ∷ ess) = IsPartRead kind fl digest f es × AreRead kind fl digest (g ∷ fs) ess
