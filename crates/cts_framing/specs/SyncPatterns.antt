-- Where a sync pattern occurs in bytes, and what is kept where it does not.
use Rattle.std.specs.Prelude.{◌≡◌, ◌≤◌, ◌<◌, ◌↔◌, ℕ, ◌+◌, true, List, [], ◌∷◌, ◌++◌, length}
use Rattle.cts_framing.specs.Framing.{Framing, BeginsWith, IsSound}
use Rattle.cts_framing.specs.Cuts.{Part, outputs, empties, gaps, Pieces, IsCut}

-- the pattern s occurs in b after these bytes
abbrev pub OccursBehind : List ℕ → List ℕ → List ℕ → Type 0
OccursBehind s b before = (t : List ℕ) × (b ≡ before ++ (s ++ t))

-- the leftmost occurrence of s in b is after these bytes: none is after fewer
pub record IsLeftmost (s b before : List ℕ) : Type 0 where
  pub occurs : OccursBehind s b before
  pub first : (other : List ℕ) → OccursBehind s b other → length before ≤ length other

-- these bytes may become the pattern s: they are a prefix of it, and shorter
abbrev pub MayBecome : List ℕ → List ℕ → Type 0
MayBecome s kept = (length kept < length s) × BeginsWith kept s

-- kept is the longest suffix of b that may become s, and before is what lies before it
pub record IsLongestKept (s b before kept : List ℕ) : Type 0 where
  pub suffix : b ≡ before ++ kept
  pub may : MayBecome s kept
  pub longest : (front back : List ℕ) → b ≡ front ++ back → MayBecome s back → length back ≤ length kept

-- The end of a cut, where b is left: where the pattern occurs in b, the rest begins at its leftmost occurrence, and where it
-- does not, the rest is the longest suffix that may become the pattern. The bytes before the rest are the last gap.
pub record EndsByPattern (s b gap rest : List ℕ) : Type 0 where
  pub all : b ≡ gap ++ rest
  pub found : (before : List ℕ) → OccursBehind s b before → IsLeftmost s b gap
  pub kept : ((before : List ℕ) → OccursBehind s b before → ⊥) → IsLongestKept s b gap rest

-- Each frame is whole and begins with the pattern, at its leftmost occurrence after the frame before.
abbrev pub FollowPattern : Framing → List Part → List ℕ → List ℕ → List ℕ → Type 0
FollowPattern f [] b gap rest = EndsByPattern f.sync b gap rest
FollowPattern f (p ∷ ps) b gap rest =
    (x : List ℕ) × (b ≡ p.gap ++ (p.frame ++ x)) × (f.whole p.frame x ≡ true) × BeginsWith f.sync p.frame × IsLeftmost f.sync b p.gap
    × FollowPattern f ps x gap rest

-- The cut of b, said by the occurrences of the sync pattern. What lies before frames and before the rest is what is skipped.
pub record IsCutByPattern (f : Framing) (b : List ℕ) (c : Pieces) : Type 0 where
  pub parts : List Part
  pub gap : List ℕ
  pub frames : FollowPattern f parts b gap c.rest
  pub no_frame : (w x : List ℕ) → c.rest ≡ w ++ x → f.whole w x ≡ true → ⊥
  pub error : f.error c.rest ≡ c.bad
  pub outs : c.outs ≡ outputs f parts
  pub skipped : c.skipped ≡ gaps parts + length gap
  pub empty : c.empty ≡ empties f parts

-- that is the cut
abbrev pub CutsFollowThePattern : Type 0
CutsFollowThePattern = (f : Framing) (b : List ℕ) (c : Pieces) → IsSound f → IsCut f b c ↔ IsCutByPattern f b c

-- without a pattern nothing is skipped
abbrev pub NothingIsSkipped : Type 0
NothingIsSkipped = (f : Framing) (b : List ℕ) (c : Pieces) → f.sync ≡ [] → IsCut f b c → c.skipped ≡ 0
