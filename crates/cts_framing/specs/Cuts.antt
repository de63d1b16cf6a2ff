-- How a list of bytes falls into frames.
use Rattle.std.specs.Prelude.{◌≡◌, ℕ, ◌+◌, true, List, [], ◌∷◌, ◌++◌, length, Option}
use Rattle.cts_def.specs.declared.bad_cause.BadCause.{BadCause}
use Rattle.cts_framing.specs.Framing.{Framing, Output, Agree}

-- No frame begins at a byte of gap, however the bytes gap ++ u go on. With a sync pattern this says all that is said
-- of it: a frame begins at the leftmost occurrence of the pattern, and where none is found yet the longest suffix
-- that may become one is kept. Without a pattern it says that gap is empty.
abbrev pub NoneBegins : List ℕ → List ℕ → List ℕ → Type 0
NoneBegins sync [] u = Unit {0}
NoneBegins sync (x ∷ gap) u = (Agree sync (x ∷ (gap ++ u)) → ⊥) × NoneBegins sync gap u

-- skipped bytes, and the frame after them
pub record Part : Type 0 where
  pub gap : List ℕ
  pub frame : List ℕ

-- b is these parts, one after another, and then rest: each frame is whole, and stands at the first place where one may
abbrev pub Parts : Framing → List Part → List ℕ → List ℕ → Type 0
Parts f [] b rest = b ≡ rest
Parts f (p ∷ ps) b rest =
    (x : List ℕ) × (b ≡ p.gap ++ (p.frame ++ x)) × (f.whole p.frame x ≡ true) × NoneBegins f.sync p.gap (p.frame ++ x) × Parts f ps x rest

-- an output is put before others, unless it has no bytes
abbrev pub and_output : Output → List ℕ → List Output → List Output
and_output out [] outs = outs
and_output out (x ∷ bytes) outs = out ∷ outs

abbrev pub one_if_empty : List ℕ → ℕ
one_if_empty [] = 1
one_if_empty (x ∷ bytes) = 0

-- the outputs of the frames that have bytes
abbrev pub outputs : Framing → List Part → List Output
outputs f [] = []
outputs f (p ∷ ps) = and_output (f.output p.frame) (f.output p.frame).bytes (outputs f ps)

-- how many outputs have no bytes
abbrev pub empties : Framing → List Part → ℕ
empties f [] = 0
empties f (p ∷ ps) = one_if_empty (f.output p.frame).bytes + empties f ps

-- how many bytes lie before frames
abbrev pub gaps : List Part → ℕ
gaps [] = 0
gaps (p ∷ ps) = length p.gap + gaps ps

-- What was cut off some bytes: the outputs, how many bytes were skipped, how many outputs had no bytes, the bytes that
-- are left, and the error that stands there.
pub record Pieces : Type 0 where
  pub outs : List Output
  pub skipped : ℕ
  pub empty : ℕ
  pub rest : List ℕ
  pub bad : Option BadCause

-- Frames were cut off the bytes b, and this is left. More frames may stand there.
pub record Taken (f : Framing) (b : List ℕ) (outs : List Output) (skipped empty : ℕ) (rest : List ℕ) : Type 0 where
  pub parts : List Part
  pub gap : List ℕ
  pub cut : Parts f parts b (gap ++ rest)
  pub clear : NoneBegins f.sync gap rest
  pub outs_are : outs ≡ outputs f parts
  pub skipped_is : skipped ≡ gaps parts + length gap
  pub empty_is : empty ≡ empties f parts

-- A frame may begin at the rest, but no whole one stands there, and this error or none.
pub record Ends (f : Framing) (rest : List ℕ) (bad : Option BadCause) : Type 0 where
  pub synced : Agree f.sync rest
  pub no_frame : (w x : List ℕ) → rest ≡ w ++ x → f.whole w x ≡ true → ⊥
  pub error : f.error rest ≡ bad

-- The cut of the bytes b: all frames are cut off.
pub record IsCut (f : Framing) (b : List ℕ) (c : Pieces) : Type 0 where
  pub taken : Taken f b c.outs c.skipped c.empty c.rest
  pub ends : Ends f c.rest c.bad
