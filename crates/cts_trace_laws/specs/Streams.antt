-- Spellings that stand one after another in a stream, and what the first bytes of the stream hold of them.
use Rattle.std.specs.Prelude.{◌≡◌, ◌≢◌, ◌<◌, ℕ, true, not, List, [], ◌∷◌, ◌++◌, length, Option, Some, None}
use Rattle.std.specs.List.{AllByRecursion, filter, flat_map}
use Rattle.cts_entry.specs.Queues.{bytes_or_none, is_refused}
use Rattle.cts_framing.specs.Framing.{BeginsWith, Framing, Output}
use Rattle.cts_framing.specs.Cuts.{Pieces}

-- the spellings of these elements, one after another; an element that is refused is passed over
abbrev pub stream : {X : Type 0} → (X → Option (List ℕ)) → List X → List ℕ
stream spell xs = flat_map (λ x. bytes_or_none (spell x)) xs

-- the elements that are not refused
abbrev pub spoken : {X : Type 0} → (X → Option (List ℕ)) → List X → List X
spoken spell xs = filter (λ x. not (is_refused (spell x))) xs

-- the first bytes of a spelling, and not all of them
abbrev pub IsPart : List ℕ → Option (List ℕ) → Type 0
IsPart rest None = ⊥
IsPart rest (Some w) = (length rest < length w) × BeginsWith rest w

-- no bytes where nothing comes next, and else a part of what comes
abbrev pub IsPartOfNext : {X : Type 0} → (X → Option (List ℕ)) → List X → List ℕ → Type 0
IsPartOfNext spell [] rest = rest ≡ []
IsPartOfNext spell (x ∷ xs) rest = IsPart rest (spell x)

-- The bytes at the beginning of a stream hold the spellings of its first elements whole, and then a rest that is part of the next one.
pub record Holds {X : Type 0} (spell : X → Option (List ℕ)) (xs : List X) (bytes : List ℕ) (whole : List X) (rest : List ℕ) : Type 0 where
  pub later : List X
  pub all : spoken spell xs ≡ whole ++ later
  pub bytes_are : bytes ≡ stream spell whole ++ rest
  pub part : IsPartOfNext spell later rest

-- the bytes are one whole frame, which gives this, and that has bytes
pub record IsReadAs (f : Framing) (w : List ℕ) (out : Output) : Type 0 where
  pub whole : f.whole w [] ≡ true
  pub output : f.output w ≡ out
  pub some : out.bytes ≢ []

-- the spelling of an element, where it has one, is read as this
abbrev pub IsReadBack : {X : Type 0} → Framing → (X → Option (List ℕ)) → (X → Output) → X → Type 0
IsReadBack f spell out x = (w : List ℕ) → spell x ≡ Some w → IsReadAs f w (out x)

abbrev pub AreReadBack : {X : Type 0} → Framing → (X → Option (List ℕ)) → (X → Output) → List X → Type 0
AreReadBack f spell out xs = AllByRecursion (IsReadBack f spell out) xs

-- what is cut where nothing is skipped, no output is without bytes and no error stands
abbrev pub clean : List Output → List ℕ → Pieces
clean outs rest = record { outs = outs; skipped = 0; empty = 0; rest = rest; bad = None }
