-- What a stage has given so far of the pieces that came to it, for framings that cut all bytes and for those that cut each
-- piece for itself.
use Rattle.std.specs.Prelude.{◌≡◌, ◌⊎◌, ℕ, ◌+◌, List, [], ◌∷◌, ◌++◌, Option}
use Rattle.cts_def.specs.declared.bad_cause.BadCause.{BadCause}
use Rattle.cts_framing.specs.Framing.{Framing, Output, IsSound}
use Rattle.cts_framing.specs.Cuts.{Pieces, Taken, Ends}
use Rattle.cts_framing.specs.Packets.{CutEach, IsStage}

-- these are the pieces done and then a last one, or no last one, which is then empty
abbrev pub EndsWith : List (List ℕ) → List (List ℕ) → List ℕ → Type 0
EndsWith pieces done last = (pieces ≡ done ++ last ∷ []) ⊎ ((pieces ≡ done) × (last ≡ []))

-- So far these outputs were given of these pieces, so much was skipped and so many outputs were empty, and this is
-- pending: all pieces but the last are cut, each after the rest of the one before it, and the others were taken of the
-- last one after their rest.
pub record TakenSoFar (f : Framing) (pieces : List (List ℕ)) (given : List Output) (skipped empty : ℕ) (pending : List ℕ) : Type 0 where
  pub done : List (List ℕ)
  pub last : List ℕ
  pub pieces_are : EndsWith pieces done last
  pub before : Pieces
  pub each : CutEach f [] done before
  pub outs : List Output
  pub more_skipped : ℕ
  pub more_empty : ℕ
  pub taken : Taken f (before.rest ++ last) outs more_skipped more_empty pending
  pub given_are : given ≡ before.outs ++ outs
  pub skipped_is : skipped ≡ before.skipped + more_skipped
  pub empty_is : empty ≡ before.empty + more_empty

-- of no pieces nothing was given
abbrev pub NothingSoFar : Type 0
NothingSoFar = (f : Framing) → IsSound f → TakenSoFar f [] [] 0 0 []

-- what is taken of what is pending is given then
abbrev pub MoreIsTaken : Type 0
MoreIsTaken = (f : Framing) (pieces : List (List ℕ)) (given outs : List Output) (skipped empty more_skipped more_empty : ℕ) (pending rest : List ℕ)
    → TakenSoFar f pieces given skipped empty pending → Taken f pending outs more_skipped more_empty rest
    → TakenSoFar f pieces (given ++ outs) (skipped + more_skipped) (empty + more_empty) rest

-- where all that could be given was given, the next piece goes after what is pending
abbrev pub PieceComes : Type 0
PieceComes = (f : Framing) (pieces : List (List ℕ)) (given : List Output) (skipped empty : ℕ) (pending piece : List ℕ) (bad : Option BadCause) → IsSound f
    → TakenSoFar f pieces given skipped empty pending → Ends f pending bad → TakenSoFar f (pieces ++ piece ∷ []) given skipped empty (pending ++ piece)

-- and it is the stage's cut of these pieces
abbrev pub AllIsTaken : Type 0
AllIsTaken = (f : Framing) (pieces : List (List ℕ)) (given : List Output) (skipped empty : ℕ) (pending : List ℕ) (bad : Option BadCause) → IsSound f
    → TakenSoFar f pieces given skipped empty pending → Ends f pending bad
    → IsStage f pieces (record { outs = given; skipped = skipped; empty = empty; rest = pending; bad = bad })
