-- What readers of statements answer.
use Rattle.std.specs.Prelude.{◌≡◌, ℕ, List, ◌∷◌, [], ◌++◌, Option, Some, None, Result, Ok, Err}
use Rattle.cts_reader.specs.declared.fault.Fault.{Fault}
use Rattle.cts_reader.specs.declared.fault.Fault.TheVariants as fault
use Rattle.cts_words.specs.declared.statement.Statement.{Statement}
use Rattle.cts_words.specs.Refusals.{Refusal, first_refusal, NoneRefused, IsRefusedFirst}

-- the cause of a statement that begins at this line, with the line
abbrev pub at_line : {C : Type 0} → ℕ → Option C → Option (Refusal C)
at_line line None = None
at_line line (Some cause) = Some (line, cause)

-- ---- answers

-- there is this refusal, unless memory ran out
abbrev pub IsRefused : {C : Type 0} → Fault C → Option (Refusal C) → Type 0
IsRefused fault.Memory refusal = Unit {0}
IsRefused (fault.Refused line cause) refusal = refusal ≡ Some (line, cause)

-- What was judged is not refused, or is refused so.
abbrev pub Settles : {C X : Type 0} → Result X (Fault C) → Option (Refusal C) → Type 0
Settles (Ok x) refusal = refusal ≡ None
Settles (Err e) refusal = IsRefused e refusal

-- What is not refused says this line, and what is refused is so.
abbrev pub Judged : {C L : Type 0} → Option (Refusal C) → Option L → Result L (Fault C) → Type 0
Judged refusal said (Ok line) = (refusal ≡ None) × (said ≡ Some line)
Judged refusal said (Err e) = IsRefused e refusal

-- what is to be said is this refusal, unless memory ran out
abbrev pub Fails : {C Y : Type 0} → Fault C → Result Y (Refusal C) → Type 0
Fails fault.Memory said = Unit {0}
Fails (fault.Refused line cause) said = said ≡ Err (line, cause)

-- What was answered is what is to be said, unless memory ran out.
abbrev pub Gives : {C Y : Type 0} → Result Y (Fault C) → Result Y (Refusal C) → Type 0
Gives (Ok y) said = said ≡ Ok y
Gives (Err e) said = Fails e said

-- ---- one pass

-- A statement that is not refused after some others is added to what stands for these, and one that is refused is so.
abbrev pub TakesBehind : {C : Type 0} → (List Statement → Statement → Option (Refusal C)) → (List Statement → Type 0) → List Statement → Statement
    → Result Unit (Fault C) → Type 0
TakesBehind at stands before s (Ok u) = (at before s ≡ None) × stands (before ++ s ∷ [])
TakesBehind at stands before s (Err e) = IsRefused e (at before s)

abbrev pub Takes : {C : Type 0} → (List Statement → Statement → Option (Refusal C)) → (List Statement → Type 0) → (List Statement → Type 0)
    → Statement → Result Unit (Fault C) → Type 0
Takes at stood stands s result = (before : List Statement) → stood before → TakesBehind at stands before s result

-- All statements are read where none is refused, and else the first one that is refused is so.
abbrev pub Reads : {C : Type 0} → (List Statement → Statement → Option (Refusal C)) → (List Statement → Type 0) → List Statement
    → Result Unit (Fault C) → Type 0
Reads at stands all (Ok u) = NoneRefused at all × stands all
Reads at stands all (Err fault.Memory) = Unit {0}
Reads at stands all (Err (fault.Refused line cause)) = IsRefusedFirst at all (line, cause)

-- ---- what statements say

-- what they say, or why nothing
abbrev pub unless_refused : {C X : Type 0} → X → Option (Refusal C) → Result X (Refusal C)
unless_refused said None = Ok said
unless_refused said (Some r) = Err r

-- What the statements say, or the first refusal: of a statement after those before it, or at the end of all.
abbrev pub said_of : {C X : Type 0} → (List Statement → Statement → Option (Refusal C)) → (List Statement → Option (Refusal C)) → (List Statement → X)
    → List Statement → Result X (Refusal C)
said_of at end says all = unless_refused (says all) (first_refusal at end [] all)
