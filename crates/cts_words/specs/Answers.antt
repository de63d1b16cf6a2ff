-- What a call answers, where memory may run out.
use Rattle.std.specs.Prelude.{◌≡◌, Result, Ok, Err}
use Rattle.cts_words.specs.declared.fault.WordFault.{WordFault}
use Rattle.cts_words.specs.declared.fault.WordFault.TheVariants.{OpenQuote, DanglingJoin, NotText, Memory}

abbrev pub IsRefused : {Y : Type 0} → WordFault → Result Y WordFault → Type 0
IsRefused Memory said = Unit {0}
IsRefused (OpenQuote n) said = said ≡ Err (OpenQuote n)
IsRefused (DanglingJoin n) said = said ≡ Err (DanglingJoin n)
IsRefused (NotText n) said = said ≡ Err (NotText n)

-- The answer, seen by `view`, is what is to be said, unless memory ran out.
abbrev pub Gives : {X Y : Type 0} → (X → Y) → Result X WordFault → Result Y WordFault → Type 0
Gives view (Ok x) said = said ≡ Ok (view x)
Gives view (Err e) said = IsRefused e said

-- P holds, unless memory ran out.
abbrev pub UnlessMemory : {X : Type 0} → Result X WordFault → Type 0 → Type 0
UnlessMemory (Ok x) P = P
UnlessMemory (Err Memory) P = Unit {0}
UnlessMemory (Err (OpenQuote n)) P = P
UnlessMemory (Err (DanglingJoin n)) P = P
UnlessMemory (Err (NotText n)) P = P
