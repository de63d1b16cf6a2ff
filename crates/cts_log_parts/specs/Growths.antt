-- What entries give to a log in parts, and how it is told by their bytes and the places among these where new parts begin.
use Rattle.std.specs.Prelude.{◌≤◌, ℕ, ◌&&◌, Bool, nat_lt, if◌then◌else◌, List, [], ◌∷◌, ◌++◌, drop, map, slice_range, Option}
use Rattle.std.specs.List.{flat_map}
use Rattle.cts_log.specs.Cycling.{CycleData, begins_part, cycle_with}
use Rattle.cts_log.specs.Files.{log_head}
use Rattle.cts_log.specs.Logged.{Logged, entry_bytes}
use Rattle.cts_log.specs.declared.kind.LogKind.{LogKind}
use Rattle.cts_log_parts.specs.Grouping.{grouped, joined}
use Rattle.cts_log_parts.specs.Parts.{entry_len}

-- Of groups the first comes to the part so far, and each other one to a new part, after its head.
abbrev pub growth_of : {E : Type 0} → List ℕ → (E → List ℕ) → List (List E) → List (List ℕ)
growth_of head bytes [] = []
growth_of head bytes (g ∷ gs) = flat_map bytes g ∷ map (λ x. head ++ flat_map bytes x) gs

-- one entry more, which begins a new part or does not
abbrev pub with_entry : List ℕ → Bool → List ℕ → List (List ℕ) → List (List ℕ)
with_entry head begins entry growth = if begins then growth ++ (head ++ entry) ∷ [] else joined growth (entry ∷ [])

-- what entries give after a part of this size
abbrev pub given : LogKind → Bool → List ℕ → Option ℕ → ℕ → List Logged → List (List ℕ)
given kind fl digest cycle size es = growth_of (log_head kind fl digest) (entry_bytes fl) (grouped (entry_len fl) cycle size es)

-- ---- cuts

-- places among bytes at which new parts begin, and how many bytes there are
pub record CutsData : Type 0 where
  pub places : List ℕ
  pub end : ℕ

-- the places do not fall, and none lies after the end
abbrev pub DoNotFall : ℕ → List ℕ → ℕ → Type 0
DoNotFall from [] end = from ≤ end
DoNotFall from (c ∷ cs) end = (from ≤ c) × DoNotFall c cs end

-- the pieces of bytes between places, from one place on
abbrev pub pieces_from : ℕ → List ℕ → List ℕ → List (List ℕ)
pieces_from from [] bytes = drop from bytes ∷ []
pieces_from from (c ∷ cs) bytes = slice_range bytes from c ∷ pieces_from c cs bytes

-- each piece but the first after a head
abbrev pub headed : List ℕ → List (List ℕ) → List (List ℕ)
headed head [] = []
headed head (p ∷ ps) = p ∷ map (λ x. head ++ x) ps

-- what bytes that are cut at these places give
abbrev pub cut_growth : List ℕ → List ℕ → List ℕ → List (List ℕ)
cut_growth head places bytes = headed head (pieces_from 0 places bytes)

-- ---- one entry more, of this length; of an entry that gives nothing it is 0

abbrev pub begins_entry : CycleData → ℕ → Bool
begins_entry c n = nat_lt 0 n && begins_part c.limit c.size n

abbrev pub cycle_after : CycleData → ℕ → CycleData
cycle_after c n = if nat_lt 0 n then cycle_with c n else c

abbrev pub cut_with : Bool → ℕ → CutsData → CutsData
cut_with begins end c = record { places = if begins then c.places ++ c.end ∷ [] else c.places; end = end }
