-- The ground of a turn over a hall.
use Rattle.cts_table.specs.States.{Shown}
use Rattle.cts_table.specs.declared.basis.Basis.{Basis}
use Rattle.cts_turn.specs.declared.turn.Turn.{Turn}
use Rattle.cts_turn.specs.Passes.{basis_of}

-- the site and the limits that a turn's hall has, whoever holds the turn
abbrev pub ground : Turn Shown Basis → Basis
ground t = basis_of (λ (h : Shown). h.basis) t
