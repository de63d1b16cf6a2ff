-- Events that are enabled by their form, whatever the core does.
use Rattle.std.specs.Prelude.{◌≡◌, ℕ, ◌==◌, ◌≤◌, Bool, true, false, if◌then◌else◌, List, [], ◌∷◌, length, Option, Some, None}
use Rattle.cts_entry.specs.declared.event.Event.{Event}
use Rattle.cts_entry.specs.declared.event.Event.TheVariants.{SetTime, Opens, Piece, Finish, Write, Call, DrainLog, DrainSlot, Stop}
use Rattle.cts_entry.specs.declared.why.Why.TheVariants.{PeerEnded}
use Rattle.cts_rehearsal.specs.Generated.{generated, order}

-- who is connected where this maker is, or is not
abbrev pub turned : ℕ → Bool → (ℕ → Bool) → ℕ → Bool
turned by on connected k = if k == by then on else connected k

-- a request sends the command with a duration that the definitions allow
pub record SendsCommand (request : Option (List ℕ)) : Type 0 where
  pub duration : ℕ
  pub allowed : duration ≤ 10
  pub body : request ≡ Some (order duration)

-- One event after the other, by who is connected and what the event before it asked for: a maker is opened that is not connected, a
-- piece of 1 to 65,536 bytes comes on a connection that stands, a connection that stands is closed by its peer, interface 0 writes one
-- command directly after a client sent it, and desk 0 is asked. No other event is among them.
abbrev pub Walks : (ℕ → Bool) → Option (List ℕ) → List Event → Type 0
Walks connected request [] = Unit {0}
Walks connected request (SetTime time ∷ events) = ⊥
Walks connected request (Opens by ∷ events) = (connected by ≡ false) × Walks (turned by true connected) None events
Walks connected request (Piece by piece ∷ events) = (connected by ≡ true) × (1 ≤ length piece) × (length piece ≤ 65536) × Walks connected None events
Walks connected request (Finish by why ∷ events) = (connected by ≡ true) × (why ≡ PeerEnded) × Walks (turned by false connected) None events
Walks connected request (Write by count ∷ events) = (connected by ≡ true) × (by ≡ 0) × (count ≡ 1) × SendsCommand request × Walks connected None events
Walks connected request (Call desk body ∷ events) = (desk ≡ 0) × Walks connected (Some body) events
Walks connected request (DrainLog count ∷ events) = ⊥
Walks connected request (DrainSlot by count ∷ events) = ⊥
Walks connected request (Stop ∷ events) = ⊥

-- each rehearsal is such a list, in a server in which nobody is connected
abbrev pub RehearsalsWalk : Type 0
RehearsalsWalk = (n : ℕ) → Walks (λ k. false) None (generated n)
