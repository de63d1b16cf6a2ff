-- What a running core puts of its history.
use Rattle.std.specs.Prelude.{◌≡◌, ◌≤◌, ℕ, Bool, true, false, ◌&&◌, nat_le, List, length, take, Result, Ok, Err}
use Rattle.cts_entry.specs.declared.entry.Entry.{Entry}
use Rattle.cts_connection.specs.Connections.{HeldConnection, entries_ahead}
use Rattle.cts_connection.specs.Routings.{site_routing}
use Rattle.cts_connection.specs.Writings.{Wrote}
use Rattle.cts_core.specs.Worlds.{Held, IsUnmoved, connection_of, with_connection}
use Rattle.cts_core.specs.declared.fault.WorldFault.{WorldFault}
use Rattle.cts_core.specs.declared.fault.WorldFault.TheVariants.{NotEnabled, Full, Memory}
use Rattle.cts_trace.specs.Routing.{walk}

-- the entries that a line's connection has not passed
abbrev pub ahead_in : Held → ℕ → List Entry
ahead_in w by = entries_ahead (connection_of w by) w.history

-- the entries among these through which a maker of the site that is held goes
abbrev pub walk_in : Held → ℕ → List Entry → List Entry
walk_in w by entries = walk (site_routing w.basis.site) by entries

-- a line is connected, and `count` of the entries through which it goes stand ahead
abbrev pub can_pass : Held → ℕ → ℕ → Bool
can_pass w by count = (connection_of w by).connected && nat_le count (length (walk_in w by (ahead_in w by)))

-- the next `count` entries through which a line goes are those among the next `next` entries
pub record IsNext (w : Held) (by count next : ℕ) : Type 0 where
  pub enabled : can_pass w by count ≡ true
  pub within : next ≤ length (ahead_in w by)
  pub count_is : length (walk_in w by (take next (ahead_in w by))) ≡ count

-- the connection of a line has put what is for its peer among its next `next` entries
abbrev pub PutsNext : ℕ → Held → ℕ → List ℕ → Held → Type 0
PutsNext by w next bytes new = (c : HeldConnection) × Wrote w.basis.site by (connection_of w by) w.history next bytes c × (new ≡ with_connection by w c)

-- a line passes the next `count` entries through which it goes, and puts what of them is for its peer; or nothing is done
abbrev pub Puts : ℕ → Held → ℕ → Result (List ℕ) WorldFault → Held → Type 0
Puts by w count (Ok bytes) new = (next : ℕ) × IsNext w by count next × PutsNext by w next bytes new
Puts by w count (Err NotEnabled) new = (can_pass w by count ≡ false) × (new ≡ w)
Puts by w count (Err (Full entries bytes)) new = ⊥
Puts by w count (Err Memory) new = (can_pass w by count ≡ true) × IsUnmoved w new
