-- What the workers of a site owe at their ends, over the one history.
use Rattle.std.specs.Prelude.{ℕ, List, Option, Some, None}
use Rattle.cts_def.specs.Makers.{scribe}
use Rattle.cts_def.specs.Sites.{SiteData}
use Rattle.cts_server.specs.Desks.{DeskRule, OwesDesk}
use Rattle.cts_server.specs.Lines.{OwesLine}
use Rattle.cts_server.specs.Scribes.{OwesScribe}
use Rattle.cts_entry.specs.Legal.{most_bytes, most_entries}
use Rattle.cts_entry.specs.declared.entry.Entry.{Entry}
use Rattle.cts_line.specs.declared.ending.LineWhy.{LineWhy}
use Rattle.cts_outside.specs.Seen.{LineSeen, VaultSeen}
use Rattle.cts_outside.specs.declared.link.Aim.{Aim}
use Rattle.cts_scribe.specs.declared.ending.ScribeWhy.{ScribeWhy}
use Rattle.cts_table.specs.declared.basis.Basis.{Basis}
use Rattle.cts_server.specs.Aims.{aimed_at}
use Rattle.cts_server.specs.declared.worked.DeskNote.{DeskNote}

-- a site, and the limits of a server's history
abbrev pub server_basis : SiteData → Basis
server_basis site = record { site = site; entries = most_entries; bytes = most_bytes }

module _ {X : Type 0} (seen : X → LineSeen) (site : SiteData) (history : List Entry) where
  -- a line: its dialer was aimed, and what the line owes holds of what the dialer showed then and shows now
  abbrev pub LineOwes : ℕ → Aim → X → X → LineWhy → Type 0
  LineOwes by aim before now why = (found : List ℕ) × (connections : ℕ) × OwesLine (server_basis site) by found history (aimed_at aim (seen before))
      (seen now) connections why

  -- a desk, where this is what it owes: the same of its door
  abbrev pub DeskDid : DeskRule → ℕ → Aim → X → X → DeskNote → Type 0
  DeskDid rule by aim before now note = (found : List ℕ) × rule (server_basis site) by found history (aimed_at aim (seen before)) (seen now) note

  -- a desk that reads in holds of the turn
  abbrev pub DeskOwes : ℕ → Aim → X → X → DeskNote → Type 0
  DeskOwes by aim before now note = (found : List ℕ) × OwesDesk (server_basis site) by found history (aimed_at aim (seen before))
      (seen now) note.fronts note.why

module _ {V : Type 0} (seen : V → VaultSeen) (site : SiteData) (digest : List ℕ) (history : List Entry) where
  -- the scribe, whose vault stands in its place again
  abbrev pub ScribeOwes : Option V → Option V → ScribeWhy → Type 0
  ScribeOwes (Some before) (Some now) why = (cursor : ℕ) × OwesScribe site digest scribe history (seen before) (seen now) cursor why
  ScribeOwes (Some before) None why = ⊥
  ScribeOwes None now why = ⊥
