-- What a line does to the hall in one hold.
use Rattle.std.specs.Prelude.{◌≡◌, ◌≢◌, ℕ, ◌+◌, ◌≤◌, ◌⊎◌, true, false}
use Rattle.std.specs.Prelude.{List, [], ◌∷◌, length, Option, None, Some}
use Rattle.cts_chain.specs.Chains.{Reserved}
use Rattle.cts_chain.specs.Shapes.{IsSameChain}
use Rattle.cts_def.specs.declared.time.Time.{Time}
use Rattle.cts_entry.specs.declared.entry.Entry.{Entry}
use Rattle.cts_entry.specs.declared.what.What.TheVariants.{Stop}
use Rattle.cts_entry.specs.declared.why.Why.{Why}
use Rattle.cts_entry.specs.declared.why.Why.TheVariants.{Full, NoMemory}
use Rattle.cts_entry.specs.Histories.{entries_in, bytes_in, is_stopped}
use Rattle.cts_framing.specs.Packets.{capped}
use Rattle.cts_table.specs.States.{Shown, fits}
use Rattle.cts_table.specs.declared.fault.HallFault.{HallFault}
use Rattle.cts_table.specs.declared.fault.HallFault.TheVariants.{Full as Crowded, Memory as Wanting}
use Rattle.cts_worker.specs.Lasts.{entry_of}
use Rattle.cts_connection.specs.declared.end.End.{End}
use Rattle.cts_connection.specs.Connections.{HeldConnection, IsRenewed}
use Rattle.cts_connection.specs.Postings.{Closes, Grown, end_of, opened_entry}
use Rattle.cts_connection.specs.Takings.{TakesPiece}
use Rattle.cts_line.specs.declared.opening.Opening.{Opening}
use Rattle.cts_line.specs.declared.opening.Opening.TheVariants.{Opened, Stopped, Full as NoRoom, NoMemory as NoMemoryThere}
use Rattle.cts_line.specs.declared.posting.Posting.{Posting}
use Rattle.cts_line.specs.declared.posting.Posting.TheVariants.{Posted, Closed}

-- ---- the Opened

-- The connection is opened; or a Stop stands, perhaps since there was no room or no memory for the Opened.
abbrev pub OpensIn : ℕ → Time → Shown → HeldConnection → Opening → Shown → HeldConnection → Type 0
OpensIn by time s c Opened t d =
    Grown s (opened_entry by time ∷ []) t × IsRenewed true c d × (d.cursor ≡ record { place = length t.entries; refused = 0 })
OpensIn by time s c Stopped t d = (t ≡ s) × (d ≡ c) × (is_stopped s.entries ≡ true)
OpensIn by time s c NoRoom t d = Grown s (entry_of by time Stop ∷ []) t × (d ≡ c) × (s.basis.entries ≤ entries_in s.entries)
OpensIn by time s c NoMemoryThere t d = Grown s (entry_of by time Stop ∷ []) t × (d ≡ c)

-- ---- a piece

-- why a connection is closed whose packets a hall refused
abbrev pub refused_for : HallFault → Why
refused_for (Crowded entries bytes) = Full
refused_for Wanting = NoMemory

-- There is no room for the entries of some packets, or no memory.
abbrev pub IsRefused : Shown → List Entry → Why → Type 0
IsRefused s entries why = ((why ≡ Full) × (entries ≢ []) × (fits s (length entries) (bytes_in entries) ≡ false)) ⊎ (why ≡ NoMemory)

-- A connection is closed for this reason after the packets of a piece that have entries, which are posted; or with none of them posted.
abbrev pub ClosesTaken : ℕ → Time → Shown → HeldConnection → List Entry → ℕ → Option Why → Why → Shown → HeldConnection → Type 0
ClosesTaken by time s c entries unposted failed why t d =
    ((end : End) × (end_of unposted failed ≡ Some end) × (why ≡ end.why) × ((h : Shown) × Grown s entries h × Closes by time h c why end.unposted t d))
    ⊎ (IsRefused s entries why × Closes by time s c why (capped (unposted + length entries)) t d)

-- Packets that were taken of a piece are posted, and the connection is closed then, if it has to be.
abbrev pub PostsTaken : ℕ → Time → Shown → HeldConnection → List Entry → ℕ → Option Why → Posting → Shown → HeldConnection → Type 0
PostsTaken by time s c entries unposted failed (Posted some) t d = (end_of unposted failed ≡ None) × Grown s entries t × (d ≡ c)
PostsTaken by time s c entries unposted failed (Closed why) t d = ClosesTaken by time s c entries unposted failed why t d

-- the answer where all of the packets that have entries are posted
abbrev pub IsPosted : Option End → Posting → Type 0
IsPosted end (Posted some) = end ≡ None
IsPosted end (Closed why) = (e : End) × (end ≡ Some e) × (why ≡ e.why)

-- What one hold makes of a piece that was fed.
pub record PostsFed (by : ℕ) (time : Time) (s : Shown) (c : HeldConnection) (piece : List ℕ) (posting : Posting) (t : Shown)
    (d : HeldConnection) : Type 0 where
  pub entries : List Entry
  pub unposted : ℕ
  pub failed : Option Why
  pub mid : HeldConnection
  pub takes : TakesPiece s.basis.site s.entries by time c.chain piece entries unposted failed mid.chain
  pub cursor : mid.cursor ≡ c.cursor
  pub posts : PostsTaken by time s mid entries unposted failed posting t d

-- There was no memory to feed a piece, and the connection is closed.
pub record ClosesUnfed (by : ℕ) (time : Time) (s : Shown) (c : HeldConnection) (posting : Posting) (t : Shown) (d : HeldConnection) : Type 0 where
  pub mid : HeldConnection
  pub reserved : Reserved c.chain.stages mid.chain.stages
  pub same : IsSameChain c.chain mid.chain
  pub cursor : mid.cursor ≡ c.cursor
  pub closed : posting ≡ Closed NoMemory
  pub closes : Closes by time s mid NoMemory 0 t d

-- What one hold makes of a piece.
abbrev pub PostsIn : ℕ → Time → Shown → HeldConnection → List ℕ → Posting → Shown → HeldConnection → Type 0
PostsIn by time s c piece posting t d = PostsFed by time s c piece posting t d ⊎ ClosesUnfed by time s c posting t d
