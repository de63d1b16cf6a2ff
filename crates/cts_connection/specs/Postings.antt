-- What a connection appends to the history.
use Rattle.std.specs.Prelude.{◌≡◌, ◌==◌, ℕ, ◌-◌, ◌≤◌, true, false, if◌then◌else◌, option_map, List, [], ◌∷◌, ◌++◌, length, Option, None, Some, Result}
use Rattle.std.specs.Prelude.{Ok, Err, IfSome}
use Rattle.cts_chain.specs.Chains.{loss_in}
use Rattle.cts_def.specs.declared.time.Time.{Time}
use Rattle.cts_entry.specs.declared.entry.Entry.{Entry}
use Rattle.cts_entry.specs.declared.what.What.TheVariants.{Opened, Closed}
use Rattle.cts_entry.specs.declared.why.Why.{Why}
use Rattle.cts_entry.specs.declared.why.Why.TheVariants.{NoMemory}
use Rattle.cts_entry.specs.Histories.{entries_in, bytes_in, is_connected, is_stopped}
use Rattle.cts_entry.specs.Legal.{AllAllowed, StopsAfter, has_ended}
use Rattle.cts_framing.specs.Framing.{Output}
use Rattle.cts_table.specs.Keeping.{rules_of, AllOfSite}
use Rattle.cts_table.specs.States.{Shown, fits}
use Rattle.cts_table.specs.declared.fault.HallFault.{HallFault}
use Rattle.cts_table.specs.declared.fault.HallFault.TheVariants.{Full, Memory}
use Rattle.cts_connection.specs.declared.end.End.{End}
use Rattle.cts_connection.specs.Connections.{HeldConnection, IsRenewed, waiting}
use Rattle.cts_connection.specs.LinePlaces.{is_line}
use Rattle.cts_connection.specs.Takings.{entries_of}

-- ---- several entries

-- these entries may be appended in order: each is allowed after those before it and is one of the site, and there is room
pub record CanAddAll (s : Shown) (es : List Entry) : Type 0 where
  pub allowed : AllAllowed (rules_of s.basis) s.entries es
  pub of_site : AllOfSite s.basis.site s.entries es
  pub entries : entries_in es ≤ s.spare_entries
  pub bytes : bytes_in es ≤ s.spare_bytes

-- the same hall with these entries more
abbrev pub added_all : Shown → List Entry → Shown
added_all s es = record s { entries = s.entries ++ es; spare_entries = s.spare_entries - entries_in es; spare_bytes = s.spare_bytes - bytes_in es }

-- these entries stand after the others, of the same site and with the same limits
pub record Grown (old : Shown) (es : List Entry) (new : Shown) : Type 0 where
  pub basis : new.basis ≡ old.basis
  pub entries : new.entries ≡ old.entries ++ es

-- Room is wanted for a number of entries and the bytes in them, and this is refused: nothing is changed. Memory may be wanting only where
-- there was room.
abbrev pub Refuses : Shown → HeldConnection → ℕ → ℕ → HallFault → Shown → HeldConnection → Type 0
Refuses s c entries bytes (Full counted size) new d =
    (fits s entries bytes ≡ false) × (counted ≡ entries_in s.entries) × (size ≡ bytes_in s.entries) × (new ≡ s) × (d ≡ c)
Refuses s c entries bytes Memory new d = (fits s entries bytes ≡ true) × (new ≡ s) × (d ≡ c)

-- ---- a connection is opened

-- a line that is not connected and has not ended, before any Stop
pub record CanOpen (s : Shown) (by : ℕ) : Type 0 where
  pub line : is_line s.basis.site by ≡ true
  pub off : is_connected by s.entries ≡ false
  pub going : is_stopped s.entries ≡ false
  pub active : has_ended by s.entries ≡ false

abbrev pub opened_entry : ℕ → Time → Entry
opened_entry by now = record { by = by; time = now; what = Opened }

-- its chain begins anew, and it has passed all that stands, of which nothing is for its peer; or there is no room
abbrev pub Opens : ℕ → Time → Shown → HeldConnection → Result (Unit {0}) HallFault → Shown → HeldConnection → Type 0
Opens by now s c (Ok done) new d =
    (fits s 1 0 ≡ true) × Grown s (opened_entry by now ∷ []) new × IsRenewed true c d × (d.cursor ≡ record { place = length new.entries; refused = 0 })
Opens by now s c (Err fault) new d = Refuses s c 1 0 fault new d

-- ---- a connection is closed

-- a line that is connected, for a reason that may stand there
pub record CanClose (s : Shown) (by : ℕ) (why : Why) : Type 0 where
  pub line : is_line s.basis.site by ≡ true
  pub on : is_connected by s.entries ≡ true
  pub stops : StopsAfter s.entries why

-- the Closed of a connection, with what its stages lose, how many packets have no entry, and how many entries for its peer are not put whole
abbrev pub closed_of : ℕ → Time → Shown → HeldConnection → Why → ℕ → Entry
closed_of by now s c why unposted = record {
  by = by;
  time = now;
  what = Closed why (loss_in c.chain.stages) unposted (waiting s.basis.site by s.entries c.cursor);
}

-- its Closed stands after the others, and its chain begins anew
pub record Closes (by : ℕ) (now : Time) (s : Shown) (c : HeldConnection) (why : Why) (unposted : ℕ) (new : Shown) (d : HeldConnection) : Type 0 where
  pub grown : Grown s (closed_of by now s c why unposted ∷ []) new
  pub renewed : IsRenewed false c d

-- ---- packets are posted

-- why a connection is to be closed after the packets of a piece, where a number of them have no entry and its chain has failed so: for want of
-- memory, where any has none, and else for the failure
abbrev pub end_of : ℕ → Option Why → Option End
end_of unposted why = if unposted == 0 then option_map (λ (w : Why). record { why = w; unposted = 0 }) why else
    Some (record { why = NoMemory; unposted = unposted })

-- these are the entries of packets of a line that is connected, and why it is to be closed, if it is
pub record CanPost (s : Shown) (by : ℕ) (now : Time) (entries : List Entry) (end : Option End) : Type 0 where
  pub line : is_line s.basis.site by ≡ true
  pub on : is_connected by s.entries ≡ true
  pub packets : List Output
  pub entries_are : entries ≡ entries_of s.basis.site s.entries by now packets
  pub stops : IfSome end (λ e. StopsAfter s.entries e.why)

-- a connection is closed, or stays as it is
abbrev pub Ends : ℕ → Time → Shown → HeldConnection → Option End → Shown → HeldConnection → Type 0
Ends by now s c None new d = (new ≡ s) × (d ≡ c)
Ends by now s c (Some end) new d = Closes by now s c end.why end.unposted new d

-- All of these entries stand after the others, and the connection is closed then, if it is to be; or there is no room for them.
abbrev pub Posts : ℕ → Time → Shown → HeldConnection → List Entry → Option End → Result (Unit {0}) HallFault → Shown → HeldConnection → Type 0
Posts by now s c entries end (Ok done) new d =
    (fits s (entries_in entries) (bytes_in entries) ≡ true) × ((mid : Shown) × Grown s entries mid × Ends by now mid c end new d)
Posts by now s c entries end (Err fault) new d = Refuses s c (entries_in entries) (bytes_in entries) fault new d
