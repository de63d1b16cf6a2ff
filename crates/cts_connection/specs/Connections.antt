-- The connection of a line: whether it stands, the chain of its protocols, and what it has passed of the history.
use Rattle.std.specs.Prelude.{◌≡◌, ◌<◌, ◌≤◌, ℕ, ◌+◌, Bool, false, List, [], ◌∷◌, drop, take, length, slice_index_or, Option, None, MatchOption}
use Rattle.cts_chain.specs.Chains.{Renewed}
use Rattle.cts_chain.specs.Shapes.{ChainData, IsIdle, IsSameChain}
use Rattle.cts_def.specs.Sites.{SiteData}
use Rattle.cts_entry.specs.declared.entry.Entry.{Entry}
use Rattle.cts_framing.specs.Packets.{capped}
use Rattle.cts_trace.specs.Routing.{queue, walk}
use Rattle.cts_connection.specs.Routings.{site_routing}

-- the place in the history up to which a connection has passed the entries, and how many of those that it passed and that were for its
-- peer were refused
pub record HeldCursor : Type 0 where
  pub place : ℕ
  pub refused : ℕ

-- whether a connection stands, the chain of its protocols, and what it has passed of the history
pub record HeldConnection : Type 0 where
  pub connected : Bool
  pub chain : ChainData
  pub cursor : HeldCursor

-- a connection that does not stand
abbrev pub shut : ChainData → HeldConnection
shut chain = record { connected = false; chain = chain; cursor = record { place = 0; refused = 0 } }

-- the chain of no line
abbrev pub no_chain : ChainData
no_chain = record { stages = []; beside = []; parts = []; lent = []; place = record { start = 0; end = 0; stamp = None } }

-- the connection at this place, and one that does not stand where there is no such place
abbrev pub connection_at : List HeldConnection → ℕ → HeldConnection
connection_at connections place = slice_index_or connections place (shut no_chain)

abbrev pub AllIdle : List ChainData → Type 0
AllIdle [] = Unit {0}
AllIdle (c ∷ cs) = IsIdle c × AllIdle cs

-- the chain of a connection begins anew, and the connection stands or not
pub record IsRenewed (connected : Bool) (old new : HeldConnection) : Type 0 where
  pub connected_is : new.connected ≡ connected
  pub renewed : Renewed old.chain.stages new.chain.stages
  pub same : IsSameChain old.chain new.chain

-- ---- what it has not passed

-- the entries that a connection has not passed
abbrev pub entries_ahead : HeldConnection → List Entry → List Entry
entries_ahead c history = drop c.cursor.place history

-- how many entries for its peer a line has not put whole: those that were refused, and those that it has not passed
abbrev pub waiting : SiteData → ℕ → List Entry → HeldCursor → ℕ
waiting site by history cursor = capped (cursor.refused + length (queue (site_routing site) by (drop cursor.place history)))

-- How many of these entries hold the next `count` of those through which a line goes; none where there are fewer of them.
abbrev pub HoldsNext : SiteData → ℕ → List Entry → ℕ → Option ℕ → Type 0
HoldsNext site by entries count next =
    MatchOption next (length (walk (site_routing site) by entries) < count)
    (λ n. (n ≤ length entries) × (length (walk (site_routing site) by (take n entries)) ≡ count))
