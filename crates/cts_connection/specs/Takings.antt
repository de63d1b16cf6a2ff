-- What a line's chain makes of a piece: the entries of its packets, how many packets have none, and why the connection has to be closed.
use Rattle.std.specs.Prelude.{◌≡◌, ℕ, Bool, List, [], ◌∷◌, ◌++◌, length, Option, None, Some}
use Rattle.cts_chain.specs.Chains.{StagesStand, AllSettled, last_fault}
use Rattle.cts_chain.specs.Shapes.{ChainData, IsSameChain}
use Rattle.cts_def.specs.Sites.{SiteData}
use Rattle.cts_def.specs.declared.ident.Ident.{Ident}
use Rattle.cts_def.specs.declared.time.Time.{Time}
use Rattle.cts_entry.specs.declared.entry.Entry.{Entry}
use Rattle.cts_entry.specs.declared.what.What.{What}
use Rattle.cts_entry.specs.declared.why.Why.{Why}
use Rattle.cts_entry.specs.declared.why.Why.TheVariants.{BadFrame}
use Rattle.cts_framing.specs.Framing.{Output, plain, is_stored}
use Rattle.cts_framing.specs.Packets.{Fault, capped}
use Rattle.cts_trace.specs.Routing.{posted_entries, said_of}
use Rattle.cts_connection.specs.Routings.{ident_of, site_routing}

-- why a connection is closed whose chain has failed so
abbrev pub blamed : Option Fault → Option Why
blamed None = None
blamed (Some fault) = Some (BadFrame fault.stage fault.cause)

-- this is said of each output that has this definition, that was stored or not, and that has these bytes
abbrev pub SaysOf : SiteData → List Entry → ℕ → Ident → Bool → List ℕ → What → Type 0
SaysOf site history by ident stored bytes what = (o : Output) → ident_of site by o ≡ ident → is_stored o.heading ≡ stored → o.bytes ≡ bytes
    → what ≡ said_of (site_routing site) history by o

-- the entries of these packets of a line, all said of the history as it stands
abbrev pub entries_of : SiteData → List Entry → ℕ → Time → List Output → List Entry
entries_of site history by now packets = posted_entries (site_routing site) history now by packets

-- A chain gave up a number of packets, and then no more: so it closes its connection, or not.
pub record GivesUp (old : ChainData) (unposted : ℕ) (why : Option Why) (new : ChainData) : Type 0 where
  pub lost : List Output
  pub stands : (ins given : List Output) → StagesStand old.stages ins given → StagesStand new.stages ins (given ++ lost)
  pub settled : AllSettled new.stages
  pub same : IsSameChain old new
  pub count : unposted ≡ capped (length lost)
  pub why_is : why ≡ blamed (last_fault 1 new.stages)

-- A chain gave packets, of which these are the entries after some others, and then a number of packets for which no memory was found, and then no
-- more: so it closes its connection, or not.
pub record Gathers (site : SiteData) (history : List Entry) (by : ℕ) (now : Time) (old : ChainData) (before entries : List Entry) (unposted : ℕ)
    (why : Option Why) (new : ChainData) : Type 0 where
  pub packets : List Output
  pub lost : List Output
  pub stands : (ins given : List Output) → StagesStand old.stages ins given → StagesStand new.stages ins (given ++ (packets ++ lost))
  pub settled : AllSettled new.stages
  pub same : IsSameChain old new
  pub entries_are : entries ≡ before ++ entries_of site history by now packets
  pub count : unposted ≡ capped (length lost)
  pub why_is : why ≡ blamed (last_fault 1 new.stages)

-- A chain was fed a piece. Of the packets that it gave then, these are the entries of the first ones; so many others, for which no memory
-- was found, have none.
pub record TakesPiece (site : SiteData) (history : List Entry) (by : ℕ) (now : Time) (old : ChainData) (piece : List ℕ) (entries : List Entry)
    (unposted : ℕ) (why : Option Why) (new : ChainData) : Type 0 where
  pub packets : List Output
  pub lost : List Output
  pub stands : (ins given : List Output) → StagesStand old.stages ins given → StagesStand new.stages (ins ++ plain piece ∷ []) (given ++ (packets ++ lost))
  pub settled : AllSettled new.stages
  pub same : IsSameChain old new
  pub entries_are : entries ≡ entries_of site history by now packets
  pub count : unposted ≡ capped (length lost)
  pub why_is : why ≡ blamed (last_fault 1 new.stages)
