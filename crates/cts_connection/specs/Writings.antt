-- What a line puts of the history: the spellings of the next entries for its peer, one after the other.
use Rattle.std.specs.Prelude.{◌≡◌, ℕ, ◌+◌, cond, List, ◌++◌, take, Option}
use Rattle.cts_chain.specs.Shapes.{writers}
use Rattle.cts_chain.specs.Writing.{chain_spelling}
use Rattle.cts_def.specs.Protocols.{SpecData}
use Rattle.cts_def.specs.Sites.{SiteData}
use Rattle.cts_entry.specs.declared.entry.Entry.{Entry}
use Rattle.cts_entry.specs.Histories.{bytes_of, stored_of}
use Rattle.cts_entry.specs.Queues.{bytes_or_none, is_refused, refused, spelled}
use Rattle.cts_trace.specs.Routing.{heading_of, names_in, queue}
use Rattle.cts_connection.specs.Connections.{HeldConnection, entries_ahead}
use Rattle.cts_connection.specs.Routings.{site_routing}

-- the spelling of an entry by these protocols, the last one first
abbrev pub spell_by : SiteData → List SpecData → Entry → Option (List ℕ)
spell_by site specs e = chain_spelling specs (heading_of (names_in (site_routing site) e.what) (stored_of e.what) e.time) (bytes_of e.what)

-- a spelling was put after old bytes, or it was refused and counts one
pub record PutsOne (spelling : Option (List ℕ)) (old new : List ℕ) (count : ℕ) : Type 0 where
  pub bytes : new ≡ old ++ bytes_or_none spelling
  pub count_is : count ≡ cond (is_refused spelling) 1 0

-- what of these entries is for a line's peer was put after old bytes, and how many of it were refused
pub record Puts (site : SiteData) (specs : List SpecData) (by : ℕ) (entries : List Entry) (old new : List ℕ) (count : ℕ) : Type 0 where
  pub bytes : new ≡ old ++ spelled (spell_by site specs) (queue (site_routing site) by entries)
  pub count_is : count ≡ refused (spell_by site specs) (queue (site_routing site) by entries)

-- A connection has put what is for its peer among the next entries of a history, and has passed these.
pub record Wrote (site : SiteData) (by : ℕ) (old : HeldConnection) (history : List Entry) (next : ℕ) (bytes : List ℕ) (new : HeldConnection) : Type 0 where
  pub bytes_are : bytes ≡ spelled (spell_by site (writers old.chain)) (queue (site_routing site) by (take next (entries_ahead old history)))
  pub new_is : new ≡ record old {
    cursor = record {
      place = old.cursor.place + next;
      refused = old.cursor.refused + refused (spell_by site (writers old.chain))
          (queue (site_routing site) by (take next (entries_ahead old history)));
    };
  }
