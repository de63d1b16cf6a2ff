-- Worked examples of what a history says of connections: of a script, of a running line, and what neither may say.
use Rattle.std.specs.Prelude.{ℕ, suc, ◌==◌, true, false, List, [], ◌∷◌, length, Option, Some, None}
use Rattle.cts_def.specs.declared.ident.Ident.TheVariants.{Known}
use Rattle.cts_def.specs.Protocols.{Length}
use Rattle.cts_entry.specs.declared.entry.Entry.{Entry}
use Rattle.cts_entry.specs.declared.what.What.{What}
use Rattle.cts_entry.specs.declared.what.What.TheVariants.{Opened, Packet, Closed, Command, Unrouted, Stop}
use Rattle.cts_entry.specs.declared.what.NotSent.TheVariants.{NotConnected}
use Rattle.cts_entry.specs.declared.why.Why.{Why}
use Rattle.cts_entry.specs.declared.why.Why.TheVariants.{PeerEnded, WriteFault, Stopped, Full}
use Rattle.cts_framing.specs.Rows.{framing_of}
use Rattle.cts_framing.specs.WorkedCuts.{length_at}
use Rattle.cts_outside.specs.Lines.{Connection, fresh, no_connections}
use Rattle.cts_trace.specs.Routing.{Routing}
use Rattle.cts_trace.specs.Connections.{Stay, Talks}
use Rattle.cts_entry.specs.Room.{Capacity}
use Rattle.cts_trace.specs.Lines.{Looked}
use Rattle.cts_trace.specs.Told.{ToldBy}

-- a spelling has a byte 0 before the bytes, and no bytes have none
abbrev pub spelled_so : List ℕ → Option (List ℕ)
spelled_so [] = None
spelled_so (b ∷ bytes) = Some (0 ∷ b ∷ bytes)

-- An interface 0 and a slot 8, both with frames that begin with their length in a byte. Every packet of the interface goes to
-- the slot, and every command is for the interface.
abbrev pub example : Routing
example = record {
  is_interface = λ by. by == 0;
  chain = λ by. framing_of (Length (length_at 0 8 [])) ∷ [];
  ident = λ by output. Known 0;
  interface_of = λ command. Some 0;
  routes = λ slot interface. true;
  packet_names = λ ident. ([], []);
  command_names = λ command. ([], []);
  spelling = λ by heading bytes. spelled_so bytes;
}

abbrev pub entry : ℕ → What → Entry
entry by what = record { by = by; time = record { seconds = 100; micros = 250000 }; what = what }

abbrev pub opened : ℕ → Entry
opened by = entry by Opened

abbrev pub packet : List ℕ → Entry
packet bytes = entry 0 (Packet (Known 0) false bytes)

-- a command for the interface, by a desk
abbrev pub command : List ℕ → Entry
command bytes = entry 24 (Command 0 0 bytes)

-- `held` bytes were in no frame, `unposted` packets were not posted, and `unsent` entries of the queue were not put whole
abbrev pub closed : ℕ → Why → ℕ → ℕ → ℕ → Entry
closed by why held unposted unsent = entry by (Closed why (record { held = held ∷ 0 ∷ 0 ∷ 0 ∷ []; skipped = 0; empty = 0 }) unposted unsent)

abbrev pub stop : Entry
stop = entry 24 Stop

-- what a link told: the pieces, the bytes, one take that answered End
abbrev pub ended_after : List (List ℕ) → List ℕ → Connection
ended_after pieces put = record { pieces = pieces; put = put; takes = suc (length pieces); ended = true; take_failed = false; put_failed = false }

-- a history of at most this number of entries
abbrev pub most : ℕ → Capacity
most entries = record { entries = entries; bytes = 1000 }

pub record WorkedTold : Type 0 where
  -- two commands, of which the first one is put
  pub unsent : Stay example 0 [] [] (0 ∷ 7 ∷ []) (opened 0 ∷ command (7 ∷ []) ∷ command (8 ∷ []) ∷ closed 0 PeerEnded 0 0 1 ∷ [])
  -- a command whose spelling is refused is passed over, and counts as unsent
  pub refused : Stay example 0 [] [] (0 ∷ 8 ∷ []) (opened 0 ∷ command [] ∷ command (8 ∷ []) ∷ closed 0 PeerEnded 0 0 1 ∷ [])
  -- a packet in two pieces, and a byte after it that is in none
  pub held : Stay example 0 [] ((3 ∷ 17 ∷ []) ∷ (34 ∷ 5 ∷ []) ∷ []) [] (opened 0 ∷ packet (3 ∷ 17 ∷ 34 ∷ []) ∷ closed 0 PeerEnded 1 0 0 ∷ [])
  -- the same while it stands
  pub stands : Talks example 0 [] ((3 ∷ 17 ∷ []) ∷ (34 ∷ 5 ∷ []) ∷ []) [] (opened 0 ∷ packet (3 ∷ 17 ∷ 34 ∷ []) ∷ [])
  -- what a slot takes is a command where the interface is connected, and else is not sent on
  pub routed : Stay example 8 (opened 0 ∷ []) ((2 ∷ 1 ∷ []) ∷ []) [] (opened 8 ∷ entry 8 (Command 0 0 (2 ∷ 1 ∷ [])) ∷ closed 8 PeerEnded 0 0 0 ∷ [])
  pub unrouted : Stay example 8 [] ((2 ∷ 1 ∷ []) ∷ []) [] (opened 8 ∷ entry 8 (Unrouted NotConnected (2 ∷ 1 ∷ [])) ∷ closed 8 PeerEnded 0 0 0 ∷ [])
  -- a line looks before each take, and puts what it saw: its holds began at the places 0, 2 and 2
  pub looked : Looked example (most 9) 0 (0 ∷ 2 ∷ 2 ∷ []) [] (ended_after [] (0 ∷ 7 ∷ [])) (opened 0 ∷ command (7 ∷ []) ∷ closed 0 PeerEnded 0 0 0 ∷ [])
  -- a put that failed after one byte of a spelling: the command counts as unsent
  pub write_fault : Looked example (most 9) 0 (0 ∷ 2 ∷ 2 ∷ []) []
      (record { pieces = []; put = 0 ∷ []; takes = 0; ended = false; take_failed = false; put_failed = true })
      (opened 0 ∷ command (7 ∷ []) ∷ closed 0 WriteFault 0 0 1 ∷ [])
  -- it looked before the Stop, and once more; the command after the Stop is unsent
  pub stopped : Looked example (most 9) 0 (0 ∷ 1 ∷ 2 ∷ 3 ∷ []) []
      (record { pieces = []; put = []; takes = 1; ended = false; take_failed = false; put_failed = false })
      (opened 0 ∷ stop ∷ command (7 ∷ []) ∷ closed 0 Stopped 0 0 1 ∷ [])
  -- the packet finds no room after the one entry that the history may hold
  pub full : Looked example (most 1) 0 (0 ∷ 1 ∷ 1 ∷ 1 ∷ []) []
      (record { pieces = (2 ∷ 1 ∷ []) ∷ []; put = []; takes = 1; ended = false; take_failed = false; put_failed = false })
      (opened 0 ∷ closed 0 Full 0 1 0 ∷ [])
  -- a connection that was made when a Stop stood has no entry
  pub unopened : ToldBy example (most 9) 0 (0 ∷ []) (stop ∷ []) (Some (record no_connections { past = fresh ∷ [] }))
  -- one that was made when none stood has one
  pub not_unopened : ToldBy example (most 9) 0 (0 ∷ []) [] (Some (record no_connections { past = fresh ∷ [] })) → ⊥
  -- a line that takes without a look tells nothing that may be
  pub not_looked : Looked example (most 9) 0 (0 ∷ 1 ∷ []) [] (ended_after [] []) (opened 0 ∷ closed 0 PeerEnded 0 0 0 ∷ []) → ⊥
  -- nor one that goes on after a take that failed
  pub not_passed_over : Looked example (most 9) 0 (0 ∷ 1 ∷ 1 ∷ 1 ∷ []) []
      (record { pieces = []; put = []; takes = 2; ended = true; take_failed = true; put_failed = false })
      (opened 0 ∷ closed 0 PeerEnded 0 0 0 ∷ []) → ⊥
  -- nor one that looks four times once a Stop stands
  pub not_soon : Looked example (most 9) 0 (0 ∷ 2 ∷ 2 ∷ 2 ∷ 2 ∷ []) []
      (record { pieces = []; put = []; takes = 2; ended = false; take_failed = false; put_failed = false })
      (opened 0 ∷ stop ∷ closed 0 Stopped 0 0 0 ∷ []) → ⊥
  -- nor one that leaves a packet for want of room that there was
  pub not_full : Looked example (most 2) 0 (0 ∷ 1 ∷ 1 ∷ 1 ∷ []) []
      (record { pieces = (2 ∷ 1 ∷ []) ∷ []; put = []; takes = 1; ended = false; take_failed = false; put_failed = false })
      (opened 0 ∷ closed 0 Full 0 1 0 ∷ []) → ⊥
