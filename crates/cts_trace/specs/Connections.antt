-- What entries say of one connection of an interface or a slot.
use Rattle.std.specs.Prelude.{◌≡◌, ℕ, Bool, true, false, List, [], ◌∷◌, ◌++◌, length, Option, Some, None, ◌⊎◌}
use Rattle.cts_def.specs.declared.time.Time.{Time}
use Rattle.cts_entry.specs.declared.entry.Entry.{Entry}
use Rattle.cts_entry.specs.declared.what.What.{What}
use Rattle.cts_entry.specs.declared.what.What.TheVariants.{Opened, Closed}
use Rattle.cts_entry.specs.declared.why.Why.{Why}
use Rattle.cts_entry.specs.declared.why.Why.TheVariants.{PeerEnded, ReadFault, WriteFault, BadFrame, Stopped, NoMemory, Full}
use Rattle.cts_entry.specs.Places.{Posts}
use Rattle.cts_entry.specs.Queues.{spelled, unsent_of}
use Rattle.cts_framing.specs.Framing.{Framing, Heading, Output}
use Rattle.cts_framing.specs.Cuts.{Pieces}
use Rattle.cts_framing.specs.Packets.{IsPackets, Fault, fault_of, capped, loss_of}
use Rattle.cts_trace.specs.Routing.{Routing, spell, queue, said_of}

pub record Says (by : ℕ) (e : Entry) (what : What) : Type 0 where
  pub maker : e.by ≡ by
  pub what_is : e.what ≡ what

-- an entry has the time that its packet brings along; else it may have any
abbrev pub HasTime : Option Heading → Time → Type 0
HasTime (Some heading) time = time ≡ heading.time
HasTime None time = Unit {0}

-- an entry shows an output of a maker's chain, after the entries of before
abbrev pub Shows : Routing → ℕ → List Entry → Entry → Output → Type 0
Shows g m before e o = (e.what ≡ said_of g before m o) × HasTime o.heading e.time

-- The entries between a maker's Opened, the last one of before, and its Closed, or the end, carry its connection: they
-- show the packets of the pieces that were fed to its chain, but for the last ones, which are left; and its queue there
-- is this much that was done, and the rest.
pub record Carries (g : Routing) (m : ℕ) (before : List Entry) (fed : List (List ℕ)) (left : List Output) (done rest between : List Entry) : Type 0 where
  pub cuts : List Pieces
  pub posted : List Output
  pub packets : IsPackets (g.chain m) fed cuts (posted ++ left)
  pub posts : Posts m (Shows g m) before between posted
  pub queue_is : queue g m between ≡ done ++ rest

-- A connection that stands: all packets of its pieces are posted, no stage of its chain has failed, and the spellings of what is
-- done of its queue are put.
pub record Talks (g : Routing) (m : ℕ) (before : List Entry) (pieces : List (List ℕ)) (bytes : List ℕ) (entries : List Entry) : Type 0 where
  pub opened : Entry
  pub between : List Entry
  pub entries_are : entries ≡ opened ∷ between
  pub opens : Says m opened Opened
  pub done : List Entry
  pub rest : List Entry
  pub carries : Carries g m (before ++ opened ∷ []) pieces [] done rest between
  pub sound : fault_of carries.cuts ≡ None
  pub put : bytes ≡ spelled (spell g m) done

-- all pieces are fed; for want of memory perhaps not the last one
abbrev pub Fed : Why → List (List ℕ) → List (List ℕ) → Type 0
Fed why pieces fed = (fed ≡ pieces) ⊎ ((why ≡ NoMemory) × ((last : List ℕ) × (pieces ≡ fed ++ last ∷ [])))

-- all packets are posted; or, where room wants, none of the last piece, and where memory wants perhaps not its last ones
abbrev pub Left : Routing → ℕ → Why → List (List ℕ) → List Output → List Output → Type 0
Left g m why fed posted left =
    (left ≡ []) ⊎ ((earlier : List (List ℕ)) × (last : List ℕ) × (cuts : List Pieces) × (given more : List Output)
    × (fed ≡ earlier ++ last ∷ []) × IsPackets (g.chain m) earlier cuts given × (posted ≡ given ++ more)
    × (((why ≡ Full) × (more ≡ [])) ⊎ (why ≡ NoMemory)))

-- spellings are put whole; at a write fault perhaps a beginning of the next one follows
abbrev pub Tail : (Entry → Option (List ℕ)) → Why → List Entry → List ℕ → Type 0
Tail spell why rest tail =
    (tail ≡ []) ⊎ ((why ≡ WriteFault) × ((next : Entry) × (later : List Entry) × (more : List ℕ) × (rest ≡ next ∷ later) × (spell next ≡ Some (tail ++ more))))

abbrev pub is_bad_frame : Why → Bool
is_bad_frame PeerEnded = false
is_bad_frame ReadFault = false
is_bad_frame WriteFault = false
is_bad_frame (BadFrame stage cause) = true
is_bad_frame Stopped = false
is_bad_frame NoMemory = false
is_bad_frame Full = false

-- the error of a chain is why its connection is closed, unless room or memory wants; where there is none no frame is bad
abbrev pub Blames : Option Fault → Why → Type 0
Blames (Some fault) why = (why ≡ BadFrame fault.stage fault.cause) ⊎ ((why ≡ Full) ⊎ (why ≡ NoMemory))
Blames None why = is_bad_frame why ≡ false

-- no piece came to a chain once a stage of it had failed: before the last piece none had
abbrev pub NoneLate : List Framing → List (List ℕ) → Type 0
NoneLate chain pieces = (earlier : List (List ℕ)) (last : List ℕ) (cuts : List Pieces) (given : List Output) → pieces ≡ earlier ++ last ∷ []
    → IsPackets chain earlier cuts given → fault_of cuts ≡ None

-- A connection that ended: its Closed says what its chain gave to no packet, how many packets were not posted, and how many
-- entries of its queue were not put whole.
pub record Stay (g : Routing) (m : ℕ) (before : List Entry) (pieces : List (List ℕ)) (bytes : List ℕ) (entries : List Entry) : Type 0 where
  pub opened : Entry
  pub between : List Entry
  pub closed : Entry
  pub entries_are : entries ≡ opened ∷ (between ++ closed ∷ [])
  pub opens : Says m opened Opened
  pub why : Why
  pub fed : List (List ℕ)
  pub left : List Output
  pub done : List Entry
  pub rest : List Entry
  pub tail : List ℕ
  pub carries : Carries g m (before ++ opened ∷ []) fed left done rest between
  pub blames : Blames (fault_of carries.cuts) why
  pub late : NoneLate (g.chain m) pieces
  pub fed_is : Fed why pieces fed
  pub left_is : Left g m why fed carries.posted left
  pub put : bytes ≡ spelled (spell g m) done ++ tail
  pub tail_is : Tail (spell g m) why rest tail
  pub closes : Says m closed (Closed why (loss_of carries.cuts) (capped (length left)) (capped (unsent_of (spell g m) done rest)))
