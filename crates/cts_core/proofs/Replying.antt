-- What a desk replies opens and closes no connection, and ends nobody.
use Rattle.std.proofs.Common.{◌≡◌, ℕ, Bool, List, ◌++◌, None, refl, ap, ◌∙◌, inl, inr}
use Rattle.std.specs.Prelude.{◌==◌, Option, if◌then◌else◌}
use Rattle.cts_api.specs.Points.{Point}
use Rattle.cts_api.specs.Replies.{IsReply, Reply as Answer}
use Rattle.cts_api.proofs.Allowed.{MayPost}
use Rattle.cts_api.proofs.Leaving.{Leaves, of_their_desk, reply_leaves}
use Rattle.cts_def.specs.declared.time.Time.{Time}
use Rattle.cts_entry.specs.declared.entry.Entry.{Entry}
use Rattle.cts_entry.specs.declared.what.What.{What}
use Rattle.cts_entry.specs.declared.what.What.TheVariants.{Opened, Packet, Closed, Command, SetLimits, Enable, LimitsSetIs, Injected, Unrouted, Stop, Ended}
use Rattle.cts_entry.specs.Histories.{connects, connects_maker, latest}
use Rattle.cts_api.specs.Replied.{Appends}
use Rattle.cts_table.specs.States.{Shown}
use Rattle.cts_core.specs.Worlds.{Held, IsSoundHeld, held_with}
use Rattle.cts_connection.specs.Connections.{HeldConnection}
use Rattle.cts_core.proofs.Holding.{sound_more}
use Rattle.cts_core.proofs.Postings.{either_way}

posted_quiet : (h : Point) (what : What) → MayPost h what → connects what ≡ None
posted_quiet h Opened may = absurd may
posted_quiet h (Packet ident stored bytes) may = refl
posted_quiet h (Closed why loss unposted unsent) may = absurd may
posted_quiet h (Command interface command bytes) may = refl
posted_quiet h (SetLimits enabled packet item persistence set limits) may = refl
posted_quiet h (Enable packet item enabled) may = refl
posted_quiet h (LimitsSetIs set) may = refl
posted_quiet h (Injected packet bytes) may = refl
posted_quiet h (Unrouted why bytes) may = refl
posted_quiet h Stop may = refl
posted_quiet h Ended may = refl

module _ (h : Point) (by : ℕ) (time : Time) where
  left_quiet : (entries : List Entry) → Leaves h by time entries → (k : ℕ) → latest (connects_maker k) entries ≡ None
  left_quiet entries (inl none) k = ap (latest (connects_maker k)) none
  left_quiet entries (inr (what, may, is, room)) k =
      ap (latest (connects_maker k)) is ∙ (ap (λ (o : Option Bool). if by == k then o else None) (posted_quiet h what may) ∙ either_way (by == k) None)

  pub reply_quiet : (body : List ℕ) (a : Answer) → IsReply h by time body a → (k : ℕ) → latest (connects_maker k) a.entries ≡ None
  reply_quiet body a is = left_quiet a.entries (reply_leaves h by time body a is)

-- what is held stays sound when a desk has replied
pub sound_called : (w : Held) (h : Point) (by : ℕ) (time : Time) (body : List ℕ) (a : Answer) → IsReply h by time body a → IsSoundHeld w → IsSoundHeld (record w { history = w.history ++ a.entries })
sound_called w h by time body a is sound = sound_more w a.entries sound (reply_quiet h by time body a is) (of_their_desk h by time body a is).1

-- The hall stands after a reply, in which it is all that was moved.
pub held_called : (time : Time) (old new : Shown) (connections : List HeldConnection) (a : Answer) (n : ℕ) → Appends old a n new → held_with time new connections ≡ record (held_with time old connections) { history = old.entries ++ a.entries }
held_called time old new connections a n k = λ i. record { basis = k.basis i; time = time; history = k.entries i; connections = connections }
