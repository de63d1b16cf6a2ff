-- What a desk owes goes on to hold when others append.
use Rattle.std.proofs.Common.{◌≡◌, ℕ, Bool, true, List, [], ◌∷◌, ◌++◌, ◌∙◌, ap, refl, append-nil, append_assoc, inl, inr, Option, Some, None}
use Rattle.cts_desk.specs.Ending.{stops_all}
use Rattle.cts_desk.specs.Exchanges.{Exchange, Exchanges}
use Rattle.cts_desk.specs.Streams.{Cut, PeerEnded, ReadFault, WriteFault, LastAsked, Refused, NoMemory, Stopped as StoppedCut}
use Rattle.cts_desk.specs.Told.{MayEnd, Serves, Settled, Told, past_of}
use Rattle.cts_desk.specs.declared.ending.DeskWhy.{DeskWhy}
use Rattle.cts_entry.specs.declared.entry.Entry.{Entry}
use Rattle.cts_entry.specs.Histories.{is_stopped}
use Rattle.cts_outside.specs.Lines.{Connection, Line, hung_up, told_after}
use Rattle.cts_outside.specs.Seen.{LineSeen}
use Rattle.cts_server.specs.Lasting.{Lasts}
use Rattle.cts_table.specs.declared.basis.Basis.{Basis}
use Rattle.cts_trace.specs.Makers.{of_maker}
use Rattle.cts_trace.proofs.Looking.{stop_kept}
use Rattle.cts_trace.proofs.Others.{nothing_own, of_maker_append}
use Rattle.cts_worker.specs.Lasts.{last_entries}
use Rattle.cts_server.specs.Desks.{DeskLasts, OwesDesk, RanDesk, ReadsInHolds}
use Rattle.cts_server.specs.OwnLaws.{last_more, lasts_by, look_more, unstarted_more}

-- ---- the exchanges

-- entries of others may follow
exchanges_more : (b : Basis) (by : ℕ) (before : List Entry) (xs : List Exchange) (last rest more : List Entry) → of_maker by more ≡ []
    → Exchanges b by before xs last rest → Exchanges b by before xs last (rest ++ more)
exchanges_more b by before [] last rest more none e = of_maker_append by rest more
    ∙ (ap (λ (l : List Entry). of_maker by rest ++ l) none ∙ (append-nil (of_maker by rest) ∙ e))
exchanges_more b by before (x ∷ xs) last rest more none (gap, added, later, rest_is, strange, front, answered, others) = (
  gap,
  added,
  later ++ more,
  ap (λ (l : List Entry). l ++ more) rest_is ∙ (append_assoc gap (added ++ later) more ∙ ap (λ (l : List Entry). gap ++ l) (append_assoc added later more)),
  strange,
  front,
  answered,
  exchanges_more b by (before ++ (gap ++ added)) xs last later more none others,
)

-- ---- a Stop may come to stand

cut_more : (stop more : Bool) (cut : Cut) (later : List Connection) → (stop ≡ true → more ≡ true) → MayEnd stop cut later → MayEnd more cut later
cut_more stop more PeerEnded later f m = tt
cut_more stop more ReadFault later f m = tt
cut_more stop more WriteFault later f m = tt
cut_more stop more LastAsked later f m = tt
cut_more stop more (Refused status) later f m = tt
cut_more stop more NoMemory later f m = tt
cut_more stop more StoppedCut later f m = (f m.0, m.1)

serves_more : (stop more : Bool) (earlier : List Exchange) (cs : List Connection) (xs : List Exchange) → (stop ≡ true → more ≡ true)
    → Serves stop earlier cs xs → Serves more earlier cs xs
serves_more stop more earlier [] xs f s = s
serves_more stop more earlier (c ∷ cs) xs f (first, rest, cut, are, served, may, others) =
    (first, rest, cut, are, served, cut_more stop more cut cs f may, serves_more stop more (earlier ++ first) cs rest f others)

settled_more : (stop more : Bool) (was : List Connection) (xs : List Exchange) (told : Option Line) → (stop ≡ true → more ≡ true)
    → Settled stop was xs told → Settled more was xs told
settled_more stop more was xs None f s = tt
settled_more stop more was xs (Some line) f s = (s.0, s.1, s.2, serves_more stop more [] s.1 xs f s.3)

-- ---- what a desk owes

module _ (basis : Basis) (by : ℕ) (found : List ℕ) (old new : LineSeen) (fronts : List ℕ) (why : DeskWhy) where
  told_more : (seen more last : List Entry) (was : List Connection) (told : Option Line) → of_maker by (seen ++ more) ≡ of_maker by seen
      → Told basis by fronts found seen last was told → Told basis by fronts found (seen ++ more) last was told
  told_more seen more last was told own t = record {
    exchanges = t.exchanges;
    fronts_are = t.fronts_are;
    among = t.among;
    stand = exchanges_more basis by [] t.exchanges last seen more (nothing_own by (seen ++ more) seen more refl own) t.stand;
    settled = settled_more (is_stopped seen) (is_stopped (seen ++ more)) was t.exchanges told (λ h. stop_kept seen more h) t.settled;
  }

  ran_more : (seen more : List Entry) → of_maker by (seen ++ more) ≡ of_maker by seen → RanDesk basis by found seen old new fronts why
      → RanDesk basis by found (seen ++ more) old new fronts why
  ran_more seen more own r = record {
    seen = r.seen;
    look = look_more by r.seen seen more own r.look;
    ends = r.ends;
    stands = told_more seen more (last_entries (stops_all why) by r.ends.time r.ends.before) (past_of (told_after hung_up old.told)) new.told own r.stands;
    ended = last_more by seen more own r.ended;
    cause = r.cause;
    failed = r.failed;
    stops = r.stops;
    faults = r.faults;
    aim = r.aim;
    idle = r.idle;
  }

  owes_more : (seen more : List Entry) → of_maker by (seen ++ more) ≡ of_maker by seen → OwesDesk basis by found seen old new fronts why
      → OwesDesk basis by found (seen ++ more) old new fronts why
  owes_more seen more own o = elim o [
    | inl r ↦ inl (ran_more seen more own r)
    | inr u ↦ inr (record { unstarted = unstarted_more by seen more own u.unstarted; same = u.same; none = u.none; cancelled = u.cancelled })
  ]

  pub desk_lasts : Lasts by (λ (history : List Entry). OwesDesk basis by found history old new fronts why)
  desk_lasts = lasts_by by (λ (history : List Entry). OwesDesk basis by found history old new fronts why) owes_more

-- a desk that reads in holds of the turn
pub held_lasts : DeskLasts ReadsInHolds
held_lasts basis by found old new note seen whole begins own (owes, tied) =
    (desk_lasts basis by found old new note.fronts note.why seen whole begins own owes, tied)
