-- The end of a desk that reads from a pane.
use Rattle.std.proofs.Common.{◌≡◌, ℕ, Bool, true, List, [], ◌∷◌, ◌++◌, length, sym, refl, ap, ◌∙◌, subst, append_assoc, arith, le_refl, Option}
use Rattle.cts_def.specs.declared.time.Time.{Time}
use Rattle.cts_entry.specs.declared.entry.Entry.{Entry}
use Rattle.cts_entry.specs.Histories.{is_stopped}
use Rattle.cts_outside.specs.Lines.{Connection, Line}
use Rattle.cts_table.specs.declared.basis.Basis.{Basis}
use Rattle.cts_trace.specs.Makers.{of_maker}
use Rattle.cts_trace.proofs.Looking.{stop_kept}
use Rattle.cts_turn.specs.declared.rule.View.{View}
use Rattle.cts_turn.specs.Lists.{climbs}
use Rattle.cts_turn.proofs.Makers.{climbs_up}
use Rattle.cts_worker.specs.Holds.{EndedHold}
use Rattle.cts_worker.specs.Lasts.{last_entries}
use Rattle.cts_worker.proofs.Lasting.{last_own}
use Rattle.cts_desk.specs.Exchanges.{Among, Exchange, fronts_of}
use Rattle.cts_desk.specs.Growing.{among_more}
use Rattle.cts_desk.specs.Serving.{Resting}
use Rattle.cts_desk.specs.Streams.{last_front}
use Rattle.cts_desk.specs.Told.{Settled}
use Rattle.cts_desk.proofs.Connections.{settled_at}
use Rattle.cts_desk.specs.declared.ending.DeskWhy.{DeskWhy}
use Rattle.cts_desk.specs.declared.ending.DeskWhy.TheVariants.{Stopped, Finished, DoorFailed, Cancelled}
use Rattle.cts_snap_desk.specs.Ending.{SnapEnds, desk_why, of_desk}
use Rattle.cts_snap_desk.specs.Given.{OnlyLooks, SnapExchanges, exchanges_of, held_at, held_fronts, start}
use Rattle.cts_snap_desk.specs.Reading.{SnapGoing}
use Rattle.cts_snap_desk.proofs.Snapping.{snap_climbs, snap_end}

-- a desk that has appended nothing has no exchanges
pub going_first : (pane : Basis) (list : List Entry) (refused : ℕ) (b : Basis) (by : ℕ) (v : View Entry Basis) → of_maker by v.seen ≡ [] → SnapGoing pane list refused 0 refused b by [] v []
going_first pane list refused b by v none = record { given = []; are = refl; fronts_are = refl; among = tt; stand = (refl, le_refl 0, none); rises = le_refl refused; quiet = λ looks steady. omega arith }

-- the name of a reason, there and back
pub why_back : (why : DeskWhy) → desk_why (of_desk why) ≡ why
why_back Stopped = refl
why_back Finished = refl
why_back DoorFailed = refl
why_back Cancelled = refl

-- the last entries
pub snap_ends : (pane : Basis) (list : List Entry) (refused floor began : ℕ) (b : Basis) (by : ℕ) (was : List Connection) (stop stops : Bool) (time : Time) (fronts : List ℕ) (v v' : View Entry Basis) (told : Option Line)
    → EndedHold by time stops v v' → (stop ≡ true → is_stopped v.seen ≡ true) → Resting (SnapGoing pane list refused floor began b by) was stop fronts v told
    → SnapEnds b by stops pane list began refused fronts v' was told
snap_ends pane list refused floor began b by was stop stops time fronts v v' told ended stands s =
    let g = s.going in
    let before : List Entry = v.seen ++ ended.hold.others in
    let last : List Entry = last_entries stops by time before in
    let seen : v'.seen ≡ v.seen ++ (ended.hold.others ++ last) = ended.hold.seen ∙ ap (λ l. v.seen ++ (ended.hold.others ++ l)) ended.words in
    let fronts_are : fronts ≡ fronts_of (exchanges_of g.given) = g.fronts_are ∙ ap fronts_of g.are in
    let climb : climbs 0 fronts floor ≡ true =
    ap (λ l. climbs 0 l floor) fronts_are ∙ snap_climbs b by pane list start [] g.given (held_at (last_front fronts) floor) [] v.seen (le_refl 0) g.stand in record {
      time = time;
      before = before;
      seen = seen ∙ sym (append_assoc v.seen ended.hold.others last);
      told_so = record {
        given = g.given;
        end = held_at (last_front fronts) floor;
        fronts_are = fronts_are;
        among = subst (Among (held_fronts g.given)) (sym ended.hold.found) (among_more (held_fronts g.given) v.found (length (v.seen ++ ended.hold.others) ∷ []) g.among);
        stand = subst (SnapExchanges b by pane list start [] g.given (held_at (last_front fronts) floor) last) (sym seen)
            (snap_end b by pane list start g.given (held_at (last_front fronts) floor) v.seen ended.hold.others last ended.hold.strange (last_own by time stops before) g.stand);
        rising = climb;
        rises = g.rises;
        settled = subst (λ (xs : List Exchange). Settled (is_stopped v'.seen) was xs told) g.are
            (settled_at stop (is_stopped v'.seen) was s.exchanges told (λ e. ap is_stopped ended.hold.seen ∙ stop_kept v.seen (ended.hold.others ++ ended.added) (stands e)) s.settled);
        quiet = λ looks steady. climbs_up 0 fronts floor (length list) climb (g.quiet (subst OnlyLooks (sym g.are) looks) steady);
      };
    }
