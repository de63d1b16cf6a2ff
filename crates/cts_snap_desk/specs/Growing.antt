-- What stands of the exchanges where more entries came: lemmas that the source of replies cites.
use Rattle.std.proofs.Common.{ℕ, List, [], ◌∷◌, ◌++◌, length, sym, ap, ◌∙◌, subst, append-nil, append_assoc}
use Rattle.cts_entry.specs.declared.entry.Entry.{Entry}
use Rattle.cts_table.specs.declared.basis.Basis.{Basis}
use Rattle.cts_turn.specs.declared.rule.View.{View}
use Rattle.cts_trace.specs.Makers.{of_maker}
use Rattle.cts_trace.proofs.Others.{of_maker_append}
use Rattle.cts_worker.specs.Holds.{Hold}
use Rattle.cts_desk.specs.Exchanges.{Exchange, Among}
use Rattle.cts_desk.specs.Growing.{among_more}
use Rattle.cts_desk.specs.Streams.{last_front}
use Rattle.cts_snap_desk.specs.Given.{Given, ByHold, ByRead, Lacks, Place, SnapExchanges, held_at, held_fronts, lacks_at, read_at, start}
use Rattle.cts_snap_desk.specs.Reading.{SnapGoing}

-- more entries after them, and which of those are the desk's
pub snap_more : (b : Basis) (by : ℕ) (pane : Basis) (list : List Entry) (at : Place) (before : List Entry) (gs : List Given) (end : Place)
    (last rest new : List Entry)
    → SnapExchanges b by pane list at before gs end last rest → SnapExchanges b by pane list at before gs end (last ++ of_maker by new) (rest ++ new)
snap_more b by pane list at before [] end last rest new s = (s.0, s.1, of_maker_append by rest new ∙ ap (λ l. l ++ of_maker by new) s.2)
snap_more b by pane list at before (ByHold x ∷ gs) end last rest new s = (
  s.0,
  s.1,
  s.2,
  s.3 ++ new,
  ap (λ l. l ++ new) s.4 ∙ append_assoc s.1 (s.2 ++ s.3) new ∙ ap (λ l. s.1 ++ l) (append_assoc s.2 s.3 new),
  s.5,
  s.6,
  s.7,
  snap_more b by pane list (held_at x.front (length (before ++ (s.1 ++ s.2)))) (before ++ (s.1 ++ s.2)) gs end last s.3 new s.8,
)
snap_more b by pane list at before (ByRead x ∷ gs) end last rest new s = (s.0, s.1, snap_more b by pane list (read_at x.front) before gs end last rest new s.2)
snap_more b by pane list at before (Lacks x ∷ gs) end last rest new s =
    (s.0, s.1, snap_more b by pane list (lacks_at x.front at) before gs end last rest new s.2)

-- a look
pub going_seen : (pane : Basis) (list : List Entry) (refused floor began : ℕ) (b : Basis) (m : ℕ) (fronts : List ℕ)
    (old new : View Entry Basis) (xs : List Exchange)
    → Hold m old new [] → SnapGoing pane list refused floor began b m fronts old xs → SnapGoing pane list refused floor began b m fronts new xs
going_seen pane list refused floor began b m fronts old new xs hold g =
    let end : Place = held_at (last_front fronts) floor in record {
      given = g.given;
      are = g.are;
      fronts_are = g.fronts_are;
      among = subst (Among (held_fronts g.given)) (sym hold.found) (among_more (held_fronts g.given) old.found (length (old.seen ++ hold.others) ∷ []) g.among);
      stand = subst (λ l. SnapExchanges b m pane list start [] g.given end [] l) (sym (hold.seen ∙ ap (λ l. old.seen ++ l) (append-nil hold.others)))
          (subst (λ l. SnapExchanges b m pane list start [] g.given end l (old.seen ++ hold.others)) hold.strange
          (snap_more b m pane list start [] g.given end [] old.seen hold.others g.stand));
      rises = g.rises;
      quiet = g.quiet;
    }
