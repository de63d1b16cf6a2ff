-- A desk that reads from a snapshot reads back what it appended; and what its replies are of, in one.
use Rattle.std.proofs.Common.{◌≡◌, ℕ, ◌≤◌, Bool, true, inl, inr, refl, Option, List, [], ◌∷◌, ◌++◌, length, sym, ap}
use Rattle.std.proofs.Common.{◌∙◌, subst, append_assoc, length-append, arith}
use mathlib.Core.List.{IsPrefix}
use Rattle.cts_book.proofs.Fronts.{prefix_self, prefix_trans}
use Rattle.cts_def.specs.Sites.{SiteData}
use Rattle.cts_entry.specs.declared.entry.Entry.{Entry}
use Rattle.cts_table.specs.declared.basis.Basis.{Basis}
use Rattle.cts_turn.specs.Lists.{StartsWith, climbs}
use Rattle.cts_outside.specs.Lines.{Connection, Line}
use Rattle.cts_outside.specs.Seen.{LineSeen}
use Rattle.cts_desk.specs.declared.ending.DeskWhy.{DeskWhy}
use Rattle.cts_publisher.specs.declared.ending.PublisherWhy.{PublisherWhy}
use Rattle.cts_snap.specs.Copies.{Writes}
use Rattle.cts_snap_desk.specs.Ending.{SnapTold}
use Rattle.cts_snap_desk.specs.Given.{Given, ByHold, ByRead, Lacks, Place, SnapExchanges, held_at, lacks_at, read_at, start}
use Rattle.cts_snap_server.specs.Replied.{AnswersSo, AreFrom, AreOfHistory, AreReadBack}
use Rattle.cts_snap_server.specs.Publishers.{OwesPublisher}
use Rattle.cts_snap_server.specs.SnapDesks.{OwesSnapDesk, PaneSeen}
use Rattle.cts_snap_server.proofs.Over.{are_over, begins_past, up_to}

module _ (b : Basis) (by : ℕ) (pane : Basis) (list : List Entry) where
  -- no reply is over fewer entries than the least that it may be over
  are_from : (n : ℕ) (at : Place) (before : List Entry) (gs : List Given) (end : Place) (last rest : List Entry) → n ≤ at.floor
      → SnapExchanges b by pane list at before gs end last rest → AreFrom n gs
  are_from n at before [] end last rest le s = tt
  are_from n at before (ByHold x ∷ gs) end last rest le s =
      let floor : at.floor ≤ x.front = s.0 in
      let front : x.front ≡ length (before ++ s.1) = s.6 in
      let one = length-append before s.1 in
      let two = length-append before (s.1 ++ s.2) in
      let three = length-append s.1 s.2 in (
        omega (arith, le, floor),
        are_from n (held_at x.front (length (before ++ (s.1 ++ s.2)))) (before ++ (s.1 ++ s.2)) gs end last s.3
            (omega (arith, le, floor, front, one, two, three)) s.8,
      )
  are_from n at before (ByRead x ∷ gs) end last rest le s =
      let floor : at.floor ≤ x.front = s.0 in
      let more : n ≤ x.front = omega (arith, le, floor) in (more, are_from n (read_at x.front) before gs end last rest more s.2)
  are_from n at before (Lacks x ∷ gs) end last rest le s = are_from n (lacks_at x.front at) before gs end last rest le s.2

  -- where the entries of a hold stand
  stands : (before rest gap added later more history : List Entry) → rest ≡ gap ++ (added ++ later) → (before ++ rest) ++ more ≡ history
      → history ≡ (before ++ gap) ++ (added ++ (later ++ more))
  stands before rest gap added later more history is whole =
      sym whole ∙ ap (λ l. l ++ more) (up_to before rest gap added later is) ∙ append_assoc (before ++ gap) (added ++ later) more
      ∙ ap (λ l. (before ++ gap) ++ l) (append_assoc added later more)

  pub are_read_back : (history : List Entry) (at : Place) (before : List Entry) (gs : List Given) (end : Place) (last rest : List Entry)
      → IsPrefix (before ++ rest) history → SnapExchanges b by pane list at before gs end last rest → AreReadBack b by history gs
  are_read_back history at before [] end last rest p s = tt
  are_read_back history at before (ByHold x ∷ gs) end last rest p s =
      let same = ap length (append_assoc before s.1 s.2) in (
        (
          before ++ s.1,
          s.2,
          s.3 ++ p.0,
          stands before rest s.1 s.2 s.3 p.0 history s.4 p.1,
          s.6,
          s.7,
          are_from (length ((before ++ s.1) ++ s.2)) (held_at x.front (length (before ++ (s.1 ++ s.2)))) (before ++ (s.1 ++ s.2)) gs end last s.3
              (omega (arith, same)) s.8,
        ),
        are_read_back history (held_at x.front (length (before ++ (s.1 ++ s.2)))) (before ++ (s.1 ++ s.2)) gs end last s.3
            (begins_past before rest s.1 s.2 s.3 history s.4 p) s.8,
      )
  are_read_back history at before (ByRead x ∷ gs) end last rest p s = are_read_back history (read_at x.front) before gs end last rest p s.2
  are_read_back history at before (Lacks x ∷ gs) end last rest p s = are_read_back history (lacks_at x.front at) before gs end last rest p s.2

pub begins : (history seen : List Entry) → StartsWith history seen → IsPrefix seen history
begins history seen w = (w.0, sym w.1)

-- over the history, by what the desk and the publisher have seen
pub are_of_history : (b pane : Basis) (by began refused : ℕ) (fronts found : List ℕ) (list now published seen last history : List Entry)
    (was : List Connection) (told : Option Line) (tied : Bool) (t : SnapTold b by pane list began refused fronts found seen last was told) → pane ≡ b
    → StartsWith history seen → IsPrefix published history → IsPrefix list now → (tied ≡ true → now ≡ published) → AreOfHistory b by history list tied t.given
are_of_history b pane by began refused fronts found list now published seen last history was told tied t same saw shown grows is =
    let own : SnapExchanges b by b list start [] t.given t.end last seen
    = subst (λ p. SnapExchanges b by p list start [] t.given t.end last seen) same t.stand in
    let held : IsPrefix ([] ++ seen) history = begins history seen saw in record {
      over = are_over b by list list history start [] t.given t.end last seen held (prefix_self list) own;
      tied_over = λ h.
          let whole : IsPrefix now history = subst (λ l. IsPrefix l history) (sym (is h)) shown in
          are_over b by list history history start [] t.given t.end last seen held (prefix_trans list now history grows whole) own;
      read_back = are_read_back b by b list history start [] t.given t.end last seen held own;
      rising = (t.end.floor, ap (λ l. climbs 0 l t.end.floor) (sym t.fronts_are) ∙ t.rising);
    }

-- what is published begins the history
shown_in : (site : SiteData) (history : List Entry) (now : Writes) (why : PublisherWhy) → OwesPublisher site history now why → IsPrefix now.published history
shown_in site history now why o = elim o.did [
  | inl r ↦ prefix_trans now.published r.seen history r.published (begins history r.seen r.begins)
  | inr u ↦ subst (λ (l : List Entry). IsPrefix l history) (sym (ap (λ (w : Writes). w.published) u.none)) (history, refl)
]

-- a desk that was not started replied nothing
none_of_history : (b : Basis) (by : ℕ) (history list : List Entry) (tied : Bool) → AreOfHistory b by history list tied []
none_of_history b by history list tied = record { over = tt; tied_over = λ h. tt; read_back = tt; rising = (0, refl) }

pub answers_so : (b pane : Basis) (by : ℕ) (found : List ℕ) (history now : List Entry) (old new : LineSeen) (before : PaneSeen) (list : List Entry)
    (refused : ℕ) (w : Writes) (close : PublisherWhy) (fronts : List ℕ) (why : DeskWhy) (tied : Bool)
    → pane ≡ b → OwesPublisher b.site history w close → IsPrefix list now → (tied ≡ true → now ≡ w.published)
    → OwesSnapDesk b by found history old new before (record { basis = pane; list = list; refused = refused }) fronts why
    → AnswersSo b by history list tied fronts
answers_so b pane by found history now old new before list refused w close fronts why tied same published grows is (inl r) =
    let t = r.ends.told_so in (
      t.given,
      t.fronts_are,
      are_of_history b pane by before.refused refused fronts found list now w.published r.seen _ history _ new.told tied t same r.begins
          (shown_in b.site history w close published) grows is,
    )
answers_so b pane by found history now old new before list refused w close fronts why tied same published grows is (inr u) =
    ([], u.none, none_of_history b by history list tied)
