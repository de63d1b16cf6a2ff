-- The exchanges of a desk that reads from a pane.
use Rattle.std.proofs.Common.{◌≡◌, ℕ, ◌+◌, ◌≤◌, ◌&&◌, true, List, [], ◌∷◌, ◌++◌, length, sym, refl, ap, ◌∙◌, subst, append-nil, append_assoc, length-append, le-leb, arith, le_refl, Some}
use mathlib.Core.List.{IsPrefix}
use Rattle.cts_book.proofs.Fronts.{prefix_trans}
use Rattle.cts_entry.specs.declared.entry.Entry.{Entry}
use Rattle.cts_table.specs.declared.basis.Basis.{Basis}
use Rattle.cts_turn.specs.Lists.{climbs}
use Rattle.cts_trace.specs.Makers.{of_maker}
use Rattle.cts_trace.proofs.Others.{of_maker_append}
use Rattle.cts_desk.specs.Exchanges.{Exchange, IsAnswered, fronts_of, out_of_memory}
use Rattle.cts_snap_desk.specs.Given.{Given, ByHold, ByRead, Lacks, Place, ReadsOver, SnapExchanges, exchanges_of, held_at, held_fronts, lacks_at, read_at}
use Rattle.cts_snap_desk.specs.Growing.{snap_more}

-- the pane's list grows
pub snap_grows : (b : Basis) (by : ℕ) (pane : Basis) (list list' : List Entry) (at : Place) (before : List Entry) (gs : List Given) (end : Place) (last rest : List Entry)
    → IsPrefix list list' → SnapExchanges b by pane list at before gs end last rest → SnapExchanges b by pane list' at before gs end last rest
snap_grows b by pane list list' at before [] end last rest p s = s
snap_grows b by pane list list' at before (ByHold x ∷ gs) end last rest p s = (
  s.0,
  s.1,
  s.2,
  s.3,
  s.4,
  s.5,
  s.6,
  s.7,
  snap_grows b by pane list list' (held_at x.front (length (before ++ (s.1 ++ s.2)))) (before ++ (s.1 ++ s.2)) gs end last s.3 p s.8,
)
snap_grows b by pane list list' at before (ByRead x ∷ gs) end last rest p s =
    let over = s.1 in (s.0, (over.0, prefix_trans over.0 list list' over.1 p, over.2, over.3), snap_grows b by pane list list' (read_at x.front) before gs end last rest p s.2)
snap_grows b by pane list list' at before (Lacks x ∷ gs) end last rest p s = (s.0, s.1, snap_grows b by pane list list' (lacks_at x.front at) before gs end last rest p s.2)

-- past one hold
past : (before rest gap added later more : List Entry) → rest ≡ gap ++ (added ++ later) → before ++ (rest ++ more) ≡ (before ++ (gap ++ added)) ++ (later ++ more)
past before rest gap added later more is =
    ap (λ l. before ++ (l ++ more)) is
    ∙ ap (λ l. before ++ l) (append_assoc gap (added ++ later) more ∙ ap (λ l. gap ++ l) (append_assoc added later more) ∙ sym (append_assoc gap added (later ++ more)))
    ∙ sym (append_assoc before (gap ++ added) (later ++ more))

module _ (b : Basis) (by : ℕ) (pane : Basis) (list : List Entry) (x : Exchange) (front floor : ℕ) where
  -- one more exchange, in a hold
  pub snap_held : (at : Place) (before : List Entry) (gs : List Given) (rest gap added : List Entry) (stood : ℕ) → of_maker by gap ≡ [] → floor ≤ x.front → x.front ≡ length (before ++ (rest ++ gap))
      → IsAnswered b by (before ++ (rest ++ gap)) x added → stood ≡ length (before ++ (rest ++ (gap ++ added))) → SnapExchanges b by pane list at before gs (held_at front floor) [] rest
      → SnapExchanges b by pane list at before (gs ++ ByHold x ∷ []) (held_at x.front stood) [] (rest ++ (gap ++ added))
  snap_held at before [] rest gap added stood none le is answered stands s =
      let e : length (before ++ ((rest ++ gap) ++ added)) ≡ stood = ap (λ l. length (before ++ l)) (append_assoc rest gap added) ∙ sym stands in (
        (let f = s.1 in omega (arith, f, le)),
        rest ++ gap,
        added,
        [],
        sym (append_assoc rest gap added) ∙ ap (λ l. (rest ++ gap) ++ l) (sym (append-nil added)),
        of_maker_append by rest gap ∙ ap (λ l. l ++ of_maker by gap) s.2 ∙ none,
        is,
        answered,
        (refl, omega (arith, e), refl),
      )
  snap_held at before (ByHold y ∷ gs) rest gap added stood none le is answered stands s =
      let to = past before rest s.1 s.2 s.3 gap s.4 in (
        s.0,
        s.1,
        s.2,
        s.3 ++ (gap ++ added),
        ap (λ l. l ++ (gap ++ added)) s.4 ∙ append_assoc s.1 (s.2 ++ s.3) (gap ++ added) ∙ ap (λ l. s.1 ++ l) (append_assoc s.2 s.3 (gap ++ added)),
        s.5,
        s.6,
        s.7,
        snap_held (held_at y.front (length (before ++ (s.1 ++ s.2)))) (before ++ (s.1 ++ s.2)) gs s.3 gap added stood none le (is ∙ ap length to) (subst (λ l. IsAnswered b by l x added) to answered)
            (stands ∙ ap length (past before rest s.1 s.2 s.3 (gap ++ added) s.4)) s.8,
      )
  snap_held at before (ByRead y ∷ gs) rest gap added stood none le is answered stands s = (s.0, s.1, snap_held (read_at y.front) before gs rest gap added stood none le is answered stands s.2)
  snap_held at before (Lacks y ∷ gs) rest gap added stood none le is answered stands s = (s.0, s.1, snap_held (lacks_at y.front at) before gs rest gap added stood none le is answered stands s.2)

  -- one more, of a read
  pub snap_read : (at : Place) (before : List Entry) (gs : List Given) (rest : List Entry) → floor ≤ x.front → ReadsOver pane list x
      → SnapExchanges b by pane list at before gs (held_at front floor) [] rest → SnapExchanges b by pane list at before (gs ++ ByRead x ∷ []) (held_at x.front x.front) [] rest
  snap_read at before [] rest le reads s = ((let f = s.1 in omega (arith, f, le)), reads, (refl, le_refl x.front, s.2))
  snap_read at before (ByHold y ∷ gs) rest le reads s = (s.0, s.1, s.2, s.3, s.4, s.5, s.6, s.7, snap_read (held_at y.front (length (before ++ (s.1 ++ s.2)))) (before ++ (s.1 ++ s.2)) gs s.3 le reads s.8)
  snap_read at before (ByRead y ∷ gs) rest le reads s = (s.0, s.1, snap_read (read_at y.front) before gs rest le reads s.2)
  snap_read at before (Lacks y ∷ gs) rest le reads s = (s.0, s.1, snap_read (lacks_at y.front at) before gs rest le reads s.2)

  -- one more, for want of memory
  pub snap_lacks : (at : Place) (before : List Entry) (gs : List Given) (rest : List Entry) → x.text ≡ Some out_of_memory → x.front ≡ front
      → SnapExchanges b by pane list at before gs (held_at front floor) [] rest → SnapExchanges b by pane list at before (gs ++ Lacks x ∷ []) (held_at x.front floor) [] rest
  snap_lacks at before [] rest text is s = (text, is ∙ sym s.0, (refl, s.1, s.2))
  snap_lacks at before (ByHold y ∷ gs) rest text is s = (s.0, s.1, s.2, s.3, s.4, s.5, s.6, s.7, snap_lacks (held_at y.front (length (before ++ (s.1 ++ s.2)))) (before ++ (s.1 ++ s.2)) gs s.3 text is s.8)
  snap_lacks at before (ByRead y ∷ gs) rest text is s = (s.0, s.1, snap_lacks (read_at y.front) before gs rest text is s.2)
  snap_lacks at before (Lacks y ∷ gs) rest text is s = (s.0, s.1, snap_lacks (lacks_at y.front at) before gs rest text is s.2)

-- the exchanges stand before the last entries
pub snap_end : (b : Basis) (by : ℕ) (pane : Basis) (list : List Entry) (at : Place) (gs : List Given) (end : Place) (seen others last : List Entry)
    → of_maker by others ≡ [] → of_maker by last ≡ last → SnapExchanges b by pane list at [] gs end [] seen → SnapExchanges b by pane list at [] gs end last (seen ++ (others ++ last))
snap_end b by pane list at gs end seen others last none own s =
    subst (λ l. SnapExchanges b by pane list at [] gs end l (seen ++ (others ++ last))) (of_maker_append by others last ∙ ap (λ l. l ++ of_maker by last) none ∙ own)
    (snap_more b by pane list at [] gs end [] seen (others ++ last) s)

-- no front is below one before it
pub snap_climbs : (b : Basis) (by : ℕ) (pane : Basis) (list : List Entry) (at : Place) (before : List Entry) (gs : List Given) (end : Place) (last rest : List Entry)
    → at.front ≤ at.floor → SnapExchanges b by pane list at before gs end last rest → climbs at.front (fronts_of (exchanges_of gs)) end.floor ≡ true
snap_climbs b by pane list at before [] end last rest le s = le-leb at.front end.floor (let f = s.1 in omega (arith, f, le))
snap_climbs b by pane list at before (ByHold x ∷ gs) end last rest le s =
    let stood : ℕ = length (before ++ (s.1 ++ s.2)) in
    let e : stood ≡ length (before ++ s.1) + length s.2 = ap length (sym (append_assoc before s.1 s.2)) ∙ length-append (before ++ s.1) s.2 in
    ap (λ t. t && climbs x.front (fronts_of (exchanges_of gs)) end.floor) (le-leb at.front x.front (let f = s.0 in omega (arith, f, le)))
    ∙ snap_climbs b by pane list (held_at x.front stood) (before ++ (s.1 ++ s.2)) gs end last s.3 (let f = s.6 in omega (arith, e, f)) s.8
snap_climbs b by pane list at before (ByRead x ∷ gs) end last rest le s =
    ap (λ t. t && climbs x.front (fronts_of (exchanges_of gs)) end.floor) (le-leb at.front x.front (let f = s.0 in omega (arith, f, le)))
    ∙ snap_climbs b by pane list (read_at x.front) before gs end last rest (le_refl x.front) s.2
snap_climbs b by pane list at before (Lacks x ∷ gs) end last rest le s =
    ap (λ t. t && climbs x.front (fronts_of (exchanges_of gs)) end.floor) (le-leb at.front x.front (let f = s.1 in omega (arith, f)))
    ∙ snap_climbs b by pane list (lacks_at x.front at) before gs end last rest (let f = s.1 in omega (arith, f, le)) s.2

pub held_append : (gs hs : List Given) → held_fronts (gs ++ hs) ≡ held_fronts gs ++ held_fronts hs
held_append [] hs = refl
held_append (ByHold x ∷ gs) hs = ap (λ l. x.front ∷ l) (held_append gs hs)
held_append (ByRead x ∷ gs) hs = held_append gs hs
held_append (Lacks x ∷ gs) hs = held_append gs hs
