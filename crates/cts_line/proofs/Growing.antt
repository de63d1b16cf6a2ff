-- The history grows by a hold: entries of others, and then those that were added.
use Rattle.std.proofs.Common.{◌≡◌, ℕ, suc, ◌+◌, ◌<◌, ◌≤◌, ◌&&◌, Bool, true, false, cond, List, [], ◌∷◌, ◌++◌, length, filter, refl, sym, ◌∙◌, ap, subst, arith, append_assoc, length-append, le-leb, leb-true, lt-ltb, inl, inr}
use Rattle.std.specs.Prelude.{◌⊎◌, leb, nat_le}
use Rattle.cts_entry.specs.declared.entry.Entry.{Entry}
use Rattle.cts_entry.specs.Histories.{has_own}
use Rattle.cts_outside.specs.Lines.{Connection}
use Rattle.cts_entry.specs.Room.{Capacity}
use Rattle.cts_trace.specs.Lines.{IsLook, is_within, looks}
use Rattle.cts_trace.specs.Makers.{of_maker}
use Rattle.cts_trace.specs.Routing.{Routing}
use Rattle.cts_trace.proofs.Others.{strange_own}
use Rattle.cts_turn.specs.Lists.{climbs}
use Rattle.cts_line.specs.Rows.{SaidInRows}
use Rattle.cts_line.specs.Talks.{AllAtMost, AllWithin, Holds, IsAmong, IsLast}
use Rattle.cts_line.proofs.Rows.{rows_found, rows_more}

-- others had appended entries, none of them m's, when a hold began, and then these were added
pub record Grows (m : ℕ) (found : List ℕ) (history : List Entry) (added : List Entry) (found' : List ℕ) (history' : List Entry) : Type 0 where
  pub others : List Entry
  pub strange : of_maker m others ≡ []
  pub seen : history' ≡ (history ++ others) ++ added
  pub found_is : found' ≡ found ++ length (history ++ others) ∷ []

-- ---- places at which holds began

both_are : (a b : Bool) → (a && b) ≡ true → (a ≡ true) × (b ≡ true)
both_are true true h = (refl, refl)
both_are true false h = absurd (cc h)
both_are false b h = absurd (cc h)

-- members that are all between count in full
pub looks_all : (mine : List ℕ) (o c : ℕ) → AllWithin o c mine → looks mine o c ≡ length mine
looks_all [] o c all = refl
looks_all (n ∷ ns) o c all =
    ap (λ (b : Bool). length (cond b (n ∷ filter (is_within o c) ns) (filter (is_within o c) ns))) (ap (λ (b : Bool). b && nat_le n c) (lt-ltb o n all.0) ∙ le-leb n c all.1)
    ∙ ap suc (looks_all ns o c all.2)

pub within_more : (o end end' n : ℕ) (mine : List ℕ) → AllWithin o end mine → end ≤ end' → o < n → n ≤ end' → AllWithin o end' (mine ++ n ∷ [])
within_more o end end' n [] all le lt here = (lt, here, tt)
within_more o end end' n (x ∷ mine) all le lt here = (all.0, (let f : x ≤ end = all.1 in omega arith), within_more o end end' n mine all.2 le lt here)

-- no place that is counted up to an end is beyond it
pub at_most_more : (end end' n : ℕ) (found : List ℕ) → AllAtMost end found → end ≤ end' → n ≤ end' → AllAtMost end' (found ++ n ∷ [])
at_most_more end end' n [] all le here = (here, tt)
at_most_more end end' n (x ∷ found) all le here = ((let f : x ≤ end = all.0 in omega arith), at_most_more end end' n found all.1 le here)

climbs_from : (lo hi : ℕ) (found : List ℕ) → climbs lo found hi ≡ true → lo ≤ hi
climbs_from lo hi [] up = leb-true lo hi up
climbs_from lo hi (x ∷ found) up = let two = both_are (leb lo x) (climbs x found hi) up in let a = leb-true lo x two.0 in let b = climbs_from x hi found two.1 in omega (arith, a, b)

-- those of a pass never fall, and none is beyond what it has seen
pub climbs_within : (lo hi : ℕ) (found : List ℕ) → climbs lo found hi ≡ true → AllAtMost hi found
climbs_within lo hi [] up = tt
climbs_within lo hi (x ∷ found) up = let two = both_are (leb lo x) (climbs x found hi) up in (climbs_from x hi found two.1, climbs_within x hi found two.1)

-- ---- what a hold leaves

module _ (m : ℕ) (found : List ℕ) (history added : List Entry) (found' : List ℕ) (history' : List Entry) (grows : Grows m found history added found' history') where
  pub others_long : length (history ++ grows.others) ≡ length history + length grows.others
  others_long = length-append history grows.others

  pub long_grown : length history' ≡ length (history ++ grows.others) + length added
  long_grown = ap length grows.seen ∙ length-append (history ++ grows.others) added

  pub past_grown : (g : Routing) (room : Capacity) (past : List Connection) (before : List Entry) → SaidInRows g room m found past before → length before ≤ length history → SaidInRows g room m found' past before
  past_grown g room past before s le = subst (λ (f : List ℕ). SaidInRows g room m f past before) (sym grows.found_is)
      (rows_found g room m found (length (history ++ grows.others)) past before (let e = others_long in omega arith) s)

  -- where nothing of a connection was added
  pub said_grown : (g : Routing) (room : Capacity) (past : List Connection) → has_own m added ≡ false → SaidInRows g room m found past history → SaidInRows g room m found' past history'
  said_grown g room past none s =
      let mid = rows_more g room m found' past history grows.others (strange_own m grows.others grows.strange) (past_grown g room past history s (omega arith)) in
      subst (λ (l : List Entry). SaidInRows g room m found' past l) (sym grows.seen) (rows_more g room m found' past (history ++ grows.others) added none mid)

  abbrev pub holds_grown : (o : ℕ) → o < length history → Holds found o (length history) → Holds found' o (length history')
  holds_grown o lt h = record {
    earlier = h.earlier;
    mine = h.mine ++ length (history ++ grows.others) ∷ [];
    found_is = grows.found_is ∙ (ap (λ (l : List ℕ). l ++ length (history ++ grows.others) ∷ []) h.found_is ∙ append_assoc h.earlier h.mine (length (history ++ grows.others) ∷ []));
    within =
        (let n : ℕ = length (history ++ grows.others) in
        let a = others_long in
        let b = long_grown in
        within_more o (length history) (length history') n h.mine h.within (omega arith) (omega arith) (omega arith));
    all_within =
        (let n : ℕ = length (history ++ grows.others) in
        let a = others_long in
        let b = long_grown in
        subst (AllAtMost (length history')) (sym grows.found_is) (at_most_more (length history) (length history') n found h.all_within (omega arith) (omega arith)));
  }

  pub among_grown : (place : ℕ) → IsAmong found place → IsAmong found' place
  among_grown place a = (
    a.0,
    a.1 ++ length (history ++ grows.others) ∷ [],
    grows.found_is ∙ (ap (λ (l : List ℕ). l ++ length (history ++ grows.others) ∷ []) a.2 ∙ append_assoc a.0 (place ∷ a.1) (length (history ++ grows.others) ∷ [])),
  )

  -- a hold followed the look
  pub look_grown : (place : ℕ) (looked : List Entry) → (looked ≡ []) ⊎ IsAmong found place → (looked ≡ []) ⊎ IsLook found' place (length history')
  look_grown place looked (inl none) = inl none
  look_grown place looked (inr a) = inr (record {
    earlier = a.0;
    between = a.1;
    close = length (history ++ grows.others);
    later = [];
    found_are = grows.found_is ∙ (ap (λ (l : List ℕ). l ++ length (history ++ grows.others) ∷ []) a.2 ∙ append_assoc a.0 (place ∷ a.1) (length (history ++ grows.others) ∷ []));
    close_within = (let b = long_grown in omega arith);
  })

  pub among_or_none : (place : ℕ) (looked : List Entry) → (looked ≡ []) ⊎ IsAmong found place → (looked ≡ []) ⊎ IsAmong found' place
  among_or_none place looked (inl none) = inl none
  among_or_none place looked (inr a) = inr (among_grown place a)

  -- and it was the next hold after the look
  pub last_grown : (place o : ℕ) (h : Holds found o (length history)) → IsLast h.mine place → (close : ℕ) × (earlier : List ℕ) × (found' ≡ earlier ++ place ∷ close ∷ []) × (close ≤ length history')
  last_grown place o h last =
      let n : ℕ = length (history ++ grows.others) in (
        n,
        h.earlier ++ last.0,
        grows.found_is ∙ (ap (λ (l : List ℕ). l ++ n ∷ []) h.found_is ∙ (append_assoc h.earlier h.mine (n ∷ []) ∙ (ap (λ (l : List ℕ). h.earlier ++ (l ++ n ∷ [])) last.1
            ∙ (ap (λ (l : List ℕ). h.earlier ++ l) (append_assoc last.0 (place ∷ []) (n ∷ [])) ∙ sym (append_assoc h.earlier last.0 (place ∷ n ∷ [])))))),
        (let b = long_grown in omega arith),
      )
