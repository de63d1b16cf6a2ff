-- What was put on a connection of a slot is what is routed to it.
use Rattle.std.proofs.Common.{◌≡◌, ℕ, suc, ◌+◌, ◌-◌, ◌≤◌, ◌==◌, Bool, true, false, cond, List, [], ◌∷◌, ◌++◌, length, take, drop, refl, sym, ◌∙◌, ap, subst, arith, append_assoc, length-append, inl, inr, Option}
use Rattle.std.specs.Prelude.{slice_range}
use Rattle.std.specs.List.{filter}
use Rattle.std.proofs.lemmas.List.{append-nil, drop_at, take-append-le}
use Rattle.std.proofs.lemmas.Grind.{flat_map-append}
use Rattle.cts_entry.specs.declared.why.Why.{Why}
use Rattle.cts_entry.specs.declared.entry.Entry.{Entry}
use Rattle.cts_entry.specs.Histories.{commands_to, packets_from}
use Rattle.cts_entry.specs.Queues.{bytes_or_none, spelled}
use Rattle.cts_trace.specs.Connections.{Tail}
use Rattle.cts_trace.specs.Routing.{Routing, queue, spell}
use Rattle.cts_trace.specs.Streams.{routed}
use Rattle.cts_trace_laws.specs.Slots.{PutBeginsRouted, PutIsRouted, PutIsRoutedSoFar}

-- the first ones that pass a test are those among some of the first ones
module _ {X : Type 0} (test : X → Bool) where
  abbrev pub Front : List X → List X → List X → Type 0
  Front xs done rest = (n : ℕ) × (n ≤ length xs) × (filter test (take n xs) ≡ done) × ((rest ≡ []) → n ≡ length xs)

  take_all : (xs : List X) → take (length xs) xs ≡ xs
  take_all [] = refl
  take_all (x ∷ xs) = ap (λ ys. x ∷ ys) (take_all xs)

  some_left : (x : X) (rest : List X) → x ∷ rest ≡ [] → ⊥
  some_left x rest e = cc

  step_true : (x d : X) (xs done : List X) (n : ℕ) → test x ≡ true → x ≡ d → filter test (take n xs) ≡ done → filter test (take (suc n) (x ∷ xs)) ≡ d ∷ done
  step_true x d xs done n h first e = rw h (cc (first, e))

  step_false : (x : X) (xs done : List X) (n : ℕ) → test x ≡ false → filter test (take n xs) ≡ done → filter test (take (suc n) (x ∷ xs)) ≡ done
  step_false x xs done n h e = rw h e

  -- none is left, so it is all of them; and else it is as many as are needed
  pub fronts : (xs done rest : List X) → filter test xs ≡ done ++ rest → Front xs done rest
  fronts xs done [] e = (length xs, omega arith, ap (filter test) (take_all xs) ∙ (e ∙ append-nil done), λ h. refl)
  fronts xs [] (y ∷ rest) e = (0, omega arith, refl, λ h. absurd (some_left y rest h))
  fronts [] (d ∷ done) (y ∷ rest) e = cc
  fronts (x ∷ xs) (d ∷ done) (y ∷ rest) e = front_by (test x) refl (fronts xs)
    where
      front_by : (b : Bool) → test x ≡ b → ((done rest : List X) → filter test xs ≡ done ++ rest → Front xs done rest) → Front (x ∷ xs) (d ∷ done) (y ∷ rest)
      front_by true h rec =
          let is : x ∷ filter test xs ≡ d ∷ (done ++ y ∷ rest) = subst (λ (b : Bool). cond b (x ∷ filter test xs) (filter test xs) ≡ d ∷ (done ++ y ∷ rest)) h e in
          let first : x ≡ d = cc in
          let tail : filter test xs ≡ done ++ y ∷ rest = cc in
          let more = rec done (y ∷ rest) tail in
          (suc more.0, omega (arith, more.1), step_true x d xs done more.0 h first more.2, λ k. absurd (some_left y rest k))
      front_by false h rec =
          let is : filter test xs ≡ d ∷ (done ++ y ∷ rest) = subst (λ (b : Bool). cond b (x ∷ filter test xs) (filter test xs) ≡ d ∷ (done ++ y ∷ rest)) h e in
          let more = rec (d ∷ done) (y ∷ rest) is in
          (suc more.0, omega (arith, more.1), step_false x xs (d ∷ done) more.0 h more.2, λ k. absurd (some_left y rest k))

-- the entries of a connection after its Opened, where it stands in a history
pub stretch : (before between closing later : List Entry) (opened : Entry) (n : ℕ) → n ≤ length between
    → slice_range (before ++ ((opened ∷ (between ++ closing)) ++ later)) (length before + 1) (length before + 1 + n) ≡ take n between
stretch before between closing later opened n l =
    let is : before ++ ((opened ∷ (between ++ closing)) ++ later) ≡ (before ++ opened ∷ []) ++ (between ++ (closing ++ later)) =
    sym (append_assoc before (opened ∷ []) (between ++ (closing ++ later)) ∙ ap (λ es. before ++ (opened ∷ es)) (sym (append_assoc between closing later))) in
    let from : drop (length before + 1) ((before ++ opened ∷ []) ++ (between ++ (closing ++ later))) ≡ between ++ (closing ++ later) =
    drop_at (before ++ opened ∷ []) (between ++ (closing ++ later)) (length before + 1) (length-append before (opened ∷ [])) in
    let many : length before + 1 + n - (length before + 1) ≡ n = omega arith in
    ap (λ es. slice_range es (length before + 1) (length before + 1 + n)) is
    ∙ (ap (take (length before + 1 + n - (length before + 1))) from ∙ (ap (λ k. take k (between ++ (closing ++ later))) many ∙ take-append-le n between (closing ++ later) l))

module _ (g : Routing) (m : ℕ) (slot : g.is_interface m ≡ false) where
  queue_is : (entries : List Entry) → queue g m entries ≡ filter (packets_from (g.routes m)) entries
  queue_is entries = ap (λ (b : Bool). filter (λ e. cond b (commands_to (λ interface. interface == m) e) (packets_from (g.routes m) e)) entries) slot

  -- what is routed of the first entries of a connection, where so much of its queue is among them
  routed_is : (before between closing later entries done : List Entry) (opened : Entry) (n : ℕ) → entries ≡ opened ∷ (between ++ closing) → n ≤ length between
      → filter (packets_from (g.routes m)) (take n between) ≡ done → routed (spell g m) (g.routes m) (before ++ (entries ++ later)) (length before + 1) (length before + 1 + n) ≡ spelled (spell g m) done
  routed_is before between closing later entries done opened n e l f =
      ap (λ es. routed (spell g m) (g.routes m) (before ++ (es ++ later)) (length before + 1) (length before + 1 + n)) e
      ∙ (ap (λ es. spelled (spell g m) (filter (packets_from (g.routes m)) es)) (stretch before between closing later opened n l) ∙ ap (spelled (spell g m)) f)

pub put_is_routed : PutIsRouted
put_is_routed g m before pieces bytes entries later slot s =
    let front = fronts (packets_from (g.routes m)) s.between s.done s.rest (sym (queue_is g m slot s.between) ∙ s.carries.queue_is) in
    let is = routed_is g m slot before s.between (s.closed ∷ []) later entries s.done s.opened front.0 s.entries_are front.1 front.2 in
    (front.0, front.1, s.put ∙ ap (λ b. b ++ s.tail) (sym is), front.3)

pub put_is_routed_so_far : PutIsRoutedSoFar
put_is_routed_so_far g m before pieces bytes entries later slot s =
    let front = fronts (packets_from (g.routes m)) s.between s.done s.rest (sym (queue_is g m slot s.between) ∙ s.carries.queue_is) in
    let all : entries ≡ s.opened ∷ (s.between ++ []) = s.entries_are ∙ ap (λ es. s.opened ∷ es) (sym (append-nil s.between)) in
    let is = routed_is g m slot before s.between [] later entries s.done s.opened front.0 all front.1 front.2 in
    (front.0, front.1, s.put ∙ sym is, front.3)

-- what is left begins with a tail
tail_begins : (spell : Entry → Option (List ℕ)) (why : Why) (rest : List Entry) (tail : List ℕ) → Tail spell why rest tail → (more : List ℕ) × (tail ++ more ≡ spelled spell rest)
tail_begins spell why rest tail t = elim t [
  | inl none ↦ (spelled spell rest, ap (λ v. v ++ spelled spell rest) none)
  | inr some ↦
      let next : Entry = some.1.0 in
      let later : List Entry = some.1.1 in
      let more : List ℕ = some.1.2 in (
        more ++ spelled spell later,
        sym (append_assoc tail more (spelled spell later)) ∙ (ap (λ o. bytes_or_none o ++ spelled spell later) (sym some.1.4) ∙ ap (spelled spell) (sym some.1.3)),
      )
]

pub put_begins_routed : PutBeginsRouted
put_begins_routed g m before pieces bytes entries later slot s =
    let test = packets_from (g.routes m) in
    let all : filter test (take (length s.between) s.between) ≡ s.done ++ s.rest = ap (filter test) (take_all test s.between) ∙ (sym (queue_is g m slot s.between) ∙ s.carries.queue_is) in
    let is = routed_is g m slot before s.between (s.closed ∷ []) later entries (s.done ++ s.rest) s.opened (length s.between) s.entries_are (omega arith) all in
    let tail = tail_begins (spell g m) s.why s.rest s.tail s.tail_is in (
      tail.0,
      ap (λ b. b ++ tail.0) s.put
          ∙ (append_assoc (spelled (spell g m) s.done) s.tail tail.0
          ∙ (ap (λ v. spelled (spell g m) s.done ++ v) tail.1 ∙ (sym (flat_map-append (λ e. bytes_or_none (spell g m e)) s.done s.rest) ∙ sym is))),
    )
