-- What a maker has passed and what is ahead of it, by a place in the history.
use Rattle.std.proofs.Common.{◌≡◌, ℕ, ◌+◌, Bool, true, false, List, [], ◌∷◌, ◌++◌, length, take, drop, refl, sym, ◌∙◌, ap, arith, append_assoc, length-append}
use Rattle.std.specs.Prelude.{if◌then◌else◌}
use Rattle.std.specs.List.{list_any}
use Rattle.std.proofs.Math.Seq.{take-append_seam, drop-append_seam}
use Rattle.cts_entry.specs.declared.entry.Entry.{Entry}
use Rattle.cts_entry.specs.Histories.{after_last, opens as is_opening, since}
use Rattle.cts_entry.specs.Queues.{refused}
use Rattle.cts_entry.proofs.Queuing.{since-append, refused-append}
use Rattle.cts_framing.specs.Packets.{capped}
use Rattle.cts_core.specs.States.{Environment, State, passed, ahead, unsent}
use Rattle.cts_core.specs.Cursors.{IsPassed}
use Rattle.cts_trace.specs.Routing.{spell, queue, walk}
use Rattle.cts_trace.proofs.Walks.{walk-append, queue-append, queue_walk, walk_none}

-- what stands after the last Opened is the end of the history

suffix_if : {X : Type 0} (later first : Bool) (x : X) (xs rest : List X) → (front : List X) × (xs ≡ front ++ rest) → (front : List X) × (x ∷ xs ≡ front ++ (if later then rest else (if first then xs else x ∷ xs)))
suffix_if true first x xs rest more = (x ∷ more.0, ap (λ (l : List _). x ∷ l) more.1)
suffix_if false true x xs rest more = (x ∷ [], refl)
suffix_if false false x xs rest more = ([], refl)

suffix : {X : Type 0} (test : X → Bool) (xs : List X) → (front : List X) × (xs ≡ front ++ after_last test xs)
suffix test [] = ([], refl)
suffix test (x ∷ xs) = suffix_if (list_any test xs) (test x) x xs (after_last test xs) (suffix test xs)

module _ (env : Environment) (s : State) (by place count : ℕ) (p : IsPassed env s by place count) where
  -- what is beyond the place
  pub beyond_is : drop place s.history ≡ p.beyond
  beyond_is =
      let front = suffix (is_opening by) s.history in
      let whole : s.history ≡ (front.0 ++ p.behind) ++ p.beyond = front.1 ∙ (ap (λ (l : List Entry). front.0 ++ l) p.since_is ∙ sym (append_assoc front.0 p.behind p.beyond)) in
      let at : place ≡ length (front.0 ++ p.behind) = omega (arith, p.place_is, ap length whole, length-append (front.0 ++ p.behind) p.beyond) in
      ap (λ (k : ℕ). drop k s.history) at ∙ (ap (drop (length (front.0 ++ p.behind))) whole ∙ drop-append_seam (front.0 ++ p.behind) p.beyond)

  walked : walk env.routing by (since by s.history) ≡ walk env.routing by p.behind ++ walk env.routing by p.beyond
  walked = ap (walk env.routing by) p.since_is ∙ walk-append env.routing by p.behind p.beyond

  pub passed_is : passed env s by ≡ walk env.routing by p.behind
  passed_is = ap (take (s.cursor by)) walked ∙ (ap (λ (k : ℕ). take k (walk env.routing by p.behind ++ walk env.routing by p.beyond)) p.cursor_is ∙ take-append_seam (walk env.routing by p.behind) (walk env.routing by p.beyond))

  pub ahead_is : ahead env s by ≡ walk env.routing by (drop place s.history)
  ahead_is =
      ap (drop (s.cursor by)) walked
      ∙ (ap (λ (k : ℕ). drop k (walk env.routing by p.behind ++ walk env.routing by p.beyond)) p.cursor_is ∙ (drop-append_seam (walk env.routing by p.behind) (walk env.routing by p.beyond) ∙ ap (walk env.routing by) (sym beyond_is)))

  -- what a Closed says of the queue, by the place and the count
  pub unsent_is : unsent env s by ≡ capped (count + length (queue env.routing by (drop place s.history)))
  unsent_is =
      let done : refused (spell env.routing by) (queue env.routing by (passed env s by)) ≡ count = ap (λ (l : List Entry). refused (spell env.routing by) (queue env.routing by l)) passed_is ∙ (ap (refused (spell env.routing by)) (queue_walk env.routing by p.behind) ∙ sym p.count_is) in
      let left : queue env.routing by (ahead env s by) ≡ queue env.routing by (drop place s.history) = ap (queue env.routing by) ahead_is ∙ queue_walk env.routing by (drop place s.history) in
      ap (λ (k : ℕ). capped (k + length (queue env.routing by (ahead env s by)))) done ∙ ap (λ (l : List Entry). capped (count + length l)) left

  -- entries are added
  pub passed_more : (t : State) (added : List Entry) → t.history ≡ s.history ++ added → list_any (is_opening by) added ≡ false → t.cursor by ≡ s.cursor by → IsPassed env t by place count
  passed_more t added grown none same = record {
    behind = p.behind;
    beyond = p.beyond ++ added;
    since_is = ap (since by) grown ∙ (since-append by s.history added none ∙ (ap (λ (l : List Entry). l ++ added) p.since_is ∙ append_assoc p.behind p.beyond added));
    place_is = omega (arith, p.place_is, length-append p.beyond added, length-append s.history added, ap length grown);
    cursor_is = same ∙ p.cursor_is;
    count_is = p.count_is;
  }

  -- the next entries are passed
  pub passed_on : (t : State) (next later : List Entry) → drop place s.history ≡ next ++ later → t.history ≡ s.history → t.cursor by ≡ s.cursor by + length (walk env.routing by next)
      → IsPassed env t by (place + length next) (count + refused (spell env.routing by) (queue env.routing by next))
  passed_on t next later cut same on =
      let beyond : p.beyond ≡ next ++ later = sym beyond_is ∙ cut in
      record {
        behind = p.behind ++ next;
        beyond = later;
        since_is = ap (since by) same ∙ (p.since_is ∙ (ap (λ (l : List Entry). p.behind ++ l) beyond ∙ sym (append_assoc p.behind next later)));
        place_is = omega (arith, p.place_is, ap length beyond, length-append next later, ap length same);
        cursor_is = on ∙ (ap (λ (k : ℕ). k + length (walk env.routing by next)) p.cursor_is ∙ (sym (length-append (walk env.routing by p.behind) (walk env.routing by next)) ∙ ap length (sym (walk-append env.routing by p.behind next))));
        count_is = ap (λ (k : ℕ). k + refused (spell env.routing by) (queue env.routing by next)) p.count_is
            ∙ (sym (refused-append (spell env.routing by) (queue env.routing by p.behind) (queue env.routing by next)) ∙ ap (refused (spell env.routing by)) (sym (queue-append env.routing by p.behind next)));
      }

-- a connection begins
pub passed_none : (env : Environment) (t : State) (by : ℕ) → since by t.history ≡ [] → t.cursor by ≡ 0 → IsPassed env t by (length t.history) 0
passed_none env t by none first = record {
  behind = [];
  beyond = [];
  since_is = none;
  place_is = omega arith;
  cursor_is = first ∙ sym (ap length (walk_none env.routing by));
  count_is = refl;
}
