-- One pass over statements ends at the first one that is refused.
use Rattle.std.proofs.Common.{◌≡◌, ℕ, ◌+◌, ◌<◌, ◌≤◌, List, [], ◌∷◌, ◌++◌, length, get_or, take, drop, Option, Some, None, Ok, Err, refl, sym, ap, ◌∙◌, subst, add-one}
use Rattle.std.proofs.lemmas.List.{take_more, take_all, drop_all}
use Rattle.std.proofs.Math.Seq.{drop-cons}
use Rattle.cts_words.specs.declared.statement.Statement.{Statement}
use Rattle.cts_words.specs.Refusals.{Refusal}
use Rattle.cts_words.proofs.Refused as refused
use Rattle.cts_words.proofs.Refused.{Decides, first_one_is_refused}
use Rattle.cts_reader.proofs.FirstRefused.{never_at_end}
use Rattle.cts_reader.specs.declared.fault.Fault.{Fault}
use Rattle.cts_reader.specs.declared.fault.Fault.TheVariants as fault
use Rattle.cts_reader.specs.Reading.{Takes, Reads}

module _ {C : Type 0} (at : List Statement → Statement → Option (Refusal C)) where
  -- nothing is judged after the last one
  abbrev no_end : List Statement → Option (Refusal C)
  no_end all = None

  -- what holds before each statement
  pub record IsPassing (stands : List Statement → Type 0) (before rest all : List Statement) : Type 0 where
    pub here : stands before
    pub decides : Decides at no_end before rest all

  pub begins : (stands : List Statement → Type 0) (all : List Statement) → stands [] → IsPassing stands (take 0 all) (drop 0 all) all
  begins stands all h = record { here = h; decides = record { same = refl } }

  -- the statement at i is the next one
  next : (stands : List Statement → Type 0) (all : List Statement) (i : ℕ) (s : Statement) → i < length all → s ≡ get_or all i s → IsPassing stands (take i all) (drop i all) all
      → IsPassing stands (take i all) (s ∷ drop (i + 1) all) all
  next stands all i s lt item h =
      let rest : drop i all ≡ s ∷ drop (i + 1) all = drop-cons all i s lt ∙ rw (add-one, ← item) refl in
      subst (λ (r : List Statement). IsPassing stands (take i all) r all) rest h

  pub goes_on : (stood stands : List Statement → Type 0) (all : List Statement) (i : ℕ) (s : Statement) → i < length all → s ≡ get_or all i s → IsPassing stood (take i all) (drop i all) all
      → Takes at stood stands s (Ok tt) → IsPassing stands (take (i + 1) all) (drop (i + 1) all) all
  goes_on stood stands all i s lt item so_far taken =
      let now = next stood all i s lt item so_far in
      let step = taken (take i all) so_far.here in
      let front : take i all ++ s ∷ [] ≡ take (i + 1) all = ap (λ (x : Statement). take i all ++ x ∷ []) item ∙ sym (take_more all i s lt) in
      subst (λ (b : List Statement). IsPassing stands b (drop (i + 1) all) all) front (record {
        here = step.1;
        decides = refused.goes_on at no_end (take i all) (drop (i + 1) all) all s step.0 now.decides;
      })

  pub stops : (stood stands : List Statement → Type 0) (all : List Statement) (i : ℕ) (s : Statement) (e : Fault C) → i < length all → s ≡ get_or all i s → IsPassing stood (take i all) (drop i all) all
      → Takes at stood stands s (Err e) → Reads at stands all (Err e)
  stops stood stands all i s fault.Memory lt item so_far taken = tt
  stops stood stands all i s (fault.Refused line cause) lt item so_far taken =
      never_at_end at no_end all (line, cause) refl ((first_one_is_refused at no_end all (Some (line, cause))).0
      (refused.stops at no_end (take i all) (drop (i + 1) all) all s (line, cause) (taken (take i all) so_far.here) (next stood all i s lt item so_far).decides))

  -- after the last statement
  pub ends : (stands : List Statement → Type 0) (all : List Statement) (i : ℕ) → length all ≤ i → IsPassing stands (take i all) (drop i all) all → Reads at stands all (Ok tt)
  ends stands all i le h =
      let stood : stands all = subst stands (take_all i all le) h.here in
      let decided : Decides at no_end all [] all =
      subst (λ (b : List Statement). Decides at no_end b [] all) (take_all i all le) (subst (λ (r : List Statement). Decides at no_end (take i all) r all) (drop_all i all le) h.decides) in
      (((first_one_is_refused at no_end all None).0 (refused.ends at no_end all decided)).0, stood)
