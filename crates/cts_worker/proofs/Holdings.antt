-- What a hold is, from what enter and leave tell.
use Rattle.std.proofs.Common.{◌≡◌, ℕ, ◌==◌, ◌||◌, Bool, true, false, List, [], ◌∷◌, ◌++◌, length, refl, sym, ◌∙◌, ap, append-nil, append_assoc, eq-eqb, inl, inr}
use Rattle.std.proofs.lemmas.Bool.{eqb-true}
use Rattle.cts_def.specs.Sites.{SiteData}
use Rattle.cts_entry.specs.declared.entry.Entry.{Entry}
use Rattle.cts_entry.specs.declared.why.Why.{Why}
use Rattle.cts_entry.specs.declared.why.Why.TheVariants.{PeerEnded, ReadFault, WriteFault, BadFrame, Stopped, NoMemory, Full}
use Rattle.cts_entry.specs.Histories.{is_connected, is_stopped}
use Rattle.cts_entry.specs.Legal.{StopsAfter, has_ended}
use Rattle.cts_table.specs.States.{Shown}
use Rattle.cts_table.specs.declared.basis.Basis.{Basis}
use Rattle.cts_trace.specs.Makers.{of_maker}
use Rattle.cts_trace.proofs.Looking.{stop_kept}
use Rattle.cts_trace.proofs.Others.{connected_others, ended_others, nothing_own, of_maker_append}
use Rattle.cts_turn.specs.declared.rule.View.{View}
use Rattle.cts_turn.specs.Lists.{AllBy, StartsWith, has}
use Rattle.cts_turn.specs.Passes.{left}
use Rattle.cts_turn.specs.Rule.{entered}
use Rattle.cts_worker.specs.Holds.{Adds, Held, Hold, InHold}
use Rattle.cts_worker.specs.Lasts.{IsShut, MayEnd}

-- ---- the entries of a maker

pub by_one : (by : ℕ) → has by (by ∷ []) ≡ true
by_one by = ap (λ (b : Bool). b || false) (eq-eqb by by refl)

or_none : (b : Bool) → (b || false) ≡ true → b ≡ true
or_none true h = refl
or_none false h = h

-- entries of one maker are of the makers of a pass that has it
pub all_by_one : (m : ℕ) (makers : List ℕ) (new : List Entry) → has m makers ≡ true → AllBy (λ (e : Entry). e.by) (m ∷ []) new → AllBy (λ (e : Entry). e.by) makers new
all_by_one m makers [] mine all = tt
all_by_one m makers (e ∷ new) mine all = (ap (λ (k : ℕ). has k makers) (sym (eqb-true m e.by (or_none (m == e.by) all.0))) ∙ mine, all_by_one m makers new mine all.1)

-- ---- a hold, from its beginning to its end

module _ {G : Type 0} (m : ℕ) (old held : View Entry G) (s : Shown) (enters : held ≡ entered old s.entries) (begins : StartsWith s.entries old.seen)
    (own : (k : ℕ) → has k old.makers ≡ true → of_maker k s.entries ≡ of_maker k old.seen) (mine : has m old.makers ≡ true) where
  pub others_strange : of_maker m begins.0 ≡ []
  others_strange = nothing_own m s.entries old.seen begins.0 begins.1 (own m mine)

  pub kept_connected : is_connected m s.entries ≡ is_connected m old.seen
  kept_connected = ap (is_connected m) begins.1 ∙ connected_others m old.seen begins.0 others_strange

  pub kept_ended : has_ended m s.entries ≡ has_ended m old.seen
  kept_ended = ap (has_ended m) begins.1 ∙ ended_others m old.seen begins.0 others_strange

  pub kept_shut : IsShut m old.seen → IsShut m s.entries
  kept_shut shut = (kept_connected ∙ shut.0, kept_ended ∙ shut.1)

  pub kept_may_end : (site : SiteData) → MayEnd site m old.seen → MayEnd site m s.entries
  kept_may_end site may = record {
    worker = may.worker;
    active = kept_ended ∙ may.active;
    off = elim may.off [
      | inl off ↦ inl (kept_connected ∙ off)
      | inr never ↦ inr never
    ];
  }

  pub kept_stops : (why : Why) → StopsAfter old.seen why → StopsAfter s.entries why
  kept_stops PeerEnded h = tt
  kept_stops ReadFault h = tt
  kept_stops WriteFault h = tt
  kept_stops (BadFrame stage cause) h = tt
  kept_stops Stopped h = ap is_stopped begins.1 ∙ stop_kept old.seen begins.0 h
  kept_stops NoMemory h = tt
  kept_stops Full h = tt

  pub new_by : (t : Shown) → Adds m s t → (new : List Entry) × (t.entries ≡ held.seen ++ new) × AllBy (λ (e : Entry). e.by) held.makers new
  new_by t adds = (
    adds.1.0,
    adds.1.1 ∙ ap (λ (l : List Entry). l ++ adds.1.0) (sym (ap (λ v. v.seen) enters)),
    all_by_one m held.makers adds.1.0 (ap (λ (l : List ℕ). has m l) (ap (λ v. v.makers) enters) ∙ mine) adds.1.2,
  )

  pub nothing_new : (new : List Entry) × (s.entries ≡ held.seen ++ new) × AllBy (λ (e : Entry). e.by) held.makers new
  nothing_new = ([], sym (ap (λ v. v.seen) enters) ∙ sym (append-nil held.seen), tt)

  abbrev pub a_held : (t : Shown) (new : View Entry G) → new ≡ left held t.entries → Held m old new s t
  a_held t new leaves = record {
    others = begins.0;
    strange = others_strange;
    began = begins.1;
    seen = ap (λ v. v.seen) leaves;
    found = ap (λ v. v.found) leaves ∙ ap (λ v. v.found) enters;
    makers = ap (λ v. v.makers) leaves ∙ ap (λ v. v.makers) enters;
  }

-- ---- a hold of halls, and of the views alone

-- where these entries came to the hall, the hold added them
abbrev pub hold_of : {G : Type 0} (m : ℕ) (old new : View Entry G) (s t : Shown) (added : List Entry) → Held m old new s t → t.entries ≡ s.entries ++ added → Hold m old new added
hold_of m old new s t added held grows = record {
  others = held.others;
  strange = held.strange;
  seen = held.seen ∙ (grows ∙ (ap (λ (l : List Entry). l ++ added) held.began ∙ append_assoc old.seen held.others added));
  found = held.found ∙ ap (λ (l : List Entry). old.found ++ length l ∷ []) held.began;
  makers = held.makers;
}

-- the maker's own entries are those that stood and those that were added
pub hold_own : {G : Type 0} (m : ℕ) (old new : View Entry G) (added : List Entry) → Hold m old new added → of_maker m new.seen ≡ of_maker m old.seen ++ of_maker m added
hold_own m old new added hold =
    ap (of_maker m) hold.seen
    ∙ (of_maker_append m old.seen (hold.others ++ added) ∙ ap (λ (l : List Entry). of_maker m old.seen ++ l) (of_maker_append m hold.others added ∙ ap (λ (l : List Entry). l ++ of_maker m added) hold.strange))

-- a hall over this basis with these entries and no room
abbrev pub shown_as : Basis → List Entry → Shown
shown_as base entries = record { basis = base; entries = entries; spare_entries = 0; spare_bytes = 0 }

-- a hold that added entries is one of halls to which they came
pub in_hold : {G : Type 0} (base : Basis) (m : ℕ) (old new : View Entry G) (added : List Entry) → (hold : Hold m old new added)
    → InHold base m old new (λ s t. (t.basis ≡ s.basis) × (s.entries ≡ old.seen ++ hold.others) × (t.entries ≡ s.entries ++ added))
in_hold base m old new added hold = (
  shown_as base (old.seen ++ hold.others),
  shown_as base ((old.seen ++ hold.others) ++ added),
  refl,
  record {
    others = hold.others;
    strange = hold.strange;
    began = refl;
    seen = hold.seen ∙ sym (append_assoc old.seen hold.others added);
    found = hold.found;
    makers = hold.makers;
  },
  (refl, refl, refl),
)

-- a hold that only looked left the hall as it was
pub looked_in : {G : Type 0} (base : Basis) (m : ℕ) (old new : View Entry G) → Hold m old new [] → InHold base m old new (λ s t. (t ≡ s) × (s.entries ≡ new.seen))
looked_in base m old new hold =
    let same : old.seen ++ hold.others ≡ new.seen = sym (hold.seen ∙ ap (λ (l : List Entry). old.seen ++ l) (append-nil hold.others)) in (
      shown_as base (old.seen ++ hold.others),
      shown_as base (old.seen ++ hold.others),
      refl,
      record { others = hold.others; strange = hold.strange; began = refl; seen = sym same; found = hold.found; makers = hold.makers },
      (refl, same),
    )
