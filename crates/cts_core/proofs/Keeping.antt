-- What is kept of a maker's connection after an event.
use Rattle.std.proofs.Common.{◌≡◌, ℕ, ◌+◌, Bool, List, [], ◌++◌, Option, Some, None, ◌∙◌, ap, arith, append-nil}
use Rattle.cts_entry.specs.declared.entry.Entry.{Entry}
use Rattle.cts_entry.specs.declared.event.Event.{Event}
use Rattle.cts_entry.specs.Histories.{latest, connects_maker}
use Rattle.cts_core.specs.Runs.{kept, pieces_for, passed_for, pieces_after, cursor_after}

-- where it is opened or closed, nothing is

pub pieces_turned : (m : ℕ) (event : Event) (entries : List Entry) (pieces : ℕ → List (List ℕ)) (opened : Bool) → latest (connects_maker m) entries ≡ Some opened → pieces_after event entries pieces m ≡ []
pieces_turned m event entries pieces opened tells = ap (λ (t : Option Bool). kept t [] (pieces m ++ pieces_for m event)) tells

pub cursor_turned : (m : ℕ) (event : Event) (entries : List Entry) (cursor : ℕ → ℕ) (opened : Bool) → latest (connects_maker m) entries ≡ Some opened → cursor_after event entries cursor m ≡ 0
cursor_turned m event entries cursor opened tells = ap (λ (t : Option Bool). kept t 0 (cursor m + passed_for m event)) tells

-- else it grows by what the event brings

pub pieces_grow : (m : ℕ) (event : Event) (entries : List Entry) (pieces : ℕ → List (List ℕ)) → latest (connects_maker m) entries ≡ None → pieces_after event entries pieces m ≡ pieces m ++ pieces_for m event
pieces_grow m event entries pieces none = ap (λ (t : Option Bool). kept t [] (pieces m ++ pieces_for m event)) none

pub cursor_grows : (m : ℕ) (event : Event) (entries : List Entry) (cursor : ℕ → ℕ) → latest (connects_maker m) entries ≡ None → cursor_after event entries cursor m ≡ cursor m + passed_for m event
cursor_grows m event entries cursor none = ap (λ (t : Option Bool). kept t 0 (cursor m + passed_for m event)) none

-- and stays, where it brings nothing

pub pieces_stay : (m : ℕ) (event : Event) (entries : List Entry) (pieces : ℕ → List (List ℕ)) → latest (connects_maker m) entries ≡ None → pieces_for m event ≡ [] → pieces_after event entries pieces m ≡ pieces m
pieces_stay m event entries pieces none p = pieces_grow m event entries pieces none ∙ (ap (λ (l : List (List ℕ)). pieces m ++ l) p ∙ append-nil (pieces m))

pub cursor_stays : (m : ℕ) (event : Event) (entries : List Entry) (cursor : ℕ → ℕ) → latest (connects_maker m) entries ≡ None → passed_for m event ≡ 0 → cursor_after event entries cursor m ≡ cursor m
cursor_stays m event entries cursor none p = let grows = cursor_grows m event entries cursor none in omega (arith, grows, p)
