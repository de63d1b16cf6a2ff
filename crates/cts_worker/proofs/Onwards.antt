-- Holds of a pass, one after another.
use Rattle.std.proofs.Common.{◌≡◌, ℕ, List, [], ◌∷◌, ◌++◌, length, refl, sym, ◌∙◌, ap, append-nil, append_assoc}
use Rattle.cts_entry.specs.declared.entry.Entry.{Entry}
use Rattle.cts_turn.specs.declared.rule.View.{View}
use Rattle.cts_worker.specs.Holds.{Hold, Onward}

pub onward_same : {G : Type 0} (v : View Entry G) → Onward v v
onward_same v = record { makers = refl; seen = ([], sym (append-nil v.seen)); found = ([], sym (append-nil v.found)) }

pub onward_then : {G : Type 0} (a b c : View Entry G) → Onward a b → Onward b c → Onward a c
onward_then a b c x y = record {
  makers = y.makers ∙ x.makers;
  seen = (x.seen.0 ++ y.seen.0, y.seen.1 ∙ (ap (λ (l : List Entry). l ++ y.seen.0) x.seen.1 ∙ append_assoc a.seen x.seen.0 y.seen.0));
  found = (x.found.0 ++ y.found.0, y.found.1 ∙ (ap (λ (l : List ℕ). l ++ y.found.0) x.found.1 ∙ append_assoc a.found x.found.0 y.found.0));
}

pub onward_hold : {G : Type 0} (m : ℕ) (old new : View Entry G) (added : List Entry) → Hold m old new added → Onward old new
onward_hold m old new added hold = record { makers = hold.makers; seen = (hold.others ++ added, hold.seen); found = (length (old.seen ++ hold.others) ∷ [], hold.found) }
