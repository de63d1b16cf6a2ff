-- What was added to a list, if anything.
use Rattle.std.proofs.Common.{◌≡◌, ℕ, Bool, true, false, List, [], ◌++◌, sym, ◌∙◌, append-nil}
use Rattle.std.specs.Prelude.{MatchBool}
use Rattle.cts_entry.specs.declared.entry.Entry.{Entry}
use Rattle.cts_turn.specs.Lists.{AllBy}

pub added_either : (b : Bool) (makers : List ℕ) (items seen added : List Entry) → AllBy (λ (e : Entry). e.by) makers added
    → MatchBool b (items ≡ seen ++ added) (items ≡ seen) → (new : List Entry) × (items ≡ seen ++ new) × AllBy (λ (e : Entry). e.by) makers new
added_either true makers items seen added all m = (added, m, all)
added_either false makers items seen added all m = ([], m ∙ sym (append-nil seen), tt)

pub match_bool : (b : Bool) (A B C D : Type 0) → (A → C) → (B → D) → MatchBool b A B → MatchBool b C D
match_bool true A B C D f h m = f m
match_bool false A B C D f h m = h m
