-- What the history says when the entries of an event are appended.
use Rattle.std.proofs.Common.{◌≡◌, ℕ, ◌+◌, Bool, true, false, List, ◌++◌, None, refl, sym, ◌∙◌, ap}
use Rattle.std.specs.Prelude.{◌≢◌, Option, if◌then◌else◌}
use Rattle.std.proofs.lemmas.Bool.{eq-eqb, ne_eqb}
use Rattle.cts_entry.specs.declared.entry.Entry.{Entry}
use Rattle.cts_entry.specs.Histories.{connects, connects_maker, entries_in, bytes_in}
use Rattle.cts_entry.proofs.Appending.{entries-append, bytes-append}

pub entries_grow : (history entries : List Entry) (n : ℕ) → entries_in entries ≡ n → entries_in (history ++ entries) ≡ entries_in history + n
entries_grow history entries n h = entries-append history entries ∙ ap (λ t. entries_in history + t) h

pub bytes_grow : (history entries : List Entry) (n : ℕ) → bytes_in entries ≡ n → bytes_in (history ++ entries) ≡ bytes_in history + n
bytes_grow history entries n h = bytes-append history entries ∙ ap (λ t. bytes_in history + t) h

-- an entry tells its own maker whether it is connected, and no other

pub tells_maker : (by : ℕ) (e : Entry) → e.by ≡ by → connects_maker by e ≡ connects e.what
tells_maker by e same = ap (λ (b : Bool). if b then connects e.what else None) (eq-eqb e.by by same)

pub tells_no_other : (k : ℕ) (e : Entry) → k ≢ e.by → connects_maker k e ≡ None
tells_no_other k e other = ap (λ (b : Bool). if b then connects e.what else None) (ne_eqb e.by k (λ same. other (sym same)))

pub either_way : (b : Bool) (o : Option Bool) → (if b then o else o) ≡ o
either_way true o = refl
either_way false o = refl
