-- What a maker's own entries tell of it, and what it may append.
use Rattle.std.proofs.Common.{◌≡◌, ℕ, ◌==◌, Bool, true, false, cond, List, [], ◌∷◌, ◌++◌, Option, Some, None, refl, sym, ◌∙◌, ap, arith, append-nil}
use Rattle.std.specs.Prelude.{if◌then◌else◌, unwrap_or, MatchBool}
use Rattle.cts_def.specs.Sites.{SiteData}
use Rattle.cts_entry.specs.declared.entry.Entry.{Entry}
use Rattle.cts_entry.specs.Histories.{latest, or_earlier, connects, connects_maker, is_connected}
use Rattle.cts_entry.specs.Workers.{is_interface, is_maker}
use Rattle.cts_turn.specs.Lists.{of, AllBy}

or_none : {T : Type 0} (a : Option T) → or_earlier a None ≡ a
or_none (Some a) = refl
or_none None = refl

pub latest_of : (by : ℕ) (es : List Entry) → latest (connects_maker by) es ≡ latest (connects_maker by) (of (λ (e : Entry). e.by) by es)
latest_of by [] = refl
latest_of by (e ∷ es) = by_case (e.by == by) refl (latest_of by es)
  where
    mine : List Entry
    mine = of (λ (x : Entry). x.by) by es

    by_case : (b : Bool) → (e.by == by) ≡ b → latest (connects_maker by) es ≡ latest (connects_maker by) mine → or_earlier (latest (connects_maker by) es) (connects_maker by e) ≡ latest (connects_maker by) (cond b (e ∷ mine) mine)
    by_case true h more = ap (λ (t : Option Bool). or_earlier t (connects_maker by e)) more
    by_case false h more = ap (λ (b : Bool). or_earlier (latest (connects_maker by) es) (if b then connects e.what else None)) h ∙ (or_none (latest (connects_maker by) es) ∙ more)

pub connected_of : (by : ℕ) (xs ys : List Entry) → of (λ (e : Entry). e.by) by xs ≡ of (λ (e : Entry). e.by) by ys → is_connected by xs ≡ is_connected by ys
connected_of by xs ys same = ap (λ (t : Option Bool). unwrap_or t false) (latest_of by xs ∙ (ap (latest (connects_maker by)) same ∙ sym (latest_of by ys)))

pub maker_of : (site : SiteData) (by : ℕ) → is_interface site by ≡ true → is_maker site by ≡ true
maker_of site by line = grind arith

-- what was added, if anything
pub added_either : (b : Bool) (makers : List ℕ) (items seen added : List Entry) → AllBy (λ (e : Entry). e.by) makers added
    → MatchBool b (items ≡ seen ++ added) (items ≡ seen) → (new : List Entry) × (items ≡ seen ++ new) × AllBy (λ (e : Entry). e.by) makers new
added_either true makers items seen added all m = (added, m, all)
added_either false makers items seen added all m = ([], m ∙ sym (append-nil seen), tt)

pub match_bool : (b : Bool) (A B C D : Type 0) → (A → C) → (B → D) → MatchBool b A B → MatchBool b C D
match_bool true A B C D f h m = f m
match_bool false A B C D f h m = h m
