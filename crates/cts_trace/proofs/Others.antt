-- What a maker's own entries tell, and what entries of others leave of it.
use Rattle.std.proofs.Common.{◌≡◌, ℕ, ◌+◌, ◌==◌, Bool, true, false, cond, ◌&&◌, ◌||◌, List, [], ◌∷◌, ◌++◌, length, Option, Some, None, refl, sym, ◌∙◌, ap, arith, length-append, unwrap_or, eq-eqb, inl, inr}
use Rattle.std.specs.Prelude.{if◌then◌else◌, ◌⊎◌, ◌≢◌}
use Rattle.std.proofs.lemmas.Bool.Decides.{eqb_tells}
use Rattle.std.proofs.lemmas.List.{nil_from_length}
use Rattle.std.proofs.lemmas.List.Elements.{filter-append}
use Rattle.std.proofs.lemmas.List.Folds.{list_any-append}
use Rattle.cts_entry.specs.declared.entry.Entry.{Entry}
use Rattle.cts_entry.specs.Histories.{latest, or_earlier, connects, connects_maker, is_connected, is_of_connection, has_own}
use Rattle.cts_entry.specs.Legal.{has_ended, is_ended}
use Rattle.cts_trace.specs.Laws.{OwnEntriesTell, LastEndedHasEnded}
use Rattle.cts_trace.specs.Makers.{of_maker}
use Rattle.cts_entry.proofs.Queuing.{none_connected}
use Rattle.cts_trace.proofs.Walks.{connected_kept}

-- ---- all entries of a maker

pub of_maker_append : (m : ℕ) (xs ys : List Entry) → of_maker m (xs ++ ys) ≡ of_maker m xs ++ of_maker m ys
of_maker_append m xs ys = filter-append (λ (e : Entry). e.by == m) xs ys

pub of_maker_one : (m : ℕ) (e : Entry) → e.by ≡ m → of_maker m (e ∷ []) ≡ e ∷ []
of_maker_one m e by = ap (λ (b : Bool). cond b (e ∷ []) []) (eq-eqb e.by m by)

-- where a longer history has the same entries of a maker, the further ones are of others
pub nothing_own : (m : ℕ) (whole seen others : List Entry) → whole ≡ seen ++ others → of_maker m whole ≡ of_maker m seen → of_maker m others ≡ []
nothing_own m whole seen others e own =
    let x : ℕ = length (of_maker m seen) in
    let y : ℕ = length (of_maker m others) in
    let len : x + y ≡ x = sym (length-append (of_maker m seen) (of_maker m others)) ∙ ap length (sym (of_maker_append m seen others) ∙ sym (ap (of_maker m) e) ∙ own) in
    nil_from_length (of_maker m others) (let f : y ≡ 0 = omega arith in f)

-- ---- entries of others

pub strange_if : (b : Bool) (e : Entry) (rest : List Entry) → cond b (e ∷ rest) rest ≡ [] → (b ≡ false) × (rest ≡ [])
strange_if true e rest h = absurd (cc h)
strange_if false e rest h = (refl, h)

pub strange_own : (m : ℕ) (es : List Entry) → of_maker m es ≡ [] → has_own m es ≡ false
strange_own m [] none = refl
strange_own m (e ∷ es) none =
    let s = strange_if (e.by == m) e (of_maker m es) none in
    ap (λ (b : Bool). (b && is_of_connection e.what) || has_own m es) s.0 ∙ strange_own m es s.1

pub strange_ended : (m : ℕ) (es : List Entry) → of_maker m es ≡ [] → has_ended m es ≡ false
strange_ended m [] none = refl
strange_ended m (e ∷ es) none =
    let s = strange_if (e.by == m) e (of_maker m es) none in
    ap (λ (b : Bool). (b && is_ended e.what) || has_ended m es) s.0 ∙ strange_ended m es s.1

pub connected_others : (m : ℕ) (history others : List Entry) → of_maker m others ≡ [] → is_connected m (history ++ others) ≡ is_connected m history
connected_others m history others none = connected_kept m history others (none_connected m others (strange_own m others none))

or_false : (a : Bool) → (a || false) ≡ a
or_false true = refl
or_false false = refl

pub ended_others : (m : ℕ) (history others : List Entry) → of_maker m others ≡ [] → has_ended m (history ++ others) ≡ has_ended m history
ended_others m history others none =
    list_any-append (λ (e : Entry). (e.by == m) && is_ended e.what) history others ∙ (ap (λ (b : Bool). has_ended m history || b) (strange_ended m others none) ∙ or_false (has_ended m history))

-- ---- the same entries of a maker say the same of it

or_none : {T : Type 0} (a : Option T) → or_earlier a None ≡ a
or_none (Some a) = refl
or_none None = refl

pub latest_of : (m : ℕ) (es : List Entry) → latest (connects_maker m) es ≡ latest (connects_maker m) (of_maker m es)
latest_of m [] = refl
latest_of m (e ∷ es) = by_case (e.by == m) refl (latest_of m es)
  where
    mine : List Entry
    mine = of_maker m es

    by_case : (b : Bool) → (e.by == m) ≡ b → latest (connects_maker m) es ≡ latest (connects_maker m) mine → or_earlier (latest (connects_maker m) es) (connects_maker m e) ≡ latest (connects_maker m) (cond b (e ∷ mine) mine)
    by_case true h more = ap (λ (t : Option Bool). or_earlier t (connects_maker m e)) more
    by_case false h more = ap (λ (b : Bool). or_earlier (latest (connects_maker m) es) (if b then connects e.what else None)) h ∙ (or_none (latest (connects_maker m) es) ∙ more)

pub connected_of : (m : ℕ) (xs ys : List Entry) → of_maker m xs ≡ of_maker m ys → is_connected m xs ≡ is_connected m ys
connected_of m xs ys same = ap (λ (t : Option Bool). unwrap_or t false) (latest_of m xs ∙ (ap (latest (connects_maker m)) same ∙ sym (latest_of m ys)))

abbrev ends : ℕ → Entry → Bool
ends m e = (e.by == m) && is_ended e.what

own_ended : (m : ℕ) (es : List Entry) → has_ended m es ≡ has_ended m (of_maker m es)
own_ended m [] = refl
own_ended m (e ∷ es) = by_case (e.by == m) refl (own_ended m es)
  where
    mine : List Entry
    mine = of_maker m es

    by_case : (b : Bool) → (e.by == m) ≡ b → has_ended m es ≡ has_ended m mine → (ends m e || has_ended m es) ≡ has_ended m (cond b (e ∷ mine) mine)
    by_case true h more = ap (λ (b : Bool). ends m e || b) more
    by_case false h more = ap (λ (b : Bool). (b && is_ended e.what) || has_ended m es) h ∙ more

pub ended_of : (m : ℕ) (xs ys : List Entry) → of_maker m xs ≡ of_maker m ys → has_ended m xs ≡ has_ended m ys
ended_of m xs ys same = own_ended m xs ∙ (ap (has_ended m) same ∙ sym (own_ended m ys))

pub own_entries_tell : OwnEntriesTell
own_entries_tell m xs ys same = (connected_of m xs ys same, ended_of m xs ys same)

-- ---- the last entry of a maker

same_of : (a b : ℕ) → (a == b) ≡ true → a ≡ b
same_of a b h = by_test (eqb_tells a b)
  where
    by_test : (((a == b) ≡ true) × (a ≡ b)) ⊎ (((a == b) ≡ false) × (a ≢ b)) → a ≡ b
    by_test (inl t) = t.1
    by_test (inr t) = absurd (let f = t.0 in cc)

-- each entry of a maker's is by it
own_last : (m : ℕ) (es : List Entry) (earlier : List Entry) (e : Entry) → of_maker m es ≡ earlier ++ e ∷ [] → e.by ≡ m
own_last m [] earlier e h = none_is earlier h
  where
    none_is : (xs : List Entry) → [] ≡ xs ++ e ∷ [] → e.by ≡ m
    none_is [] h = absurd (cc h)
    none_is (x ∷ xs) h = absurd (cc h)
own_last m (x ∷ es) earlier e h = by_case (x.by == m) refl earlier h (λ xs. own_last m es xs e)
  where
    by_case : (b : Bool) → (x.by == m) ≡ b → (xs : List Entry) → cond b (x ∷ of_maker m es) (of_maker m es) ≡ xs ++ e ∷ [] → ((ys : List Entry) → of_maker m es ≡ ys ++ e ∷ [] → e.by ≡ m) → e.by ≡ m
    by_case true is [] h more = let same : x ≡ e = cc in ap (λ (y : Entry). y.by) (sym same) ∙ same_of x.by m is
    by_case true is (y ∷ xs) h more = let same : of_maker m es ≡ xs ++ e ∷ [] = cc in more xs same
    by_case false is xs h more = more xs h

pub last_ended_has_ended : LastEndedHasEnded
last_ended_has_ended m history last =
    let e = last.1 in
    let by = own_last m history last.0 e last.2 in
    let one : has_ended m (e ∷ []) ≡ true = ap (λ (b : Bool). (b && is_ended e.what) || false) (eq-eqb e.by m by) ∙ ap (λ w. is_ended w || false) last.3 in
    own_ended m history ∙ (ap (has_ended m) last.2 ∙ (list_any-append (ends m) last.0 (e ∷ []) ∙ (ap (λ (b : Bool). has_ended m last.0 || b) one ∙ or_true (has_ended m last.0))))
  where
    or_true : (a : Bool) → (a || true) ≡ true
    or_true true = refl
    or_true false = refl
