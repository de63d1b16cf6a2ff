-- Lists that a hall may keep, and beginnings of them.
use Rattle.std.proofs.Common.{◌≡◌, ℕ, zero, suc, ◌+◌, ◌≤◌, List, [], ◌∷◌, ◌++◌, length, Some, slice_get, fold, refl, ap, sym, ◌∙◌, subst, arith, append-nil, append_assoc, length-append}
use Rattle.std.proofs.lemmas.List.Sums.{sum_by-append}
use mathlib.Core.List.{IsPrefix}
use Rattle.cts_def.specs.Sites.{SiteData}
use Rattle.cts_entry.specs.declared.entry.Entry.{Entry}
use Rattle.cts_entry.specs.Histories.{entries_for, bytes_for}
use Rattle.cts_entry.specs.declared.what.What.{What}
use Rattle.cts_entry.specs.declared.what.What.TheVariants.{Opened, Packet, Closed, Command, SetLimits, Enable, LimitsSetIs, Injected, Unrouted, Stop, Ended}
use Rattle.cts_entry.specs.Legal.{Rules, Allows, IsAllowed, AllAllowed}
use Rattle.cts_table.specs.declared.basis.Basis.{Basis}
use Rattle.cts_table.specs.Keeping.{rules_of, IsOfSite, AllOfSite, IsKept}
use Rattle.cts_table.specs.States.{Shown, CanAdd, added, with_room}
use Rattle.cts_book.proofs.Fronts.{prefix_self, prefix_shorter, prefix_trans, prefix_whole}
use Rattle.cts_snap.specs.Copies.{EndsWith, FitsIn, IsWriting, Next, Writes}

-- of two beginnings of one list, of which the second is one longer and ends with e, the second is the first and e
pub next_is : (xs ys both : List Entry) (e : Entry) → IsPrefix xs both → IsPrefix ys both → EndsWith ys e → length ys ≡ length xs + 1 → ys ≡ xs ++ e ∷ []
next_is xs ys both e p q ends len =
    let before = ends.0 in
    let here : length ys ≡ length before + 1 = ap length ends.1 ∙ length-append before (e ∷ []) in
    let first : IsPrefix xs ys = prefix_shorter xs ys both p q (omega arith) in
    let second : IsPrefix before ys = (e ∷ [], sym ends.1) in
    let same : before ≡ xs = prefix_whole before xs (prefix_shorter before xs ys second first (omega arith)) (omega arith) in
    ends.1 ∙ ap (λ (l : List Entry). l ++ e ∷ []) same

pub last_allowed : (r : Rules) (before h : List Entry) (e : Entry) → AllAllowed r before (h ++ e ∷ []) → IsAllowed r (before ++ h) e
last_allowed r before [] e k = subst (λ (l : List Entry). IsAllowed r l e) (sym (append-nil before)) k.0
last_allowed r before (x ∷ h) e k = subst (λ (l : List Entry). IsAllowed r l e) (append_assoc before (x ∷ []) h) (last_allowed r (before ++ x ∷ []) h e k.1)

pub last_of_site : (site : SiteData) (before h : List Entry) (e : Entry) → AllOfSite site before (h ++ e ∷ []) → IsOfSite site (before ++ h) e
last_of_site site before [] e k = subst (λ (l : List Entry). IsOfSite site l e) (sym (append-nil before)) k.0
last_of_site site before (x ∷ h) e k = subst (λ (l : List Entry). IsOfSite site l e) (append_assoc before (x ∷ []) h) (last_of_site site (before ++ x ∷ []) h e k.1)

front_allowed : (r : Rules) (before xs ys : List Entry) → AllAllowed r before (xs ++ ys) → AllAllowed r before xs
front_allowed r before [] ys k = tt
front_allowed r before (x ∷ xs) ys k = (k.0, front_allowed r (before ++ x ∷ []) xs ys k.1)

front_of_site : (site : SiteData) (before xs ys : List Entry) → AllOfSite site before (xs ++ ys) → AllOfSite site before xs
front_of_site site before [] ys k = tt
front_of_site site before (x ∷ xs) ys k = (k.0, front_of_site site (before ++ x ∷ []) xs ys k.1)

both_kept : (b : Basis) (xs ys : List Entry) → IsKept b (xs ++ ys) → IsKept b xs
both_kept b xs ys k =
    let n = sum_by-append (λ (e : Entry). entries_for e.what) xs ys in
    let m = sum_by-append (λ (e : Entry). bytes_for e.what) xs ys in
    let few = k.legal.entries in
    let small = k.legal.bytes in
    record {
      legal = record { each = front_allowed (rules_of b) [] xs ys k.legal.each; entries = omega arith; bytes = omega arith };
      of_site = front_of_site b.site [] xs ys k.of_site;
    }

-- a beginning of a list that a hall may keep
pub kept_front : (b : Basis) (xs ys : List Entry) → IsPrefix xs ys → IsKept b ys → IsKept b xs
kept_front b xs ys p k = both_kept b xs p.0 (subst (IsKept b) (sym p.1) k)

-- the rules with other limits
abbrev with_limits : Rules → ℕ → ℕ → Rules
with_limits r n m = record r { most_entries = n; most_bytes = m }

-- what may be said does not depend on the limits
says_so : (r : Rules) (n m : ℕ) (before : List Entry) (by : ℕ) (w : What) → Allows r before by w → Allows (with_limits r n m) before by w
says_so r n m before by Opened h = h
says_so r n m before by (Packet ident stored bytes) h = h
says_so r n m before by (Closed why loss unposted unsent) h = h
says_so r n m before by (Command interface command bytes) h = h
says_so r n m before by (SetLimits enabled packet item persistence set limits) h = h
says_so r n m before by (Enable packet item enabled) h = h
says_so r n m before by (LimitsSetIs set) h = h
says_so r n m before by (Injected packet bytes) h = h
says_so r n m before by (Unrouted why bytes) h = h
says_so r n m before by Stop h = h
says_so r n m before by Ended h = h

allowed_so : (r : Rules) (n m : ℕ) (before es : List Entry) → AllAllowed r before es → AllAllowed (with_limits r n m) before es
allowed_so r n m before [] k = tt
allowed_so r n m before (e ∷ es) k = (record { active = k.0.active; says = says_so r n m before e.by e.what k.0.says }, allowed_so r n m (before ++ e ∷ []) es k.1)

-- what a hall may keep, one over the same site with limits that are no smaller may keep too
pub kept_in : (b c : Basis) (xs : List Entry) → FitsIn b c → IsKept b xs → IsKept c xs
kept_in b c xs f k = record {
  legal = record {
    each = subst (λ (s : SiteData). AllAllowed (with_limits (rules_of (record b { site = s })) c.entries c.bytes) [] xs) f.site (allowed_so (rules_of b) c.entries c.bytes [] xs k.legal.each);
    entries = (let n = k.legal.entries in let m = f.entries in omega arith);
    bytes = (let n = k.legal.bytes in let m = f.bytes in omega arith);
  };
  of_site = subst (λ (s : SiteData). AllOfSite s [] xs) f.site k.of_site;
}

pub ends_at : (n : ℕ) (ys zs : List Entry) (e : Entry) → IsPrefix ys zs → length ys ≡ n + 1 → slice_get zs n ≡ Some e → EndsWith ys e
ends_at zero [] zs e p len at = absurd (omega arith)
ends_at zero (y ∷ []) [] e p len at = absurd (cc (p.1))
ends_at zero (y ∷ []) (z ∷ zs) e p len at = ([], cc (p.1, at))
ends_at zero (y ∷ x ∷ ys) zs e p len at = absurd (omega arith)
ends_at (suc n) [] zs e p len at = absurd (omega arith)
ends_at (suc n) (y ∷ ys) [] e p len at = absurd (cc (p.1))
ends_at (suc n) (y ∷ ys) (z ∷ zs) e p len at =
    let r = ends_at n ys zs e (p.0, cc (p.1)) (omega arith) at in
    (y ∷ r.0, ap (λ (l : List Entry). y ∷ l) r.1)

-- a beginning, with the element that comes next
pub one_more : (xs zs : List Entry) (n : ℕ) (e : Entry) → IsPrefix xs zs → length xs ≡ n → slice_get zs n ≡ Some e → IsPrefix (xs ++ e ∷ []) zs
one_more [] [] zero e p len at = absurd cc
one_more [] (z ∷ zs) zero e p len at = (zs, cc (at))
one_more [] zs (suc n) e p len at = absurd (omega arith)
one_more (x ∷ xs) zs zero e p len at = absurd (omega arith)
one_more (x ∷ xs) [] (suc n) e p len at = absurd (cc (p.1))
one_more (x ∷ xs) (z ∷ zs) (suc n) e p len at =
    let r = one_more xs zs n e (p.0, cc (p.1)) (omega arith) at in
    (r.0, cc (p.1, r.1))

-- where each step leaves the list of what it takes in, so does the last of several
pub fold_takes : (f : List Entry → Next → List Entry) → ((list : List Entry) (next : Next) → f list next ≡ next.list) → (xs : List Entry) (ops : List Next) (op : Next) → fold f xs (ops ++ op ∷ []) ≡ op.list
fold_takes f takes xs [] op = takes xs op
fold_takes f takes xs (o ∷ ops) op = fold_takes f takes (f xs o) ops op

pub prefix_eq : (xs ys : List Entry) → xs ≡ ys → IsPrefix xs ys
prefix_eq xs ys e = ([], append-nil xs ∙ e)

-- a hall takes the entry with which a kept list goes on
pub can_take : (s t : Shown) (b : Basis) (front : List Entry) (e : Entry) → s.basis ≡ b → t ≡ with_room s (entries_for e.what) (bytes_for e.what) → IsKept b front → front ≡ s.entries ++ e ∷ [] → CanAdd t e
can_take s t b front e base room kept is =
    let k : IsKept s.basis (s.entries ++ e ∷ []) = subst (λ (x : Basis). IsKept x (s.entries ++ e ∷ [])) (sym base) (subst (IsKept b) is kept) in
    subst (λ (x : Shown). CanAdd x e) (sym room)
    (record {
      allowed = last_allowed (rules_of s.basis) [] s.entries e k.legal.each;
      of_site = last_of_site s.basis.site [] s.entries e k.of_site;
      entry = omega arith;
      bytes = omega arith;
    })

pub has_taken : (s t u : Shown) (b : Basis) (front : List Entry) (e : Entry) → s.basis ≡ b → t ≡ with_room s (entries_for e.what) (bytes_for e.what) → u ≡ added t e → front ≡ s.entries ++ e ∷ [] → (u.basis ≡ b) × (front ≡ u.entries)
has_taken s t u b front e base room more is = (
  ap (λ (x : Shown). x.basis) more ∙ (ap (λ (x : Shown). x.basis) room ∙ base),
  is ∙ sym (ap (λ (x : Shown). x.entries) more ∙ ap (λ (x : Shown). x.entries ++ e ∷ []) room),
)

-- the book gets one entry ahead
pub noted : (b : Basis) (w : Writes) (all list : List Entry) (n : ℕ) (e : Entry) → IsWriting b w → IsPrefix w.list all → IsKept b all → length w.list ≡ n → length w.waiting ≡ n → slice_get all n ≡ Some e → list ≡ w.list ++ e ∷ []
    → IsWriting b (record w { list = list }) × IsPrefix list all
noted b w all list n e k p kept long here at is =
    let more : IsPrefix (w.list ++ e ∷ []) all = one_more w.list all n e p long at in
    let ahead = length-append w.list (e ∷ []) in
    subst (λ (l : List Entry). IsWriting b (record w { list = l }) × IsPrefix l all) (sym is) (
      record { shown = k.shown; begins = prefix_trans w.waiting w.list (w.list ++ e ∷ []) k.begins (e ∷ [], refl); ahead = omega arith; kept = kept_front b (w.list ++ e ∷ []) all more kept },
      more,
    )

-- what waits is all of the book
pub listed : (b : Basis) (w : Writes) (waiting : List Entry) → IsWriting b w → waiting ≡ w.list → IsWriting b (record w { waiting = waiting })
listed b w waiting k is = subst (λ (l : List Entry). IsWriting b (record w { waiting = l })) (sym is)
    (record { shown = prefix_trans w.published w.waiting w.list k.shown k.begins; begins = prefix_self w.list; ahead = omega arith; kept = k.kept })

-- what waited is published
pub showed : (b : Basis) (w : Writes) (published : List Entry) → IsWriting b w → published ≡ w.waiting → IsWriting b (record w { published = published })
showed b w published k is = subst (λ (l : List Entry). IsWriting b (record w { published = l })) (sym is) (record { shown = prefix_self w.waiting; begins = k.begins; ahead = k.ahead; kept = k.kept })
