-- One job after another.
use Rattle.std.proofs.Common.{◌≡◌, ℕ, ◌+◌, Bool, List, [], ◌∷◌, ◌++◌, length, count_by, cond, sym, ◌∙◌, ap, subst, arith, append_assoc}
use Rattle.std.specs.List.{AllZip}
use Rattle.cts_outside.specs.Crews.{CancelledFrom}
use Rattle.std.proofs.lemmas.List.{append-nil}
use Rattle.std.proofs.lemmas.List.Sums.{sum_by-append}

AllZip-more : {J E : Type 0} (R : J → E → Type 0) (js : List J) (es : List E) (j : J) (e : E) → AllZip R js es → R j e → AllZip R (js ++ j ∷ []) (es ++ e ∷ [])
AllZip-more R [] [] j e z r = (r, tt)
AllZip-more R [] (f ∷ es) j e z r = absurd z
AllZip-more R (i ∷ js) [] j e z r = absurd z
AllZip-more R (i ∷ js) (f ∷ es) j e z r = (z.0, AllZip-more R js es j e z.1 r)

pub ended_more : {J E : Type 0} (R : J → E → Type 0) (done jobs rest all : List J) (ends : List E) (job : J) (end : E)
    → done ++ jobs ≡ all → jobs ≡ job ∷ rest → AllZip R done ends → R job end → (d : List J) × (d ++ rest ≡ all) × AllZip R d (ends ++ end ∷ [])
ended_more R done jobs rest all ends job end e split z r =
    (done ++ job ∷ [], append_assoc done (job ∷ []) rest ∙ ap (λ (l : List _). done ++ l) (sym split) ∙ e, AllZip-more R done ends job end z r)

pub count_more : {E : Type 0} (p : E → Bool) (ends : List E) (end : E) (b : Bool) → p end ≡ b → count_by p (ends ++ end ∷ []) ≡ count_by p ends + cond b 1 0
count_more p ends end b h =
    omega (arith, sum_by-append (λ x. cond (p x) 1 0) ends (end ∷ []), ap {B = ℕ} (λ (v : Bool). cond v 1 0) h)

-- all jobs are started, and none is joined
pub joined_none : {J S E : Type 0} (R : J → E → Type 0) (Q : J → S → Type 0) (started left all : List J) (ends : List E) (starts : List S)
    → left ≡ [] → ends ≡ [] → started ++ left ≡ all → AllZip Q started starts
    → (d r : List J) × (d ++ r ≡ all) × AllZip R d ends × AllZip Q r starts
joined_none R Q started [] all [] starts none fresh e q = ([], started, sym (append-nil started) ∙ e, tt, q)
joined_none R Q started [] all (x ∷ ends) starts none fresh e q = absurd cc
joined_none R Q started (j ∷ left) all ends starts none fresh e q = absurd cc

-- the end of the first start is an end of the first of the jobs that are left
pub joined_more : {J S E : Type 0} (R : J → E → Type 0) (Q : J → S → Type 0) (done rest all : List J) (ends : List E) (starts after : List S) (start : S) (end : E)
    → done ++ rest ≡ all → AllZip R done ends → AllZip Q rest starts → starts ≡ start ∷ after → ((job : J) → Q job start → R job end)
    → (d r : List J) × (d ++ r ≡ all) × AllZip R d (ends ++ end ∷ []) × AllZip Q r after
joined_more R Q done [] all ends [] after start end e z q split r = absurd cc
joined_more R Q done [] all ends (s ∷ starts) after start end e z q split r = absurd q
joined_more R Q done (j ∷ rest) all ends [] after start end e z q split r = absurd q
joined_more R Q done (j ∷ rest) all ends (s ∷ starts) after start end e z q split r =
    let first : s ≡ start = cc in
    let others : starts ≡ after = cc in
    (done ++ j ∷ [], rest, append_assoc done (j ∷ []) rest ∙ e, AllZip-more R done ends j end z (r j (subst (λ (t : _). Q j t) first q.0)), subst (λ (t : List _). AllZip Q rest t) others q.1)

-- no start is left, so no job is
pub joined_all : {J S E : Type 0} (R : J → E → Type 0) (Q : J → S → Type 0) (done rest all : List J) (ends : List E) (starts : List S)
    → starts ≡ [] → done ++ rest ≡ all → AllZip R done ends → AllZip Q rest starts → AllZip R all ends
joined_all R Q done [] all ends [] none e z q = subst (λ (l : List _). AllZip R l ends) (sym (append-nil done) ∙ e) z
joined_all R Q done [] all ends (s ∷ starts) none e z q = absurd q
joined_all R Q done (j ∷ rest) all ends [] none e z q = absurd q
joined_all R Q done (j ∷ rest) all ends (s ∷ starts) none e z q = absurd cc

pub cancelled_more : {E : Type 0} (p : E → Bool) (refused : ℕ → Bool) (n : ℕ) (ends : List E) (end : E)
    → CancelledFrom p refused n ends → p end ≡ refused (n + length ends) → CancelledFrom p refused n (ends ++ end ∷ [])
cancelled_more p refused n [] end c h = (h ∙ ap refused (omega arith), tt)
cancelled_more p refused n (e ∷ ends) end c h = (c.0, cancelled_more p refused (n + 1) ends end c.1 (h ∙ ap refused (omega arith)))
