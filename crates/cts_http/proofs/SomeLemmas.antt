-- No list of bytes lacks a list of requests.
use Rattle.std.proofs.Common.{◌≡◌, ℕ, zero, suc, ◌+◌, ◌-◌, ◌<◌, ◌≤◌, ◌⊎◌, inl, inr, ⊎_elim, Bool, true, false, List, [], ◌∷◌, ◌++◌, length, take, drop, refl, sym, ap, ◌∙◌, subst, arith, append_assoc, append-nil, length-append, Option, Some, None}
use Rattle.std.proofs.lemmas.Bool.{cases_lt}
use Rattle.std.proofs.lemmas.List.{take-append-le, take-append-drop, length-take, length-take-le}
use Rattle.std.proofs.Math.Seq.{take-append-add, take-append_seam}
use Rattle.httparse.specs.Grammar.{RequestHead, ReadsRequest, print_request, NeverHasRequest, MayBecomeRequest}
use Rattle.cts_http.specs.Heads.{parts, refusal_of, is_last, lengths, length_of, most_head}
use Rattle.cts_http.specs.Requests.{HasHead, HasNoHead, Accepts, Waits, Refuses, Requests, Ending, Closed, Waiting, Refused}
use Rattle.cts_http.specs.Laws.{NoneLacksRequests}
use Rattle.cts_http.proofs.RoomLemmas.{request-length}

-- a head that some bytes complete is in the bytes, or goes on beyond them
in_or_beyond : (b more : List ℕ) (h : RequestHead) (rest : List ℕ) → ReadsRequest (take most_head b ++ more) h rest
    → ((after : List ℕ) × HasHead b h after) ⊎ ((m : List ℕ) × ReadsRequest (take most_head b ++ m) h [])
in_or_beyond b more h rest x =
    let f = take most_head b in
    let p = print_request h in
    let front : take (length p) (f ++ more) ≡ p = ap (take (length p)) x.1 ∙ take-append_seam p rest in
    ⊎_elim (λ (beyond : length f < length p).
    let n : length p ≡ length f + (length p - length f) = omega (arith, beyond) in
    let cut : f ++ take (length p - length f) more ≡ p = sym (ap (λ k. take k (f ++ more)) n ∙ take-append-add f more (length p - length f)) ∙ front in
    inr (take (length p - length f) more, (x.0, cut ∙ sym (append-nil p))))
    (λ (within : length p ≤ length f).
    let start : take (length p) f ≡ p = sym (take-append-le (length p) f more within) ∙ front in
    let whole : b ≡ p ++ (drop (length p) f ++ drop most_head b) =
    sym (take-append-drop most_head b)
    ∙ (ap (λ v. v ++ drop most_head b) (sym (take-append-drop (length p) f) ∙ ap (λ v. v ++ drop (length p) f) start)
    ∙ append_assoc p (drop (length p) f) (drop most_head b)) in
    inl (drop (length p) f ++ drop most_head b, record { reads = (x.0, whole); short = omega (arith, within, length-take most_head b) }))
    (cases_lt (length f) (length p))

-- no bytes are neither the beginning of a head nor never one
begins_or_never : (b : List ℕ) → HasNoHead b → ¬ (¬ (MayBecomeRequest (take most_head b) ⊎ NeverHasRequest (take most_head b)))
begins_or_never b none k =
    k (inr (λ more h rest x. ⊎_elim (λ (y : (after : List ℕ) × HasHead b h after). none h y.0 y.1)
    (λ (y : (m : List ℕ) × ReadsRequest (take most_head b ++ m) h []). k (inl (inl (y.0, h, y.1))))
    (in_or_beyond b more h rest x)))

-- ---- what bytes begin with

data Begun (b : List ℕ) : Type 0 where
  accepts : (body : List ℕ) (last : Bool) (rest : List ℕ) → Accepts b body last rest → Begun b
  waits : Waits b → Begun b
  refuses : (status : ℕ) → Refuses b status → Begun b

begun_head : (b : List ℕ) (h : RequestHead) (after : List ℕ) → HasHead b h after → (r : Option ℕ) → refusal_of h.method (parts h) ≡ r → Begun b
begun_head b h after x (Some status) e = refuses status (inr (inr (record { head = h; after = after; whole = x; refused = e })))
begun_head b h after x None e =
    let n = length_of (lengths (parts h)) in
    ⊎_elim (λ (few : length after < n). waits (inr (record { head = h; after = after; whole = x; accepted = e; lacks = few })))
    (λ (enough : n ≤ length after).
    accepts (take n after) (is_last h.minor (parts h)) (drop n after) (record {
      head = h;
      whole = subst (HasHead b h) (sym (take-append-drop n after)) x;
      accepted = e;
      long = length-take-le n after enough;
      last_is = refl;
    }))
    (cases_lt (length after) n)

begun_none : (b : List ℕ) → HasNoHead b → MayBecomeRequest (take most_head b) ⊎ NeverHasRequest (take most_head b) → Begun b
begun_none b none (inr never) = refuses 400 (inl (record { none = none; never = never; status_is = refl }))
begun_none b none (inl may) =
    ⊎_elim (λ (long : most_head < length b). refuses 431 (inr (inl (record { none = none; may = may; long = long; status_is = refl }))))
    (λ (short : length b ≤ most_head). waits (inl (record { none = none; may = may; short = short })))
    (cases_lt most_head (length b))

none_unbegun : (b : List ℕ) → ¬ (¬ (Begun b))
none_unbegun b k =
    let none : HasNoHead b = λ h after x. k (begun_head b h after x (refusal_of h.method (parts h)) refl) in
    begins_or_never b none (λ y. k (begun_none b none y))

-- ---- all requests

abbrev Has : List ℕ → Type 0
Has b = (bodies : List (List ℕ)) × (ending : Ending) × Requests b bodies ending

-- an accepted request leaves fewer bytes
leaves : (b body : List ℕ) (last : Bool) (rest : List ℕ) → Accepts b body last rest → length rest < length b
leaves b body last rest x =
    let long = request-length x.head x.whole.reads.0 in
    let n = ap length x.whole.reads.1 in
    omega (arith, long, n, length-append (print_request x.head) (body ++ rest), length-append body rest)

one_before : (b body : List ℕ) (rest : List ℕ) → Accepts b body false rest → Has rest → Has b
one_before b body rest x y = (body ∷ y.0, y.1, (y.2.0, y.2.1, (false, rest, x, y.2.2), y.2.3))

last_one : (b body : List ℕ) (rest : List ℕ) → Accepts b body true rest → Has b
last_one b body rest x = (body ∷ [], Closed, (true, rest, (true, rest, x, (refl, refl)), refl))

begun_has : (b : List ℕ) → ((rest : List ℕ) → length rest < length b → ¬ (¬ (Has rest))) → ¬ (Has b) → ¬ (Begun b)
begun_has b shorter k (waits w) = k ([], Waiting b, (false, b, (refl, refl), (refl, refl, w)))
begun_has b shorter k (refuses status r) = k ([], Refused status, (false, b, (refl, refl), (refl, r)))
begun_has b shorter k (accepts body true rest x) = k (last_one b body rest x)
begun_has b shorter k (accepts body false rest x) = shorter rest (leaves b body false rest x) (λ y. k (one_before b body rest x y))

none_lacks : (n : ℕ) (b : List ℕ) → length b < n → ¬ (¬ (Has b))
none_lacks zero b l k = omega (arith, l)
none_lacks (suc n) b l k = none_unbegun b (begun_has b (λ rest less. none_lacks n rest (omega (arith, less, l))) k)

pub none_lacks_requests : NoneLacksRequests
none_lacks_requests b = none_lacks (suc (length b)) b (omega arith)
