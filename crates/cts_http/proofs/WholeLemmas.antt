-- The requests of all bytes, one after another.
use Rattle.std.proofs.Common.{◌≡◌, ℕ, ◌+◌, ◌<◌, ◌≤◌, true, false, List, [], ◌∷◌, ◌++◌, length, drop, slice_range, refl, sym, ap, ◌∙◌, subst, arith, length-append, length-drop, inr}
use Rattle.std.proofs.lemmas.List.{drop-drop}
use Rattle.httparse.specs.Grammar.{print_request}
use Rattle.cts_http.specs.declared.step.HttpStep.{HttpStep}
use Rattle.cts_http.specs.declared.step.HttpStep.TheVariants.{Request, More, Refuse}
use Rattle.cts_http.specs.declared.judge.Accepted.{Accepted}
use Rattle.cts_http.specs.Requests.{Waits, Refuses, Takes, Closed, Waiting, Refused}
use Rattle.cts_http.specs.Judgements.{HasAccepted}
use Rattle.cts_http.specs.Readings.{Counts}
use Rattle.cts_http.proofs.JudgeLemmas.{accepts_of}
use Rattle.cts_http.proofs.ReadingLemmas.{follow_snoc}
use Rattle.cts_http.proofs.RoomLemmas.{request-length}

-- so many requests were taken, and these bytes are left
pub record Counted (b : List ℕ) (count : ℕ) (left : List ℕ) : Type 0 where
  pub bodies : List (List ℕ)
  pub takes : Takes b bodies false left
  pub count_is : count ≡ length bodies
  pub fits : count + length left ≤ length b

pub counted_none : (b : List ℕ) → Counted b 0 b
counted_none b = record { bodies = []; takes = (refl, refl); count_is = refl; fits = omega arith }

abbrev told : ℕ → HttpStep → ℕ × HttpStep
told count step = (count, step)

told_is : (count n : ℕ) (step : HttpStep) → count ≡ n → told count step ≡ told n step
told_is count n step e = ap (λ k. told k step) e

pub waits_counts : (b : List ℕ) (count : ℕ) (left : List ℕ) → Counted b count left → Waits left → Counts b (count, More)
waits_counts b count left c w = (c.bodies, Waiting left, (false, left, c.takes, (refl, refl, w)), told_is count (length c.bodies) More c.count_is)

pub refuses_counts : (b : List ℕ) (count : ℕ) (left : List ℕ) (status : ℕ) → Counted b count left → Refuses left status → Counts b (count, Refuse status)
refuses_counts b count left status c r = (c.bodies, Refused status, (false, left, c.takes, (refl, r)), told_is count (length c.bodies) (Refuse status) c.count_is)

-- a head is no empty text
pub head_long : (b : List ℕ) (a : Accepted) → HasAccepted b a → 1 ≤ a.start
head_long b a x =
    let long = request-length x.head x.whole.reads.0 in
    let n = ap length x.whole.reads.1 in
    let m = length-append (print_request x.head) (drop a.start b) in
    let k = length-drop a.start b in
    omega (arith, long, n, m, k, x.fits)

pub smaller : (b : List ℕ) (a : Accepted) → HasAccepted b a → length (drop a.length (drop a.start b)) < length b
smaller b a x =
    let long = head_long b a x in
    omega (arith, long, length-drop a.start b, length-drop a.length (drop a.start b), x.fits)

-- an accepted head whose body is not there
pub lacks_waits : (b : List ℕ) (a : Accepted) → HasAccepted b a → length (drop a.start b) < a.length → Waits b
lacks_waits b a x few =
    let long = x.long in
    inr (record { head = x.head; after = drop a.start b; whole = x.whole; accepted = x.accepted; lacks = omega (arith, long, few) })

-- one more request
pub snoc_counted : (b : List ℕ) (count : ℕ) (left : List ℕ) (a : Accepted) → Counted b count left → HasAccepted left a → a.length ≤ length (drop a.start left)
    → (bodies : List (List ℕ)) × Takes b bodies a.last (drop a.length (drop a.start left)) × (count + 1 ≡ length bodies)
snoc_counted b count left a c x fits =
    let n = length-drop a.start left in
    let one = accepts_of left a x (omega (arith, n, fits, x.fits)) in
    let body = slice_range left a.start (a.start + a.length) in
    let rest : drop (a.start + a.length) left ≡ drop a.length (drop a.start left) = sym (drop-drop a.length a.start left) in
    let takes = follow_snoc false b c.bodies left body a.last (drop (a.start + a.length) left) c.takes one in
    (c.bodies ++ body ∷ [], subst (Takes b (c.bodies ++ body ∷ []) a.last) rest takes, omega (arith, c.count_is, length-append c.bodies (body ∷ [])))

pub closed_counts : (b : List ℕ) (count : ℕ) (left : List ℕ) (a : Accepted) → Counted b count left → HasAccepted left a → a.length ≤ length (drop a.start left) → a.last ≡ true
    → Counts b (count + 1, Request true)
closed_counts b count left a c x fits l =
    let one = snoc_counted b count left a c x fits in
    (one.0, Closed, (true, _, subst (λ l. Takes b one.0 l (drop a.length (drop a.start left))) l one.1, refl), told_is (count + 1) (length one.0) (Request true) one.2)

pub more_counted : (b : List ℕ) (count : ℕ) (left : List ℕ) (a : Accepted) → Counted b count left → HasAccepted left a → a.length ≤ length (drop a.start left) → a.last ≡ false
    → (body rest : List ℕ) → body ≡ drop a.start left → rest ≡ drop a.length body → Counted b (count + 1) rest
more_counted b count left a c x fits l body rest e f =
    let one = snoc_counted b count left a c x fits in
    let long = head_long left a x in
    let same : rest ≡ drop a.length (drop a.start left) = f ∙ ap (drop a.length) e in
    record {
      bodies = one.0;
      takes = subst (Takes b one.0 false) (sym same) (subst (λ l. Takes b one.0 l (drop a.length (drop a.start left))) l one.1);
      count_is = one.2;
      fits = omega (arith, c.fits, long, fits, ap length same, length-drop a.start left, length-drop a.length (drop a.start left), x.fits);
    }
