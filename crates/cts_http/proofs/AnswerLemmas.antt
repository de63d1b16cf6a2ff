-- What an answer says of all bytes that were fed.
use Rattle.std.proofs.Common.{◌≡◌, ℕ, false, List, refl, sym, ap, ◌∙◌, subst, Option, Some, None, IsTrue}
use Rattle.std.specs.Prelude.{IfSome}
use Rattle.cts_http.specs.declared.step.HttpStep.{HttpStep}
use Rattle.cts_http.specs.declared.step.HttpStep.TheVariants.{Request, More, Refuse}
use Rattle.cts_http.specs.Texts.{is_refusal}
use Rattle.cts_http.specs.Requests.{Takes, Requests, Refused}
use Rattle.cts_http.specs.Readings.{Reading, Stands, Steps, Gives, Answers, HoldsFew, HasStatus, steps_by, stands_by, closes}
use Rattle.cts_http.proofs.ReadingLemmas.{follow_snoc}
use Rattle.cts_http.proofs.LawLemmas.{refuses_known, waiting_is_bounded}

-- ---- an answer to bytes that are not refused

given_answers : (left : List ℕ) (held : ℕ) (step : HttpStep) (new : Reading) → Gives left held step new
    → (b : List ℕ) (bodies : List (List ℕ)) → Takes b bodies false left → Answers b bodies step new
given_answers left held (Request last) new x b bodies takes =
    subst (Answers b bodies (Request last)) (sym x.2) (x.0, refl, refl, follow_snoc false b bodies left x.0 last new.left takes x.1)
given_answers left held More new x b bodies takes =
    subst (Answers b bodies More) (sym x.1) ((false, left, takes, (refl, refl, x.0)), takes)
given_answers left held (Refuse status) new x b bodies takes =
    let refused : Requests b bodies (Refused status) = (false, left, takes, (refl, x.0)) in
    subst (Answers b bodies (Refuse status)) (sym x.1) (refused, refl, refused)

given_few : (left : List ℕ) (held : ℕ) (step : HttpStep) (new : Reading) → Gives left held step new → HoldsFew step new
given_few left held (Request last) new x = tt
given_few left held More new x = subst (HoldsFew More) (sym x.1) (waiting_is_bounded left x.0)
given_few left held (Refuse status) new x = tt

given_status : (left : List ℕ) (held : ℕ) (step : HttpStep) (new : Reading) → Gives left held step new → HasStatus step
given_status left held (Request last) new x = tt
given_status left held More new x = tt
given_status left held (Refuse status) new x = refuses_known left status x.0

given_closed : (left : List ℕ) (held : ℕ) (step : HttpStep) (new : Reading) → Gives left held step new → new.closed ≡ closes step
given_closed left held (Request last) new x = ap (λ (r : Reading). r.closed) x.2
given_closed left held More new x = ap (λ (r : Reading). r.closed) x.1
given_closed left held (Refuse status) new x = ap (λ (r : Reading). r.closed) x.1

-- ---- an answer

answers_by : (refused : Option ℕ) (old : Reading) (step : HttpStep) (new : Reading) → old.refused ≡ refused → old.closed ≡ false → steps_by refused step old new
    → (b : List ℕ) (bodies : List (List ℕ)) → stands_by refused old b bodies → Answers b bodies step new
answers_by None old step new r o x b bodies st =
    given_answers old.left old.held step new x b bodies (subst (λ k. Takes b bodies k old.left) o st)
answers_by (Some status) old step new r o x b bodies st =
    let same : Stands old b bodies = subst (λ k. stands_by k old b bodies) (sym r) st in
    subst (λ s. Answers b bodies s new) (sym x.0) (subst (Answers b bodies (Refuse status)) (sym x.1) (st, r, same))

pub answers : (old : Reading) (step : HttpStep) (new : Reading) → old.closed ≡ false → Steps old step new
    → (b : List ℕ) (bodies : List (List ℕ)) → Stands old b bodies → Answers b bodies step new
answers old step new o x b bodies st = answers_by old.refused old step new refl o x b bodies st

few_by : (refused : Option ℕ) (old : Reading) (step : HttpStep) (new : Reading) → steps_by refused step old new → HoldsFew step new
few_by None old step new x = given_few old.left old.held step new x
few_by (Some status) old step new x = subst (λ s. HoldsFew s new) (sym x.0) tt

pub holds_few : (old : Reading) (step : HttpStep) (new : Reading) → Steps old step new → HoldsFew step new
holds_few old step new x = few_by old.refused old step new x

status_by : (refused : Option ℕ) (old : Reading) (step : HttpStep) (new : Reading) → IfSome refused (λ s. IsTrue (is_refusal s)) → steps_by refused step old new → HasStatus step
status_by None old step new k x = given_status old.left old.held step new x
status_by (Some status) old step new k x = subst HasStatus (sym x.0) k

pub has_status : (old : Reading) (step : HttpStep) (new : Reading) → IfSome old.refused (λ s. IsTrue (is_refusal s)) → Steps old step new → HasStatus step
has_status old step new k x = status_by old.refused old step new k x

closed_by : (refused : Option ℕ) (old : Reading) (step : HttpStep) (new : Reading) → old.closed ≡ false → steps_by refused step old new → new.closed ≡ closes step
closed_by None old step new o x = given_closed old.left old.held step new x
closed_by (Some status) old step new o x = ap (λ (r : Reading). r.closed) x.1 ∙ (o ∙ sym (ap closes x.0))

pub closed_is : (old : Reading) (step : HttpStep) (new : Reading) → old.closed ≡ false → Steps old step new → new.closed ≡ closes step
closed_is old step new o x = closed_by old.refused old step new o x
