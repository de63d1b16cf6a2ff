-- The stream of a connection.
use Rattle.std.proofs.Common.{◌≡◌, ℕ, ◌⊎◌, inl, inr, ⊎_elim, Bool, true, false, List, [], ◌∷◌, ◌++◌, length, take, refl, sym, ap, ◌∙◌, subst, arith, append_assoc, length-append, append-nil, Option}
use Rattle.httparse.specs.Grammar.{print_request, EndsInTarget, print_blank}
use Rattle.httparse.proofs.OpenLemmas.{request_may_from_line, line_blank, BlankLines_after, some_newline}
use Rattle.cts_http.proofs.RoomLemmas.{request-length}
use Rattle.cts_http.specs.Heads.{most_head}
use Rattle.cts_http.specs.Requests.{Accepts, Waits, Follow, Takes, Requests, Ends, Ending, Closed, Refused, Waiting}
use Rattle.cts_http.specs.Streams.{responses, response_with, ending_text}
use Rattle.cts_http.specs.Laws.{EndWithinTarget, HaveOneStream, OneMoreResponse}
use Rattle.cts_http.proofs.ReadingLemmas.{follow_more, follow_snoc, requests_more}
use Rattle.cts_http.proofs.LawLemmas.{one_requests, accepts_one}

-- ---- one stream

pub one_stream : HaveOneStream
one_stream b fronts texts put other x y =
    let one = one_requests b x.0 y.0 x.1 y.1 x.2 y.2 in
    ⊎_elim (λ (same : x.1 ≡ y.1). inl (x.3.put_is ∙ (ap (λ e. responses fronts texts ++ ending_text e) same ∙ sym y.3.put_is)))
    (λ (t : EndWithinTarget b x.0). inr (x.0, t)) one.1

-- ---- one response more

responses_more : (fronts : List ℕ) (texts : List (Option (List ℕ))) (front : ℕ) (text : Option (List ℕ)) → length fronts ≡ length texts
    → responses (fronts ++ front ∷ []) (texts ++ text ∷ []) ≡ responses fronts texts ++ response_with front text
responses_more [] [] front text e = append-nil (response_with front text)
responses_more [] (t ∷ texts) front text e = absurd (omega (arith, e))
responses_more (f ∷ fronts) [] front text e = absurd (omega (arith, e))
responses_more (f ∷ fronts) (t ∷ texts) front text e =
    ap (λ r. response_with f t ++ r) (responses_more fronts texts front text (omega (arith, e)))
    ∙ sym (append_assoc (response_with f t) (responses fronts texts) (response_with front text))

-- no bytes at all wait, and end within no target
nothing_waits : Waits []
nothing_waits = inl (record {
  none = λ h after x.
      let long = request-length h x.reads.0 in
      let n = ap length x.reads.1 in
      let m = length-append (print_request h) after in
      omega (arith, long, n, m);
  may = request_may_from_line (inl (line_blank (BlankLines_after [] refl some_newline)));
  short = omega arith;
})

no_target : EndsInTarget [] → ⊥
no_target x =
    let n = ap length x.5 in
    let m = length-append (print_blank x.0 ++ x.1) (32 ∷ x.2) in
    omega (arith, n, m)

ends_nothing : (last : Bool) → (ending : Ending) × Ends last [] ending × (ending_text ending ≡ [])
ends_nothing true = (Closed, refl, refl)
ends_nothing false = (Waiting [], (refl, refl, nothing_waits), refl)

-- a list is not itself with one more
not_itself : (xs : List (List ℕ)) (x : List ℕ) → xs ≡ xs ++ x ∷ [] → ⊥
not_itself xs x e =
    let n = ap length e in
    let m = length-append xs (x ∷ []) in
    omega (arith, n, m)

-- the ending of bytes that go on to one more request puts nothing
after_open : (b p : List ℕ) (bodies : List (List ℕ)) (body : List ℕ) (e f : Ending) → Requests b bodies e → Requests (b ++ p) (bodies ++ body ∷ []) f → ending_text e ≡ []
after_open b p bodies body Closed f x y = refl
after_open b p bodies body (Waiting left) f x y = refl
after_open b p bodies body (Refused s) f x y =
    absurd (not_itself bodies body (one_requests (b ++ p) bodies (bodies ++ body ∷ []) (Refused s) f (requests_more b p bodies s x) y).0)

-- the whole list of bytes with one request more
one_more : (b p : List ℕ) (bodies : List (List ℕ)) (left body : List ℕ) (last : Bool) → Requests b bodies (Waiting left) → Accepts (left ++ p) body last []
    → Takes (b ++ p) (bodies ++ body ∷ []) last []
one_more b p bodies left body last x a =
    let takes : Takes b bodies false left = subst (λ r. Takes b bodies false r) (sym x.3.1) (subst (λ c. Takes b bodies c x.1) x.3.0 x.2) in
    follow_snoc false (b ++ p) bodies (left ++ p) body last [] (follow_more false b bodies false left p takes) a

-- the same requests leave the same rest
same_rest : (l : Bool) (b : List ℕ) (xs : List (List ℕ)) (c d : Bool) (r q : List ℕ) → Follow l b xs c r → Follow l b xs d q → r ≡ q
same_rest l b [] c d r q x y = x.1 ∙ sym y.1
same_rest true b (x ∷ xs) c d r q y z = absurd y
same_rest false b (x ∷ xs) c d r q y z =
    let one = accepts_one b x x y.0 z.0 y.1 z.1 y.2 z.2 in
    same_rest y.0 y.1 xs c d r q y.3 (subst (λ l. Follow l y.1 xs d q) (sym one.1) (subst (λ a. Follow z.0 a xs d q) (sym one.2) z.3))

-- the ending of requests that leave nothing puts nothing
after_nothing : (b : List ℕ) (bodies : List (List ℕ)) (last : Bool) (e f : Ending) → Takes b bodies last [] → ending_text e ≡ [] → (e ≡ f) ⊎ EndWithinTarget b bodies → ending_text f ≡ []
after_nothing b bodies last e f x n (inl same) = sym (ap ending_text same) ∙ n
after_nothing b bodies last e f x n (inr t) =
    absurd (no_target (subst (λ r. EndsInTarget (take most_head r)) (same_rest false b bodies false last t.0 [] t.1 x) t.2))

pub one_more_response : OneMoreResponse
one_more_response b p bodies left body last x a fronts texts front text put more y z =
    let end = ends_nothing last in
    let takes = one_more b p bodies left body last x a in
    let whole : Requests (b ++ p) (bodies ++ body ∷ []) end.0 = (last, [], takes, end.1) in
    let same : bodies ≡ y.0 = (one_requests b bodies y.0 (Waiting left) y.1 x y.2).0 in
    let first : ending_text y.1 ≡ [] = after_open b p bodies body y.1 end.0 (subst (λ xs. Requests b xs y.1) (sym same) y.2) whole in
    let one = one_requests (b ++ p) (bodies ++ body ∷ []) z.0 end.0 z.1 whole z.2 in
    let second : ending_text z.1 ≡ [] = after_nothing (b ++ p) (bodies ++ body ∷ []) last end.0 z.1 takes end.2 one.1 in
    let n : length fronts ≡ length texts = y.3.fronts_fit ∙ sym y.3.texts_fit in
    let put_is : put ≡ responses fronts texts = y.3.put_is ∙ (ap (λ r. responses fronts texts ++ r) first ∙ append-nil (responses fronts texts)) in
    z.3.put_is ∙ (ap (λ r. responses (fronts ++ front ∷ []) (texts ++ text ∷ []) ++ r) second
    ∙ (append-nil (responses (fronts ++ front ∷ []) (texts ++ text ∷ []))
    ∙ (responses_more fronts texts front text n ∙ ap (λ r. r ++ response_with front text) (sym put_is))))
