-- What each step of a connection leaves.
use Rattle.std.proofs.Common.{◌≡◌, ℕ, ◌+◌, ◌≤◌, Bool, true, false, List, [], ◌∷◌, ◌++◌, length, take, sym, refl, ap, ◌∙◌, subst, arith, append-nil, length-append, Option, Some, None, option_map, inl, inr, Result, Ok, Err}
use Rattle.std.specs.List.{concat}
use Rattle.std.proofs.lemmas.List.{map-append}
use Rattle.std.proofs.lemmas.List.Folds.{concat-append}
use Rattle.std.proofs.lemmas.Grind.{flat_map-append}
use Rattle.cts_outside.specs.Lines.{Connection, Line, told_after, at_now, after_take, with_put, with_failed_put, LinkPuts}
use Rattle.cts_outside.specs.declared.link.Taken.TheVariants.{Got, Nothing, End, Failed}
use Rattle.cts_http.specs.Readings.{Reading, Stands, Steps, stands_by, steps_by}
use Rattle.cts_http.specs.Requests.{Takes, Requests, Refused as RefusedWith}
use Rattle.cts_http.specs.declared.step.HttpStep.TheVariants.{Request, Refuse}
use Rattle.cts_desk.specs.Exchanges.{Exchange, bodies_of, fronts_of}
use Rattle.cts_desk.specs.Streams.{PeerEnded, ReadFault, WriteFault, LastAsked, Refused, NoMemory, IsPut, IsTaking, last_put, responses, response_to, last_front}
use Rattle.cts_desk.specs.Serving.{Reads, Waits, Took, Asks, Over, Halted, StageSo, TalkingBy, TalksBy, IsAnswering}
use Rattle.cts_http.specs.Texts.{refusal_text}
use Rattle.cts_desk.proofs.Putting.{take_after}

-- ---- a step of the connection that stands, and of what the door tells

module _ (was : List Connection) (earlier : List Exchange) (P Q : Connection → Type 0) where
  talking_at : (f : Connection → Connection) (line : Line) → ((c : Connection) → P c → Q (f c)) → TalkingBy was earlier P line → TalkingBy was earlier Q (at_now f line)
  talking_at f line step t = record {
    connection = f t.connection;
    stands = ap (option_map f) t.stands;
    gone = t.gone;
    past = t.past;
    serves = t.serves;
    so = step t.connection t.so;
  }

  pub talks_at : (f : Connection → Connection) (old new : Option Line) → new ≡ told_after (at_now f) old → ((c : Connection) → P c → Q (f c)) → TalksBy was earlier P old → TalksBy was earlier Q new
  talks_at f None new e step t = subst (TalksBy was earlier Q) (sym e) tt
  talks_at f (Some line) new e step t = subst (TalksBy was earlier Q) (sym e) (talking_at f line step t)

  pub talks_map : (told : Option Line) → ((c : Connection) → P c → Q c) → TalksBy was earlier P told → TalksBy was earlier Q told
  talks_map None step t = tt
  talks_map (Some line) step t = record {
    connection = t.connection;
    stands = t.stands;
    gone = t.gone;
    past = t.past;
    serves = t.serves;
    so = step t.connection t.so;
  }

  -- a put leads to the same where it is whole, and where it fails
  pub talks_put : {T E : Type 0} (bytes : List ℕ) (old new : Option Line) (result : Result T E) → LinkPuts old new bytes result
      → ((c : Connection) → P c → Q (with_put bytes c)) → ((c : Connection) (n : ℕ) → n ≤ length bytes → P c → Q (with_failed_put (take n bytes) c)) → TalksBy was earlier P old → TalksBy was earlier Q new
  talks_put bytes old new (Ok u) puts whole part t = talks_at (with_put bytes) old new puts whole t
  talks_put bytes old new (Err e) puts whole part t = talks_at (with_failed_put (take puts.0 bytes)) old new puts.2 (λ c so. part c puts.0 puts.1 so) t

-- ---- what is put

bodies_snoc : (xs : List Exchange) (x : Exchange) → bodies_of (xs ++ x ∷ []) ≡ bodies_of xs ++ x.body ∷ []
bodies_snoc xs x = map-append (λ (y : Exchange). y.body) xs (x ∷ [])

responses_snoc : (xs : List Exchange) (x : Exchange) → responses (xs ++ x ∷ []) ≡ responses xs ++ response_to x
responses_snoc xs x = flat_map-append response_to xs (x ∷ []) ∙ ap (λ l. responses xs ++ l) (append-nil (response_to x))

put_whole : (failed : Bool) (put before bytes : List ℕ) → failed ≡ false → put ≡ before → IsPut failed (put ++ bytes) (before ++ bytes)
put_whole failed put before bytes none is = subst (λ b. IsPut b (put ++ bytes) (before ++ bytes)) (sym none) (ap (λ l. l ++ bytes) is)

-- a put has not failed that did not fail
never : (b : Bool) {A : Type 0} → b ≡ true → b ≡ false → A
never b on off = absurd (let f : true ≡ false = sym on ∙ off in cc)

put_part : (put before bytes : List ℕ) (n : ℕ) → put ≡ before → n ≤ length bytes → IsPut true (put ++ take n bytes) (before ++ bytes)
put_part put before bytes n is le = (
  length before + n,
  (let e = length-append before bytes in omega arith),
  ap (λ l. l ++ take n bytes) is ∙ take_after before bytes n,
)

-- ---- the reader

-- a request was given, so the bytes were not refused before
open_by : (o : Option ℕ) (old new : Reading) (last : Bool) → steps_by o (Request last) old new → new.refused ≡ None
open_by None old new last s = ap (λ r. r.refused) s.2
open_by (Some status) old new last s = absurd (let e : Request last ≡ Refuse status = s.0 in cc)

pub is_open : (old new : Reading) (last : Bool) → Steps old (Request last) new → new.refused ≡ None
is_open old new last s = open_by old.refused old new last s

takes_of : (r : Reading) (b : List ℕ) (bodies : List (List ℕ)) → r.refused ≡ None → Stands r b bodies → Takes b bodies r.closed r.left
takes_of r b bodies none s = subst (λ o. stands_by o r b bodies) none s

-- ---- steps

-- the response was put whole
pub answered_whole : (r : Reading) (earlier mine : List Exchange) (x : Exchange) (c : Connection) → StageSo (Asks x.body) r earlier mine c → StageSo Reads r earlier (mine ++ x ∷ []) (with_put (response_to x) c)
answered_whole r earlier mine x c so = (
  subst (Stands r (concat c.pieces)) (sym (bodies_snoc mine x)) so.0,
  (ap (λ l. l ++ response_to x) so.1.0 ∙ sym (responses_snoc mine x), so.1.1),
  so.2,
)

-- and it is the last
pub answered_last : (r : Reading) (earlier mine : List Exchange) (x : Exchange) (c : Connection) → r.refused ≡ None → r.closed ≡ true → StageSo (Asks x.body) r earlier mine c → StageSo Over r earlier (mine ++ x ∷ []) (with_put (response_to x) c)
answered_last r earlier mine x c none closed so =
    let whole = answered_whole r earlier mine x c so in (
      LastAsked,
      refl,
      record {
        asked = (true, r.left, subst (λ b. Takes (concat c.pieces) (bodies_of (mine ++ x ∷ [])) b r.left) closed (takes_of r (concat c.pieces) (bodies_of (mine ++ x ∷ [])) none whole.0), refl);
        put = subst (λ b. IsPut b (c.put ++ response_to x) (responses (mine ++ x ∷ []) ++ [])) (sym whole.1.1) (whole.1.0 ∙ sym (append-nil (responses (mine ++ x ∷ []))));
        cause = tt;
        last = (whole.2, whole.1.1);
      },
    )

-- the put failed
pub answered_part : (r : Reading) (earlier mine : List Exchange) (x : Exchange) (c : Connection) (n : ℕ) → r.refused ≡ None → n ≤ length (response_to x) → StageSo (Asks x.body) r earlier mine c → StageSo Over r earlier (mine ++ x ∷ []) (with_failed_put (take n (response_to x)) c)
answered_part r earlier mine x c n none le so =
    let all : responses (mine ++ x ∷ []) ++ [] ≡ responses mine ++ response_to x = append-nil (responses (mine ++ x ∷ [])) ∙ responses_snoc mine x in (
      WriteFault,
      refl,
      record {
        asked = (r.closed, r.left, takes_of r (concat c.pieces) (bodies_of (mine ++ x ∷ [])) none (subst (Stands r (concat c.pieces)) (sym (bodies_snoc mine x)) so.0));
        put = subst (IsPut true (c.put ++ take n (response_to x))) (sym all) (put_part c.put (responses mine) (response_to x) n so.1.0 le);
        cause = refl;
        last = (so.2, (mine, x, refl, (n, le, ap (λ l. l ++ take n (response_to x)) so.1.0)));
      },
    )

-- no room was found for a front
pub unasked_whole : (r : Reading) (earlier mine : List Exchange) (body : List ℕ) (c : Connection) → r.refused ≡ None → StageSo (Asks body) r earlier mine c → StageSo Over r earlier mine (with_put (last_put NoMemory (last_front (fronts_of (earlier ++ mine)))) c)
unasked_whole r earlier mine body c none so = (
  NoMemory,
  refl,
  record {
    asked = inr (body, r.closed, r.left, takes_of r (concat c.pieces) (bodies_of mine ++ body ∷ []) none so.0);
    put = put_whole c.put_failed c.put (responses mine) (last_put NoMemory (last_front (fronts_of (earlier ++ mine)))) so.1.1 so.1.0;
    cause = tt;
    last = (so.2, λ failed. never c.put_failed failed so.1.1);
  },
)

pub unasked_part : (r : Reading) (earlier mine : List Exchange) (body : List ℕ) (c : Connection) (n : ℕ) → r.refused ≡ None → n ≤ length (last_put NoMemory (last_front (fronts_of (earlier ++ mine)))) → StageSo (Asks body) r earlier mine c
    → StageSo Over r earlier mine (with_failed_put (take n (last_put NoMemory (last_front (fronts_of (earlier ++ mine))))) c)
unasked_part r earlier mine body c n none le so = (
  NoMemory,
  refl,
  record {
    asked = inr (body, r.closed, r.left, takes_of r (concat c.pieces) (bodies_of mine ++ body ∷ []) none so.0);
    put = put_part c.put (responses mine) (last_put NoMemory (last_front (fronts_of (earlier ++ mine)))) n so.1.0 le;
    cause = tt;
    last = (so.2, λ failed. (n, le, ap (λ l. l ++ take n (last_put NoMemory (last_front (fronts_of (earlier ++ mine))))) so.1.0));
  },
)

-- the bytes are refused
pub refused_whole : (r r' : Reading) (earlier mine : List Exchange) (status : ℕ) (c : Connection) → Requests (concat c.pieces) (bodies_of mine) (RefusedWith status) → IsAnswering c mine → IsTaking c → StageSo Over r' earlier mine (with_put (refusal_text status) c)
refused_whole r r' earlier mine status c asked so taking = (
  Refused status,
  refl,
  record { asked = asked; put = put_whole c.put_failed c.put (responses mine) (refusal_text status) so.1 so.0; cause = tt; last = (taking, λ failed. never c.put_failed failed so.1) },
)

pub refused_part : (r r' : Reading) (earlier mine : List Exchange) (status : ℕ) (c : Connection) (n : ℕ) → n ≤ length (refusal_text status) → Requests (concat c.pieces) (bodies_of mine) (RefusedWith status) → IsAnswering c mine → IsTaking c
    → StageSo Over r' earlier mine (with_failed_put (take n (refusal_text status)) c)
refused_part r r' earlier mine status c n le asked so taking = (
  Refused status,
  refl,
  record { asked = asked; put = put_part c.put (responses mine) (refusal_text status) n so.0 le; cause = tt; last = (taking, λ failed. (n, le, ap (λ l. l ++ take n (refusal_text status)) so.0)) },
)

-- ---- takes

concat_snoc : (pieces : List (List ℕ)) (piece : List ℕ) → concat (pieces ++ piece ∷ []) ≡ concat pieces ++ piece
concat_snoc pieces piece = concat-append pieces (piece ∷ []) ∙ ap (λ l. concat pieces ++ l) (append-nil piece)

-- a piece was taken, and not fed
pub took_piece : (r : Reading) (earlier mine : List Exchange) (n : ℕ) (buffer : List ℕ) (c : Connection) → StageSo Waits r earlier mine c → StageSo (Took (take n buffer)) r earlier mine (after_take (Got n) buffer c)
took_piece r earlier mine n buffer c so = (c, so, refl, refl, refl, refl, refl)

has_taking : (r : Reading) (earlier mine : List Exchange) (piece : List ℕ) (d : Connection) → StageSo (Took piece) r earlier mine d → IsTaking d
has_taking r earlier mine piece d has = (inr (has.0.pieces, piece, bodies_of mine, r.left, has.2, has.1.2), has.5 ∙ has.1.3.1, has.6 ∙ has.1.3.2)

-- it was fed
pub fed_piece : (r r' : Reading) (earlier mine : List Exchange) (piece : List ℕ) (d : Connection)
    → ((b : List ℕ) (bodies : List (List ℕ)) → Stands r b bodies → Stands r' (b ++ piece) bodies) → StageSo (Took piece) r earlier mine d → StageSo Reads r' earlier mine d
fed_piece r r' earlier mine piece d fed has = (
  subst (λ b. Stands r' b (bodies_of mine)) (sym (ap concat has.2 ∙ concat_snoc has.0.pieces piece)) (fed (concat has.0.pieces) (bodies_of mine) has.1.0),
  (has.3 ∙ has.1.1.0, has.4 ∙ has.1.1.1),
  has_taking r earlier mine piece d has,
)

-- no memory was found for it
pub unfed_whole : (r r' : Reading) (earlier mine : List Exchange) (piece : List ℕ) (d : Connection) → StageSo (Took piece) r earlier mine d
    → StageSo Over r' earlier mine (with_put (last_put NoMemory (last_front (fronts_of (earlier ++ mine)))) d)
unfed_whole r r' earlier mine piece d has = (
  NoMemory,
  refl,
  record {
    asked = inl (has.0.pieces, piece, r.left, has.2, has.1.2);
    put = put_whole d.put_failed d.put (responses mine) (last_put NoMemory (last_front (fronts_of (earlier ++ mine)))) (has.4 ∙ has.1.1.1) (has.3 ∙ has.1.1.0);
    cause = tt;
    last = (has_taking r earlier mine piece d has, λ failed. never d.put_failed failed (has.4 ∙ has.1.1.1));
  },
)

pub unfed_part : (r r' : Reading) (earlier mine : List Exchange) (piece : List ℕ) (k : ℕ) (d : Connection) → k ≤ length (last_put NoMemory (last_front (fronts_of (earlier ++ mine)))) → StageSo (Took piece) r earlier mine d
    → StageSo Over r' earlier mine (with_failed_put (take k (last_put NoMemory (last_front (fronts_of (earlier ++ mine))))) d)
unfed_part r r' earlier mine piece k d le has = (
  NoMemory,
  refl,
  record {
    asked = inl (has.0.pieces, piece, r.left, has.2, has.1.2);
    put = put_part d.put (responses mine) (last_put NoMemory (last_front (fronts_of (earlier ++ mine)))) k (has.3 ∙ has.1.1.0) le;
    cause = tt;
    last = (
      has_taking r earlier mine piece d has,
      λ failed. (k, le, ap (λ l. l ++ take k (last_put NoMemory (last_front (fronts_of (earlier ++ mine))))) (has.3 ∙ has.1.1.0)),
    );
  },
)

pub took_nothing : (r : Reading) (earlier mine : List Exchange) (buffer : List ℕ) (c : Connection) → StageSo Waits r earlier mine c → StageSo Waits r earlier mine (after_take Nothing buffer c)
took_nothing r earlier mine buffer c so = so

still_put : (mine : List Exchange) (c : Connection) → IsAnswering c mine → IsPut c.put_failed c.put (responses mine ++ [])
still_put mine c so = subst (λ b. IsPut b c.put (responses mine ++ [])) (sym so.1) (so.0 ∙ sym (append-nil (responses mine)))

pub took_end : (r : Reading) (earlier mine : List Exchange) (buffer : List ℕ) (c : Connection) → StageSo Waits r earlier mine c → StageSo Over r earlier mine (after_take End buffer c)
took_end r earlier mine buffer c so = (PeerEnded, refl, record { asked = (r.left, so.2); put = still_put mine c so.1; cause = refl; last = (so.3.2, so.1.1) })

pub take_failed : (r : Reading) (earlier mine : List Exchange) (buffer : List ℕ) (c : Connection) → StageSo Waits r earlier mine c → StageSo Over r earlier mine (after_take Failed buffer c)
take_failed r earlier mine buffer c so = (ReadFault, refl, record { asked = (r.left, so.2); put = still_put mine c so.1; cause = refl; last = (so.3.1, so.1.1) })

-- a Stop was seen
pub halted : (r : Reading) (earlier mine : List Exchange) (c : Connection) → StageSo Waits r earlier mine c → StageSo Halted r earlier mine c
halted r earlier mine c so = record { asked = (r.left, so.2); put = still_put mine c so.1; cause = tt; last = (so.3, so.1.1) }
