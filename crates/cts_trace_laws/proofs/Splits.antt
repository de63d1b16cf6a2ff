-- What the first bytes of a stream hold.
use Rattle.std.proofs.Common.{◌≡◌, ℕ, ◌≤◌, ◌<◌, List, [], ◌∷◌, ◌++◌, length, take, drop, refl, sym, ◌∙◌, ap, subst, arith, append_assoc, length-append, Option, Some, None}
use Rattle.std.proofs.Math.Decide.{dec_le}
use Rattle.std.proofs.lemmas.List.{append-nil, append_cancel_left, take-append-drop, take_at, take-append-le}
use Rattle.std.proofs.lemmas.Grind.{flat_map-append}
use Rattle.cts_entry.specs.Queues.{bytes_or_none}
use Rattle.cts_trace_laws.specs.Laws.{StreamsHoldAll, StreamsHoldOnlyAll, StreamsSplit}
use Rattle.cts_trace_laws.specs.Streams.{Holds, IsPart, IsPartOfNext, spoken, stream}

module _ {X : Type 0} (spell : X → Option (List ℕ)) where
  pub spoken_none : (x : X) (xs : List X) → spell x ≡ None → spoken spell (x ∷ xs) ≡ spoken spell xs
  spoken_none x xs e = rw e refl

  pub spoken_some : (x : X) (xs : List X) (w : List ℕ) → spell x ≡ Some w → spoken spell (x ∷ xs) ≡ x ∷ spoken spell xs
  spoken_some x xs w e = rw e refl

  pub stream_none : (x : X) (xs : List X) → spell x ≡ None → stream spell (x ∷ xs) ≡ stream spell xs
  stream_none x xs e = rw e refl

  pub stream_some : (x : X) (xs : List X) (w : List ℕ) → spell x ≡ Some w → stream spell (x ∷ xs) ≡ w ++ stream spell xs
  stream_some x xs w e = rw e refl

  abbrev Split : List X → List ℕ → Type 0
  Split xs bytes = (whole : List X) × (rest : List ℕ) × Holds spell xs bytes whole rest

  no_bytes : (bytes more : List ℕ) → bytes ++ more ≡ [] → bytes ≡ []
  no_bytes [] more e = refl
  no_bytes (b ∷ bytes) more e = cc

  -- the first spelling stands whole
  and_first : (x : X) (xs : List X) (w bytes left : List ℕ) → spell x ≡ Some w → bytes ≡ w ++ left → Split xs left → Split (x ∷ xs) bytes
  and_first x xs w bytes left e b s = (
    x ∷ s.0,
    s.1,
    record {
      later = s.2.later;
      all = spoken_some x xs w e ∙ ap (λ ys. x ∷ ys) s.2.all;
      bytes_are = b ∙ (ap (λ v. w ++ v) s.2.bytes_are ∙ (sym (append_assoc w (stream spell s.0) s.1) ∙ ap (λ v. v ++ s.1) (sym (stream_some x s.0 w e))));
      part = s.2.part;
    },
  )

  -- only a part of it does
  part_of_first : (x : X) (xs : List X) (w bytes y : List ℕ) → spell x ≡ Some w → length bytes < length w → w ≡ bytes ++ y → Split (x ∷ xs) bytes
  part_of_first x xs w bytes y e short b = (
    [],
    bytes,
    record {
      later = x ∷ spoken spell xs;
      all = spoken_some x xs w e;
      bytes_are = refl;
      part = subst (IsPart bytes) (sym e) (short, (y, b));
    },
  )

  -- of two beginnings of one list the shorter one begins the other
  shorter : (a x b y : List ℕ) → a ++ x ≡ b ++ y → length a ≤ length b → b ≡ a ++ drop (length a) b
  shorter a x b y e l =
      let t : take (length a) b ≡ a = sym (take-append-le (length a) b y l) ∙ (ap (take (length a)) (sym e) ∙ take_at a x (length a) refl) in
      sym (take-append-drop (length a) b) ∙ ap (λ v. v ++ drop (length a) b) t

  split_first : (x : X) (xs : List X) (w bytes more : List ℕ) → spell x ≡ Some w → bytes ++ more ≡ w ++ stream spell xs → Dec (length w ≤ length bytes)
      → ((left after : List ℕ) → left ++ after ≡ stream spell xs → Split xs left) → Split (x ∷ xs) bytes
  split_first x xs w bytes more e b (yes l) rec =
      let is : bytes ≡ w ++ drop (length w) bytes = shorter w (stream spell xs) bytes more (sym b) l in
      let rest : drop (length w) bytes ++ more ≡ stream spell xs =
      append_cancel_left w (drop (length w) bytes ++ more) (stream spell xs) (sym (append_assoc w (drop (length w) bytes) more) ∙ (ap (λ v. v ++ more) (sym is) ∙ b)) in
      and_first x xs w bytes (drop (length w) bytes) e is (rec (drop (length w) bytes) more rest)
  split_first x xs w bytes more e b (no l) rec =
      part_of_first x xs w bytes (drop (length bytes) w) e (omega (arith, l)) (shorter bytes more w (stream spell xs) b (omega (arith, l)))

  split_by : (x : X) (xs : List X) (o : Option (List ℕ)) → spell x ≡ o → (bytes more : List ℕ) → bytes ++ more ≡ stream spell (x ∷ xs)
      → ((left after : List ℕ) → left ++ after ≡ stream spell xs → Split xs left) → Split (x ∷ xs) bytes
  split_by x xs None e bytes more b rec =
      let s = rec bytes more (b ∙ stream_none x xs e) in
      (s.0, s.1, record { later = s.2.later; all = spoken_none x xs e ∙ s.2.all; bytes_are = s.2.bytes_are; part = s.2.part })
  split_by x xs (Some w) e bytes more b rec = split_first x xs w bytes more e (b ∙ stream_some x xs w e) (dec_le (length w) (length bytes)) rec

  pub split : (xs : List X) (bytes more : List ℕ) → bytes ++ more ≡ stream spell xs → Split xs bytes
  split [] bytes more b = ([], bytes, record { later = []; all = refl; bytes_are = refl; part = no_bytes bytes more b })
  split (x ∷ xs) bytes more b = split_by x xs (spell x) refl bytes more b (split xs)

  same_stream : (xs : List X) → stream spell (spoken spell xs) ≡ stream spell xs
  same_stream [] = refl
  same_stream (x ∷ xs) = same_by x xs (spell x) refl (same_stream xs)
    where
      same_by : (x : X) (xs : List X) (o : Option (List ℕ)) → spell x ≡ o → stream spell (spoken spell xs) ≡ stream spell xs → stream spell (spoken spell (x ∷ xs)) ≡ stream spell (x ∷ xs)
      same_by x xs None e rec = ap (stream spell) (spoken_none x xs e) ∙ (rec ∙ sym (stream_none x xs e))
      same_by x xs (Some w) e rec = ap (stream spell) (spoken_some x xs w e) ∙ (stream_some x (spoken spell xs) w e ∙ (ap (λ v. w ++ v) rec ∙ sym (stream_some x xs w e)))

  -- a part of what comes next is shorter than all that comes
  part_of_none : (later : List X) (rest : List ℕ) → IsPartOfNext spell later rest → rest ≡ stream spell later → (later ≡ []) × (rest ≡ [])
  part_of_none [] rest part e = (refl, part)
  part_of_none (x ∷ later) rest part e = absurd (too_short (spell x) refl part)
    where
      too_short : (o : Option (List ℕ)) → spell x ≡ o → IsPart rest o → ⊥
      too_short None h k = k
      too_short (Some w) h k = omega (arith, k.0, ap length (e ∙ stream_some x later w h), length-append w (stream spell later))

  stream_append : (xs ys : List X) → stream spell (xs ++ ys) ≡ stream spell xs ++ stream spell ys
  stream_append xs ys = flat_map-append (λ x. bytes_or_none (spell x)) xs ys

  pub only_all : (xs whole : List X) (bytes rest : List ℕ) → bytes ≡ stream spell xs → Holds spell xs bytes whole rest → (whole ≡ spoken spell xs) × (rest ≡ [])
  only_all xs whole bytes rest e h =
      let all : stream spell whole ++ rest ≡ stream spell whole ++ stream spell h.later = sym h.bytes_are ∙ (e ∙ (sym (same_stream xs) ∙ (ap (stream spell) h.all ∙ stream_append whole h.later))) in
      let none = part_of_none h.later rest h.part (append_cancel_left (stream spell whole) rest (stream spell h.later) all) in
      (sym (h.all ∙ (ap (λ ys. whole ++ ys) none.0 ∙ append-nil whole)), none.1)

pub streams_hold_only_all : {X : Type 0} → StreamsHoldOnlyAll X
streams_hold_only_all spell xs whole bytes rest e h = only_all spell xs whole bytes rest e h

pub streams_split : {X : Type 0} → StreamsSplit X
streams_split spell xs bytes more e = split spell xs bytes more e

pub streams_hold_all : {X : Type 0} → StreamsHoldAll X
streams_hold_all spell xs = record { later = []; all = sym (append-nil (spoken spell xs)); bytes_are = sym (same_stream spell xs) ∙ sym (append-nil (stream spell (spoken spell xs))); part = refl }
