-- The events of the entries of a log: they are one list, there is one, and what they say.
use Rattle.std.proofs.Common.{◌≡◌, ℕ, zero, suc, ◌<◌, ◌≤◌, Bool, true, false, List, [], ◌∷◌, ◌++◌, length, map, take, drop, Option, Some, refl, sym, ◌∙◌, ap, ap₂, subst, arith, append_assoc, length-append}
use Rattle.std.specs.Prelude.{nat_le, nat_lt, option_to_list, if◌then◌else◌}
use Rattle.std.specs.List.{AllByRecursion, flat_map}
use Rattle.std.proofs.lemmas.Bool.Decides.{nat_tests}
use Rattle.std.proofs.lemmas.List.{append-nil, drop_at, length-drop, length-take-le, map-append, take-append-drop, take_at}
use Rattle.cts_def.specs.declared.time.Time.{Time}
use Rattle.cts_entry.specs.declared.event.Event.{Event}
use Rattle.cts_entry.specs.declared.event.Event.TheVariants.{Piece}
use Rattle.cts_framing.specs.Packets.{joined}
use Rattle.cts_framing.proofs.Fronts.{le_test}
use Rattle.cts_framing.proofs.Stagings.{joined_append}
use Rattle.cts_core.specs.States.{is_piece}
use Rattle.cts_log.specs.Logged.{Logged, entry_bytes}
use Rattle.cts_play.specs.Pieces.{ArePieces, AreWhole, last_piece}
use Rattle.cts_play_laws.specs.Hearing.{MayBeSet, MayCome}
use Rattle.cts_run.specs.Play.{AreEvents, last_time, later_time, time_or}

-- ---- bytes are cut into pieces in one way

first_same : (x y a b : List ℕ) → length x ≡ length y → x ++ a ≡ y ++ b → x ≡ y
first_same x y a b l e = sym (take_at x a (length x) refl) ∙ (ap (take (length x)) e ∙ take_at y b (length x) (sym l))

later_same : (x y a b : List ℕ) → length x ≡ length y → x ++ a ≡ y ++ b → a ≡ b
later_same x y a b l e = sym (drop_at x a (length x) refl) ∙ (ap (drop (length x)) e ∙ drop_at y b (length x) (sym l))

last_alone : (cut : ℕ) (y : List ℕ) → 1 ≤ cut → length y ≡ cut → last_piece y ≡ y ∷ []
last_alone cut [] one e = absurd (omega (arith, one, e))
last_alone cut (b ∷ y) one e = refl

-- a last piece that is as long as a whole one
last_whole : (cut : ℕ) → 1 ≤ cut → (y : List ℕ) (q : List (List ℕ)) (l m : List ℕ) → length y ≡ cut → AreWhole cut q → length l ≤ cut → l ≡ y ++ (joined q ++ m) → last_piece l ≡ y ∷ (q ++ last_piece m)
last_whole cut one y [] l [] w all a e = ap last_piece (e ∙ append-nil y) ∙ last_alone cut y one w
last_whole cut one y [] l (b ∷ m) w all a e = absurd (omega (arith, ap length e, length-append y (b ∷ m), w, a))
last_whole cut one y (z ∷ q) l m w all a e =
    absurd (omega (arith, ap length e, length-append y ((z ++ joined q) ++ m), length-append (z ++ joined q) m, length-append z (joined q), all.0, one, w, a))

one_cut : (cut : ℕ) → 1 ≤ cut → (p q : List (List ℕ)) (l m : List ℕ) → AreWhole cut p → AreWhole cut q → length l ≤ cut → length m ≤ cut → joined p ++ l ≡ joined q ++ m → p ++ last_piece l ≡ q ++ last_piece m
one_cut cut one [] [] l m wp wq a b e = ap last_piece e
one_cut cut one [] (y ∷ q) l m wp wq a b e = last_whole cut one y q l m wq.0 wq.1 a (e ∙ append_assoc y (joined q) m)
one_cut cut one (x ∷ p) [] l m wp wq a b e = sym (last_whole cut one x p m l wp.0 wp.1 b (sym e ∙ append_assoc x (joined p) l))
one_cut cut one (x ∷ p) (y ∷ q) l m wp wq a b e =
    let same : x ++ (joined p ++ l) ≡ y ++ (joined q ++ m) = sym (append_assoc x (joined p) l) ∙ (e ∙ append_assoc y (joined q) m) in
    let long : length x ≡ length y = wp.0 ∙ sym wq.0 in
    ap₂ ◌∷◌ (first_same x y (joined p ++ l) (joined q ++ m) long same) (one_cut cut one p q l m wp.1 wq.1 a b (later_same x y (joined p ++ l) (joined q ++ m) long same))

pub one_pieces : (by cut : ℕ) (bytes : List ℕ) (xs ys : List Event) → 1 ≤ cut → ArePieces by cut bytes xs → ArePieces by cut bytes ys → xs ≡ ys
one_pieces by cut bytes xs ys one a b =
    a.events_are ∙ (ap (map (Piece by)) (one_cut cut one a.pieces b.pieces a.last b.last a.whole b.whole a.rest b.rest (a.all ∙ sym b.all)) ∙ sym b.events_are)

-- and there is such a way
record IsCutSo (cut : ℕ) (bytes : List ℕ) : Type 0 where
  pub pieces : List (List ℕ)
  pub last : List ℕ
  pub all : joined pieces ++ last ≡ bytes
  pub whole : AreWhole cut pieces
  pub rest : length last ≤ cut

some_cut : (cut n : ℕ) → 1 ≤ cut → (bytes : List ℕ) → length bytes ≤ n → IsCutSo cut bytes
some_cut cut zero one bytes h = record { pieces = []; last = bytes; all = refl; whole = tt; rest = omega (arith, h) }
some_cut cut (suc n) one bytes h = by_size (nat_le (length bytes) cut) refl (λ k. some_cut cut n one (drop cut bytes) k)
  where
    by_size : (b : Bool) → nat_le (length bytes) cut ≡ b → (length (drop cut bytes) ≤ n → IsCutSo cut (drop cut bytes)) → IsCutSo cut bytes
    by_size true e more = record { pieces = []; last = bytes; all = refl; whole = tt; rest = grind (arith, nat_tests) }
    by_size false e more =
        let long : cut < length bytes = grind (arith, nat_tests) in
        let few : length (drop cut bytes) ≤ n = omega (arith, length-drop cut bytes, h, one, long) in
        let r = more few in
        record {
          pieces = take cut bytes ∷ r.pieces;
          last = r.last;
          all = append_assoc (take cut bytes) (joined r.pieces) r.last ∙ (ap (λ (t : List ℕ). take cut bytes ++ t) r.all ∙ take-append-drop cut bytes);
          whole = (length-take-le cut bytes (omega (arith, long)), r.whole);
          rest = r.rest;
        }

pub some_pieces : (by cut : ℕ) (bytes : List ℕ) → 1 ≤ cut → (events : List Event) × ArePieces by cut bytes events
some_pieces by cut bytes one =
    let r = some_cut cut (length bytes) one bytes (omega arith) in
    (map (Piece by) (r.pieces ++ last_piece r.last), record { pieces = r.pieces; last = r.last; events_are = refl; all = r.all; whole = r.whole; rest = r.rest })

-- ---- the events of entries

pub some_own : (fl : Bool) (e : Logged) → (events : List Event) × ArePieces 0 65536 (entry_bytes fl e) events
some_own fl e = some_pieces 0 65536 (entry_bytes fl e) (omega arith)

pub one_events : (fl : Bool) (es : List Logged) (xs ys : List Event) → AreEvents fl es xs → AreEvents fl es ys → xs ≡ ys
one_events fl [] xs ys a b = a ∙ sym b
one_events fl (e ∷ es) xs ys a b = a.4 ∙ (ap₂ ◌++◌ (one_pieces 0 65536 (entry_bytes fl e) a.0 b.0 (omega arith) a.2 b.2) (one_events fl es a.1 b.1 a.3 b.3) ∙ sym b.4)

pub some_events : (fl : Bool) (es : List Logged) → (xs : List Event) × AreEvents fl es xs
some_events fl [] = ([], refl)
some_events fl (e ∷ es) =
    let own = some_own fl e in
    let later = some_events fl es in
    (own.0 ++ later.0, (own.0, later.0, own.1, later.1, refl))

pub events_then : (fl : Bool) (es fs : List Logged) (xs ys : List Event) → AreEvents fl es xs → AreEvents fl fs ys → AreEvents fl (es ++ fs) (xs ++ ys)
events_then fl [] fs xs ys a b = subst (AreEvents fl fs) (sym (ap (λ (t : List Event). t ++ ys) a)) b
events_then fl (e ∷ es) fs xs ys a b = (a.0, a.1 ++ ys, a.2, events_then fl es fs a.1 ys a.3 b, ap (λ (t : List Event). t ++ ys) a.4 ∙ append_assoc a.0 a.1 ys)

pub one_more : (fl : Bool) (es : List Logged) (e : Logged) (xs own : List Event) → AreEvents fl es xs → ArePieces 0 65536 (entry_bytes fl e) own → AreEvents fl (es ++ e ∷ []) (xs ++ own)
one_more fl es e xs own a b = events_then fl es (e ∷ []) xs own a (own, [], b, refl, sym (append-nil own))

-- ---- they are pieces that may come

pub all_append : {X : Type 0} (P : X → Type 0) (xs ys : List X) → AllByRecursion P xs → AllByRecursion P ys → AllByRecursion P (xs ++ ys)
all_append P [] ys a b = b
all_append P (x ∷ xs) ys a b = (a.0, all_append P xs ys a.1 b)

pub piece_is : (p : List ℕ) → 1 ≤ length p → length p ≤ 65536 → is_piece p ≡ true
piece_is p h k = rw (le_test 1 (length p) h, le_test (length p) 65536 k) refl

whole_come : (pieces : List (List ℕ)) → AreWhole 65536 pieces → MayCome pieces
whole_come [] all = tt
whole_come (p ∷ pieces) all = (piece_is p (omega (arith, all.0)) (omega (arith, all.0)), whole_come pieces all.1)

pub last_comes : (last : List ℕ) → length last ≤ 65536 → MayCome (last_piece last)
last_comes [] h = tt
last_comes (b ∷ last) h = (piece_is (b ∷ last) (omega arith) h, tt)

pub last_joined : (last : List ℕ) → joined (last_piece last) ≡ last
last_joined [] = refl
last_joined (b ∷ last) = append-nil (b ∷ last)

pub record ArePiecesOf (bytes : List ℕ) (events : List Event) : Type 0 where
  pub pieces : List (List ℕ)
  pub events_are : events ≡ map (Piece 0) pieces
  pub bytes_are : joined pieces ≡ bytes
  pub come : MayCome pieces

own_pieces : (bytes : List ℕ) (events : List Event) → ArePieces 0 65536 bytes events → ArePiecesOf bytes events
own_pieces bytes events a = record {
  pieces = a.pieces ++ last_piece a.last;
  events_are = a.events_are;
  bytes_are = joined_append a.pieces (last_piece a.last) ∙ (ap (λ (t : List ℕ). joined a.pieces ++ t) (last_joined a.last) ∙ a.all);
  come = all_append (λ (p : List ℕ). is_piece p ≡ true) a.pieces (last_piece a.last) (whole_come a.pieces a.whole) (last_comes a.last a.rest);
}

pub pieces_of : (fl : Bool) (es : List Logged) (xs : List Event) → AreEvents fl es xs → ArePiecesOf (flat_map (entry_bytes fl) es) xs
pieces_of fl [] xs a = record { pieces = []; events_are = a; bytes_are = refl; come = tt }
pieces_of fl (e ∷ es) xs a =
    let own = own_pieces (entry_bytes fl e) a.0 a.2 in
    let later = pieces_of fl es a.1 a.3 in
    record {
      pieces = own.pieces ++ later.pieces;
      events_are = a.4 ∙ (ap₂ ◌++◌ own.events_are later.events_are ∙ sym (map-append (Piece 0) own.pieces later.pieces));
      bytes_are = joined_append own.pieces later.pieces ∙ ap₂ ◌++◌ own.bytes_are later.bytes_are;
      come = all_append (λ (p : List ℕ). is_piece p ≡ true) own.pieces later.pieces own.come later.come;
    }

-- ---- the last time

times_set : (t : Time) (times : List Time) (b : Bool) → nat_lt t.micros 1000000 ≡ b → MayBeSet times → MayBeSet (time_or t times)
times_set t [] true e all = subst (λ (c : Bool). MayBeSet (if c then t ∷ [] else [])) (sym e) (e, tt)
times_set t [] false e all = subst (λ (c : Bool). MayBeSet (if c then t ∷ [] else [])) (sym e) tt
times_set t (x ∷ times) b e all = all

pub last_set : (es : List Logged) → MayBeSet (last_time es)
last_set [] = tt
last_set (e ∷ es) = times_set e.heading.time (last_time es) (nat_lt e.heading.time.micros 1000000) refl (last_set es)

last_is : (es : List Logged) (e : Logged) → nat_lt e.heading.time.micros 1000000 ≡ true → last_time (es ++ e ∷ []) ≡ e.heading.time ∷ []
last_is [] e h = ap (λ (c : Bool). if c then e.heading.time ∷ [] else []) h
last_is (x ∷ es) e h = ap (time_or x.heading.time) (last_is es e h)

last_stays : (es : List Logged) (e : Logged) → nat_lt e.heading.time.micros 1000000 ≡ false → last_time (es ++ e ∷ []) ≡ last_time es
last_stays [] e h = ap (λ (c : Bool). if c then e.heading.time ∷ [] else []) h
last_stays (x ∷ es) e h = ap (time_or x.heading.time) (last_stays es e h)

pub later_is : (last : Option Time) (es : List Logged) (e : Logged) → option_to_list last ≡ last_time es → option_to_list (later_time last e.heading.time) ≡ last_time (es ++ e ∷ [])
later_is last es e h = by_time (nat_lt e.heading.time.micros 1000000) refl
  where
    by_time : (b : Bool) → nat_lt e.heading.time.micros 1000000 ≡ b → option_to_list (later_time last e.heading.time) ≡ last_time (es ++ e ∷ [])
    by_time true k = ap (λ (c : Bool). option_to_list (if c then Some e.heading.time else last)) k ∙ sym (last_is es e k)
    by_time false k = ap (λ (c : Bool). option_to_list (if c then Some e.heading.time else last)) k ∙ (h ∙ sym (last_stays es e k))
