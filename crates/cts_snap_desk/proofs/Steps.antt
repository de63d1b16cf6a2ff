-- What is known of a desk after each answer of its source.
use Rattle.std.proofs.Common.{◌≡◌, ℕ, ◌-◌, ◌≤◌, true, List, [], ◌∷◌, ◌++◌, length, slice_index, sym, refl, ap, ◌∙◌, subst, append-nil, length-append, arith, Option, Some, ⊎_elim}
use Rattle.std.proofs.lemmas.List.{map-append}
use Rattle.std.proofs.lemmas.List.Elements.{All-cons, All-head, All-nil, All-tail}
use mathlib.Core.List.{IsPrefix}
use Rattle.cts_book.proofs.Fronts.{prefix_length, prefix_self}
use Rattle.cts_entry.specs.declared.entry.Entry.{Entry}
use Rattle.cts_outside.specs.Causes.{Rose, Steady}
use Rattle.cts_table.specs.States.{Shown}
use Rattle.cts_table.specs.declared.basis.Basis.{Basis}
use Rattle.cts_turn.specs.declared.rule.View.{View}
use Rattle.cts_turn.specs.Passes.{shown}
use Rattle.cts_api.specs.Looks.{IsChanging}
use Rattle.cts_snap.specs.Reading.{TextOver}
use Rattle.cts_desk.specs.Exchanges.{Exchange, Among, bodies_of, fronts_of, out_of_memory}
use Rattle.cts_desk.specs.Holds.{AskedHold, IsReady}
use Rattle.cts_desk.specs.Streams.{last_front}
use Rattle.cts_desk.proofs.Histories.{among_snoc}
use Rattle.cts_snap_desk.specs.Given.{Given, ByHold, ByRead, Lacks, OnlyLooks, SnapExchanges, exchange_of, exchanges_of, held_at, held_fronts, start}
use Rattle.cts_snap_desk.specs.Reading.{IsCourse, NeedsHold, SnapGoing}
use Rattle.cts_snap_desk.specs.declared.course.Course.{Course}
use Rattle.cts_snap_desk.proofs.Snapping.{held_append, snap_grows, snap_held, snap_lacks, snap_read}

abbrev pub exchange : List ℕ → ℕ → Option (List ℕ) → Exchange
exchange body front text = record { body = body; front = front; text = text }

index_last : (x : ℕ) (xs : List ℕ) → slice_index (xs ++ x ∷ []) (length xs) ≡ x
index_last x [] = refl
index_last x (y ∷ xs) = index_last x xs

pub last_of : (fronts : List ℕ) (front : ℕ) → last_front (fronts ++ front ∷ []) ≡ front
last_of fronts front =
    let e : length (fronts ++ front ∷ []) - 1 ≡ length fronts = let n = length-append fronts (front ∷ []) in omega (arith, n) in
    ap (slice_index (fronts ++ front ∷ [])) e ∙ index_last front fronts

-- of all requests, and of the last
pub only_before : (xs : List Exchange) (x : Exchange) → OnlyLooks (xs ++ x ∷ []) → OnlyLooks xs × (IsChanging x.body true → ⊥)
only_before [] x all = let P : List ℕ → Type 0 = λ body. IsChanging body true → ⊥ in (All-nil P, All-head P x.body [] all)
only_before (y ∷ xs) x all =
    let P : List ℕ → Type 0 = λ body. IsChanging body true → ⊥ in
    let rest = only_before xs x (All-tail P y.body (bodies_of (xs ++ x ∷ [])) all) in
    (All-cons P y.body (bodies_of xs) (All-head P y.body (bodies_of (xs ++ x ∷ [])) all) rest.0, rest.1)

pub steady_before : (began old new : ℕ) → old ≤ new → Steady began new → Steady began old
steady_before began old new le steady = omega (arith, le, steady)

pub not_rose : (began old new : ℕ) → began ≤ old → Rose old new → Steady began new → ⊥
not_rose began old new le rose steady = let r = rose.1 in omega (arith, le, r, steady)

-- what is done, over the pane's list in place of that of the hall that was shown
pub course_over : (h : Shown) (pane : Basis) (list : List Entry) (before now floor : ℕ) (body : List ℕ) (of course : Course) → h.basis ≡ pane → h.entries ≡ list → course ≡ of
    → IsCourse h.basis h.entries before now floor body of → IsCourse pane list before now floor body course
course_over h pane list before now floor body of course base same is k =
    subst (IsCourse pane list before now floor body) (sym is)
    (subst (λ (l : List Entry). IsCourse pane l before now floor body of) same (subst (λ (b : Basis). IsCourse b h.entries before now floor body of) base k))

-- a pass that knows of more, and a pane of the same basis
pub going_moved : (pane pane' : Basis) (list : List Entry) (refused floor began : ℕ) (b : Basis) (by : ℕ) (fronts : List ℕ) (v w : View Entry Basis) (xs : List Exchange) (n : ℕ)
    → pane' ≡ pane → w ≡ shown v n → SnapGoing pane list refused floor began b by fronts v xs → SnapGoing pane' list refused floor began b by fronts w xs
going_moved pane pane' list refused floor began b by fronts v w xs n same is g = subst (λ (p : Basis). SnapGoing p list refused floor began b by fronts w xs) (sym same)
    (subst (λ (u : View Entry Basis). SnapGoing pane list refused floor began b by fronts u xs) (sym is)
    (record { given = g.given; are = g.are; fronts_are = g.fronts_are; among = g.among; stand = g.stand; rises = g.rises; quiet = g.quiet }))

pub ready_shown : (b : Basis) (by : ℕ) (v w : View Entry Basis) (n : ℕ) → w ≡ shown v n → IsReady b by v → IsReady b by w
ready_shown b by v w n is r = subst (IsReady b by) (sym is) (record { makers = r.makers; desk = r.desk; active = r.active })

module _ (pane : Basis) (list list' : List Entry) (refused refused' floor began : ℕ) (b : Basis) (by : ℕ) (fronts : List ℕ) (v : View Entry Basis) (xs : List Exchange) (p : IsPrefix list list') (r : refused ≤ refused')
    (g : SnapGoing pane list refused floor began b by fronts v xs) where
  old_quiet : (x : Exchange) → OnlyLooks (xs ++ x ∷ []) → Steady began refused' → floor ≤ length list'
  old_quiet x looks steady =
      let q = g.quiet (only_before xs x looks).0 (steady_before began refused refused' r steady) in
      let l = prefix_length list list' p in omega (arith, q, l)

  now_rises : began ≤ refused'
  now_rises = let s = g.rises in omega (arith, s, r)

  next_are : (h : Given) → xs ++ exchange_of h ∷ [] ≡ exchanges_of (g.given ++ h ∷ [])
  next_are h = ap (λ l. l ++ exchange_of h ∷ []) g.are ∙ sym (map-append exchange_of g.given (h ∷ []))

  next_fronts : (x : Exchange) → fronts ++ x.front ∷ [] ≡ fronts_of (xs ++ x ∷ [])
  next_fronts x = ap (λ l. l ++ x.front ∷ []) g.fronts_are ∙ sym (map-append (λ (y : Exchange). y.front) xs (x ∷ []))

  stands_now : SnapExchanges b by pane list' start [] g.given (held_at (last_front fronts) floor) [] v.seen
  stands_now = snap_grows b by pane list list' start [] g.given (held_at (last_front fronts) floor) [] v.seen p g.stand

  at_last : (gs : List Given) (front next : ℕ) (seen : List Entry) → SnapExchanges b by pane list' start [] gs (held_at front next) [] seen
      → SnapExchanges b by pane list' start [] gs (held_at (last_front (fronts ++ front ∷ [])) next) [] seen
  at_last gs front next seen s = subst (λ n. SnapExchanges b by pane list' start [] gs (held_at n next) [] seen) (sym (last_of fronts front)) s

  same_held : (h : Given) → held_fronts (h ∷ []) ≡ [] → Among (held_fronts (g.given ++ h ∷ [])) v.found
  same_held h none = subst (λ l. Among l v.found) (sym (held_append g.given (h ∷ []) ∙ ap (λ l. held_fronts g.given ++ l) none ∙ append-nil (held_fronts g.given))) g.among

  -- a read
  pub going_read : (body : List ℕ) (front : ℕ) (text : Option (List ℕ)) → floor ≤ front → front ≡ length list' → TextOver pane list' body text
      → SnapGoing pane list' refused' front began b by (fronts ++ front ∷ []) v (xs ++ exchange body front text ∷ [])
  going_read body front text le is over = let x : Exchange = exchange body front text in record {
    given = g.given ++ ByRead x ∷ [];
    are = next_are (ByRead x);
    fronts_are = next_fronts x;
    among = same_held (ByRead x) refl;
    stand = at_last (g.given ++ ByRead x ∷ []) front front v.seen (snap_read b by pane list' x (last_front fronts) floor start [] g.given v.seen le (list', prefix_self list', is, over) stands_now);
    rises = now_rises;
    quiet = λ looks steady. omega (arith, is);
  }

  -- want of memory
  pub going_lacks : (body : List ℕ) (front : ℕ) → front ≡ last_front fronts
      → SnapGoing pane list' refused' floor began b by (fronts ++ front ∷ []) v (xs ++ exchange body front (Some out_of_memory) ∷ [])
  going_lacks body front is = let x : Exchange = exchange body front (Some out_of_memory) in record {
    given = g.given ++ Lacks x ∷ [];
    are = next_are (Lacks x);
    fronts_are = next_fronts x;
    among = same_held (Lacks x) refl;
    stand = at_last (g.given ++ Lacks x ∷ []) front floor v.seen (snap_lacks b by pane list' x (last_front fronts) floor start [] g.given v.seen refl is stands_now);
    rises = now_rises;
    quiet = old_quiet x;
  }

  held_quiet : (body : List ℕ) (front stood : ℕ) (text : Option (List ℕ)) → NeedsHold list' refused refused' floor body → OnlyLooks (xs ++ exchange body front text ∷ []) → Steady began refused' → ⊥
  held_quiet body front stood text needs looks steady = ⊎_elim
      (λ changing. (only_before xs (exchange body front text) looks).1 changing)
      (λ other. ⊎_elim (λ rose. not_rose began refused refused' g.rises rose steady)
      (λ short. let q = old_quiet (exchange body front text) looks steady in omega (arith, q, short)) other) needs

  -- a hold
  pub going_held : (body : List ℕ) (front stood : ℕ) (text : Option (List ℕ)) (w : View Entry Basis) → NeedsHold list' refused refused' floor body → floor ≤ front → stood ≡ length w.seen → AskedHold b by body front text v w
      → SnapGoing pane list' refused' stood began b by (fronts ++ front ∷ []) w (xs ++ exchange body front text ∷ [])
  going_held body front stood text w needs le stands asked = let x : Exchange = exchange body front text in record {
    given = g.given ++ ByHold x ∷ [];
    are = next_are (ByHold x);
    fronts_are = next_fronts x;
    among = subst (λ l. Among l w.found) (sym (held_append g.given (ByHold x ∷ [])))
        (subst (Among (held_fronts g.given ++ front ∷ [])) (ap (λ n. v.found ++ n ∷ []) asked.front_is ∙ sym asked.hold.found) (among_snoc (held_fronts g.given) v.found front g.among));
    stand = at_last (g.given ++ ByHold x ∷ []) front stood w.seen
        (subst (λ l. SnapExchanges b by pane list' start [] (g.given ++ ByHold x ∷ []) (held_at front stood) [] l) (sym asked.hold.seen)
        (snap_held b by pane list' x (last_front fronts) floor start [] g.given v.seen asked.hold.others asked.added stood asked.hold.strange le asked.front_is asked.answered (stands ∙ ap length asked.hold.seen) stands_now));
    rises = now_rises;
    quiet = λ looks steady. absurd (held_quiet body front stood text needs looks steady);
  }
