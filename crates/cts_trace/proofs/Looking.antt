-- What a running line tells: its looks, and what more holds and entries leave of it.
use Rattle.std.proofs.Common.{◌≡◌, ℕ, suc, ◌+◌, ◌<◌, ◌≤◌, Bool, true, false, ◌||◌, ◌&&◌, List, [], ◌∷◌, ◌++◌, length, Option, Some, None, refl, sym, ◌∙◌, ap, subst, arith, append_assoc, append-nil, length-append, filter, cond, le-leb, ltb-true, inl, inr}
use Rattle.std.specs.Prelude.{nat_le, nat_lt, ◌⊎◌, ◌≢◌, sum_by}
use Rattle.std.specs.List.{list_any}
use Rattle.std.proofs.lemmas.List.{append_cancel_left}
use Rattle.std.proofs.lemmas.List.Elements.{filter-append, All-append, All-cons, All-nil}
use Rattle.std.proofs.lemmas.List.Folds.{list_any-append}
use Rattle.cts_entry.specs.declared.entry.Entry.{Entry}
use Rattle.cts_entry.specs.declared.why.Why.{Why}
use Rattle.cts_entry.specs.declared.why.Why.TheVariants.{PeerEnded, ReadFault, WriteFault, BadFrame, Stopped, NoMemory, Full}
use Rattle.cts_entry.specs.Histories.{is_own, has_own, is_stop, is_stopped, entries_in, bytes_in}
use Rattle.cts_entry.proofs.Appending.{stopped-append, entries-append, bytes-append}
use Rattle.cts_entry.proofs.Queuing.{stays_more}
use Rattle.cts_framing.specs.Framing.{Output}
use Rattle.cts_framing.specs.Packets.{capped}
use Rattle.cts_outside.specs.Lines.{Connection, Line}
use Rattle.cts_entry.specs.Room.{Capacity}
use Rattle.cts_trace.specs.Lines.{LacksRoom, Looked, Causes, Seen, PutsAll, PostsNone, IsLook, LastTwo, is_within, looks}
use Rattle.cts_trace.specs.Routing.{Routing, queue}
use Rattle.cts_trace.specs.Told.{IsStay, Said, Settled, Unopened, ToldBy}
use Rattle.cts_trace.specs.ToldLaws.{SaidIsPast, PutBeforeItsEntries, PutBeforeTheStop, PutsWhatItSaw, FullLeavesSome, HoldsMayFollow, EntriesOfOthersMayFollow}
use Rattle.cts_trace.proofs.Others.{nothing_own, strange_own}
use Rattle.cts_trace.proofs.Stretches.{stays_each}
use Rattle.cts_trace.proofs.Walks.{queue-append, enough_of}

-- ---- by the reason

pub puts_all_map : (why : Why) (A B : Type 0) → (A → B) → PutsAll why A → PutsAll why B
puts_all_map PeerEnded A B f a = f a
puts_all_map ReadFault A B f a = f a
puts_all_map WriteFault A B f a = tt
puts_all_map (BadFrame stage cause) A B f a = f a
puts_all_map Stopped A B f a = f a
puts_all_map NoMemory A B f a = tt
puts_all_map Full A B f a = tt

pub posts_none_both : (why : Why) (A B C : Type 0) → (A → B → C) → PostsNone why A → PostsNone why B → PostsNone why C
posts_none_both PeerEnded A B C f a b = f a b
posts_none_both ReadFault A B C f a b = tt
posts_none_both WriteFault A B C f a b = tt
posts_none_both (BadFrame stage cause) A B C f a b = tt
posts_none_both Stopped A B C f a b = f a b
posts_none_both NoMemory A B C f a b = tt
posts_none_both Full A B C f a b = tt

-- ---- room

-- entries of any maker leave no more room
pub lacks_more : (room : Capacity) (history more : List Entry) (left : List Output) → LacksRoom room history left → LacksRoom room (history ++ more) left
lacks_more room history more left (some, full) = (
  some,
  fits_less room (entries_in history) (entries_in (history ++ more)) (bytes_in history) (bytes_in (history ++ more)) (length left) (sum_by (λ (o : Output). length o.bytes) left)
      (let e = entries-append history more in omega arith) (let e = bytes-append history more in omega arith) full,
)
  where
    within : (a b c : ℕ) → a ≤ b → nat_le b c ≡ true → nat_le a c ≡ true
    within a b c le h = le-leb a c (let k = enough_of b c h in omega arith)

    both : (a b : Bool) → (a && b) ≡ true → (a ≡ true) × (b ≡ true)
    both true true h = (refl, refl)
    both true false h = absurd (cc h)
    both false b h = absurd (cc h)

    all_false : (b : Bool) → (b ≡ true → ⊥) → b ≡ false
    all_false true h = absurd (h refl)
    all_false false h = refl

    fits_less : (room : Capacity) (e e' b b' n k : ℕ) → e ≤ e' → b ≤ b' → (nat_le (e + n) room.entries && nat_le (b + k) room.bytes) ≡ false → (nat_le (e' + n) room.entries && nat_le (b' + k) room.bytes) ≡ false
    fits_less room e e' b b' n k le lb full = all_false (nat_le (e' + n) room.entries && nat_le (b' + k) room.bytes) (λ fit.
        let two = both (nat_le (e' + n) room.entries) (nat_le (b' + k) room.bytes) fit in
        let entries = within (e + n) (e' + n) room.entries (omega arith) two.0 in
        let bytes = within (b + k) (b' + k) room.bytes (omega arith) two.1 in
        let f : true ≡ false = sym (ap (λ (x : Bool). x && nat_le (b + k) room.bytes) entries ∙ bytes) ∙ full in cc)

-- a reason keeps its cause when entries follow
pub causes_more : (room : Capacity) (why : Why) (s : Seen) (more : List Entry) → Causes room why s → Causes room why (record s { whole = s.whole ++ more })
causes_more room PeerEnded s more c = c
causes_more room ReadFault s more c = c
causes_more room WriteFault s more c = c
causes_more room (BadFrame stage cause) s more c = c
causes_more room Stopped s more c = c
causes_more room NoMemory s more c = c
causes_more room Full s more c = lacks_more room s.whole more s.left c

-- ---- places at which holds began

pub looks_append : (xs ys : List ℕ) (above most : ℕ) → looks (xs ++ ys) above most ≡ looks xs above most + looks ys above most
looks_append xs ys above most = ap length (filter-append (is_within above most) xs ys) ∙ length-append (filter (is_within above most) xs) (filter (is_within above most) ys)

pub looks_more : (found : List ℕ) (n above most : ℕ) → looks found above most ≤ looks (found ++ n ∷ []) above most
looks_more found n above most = let e = looks_append found (n ∷ []) above most in omega arith

-- no more than all of them count
pub few_looks : (found : List ℕ) (above most : ℕ) → looks found above most ≤ length found
few_looks [] above most = omega arith
few_looks (n ∷ ns) above most = by_test (is_within above most n) (few_looks ns above most)
  where
    by_test : (b : Bool) → looks ns above most ≤ length ns → length (cond b (n ∷ filter (is_within above most) ns) (filter (is_within above most) ns)) ≤ length (n ∷ ns)
    by_test true few = omega (arith, few)
    by_test false few = omega (arith, few)

-- a place that is not within does not count
looks_off : (n above most : ℕ) (ns : List ℕ) → is_within above most n ≡ false → looks (n ∷ ns) above most ≡ looks ns above most
looks_off n above most ns off = ap (λ (b : Bool). length (cond b (n ∷ filter (is_within above most) ns) (filter (is_within above most) ns))) off

false_of : (b : Bool) → (b ≡ true → ⊥) → b ≡ false
false_of true f = absurd (f refl)
false_of false f = refl

and_of : (a b : Bool) → (a && b) ≡ true → (a ≡ true) × (b ≡ true)
and_of true true h = (refl, refl)
and_of true false h = absurd (cc h)
and_of false b h = absurd (cc h)

pub looks_below : (n above most : ℕ) (ns : List ℕ) → n ≤ above → looks (n ∷ ns) above most ≡ looks ns above most
looks_below n above most ns le = looks_off n above most ns (false_of (is_within above most n) (λ h. let two = and_of (nat_lt above n) (nat_le n most) h in let lt = ltb-true above n two.0 in omega (arith, lt)))

-- one that is within or off counts the same up to two ends
pub looks_same : (n above most end : ℕ) (ns ms : List ℕ) → n ≤ most → n ≤ end → looks ns above most ≡ looks ms above end → looks (n ∷ ns) above most ≡ looks (n ∷ ms) above end
looks_same n above most end ns ms le lt same =
    counted (is_within above most n) ns above most
    ∙ (ap (λ (k : ℕ). cond (is_within above most n) 1 0 + k) same
    ∙ (ap (λ (b : Bool). cond (nat_lt above n && b) 1 0 + looks ms above end) (le-leb n most le ∙ sym (le-leb n end lt)) ∙ sym (counted (is_within above end n) ms above end)))
  where
    counted : (b : Bool) (xs : List ℕ) (a e : ℕ) → length (cond b (n ∷ filter (is_within a e) xs) (filter (is_within a e) xs)) ≡ cond b 1 0 + looks xs a e
    counted true xs a e = omega arith
    counted false xs a e = omega arith

pub looks_beyond : (n above most : ℕ) → most < n → looks (n ∷ []) above most ≡ 0
looks_beyond n above most lt = looks_off n above most [] (false_of (is_within above most n) (λ h. let two = and_of (nat_lt above n) (nat_le n most) h in let le = enough_of n most two.1 in omega (arith, le)))

pub last_two_more : (found : List ℕ) (n look close end : ℕ) → LastTwo found look close end → end < n → LastTwo (found ++ n ∷ []) look close end
last_two_more found n look close end two lt = record {
  earlier = two.earlier;
  later = two.later ++ n ∷ [];
  found_are = ap (λ (l : List ℕ). l ++ n ∷ []) two.found_are ∙ append_assoc two.earlier (look ∷ close ∷ two.later) (n ∷ []);
  close_within = two.close_within;
  later_beyond = All-append (λ (k : ℕ). end < k) two.later (n ∷ []) two.later_beyond (All-cons (λ (k : ℕ). end < k) n [] lt (All-nil (λ (k : ℕ). end < k)));
}

pub look_more : (found : List ℕ) (n look end : ℕ) → IsLook found look end → IsLook (found ++ n ∷ []) look end
look_more found n look end l = record {
  earlier = l.earlier;
  between = l.between;
  close = l.close;
  later = l.later ++ n ∷ [];
  found_are = ap (λ (xs : List ℕ). xs ++ n ∷ []) l.found_are ∙ (append_assoc l.earlier (look ∷ (l.between ++ l.close ∷ l.later)) (n ∷ [])
      ∙ ap (λ (xs : List ℕ). l.earlier ++ look ∷ xs) (append_assoc l.between (l.close ∷ l.later) (n ∷ [])));
  close_within = l.close_within;
}

look_or_none : (found : List ℕ) (n look end : ℕ) (looked : List Entry) → (looked ≡ []) ⊎ IsLook found look end → (looked ≡ []) ⊎ IsLook (found ++ n ∷ []) look end
look_or_none found n look end looked (inl none) = inl none
look_or_none found n look end looked (inr l) = inr (look_more found n look end l)

-- one more hold, which began after the connection
pub looked_found : (g : Routing) (room : Capacity) (m : ℕ) (found : List ℕ) (n : ℕ) (before : List Entry) (c : Connection) (entries : List Entry) → length (before ++ entries) ≤ n
    → Looked g room m found before c entries → Looked g room m (found ++ n ∷ []) before c entries
looked_found g room m found n before c entries le saw =
    let s = saw.stay in
    let o : ℕ = length before in
    let w : ℕ = length s.between in
    let inner : length (s.between ++ s.closed ∷ []) ≡ w + 1 = length-append s.between (s.closed ∷ []) in
    let all : length entries ≡ suc (w + 1) = ap length s.entries_are ∙ ap suc inner in
    let long : length (before ++ entries) ≡ o + length entries = length-append before entries in
    let above : o + 1 + w < n = omega arith in
    let look : ℕ = o + 1 + length saw.looked in record {
      stay = s;
      looked = saw.looked;
      since = saw.since;
      between_is = saw.between_is;
      look_is = look_or_none found n look (o + 1 + w) saw.looked saw.look_is;
      cause = saw.cause;
      tells = saw.tells;
      waits = saw.waits;
      saw = saw.saw;
      tail_is = saw.tail_is;
      put_all = saw.put_all;
      posted_none = saw.posted_none;
      often = (let more = looks_more found n o (o + 1 + w) in let was = saw.often in omega arith);
      last = puts_all_map s.why ((close : ℕ) × LastTwo found look close (o + 1 + w)) ((close : ℕ) × LastTwo (found ++ n ∷ []) look close (o + 1 + w))
          (λ p. (p.0, last_two_more found n look p.0 (o + 1 + w) p.1 above)) saw.last;
      soon = λ earlier later are stop.
          (let was = saw.soon earlier later are stop in
          let both = looks_append found (n ∷ []) (o + length earlier) (o + 1 + w) in
          let none = looks_beyond n (o + length earlier) (o + 1 + w) above in
          omega (arith, was, both, none));
    }

pub said_found : (g : Routing) (room : Capacity) (m : ℕ) (found : List ℕ) (n : ℕ) (past : List Connection) (history : List Entry) → length history ≤ n → Said g room m found past history → Said g room m (found ++ n ∷ []) past history
said_found g room m found n past history le s =
    stays_each m n (Looked g room m found) (Looked g room m (found ++ n ∷ [])) (λ b c mine l k. looked_found g room m found n b c mine l k) [] past history le s

pub settled_found : (g : Routing) (room : Capacity) (m : ℕ) (found : List ℕ) (n : ℕ) (history : List Entry) (told : Option Line) → length history ≤ n → Settled g room m found history told → Settled g room m (found ++ n ∷ []) history told
settled_found g room m found n history None le t = tt
settled_found g room m found n history (Some line) le t = (t.0, said_found g room m found n line.past history le t.1)

pub holds_may_follow : HoldsMayFollow
holds_may_follow g room m found n seen None le t = tt
holds_may_follow g room m found n seen (Some line) le t = (t.0, t.1, t.2, t.3, said_found g room m found n t.0 seen le t.4, t.5)

-- ---- further entries

pub said_more : (g : Routing) (room : Capacity) (m : ℕ) (found : List ℕ) (past : List Connection) (seen more : List Entry) → has_own m more ≡ false → Said g room m found past seen → Said g room m found past (seen ++ more)
said_more g room m found past seen more none s = stays_more m (Looked g room m found) [] past seen more s none

pub settled_more : (g : Routing) (room : Capacity) (m : ℕ) (found : List ℕ) (seen more : List Entry) (told : Option Line) → has_own m more ≡ false → Settled g room m found seen told → Settled g room m found (seen ++ more) told
settled_more g room m found seen more None none t = tt
settled_more g room m found seen more (Some line) none t = (t.0, said_more g room m found line.past seen more none t.1)

pub stop_kept : (xs ys : List Entry) → is_stopped xs ≡ true → is_stopped (xs ++ ys) ≡ true
stop_kept xs ys e = stopped-append xs ys ∙ ap (λ (b : Bool). b || is_stopped ys) e

pub unopened_more : (history more : List Entry) (last : List Connection) → Unopened history last → Unopened (history ++ more) last
unopened_more history more [] u = tt
unopened_more history more (c ∷ []) u = (u.0, stop_kept history more u.1)
unopened_more history more (c ∷ d ∷ cs) u = u

-- entries of no connection of the maker, ls a Stop or its Ended
pub told_more : (g : Routing) (room : Capacity) (m : ℕ) (found : List ℕ) (seen more : List Entry) (told : Option Line) → has_own m more ≡ false → ToldBy g room m found seen told → ToldBy g room m found (seen ++ more) told
told_more g room m found seen more None none t = tt
told_more g room m found seen more (Some line) none t = (t.0, t.1, t.2, t.3, said_more g room m found t.0 seen more none t.4, unopened_more seen more t.1 t.5)

pub entries_of_others_may_follow : EntriesOfOthersMayFollow
entries_of_others_may_follow g room m found seen more told same t = told_more g room m found seen more told (strange_own m more (nothing_own m (seen ++ more) seen more refl same)) t

-- where every connection has its entries, all of them are told
pub settles_told : (g : Routing) (room : Capacity) (m : ℕ) (found : List ℕ) (history : List Entry) (told : Option Line) → Settled g room m found history told → ToldBy g room m found history told
settles_told g room m found history None t = tt
settles_told g room m found history (Some line) t = (line.past, [], t.0, sym (append-nil line.past), t.1, tt)

-- ---- what the definitions come to

pub said_is_past : SaidIsPast
said_is_past g room m found past history s = stays_each m (length history) (Looked g room m found) (IsStay g m) (λ b c mine le l. l.stay) [] past history (omega arith) s

any_or : (a b : Bool) → b ≡ true → (a || b) ≡ true
any_or true b h = refl
any_or false b h = h

both_parts : (x y : Entry) (xs ys : List Entry) → x ∷ xs ≡ y ∷ ys → (x ≡ y) × (xs ≡ ys)
both_parts x y xs ys same =
    let head : x ≡ y = cc in
    let tail : xs ≡ ys = cc in
    (head, tail)

cons_is : (x y : Entry) (xs ys : List Entry) → x ≡ y → xs ≡ ys → x ∷ xs ≡ y ∷ ys
cons_is x y xs ys head tail = ap (λ (z : Entry). z ∷ xs) head ∙ ap (λ (l : List Entry). y ∷ l) tail

-- what is no longer than the first part begins it
pub begins_first : (xs ys ls rs : List Entry) → xs ++ ys ≡ ls ++ rs → length ls ≤ length xs → (more : List Entry) × (xs ≡ ls ++ more)
begins_first xs ys [] rs same le = (xs, refl)
begins_first [] ys (a ∷ ls) rs same le = absurd (omega arith)
begins_first (x ∷ xs) ys (a ∷ ls) rs same le =
    let parts = both_parts x a (xs ++ ys) (ls ++ rs) same in
    let more = begins_first xs ys ls rs parts.1 (omega arith) in
    (more.0, cons_is x a xs (ls ++ more.0) parts.0 more.1)

-- an element that passes a test stands in the first part, where none of the second one passes it
stands_first : (test : Entry → Bool) (xs ys ls rs : List Entry) (e : Entry) → list_any test ys ≡ false → test e ≡ true → xs ++ ys ≡ ls ++ e ∷ rs → (more : List Entry) × (xs ≡ ls ++ more)
stands_first test [] ys ls rs e none is same =
    let here : list_any test (e ∷ rs) ≡ true = ap (λ (b : Bool). b || list_any test rs) is in
    let some : list_any test ys ≡ true = ap (list_any test) same ∙ (list_any-append test ls (e ∷ rs) ∙ any_or (list_any test ls) (list_any test (e ∷ rs)) here) in
    absurd (let f : true ≡ false = sym some ∙ none in cc)
stands_first test (x ∷ xs) ys [] rs e none is same = (x ∷ xs, refl)
stands_first test (x ∷ xs) ys (a ∷ ls) rs e none is same =
    let parts = both_parts x a (xs ++ ys) (ls ++ e ∷ rs) same in
    let more = stands_first test xs ys ls rs e none is parts.1 in
    (more.0, cons_is x a xs (ls ++ more.0) parts.0 more.1)

neither : (a b : Bool) → (a || b) ≡ false → (a ≡ false) × (b ≡ false)
neither true b h = absurd (cc h)
neither false b h = (refl, h)

right_one : (a b : Bool) → a ≡ false → (a || b) ≡ true → b ≡ true
right_one true b h k = absurd (cc h)
right_one false b h k = k

-- a part of which an element passes a test is longer than one of which none does
goes_beyond : (test : Entry → Bool) (xs ys ls rs : List Entry) → list_any test xs ≡ true → list_any test ls ≡ false → xs ++ ys ≡ ls ++ rs → (more : List Entry) × (xs ≡ ls ++ more)
goes_beyond test [] ys ls rs some none same = absurd (cc some)
goes_beyond test (x ∷ xs) ys [] rs some none same = (x ∷ xs, refl)
goes_beyond test (x ∷ xs) ys (a ∷ ls) rs some none same =
    let parts = both_parts x a (xs ++ ys) (ls ++ rs) same in
    let apart = neither (test a) (list_any test ls) none in
    let first : (test a || list_any test xs) ≡ true = ap (λ (y : Entry). test y || list_any test xs) (sym parts.0) ∙ some in
    let rest_some = right_one (test a) (list_any test xs) apart.0 first in
    let more = goes_beyond test xs ys ls rs rest_some apart.1 parts.1 in
    (more.0, cons_is x a xs (ls ++ more.0) parts.0 more.1)

module _ (g : Routing) (room : Capacity) (m : ℕ) (found : List ℕ) (before : List Entry) (c : Connection) (entries : List Entry) (l : Looked g room m found before c entries) where
  -- where all that was seen is put, it is put of what stands before
  put_front : (earlier : List Entry) → l.waits ≡ [] → ((more : List Entry) × (l.looked ≡ earlier ++ more)) → (more : List Entry) × (l.stay.done ≡ queue g m earlier ++ more)
  put_front earlier none front = (
    queue g m front.0,
    sym (append-nil l.stay.done) ∙ (ap (λ (w : List Entry). l.stay.done ++ w) (sym none) ∙ (sym l.saw ∙ (ap (queue g m) front.1 ∙ queue-append g m earlier front.0))),
  )

pub put_before_its_entries : PutBeforeItsEntries
put_before_its_entries g room m found before c entries l why earlier e later are own =
    let none : l.waits ≡ [] = subst (λ (w : Why). PutsAll w (l.waits ≡ [])) why l.put_all in
    let silent : has_own m l.since ≡ false = subst (λ (w : Why). PostsNone w (has_own m l.since ≡ false)) why l.posted_none in
    put_front g room m found before c entries l earlier none (stands_first (is_own m) l.looked l.since earlier later e silent own (sym l.between_is ∙ are))

stop_after : (before more : List Entry) (o : Entry) → is_stopped (before ++ o ∷ more) ≡ (is_stopped before || (is_stop o.what || is_stopped more))
stop_after before more o = stopped-append before (o ∷ more)

stop_of_three : (a b c d : Bool) → (a || (b || c)) ≡ true → (a || (b || d)) ≡ false → (c ≡ true) × (d ≡ false)
stop_of_three true b c d h k = absurd (cc k)
stop_of_three false true c d h k = absurd (cc k)
stop_of_three false false c d h k = (h, k)

pub put_before_the_stop : PutBeforeTheStop
put_before_the_stop g room m found before c entries l why earlier later are calm =
    let s = l.stay in
    let none : l.waits ≡ [] = subst (λ (w : Why). PutsAll w (l.waits ≡ [])) why l.put_all in
    let stop : is_stopped (before ++ s.opened ∷ l.looked) ≡ true =
    subst (λ (w : Why). Causes room w (record { connection = c; looked = before ++ s.opened ∷ l.looked; whole = before ++ s.opened ∷ s.between; left = s.left })) why l.cause in
    let both = stop_of_three (is_stopped before) (is_stop s.opened.what) (is_stopped l.looked) (is_stopped earlier) (sym (stop_after before l.looked s.opened) ∙ stop) (sym (stop_after before earlier s.opened) ∙ calm) in
    put_front g room m found before c entries l earlier none (goes_beyond (λ (e : Entry). is_stop e.what) l.looked l.since earlier later both.0 both.1 (sym l.between_is ∙ are))

pub puts_what_it_saw : PutsWhatItSaw
puts_what_it_saw g room m found before c entries l =
    let s = l.stay in
    let both : s.done ++ (l.waits ++ queue g m l.since) ≡ s.done ++ s.rest =
    sym (append_assoc s.done l.waits (queue g m l.since)) ∙ (ap (λ (q : List Entry). q ++ queue g m l.since) (sym l.saw)
    ∙ (sym (queue-append g m l.looked l.since) ∙ (ap (queue g m) (sym l.between_is) ∙ s.carries.queue_is))) in
    sym (append_cancel_left s.done (l.waits ++ queue g m l.since) s.rest both)

some_left : (left : List Output) → left ≢ [] → 1 ≤ capped (length left)
some_left [] some = absurd (some refl)
some_left (o ∷ left) some = omega arith

pub full_leaves_some : FullLeavesSome
full_leaves_some g room m found before c entries l why =
    let s = l.stay in
    let lacks = subst (λ (w : Why). Causes room w (record { connection = c; looked = before ++ s.opened ∷ l.looked; whole = before ++ s.opened ∷ s.between; left = s.left })) why l.cause in
    some_left s.left lacks.0
