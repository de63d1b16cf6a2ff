-- What some holds leave of what the history says of a line: whether it is connected, whether it has ended, and its counts.
use Rattle.std.proofs.Common.{◌≡◌, ℕ, ◌+◌, ◌==◌, ◌&&◌, ◌||◌, Bool, true, false, cond, List, [], ◌∷◌, ◌++◌, length, filter, refl, sym, ◌∙◌, ap, arith, length-append, Option, Some, None, unwrap_or, eq-eqb}
use Rattle.std.proofs.Math.Bool.{and-false, and-true, or-false}
use Rattle.std.specs.Prelude.{if◌then◌else◌, is_none, sum_by}
use Rattle.std.specs.List.{list_any}
use Rattle.std.proofs.lemmas.List.Elements.{filter-append}
use Rattle.std.proofs.lemmas.List.Folds.{list_any-append}
use Rattle.std.proofs.lemmas.List.Sums.{sum_by-cons}
use Rattle.cts_def.specs.declared.ident.Ident.{Ident}
use Rattle.cts_def.specs.declared.ident.Ident.TheVariants.{Known, Unknown}
use Rattle.cts_def.specs.declared.loss.Loss.{Loss}
use Rattle.cts_def.specs.declared.time.Time.{Time}
use Rattle.cts_entry.specs.declared.entry.Entry.{Entry}
use Rattle.cts_entry.specs.declared.what.What.{What}
use Rattle.cts_entry.specs.declared.what.What.TheVariants.{Opened, Packet, Closed, Command, Unrouted}
use Rattle.cts_entry.specs.declared.what.NotSent.TheVariants.{NotConnected as NoConnection}
use Rattle.cts_entry.specs.declared.why.Why.{Why}
use Rattle.cts_entry.specs.Histories.{bytes_for, bytes_in, bytes_of, connects_maker, is_connected, is_stop, latest, opens, or_earlier}
use Rattle.cts_entry.specs.Legal.{has_ended, is_ended}
use Rattle.cts_entry.proofs.Appending.{connected-append, latest-append}
use Rattle.cts_entry.proofs.Queuing.{none_connected, none_opened}
use Rattle.cts_framing.specs.Framing.{Output, is_stored}
use Rattle.cts_trace.specs.Makers.{closes_for, faults_of, is_fault, of_maker}
use Rattle.cts_trace.specs.Routing.{Routing, posted_entries, routed_as, said_of, sent_on, time_in}
use Rattle.cts_trace.proofs.Others.{strange_if, strange_own}
use Rattle.cts_trace.proofs.Stretches.{filter_none}
use Rattle.cts_trace.proofs.Walks.{packets_connect, packets_open}
use Rattle.cts_worker.specs.Counts.{one_if}
use Rattle.cts_line.specs.Ending.{Keeps, has_closed, has_stop, opened_in, passes}

-- ---- what packets say

-- what the entry of a packet with these bytes says: it ends nobody and closes nothing
record SaysPacket (what : What) (bytes : List ℕ) : Type 0 where
  ended : is_ended what ≡ false
  closes : (test : Why → Bool) → closes_for test what ≡ false
  bytes_are : bytes_of what ≡ bytes
  stops : is_stop what ≡ false

sent_if : (b : Bool) (interface command : ℕ) (bytes : List ℕ) → SaysPacket (if b then Command interface command bytes else Unrouted NoConnection bytes) bytes
sent_if true interface command bytes = record { ended = refl; closes = λ test. refl; bytes_are = refl; stops = refl }
sent_if false interface command bytes = record { ended = refl; closes = λ test. refl; bytes_are = refl; stops = refl }

sent : (history : List Entry) (to : Option ℕ) (command : ℕ) (bytes : List ℕ) → SaysPacket (sent_on history to command bytes) bytes
sent history None command bytes = record { ended = refl; closes = λ test. refl; bytes_are = refl; stops = refl }
sent history (Some interface) command bytes = sent_if (is_connected interface history) interface command bytes

routed : (g : Routing) (history : List Entry) (ident : Ident) (bytes : List ℕ) → SaysPacket (routed_as g history ident bytes) bytes
routed g history (Known command) bytes = sent history (g.interface_of command) command bytes
routed g history Unknown bytes = record { ended = refl; closes = λ test. refl; bytes_are = refl; stops = refl }

said_if : (b : Bool) (g : Routing) (history : List Entry) (ident : Ident) (stored : Bool) (bytes : List ℕ) → SaysPacket (if b then Packet ident stored bytes else routed_as g history ident bytes) bytes
said_if true g history ident stored bytes = record { ended = refl; closes = λ test. refl; bytes_are = refl; stops = refl }
said_if false g history ident stored bytes = routed g history ident bytes

says_packet : (g : Routing) (history : List Entry) (m : ℕ) (o : Output) → SaysPacket (said_of g history m o) o.bytes
says_packet g history m o = said_if (g.is_interface m) g history (g.ident m o) (is_stored o.heading) o.bytes

-- the entries of packets have their bytes
pub packets_bytes : (g : Routing) (history : List Entry) (now : Time) (m : ℕ) (outs : List Output) → bytes_in (posted_entries g history now m outs) ≡ sum_by (λ (o : Output). length o.bytes) outs
packets_bytes g history now m [] = refl
packets_bytes g history now m (o ∷ outs) =
    let e : Entry = record { by = m; time = time_in o.heading now; what = said_of g history m o } in
    let a = sum_by-cons (λ (x : Entry). bytes_for x.what) e (posted_entries g history now m outs) in
    let b = sum_by-cons (λ (x : Output). length x.bytes) o outs in
    let s = ap length (says_packet g history m o).bytes_are in
    omega (arith, a, b, s, packets_bytes g history now m outs)

and_none : (b c : Bool) → c ≡ false → (b && c) ≡ false
and_none true c h = h
and_none false c h = refl

packets_none : (kind : What → Bool) (g : Routing) (history : List Entry) (now : Time) (m k : ℕ) (outs : List Output) → ((o : Output) → kind (said_of g history m o) ≡ false) → list_any (λ (e : Entry). (e.by == k) && kind e.what) (posted_entries g history now m outs) ≡ false
packets_none kind g history now m k [] h = refl
packets_none kind g history now m k (o ∷ outs) h =
    ap (λ (b : Bool). b || list_any (λ (e : Entry). (e.by == k) && kind e.what) (posted_entries g history now m outs)) (and_none (m == k) (kind (said_of g history m o)) (h o)) ∙ packets_none kind g history now m k outs h

-- ---- entries that say nothing of a line

pub record Quiet (m : ℕ) (es : List Entry) : Type 0 where
  pub connects : latest (connects_maker m) es ≡ None
  pub ended : has_ended m es ≡ false
  pub opened : list_any (opens m) es ≡ false
  pub closed : (test : Why → Bool) → has_closed m test es ≡ false

strange_kind : (m : ℕ) (kind : What → Bool) (es : List Entry) → of_maker m es ≡ [] → list_any (λ (e : Entry). (e.by == m) && kind e.what) es ≡ false
strange_kind m kind [] none = refl
strange_kind m kind (e ∷ es) none =
    let s = strange_if (e.by == m) e (of_maker m es) none in
    ap (λ (b : Bool). (b && kind e.what) || list_any (λ (x : Entry). (x.by == m) && kind x.what) es) s.0 ∙ strange_kind m kind es s.1

pub quiet_others : (m : ℕ) (es : List Entry) → of_maker m es ≡ [] → Quiet m es
quiet_others m es none = record {
  connects = none_connected m es (strange_own m es none);
  ended = strange_kind m is_ended es none;
  opened = none_opened m es (strange_own m es none);
  closed = λ test. strange_kind m (closes_for test) es none;
}

pub quiet_packets : (g : Routing) (history : List Entry) (now : Time) (m : ℕ) (outs : List Output) → Quiet m (posted_entries g history now m outs)
quiet_packets g history now m outs = record {
  connects = packets_connect m g history now m outs;
  ended = packets_none is_ended g history now m m outs (λ o. (says_packet g history m o).ended);
  opened = packets_open m g history now m outs;
  closed = λ test. packets_none (closes_for test) g history now m m outs (λ o. (says_packet g history m o).closes test);
}

pub quiet_none : (m : ℕ) → Quiet m []
quiet_none m = record { connects = refl; ended = refl; opened = refl; closed = λ test. refl }

or_none : (a b : Bool) → a ≡ false → b ≡ false → (a || b) ≡ false
or_none true b h k = absurd (cc h)
or_none false b h k = k

pub quiet_both : (m : ℕ) (xs ys : List Entry) → Quiet m xs → Quiet m ys → Quiet m (xs ++ ys)
quiet_both m xs ys a b = record {
  connects = latest-append (connects_maker m) xs ys ∙ (ap (λ (t : Option Bool). or_earlier t (latest (connects_maker m) xs)) b.connects ∙ a.connects);
  ended = list_any-append (λ (e : Entry). (e.by == m) && is_ended e.what) xs ys ∙ or_none _ _ a.ended b.ended;
  opened = list_any-append (opens m) xs ys ∙ or_none _ _ a.opened b.opened;
  closed = λ test. list_any-append (λ (e : Entry). (e.by == m) && closes_for test e.what) xs ys ∙ or_none _ _ (a.closed test) (b.closed test);
}

-- ---- counts

counted : (test : Entry → Bool) (xs ys : List Entry) → length (filter test (xs ++ ys)) ≡ length (filter test xs) + length (filter test ys)
counted test xs ys = ap length (filter-append test xs ys) ∙ length-append (filter test xs) (filter test ys)

pub counted_none : (test : Entry → Bool) (xs ys : List Entry) → list_any test ys ≡ false → length (filter test (xs ++ ys)) ≡ length (filter test xs)
counted_none test xs ys none = let c = counted test xs ys in let n = ap length (filter_none test ys none) in omega (arith, c, n)

pub faults_quiet : (m : ℕ) (history es : List Entry) → Quiet m es → faults_of m (history ++ es) ≡ faults_of m history
faults_quiet m history es q = counted_none (λ (e : Entry). (e.by == m) && closes_for is_fault e.what) history es (q.closed is_fault)

pub opened_quiet : (m : ℕ) (history es : List Entry) → Quiet m es → opened_in m (history ++ es) ≡ opened_in m history
opened_quiet m history es q = counted_none (opens m) history es q.opened

pub ended_quiet : (m : ℕ) (history es : List Entry) → Quiet m es → has_ended m (history ++ es) ≡ has_ended m history
ended_quiet m history es q = list_any-append (λ (e : Entry). (e.by == m) && is_ended e.what) history es ∙ (ap (λ (b : Bool). has_ended m history || b) q.ended ∙ or-false (has_ended m history))

pub closed_quiet : (m : ℕ) (test : Why → Bool) (history es : List Entry) → Quiet m es → has_closed m test (history ++ es) ≡ has_closed m test history
closed_quiet m test history es q =
    list_any-append (λ (e : Entry). (e.by == m) && closes_for test e.what) history es ∙ (ap (λ (b : Bool). has_closed m test history || b) (q.closed test) ∙ or-false (has_closed m test history))

pub connected_quiet : (m : ℕ) (history es : List Entry) → Quiet m es → is_connected m (history ++ es) ≡ is_connected m history
connected_quiet m history es q = connected-append m history es ∙ ap (λ (t : Option Bool). unwrap_or (or_earlier t (latest (connects_maker m) history)) false) q.connects

-- ---- who stopped the server

pub stop_strange : (m : ℕ) (es : List Entry) → of_maker m es ≡ [] → has_stop m es ≡ false
stop_strange m es none = strange_kind m is_stop es none

pub stop_packets : (g : Routing) (history : List Entry) (now : Time) (m : ℕ) (outs : List Output) → has_stop m (posted_entries g history now m outs) ≡ false
stop_packets g history now m outs = packets_none is_stop g history now m m outs (λ o. (says_packet g history m o).stops)

pub stop_closed : (m : ℕ) (time : Time) (why : Why) (loss : Loss) (unposted unsent : ℕ) → has_stop m (record { by = m; time = time; what = Closed why loss unposted unsent } ∷ []) ≡ false
stop_closed m time why loss unposted unsent = ap (λ (b : Bool). (b && false) || false) (eq-eqb m m refl)

pub stop_opened : (m : ℕ) (time : Time) → has_stop m (record { by = m; time = time; what = Opened } ∷ []) ≡ false
stop_opened m time = ap (λ (b : Bool). (b && false) || false) (eq-eqb m m refl)

pub stop_both : (m : ℕ) (xs ys : List Entry) → has_stop m xs ≡ false → has_stop m ys ≡ false → has_stop m (xs ++ ys) ≡ false
stop_both m xs ys a b = list_any-append (λ (e : Entry). (e.by == m) && is_stop e.what) xs ys ∙ or_none _ _ a b

pub stop_same : (m : ℕ) (history es : List Entry) → has_stop m es ≡ false → has_stop m (history ++ es) ≡ has_stop m history
stop_same m history es none = list_any-append (λ (e : Entry). (e.by == m) && is_stop e.what) history es ∙ (ap (λ (b : Bool). has_stop m history || b) none ∙ or-false (has_stop m history))

-- ---- what is kept

pub keeps_same : (m : ℕ) (history : List Entry) → Keeps m history history None
keeps_same m history = record { ended = refl; opened = refl; faults = omega arith; on = sym (and-true (is_connected m history)); said = tt; only = λ test. sym (or-false (has_closed m test history)) }

pub keeps_quiet : (m : ℕ) (history es : List Entry) → Quiet m es → Keeps m history (history ++ es) None
keeps_quiet m history es q = record {
  ended = ended_quiet m history es q;
  opened = opened_quiet m history es q;
  faults = (let f = faults_quiet m history es q in omega (arith, f));
  on = connected_quiet m history es q ∙ sym (and-true (is_connected m history));
  said = tt;
  only = λ test. closed_quiet m test history es q ∙ sym (or-false (has_closed m test history));
}

same_maker : (m : ℕ) → (m == m) ≡ true
same_maker m = eq-eqb m m refl

count_if : (b : Bool) (e : Entry) → length (cond b (e ∷ []) []) ≡ one_if b
count_if true e = refl
count_if false e = refl

-- a Closed, after entries that say nothing of the line
pub keeps_closed : (m : ℕ) (history es : List Entry) (time : Time) (why : Why) (loss : Loss) (unposted unsent : ℕ) → Quiet m es → Keeps m history ((history ++ es) ++ record { by = m; time = time; what = Closed why loss unposted unsent } ∷ []) (Some why)
keeps_closed m history es time why loss unposted unsent q =
    let e : Entry = record { by = m; time = time; what = Closed why loss unposted unsent } in
    let mid : List Entry = history ++ es in
    let mine = same_maker m in
    let not_ended : has_ended m (e ∷ []) ≡ false = ap (λ (b : Bool). (b && false) || false) mine in
    let not_opened : list_any (opens m) (e ∷ []) ≡ false = ap (λ (b : Bool). (b && false) || false) mine in
    let closes : latest (connects_maker m) (e ∷ []) ≡ Some false = ap (λ (b : Bool). or_earlier None (if b then Some false else None)) mine in
    let one : faults_of m (e ∷ []) ≡ one_if (is_fault why) = ap (λ (b : Bool). length (cond (b && is_fault why) (e ∷ []) [])) mine ∙ count_if (is_fault why) e in
    record {
      ended = list_any-append (λ (x : Entry). (x.by == m) && is_ended x.what) mid (e ∷ []) ∙ (ap (λ (b : Bool). has_ended m mid || b) not_ended ∙ (or-false (has_ended m mid) ∙ ended_quiet m history es q));
      opened = counted_none (opens m) mid (e ∷ []) not_opened ∙ opened_quiet m history es q;
      faults = (let c = counted (λ (x : Entry). (x.by == m) && closes_for is_fault x.what) mid (e ∷ []) in let f = faults_quiet m history es q in omega (arith, c, f, one));
      on = connected-append m mid (e ∷ []) ∙ (ap (λ (t : Option Bool). unwrap_or (or_earlier t (latest (connects_maker m) mid)) false) closes ∙ sym (and-false (is_connected m history)));
      said = λ test is. list_any-append (λ (x : Entry). (x.by == m) && closes_for test x.what) mid (e ∷ []) ∙ (ap (λ (b : Bool). has_closed m test mid || ((b && test why) || false)) mine ∙ (ap (λ (b : Bool). has_closed m test mid || (b || false)) is ∙ or_true (has_closed m test mid)));
      only = λ test.
          list_any-append (λ (x : Entry). (x.by == m) && closes_for test x.what) mid (e ∷ [])
          ∙ (ap (λ (b : Bool). has_closed m test mid || ((b && test why) || false)) mine
          ∙ (ap (λ (b : Bool). has_closed m test mid || b) (or-false (test why)) ∙ ap (λ (b : Bool). b || test why) (closed_quiet m test history es q)));
    }
  where
    or_true : (a : Bool) → (a || true) ≡ true
    or_true true = refl
    or_true false = refl

pub keeps_then : (m : ℕ) (a b c : List Entry) (closed : Option Why) → Keeps m a b None → Keeps m b c closed → Keeps m a c closed
keeps_then m a b c closed k l = record {
  ended = l.ended ∙ k.ended;
  opened = l.opened ∙ k.opened;
  faults = (let x = k.faults in let y = l.faults in omega (arith, x, y));
  on = l.on ∙ ap (λ (t : Bool). t && is_none closed) (k.on ∙ and-true (is_connected m a));
  said = l.said;
  only = λ test. l.only test ∙ ap (λ (x : Bool). x || passes test closed) (k.only test ∙ or-false (has_closed m test a));
}
