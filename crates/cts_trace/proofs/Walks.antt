-- What a maker goes through, and what the entries of its packets say.
use Rattle.std.proofs.Common.{◌≡◌, ℕ, ◌≤◌, ◌==◌, Bool, true, false, cond, ◌&&◌, List, [], ◌∷◌, ◌++◌, length, map, take, drop, Option, Some, None, refl, sym, ◌∙◌, ap, subst, arith, append_assoc, length-append, filter, is_some, option_map, unwrap_or, eq-eqb, inl, inr}
use Rattle.std.specs.Prelude.{if◌then◌else◌, ◌<◌, nat_le, ◌⊎◌}
use Rattle.std.specs.List.{list_any}
use Rattle.std.proofs.lemmas.Bool.Decides.{leb_tells}
use Rattle.std.proofs.lemmas.List.Elements.{filter-append}
use Rattle.std.proofs.lemmas.List.{take-append-drop, take-append-le, drop-append-le}
use Rattle.cts_def.specs.declared.time.Time.{Time}
use Rattle.cts_def.specs.declared.ident.Ident.{Ident}
use Rattle.cts_def.specs.declared.ident.Ident.TheVariants.{Known, Unknown}
use Rattle.cts_entry.specs.declared.entry.Entry.{Entry}
use Rattle.cts_entry.specs.declared.what.What.{What}
use Rattle.cts_entry.specs.declared.what.What.TheVariants.{Packet, Command, Unrouted}
use Rattle.cts_entry.specs.declared.what.NotSent.TheVariants.{NotConnected as NoConnection}
use Rattle.cts_entry.specs.Histories.{latest, or_earlier, connects, connects_maker, is_connected, is_opened, opens, is_of_connection, is_own, is_packet, commanded, has_command, packets_from, commands_to}
use Rattle.cts_entry.specs.Places.{Posts}
use Rattle.cts_entry.proofs.Appending.{connected-append}
use Rattle.cts_framing.specs.Framing.{Heading, Output, is_stored}
use Rattle.cts_trace.specs.Routing.{Routing, is_for, queue, walk, time_in, sent_on, routed_as, said_of, packet_entries, posted_entries}
use Rattle.cts_trace.specs.Connections.{HasTime, Shows}

-- what a test tells

pub enough_of : (a b : ℕ) → nat_le a b ≡ true → a ≤ b
enough_of a b h = by_test a b h (leb_tells a b)
  where
    by_test : (a b : ℕ) → nat_le a b ≡ true → ((nat_le a b ≡ true) × (a ≤ b)) ⊎ ((nat_le a b ≡ false) × (b < a)) → a ≤ b
    by_test a b h (inl t) = t.1
    by_test a b h (inr t) = absurd (let f = t.0 in cc)

-- what a maker goes through

filter_twice : {X : Type 0} (f : X → Bool) (xs : List X) → filter f (filter f xs) ≡ filter f xs
filter_twice f [] = refl
filter_twice f (x ∷ xs) = let more = filter_twice f xs in grind arith

walk_if : (b : Bool) (f : Entry → Bool) (xs ys : List Entry) → (if b then filter f (xs ++ ys) else xs ++ ys) ≡ (if b then filter f xs else xs) ++ (if b then filter f ys else ys)
walk_if true f xs ys = filter-append f xs ys
walk_if false f xs ys = refl

pub walk-append : (g : Routing) (by : ℕ) (xs ys : List Entry) → walk g by (xs ++ ys) ≡ walk g by xs ++ walk g by ys
walk-append g by xs ys = walk_if (g.is_interface by) (is_for g by) xs ys

queue_if : (b : Bool) (f : Entry → Bool) (xs : List Entry) → filter f (if b then filter f xs else xs) ≡ filter f xs
queue_if true f xs = filter_twice f xs
queue_if false f xs = refl

pub queue_walk : (g : Routing) (by : ℕ) (xs : List Entry) → queue g by (walk g by xs) ≡ queue g by xs
queue_walk g by xs = queue_if (g.is_interface by) (is_for g by) xs

pub queue-append : (g : Routing) (by : ℕ) (xs ys : List Entry) → queue g by (xs ++ ys) ≡ queue g by xs ++ queue g by ys
queue-append g by xs ys = filter-append (is_for g by) xs ys

-- a queue is what was passed of it, and what is ahead
pub queue_split : (g : Routing) (by k : ℕ) (xs : List Entry) → queue g by xs ≡ queue g by (take k (walk g by xs)) ++ queue g by (drop k (walk g by xs))
queue_split g by k xs =
    sym (queue_walk g by xs) ∙ (ap (queue g by) (sym (take-append-drop k (walk g by xs))) ∙ queue-append g by (take k (walk g by xs)) (drop k (walk g by xs)))

pub passed_kept : (g : Routing) (by k : ℕ) (xs ys : List Entry) → k ≤ length (walk g by xs) → take k (walk g by (xs ++ ys)) ≡ take k (walk g by xs)
passed_kept g by k xs ys h = ap (take k) (walk-append g by xs ys) ∙ take-append-le k (walk g by xs) (walk g by ys) h

pub reach_kept : (g : Routing) (by k : ℕ) (xs ys : List Entry) → k ≤ length (walk g by xs) → k ≤ length (walk g by (xs ++ ys))
reach_kept g by k xs ys h = omega (arith, h, ap length (walk-append g by xs ys), length-append (walk g by xs) (walk g by ys))

pub ahead_grows : (g : Routing) (by k : ℕ) (xs ys : List Entry) → k ≤ length (walk g by xs) → queue g by (drop k (walk g by (xs ++ ys))) ≡ queue g by (drop k (walk g by xs)) ++ queue g by ys
ahead_grows g by k xs ys h =
    ap (λ (l : List Entry). queue g by (drop k l)) (walk-append g by xs ys)
    ∙ (ap (queue g by) (drop-append-le k (walk g by xs) (walk g by ys) h)
    ∙ (queue-append g by (drop k (walk g by xs)) (walk g by ys) ∙ ap (λ (l : List Entry). queue g by (drop k (walk g by xs)) ++ l) (queue_walk g by ys)))

nothing_if : {X : Type 0} (b : Bool) (xs : List X) → xs ≡ [] → (if b then xs else []) ≡ []
nothing_if true xs e = e
nothing_if false xs e = refl

pub walk_none : (g : Routing) (by : ℕ) → walk g by [] ≡ []
walk_none g by = nothing_if (g.is_interface by) (queue g by []) refl

-- where no entry is a command, an interface has no queue

no_command : (o : Option ℕ) (test : ℕ → Bool) → is_some o ≡ false → unwrap_or (option_map test o) false ≡ false
no_command None test none = refl
no_command (Some interface) test none = absurd (cc none)

uncommanded : (by : ℕ) (entries : List Entry) → has_command entries ≡ false → filter (commands_to (λ interface. interface == by)) entries ≡ []
uncommanded by [] none = refl
uncommanded by (e ∷ es) none =
    let head : is_some (commanded e.what) ≡ false = grind arith in
    let tail : has_command es ≡ false = grind arith in
    let no : commands_to (λ interface. interface == by) e ≡ false = no_command (commanded e.what) (λ interface. interface == by) head in
    ap (λ (b : Bool). cond b (e ∷ filter (commands_to (λ interface. interface == by)) es) (filter (commands_to (λ interface. interface == by)) es)) no ∙ uncommanded by es tail

no_queue_if : (b : Bool) (by : ℕ) (routes : ℕ → Bool) (entries : List Entry) → b ≡ true → has_command entries ≡ false → filter (λ (e : Entry). if b then commands_to (λ interface. interface == by) e else packets_from routes e) entries ≡ []
no_queue_if true by routes entries on none = uncommanded by entries none
no_queue_if false by routes entries on none = absurd (cc on)

pub no_queue : (g : Routing) (by : ℕ) (entries : List Entry) → g.is_interface by ≡ true → has_command entries ≡ false → queue g by entries ≡ []
no_queue g by entries on none = no_queue_if (g.is_interface by) by (g.routes by) entries on none

pub no_walk : (g : Routing) (by : ℕ) (entries : List Entry) → g.is_interface by ≡ true → has_command entries ≡ false → walk g by entries ≡ []
no_walk g by entries on none = ap (λ (b : Bool). if b then queue g by entries else entries) on ∙ no_queue g by entries on none

-- what the entry of a packet says

pub record IsSaid (b : Bool) (what : What) : Type 0 where
  pub connects : connects what ≡ None
  pub opened : is_opened what ≡ false
  pub kind : is_of_connection what ≡ true
  pub packet : b ≡ true → commanded what ≡ None
  pub command : b ≡ false → is_packet what ≡ false

said_if : (b : Bool) (interface command : ℕ) (bytes : List ℕ) → IsSaid false (if b then Command interface command bytes else Unrouted NoConnection bytes)
said_if true interface command bytes = record { connects = refl; opened = refl; kind = refl; packet = λ h. absurd (cc h); command = λ h. refl }
said_if false interface command bytes = record { connects = refl; opened = refl; kind = refl; packet = λ h. refl; command = λ h. refl }

said_sent : (history : List Entry) (to : Option ℕ) (command : ℕ) (bytes : List ℕ) → IsSaid false (sent_on history to command bytes)
said_sent history None command bytes = record { connects = refl; opened = refl; kind = refl; packet = λ h. refl; command = λ h. refl }
said_sent history (Some interface) command bytes = said_if (is_connected interface history) interface command bytes

said_routed : (g : Routing) (history : List Entry) (ident : Ident) (bytes : List ℕ) → IsSaid false (routed_as g history ident bytes)
said_routed g history (Known command) bytes = said_sent history (g.interface_of command) command bytes
said_routed g history Unknown bytes = record { connects = refl; opened = refl; kind = refl; packet = λ h. refl; command = λ h. refl }

said_either : (b : Bool) (g : Routing) (history : List Entry) (ident : Ident) (stored : Bool) (bytes : List ℕ) → IsSaid b (if b then Packet ident stored bytes else routed_as g history ident bytes)
said_either true g history ident stored bytes = record { connects = refl; opened = refl; kind = refl; packet = λ h. refl; command = λ h. absurd (cc h) }
said_either false g history ident stored bytes = said_routed g history ident bytes

pub said : (g : Routing) (history : List Entry) (m : ℕ) (o : Output) → IsSaid (g.is_interface m) (said_of g history m o)
said g history m o = said_either (g.is_interface m) g history (g.ident m o) (is_stored o.heading) o.bytes

posted_if : (b : Bool) (g : Routing) (history : List Entry) (now : Time) (by : ℕ) (outs : List Output) → b ≡ true
    → map (λ (o : Output). record { by = by; time = time_in o.heading now; what = if b then Packet (g.ident by o) (is_stored o.heading) o.bytes else routed_as g history (g.ident by o) o.bytes }) outs ≡ packet_entries g now by outs
posted_if true g history now by outs e = refl
posted_if false g history now by outs e = absurd (cc e)

pub posted_packets : (g : Routing) (history : List Entry) (now : Time) (by : ℕ) (outs : List Output) → g.is_interface by ≡ true → posted_entries g history now by outs ≡ packet_entries g now by outs
posted_packets g history now by outs e = posted_if (g.is_interface by) g history now by outs e

pub none_if : {T : Type 0} (b : Bool) (o : Option T) → o ≡ None → (if b then o else None) ≡ None
none_if true o h = h
none_if false o h = refl

pub packets_connect : (k : ℕ) (g : Routing) (history : List Entry) (now : Time) (m : ℕ) (outs : List Output) → latest (connects_maker k) (posted_entries g history now m outs) ≡ None
packets_connect k g history now m [] = refl
packets_connect k g history now m (o ∷ outs) =
    let what = said_of g history m o in
    ap (λ (t : Option Bool). or_earlier t (if m == k then connects what else None)) (packets_connect k g history now m outs) ∙ none_if (m == k) (connects what) (said g history m o).connects

and_false : (b c : Bool) → c ≡ false → (b && c) ≡ false
and_false true c h = h
and_false false c h = refl

pub packets_open : (k : ℕ) (g : Routing) (history : List Entry) (now : Time) (m : ℕ) (outs : List Output) → list_any (opens k) (posted_entries g history now m outs) ≡ false
packets_open k g history now m [] = refl
packets_open k g history now m (o ∷ outs) =
    let what = said_of g history m o in
    let head : (m == k && is_opened what) ≡ false = and_false (m == k) (is_opened what) (said g history m o).opened in
    let tail = packets_open k g history now m outs in
    grind arith

-- a maker's packets are not for its own peer
for_if : (b : Bool) (m : ℕ) (routes : ℕ → Bool) (e : Entry) → IsSaid b e.what → (if b then commands_to (λ interface. interface == m) e else packets_from routes e) ≡ false
for_if true m routes e h = let n = h.packet refl in grind arith
for_if false m routes e h = let n = h.command refl in grind arith

pub packets_queue : (g : Routing) (history : List Entry) (now : Time) (m : ℕ) (outs : List Output) → queue g m (posted_entries g history now m outs) ≡ []
packets_queue g history now m [] = refl
packets_queue g history now m (o ∷ outs) =
    let e : Entry = record { by = m; time = time_in o.heading now; what = said_of g history m o } in
    let no : is_for g m e ≡ false = for_if (g.is_interface m) m (g.routes m) e (said g history m o) in
    ap (λ (b : Bool). cond b (e ∷ queue g m (posted_entries g history now m outs)) (queue g m (posted_entries g history now m outs))) no ∙ packets_queue g history now m outs

-- each shows its output at its place

sent_kept : (h k : List Entry) → ((i : ℕ) → is_connected i h ≡ is_connected i k) → (to : Option ℕ) (command : ℕ) (bytes : List ℕ) → sent_on h to command bytes ≡ sent_on k to command bytes
sent_kept h k same None command bytes = refl
sent_kept h k same (Some i) command bytes = ap (λ (b : Bool). if b then Command i command bytes else Unrouted NoConnection bytes) (same i)

routed_kept : (g : Routing) (h k : List Entry) → ((i : ℕ) → is_connected i h ≡ is_connected i k) → (ident : Ident) (bytes : List ℕ) → routed_as g h ident bytes ≡ routed_as g k ident bytes
routed_kept g h k same (Known command) bytes = sent_kept h k same (g.interface_of command) command bytes
routed_kept g h k same Unknown bytes = refl

pub said_kept : (g : Routing) (h k : List Entry) (m : ℕ) (o : Output) → ((i : ℕ) → is_connected i h ≡ is_connected i k) → said_of g h m o ≡ said_of g k m o
said_kept g h k m o same = ap (λ (w : What). if g.is_interface m then Packet (g.ident m o) (is_stored o.heading) o.bytes else w) (routed_kept g h k same (g.ident m o) o.bytes)

has_time : (heading : Option Heading) (now : Time) → HasTime heading (time_in heading now)
has_time (Some heading) now = refl
has_time None now = tt

pub connected_kept : (by : ℕ) (history entries : List Entry) → latest (connects_maker by) entries ≡ None → is_connected by (history ++ entries) ≡ is_connected by history
connected_kept by history entries none = connected-append by history entries ∙ ap (λ (t : Option Bool). unwrap_or (or_earlier t (latest (connects_maker by) history)) false) none

pub after : (k : ℕ) (sofar : List Entry) (e : Entry) → latest (connects_maker k) sofar ≡ None → connects_maker k e ≡ None → latest (connects_maker k) (sofar ++ e ∷ []) ≡ None
after k [] e s h = h
after k (x ∷ sofar) e s h = cc_later (latest (connects_maker k) sofar) (connects_maker k x) s (λ n. after k sofar e n h)
  where
    cc_later : (later first : Option Bool) → or_earlier later first ≡ None → (later ≡ None → latest (connects_maker k) (sofar ++ e ∷ []) ≡ None) → or_earlier (latest (connects_maker k) (sofar ++ e ∷ [])) first ≡ None
    cc_later (Some b) first s more = absurd (cc s)
    cc_later None first s more = ap (λ (t : Option Bool). or_earlier t first) (more refl) ∙ s

pub packets_show : (g : Routing) (history : List Entry) (now : Time) (m : ℕ) (outs : List Output) (sofar : List Entry) → ((k : ℕ) → latest (connects_maker k) sofar ≡ None)
    → Posts m (Shows g m) (history ++ sofar) (posted_entries g history now m outs) outs
packets_show g history now m [] sofar none = refl
packets_show g history now m (o ∷ outs) sofar none =
    let e : Entry = record { by = m; time = time_in o.heading now; what = said_of g history m o } in
    let is = said g history m o in
    let more = packets_show g history now m outs (sofar ++ e ∷ []) (λ k. after k sofar e (none k) (none_if (m == k) (connects e.what) is.connects)) in
    let mine : is_own m e ≡ true = ap (λ (b : Bool). b && is_of_connection e.what) (eq-eqb m m refl) ∙ is.kind in (
      (λ h. (
        o,
        outs,
        refl,
        (said_kept g history (history ++ sofar) m o (λ i. sym (connected_kept i history sofar (none i))), has_time o.heading now),
        subst (λ (l : List Entry). Posts m (Shows g m) l (posted_entries g history now m outs) outs) (sym (append_assoc history sofar (e ∷ []))) more,
      )),
      (λ h. absurd (let f : true ≡ false = sym mine ∙ h in cc)),
    )
