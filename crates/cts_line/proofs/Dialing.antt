-- From one connection of a line to the next, and to its end.
use Rattle.std.proofs.Common.{◌≡◌, ℕ, ◌+◌, ◌≤◌, ◌==◌, ◌&&◌, ◌||◌, Bool, true, false, cond, List, [], ◌∷◌, ◌++◌, length, filter, refl, sym, ◌∙◌, ap, subst, arith, length-append, append-nil, append_assoc, Option, Some, None, unwrap_or, eq-eqb, inl, inr}
use Rattle.std.proofs.Math.Bool.{and-false, or-false}
use Rattle.std.specs.Prelude.{if◌then◌else◌, option_to_list, IfNone, IfSome}
use Rattle.std.specs.List.{list_any}
use Rattle.std.proofs.lemmas.List.Elements.{filter-append}
use Rattle.std.proofs.lemmas.List.Folds.{list_any-append}
use Rattle.cts_connection.specs.Connections.{HeldConnection}
use Rattle.cts_connection.specs.Postings.{Grown, opened_entry}
use Rattle.cts_connection.specs.Routings.{site_routing}
use Rattle.cts_def.specs.Sites.{SiteData}
use Rattle.cts_def.specs.declared.time.Time.{Time}
use Rattle.cts_entry.specs.declared.entry.Entry.{Entry}
use Rattle.cts_entry.specs.declared.what.What.TheVariants.{Stop, Ended}
use Rattle.cts_entry.specs.declared.why.Why.{Why}
use Rattle.cts_entry.specs.declared.why.Why.TheVariants.{PeerEnded, ReadFault, WriteFault, BadFrame, Stopped as StoppedWhy, NoMemory as NoMemoryWhy, Full as FullWhy}
use Rattle.cts_entry.specs.Histories.{connects_maker, entries_in, has_own, is_connected, is_stopped, latest, opens, or_earlier}
use Rattle.cts_entry.specs.Legal.{has_ended, is_ended}
use Rattle.cts_entry.proofs.Appending.{connected-append, entries-append, stopped-append}
use Rattle.cts_framing.specs.Packets.{capped}
use Rattle.cts_outside.specs.Lines.{Connection, Line, after_dial, fresh, hung_up, told_after}
use Rattle.cts_outside.specs.declared.link.Dialed.TheVariants.{Linked, Finished as FinishedDial}
use Rattle.cts_chain.specs.Shapes.{IsSameChain}
use Rattle.cts_table.specs.States.{Shown}
use Rattle.cts_table.specs.declared.basis.Basis.{Basis}
use Rattle.cts_entry.specs.Room.{Capacity}
use Rattle.cts_trace.specs.Makers.{closes_for, faults_of, is_fault, of_maker}
use Rattle.cts_trace.specs.Routing.{Routing}
use Rattle.cts_trace.specs.Told.{HasFinished, Unopened}
use Rattle.cts_trace.proofs.Looking.{stop_kept, unopened_more}
use Rattle.cts_trace.proofs.Others.{strange_own}
use Rattle.cts_turn.specs.declared.rule.View.{View}
use Rattle.cts_worker.specs.Counts.{RoseBy, RoseIf, one_if}
use Rattle.cts_worker.specs.Holds.{EndedHold, Held, Hold, InHold, Onward}
use Rattle.cts_worker.specs.Lasts.{IsShut, entry_of, last_entries, stop_if}
use Rattle.cts_worker.proofs.Counting.{rose_if, rose_same, rose_then}
use Rattle.cts_worker.proofs.Holdings.{looked_in}
use Rattle.cts_worker.proofs.Lasting.{ended_onward, ended_seen}
use Rattle.cts_line.specs.Doing.{OpensIn}
use Rattle.cts_line.specs.Ending.{after_closed, reconnects, unless_again, CausesEnd, FaultsRise, IsUndialed, Keeps, fails, has_closed, has_stop, is_any, is_full, opened_in, refused, stops_all}
use Rattle.cts_turn.specs.Lists.{climbs}
use Rattle.cts_line.specs.Rows.{SaidInRows, SettledInRows, ToldInRows}
use Rattle.cts_line.specs.Talks.{Begins, IsClosed, Talks, TalksAt, ToldSoFar, Waits, Went, room_of}
use Rattle.cts_line.specs.declared.ending.LineWhy.{LineWhy}
use Rattle.cts_line.specs.declared.ending.LineWhy.TheVariants.{Stopped, Finished, NoReconnect, DoorFailed, Full, NoMemory, Cancelled}
use Rattle.cts_line.specs.declared.opening.Opening.{Opening}
use Rattle.cts_line.specs.declared.opening.Opening.TheVariants.{Opened, Stopped as StoppedThere, Full as NoRoom, NoMemory as NoMemoryThere}
use Rattle.cts_chain.proofs.Anew.{anew}
use Rattle.cts_line.proofs.Growing.{Grows, said_grown}
use Rattle.cts_line.proofs.Rows.{settles_rows}
use Rattle.cts_line.proofs.Keeping.{Quiet, closed_quiet, counted_none, faults_quiet, keeps_quiet, opened_quiet, quiet_none, quiet_others, stop_both, stop_opened, stop_strange}
use Rattle.cts_line.proofs.Boarding.{quiet_stop}
use Rattle.cts_line.proofs.Following.{filter_few, grows_by, look_grows, look_kept, look_stop, onward_by, quiet_keeps, stop_kept_by}
use Rattle.cts_line.proofs.Steps.{opens_talk}

-- ---- counts of faults

pub faults_same : (m : ℕ) (history : List Entry) (f : ℕ) → FaultsRise m history history f f
faults_same m history f = (0, omega arith, rose_same f)

pub faults_then : (m : ℕ) (a b c : List Entry) (f g h : ℕ) → FaultsRise m a b f g → FaultsRise m b c g h → FaultsRise m a c f h
faults_then m a b c f g h x y = (x.0 + y.0, (let p = x.1 in let q = y.1 in omega (arith, p, q)), rose_then x.0 y.0 f g h x.2 y.2)

pub faults_kept : (m : ℕ) (a b : List Entry) (closed : Option Why) (f g : ℕ) → Keeps m a b closed → RoseIf (fails closed) f g → FaultsRise m a b f g
faults_kept m a b closed f g k r = (one_if (fails closed), k.faults, rose_if (fails closed) f g r)

pub faults_to : (m : ℕ) (a b : List Entry) (f g h : ℕ) → h ≡ g → FaultsRise m a b f g → FaultsRise m a b f h
faults_to m a b f g h e x = subst (λ (n : ℕ). FaultsRise m a b f n) (sym e) x

-- ---- a round after which the connection stands

pub none_kept : (m : ℕ) (a b : List Entry) (end : Option Why) → end ≡ None → Keeps m a b end → Keeps m a b None
none_kept m a b end is k = subst (λ (x : Option Why). Keeps m a b x) is k

pub rose_none : (end : Option Why) (before now : ℕ) → end ≡ None → RoseIf (fails end) before now → now ≡ before
rose_none end before now is r = subst (λ (x : Option Why). RoseIf (fails x) before now) is r

pub if_none : (end : Option Why) (P : Type 0) → end ≡ None → IfNone end P → P
if_none end P is p = subst (λ (x : Option Why). IfNone x P) is p

pub went_none : {G : Type 0} (g : Routing) (room : Capacity) (m : ℕ) (c : HeldConnection) (v : View Entry G) (told : Option Line) (end : Option Why) → end ≡ None → Went g room m c v told end → TalksAt g room m Waits c v told
went_none g room m c v told end is t = subst (λ (x : Option Why). Went g room m c v told x) is t

pub went_some : {G : Type 0} (g : Routing) (room : Capacity) (m : ℕ) (c : HeldConnection) (v : View Entry G) (told : Option Line) (end : Option Why) (why : Why) → end ≡ Some why → Went g room m c v told end → IsClosed g room m v told
went_some g room m c v told end why is t = subst (λ (x : Option Why). Went g room m c v told x) is t

pub still_on : (m : ℕ) (a b : List Entry) → Keeps m a b None → is_connected m a ≡ true → is_connected m b ≡ true
still_on m a b k on = k.on ∙ ap (λ (x : Bool). x && true) on

-- ---- what is told between connections

module _ (g : Routing) (room : Capacity) (m : ℕ) (found : List ℕ) (history added : List Entry) (found' : List ℕ) (history' : List Entry) (grows : Grows m found history added found' history') (none : has_own m added ≡ false) where
  pub settled_hold : (told : Option Line) → SettledInRows g room m found history told → SettledInRows g room m found' history' told
  settled_hold None t = tt
  settled_hold (Some line) t = (t.0, said_grown m found history added found' history' grows g room line.past none t.1)

  pub told_hold : (told : Option Line) → ToldInRows g room m found history told → ToldInRows g room m found' history' told
  told_hold None t = tt
  told_hold (Some line) t = (
    t.0,
    t.1,
    t.2,
    t.3,
    said_grown m found history added found' history' grows g room t.0 none t.4,
    subst (λ (l : List Entry). Unopened l t.1) (sym (grows.seen ∙ append_assoc history grows.others added)) (unopened_more history (grows.others ++ added) t.1 t.5),
  )

  -- a Stop stands then, so the connection could not be opened
  pub unopened_hold : (old new : Option Line) → is_stopped history' ≡ true → new ≡ told_after hung_up old → Begins g room m found history old → ToldInRows g room m found' history' new
  unopened_hold None new stop e b = subst (λ (o : Option Line). ToldInRows g room m found' history' o) (sym e) tt
  unopened_hold (Some line) new stop e b = subst (λ (o : Option Line). ToldInRows g room m found' history' o) (sym e) (
    line.past,
    fresh ∷ [],
    refl,
    ap (λ (c : Option Connection). line.past ++ option_to_list c) b.0,
    said_grown m found history added found' history' grows g room line.past none b.1,
    (refl, stop),
  )

pub begins_linked : (g : Routing) (room : Capacity) (m : ℕ) (found : List ℕ) (history : List Entry) (old new : Option Line) → new ≡ told_after (after_dial Linked) old → SettledInRows g room m found history old → Begins g room m found history new
begins_linked g room m found history None new e t = subst (λ (o : Option Line). Begins g room m found history o) (sym e) tt
begins_linked g room m found history (Some line) new e t = subst (λ (o : Option Line). Begins g room m found history o) (sym e) (refl, t.1)

pub finishes_settled : (g : Routing) (room : Capacity) (m : ℕ) (found : List ℕ) (history : List Entry) (old new : Option Line) → new ≡ told_after (after_dial FinishedDial) old → SettledInRows g room m found history old → SettledInRows g room m found history new × HasFinished new
finishes_settled g room m found history None new e t = subst (λ (o : Option Line). SettledInRows g room m found history o × HasFinished o) (sym e) (tt, tt)
finishes_settled g room m found history (Some line) new e t = subst (λ (o : Option Line). SettledInRows g room m found history o × HasFinished o) (sym e) (t, refl)

same_told : (old : Option Line) → told_after (λ line. line) old ≡ old
same_told None = refl
same_told (Some line) = refl

pub nothing_dialed : (g : Routing) (room : Capacity) (m : ℕ) (found : List ℕ) (history : List Entry) (old new : Option Line) → new ≡ told_after (λ line. line) old → SettledInRows g room m found history old → SettledInRows g room m found history new
nothing_dialed g room m found history old new e t = subst (λ (o : Option Line). SettledInRows g room m found history o) (sym (e ∙ same_told old)) t

pub hangs_up : {G : Type 0} (g : Routing) (room : Capacity) (m : ℕ) (v : View Entry G) (old new : Option Line) → new ≡ told_after hung_up old → IsClosed g room m v old → SettledInRows g room m v.found v.seen new
hangs_up g room m v None new e c = subst (λ (o : Option Line). SettledInRows g room m v.found v.seen o) (sym e) tt
hangs_up g room m v (Some line) new e c = subst (λ (o : Option Line). SettledInRows g room m v.found v.seen o) (sym e) (refl, c)

pub so_far : (g : Routing) (room : Capacity) (m : ℕ) (found : List ℕ) (history : List Entry) (told : Option Line) (end : Option LineWhy) → SettledInRows g room m found history told → ToldSoFar g room m found history told end
so_far g room m found history told None t = t
so_far g room m found history told (Some why) t = settles_rows g room m found history told t

-- ---- the Opened

-- what an Opened leaves of what the history says of the line
pub record Opens (m : ℕ) (old new : List Entry) : Type 0 where
  pub ended : has_ended m new ≡ has_ended m old
  pub opened : opened_in m new ≡ opened_in m old + 1
  pub faults : faults_of m new ≡ faults_of m old
  pub on : is_connected m new ≡ true
  pub closed : (test : Why → Bool) → has_closed m test new ≡ has_closed m test old

opens_own : (m : ℕ) (history es : List Entry) (time : Time) → Quiet m es → Opens m history ((history ++ es) ++ opened_entry m time ∷ [])
opens_own m history es time q =
    let e : Entry = opened_entry m time in
    let mid : List Entry = history ++ es in
    let mine : (m == m) ≡ true = eq-eqb m m refl in
    let k = keeps_quiet m history es q in
    record {
      ended = list_any-append (λ (x : Entry). (x.by == m) && is_ended x.what) mid (e ∷ []) ∙ (ap (λ (b : Bool). has_ended m mid || ((b && false) || false)) mine ∙ (or-false (has_ended m mid) ∙ k.ended));
      opened = (let c = count (opens m) mid (e ∷ []) in let o = k.opened in let one : length (filter (opens m) (e ∷ [])) ≡ 1 = ap (λ (b : Bool). length (cond (b && true) (e ∷ []) [])) mine in omega (arith, c, o, one));
      faults = (let c = count (λ (x : Entry). (x.by == m) && closes_for is_fault x.what) mid (e ∷ []) in let f = k.faults in
          let none : length (filter (λ (x : Entry). (x.by == m) && closes_for is_fault x.what) (e ∷ [])) ≡ 0 = ap (λ (b : Bool). length (cond (b && false) (e ∷ []) [])) mine in omega (arith, c, f, none));
      on = connected-append m mid (e ∷ []) ∙ ap (λ (b : Bool). unwrap_or (or_earlier (or_earlier None (if b then Some true else None)) (latest (connects_maker m) mid)) false) mine;
      closed = λ test.
          list_any-append (λ (x : Entry). (x.by == m) && closes_for test x.what) mid (e ∷ [])
          ∙ (ap (λ (b : Bool). has_closed m test mid || ((b && false) || false)) mine ∙ (or-false (has_closed m test mid) ∙ closed_quiet m test history es q));
    }
  where
    count : (test : Entry → Bool) (xs ys : List Entry) → length (filter test (xs ++ ys)) ≡ length (filter test xs) + length (filter test ys)
    count test xs ys = ap length (filter-append test xs ys) ∙ length-append (filter test xs) (filter test ys)

-- a Stop belongs to no connection
pub stop_own : (m : ℕ) (time : Time) → has_own m (entry_of m time Stop ∷ []) ≡ false
stop_own m time = ap (λ (b : Bool). (b && false) || false) (eq-eqb m m refl)

pub stop_stands : (history : List Entry) (m : ℕ) (time : Time) → is_stopped (history ++ entry_of m time Stop ∷ []) ≡ true
stop_stands history m time = stopped-append history (entry_of m time Stop ∷ []) ∙ or_true (is_stopped history)
  where
    or_true : (a : Bool) → (a || true) ≡ true
    or_true true = refl
    or_true false = refl

-- ---- what a hold left that was to open a connection

-- the connection could not be opened, and the line ends for this reason
pub record Refusal {G : Type 0} (base : Basis) (m : ℕ) (old new : View Entry G) (c d : HeldConnection) (why : LineWhy) : Type 0 where
  pub onward : Onward old new
  pub keeps : Keeps m old.seen new.seen None
  pub stop : stops_all why ≡ false → has_stop m new.seen ≡ has_stop m old.seen
  pub same : d ≡ c
  pub told : (before now : Option Line) → now ≡ told_after hung_up before → Begins (site_routing base.site) (room_of base) m old.found old.seen before → ToldInRows (site_routing base.site) (room_of base) m new.found new.seen now
  pub cause : (told : Option Line) (before now : ℕ) → CausesEnd base.site base.entries m new.seen told before now why

-- the connection is opened
pub record OpeningView {G : Type 0} (base : Basis) (m : ℕ) (old new : View Entry G) (c d : HeldConnection) : Type 0 where
  pub onward : Onward old new
  pub opens : Opens m old.seen new.seen
  pub stop : has_stop m new.seen ≡ has_stop m old.seen
  pub same : IsSameChain c.chain d.chain
  pub place : d.cursor.place ≤ length new.seen
  pub talks : climbs 0 old.found (length old.seen) ≡ true → (told : Option Line) → Begins (site_routing base.site) (room_of base) m old.found old.seen told → TalksAt (site_routing base.site) (room_of base) m Waits d new told

module _ {G : Type 0} (m : ℕ) (old new : View Entry G) (s t : Shown) (held : Held m old new s t) (c d : HeldConnection) where
  refusal_by : (why : LineWhy) (added : List Entry) → t.entries ≡ s.entries ++ added → Quiet m added → has_own m added ≡ false → (stops_all why ≡ false → has_stop m added ≡ false) → d ≡ c → is_stopped t.entries ≡ true
      → ((told : Option Line) (before now : ℕ) → CausesEnd s.basis.site s.basis.entries m t.entries told before now why) → Refusal s.basis m old new c d why
  refusal_by why added e quiet none silent same stop cause = record {
    onward = onward_by m old new s t held added e;
    keeps = quiet_keeps m old new s t held added e quiet;
    stop = λ off. stop_kept_by m old new s t held added e (silent off);
    same = same;
    told = λ before now is begins.
        unopened_hold (site_routing s.basis.site) (room_of s.basis) m old.found old.seen added new.found new.seen (grows_by m old new s t held added e) none before now (ap is_stopped held.seen ∙ stop) is begins;
    cause = λ told before now. subst (λ (l : List Entry). CausesEnd s.basis.site s.basis.entries m l told before now why) (sym held.seen) (cause told before now);
  }

  stopped_by_it : (time : Time) → Grown s (entry_of m time Stop ∷ []) t → is_stopped t.entries ≡ true
  stopped_by_it time g = ap is_stopped g.entries ∙ stop_stands s.entries m time

  refusal_of : (time : Time) (opening : Opening) (why : LineWhy) → refused opening ≡ Some why → OpensIn m time s c opening t d → Refusal s.basis m old new c d why
  refusal_of time Opened why is o = absurd (cc is)
  refusal_of time StoppedThere why is o =
      let w : Stopped ≡ why = cc in
      subst (λ (x : LineWhy). Refusal s.basis m old new c d x) w
      (refusal_by Stopped [] (ap (λ (x : Shown). x.entries) o.0 ∙ sym (append-nil s.entries)) (quiet_none m) refl (λ off. refl) o.1 (ap (λ (x : Shown). is_stopped x.entries) o.0 ∙ o.2)
      (λ told before now. ap (λ (x : Shown). is_stopped x.entries) o.0 ∙ o.2))
  refusal_of time NoRoom why is o =
      let w : Full ≡ why = cc in
      let more = ap entries_in o.0.entries ∙ entries-append s.entries (entry_of m time Stop ∷ []) in
      let le = o.2 in
      subst (λ (x : LineWhy). Refusal s.basis m old new c d x) w
      (refusal_by Full (entry_of m time Stop ∷ []) o.0.entries (quiet_stop true m time) (stop_own m time) (λ off. absurd (let f : true ≡ false = off in cc)) o.1 (stopped_by_it time o.0) (λ told before now. inr (omega (arith, more, le))))
  refusal_of time NoMemoryThere why is o =
      let w : NoMemory ≡ why = cc in
      subst (λ (x : LineWhy). Refusal s.basis m old new c d x) w
      (refusal_by NoMemory (entry_of m time Stop ∷ []) o.0.entries (quiet_stop true m time) (stop_own m time) (λ off. absurd (let f : true ≡ false = off in cc)) o.1 (stopped_by_it time o.0) (λ told before now. tt))

  opening_of : (time : Time) (opening : Opening) → refused opening ≡ None → OpensIn m time s c opening t d → OpeningView s.basis m old new c d
  opening_of time Opened is o =
      let e : Entry = opened_entry m time in
      let grows = grows_by m old new s t held (e ∷ []) o.0.entries in
      let fresh = anew c.chain.stages d.chain.stages o.1.renewed in
      let place : d.cursor.place ≡ length new.seen = ap (λ x. x.place) o.2 ∙ ap length (sym held.seen) in
      record {
        onward = onward_by m old new s t held (e ∷ []) o.0.entries;
        opens = subst (λ (l : List Entry). Opens m old.seen l) (sym grows.seen) (opens_own m old.seen grows.others time (quiet_others m grows.others grows.strange));
        stop = stop_kept_by m old new s t held (e ∷ []) o.0.entries (stop_opened m time);
        same = o.1.same;
        place = omega (arith, place);
        talks = λ climbing told begins.
            subst (λ (k : ℕ). Talks (site_routing s.basis.site) (room_of s.basis) m Waits d.chain.stages d.cursor.place k new.found new.seen told) (sym (ap (λ x. x.refused) o.2))
            (opens_talk (site_routing s.basis.site) (room_of s.basis) m d.cursor.place d.chain.stages old.found new.found old.seen new.seen e told grows (record { maker = refl; what_is = refl }) place fresh.stands fresh.settled fresh.sound climbing begins);
      }
  opening_of time StoppedThere is o = absurd (cc is)
  opening_of time NoRoom is o = absurd (cc is)
  opening_of time NoMemoryThere is o = absurd (cc is)

module _ {G : Type 0} (base : Basis) (m : ℕ) (old new : View Entry G) (c d : HeldConnection) (opening : Opening) (h : (time : Time) × InHold base m old new (λ s t. OpensIn m time s c opening t d)) where
  pub refusal : (why : LineWhy) → refused opening ≡ Some why → Refusal base m old new c d why
  refusal why is = subst (λ (b : Basis). Refusal b m old new c d why) h.1.2 (refusal_of m old new h.1.0 h.1.1 h.1.3 c d h.0 opening why is h.1.4)

  pub opening_is : refused opening ≡ None → OpeningView base m old new c d
  opening_is is = subst (λ (b : Basis). OpeningView b m old new c d) h.1.2 (opening_of m old new h.1.0 h.1.1 h.1.3 c d h.0 opening is h.1.4)

-- ---- after a connection

pub shut_kept : (m : ℕ) (a b : List Entry) → Keeps m a b None → IsShut m a → IsShut m b
shut_kept m a b k shut = (k.on ∙ ap (λ (x : Bool). x && true) shut.0, k.ended ∙ shut.1)

pub shut_closed : (m : ℕ) (a b c : List Entry) (why : Why) → Opens m a b → Keeps m b c (Some why) → IsShut m a → IsShut m c
shut_closed m a b c why o k shut = (k.on ∙ and-false (is_connected m b), k.ended ∙ (o.ended ∙ shut.1))

pub count_kept : (m : ℕ) (a b : List Entry) (n : ℕ) → Keeps m a b None → n ≡ capped (opened_in m a) → n ≡ capped (opened_in m b)
count_kept m a b n k is = is ∙ ap capped (sym k.opened)

pub count_closed : (m : ℕ) (a b c : List Entry) (why : Why) (n n' : ℕ) → Opens m a b → Keeps m b c (Some why) → n ≡ capped (opened_in m a) → n' ≡ capped (n + 1) → n' ≡ capped (opened_in m c)
count_closed m a b c why n n' o k is more = let x = o.opened in let y = k.opened in omega (arith, x, y, is, more)

pub faults_closed : (m : ℕ) (a b c : List Entry) (why : Why) (f f' f'' : ℕ) → Opens m a b → Keeps m b c (Some why) → RoseIf (is_fault why) f f' → f'' ≡ f' → FaultsRise m a c f f''
faults_closed m a b c why f f' f'' o k r same = faults_to m a c f f' f'' same (one_if (is_fault why), k.faults ∙ ap (λ (n : ℕ). n + one_if (is_fault why)) o.faults, rose_if (is_fault why) f f' r)

pub faults_none : (m : ℕ) (a b : List Entry) (f f' : ℕ) → Keeps m a b None → f' ≡ f → FaultsRise m a b f f'
faults_none m a b f f' k same = faults_kept m a b None f f' k same

-- ---- a look before a dial

module _ {G : Type 0} (base : Basis) (m : ℕ) (old new : View Entry G) (hold : Hold m old new []) where
  abbrev as_look : InHold base m old new (λ s t. t ≡ s)
  as_look = let l = looked_in base m old new hold in (l.0, l.1, l.2, l.3, l.4.0)

  pub stop_keeps : Keeps m old.seen new.seen None
  stop_keeps = look_kept base m old new as_look

  pub stop_same_look : has_stop m new.seen ≡ has_stop m old.seen
  stop_same_look = look_stop base m old new as_look

  pub stop_settled : (told : Option Line) → SettledInRows (site_routing base.site) (room_of base) m old.found old.seen told → SettledInRows (site_routing base.site) (room_of base) m new.found new.seen told
  stop_settled told t = settled_hold (site_routing base.site) (room_of base) m old.found old.seen [] new.found new.seen (look_grows base m old new as_look) refl told t

pub so_far_none : (g : Routing) (room : Capacity) (m : ℕ) (found : List ℕ) (history : List Entry) (told : Option Line) (end : Option LineWhy) → end ≡ None → ToldSoFar g room m found history told end → SettledInRows g room m found history told
so_far_none g room m found history told end is t = subst (λ (x : Option LineWhy). ToldSoFar g room m found history told x) is t

pub so_far_some : (g : Routing) (room : Capacity) (m : ℕ) (found : List ℕ) (history : List Entry) (told : Option Line) (end : Option LineWhy) (why : LineWhy) → end ≡ Some why → ToldSoFar g room m found history told end → ToldInRows g room m found history told
so_far_some g room m found history told end why is t = subst (λ (x : Option LineWhy). ToldSoFar g room m found history told x) is t

-- ---- before the first connection and after the last one

-- what the history says of a line that has appended nothing
pub record Untouched (m : ℕ) (history : List Entry) : Type 0 where
  pub shut : IsShut m history
  pub opened : opened_in m history ≡ 0
  pub faults : faults_of m history ≡ 0
  pub stop : has_stop m history ≡ false
  pub closed : (test : Why → Bool) → has_closed m test history ≡ false
  pub quiet : has_own m history ≡ false

pub untouched : (m : ℕ) (history : List Entry) → of_maker m history ≡ [] → Untouched m history
untouched m history none =
    let q = quiet_others m history none in
    let k = keeps_quiet m [] history q in
    record {
      shut = (k.on, k.ended);
      opened = k.opened;
      faults = k.faults;
      stop = stop_strange m history none;
      closed = q.closed;
      quiet = strange_own m history none;
    }

pub undialed_settled : (g : Routing) (room : Capacity) (m : ℕ) (found : List ℕ) (history : List Entry) (told : Option Line) → has_own m history ≡ false → IsUndialed told → SettledInRows g room m found history told
undialed_settled g room m found history None none u = tt
undialed_settled g room m found history (Some line) none u = (u.1, subst (λ (cs : List Connection). SaidInRows g room m found cs history) (sym u.0) none)

pub rose_from : (m : ℕ) (a b : List Entry) (f g : ℕ) → faults_of m a ≡ 0 → FaultsRise m a b f g → RoseBy (faults_of m b) f g
rose_from m a b f g none r = let n : faults_of m b ≡ r.0 = (let x = r.1 in omega (arith, x, none)) in subst (λ (k : ℕ). RoseBy k f g) (sym n) r.2

pub rose_untouched : (m : ℕ) (a : List Entry) (f g : ℕ) → faults_of m a ≡ 0 → g ≡ f → RoseBy (faults_of m a) f g
rose_untouched m a f g none same = subst (λ (k : ℕ). RoseBy k f g) (sym none) (omega (arith, same), omega (arith, same))

pub count_untouched : (m : ℕ) (a : List Entry) (n : ℕ) → opened_in m a ≡ 0 → n ≡ 0 → n ≡ capped (opened_in m a)
count_untouched m a n none is = omega (arith, none, is)

-- ---- the last entries

closed_kept : (m : ℕ) (test : Why → Bool) (history more : List Entry) → has_closed m test history ≡ true → has_closed m test (history ++ more) ≡ true
closed_kept m test history more is = list_any-append (λ (e : Entry). (e.by == m) && closes_for test e.what) history more ∙ ap (λ (b : Bool). b || has_closed m test more) is

last_own : (b : Bool) (m : ℕ) (time : Time) → has_own m (stop_if b m time ++ entry_of m time Ended ∷ []) ≡ false
last_own true m time = ap (λ (x : Bool). (x && false) || ((x && false) || false)) (eq-eqb m m refl)
last_own false m time = ap (λ (x : Bool). (x && false) || false) (eq-eqb m m refl)

last_opens : (b : Bool) (m : ℕ) (time : Time) → list_any (opens m) (stop_if b m time ++ entry_of m time Ended ∷ []) ≡ false
last_opens true m time = ap (λ (x : Bool). (x && false) || ((x && false) || false)) (eq-eqb m m refl)
last_opens false m time = ap (λ (x : Bool). (x && false) || false) (eq-eqb m m refl)

last_closes : (b : Bool) (m : ℕ) (time : Time) (test : Why → Bool) → has_closed m test (stop_if b m time ++ entry_of m time Ended ∷ []) ≡ false
last_closes true m time test = ap (λ (x : Bool). (x && false) || ((x && false) || false)) (eq-eqb m m refl)
last_closes false m time test = ap (λ (x : Bool). (x && false) || false) (eq-eqb m m refl)

pub causes_more : (site : SiteData) (most m : ℕ) (history more : List Entry) (told : Option Line) (before now : ℕ) (why : LineWhy) → CausesEnd site most m history told before now why → CausesEnd site most m (history ++ more) told before now why
causes_more site most m history more told before now Stopped c = stop_kept history more c
causes_more site most m history more told before now Finished c = c
causes_more site most m history more told before now NoReconnect (r, inl c) = (r, inl (closed_kept m is_any history more c))
causes_more site most m history more told before now NoReconnect (r, inr c) = (r, inr c)
causes_more site most m history more told before now DoorFailed c = c
causes_more site most m history more told before now Full (inl c) = inl (closed_kept m is_full history more c)
causes_more site most m history more told before now Full (inr c) = inr (let e = entries-append history more in omega (arith, e, c))
causes_more site most m history more told before now NoMemory c = tt
causes_more site most m history more told before now Cancelled c = absurd c

module _ {G : Type 0} (m : ℕ) (old new : View Entry G) (stops : Bool) (time : Time) (ended : EndedHold m time stops old new) where
  abbrev before : List Entry
  before = old.seen ++ ended.hold.others

  abbrev last : List Entry
  last = last_entries stops m time before

  last_is : new.seen ≡ before ++ last
  last_is = ended_seen m time stops old new ended

  last_grows : Grows m old.found old.seen last new.found new.seen
  last_grows = record { others = ended.hold.others; strange = ended.hold.strange; seen = last_is; found_is = ended.hold.found }

  others_quiet : Quiet m ended.hold.others
  others_quiet = quiet_others m ended.hold.others ended.hold.strange

  pub last_told : (g : Routing) (room : Capacity) (told : Option Line) → ToldInRows g room m old.found old.seen told → ToldInRows g room m new.found new.seen told
  last_told g room told t = told_hold g room m old.found old.seen last new.found new.seen last_grows (last_own _ m time) told t

  pub last_causes : (site : SiteData) (most : ℕ) (told : Option Line) (before now : ℕ) (why : LineWhy) → CausesEnd site most m old.seen told before now why → CausesEnd site most m new.seen told before now why
  last_causes site most told before now why c =
      let o = (ended_onward m time stops old new ended).seen in subst (λ (l : List Entry). CausesEnd site most m l told before now why) (sym o.1) (causes_more site most m old.seen o.0 told before now why c)

  pub last_faults_same : faults_of m new.seen ≡ faults_of m old.seen
  last_faults_same =
      ap (faults_of m) last_is ∙ (counted_none (λ (e : Entry). (e.by == m) && closes_for is_fault e.what) before last (last_closes _ m time is_fault) ∙ faults_quiet m old.seen ended.hold.others others_quiet)

  pub last_closed_same : (test : Why → Bool) → has_closed m test new.seen ≡ has_closed m test old.seen
  last_closed_same test =
      ap (has_closed m test) last_is
      ∙ (list_any-append (λ (e : Entry). (e.by == m) && closes_for test e.what) before last
      ∙ (ap (λ (b : Bool). has_closed m test before || b) (last_closes _ m time test)
      ∙ (or-false (has_closed m test before) ∙ closed_quiet m test old.seen ended.hold.others others_quiet)))

  pub last_opened_same : opened_in m new.seen ≡ opened_in m old.seen
  last_opened_same = ap (opened_in m) last_is ∙ (counted_none (opens m) before last (last_opens _ m time) ∙ opened_quiet m old.seen ended.hold.others others_quiet)

  -- the count of connections is exact, since a hall keeps no more entries
  pub last_count : (n : ℕ) → n ≡ capped (opened_in m old.seen) → length new.seen ≤ 8000065 → n ≡ opened_in m new.seen
  last_count n is few = let same = last_opened_same in let le = filter_few (opens m) new.seen in omega (arith, is, few, same, le)

  -- the server is stopped by none of them, where the line does not stop it
  pub last_stop : stops ≡ false → has_stop m old.seen ≡ false → has_stop m new.seen ≡ false
  last_stop off none = ap (has_stop m) last_is ∙ stop_both m before last (stop_both m old.seen ended.hold.others none (stop_strange m ended.hold.others ended.hold.strange)) (ended_alone stops off)
    where
      ended_alone : (b : Bool) → b ≡ false → has_stop m (last_entries b m time before) ≡ false
      ended_alone true e = absurd (let f : true ≡ false = e in cc)
      ended_alone false e = ap (λ (x : Bool). (x && false) || false) (eq-eqb m m refl)

-- who did not stop the server has no Stop
pub stops_where : (a b : Bool) → (b ≡ false → a ≡ false) → a ≡ true → b ≡ true
stops_where a true f h = refl
stops_where a false f h = absurd (let e : true ≡ false = sym h ∙ f refl in cc)

-- ---- a line that does not connect again

pub again_of : (site : SiteData) (m : ℕ) (why : Why) → after_closed site m why ≡ None → reconnects site m ≡ true
again_of site m why none = by_why why none
  where
    by_again : (b : Bool) → unless_again b ≡ None → b ≡ true
    by_again true e = refl
    by_again false e = absurd (cc e)

    by_why : (why : Why) → after_closed site m why ≡ None → reconnects site m ≡ true
    by_why PeerEnded e = by_again (reconnects site m) e
    by_why ReadFault e = by_again (reconnects site m) e
    by_why WriteFault e = by_again (reconnects site m) e
    by_why (BadFrame stage cause) e = by_again (reconnects site m) e
    by_why StoppedWhy e = by_again (reconnects site m) e
    by_why NoMemoryWhy e = absurd (cc e)
    by_why FullWhy e = absurd (cc e)

pub never_both : (b : Bool) {A : Type 0} → b ≡ true → b ≡ false → A
never_both b on off = absurd (let f : true ≡ false = sym on ∙ off in cc)

-- ---- why a line ends whose connection was closed

module _ (site : SiteData) (most m : ℕ) (history : List Entry) (told : Option Line) (before now : ℕ) where
  unless_causes : has_closed m is_any history ≡ true → (b : Bool) → reconnects site m ≡ b → IfSome (unless_again b) (λ why. CausesEnd site most m history told before now why)
  unless_causes closed true again = tt
  unless_causes closed false again = (again, inl closed)

  pub closed_causes : (why : Why) → ((test : Why → Bool) → test why ≡ true → has_closed m test history ≡ true)
      → IfSome (after_closed site m why) (λ end. CausesEnd site most m history told before now end)
  closed_causes PeerEnded said = unless_causes (said is_any refl) (reconnects site m) refl
  closed_causes ReadFault said = unless_causes (said is_any refl) (reconnects site m) refl
  closed_causes WriteFault said = unless_causes (said is_any refl) (reconnects site m) refl
  closed_causes (BadFrame stage cause) said = unless_causes (said is_any refl) (reconnects site m) refl
  closed_causes StoppedWhy said = unless_causes (said is_any refl) (reconnects site m) refl
  closed_causes NoMemoryWhy said = tt
  closed_causes FullWhy said = inl (said is_full refl)
