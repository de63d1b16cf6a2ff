-- What the world stands for after a line has passed entries, and after the logs have.
use Rattle.std.proofs.Common.{◌≡◌, ℕ, ◌+◌, ◌<◌, ◌≤◌, Bool, true, false, ◌&&◌, ◌||◌, List, [], ◌++◌, length, map, take, drop, Result, Ok, Err, refl, sym, ◌∙◌, ap, subst, arith, append-nil}
use Rattle.std.specs.Prelude.{◌==◌, ◌≢◌, nat_le, if◌then◌else◌}
use Rattle.std.proofs.lemmas.Bool.{eq-eqb, ne_eqb}
use Rattle.std.proofs.lemmas.Bool.Decides.{nat_tests}
use Rattle.cts_chain.specs.Chains.{StagesStand}
use Rattle.cts_chain.specs.Shapes.{writers}
use Rattle.cts_def.specs.Protocols.{SpecData}
use Rattle.cts_def.specs.Sites.{IsSoundSite, SiteData}
use Rattle.cts_entry.specs.declared.entry.Entry.{Entry}
use Rattle.cts_entry.specs.declared.event.Event.{Event}
use Rattle.cts_entry.specs.declared.event.Event.TheVariants.{DrainLog, DrainSlot, Write}
use Rattle.cts_entry.specs.declared.event.Effect.{Effect}
use Rattle.cts_entry.specs.declared.event.Effect.TheVariants.{Logged, Routed, Written}
use Rattle.cts_entry.specs.Histories.{is_connected}
use Rattle.cts_entry.specs.Queues.{refused as refusals, spelled}
use Rattle.cts_entry.specs.Workers.{is_interface, is_slot}
use Rattle.cts_framing.specs.Framing.{plain}
use Rattle.cts_connection.specs.Connections.{HeldConnection, entries_ahead}
use Rattle.cts_connection.specs.LinePlaces.{is_line, line_count, line_place}
use Rattle.cts_connection.specs.Routings.{site_routing}
use Rattle.cts_connection.specs.Writings.{Wrote, spell_by}
use Rattle.cts_core.specs.Cursors.{IsPassed}
use Rattle.cts_core.specs.Drainings.{Drains, site_commands_log, site_packets_log}
use Rattle.cts_core.specs.Environments.{environment_of, site_environment}
use Rattle.cts_core.specs.Runs.{Appends, Did, IsAnswered, after, effect_of, passed_for, pieces_for, silent, time_after}
use Rattle.cts_core.specs.States.{State, ahead, is_enabled, log_ahead, put_next, takes_memory, takes_room}
use Rattle.cts_core.specs.Worlds.{HadRoom, Held, IsConnection, RepresentsWithin, Steps, connection_of, with_connection}
use Rattle.cts_core.specs.Writings.{Puts, can_pass}
use Rattle.cts_core.specs.declared.fault.WorldFault.{WorldFault}
use Rattle.cts_core.specs.declared.fault.WorldFault.TheVariants.{NotEnabled as RefusedEvent, Full, Memory}
use Rattle.cts_core.proofs.Building.{and_tells}
use Rattle.cts_core.proofs.CursorSteps.{passes}
use Rattle.cts_core.proofs.Keeping.{cursor_grows, pieces_stay}
use Rattle.cts_core.proofs.Puttings.{can_pass_is, passed_next, put_is}
use Rattle.cts_core.proofs.WorldSteps.{connection_kept, connections_set, not_enabled, set_count, unmoved, wants_memory}
use Rattle.cts_table.specs.declared.basis.Basis.{Basis}
use Rattle.cts_trace.specs.Routing.{queue, walk}

-- An event by which a line passes `count` of the entries through which it goes, and which gives what of them is for its peer.
pub record IsPassing (base : Basis) (s : State) (event : Event) (by count : ℕ) (gives : List ℕ → Effect) : Type 0 where
  line : is_line base.site by ≡ true
  enabled : is_enabled (environment_of base) s event ≡ (is_connected by s.history && nat_le count (length (ahead (environment_of base) s by)))
  answered : IsAnswered (environment_of base) s event silent
  appends : Appends (environment_of base) s event silent []
  takes_none : takes_room event ≡ false
  takes : takes_memory event ≡ true
  room : HadRoom base s event
  effect : effect_of (environment_of base) s event silent ≡ gives (put_next (environment_of base) s by count)
  mine : passed_for by event ≡ count
  others : (k : ℕ) → k ≢ by → passed_for k event ≡ 0
  pieces : (k : ℕ) → pieces_for k event ≡ []
  time : time_after event s.time ≡ s.time

its_own : (by count : ℕ) → (if by == by then count else 0) ≡ count
its_own by count = ap (λ (b : Bool). if b then count else 0) (eq-eqb by by refl)

no_other : (k by count : ℕ) → k ≢ by → (if by == k then count else 0) ≡ 0
no_other k by count other = ap (λ (b : Bool). if b then count else 0) (ne_eqb by k (λ same. other (sym same)))

either : (a b : Bool) → (a ≡ true → (a || b) ≡ true) × (b ≡ true → (a || b) ≡ true)
either true b = (λ h. refl, λ h. refl)
either false b = (λ h. absurd (cc h), λ h. h)

pub writes : (base : Basis) (s : State) (by count : ℕ) → is_interface base.site by ≡ true → IsPassing base s (Write by count) by count (Written by)
writes base s by count own = record {
  line = (either (is_slot base.site by) (is_interface base.site by)).1 own;
  enabled = ap (λ (b : Bool). b && (is_connected by s.history && nat_le count (length (ahead (environment_of base) s by)))) own;
  answered = refl;
  appends = refl;
  takes_none = refl;
  takes = refl;
  room = tt;
  effect = refl;
  mine = its_own by count;
  others = λ k other. no_other k by count other;
  pieces = λ k. refl;
  time = refl;
}

pub drains : (base : Basis) (s : State) (by count : ℕ) → is_slot base.site by ≡ true → IsPassing base s (DrainSlot by count) by count (Routed by)
drains base s by count own = record {
  line = (either (is_slot base.site by) (is_interface base.site by)).0 own;
  enabled = ap (λ (b : Bool). b && (is_connected by s.history && nat_le count (length (ahead (environment_of base) s by)))) own;
  answered = refl;
  appends = refl;
  takes_none = refl;
  takes = refl;
  room = tt;
  effect = refl;
  mine = its_own by count;
  others = λ k other. no_other k by count other;
  pieces = λ k. refl;
  time = refl;
}

pub line_of_interface : (site : SiteData) (by : ℕ) → is_interface site by ≡ true → is_line site by ≡ true
line_of_interface site by own = (either (is_slot site by) (is_interface site by)).1 own

pub line_of_slot : (site : SiteData) (by : ℕ) → is_slot site by ≡ true → is_line site by ≡ true
line_of_slot site by own = (either (is_slot site by) (is_interface site by)).0 own

-- what is not an interface writes nothing, and what is not a slot drains nothing

module _ (base : Basis) (w : Held) (s : State) (by count : ℕ) (h : RepresentsWithin base w s) where
  rest : Bool
  rest = is_connected by s.history && nat_le count (length (ahead (environment_of base) s by))

  pub no_interface : is_interface w.basis.site by ≡ false → Steps base s (Write by count) w (Err RefusedEvent) w
  unfolding rest
  no_interface off = not_enabled base w w s (Write by count) (is_interface w.basis.site by && rest) (ap (λ (b : Basis). is_interface b.site by && rest) h.basis) (ap (λ (b : Bool). b && rest) off) refl h

  pub no_slot : is_slot w.basis.site by ≡ false → Steps base s (DrainSlot by count) w (Err RefusedEvent) w
  unfolding rest
  no_slot off = not_enabled base w w s (DrainSlot by count) (is_slot w.basis.site by && rest) (ap (λ (b : Basis). is_slot b.site by && rest) h.basis) (ap (λ (b : Bool). b && rest) off) refl h

  pub has_interface : is_interface w.basis.site by ≡ true → is_interface base.site by ≡ true
  has_interface own = subst (λ (b : Basis). is_interface b.site by ≡ true) h.basis own

  pub has_slot : is_slot w.basis.site by ≡ true → is_slot base.site by ≡ true
  has_slot own = subst (λ (b : Basis). is_slot b.site by ≡ true) h.basis own

module _ (base : Basis) (w new : Held) (s : State) (event : Event) (by count : ℕ) (gives : List ℕ → Effect) (e : IsPassing base s event by count gives) (h : RepresentsWithin base w s) where
  test_is : can_pass w by count ≡ is_enabled (environment_of base) s event
  test_is = can_pass_is base w s by count h e.line ∙ sym e.enabled

  -- it is not done
  pub not_passed : (fault : WorldFault) → Puts by w count (Err fault) new → Steps base s event w (Err fault) new
  not_passed RefusedEvent p = not_enabled base w new s event (can_pass w by count) test_is p.0 p.1 h
  not_passed (Full entries bytes) p = absurd p
  not_passed Memory p = wants_memory base w new s event p.1 (sym test_is ∙ p.0) e.takes e.room

  did : Did
  did = record { entries = []; effect = gives (put_next (environment_of base) s by count) }

  moved : State
  moved = after s event did

  all : s.history ≡ s.history ++ []
  all = sym (append-nil s.history)

  -- the connection has put the next entries
  connection_passed : (next : ℕ) (bytes : List ℕ) (c : HeldConnection) → is_connected by s.history ≡ true → next ≤ length (entries_ahead (connection_of w by) s.history)
      → length (walk (site_routing base.site) by (take next (entries_ahead (connection_of w by) s.history))) ≡ count → Wrote base.site by (connection_of w by) s.history next bytes c → IsConnection base.site moved by c
  unfolding did moved
  connection_passed next bytes c on within many wrote =
      let old = connection_of w by in
      let mine = h.connections by e.line in
      let pieces : moved.pieces by ≡ s.pieces by = pieces_stay by event [] s.pieces refl (e.pieces by) in
      let cursor : moved.cursor by ≡ s.cursor by + count = cursor_grows by event [] s.cursor refl ∙ ap (λ (n : ℕ). s.cursor by + n) e.mine in
      let some = queue (site_routing base.site) by (take next (entries_ahead old s.history)) in
      let further = passed_next base.site s moved by count next old.cursor (mine.passed on) within many (sym all) cursor in
      let now : HeldConnection = record old { cursor = record { place = old.cursor.place + next; refused = old.cursor.refused + refusals (spell_by base.site (writers old.chain)) some } } in
      subst (λ (x : HeldConnection). IsConnection base.site moved by x) (sym wrote.new_is) (record {
        connected = mine.connected ∙ ap (is_connected by) all;
        framings = mine.framings;
        writing = mine.writing;
        packets = mine.packets;
        stands = subst (λ (l : List (List ℕ)). StagesStand old.chain.stages (map plain l) mine.packets) (sym pieces) mine.stands;
        settled = mine.settled;
        unfailed = mine.unfailed;
        passed = λ stands. subst (λ (specs : List SpecData). IsPassed (site_environment base.site) moved by (old.cursor.place + next) (old.cursor.refused + refusals (spell_by base.site specs) some)) (sym mine.writing) further;
      })

  -- it is done
  pub has_passed : (bytes : List ℕ) → IsSoundSite base.site → Puts by w count (Ok bytes) new → Steps base s event w (Ok (gives bytes)) new
  unfolding did moved
  has_passed bytes sound p =
      let next = p.0 in
      let n = p.1 in
      let k = p.2 in
      let t : is_enabled (environment_of base) s event ≡ true = sym test_is ∙ n.enabled in
      let on : is_connected by s.history ≡ true = (and_tells (is_connected by s.history) _ (sym e.enabled ∙ t)).0 in
      let old = connection_of w by in
      let mine = h.connections by e.line in
      let within = subst (λ (l : List Entry). next ≤ length (entries_ahead old l)) h.history n.within in
      let many = subst (λ (l : List Entry). length (walk (site_routing base.site) by (take next (entries_ahead old l))) ≡ count) h.history (subst (λ (b : Basis). length (walk (site_routing b.site) by (take next (entries_ahead old w.history))) ≡ count) h.basis n.count_is) in
      let put : Wrote base.site by old s.history next bytes k.0 = subst (λ (l : List Entry). Wrote base.site by old l next bytes k.0) h.history (subst (λ (b : Basis). Wrote b.site by old w.history next bytes k.0) h.basis k.1) in
      let given : bytes ≡ put_next (environment_of base) s by count =
      put.bytes_are ∙ (ap (λ (specs : List SpecData). spelled (spell_by base.site specs) (queue (site_routing base.site) by (take next (entries_ahead old s.history)))) mine.writing ∙ sym (put_is base.site s by count next old.cursor (mine.passed on) many)) in
      let whole : RepresentsWithin base (with_connection by w k.0) moved = record {
        history = h.history ∙ all;
        time = h.time ∙ sym e.time;
        basis = h.basis;
        count = set_count w.connections (line_count base.site) (line_place w.basis.site by) k.0 h.count;
        connections = connections_set base w s moved by k.0 sound h e.line (connection_passed next bytes k.0 on within many put) (λ j other. ap (is_connected j) (sym all))
            (λ j other. pieces_stay j event [] s.pieces refl (e.pieces j)) (λ j other. passes base.site s event did j refl (e.others j other));
      } in (
        did,
        record { enabled = t; answer = silent; answered = e.answered; appends = e.appends; room = λ takes. absurd (let no : true ≡ false = sym takes ∙ e.takes_none in cc); effect = sym e.effect },
        ap gives given,
        subst (λ (x : Held). RepresentsWithin base x moved) (sym k.2) whole,
      )

-- ---- what the logs take

fewer : (n m : ℕ) → m < n → nat_le n m ≡ false
fewer n m h = grind (arith, nat_tests)

enough : (n m : ℕ) → n ≤ m → nat_le n m ≡ true
enough n m h = grind (arith, nat_tests)

module _ (base : Basis) (w : Held) (s : State) (n place : ℕ) (at : s.log_cursor ≡ place) (h : RepresentsWithin base w s) where
  ahead_is : drop place w.history ≡ log_ahead s
  ahead_is = ap (λ (k : ℕ). drop k w.history) (sym at) ∙ ap (drop s.log_cursor) h.history

  log_did : Did
  log_did = record { entries = []; effect = effect_of (environment_of base) s (DrainLog n) silent }

  -- the logs have passed `n` entries more
  logs_passed : RepresentsWithin base w (after s (DrainLog n) log_did)
  unfolding log_did
  logs_passed =
      let none : s.history ≡ s.history ++ [] = sym (append-nil s.history) in
      record {
        history = h.history ∙ none;
        time = h.time;
        basis = h.basis;
        count = h.count;
        connections = λ k line. connection_kept base.site s (after s (DrainLog n) log_did) k (connection_of w k) (ap (is_connected k) (sym none)) (pieces_stay k (DrainLog n) [] s.pieces refl refl) (passes base.site s (DrainLog n) log_did k refl refl) (h.connections k line);
      }

  logs_are : site_packets_log w.basis.site (take n (drop place w.history)) ≡ site_packets_log base.site (take n (log_ahead s))
  logs_are = ap (λ (b : Basis). site_packets_log b.site (take n (drop place w.history))) h.basis ∙ ap (λ (l : List Entry). site_packets_log base.site (take n l)) ahead_is

  commands_are : site_commands_log w.basis.site (take n (drop place w.history)) ≡ site_commands_log base.site (take n (log_ahead s))
  commands_are = ap (λ (b : Basis). site_commands_log b.site (take n (drop place w.history))) h.basis ∙ ap (λ (l : List Entry). site_commands_log base.site (take n l)) ahead_is

  pub drained_logs : (result : Result Effect WorldFault) → Drains w.basis.site w.history place n result → Steps base s (DrainLog n) w result w
  unfolding log_did
  drained_logs (Ok effect) d =
      let far = subst (λ (l : List Entry). n ≤ length l) ahead_is d.0 in (
        log_did,
        record { enabled = enough n (length (log_ahead s)) far; answer = silent; answered = refl; appends = refl; room = λ takes. absurd (cc takes); effect = refl },
        d.1 ∙ (λ i. Logged (logs_are i) (commands_are i)),
        logs_passed,
      )
  drained_logs (Err RefusedEvent) d = (fewer n (length (log_ahead s)) (subst (λ (l : List Entry). length l < n) ahead_is d), refl, h)
  drained_logs (Err (Full entries bytes)) d = absurd d
  drained_logs (Err Memory) d = wants_memory base w w s (DrainLog n) (unmoved w w refl) (enough n (length (log_ahead s)) (subst (λ (l : List Entry). n ≤ length l) ahead_is d)) refl tt
