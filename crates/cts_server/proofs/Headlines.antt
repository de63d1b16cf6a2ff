-- The headline, of what the workers of a site left.
use Rattle.std.proofs.Common.{◌≡◌, inl, inr, ℕ, suc, ◌+◌, ◌<◌, ◌≤◌, true, false, List, [], ◌∷◌, ◌++◌, length, take, drop, Option, Some, None}
use Rattle.std.proofs.Common.{filter, sym, ◌∙◌, ap, subst, arith, length-append}
use Rattle.std.specs.Prelude.{IsSomeAnd}
use Rattle.cts_connection.specs.Routings.{site_routing}
use Rattle.cts_def.specs.Makers.{first_desk, first_slot}
use Rattle.cts_def.specs.Sites.{SiteData}
use Rattle.cts_desk.specs.Exchanges.{Exchange, Exchanges, fronts_of}
use Rattle.cts_entry.specs.declared.entry.Entry.{Entry}
use Rattle.cts_entry.specs.declared.why.Why.{Why}
use Rattle.cts_entry.specs.Places.{Stays}
use Rattle.cts_entry.specs.Queues.{unsent_of}
use Rattle.cts_entry.specs.Room.{Capacity}
use Rattle.cts_entry.specs.Workers.{is_interface}
use Rattle.cts_framing.specs.Framing.{Output}
use Rattle.cts_framing.specs.Laws.{AllSound}
use Rattle.cts_framing.specs.Packets.{capped}
use Rattle.cts_framing.proofs.Stagings.{however_cut}
use Rattle.cts_framing.proofs.Sound.{chains_are_sound}
use Rattle.cts_line.specs.Rows.{InRows, LookedInRows, ToldInRows}
use Rattle.cts_line.specs.Talks.{room_of}
use Rattle.cts_line.specs.Telling.{SomeLine, made_by, since}
use Rattle.cts_line.specs.declared.ending.LineWhy.{LineWhy}
use Rattle.cts_line.proofs.Rows.{said_of_rows}
use Rattle.cts_monitor.specs.Events.{events, events_at}
use Rattle.cts_monitor.specs.Gathered.{gathered_from}
use Rattle.cts_monitor.proofs.Placed.{at_place, events_here, gathered_join}
use Rattle.cts_outside.specs.Lines.{Connection, Line}
use Rattle.cts_outside.specs.Seen.{CrewSeen, LineSeen, VaultSeen}
use Rattle.cts_outside.specs.Vaults.{Logs, log_of}
use Rattle.cts_outside.specs.declared.link.Aim.{Aim}
use Rattle.cts_outside.specs.declared.vault.LogKind.{LogKind}
use Rattle.cts_scribe.specs.Laws.{IsAfterStop}
use Rattle.cts_scribe.specs.Vaults.{AreBlank}
use Rattle.cts_table.specs.declared.basis.Basis.{Basis}
use Rattle.cts_trace.specs.Connections.{Fed, Left, Stay}
use Rattle.cts_trace.specs.Routing.{Routing, spell}
use Rattle.cts_trace_laws.specs.Stretches.{PutsStretch, sent}
use Rattle.cts_trace_laws.proofs.Stretching.{interfaces_are_sent_commands, lines_put_stretches, slots_are_sent_routed}
use Rattle.cts_server.specs.Aims.{aimed_at, desk_aims, line_aims, slot_aims}
use Rattle.cts_server.specs.Headline.{DeskHolds, Headline, HeadlineHolds, HoldsLine, HoldsPackets, LineHolds, NeverFall}
use Rattle.cts_server.specs.Headline.{OfToldOrSome, PutsPart, WantsNothing, to_client, to_device}
use Rattle.cts_server.specs.Lines.{is_cancelled}
use Rattle.cts_server.specs.Owed.{DeskOwes, LineOwes, server_basis}
use Rattle.cts_server.specs.Places.{CameBack}
use Rattle.cts_server.specs.ServedLogs.{LeavesLog}
use Rattle.cts_server.specs.Serving.{HasServed}
use Rattle.cts_server.specs.declared.worked.DeskNote.{DeskNote}
use Rattle.cts_server.specs.declared.worked.Worked.{Worked}
use Rattle.cts_server.proofs.Complete.{completes, desk_answers, made_aimed}
use Rattle.cts_server.proofs.Returned.{came_all}
use Rattle.cts_server.proofs.Fits.{interface_tells, line_aims_count, no_interface}
use Rattle.cts_server.proofs.Leaving.{served_stops_leave_logs}

-- ---- a connection of a line

stays_map : {C : Type 0} (m : ℕ) (Is Holds : List Entry → C → List Entry → Type 0)
    → ((before : List Entry) (c : C) (entries : List Entry) → Is before c entries → Holds before c entries)
    → (before : List Entry) (cs : List C) (entries : List Entry) → Stays m Is before cs entries → Stays m Holds before cs entries
stays_map m Is Holds f before [] entries s = s
stays_map m Is Holds f before (c ∷ cs) entries (gap, mine, later, are, strange, one, others) =
    (gap, mine, later, are, strange, f (before ++ gap) c mine one, stays_map m Is Holds f (before ++ (gap ++ mine)) cs later others)

fed_whole : (why : Why) (pieces fed : List (List ℕ)) → WantsNothing why → Fed why pieces fed → fed ≡ pieces
fed_whole why pieces fed plain (inl e) = e
fed_whole why pieces fed plain (inr w) = absurd (plain.1 w.0)

none_left : (g : Routing) (m : ℕ) (why : Why) (fed : List (List ℕ)) (posted left : List Output) → WantsNothing why → Left g m why fed posted left → left ≡ []
none_left g m why fed posted left plain (inl e) = e
none_left g m why fed posted left plain (inr (earlier, last, cuts, given, more, fed_is, are, posted_is, wants)) = elim wants [
  | inl full ↦ absurd (plain.0 full.0)
  | inr memory ↦ absurd (plain.1 memory)
]

module _ (g : Routing) (m : ℕ) (sound : AllSound (g.chain m)) where
  stay_holds : (before : List Entry) (c : Connection) (entries : List Entry) (s : Stay g m before c.pieces c.put entries)
      → InRows g m s.fed s.carries.posted (before ++ s.opened ∷ []) s.between → HoldsPackets g m before c entries
  stay_holds before c entries s rows = record {
    opened = s.opened;
    between = s.between;
    closed = s.closed;
    entries_are = s.entries_are;
    why = s.why;
    fed = s.fed;
    cuts = s.carries.cuts;
    packets = s.carries.posted;
    missing = s.left;
    unsent = capped (unsent_of (spell g m) s.done s.rest);
    opens = s.opens;
    given = s.carries.packets;
    each = s.carries.posts;
    rows = rows;
    closes = s.closes;
    whole = λ plain. (fed_whole s.why c.pieces s.fed plain s.fed_is, none_left g m s.why s.fed s.carries.posted s.left plain s.left_is);
    however = λ bytes others ducts more same is.
        however_cut (g.chain m) s.fed others s.carries.cuts ducts (s.carries.posted ++ s.left) more sound bytes same s.carries.packets is;
  }

  module _ (history : List Entry) (stream : ℕ → ℕ → List ℕ) (streams : (from end : ℕ) → sent g m history from end ≡ stream from end) where
    puts_part : (before : List Entry) (c : Connection) (entries : List Entry) → PutsStretch g m history before c entries → PutsPart g m stream before c entries
    puts_part before c entries p = record {
      count = p.count;
      tail = p.tail;
      within = p.within;
      put_is = p.put_is ∙ ap (λ (bytes : List ℕ). bytes ++ p.tail) (streams (length before + 1) (length before + 1 + p.count));
      tail_is = p.tail_is;
    }

    line_said : (room : Capacity) (found : List ℕ) (line : Line) → ToldInRows g room m found history (Some line) → HoldsLine g m stream history line
    line_said room found line (said, last, none, past, are, unopened) = record {
      said = said;
      last = last;
      past_is = past;
      packets = stays_map m (LookedInRows g room m found) (HoldsPackets g m) (λ before c entries l. stay_holds before c entries l.1.stay l.1.rows) []
          said history are;
      puts = stays_map m (PutsStretch g m history) (PutsPart g m stream) puts_part [] said history
          (lines_put_stretches g room m found said history (said_of_rows g room m found said history are));
      unopened = unopened;
    }

    line_told : (room : Capacity) (found : List ℕ) (told : Option Line) → ToldInRows g room m found history told
        → SomeLine (λ (o : Option Line). ToldInRows g room m found history o) → OfToldOrSome told (λ (line : Line). HoldsLine g m stream history line)
    line_told room found None t some = (some.0, line_said room found some.0 some.1)
    line_told room found (Some line) t some = line_said room found line t

-- ---- a line of a site

module _ {X : Type 0} (seen : X → LineSeen) (site : SiteData) (history : List Entry) (stream : List Entry → ℕ → ℕ → ℕ → List ℕ) where
  line_holds : (by : ℕ) (aim : Aim) (before now : X) (why : LineWhy)
      → ((from end : ℕ) → sent (site_routing site) by history from end ≡ stream history by from end)
      → LineOwes seen site history by aim before now why → LineHolds seen site stream history by aim before now why
  line_holds by aim before now why streams (found, connections, owes) =
      let b = server_basis site in
      elim owes [
        | inl r ↦ inr (subst (λ (n : ℕ). OfToldOrSome (since n (seen now).told)
            (λ (line : Line). HoldsLine (site_routing site) by (stream history by) history line)) (made_aimed aim (seen before).told)
            (line_told (site_routing site) by (chains_are_sound site by) history (stream history by) streams (room_of b) found
            (since (made_by (aimed_at aim (seen before)).told) (seen now).told) r.told r.some))
        | inr u ↦ inl (ap is_cancelled u.cancelled, u.same)
      ]

-- what holds of the workers by their numbers
module _ {X N : Type 0} (Owes Says : ℕ → Aim → X → X → N → Type 0) (Is : ℕ → Type 0)
    (tells : (n : ℕ) (a : Aim) (x y : X) (w : N) → Is n → Owes n a x y w → Says n a x y w) where
  came_where : (by : ℕ) (aims : List Aim) (old new : List (Option X)) (notes : List N) → ((j : ℕ) → j < length aims → Is (by + j))
      → CameBack Owes by aims old new notes → CameBack Says by aims old new notes
  came_where by [] old new [] is b = b
  came_where by [] old new (w ∷ notes) is b = absurd b
  came_where by (a ∷ aims) [] new notes is b = absurd b
  came_where by (a ∷ aims) (None ∷ old) new notes is b = absurd b
  came_where by (a ∷ aims) (Some x ∷ old) [] notes is b = absurd b
  came_where by (a ∷ aims) (Some x ∷ old) (None ∷ new) notes is b = absurd b
  came_where by (a ∷ aims) (Some x ∷ old) (Some y ∷ new) [] is b = absurd b
  came_where by (a ∷ aims) (Some x ∷ old) (Some y ∷ new) (w ∷ notes) is b =
      let none : by + 0 ≡ by = omega arith in
      let here : Is by = subst Is none (is 0 (omega arith)) in (
        tells by a x y w here b.0,
        came_where (by + 1) aims old new notes
            (λ j lt.
            let n : by + suc j ≡ by + 1 + j = omega arith in
            subst Is n (is (suc j) (omega (arith, lt))))
            b.1,
      )

-- ---- a desk

fronts_rise : (b : Basis) (by from : ℕ) (before : List Entry) (xs : List Exchange) (last rest : List Entry) → from ≤ length before
    → Exchanges b by before xs last rest → NeverFall from (fronts_of xs)
fronts_rise b by from before [] last rest low e = tt
fronts_rise b by from before (x ∷ xs) last rest low (gap, added, later, rest_is, strange, front, answered, others) =
    let here = length-append before gap in
    let next = length-append before (gap ++ added) in
    let inner = length-append gap added in
    let low_next : x.front ≤ length (before ++ (gap ++ added)) = omega (arith, front, here, next, inner) in
    (omega (arith, low, front, here), fronts_rise b by x.front (before ++ (gap ++ added)) xs last later low_next others)

desk_holds : {X : Type 0} (seen : X → LineSeen) (site : SiteData) (history : List Entry) (by : ℕ) (aim : Aim) (before now : X) (note : DeskNote)
    → DeskOwes seen site history by aim before now note → DeskHolds seen site history by aim before now note
desk_holds seen site history by aim before now note owes = (
  desk_answers seen site history by aim before now note owes,
  elim owes.1 [
    | inl r ↦ subst (NeverFall 0) (sym r.stands.fronts_are)
        (fronts_rise (server_basis site) by 0 [] r.stands.exchanges _ history (omega arith) r.stands.stand)
    | inr u ↦ subst (NeverFall 0) (sym u.none) tt
  ],
)

-- ---- all of it

module _ {D Q V : Type 0} (line_seen : D → LineSeen) (door_seen : Q → LineSeen) (vault_seen : V → VaultSeen) (site : SiteData) (digest : List ℕ)
    (w : Worked) (dialers dialers' : List (Option D)) (doors doors' : List (Option Q)) (crew crew' : CrewSeen) where
  stops_leave : (vault vault' : Option V) → IsSomeAnd vault (λ v. AreBlank (vault_seen v).told)
      → HasServed line_seen door_seen vault_seen site digest w dialers dialers' doors doors' vault vault' crew crew'
      → IsSomeAnd vault' (λ v. (kind : LogKind) (logs : Logs) (files : List (List ℕ)) → (vault_seen v).told ≡ Some logs
      → IsAfterStop (log_of kind logs) files → LeavesLog site digest w.history kind (log_of kind logs) files)
  stops_leave (Some x) (Some y) blank served =
      served_stops_leave_logs line_seen door_seen vault_seen site digest w dialers dialers' doors doors' x y crew crew' blank served
  stops_leave (Some x) None blank served = absurd served.scribe
  stops_leave None vault' blank served = absurd blank

  module _ (vault vault' : Option V) (blank : IsSomeAnd vault (λ v. AreBlank (vault_seen v).told))
      (served : HasServed line_seen door_seen vault_seen site digest w dialers dialers' doors doors' vault vault' crew crew') where
    abbrev IsOne : ℕ → Type 0
    IsOne n = is_interface site n ≡ true

    abbrev IsNone : ℕ → Type 0
    IsNone n = is_interface site n ≡ false

    headline : Headline line_seen door_seen vault_seen site digest w dialers dialers' doors doors' vault'
    headline =
        let h = w.history in
        let complete = completes line_seen door_seen vault_seen site digest dialers dialers' doors doors' vault vault' w served.legal served.interfaces
        served.slots served.desks served.scribe in
        record {
          legal = served.legal;
          once = complete.once;
          interfaces = came_where (LineOwes line_seen site h) (LineHolds line_seen site (to_device site) h) IsOne
              (λ n a x y why is owes. line_holds line_seen site h (to_device site) n a x y why
              (λ from end. interfaces_are_sent_commands (site_routing site) n h from end is) owes)
              0 (line_aims site) dialers dialers' (take (length site.interfaces) w.lines)
              (λ j lt.
              let n = line_aims_count site in
              let same : j ≡ 0 + j = omega arith in
              subst IsOne same (interface_tells site j (omega (arith, lt, n))))
              served.interfaces;
          routers = came_where (LineOwes door_seen site h) (LineHolds door_seen site (to_client site) h) IsNone
              (λ n a x y why is owes. line_holds door_seen site h (to_client site) n a x y why
              (λ from end. slots_are_sent_routed (site_routing site) n h from end is) owes)
              first_slot (slot_aims site) (take 8 doors) (take 8 doors') (drop (length site.interfaces) w.lines)
              (λ j lt. no_interface site j served.sound.few_interfaces) served.slots;
          desks = came_all (DeskOwes door_seen site h) (DeskHolds door_seen site h) (desk_holds door_seen site h) first_desk
              (desk_aims site) (drop 8 doors) (drop 8 doors') w.desks served.desks;
          logs = complete.logs served.sound;
          stopped = stops_leave vault vault' blank served;
          limits = λ before e later is. ap (λ (l : List Entry). filter (at_place (length before)) (events site l)) is ∙ events_here site before e later;
          points = λ before later is. (gathered_from (events_at site) before later, ap (events site) is ∙ gathered_join site [] before later);
        }

pub headline_holds : {D Q V : Type 0} (line_seen : D → LineSeen) (door_seen : Q → LineSeen) (vault_seen : V → VaultSeen)
    → HeadlineHolds line_seen door_seen vault_seen
headline_holds line_seen door_seen vault_seen site digest w dialers dialers' doors doors' vault vault' crew crew' blank served =
    headline line_seen door_seen vault_seen site digest w dialers dialers' doors doors' crew crew' vault vault' blank served
