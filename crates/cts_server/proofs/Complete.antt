-- Each desk answers all that it is asked, and lines take each connection to its end where nobody stops the server.
use Rattle.std.proofs.Common.{◌≡◌, ℕ, Bool, true, false, ◌||◌, List, [], ◌∷◌, ◌++◌, length, take, drop, Option, Some, None, IfSome, refl, sym}
use Rattle.std.proofs.Common.{◌∙◌, ap, subst, append-nil, append_assoc, inl, inr}
use Rattle.std.specs.List.{list_any}
use Rattle.cts_connection.specs.Routings.{site_routing}
use Rattle.cts_def.specs.Makers.{first_desk, first_slot}
use Rattle.cts_def.specs.Sites.{SiteData}
use Rattle.cts_desk.specs.Exchanges.{Exchange, bodies_of, fronts_of}
use Rattle.cts_desk.specs.Streams.{Cut, PeerEnded, ReadFault, WriteFault, LastAsked, Refused, NoMemory, Stopped, Served, HasAsked, HasCause, IsPut}
use Rattle.cts_desk.specs.Streams.{last_front, last_put, responses}
use Rattle.cts_desk.specs.Told.{MayEnd, Serves, Told, past_of}
use Rattle.cts_entry.specs.declared.entry.Entry.{Entry}
use Rattle.cts_entry.specs.declared.what.What.{What}
use Rattle.cts_entry.specs.declared.what.What.TheVariants.{Opened, Packet, Closed, Command, SetLimits, Enable, LimitsSetIs, Injected, Unrouted, Stop, Ended}
use Rattle.cts_entry.specs.declared.why.Why.{Why}
use Rattle.cts_entry.specs.declared.why.Why.TheVariants as why
use Rattle.cts_entry.specs.Histories.{is_stopped}
use Rattle.cts_entry.specs.Legal.{AllAllowed, Allows, Rules, StopsAfter}
use Rattle.cts_entry.specs.Places.{Stays}
use Rattle.cts_entry.proofs.Appending.{stopped-append}
use Rattle.cts_framing.specs.Packets.{fault_of}
use Rattle.cts_http.specs.Requests.{Closed as LastClosed, Waiting, Refused as RefusedWith}
use Rattle.cts_line.specs.Talks.{room_of}
use Rattle.cts_line.proofs.Rows.{told_of_rows}
use Rattle.cts_line.specs.Telling.{made_by, since}
use Rattle.cts_line.specs.declared.ending.LineWhy.{LineWhy}
use Rattle.cts_outside.specs.Lines.{Connection, Line, aimed, hung_up, told_after}
use Rattle.cts_outside.specs.Seen.{LineSeen, VaultSeen}
use Rattle.cts_outside.specs.declared.link.Aim.{Aim}
use Rattle.cts_table.specs.Keeping.{IsKept, rules_of}
use Rattle.cts_table.specs.declared.basis.Basis.{Basis}
use Rattle.cts_entry.specs.Room.{Capacity}
use Rattle.cts_trace.specs.Lines.{Causes, Looked}
use Rattle.cts_trace.specs.Makers.{closes_for}
use Rattle.cts_trace.specs.Routing.{Routing}
use Rattle.cts_trace.specs.Told.{Said, ToldBy, Unopened}
use Rattle.cts_trace.proofs.Connecting.{bad_frame_is_of_chain}
use Rattle.cts_server.specs.Aims.{aimed_at, desk_aims, line_aims, slot_aims}
use Rattle.cts_server.specs.Complete.{AnswersAll, AreServed, DeskAnswers, HasRunOut, IsComplete, IsServed, LineRunsOut, RunOut, RunsOut, Unstopped}
use Rattle.cts_server.specs.Complete.{cut_before, is_stopped_why}
use Rattle.cts_server.specs.Desks.{is_cancelled}
use Rattle.cts_server.proofs.Returned.{came_all}
use Rattle.cts_server.specs.Owed.{DeskOwes, LineOwes, ScribeOwes, server_basis}
use Rattle.cts_server.specs.Places.{CameBack}
use Rattle.cts_server.specs.declared.worked.DeskNote.{DeskNote}
use Rattle.cts_server.specs.declared.worked.Worked.{Worked}
use Rattle.cts_server.proofs.Closed.{whole_logs}
use Rattle.cts_server.proofs.Once.{ends_once}

-- ---- the connections of a desk

cut_last : (stop : Bool) (later : List Connection) → MayEnd stop Stopped later → cut_before stop later ≡ true
cut_last stop [] may = may.0
cut_last stop (c ∷ later) may = absurd (let f : c ∷ later ≡ [] = may.1 in cc)

-- a connection in which no put failed
whole : (stop : Bool) (later : List Connection) (front : ℕ) (c : Connection) (xs : List Exchange) (cut : Cut) → HasAsked cut c.pieces (bodies_of xs)
    → c.put ≡ responses xs ++ last_put cut front → HasCause cut c → MayEnd stop cut later
    → IsServed (cut_before stop later) c xs
whole stop later front c xs PeerEnded asked put cause may = inl (record { ending = Waiting asked.0; asked = asked.1; put = put; over = inl cause })
whole stop later front c xs ReadFault asked put cause may = inl (record { ending = Waiting asked.0; asked = asked.1; put = put; over = inr (inl cause) })
whole stop later front c xs WriteFault asked put cause may = inr (inr cause)
whole stop later front c xs LastAsked asked put cause may = inl (record { ending = LastClosed; asked = asked; put = put; over = tt })
whole stop later front c xs (Refused status) asked put cause may = inl (record { ending = RefusedWith status; asked = asked; put = put; over = tt })
whole stop later front c xs NoMemory asked put cause may = inr (inl (record { asked = asked; front = front; put = put }))
whole stop later front c xs Stopped asked put cause may = inl
    (record { ending = Waiting asked.0; asked = asked.1; put = put; over = inr (inr (cut_last stop later may)) })

served : (stop : Bool) (later : List Connection) (front : ℕ) (c : Connection) (xs : List Exchange) (cut : Cut) → Served cut front c xs
    → MayEnd stop cut later → IsServed (cut_before stop later) c xs
served stop later front c xs cut s may = by_case c.put_failed refl
  where
    by_case : (failed : Bool) → c.put_failed ≡ failed → IsServed (cut_before stop later) c xs
    by_case true h = inr (inr h)
    by_case false h = whole stop later front c xs cut s.asked (subst (λ (b : Bool). IsPut b c.put (responses xs ++ last_put cut front)) h s.put) s.cause may

are_served : (stop : Bool) (earlier : List Exchange) (cs : List Connection) (xs : List Exchange) → Serves stop earlier cs xs → AreServed stop cs xs
are_served stop earlier [] xs s = s
are_served stop earlier (c ∷ cs) xs (first, more, cut, are, one, may, others) =
    (first, more, are, served stop cs (last_front (fronts_of (earlier ++ first))) c first cut one may, are_served stop (earlier ++ first) cs more others)

told_answers : (b : Basis) (by : ℕ) (fronts found : List ℕ) (history last : List Entry) (was : List Connection) (told : Option Line)
    → Told b by fronts found history last was told → IfSome told (λ (line : Line). AnswersAll b by history fronts was line)
told_answers b by fronts found history last was None t = tt
told_answers b by fronts found history last was (Some line) t =
    let s = t.settled in
    record {
      gone = s.1;
      past = s.2;
      exchanges = t.exchanges;
      fronts_are = t.fronts_are;
      last = last;
      stand = t.stand;
      served = are_served
          (is_stopped history) [] s.1 t.exchanges s.3;
    }

-- an aim makes and hangs up no connection
past_aimed : (aim : Aim) (told : Option Line) → past_of (told_after hung_up (told_after (aimed aim) told)) ≡ past_of (told_after hung_up told)
past_aimed aim None = refl
past_aimed aim (Some line) = refl

pub made_aimed : (aim : Aim) (told : Option Line) → made_by (told_after (aimed aim) told) ≡ made_by told
made_aimed aim None = refl
made_aimed aim (Some line) = refl

pub desk_answers : {X : Type 0} (seen : X → LineSeen) (site : SiteData) (history : List Entry) (by : ℕ) (aim : Aim) (before now : X) (note : DeskNote)
    → DeskOwes seen site history by aim before now note → DeskAnswers seen site history by aim before now note
desk_answers seen site history by aim before now note owes =
    let b = server_basis site in
    let old = aimed_at aim (seen before) in
    elim owes.1 [
      | inl r ↦ inr (subst (λ (was : List Connection). IfSome (seen now).told (λ (line : Line). AnswersAll b by history note.fronts was line))
          (past_aimed aim (seen before).told)
          (told_answers b by note.fronts owes.0 history _ (past_of (told_after hung_up old.told)) (seen now).told r.stands))
      | inr u ↦ inl (ap is_cancelled u.cancelled, u.none, u.same)
    ]

-- ---- the connections of a line

neither : (a b : Bool) → (a || b) ≡ false → (a ≡ false) × (b ≡ false)
neither true b h = absurd (cc h)
neither false b h = (refl, h)

-- no Stop stands in a beginning
none_before : (xs ys : List Entry) → is_stopped (xs ++ ys) ≡ false → is_stopped xs ≡ false
none_before xs ys calm = (neither (is_stopped xs) (is_stopped ys) (sym (stopped-append xs ys) ∙ calm)).0

module _ (g : Routing) (room : Capacity) (m : ℕ) (found : List ℕ) where
  module _ (before : List Entry) (c : Connection) (entries : List Entry) (l : Looked g room m found before c entries)
      (calm : is_stopped (before ++ entries) ≡ false) where
    abbrev Cause : Why → Type 0
    Cause w = Causes room w (record {
      connection = c;
      looked = before ++ l.stay.opened ∷ l.looked;
      whole = before ++ l.stay.opened
          ∷ l.stay.between;
      left = l.stay.left;
    })

    -- what the last look saw is a beginning
    calm_look : is_stopped (before ++ l.stay.opened ∷ l.looked) ≡ false
    calm_look =
        let o = l.stay.opened in
        let more : List Entry = l.since ++ l.stay.closed ∷ [] in
        let inner : l.stay.between ++ l.stay.closed ∷ [] ≡ l.looked ++ more = ap (λ (es : List Entry). es ++ l.stay.closed ∷ []) l.between_is
        ∙ append_assoc l.looked l.since (l.stay.closed ∷ []) in
        let all : before ++ entries ≡ (before ++ o ∷ l.looked) ++ more = ap (λ (es : List Entry). before ++ es)
        (l.stay.entries_are ∙ ap (λ (es : List Entry). o ∷ es) inner) ∙ sym (append_assoc before (o ∷ l.looked) more) in
        none_before (before ++ o ∷ l.looked) more (ap is_stopped (sym all) ∙ calm)

    run_out_for : (w : Why) → l.stay.why ≡ w → HasRunOut c (fault_of l.stay.carries.cuts) w
    run_out_for why.PeerEnded e = (subst Cause e l.cause).0
    run_out_for why.ReadFault e = (subst Cause e l.cause).0
    run_out_for why.WriteFault e = subst Cause e l.cause
    run_out_for (why.BadFrame stage cause) e = bad_frame_is_of_chain g m before c.pieces c.put entries l.stay stage cause e
    run_out_for why.Stopped e = let stop : is_stopped (before ++ l.stay.opened ∷ l.looked) ≡ true = subst Cause e l.cause in let f : true
        ≡ false = sym stop ∙ calm_look in absurd cc
    run_out_for why.NoMemory e = tt
    run_out_for why.Full e = tt

    runs_out : RunsOut g room m found before c entries
    runs_out = record { looked = l; why = run_out_for l.stay.why refl }

  run_each : (before : List Entry) (cs : List Connection) (entries : List Entry) → is_stopped (before ++ entries) ≡ false
      → Stays m (Looked g room m found) before cs entries → Stays m (RunsOut g room m found) before cs entries
  run_each before [] entries calm s = s
  run_each before (c ∷ cs) entries calm (gap, mine, later, are, strange, one, others) =
      let to_later : before ++ entries ≡ (before ++ (gap ++ mine)) ++ later = ap (λ (l : List Entry). before ++ l)
      (are ∙ sym (append_assoc gap mine later)) ∙ sym (append_assoc before (gap ++ mine) later) in
      let calm_later : is_stopped ((before ++ (gap ++ mine)) ++ later) ≡ false = ap is_stopped (sym to_later) ∙ calm in
      let calm_mine : is_stopped ((before ++ gap) ++ mine) ≡ false = ap is_stopped (append_assoc before gap mine)
      ∙ none_before (before ++ (gap ++ mine)) later calm_later in
      (gap, mine, later, are, strange, runs_out (before ++ gap) c mine one calm_mine, run_each (before ++ (gap ++ mine)) cs later calm_later others)

  -- every connection has its Opened
  all_opened : (history : List Entry) (last : List Connection) → is_stopped history ≡ false → Unopened history last → last ≡ []
  all_opened history [] calm u = refl
  all_opened history (c ∷ []) calm u = let stop : is_stopped history ≡ true = u.1 in let f : true ≡ false = sym stop ∙ calm in absurd cc
  all_opened history (c ∷ d ∷ cs) calm u = absurd u

  run_told : (history : List Entry) (told : Option Line) → is_stopped history ≡ false → ToldBy g room m found history told
      → IfSome told (λ (line : Line). RunOut g room m found history line)
  run_told history None calm t = tt
  run_told history (Some line) calm (said, last, none, past, are, unopened) =
      let all : line.past ≡ said = past ∙ (ap (λ (l : List Connection). said ++ l) (all_opened history last calm unopened) ∙ append-nil said) in
      (none, run_each [] line.past history calm (subst (λ (l : List Connection). Said g room m found l history) (sym all) are))

pub line_runs_out : {X : Type 0} (seen : X → LineSeen) (site : SiteData) (history : List Entry) → is_stopped history ≡ false → (by : ℕ) (aim : Aim)
    (before now : X) (why : LineWhy) → LineOwes seen site history by aim before now why
    → LineRunsOut seen site history by aim before now why
line_runs_out seen site history calm by aim before now why (found, connections, owes) =
    let b = server_basis site in
    let told : ToldBy (site_routing site) (room_of b) by found history (since (made_by (aimed_at aim (seen before)).told) (seen now).told) =
    elim owes [
      | inl r ↦ told_of_rows (site_routing site) (room_of b) by found history _ r.told
      | inr u ↦ (let stop : is_stopped history ≡ true = u.unstarted.stopped in let f : true ≡ false = sym stop ∙ calm in absurd cc)
    ] in (
      found,
      run_told (site_routing site) (room_of b) by found history _ calm
          (subst (λ (n : ℕ). ToldBy (site_routing site) (room_of b) by found history (since n (seen now).told)) (made_aimed aim (seen before).told) told),
    )

-- ---- no Closed for a Stop

closed_uncut : (before : List Entry) (w : Why) → StopsAfter before w → is_stopped before ≡ false → is_stopped_why w ≡ false
closed_uncut before why.PeerEnded stops calm = refl
closed_uncut before why.ReadFault stops calm = refl
closed_uncut before why.WriteFault stops calm = refl
closed_uncut before (why.BadFrame stage cause) stops calm = refl
closed_uncut before why.Stopped stops calm = let f : true ≡ false = sym stops ∙ calm in absurd cc
closed_uncut before why.NoMemory stops calm = refl
closed_uncut before why.Full stops calm = refl

what_uncut : (r : Rules) (before : List Entry) (by : ℕ) (what : What) → Allows r before by what → is_stopped before ≡ false
    → closes_for is_stopped_why what ≡ false
what_uncut r before by Opened says calm = refl
what_uncut r before by (Packet ident stored bytes) says calm = refl
what_uncut r before by (Closed w loss unposted unsent) says calm = closed_uncut before w says.1 calm
what_uncut r before by (Command interface command bytes) says calm = refl
what_uncut r before by (SetLimits enabled packet item persistence set limits) says calm = refl
what_uncut r before by (Enable packet item enabled) says calm = refl
what_uncut r before by (LimitsSetIs set) says calm = refl
what_uncut r before by (Injected packet bytes) says calm = refl
what_uncut r before by (Unrouted w bytes) says calm = refl
what_uncut r before by Stop says calm = refl
what_uncut r before by Ended says calm = refl

none_cut : (r : Rules) (before es : List Entry) → is_stopped (before ++ es) ≡ false → AllAllowed r before es
    → list_any (λ (e : Entry). closes_for is_stopped_why e.what) es ≡ false
none_cut r before [] calm all = refl
none_cut r before (e ∷ es) calm all =
    let head = what_uncut r before e.by e.what all.0.says (none_before before (e ∷ es) calm) in
    let rest = none_cut r (before ++ e ∷ []) es (ap is_stopped (append_assoc before (e ∷ []) es) ∙ calm) all.1 in
    ap (λ (b : Bool). b || list_any (λ (x : Entry). closes_for is_stopped_why x.what) es) head ∙ rest

-- ---- those of a site

module _ {D Q V : Type 0} (line_seen : D → LineSeen) (door_seen : Q → LineSeen) (vault_seen : V → VaultSeen) (site : SiteData) (digest : List ℕ)
    (dialers dialers' : List (Option D)) (doors doors' : List (Option Q)) (vault vault' : Option V) where
  module _ (w : Worked) (kept : IsKept (server_basis site) w.history)
      (interfaces : CameBack (LineOwes line_seen site w.history) 0 (line_aims site) dialers dialers' (take (length site.interfaces) w.lines))
      (slots : CameBack (LineOwes door_seen site w.history) first_slot (slot_aims site) (take 8 doors) (take 8 doors') (drop (length site.interfaces) w.lines))
      (desks : CameBack (DeskOwes door_seen site w.history) first_desk (desk_aims site) (drop 8 doors) (drop 8 doors') w.desks)
      (scribe : ScribeOwes vault_seen site digest w.history vault vault' w.scribe) where
    unstopped : is_stopped w.history ≡ false → Unstopped line_seen door_seen site w dialers dialers' doors doors'
    unstopped calm = record {
      uncut = none_cut (rules_of (server_basis site)) [] w.history calm kept.legal.each;
      interfaces = came_all (LineOwes line_seen site w.history) (LineRunsOut line_seen site w.history) (line_runs_out line_seen site w.history calm) 0
          (line_aims site) dialers dialers' (take (length site.interfaces) w.lines) interfaces;
      slots = came_all (LineOwes door_seen site w.history) (LineRunsOut door_seen site w.history)
          (line_runs_out door_seen site w.history calm) first_slot (slot_aims site) (take 8 doors) (take 8 doors')
          (drop (length site.interfaces) w.lines) slots;
    }

    pub completes : IsComplete line_seen door_seen vault_seen site digest w dialers dialers' doors doors' vault'
    completes = record {
      once = ends_once line_seen door_seen vault_seen site digest w.history dialers dialers' (take 8 doors) (take 8 doors') (drop 8 doors)
          (drop 8 doors') vault vault' (take (length site.interfaces) w.lines) (drop (length site.interfaces) w.lines) w.desks w.scribe kept
          interfaces slots desks scribe;
      answered = came_all (DeskOwes door_seen site w.history) (DeskAnswers door_seen site w.history)
          (desk_answers door_seen site w.history) first_desk (desk_aims site) (drop 8 doors) (drop 8 doors') w.desks desks;
      unstopped = unstopped;
      logs = λ sound is. whole_logs vault_seen site digest w.history vault vault' w.scribe sound kept scribe is;
    }
