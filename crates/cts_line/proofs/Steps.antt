-- What each step of a line leaves of what it tells.
use Rattle.std.proofs.Common.{◌≡◌, ℕ, ◌+◌, ◌≤◌, Bool, true, false, List, [], ◌∷◌, ◌++◌, length, map, refl, sym, ◌∙◌, ap, subst, arith, length-append, append-nil, Option, Some, None, option_map, inl, inr}
use Rattle.std.specs.Prelude.{drop}
use Rattle.cts_chain.specs.Chains.{StagesStand, AllSettled, framings_of, last_fault}
use Rattle.cts_entry.specs.declared.entry.Entry.{Entry}
use Rattle.cts_entry.specs.declared.what.What.TheVariants.{Opened}
use Rattle.cts_entry.specs.declared.why.Why.{Why}
use Rattle.cts_entry.specs.declared.why.Why.TheVariants.{PeerEnded, ReadFault, WriteFault, BadFrame, Stopped, NoMemory, Full}
use Rattle.cts_entry.specs.Histories.{has_own, is_stopped}
use Rattle.cts_entry.specs.Queues.{spelled}
use Rattle.cts_framing.specs.Framing.{Output, plain}
use Rattle.cts_framing.specs.Packets.{Fault}
use Rattle.cts_outside.specs.Causes.{raised}
use Rattle.cts_outside.specs.Lines.{Connection, Line, fresh, told_after, at_now, after_take}
use Rattle.cts_outside.specs.declared.link.Taken.TheVariants.{Nothing, End, Failed}
use Rattle.cts_proto.specs.Meaning.{Meaning}
use Rattle.cts_trace.specs.Connections.{Blames, Says}
use Rattle.cts_entry.specs.Room.{Capacity}
use Rattle.cts_trace.specs.Lines.{Causes, PostsNone}
use Rattle.cts_trace.specs.Routing.{Routing, queue, spell}
use Rattle.cts_trace.proofs.Lateness.{late_blank}
use Rattle.cts_trace.proofs.Looking.{posts_none_both, puts_all_map}
use Rattle.cts_trace.proofs.Others.{strange_own}
use Rattle.cts_entry.proofs.Queuing.{any_append}
use Rattle.cts_turn.specs.Lists.{climbs}
use Rattle.cts_line.specs.Talks.{AllAtMost, Begins, Body, Ends, HasCause, IsLast, Phase, Caught, Puts, Takes, Talking, Talks, Waits, after, stopped_by}
use Rattle.cts_line.specs.Rows.{InRows, SaidInRows}
use Rattle.cts_line.proofs.Bodies.{drop_whole, inside, grown_body, rows_kept, seen_body}
use Rattle.cts_line.proofs.Rows.{no_rows, rows_found, rows_more}
use Rattle.cts_line.proofs.Closing.{Closing}
use Rattle.cts_line.proofs.Soon.{soon_clear, soon_grown, soon_more, soon_opened}
use Rattle.cts_line.proofs.Growing.{Grows, among_or_none, at_most_more, climbs_within, holds_grown, last_grown, look_grown, long_grown, past_grown}

module _ (g : Routing) (room : Capacity) (m : ℕ) (phase phase' : Phase) (stages stages' : List Meaning) (place place' unsent unsent' : ℕ) (found found' : List ℕ) (history history' : List Entry) where
  -- a step of the connection that stands, and of what the dialer tells
  pub talks_step : (f : Line → Line) (old new : Option Line) → new ≡ told_after f old → Talks g room m phase stages place unsent found history old
      → ((line : Line) → Talking g room m phase stages place unsent found history line → Talking g room m phase' stages' place' unsent' found' history' (f line)) → Talks g room m phase' stages' place' unsent' found' history' new
  talks_step f None new e t step = subst (λ (o : Option Line). Talks g room m phase' stages' place' unsent' found' history' o) (sym e) tt
  talks_step f (Some line) new e t step = subst (λ (o : Option Line). Talks g room m phase' stages' place' unsent' found' history' o) (sym e) (step line t)

  -- a step that the dialer does not see
  pub talks_map : (told : Option Line) → Talks g room m phase stages place unsent found history told
      → ((line : Line) → Talking g room m phase stages place unsent found history line → Talking g room m phase' stages' place' unsent' found' history' line) → Talks g room m phase' stages' place' unsent' found' history' told
  talks_map None t step = tt
  talks_map (Some line) t step = step line t

pub raised_few : (n k : ℕ) → n + 1 ≤ k → raised n ≤ k
raised_few n k le = omega arith

-- ---- the Opened

pub opens_talk : (g : Routing) (room : Capacity) (m place : ℕ) (stages : List Meaning) (found found' : List ℕ) (history history' : List Entry) (opened : Entry) (told : Option Line) → Grows m found history (opened ∷ []) found' history' → Says m opened Opened
    → place ≡ length history' → StagesStand stages [] [] → AllSettled stages → last_fault 1 stages ≡ None → climbs 0 found (length history) ≡ true → Begins g room m found history told → Talks g room m Waits stages place 0 found' history' told
opens_talk g room m place stages found found' history history' opened None grows says is blank settled sound climbing b = tt
opens_talk g room m place stages found found' history history' opened (Some line) grows says is blank settled sound climbing b =
    let before : List Entry = history ++ grows.others in
    let long = inside history' before [] opened grows.seen in
    let others = length-append history grows.others in
    let held = subst (AllAtMost (length before)) (sym grows.found_is) (at_most_more (length history) (length before) (length before) found (climbs_within 0 (length history) found climbing) (omega (arith, others)) (omega arith)) in
    record {
      connection = fresh;
      stands = b.0;
      body = record {
        before = before;
        opened = opened;
        looked = [];
        ahead = [];
        whole = grows.seen;
        opens = says;
        posted = [];
        posts = refl;
        done = [];
        rest = [];
        queue_is = refl;
      };
      fed = blank;
      settled = settled;
      sound = sound;
      rows = no_rows g m (before ++ opened ∷ []);
      past = subst (λ (f : List ℕ). SaidInRows g room m f line.past before) (sym grows.found_is)
          (rows_found g room m found (length before) line.past before (omega arith) (rows_more g room m found line.past history grows.others (strange_own m grows.others grows.strange) b.1));
      place_is = omega arith;
      holds = record {
        earlier = found';
        mine = [];
        found_is = sym (append-nil found');
        within = tt;
        all_within = subst (AllAtMost (length history')) (sym grows.found_is) (at_most_more (length history) (length history') (length before) found (climbs_within 0 (length history) found climbing) (omega (arith, others, long)) (omega (arith, long)));
      };
      soon_so = soon_opened 1 (length before) found' history' held;
      among = inl refl;
      late = late_blank (g.chain m);
      tells_so = (refl, refl, refl);
      saw_so = tt;
      quiet_so = tt;
      put_so = (refl, refl);
      unsent_is = refl;
      looked_so = omega arith;
    }

-- ---- looks

module _ (g : Routing) (room : Capacity) (m place unsent : ℕ) (stages : List Meaning) (found found' : List ℕ) (history history' : List Entry) (grows : Grows m found history [] found' history') where
  -- a look, which saw these spellings
  pub looks_talk : (spellings : List (Option (List ℕ))) (line : Line) → spellings ≡ map (spell g m) (queue g m (drop place history'))
      → Talking g room m Waits stages place unsent found history line → Talking g room m (Puts spellings) stages (length history') unsent found' history' line
  looks_talk spellings line saw t =
      let b = t.body in
      let n : ℕ = length (history ++ grows.others) in
      let grown = grown_body g m found history [] found' history' grows b [] refl in
      let long = inside history b.before (b.looked ++ b.ahead) b.opened b.whole in
      let long' = inside history' b.before (b.looked ++ grown.ahead) b.opened grown.whole in
      let same : length history' ≡ n + 0 = long_grown m found history [] found' history' grows in
      let none = t.put_so.0 in
      let ahead_is : drop place history' ≡ grown.ahead = drop_whole history' b.before b.looked grown.ahead b.opened place t.place_is grown.whole in
      let rest_is : b.rest ++ queue g m grown.ahead ≡ queue g m grown.ahead = ap (λ (l : List Entry). l ++ queue g m grown.ahead) none in
      let here : n ≡ length history' = omega arith in
      record {
        connection = t.connection;
        stands = t.stands;
        body = seen_body g m history' grown;
        fed = subst (λ (l : List Output). StagesStand stages (map plain t.connection.pieces) l) (sym (append-nil b.posted)) t.fed;
        rows = subst (λ (l : List Entry). InRows g m t.connection.pieces (b.posted ++ []) (b.before ++ b.opened ∷ []) l) (sym (append-nil (b.looked ++ grown.ahead)))
            (rows_kept g m found history [] found' history' grows b t.connection.pieces t.rows refl);
        settled = t.settled;
        sound = t.sound;
        past = past_grown m found history [] found' history' grows g room line.past b.before t.past (omega arith);
        place_is = long';
        holds = holds_grown m found history [] found' history' grows (length b.before) (omega arith) t.holds;
        soon_so = soon_grown m found history [] found' history' grows 1 (length b.before) t.holds.all_within t.soon_so;
        among = inr (found, [], grows.found_is ∙ ap (λ (k : ℕ). found ++ k ∷ []) here);
        late = t.late;
        tells_so = t.tells_so;
        saw_so = tt;
        quiet_so = refl;
        put_so = (ap (map (spell g m)) rest_is ∙ (ap (λ (l : List Entry). map (spell g m) (queue g m l)) (sym ahead_is) ∙ sym saw), t.put_so.1);
        unsent_is = (let u = t.unsent_is in let z = ap length none in omega (arith, u, z));
        looked_so = ((let few = t.looked_so in let l = length-append t.holds.mine (n ∷ []) in omega (arith, few, l)), (t.holds.mine, ap (λ (k : ℕ). t.holds.mine ++ k ∷ []) here));
      }

  -- a look that found no memory
  pub looks_not : (line : Line) → Talking g room m Waits stages place unsent found history line → Talking g room m (Ends NoMemory) stages place unsent found' history' line
  looks_not line t =
      let b = t.body in
      let grown = grown_body g m found history [] found' history' grows b [] refl in
      let long = inside history b.before (b.looked ++ b.ahead) b.opened b.whole in
      record {
        connection = t.connection;
        stands = t.stands;
        body = grown;
        fed = subst (λ (l : List Output). StagesStand stages (map plain t.connection.pieces) l) (sym (append-nil b.posted)) t.fed;
        rows = rows_kept g m found history [] found' history' grows b t.connection.pieces t.rows refl;
        settled = t.settled;
        sound = t.sound;
        past = past_grown m found history [] found' history' grows g room line.past b.before t.past (omega arith);
        place_is = t.place_is;
        holds = holds_grown m found history [] found' history' grows (length b.before) (omega arith) t.holds;
        soon_so = soon_grown m found history [] found' history' grows 1 (length b.before) t.holds.all_within t.soon_so;
        among = among_or_none m found history [] found' history' grows place b.looked t.among;
        late = t.late;
        tells_so = t.tells_so;
        saw_so = tt;
        quiet_so = tt;
        put_so = (([], t.put_so.1 ∙ sym (append-nil (spelled (spell g m) b.done)), inl refl), tt);
        unsent_is = t.unsent_is;
        looked_so = ((let few = t.looked_so in let l = length-append t.holds.mine (length (history ++ grows.others) ∷ []) in omega (arith, few, l)), tt);
      }

-- ---- after the puts

module _ (g : Routing) (room : Capacity) (m place unsent : ℕ) (stages : List Meaning) (found : List ℕ) (history : List Entry) (line : Line) where
  -- what the look saw is all that stands
  pub saw_all : (b : Body g m history) → b.ahead ≡ [] → history ≡ b.before ++ b.opened ∷ b.looked
  saw_all b none = b.whole ∙ ap (λ (l : List Entry). b.before ++ b.opened ∷ l) (ap (λ (l : List Entry). b.looked ++ l) none ∙ append-nil b.looked)

  pub no_tail : (done : List Entry) (put : List ℕ) → put ≡ spelled (spell g m) done → put ≡ spelled (spell g m) done ++ []
  no_tail done put e = e ∙ sym (append-nil (spelled (spell g m) done))

  pub stops : is_stopped history ≡ true → Talking g room m Caught stages place unsent found history line → Talking g room m (Ends Stopped) stages place unsent found history line
  stops stop t =
      let b = t.body in
      let l = t.looked_so.0 in
      record {
        connection = t.connection;
        stands = t.stands;
        body = b;
        fed = t.fed;
        rows = t.rows;
        settled = t.settled;
        sound = t.sound;
        past = t.past;
        place_is = t.place_is;
        holds = t.holds;
        soon_so = t.soon_so;
        among = t.among;
        late = t.late;
        tells_so = t.tells_so;
        saw_so = ap is_stopped (sym (saw_all b t.quiet_so)) ∙ stop;
        quiet_so = ap (has_own m) t.quiet_so;
        put_so = (([], no_tail b.done t.connection.put t.put_so.1, inl refl), t.put_so.0);
        unsent_is = t.unsent_is;
        looked_so = (omega (arith, l), t.looked_so.1);
      }

  -- no Stop stands
  pub clears : is_stopped history ≡ false → Talking g room m Caught stages place unsent found history line → Talking g room m Takes stages place unsent found history line
  clears clear t =
      record {
        connection = t.connection;
        stands = t.stands;
        body = t.body;
        fed = t.fed;
        rows = t.rows;
        settled = t.settled;
        sound = t.sound;
        past = t.past;
        place_is = t.place_is;
        holds = t.holds;
        soon_so = soon_clear found (length t.body.before) history clear;
        among = t.among;
        late = t.late;
        tells_so = t.tells_so;
        saw_so = ap is_stopped (sym (saw_all t.body t.quiet_so)) ∙ clear;
        quiet_so = t.quiet_so;
        put_so = t.put_so;
        unsent_is = t.unsent_is;
        looked_so = t.looked_so;
      }

  -- ---- takes

  pub takes_nothing : (buffer : List ℕ) → Talking g room m Takes stages place unsent found history line → Talking g room m Waits stages place unsent found history (at_now (after_take Nothing buffer) line)
  takes_nothing buffer t =
      record {
        connection = after_take Nothing buffer t.connection;
        stands = ap (option_map (after_take Nothing buffer)) t.stands;
        body = t.body;
        fed = t.fed;
        rows = t.rows;
        settled = t.settled;
        sound = t.sound;
        past = t.past;
        place_is = t.place_is;
        holds = t.holds;
        soon_so = soon_more 0 1 found (length t.body.before) history (omega arith) t.soon_so;
        among = t.among;
        late = t.late;
        tells_so = t.tells_so;
        saw_so = tt;
        quiet_so = tt;
        put_so = t.put_so;
        unsent_is = t.unsent_is;
        looked_so = raised_few t.connection.takes (length t.holds.mine) t.looked_so.0;
      }

  pub takes_end : (buffer : List ℕ) → Talking g room m Takes stages place unsent found history line → Talking g room m (Ends PeerEnded) stages place unsent found history (at_now (after_take End buffer) line)
  takes_end buffer t =
      record {
        connection = after_take End buffer t.connection;
        stands = ap (option_map (after_take End buffer)) t.stands;
        body = t.body;
        fed = t.fed;
        rows = t.rows;
        settled = t.settled;
        sound = t.sound;
        past = t.past;
        place_is = t.place_is;
        holds = t.holds;
        soon_so = soon_more 0 2 found (length t.body.before) history (omega arith) t.soon_so;
        among = t.among;
        late = t.late;
        tells_so = (refl, t.tells_so.1, t.tells_so.2);
        saw_so = (refl, t.saw_so);
        quiet_so = ap (has_own m) t.quiet_so;
        put_so = (([], no_tail t.body.done t.connection.put t.put_so.1, inl refl), t.put_so.0);
        unsent_is = t.unsent_is;
        looked_so = (raised_few t.connection.takes (length t.holds.mine) t.looked_so.0, t.looked_so.1);
      }

  pub takes_failed : (buffer : List ℕ) → Talking g room m Takes stages place unsent found history line → Talking g room m (Ends ReadFault) stages place unsent found history (at_now (after_take Failed buffer) line)
  takes_failed buffer t =
      record {
        connection = after_take Failed buffer t.connection;
        stands = ap (option_map (after_take Failed buffer)) t.stands;
        body = t.body;
        fed = t.fed;
        rows = t.rows;
        settled = t.settled;
        sound = t.sound;
        past = t.past;
        place_is = t.place_is;
        holds = t.holds;
        soon_so = soon_more 0 2 found (length t.body.before) history (omega arith) t.soon_so;
        among = t.among;
        late = t.late;
        tells_so = (t.tells_so.0, refl, t.tells_so.2);
        saw_so = (refl, t.saw_so);
        quiet_so = tt;
        put_so = (([], no_tail t.body.done t.connection.put t.put_so.1, inl refl), t.put_so.0);
        unsent_is = t.unsent_is;
        looked_so = (raised_few t.connection.takes (length t.holds.mine) t.looked_so.0, t.looked_so.1);
      }

pub stopped_talks : (g : Routing) (room : Capacity) (m place unsent : ℕ) (stages : List Meaning) (found : List ℕ) (history : List Entry) (told : Option Line) (end : Option Why) (stop : Bool)
    → stop ≡ is_stopped history → Talks g room m (after Caught end) stages place unsent found history told → Talks g room m (after Takes (stopped_by end stop)) stages place unsent found history told
stopped_talks g room m place unsent stages found history told None false is t =
    talks_map g room m Caught Takes stages stages place place unsent unsent found found history history told t (λ line. clears g room m place unsent stages found history line (sym is))
stopped_talks g room m place unsent stages found history told None true is t =
    talks_map g room m Caught (Ends Stopped) stages stages place place unsent unsent found found history history told t (λ line. stops g room m place unsent stages found history line (sym is))
stopped_talks g room m place unsent stages found history told (Some end) stop is t = t

-- ---- the Closed

-- a reason for which nothing has to be left, and which no stage has
unblamed : (why : Why) (c : Connection) (saw : List Entry) → HasCause why c saw → Blames None why
unblamed PeerEnded c saw h = refl
unblamed ReadFault c saw h = refl
unblamed WriteFault c saw h = refl
unblamed (BadFrame stage cause) c saw h = absurd h
unblamed Stopped c saw h = refl
unblamed NoMemory c saw h = refl
unblamed Full c saw h = absurd h

causes_of : (room : Capacity) (why : Why) (c : Connection) (saw whole : List Entry) → HasCause why c saw → Causes room why (record { connection = c; looked = saw; whole = whole; left = [] })
causes_of room PeerEnded c saw whole h = h
causes_of room ReadFault c saw whole h = h
causes_of room WriteFault c saw whole h = h
causes_of room (BadFrame stage cause) c saw whole h = absurd h
causes_of room Stopped c saw whole h = h
causes_of room NoMemory c saw whole h = tt
causes_of room Full c saw whole h = absurd h

quiet_more : (m : ℕ) (why : Why) (ahead others : List Entry) → has_own m others ≡ false → PostsNone why (has_own m ahead ≡ false) → PostsNone why (has_own m (ahead ++ (others ++ [])) ≡ false)
quiet_more m why ahead others none q =
    posts_none_both why (has_own m ahead ≡ false) (has_own m ahead ≡ false) (has_own m (ahead ++ (others ++ [])) ≡ false)
    (λ a b. subst (λ (l : List Entry). has_own m (ahead ++ l) ≡ false) (sym (append-nil others)) (any_append m ahead others a none)) q q

-- a connection of which all packets are posted is closed in a hold
pub ends_closing : (g : Routing) (room : Capacity) (m place unsent : ℕ) (why : Why) (stages : List Meaning) (found found' : List ℕ) (history history' : List Entry) (line : Line) → Grows m found history [] found' history' → framings_of stages ≡ g.chain m
    → Talking g room m (Ends why) stages place unsent found history line → Closing g room m why stages place unsent 0 found' history' line
ends_closing g room m place unsent why stages found found' history history' line grows framings t =
    let b = t.body in
    let grown = grown_body g m found history [] found' history' grows b [] refl in
    let long = inside history b.before (b.looked ++ b.ahead) b.opened b.whole in
    record {
      connection = t.connection;
      stands = t.stands;
      body = grown;
      fed = t.connection.pieces;
      fed_is = inl refl;
      left = [];
      chain = subst (λ (l : List Output). StagesStand stages (map plain t.connection.pieces) l) (sym (append-nil (b.posted ++ []) ∙ append-nil b.posted)) t.fed;
      settled = t.settled;
      framings = framings;
      blames = subst (λ (f : Option Fault). Blames f why) (sym t.sound) (unblamed why t.connection (b.before ++ b.opened ∷ b.looked) t.saw_so);
      late = t.late;
      rows = rows_kept g m found history [] found' history' grows b t.connection.pieces t.rows refl;
      left_is = inl refl;
      unposted_is = refl;
      past = past_grown m found history [] found' history' grows g room line.past b.before t.past (omega arith);
      place_is = t.place_is;
      holds = holds_grown m found history [] found' history' grows (length b.before) (omega arith) t.holds;
      soon = soon_grown m found history [] found' history' grows 2 (length b.before) t.holds.all_within t.soon_so;
      look_is = look_grown m found history [] found' history' grows place b.looked t.among;
      cause = causes_of room why t.connection (b.before ++ b.opened ∷ b.looked) history' t.saw_so;
      tells = t.tells_so;
      quiet = quiet_more m why b.ahead grows.others (strange_own m grows.others grows.strange) t.quiet_so;
      tail = t.put_so.0.0;
      put = t.put_so.0.1;
      tail_is = t.put_so.0.2;
      put_all = t.put_so.1;
      unsent_is = t.unsent_is;
      often = (let few = t.looked_so.0 in let l = length-append t.holds.mine (length (history ++ grows.others) ∷ []) in omega (arith, few, l));
      last = puts_all_map why (IsLast t.holds.mine place) ((close : ℕ) × (earlier : List ℕ) × (found' ≡ earlier ++ place ∷ close ∷ []) × (close ≤ length history'))
          (λ last. last_grown m found history [] found' history' grows place (length b.before) t.holds last) t.looked_so.1;
    }
