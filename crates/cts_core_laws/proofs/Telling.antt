-- The history of a run says of each interface and slot what the events told of it.
use Rattle.std.proofs.Common.{◌≡◌, ℕ, suc, ◌+◌, ◌≤◌, ◌==◌, Bool, true, false, ◌||◌, List, [], ◌∷◌, ◌++◌, length, take, Option, Some, None, option_map, refl, sym, ◌∙◌, ap, subst, arith, append-nil, append_assoc, unwrap_or, eq-eqb, ◌⊎◌, inl, inr}
use Rattle.std.specs.Prelude.{if◌then◌else◌, ◌≢◌, nat_le}
use Rattle.std.specs.List.{All}
use Rattle.std.proofs.lemmas.List.Elements.{All-tail}
use Rattle.std.proofs.lemmas.Bool.Decides.{eqb_tells}
use Rattle.cts_def.specs.Makers.{first_desk, server}
use Rattle.cts_def.specs.declared.time.Time.{Time}
use Rattle.cts_entry.specs.declared.entry.Entry.{Entry}
use Rattle.cts_entry.specs.declared.what.What.TheVariants.{Opened, Closed, Stop as StopEntry}
use Rattle.cts_entry.specs.declared.why.Why.{Why}
use Rattle.cts_entry.specs.declared.why.Why.TheVariants.{PeerEnded, ReadFault, WriteFault, BadFrame, Stopped, NoMemory, Full}
use Rattle.cts_entry.specs.declared.event.Event.{Event}
use Rattle.cts_entry.specs.declared.event.Event.TheVariants.{SetTime, Opens, Piece, Finish, Write, Call, DrainLog, DrainSlot, Stop}
use Rattle.cts_entry.specs.Histories.{latest, or_earlier, connects_maker, is_connected, is_own, has_own}
use Rattle.cts_entry.specs.Queues.{spelled}
use Rattle.cts_entry.specs.Places.{Posts, Stays}
use Rattle.cts_entry.proofs.Appending.{connected-append, latest-append}
use Rattle.cts_entry.proofs.Queuing.{none_opened, none_connected, posts_none, since-append, any_append, stays_more}
use Rattle.cts_framing.specs.Framing.{Framing, Output, IsSound}
use Rattle.cts_framing.specs.Cuts.{Pieces}
use Rattle.cts_framing.specs.Packets.{IsPackets, Stages, cut_by, Fault, fault_of, fault_from, or_fault, loss_of}
use Rattle.cts_framing.specs.Laws.{AllSound}
use Rattle.cts_framing.proofs.Framings.{taken_none, ends_nil}
use Rattle.cts_framing.proofs.Stagings.{has_one_packets}
use Rattle.cts_core.specs.States.{Environment, State, is_line, opening, may_close, unsent, ahead, put_next}
use Rattle.cts_core.specs.Runs.{Did, Does, after, pieces_for, passed_for, pieces_after, cursor_after, Ending, Runs, Receives, Closes, closing, closed_entry}
use Rattle.cts_core_laws.specs.Told.{Line, Told, told_from, told_after, turned, heard, put_for, one_or_none, history_of}
use Rattle.cts_core_laws.specs.Laws.{AreApart, IsSoundEnvironment, IsAnsweredByDesks, CoreIsTold}
use Rattle.cts_outside.specs.Lines.{Connection, fresh}
use Rattle.cts_trace.specs.Told.{IsStay, Tells}
use Rattle.cts_trace.specs.Routing.{time_in, said_of, posted_entries, walk, queue, spell}
use Rattle.cts_trace.specs.Connections.{Says, Shows, is_bad_frame, Blames, NoneLate}
use Rattle.cts_trace.proofs.Lateness.{late_blank, late_more}
use Rattle.cts_trace.proofs.Connecting.{says_connects}
use Rattle.cts_trace.proofs.Walks.{enough_of, packets_connect, packets_open, packets_queue, packets_show}
use Rattle.cts_core.proofs.Keeping.{pieces_turned, cursor_turned, pieces_grow, cursor_grows, pieces_stay, cursor_stays}
use Rattle.cts_core_laws.proofs.Going.{Going, GoingWell, going_connected, going_since, going_more, going_put, going_talks, going_closes, unsent_at, unsent_kept}

-- a chain gives nothing for no pieces

nothing_cut : Pieces
nothing_cut = record { outs = []; skipped = 0; empty = 0; rest = []; bad = None }

nothing_by : (b : Bool) (f : Framing) → IsSound f → cut_by b f [] nothing_cut
unfolding nothing_cut
nothing_by false f s = record { taken = taken_none f []; ends = ends_nil f s }
nothing_by true f s = record { taken = taken_none f []; ends = ends_nil f s }

no_packets : (fs : List Framing) (n : ℕ) → AllSound fs → (cuts : List Pieces) × Stages fs [] cuts [] × (fault_from n cuts ≡ None)
unfolding nothing_cut
no_packets [] n s = ([], refl, refl)
no_packets (f ∷ fs) n s =
    let more = no_packets fs (suc n) s.1 in
    (nothing_cut ∷ more.0, (nothing_by f.by_piece f s.0, more.1), ap (λ (o : Option Fault). or_fault o n None) more.2)

-- what a state and what is told of a maker have to do with one another

abbrev Fits : Environment → State → ℕ → List Connection → Option Connection → Type 0
Fits env s m past None = (is_connected m s.history ≡ false) × Stays m (IsStay env.routing m) [] past s.history
Fits env s m past (Some c) = GoingWell env.routing m s.history (s.pieces m) (s.cursor m) past c

abbrev FitsLine : Environment → State → ℕ → Line → Type 0
FitsLine env s m line = Fits env s m line.past line.now

told_by : (env : Environment) (s : State) (m : ℕ) (past : List Connection) (now : Option Connection) → Fits env s m past now → Tells env.routing m s.history past now
told_by env s m past None f = f.1
told_by env s m past (Some c) w = let go = w.0 in (go.before, go.opened ∷ go.between, go.history_is, go.past_is, going_talks env.routing m s.history (s.pieces m) (s.cursor m) past c go w.1)

-- an event that is not the maker's

heard_nothing : (m : ℕ) (event : Event) (did : Did) (c : Connection) → pieces_for m event ≡ [] → put_for m did.effect ≡ [] → heard m event did c ≡ c
heard_nothing m event did c p q =
    let pieces = ap (λ (l : List (List ℕ)). c.pieces ++ l) p ∙ append-nil c.pieces in
    let put = ap (λ (l : List ℕ). c.put ++ l) q ∙ append-nil c.put in
    λ i. record c { pieces = pieces i; put = put i }

heard_none : (m : ℕ) (event : Event) (did : Did) (now : Option Connection) → pieces_for m event ≡ [] → put_for m did.effect ≡ [] → option_map (heard m event did) now ≡ now
heard_none m event did None p q = refl
heard_none m event did (Some c) p q = ap Some (heard_nothing m event did c p q)

told_quiet : (m : ℕ) (event : Event) (did : Did) (line : Line) → has_own m did.entries ≡ false → pieces_for m event ≡ [] → put_for m did.effect ≡ [] → told_after m event did line ≡ line
told_quiet m event did line n p q =
    ap (λ (t : Option Bool). turned t (record { past = line.past; now = option_map (heard m event did) line.now })) (none_connected m did.entries n)
    ∙ (let now = heard_none m event did line.now p q in λ i. record { past = line.past; now = now i })

fits_kept : (env : Environment) (s : State) (event : Event) (did : Did) (m : ℕ) (past : List Connection) (now : Option Connection) → Fits env s m past now → has_own m did.entries ≡ false
    → pieces_after event did.entries s.pieces m ≡ s.pieces m → cursor_after event did.entries s.cursor m ≡ s.cursor m → Fits env (after s event did) m past now
fits_kept env s event did m past None f n p q = (
  connected-append m s.history did.entries ∙ (ap (λ (t : Option Bool). unwrap_or (or_earlier t (latest (connects_maker m) s.history)) false) (none_connected m did.entries n) ∙ f.0),
  stays_more m (IsStay env.routing m) [] past s.history did.entries f.1 n,
)
fits_kept env s event did m past (Some c) w n p q =
    let go = w.0 in
    let same = subst (λ (l : List Output). IsPackets (env.routing.chain m) c.pieces go.cuts l) (sym (append-nil go.packets)) go.packets_are in
    let more = going_more env.routing m s.history (s.pieces m) (s.cursor m) past c go did.entries [] c go.cuts (none_connected m did.entries n) (none_opened m did.entries n)
    (posts_none m (Shows env.routing m) s.history did.entries n) same go.late refl in
    let well : GoingWell env.routing m (s.history ++ did.entries) c.pieces (s.cursor m) past c = (more, w.1) in
    let at_pieces = subst (λ (l : List (List ℕ)). GoingWell env.routing m (s.history ++ did.entries) l (s.cursor m) past c) (sym (p ∙ go.pieces_are)) well in
    subst (λ (k : ℕ). GoingWell env.routing m (s.history ++ did.entries) (pieces_after event did.entries s.pieces m) k past c) (sym q) at_pieces

quiet_event : (env : Environment) (s : State) (event : Event) (did : Did) (m : ℕ) (line : Line) → FitsLine env s m line → has_own m did.entries ≡ false → pieces_for m event ≡ [] → put_for m did.effect ≡ []
    → passed_for m event ≡ 0 → FitsLine env (after s event did) m (told_after m event did line)
quiet_event env s event did m line f n p q passed =
    let none = none_connected m did.entries n in
    subst (FitsLine env (after s event did) m) (sym (told_quiet m event did line n p q))
    (fits_kept env s event did m line.past line.now f n (pieces_stay m event did.entries s.pieces none p) (cursor_stays m event did.entries s.cursor none passed))

-- numbers that differ

apart : (a b : ℕ) → a ≢ b → (a == b) ≡ false
apart a b n = apart_by a b n (eqb_tells a b)
  where
    apart_by : (a b : ℕ) → a ≢ b → (((a == b) ≡ true) × (a ≡ b)) ⊎ (((a == b) ≡ false) × (a ≢ b)) → (a == b) ≡ false
    apart_by a b n (inl t) = absurd (n t.1)
    apart_by a b n (inr t) = t.0

not_own : (m : ℕ) (e : Entry) → e.by ≢ m → is_own m e ≡ false
not_own m e n = let a = apart e.by m n in grind arith

none_of : (m by : ℕ) (entries : List Entry) → by ≢ m → All (λ (e : Entry). e.by ≡ by) entries → has_own m entries ≡ false
none_of m by [] n all = refl
none_of m by (e ∷ es) n all =
    let head = not_own m e (λ same. n (sym (all 0 e (omega arith)) ∙ same)) in
    let tail = none_of m by es n (All-tail (λ (x : Entry). x.by ≡ by) e es all) in
    grind arith

-- the maker's connection is opened

off_stays : (env : Environment) (s : State) (m : ℕ) (past : List Connection) (now : Option Connection) → Fits env s m past now → is_connected m s.history ≡ false → Stays m (IsStay env.routing m) [] past s.history
off_stays env s m past None f off = f.1
off_stays env s m past (Some c) w off = absurd (let go = w.0 in let on = going_connected env.routing m s.history (s.pieces m) (s.cursor m) past c go in cc)

opens_mine : (env : Environment) (s : State) (did : Did) (m : ℕ) (line : Line) → IsSoundEnvironment env → FitsLine env s m line → Does env s (Opens m) did → FitsLine env (after s (Opens m) did) m (told_after m (Opens m) did line)
opens_mine env s did m line sound f d =
    let e : Entry = record { by = m; time = s.time; what = Opened } in
    let says : Says m e Opened = record { maker = refl; what_is = refl } in
    let a : did.entries ≡ e ∷ [] = d.appends in
    let tells : latest (connects_maker m) did.entries ≡ Some true = ap (latest (connects_maker m)) a ∙ says_connects m e Opened says in
    let off : is_connected m s.history ≡ false = (let n = d.enabled in grind arith) in
    let none = no_packets (env.routing.chain m) 1 (sound.chains m) in
    let zero_walk : [] ≡ spelled (spell env.routing m) (queue env.routing m (take 0 (walk env.routing m []))) = refl in
    let go : Going env.routing m (s.history ++ did.entries) [] 0 line.past fresh = record {
      before = s.history;
      opened = e;
      between = [];
      history_is = ap (λ (l : List Entry). s.history ++ l) a;
      past_is = off_stays env s m line.past line.now f off;
      opens = says;
      quiet = refl;
      calm = refl;
      pieces_are = refl;
      cuts = none.0;
      packets = [];
      packets_are = none.1;
      posts = refl;
      late = late_blank (env.routing.chain m);
      reach = omega arith;
      put = zero_walk;
    } in
    let well : GoingWell env.routing m (s.history ++ did.entries) [] 0 line.past fresh = (go, none.2) in
    let at_pieces = subst (λ (l : List (List ℕ)). GoingWell env.routing m (s.history ++ did.entries) l 0 line.past fresh) (sym (pieces_turned m (Opens m) did.entries s.pieces true tells)) well in
    let at_cursor = subst (λ (k : ℕ). GoingWell env.routing m (s.history ++ did.entries) (pieces_after (Opens m) did.entries s.pieces m) k line.past fresh) (sym (cursor_turned m (Opens m) did.entries s.cursor true tells)) at_pieces in
    subst (λ (t : Option Bool). FitsLine env (after s (Opens m) did) m (turned t (record { past = line.past; now = option_map (heard m (Opens m) did) line.now }))) (sym tells) at_cursor

-- it puts something

puts_by : (env : Environment) (s : State) (event : Event) (did : Did) (m count : ℕ) (past : List Connection) (now : Option Connection) → Fits env s m past now → did.entries ≡ [] → is_connected m s.history ≡ true
    → count ≤ length (ahead env s m) → pieces_for m event ≡ [] → put_for m did.effect ≡ put_next env s m count → pieces_after event did.entries s.pieces m ≡ s.pieces m → cursor_after event did.entries s.cursor m ≡ s.cursor m + count
    → Fits env (after s event did) m past (option_map (heard m event did) now)
puts_by env s event did m count past None f a on enough p q pieces cursor = absurd (let off = f.0 in cc)
puts_by env s event did m count past (Some c) w a on enough p q pieces cursor =
    let go = w.0 in
    let d = heard m event did c in
    let more = going_put env.routing m s.history (s.pieces m) (s.cursor m) past c go count d enough (ap (λ (l : List (List ℕ)). c.pieces ++ l) p ∙ append-nil c.pieces) (ap (λ (l : List ℕ). c.put ++ l) q) in
    let well : GoingWell env.routing m s.history (s.pieces m) (s.cursor m + count) past d = (more, w.1) in
    let at_history = subst (λ (l : List Entry). GoingWell env.routing m l (s.pieces m) (s.cursor m + count) past d) (sym (ap (λ (l : List Entry). s.history ++ l) a ∙ append-nil s.history)) well in
    let at_pieces = subst (λ (l : List (List ℕ)). GoingWell env.routing m (s.history ++ did.entries) l (s.cursor m + count) past d) (sym pieces) at_history in
    subst (λ (k : ℕ). GoingWell env.routing m (s.history ++ did.entries) (pieces_after event did.entries s.pieces m) k past d) (sym cursor) at_pieces

puts_mine : (env : Environment) (s : State) (event : Event) (did : Did) (m count : ℕ) (line : Line) → FitsLine env s m line → did.entries ≡ [] → is_connected m s.history ≡ true
    → count ≤ length (ahead env s m) → pieces_for m event ≡ [] → put_for m did.effect ≡ put_next env s m count → passed_for m event ≡ count
    → FitsLine env (after s event did) m (told_after m event did line)
puts_mine env s event did m count line f a on enough p q passed =
    let none : latest (connects_maker m) did.entries ≡ None = ap (latest (connects_maker m)) a in
    let pieces = pieces_stay m event did.entries s.pieces none p in
    let cursor : cursor_after event did.entries s.cursor m ≡ s.cursor m + count = cursor_grows m event did.entries s.cursor none ∙ ap (λ (k : ℕ). s.cursor m + k) passed in
    subst (λ (t : Option Bool). FitsLine env (after s event did) m (turned t (record { past = line.past; now = option_map (heard m event did) line.now }))) (sym (ap (latest (connects_maker m)) a))
    (puts_by env s event did m count line.past line.now f a on enough p q pieces cursor)

-- it ends

shuts : (m : ℕ) (history : List Entry) (e : Entry) → connects_maker m e ≡ Some false → is_connected m (history ++ e ∷ []) ≡ false
shuts m history e h = connected-append m history (e ∷ []) ∙ ap (λ (t : Option Bool). unwrap_or (or_earlier t (latest (connects_maker m) history)) false) h

not_blamed : (history : List Entry) (why : Why) → may_close history why ≡ true → is_bad_frame why ≡ false
not_blamed history PeerEnded h = refl
not_blamed history ReadFault h = refl
not_blamed history WriteFault h = refl
not_blamed history (BadFrame stage cause) h = absurd (cc h)
not_blamed history Stopped h = refl
not_blamed history NoMemory h = refl
not_blamed history Full h = refl

finish_by : (env : Environment) (s : State) (did : Did) (m : ℕ) (why : Why) (past : List Connection) (now : Option Connection) → IsSoundEnvironment env → Fits env s m past now → Does env s (Finish m why) did
    → (is_connected m (s.history ++ did.entries) ≡ false) × Stays m (IsStay env.routing m) [] (past ++ one_or_none (option_map (heard m (Finish m why) did) now)) (s.history ++ did.entries)
finish_by env s did m why past None sound f d = absurd (let off = f.0 in let n = d.enabled in grind arith)
finish_by env s did m why past (Some c) sound w d =
    let go = w.0 in
    let closable : may_close s.history why ≡ true = (let n = d.enabled in grind arith) in
    let blames = subst (λ (o : Option Fault). Blames o why) (sym w.1) (not_blamed s.history why closable) in
    let k : Closes env s m why did.entries = d.appends in
    let e = closed_entry s.time m why (unsent env s m) k.cuts in
    let a : did.entries ≡ e ∷ [] = k.entries_are in
    let mine = subst (λ (l : List (List ℕ)). IsPackets (env.routing.chain m) l k.cuts k.given) go.pieces_are k.before in
    let cuts : k.cuts ≡ go.cuts = (has_one_packets (env.routing.chain m) c.pieces k.cuts go.cuts k.given go.packets (sound.chains m) mine go.packets_are).0 in
    let says : Says m e (Closed why (loss_of go.cuts) 0 (unsent env s m)) = record { maker = refl; what_is = ap (λ (x : List Pieces). Closed why (loss_of x) 0 (unsent env s m)) cuts } in
    let same : heard m (Finish m why) did c ≡ c = heard_nothing m (Finish m why) did c refl (ap (put_for m) d.effect) in
    let stays = going_closes env.routing m s.history (s.pieces m) (s.cursor m) past c go e why blames says in
    let told_stays = subst (λ (x : Connection). Stays m (IsStay env.routing m) [] (past ++ x ∷ []) (s.history ++ e ∷ [])) (sym same) stays in
    let off = shuts m s.history e (says_connects m e (Closed why (loss_of go.cuts) 0 (unsent env s m)) says) in (
      subst (λ (l : List Entry). is_connected m (s.history ++ l) ≡ false) (sym a) off,
      subst (λ (l : List Entry). Stays m (IsStay env.routing m) [] (past ++ heard m (Finish m why) did c ∷ []) (s.history ++ l)) (sym a) told_stays,
    )

finish_mine : (env : Environment) (s : State) (did : Did) (m : ℕ) (why : Why) (line : Line) → IsSoundEnvironment env → FitsLine env s m line → Does env s (Finish m why) did
    → FitsLine env (after s (Finish m why) did) m (told_after m (Finish m why) did line)
finish_mine env s did m why line sound f d =
    let k : Closes env s m why did.entries = d.appends in
    let e = closed_entry s.time m why (unsent env s m) k.cuts in
    let tells : latest (connects_maker m) did.entries ≡ Some false = ap (latest (connects_maker m)) k.entries_are ∙ says_connects m e e.what (record { maker = refl; what_is = refl }) in
    subst (λ (t : Option Bool). FitsLine env (after s (Finish m why) did) m (turned t (record { past = line.past; now = option_map (heard m (Finish m why) did) line.now }))) (sym tells)
    (finish_by env s did m why line.past line.now sound f d)

-- a piece comes

-- the connection has its packets
takes : (env : Environment) (s : State) (did : Did) (m : ℕ) (piece : List ℕ) (past : List Connection) (c : Connection) → IsSoundEnvironment env → (go : Going env.routing m s.history (s.pieces m) (s.cursor m) past c) → fault_of go.cuts ≡ None → Does env s (Piece m piece) did
    → (r : Receives env s m piece did.entries)
    → (more : Going env.routing m (s.history ++ posted_entries env.routing s.history s.time m r.packets) (heard m (Piece m piece) did c).pieces (s.cursor m) past (heard m (Piece m piece) did c)) × (more.cuts ≡ r.cuts)
takes env s did m piece past c sound go well d r =
    let own : List (List ℕ) = if m == m then piece ∷ [] else [] in
    let own_is : own ≡ piece ∷ [] = ap (λ (b : Bool). if b then piece ∷ [] else []) (eq-eqb m m refl) in
    let next : Connection = heard m (Piece m piece) did c in
    let earlier = subst (λ (l : List (List ℕ)). IsPackets (env.routing.chain m) l r.earlier r.given) go.pieces_are r.before in
    let given : r.given ≡ go.packets = (has_one_packets (env.routing.chain m) c.pieces r.earlier go.cuts r.given go.packets (sound.chains m) earlier go.packets_are).1 in
    let pieces : s.pieces m ++ piece ∷ [] ≡ c.pieces ++ own = ap (λ (l : List (List ℕ)). l ++ piece ∷ []) go.pieces_are ∙ ap (λ (l : List (List ℕ)). c.pieces ++ l) (sym own_is) in
    let now = subst (λ (l : List (List ℕ)). IsPackets (env.routing.chain m) l r.cuts (r.given ++ r.packets)) pieces r.after in
    let now' = subst (λ (l : List Output). IsPackets (env.routing.chain m) (c.pieces ++ own) r.cuts (l ++ r.packets)) given now in
    let shown = subst (λ (l : List Entry). Posts m (Shows env.routing m) l (posted_entries env.routing s.history s.time m r.packets) r.packets) (append-nil s.history) (packets_show env.routing s.history s.time m r.packets [] (λ k. refl)) in
    let put : c.put ++ put_for m did.effect ≡ c.put = ap (λ (l : List ℕ). c.put ++ l) (ap (put_for m) d.effect) ∙ append-nil c.put in (
      going_more env.routing m s.history (s.pieces m) (s.cursor m) past c go (posted_entries env.routing s.history s.time m r.packets) r.packets next r.cuts
          (packets_connect m env.routing s.history s.time m r.packets) (packets_open m env.routing s.history s.time m r.packets) shown now'
          (subst (λ (l : List (List ℕ)). NoneLate (env.routing.chain m) (c.pieces ++ l)) (sym own_is) (late_more (env.routing.chain m) c.pieces piece go.cuts go.packets (sound.chains m) go.packets_are well)) put,
      refl,
    )

-- the pieces that the state keeps are those that were told
kept_pieces : (env : Environment) (s : State) (did : Did) (m : ℕ) (piece : List ℕ) (c : Connection) → latest (connects_maker m) did.entries ≡ None → s.pieces m ≡ c.pieces
    → (heard m (Piece m piece) did c).pieces ≡ pieces_after (Piece m piece) did.entries s.pieces m
kept_pieces env s did m piece c none same = ap (λ (l : List (List ℕ)). l ++ pieces_for m (Piece m piece)) (sym same) ∙ sym (pieces_grow m (Piece m piece) did.entries s.pieces none)

piece_goes : (env : Environment) (s : State) (did : Did) (m : ℕ) (piece : List ℕ) (past : List Connection) (now : Option Connection) → IsSoundEnvironment env → Fits env s m past now → Does env s (Piece m piece) did
    → (r : Receives env s m piece did.entries) → fault_of r.cuts ≡ None → did.entries ≡ posted_entries env.routing s.history s.time m r.packets → Fits env (after s (Piece m piece) did) m past (option_map (heard m (Piece m piece) did) now)
piece_goes env s did m piece past None sound f d r e a = absurd (let off = f.0 in let n = d.enabled in grind arith)
piece_goes env s did m piece past (Some c) sound w d r e a =
    let go = w.0 in
    let next = heard m (Piece m piece) did c in
    let none : latest (connects_maker m) did.entries ≡ None = ap (latest (connects_maker m)) a ∙ packets_connect m env.routing s.history s.time m r.packets in
    let t = takes env s did m piece past c sound go w.1 d r in
    let well : GoingWell env.routing m (s.history ++ posted_entries env.routing s.history s.time m r.packets) next.pieces (s.cursor m) past next = (t.0, ap fault_of t.1 ∙ e) in
    let at_history = subst (λ (l : List Entry). GoingWell env.routing m (s.history ++ l) next.pieces (s.cursor m) past next) (sym a) well in
    let at_pieces = subst (λ (l : List (List ℕ)). GoingWell env.routing m (s.history ++ did.entries) l (s.cursor m) past next) (kept_pieces env s did m piece c none go.pieces_are) at_history in
    subst (λ (k : ℕ). GoingWell env.routing m (s.history ++ did.entries) (pieces_after (Piece m piece) did.entries s.pieces m) k past next) (sym (cursor_stays m (Piece m piece) did.entries s.cursor none refl)) at_pieces

piece_ends : (env : Environment) (s : State) (did : Did) (m : ℕ) (piece : List ℕ) (past : List Connection) (now : Option Connection) → IsSoundEnvironment env → Fits env s m past now → Does env s (Piece m piece) did
    → (r : Receives env s m piece did.entries) (why : Why) → Blames (fault_of r.cuts) why → did.entries ≡ posted_entries env.routing s.history s.time m r.packets ++ closed_entry s.time m why (unsent env s m) r.cuts ∷ []
    → (is_connected m (s.history ++ did.entries) ≡ false) × Stays m (IsStay env.routing m) [] (past ++ one_or_none (option_map (heard m (Piece m piece) did) now)) (s.history ++ did.entries)
piece_ends env s did m piece past None sound f d r why b a = absurd (let off = f.0 in let n = d.enabled in grind arith)
piece_ends env s did m piece past (Some c) sound w d r why b a =
    let go = w.0 in
    let packets = posted_entries env.routing s.history s.time m r.packets in
    let next = heard m (Piece m piece) did c in
    let e = closed_entry s.time m why (unsent env s m) r.cuts in
    let t = takes env s did m piece past c sound go w.1 d r in
    let reach = subst (λ (l : List Entry). s.cursor m ≤ length (walk env.routing m l)) (sym (going_since env.routing m s.history (s.pieces m) (s.cursor m) past c go)) go.reach in
    let unsent_is : unsent env s m ≡ unsent_at env.routing m (s.history ++ packets) (s.cursor m) =
    sym (unsent_kept env.routing m s.history packets (s.cursor m) (since-append m s.history packets (packets_open m env.routing s.history s.time m r.packets)) reach (packets_queue env.routing s.history s.time m r.packets)) in
    let says : Says m e (Closed why (loss_of t.0.cuts) 0 (unsent_at env.routing m (s.history ++ packets) (s.cursor m))) =
    record { maker = refl; what_is = ap (λ (k : ℕ). Closed why (loss_of r.cuts) 0 k) unsent_is ∙ ap (λ (x : List Pieces). Closed why (loss_of x) 0 (unsent_at env.routing m (s.history ++ packets) (s.cursor m))) (sym t.1) } in
    let stays = going_closes env.routing m (s.history ++ packets) next.pieces (s.cursor m) past next t.0 e why (subst (λ (x : List Pieces). Blames (fault_of x) why) (sym t.1) b) says in
    let off = shuts m (s.history ++ packets) e (says_connects m e e.what (record { maker = refl; what_is = refl })) in
    let whole : (s.history ++ packets) ++ e ∷ [] ≡ s.history ++ did.entries = append_assoc s.history packets (e ∷ []) ∙ ap (λ (l : List Entry). s.history ++ l) (sym a) in (
      subst (λ (l : List Entry). is_connected m l ≡ false) whole off,
      subst (λ (l : List Entry). Stays m (IsStay env.routing m) [] (past ++ next ∷ []) l) whole stays,
    )

piece_mine : (env : Environment) (s : State) (did : Did) (m : ℕ) (piece : List ℕ) (line : Line) → IsSoundEnvironment env → FitsLine env s m line → Does env s (Piece m piece) did
    → (r : Receives env s m piece did.entries) (fault : Option Fault) → fault_of r.cuts ≡ fault → FitsLine env (after s (Piece m piece) did) m (told_after m (Piece m piece) did line)
piece_mine env s did m piece line sound f d r None e =
    let packets = posted_entries env.routing s.history s.time m r.packets in
    let a : did.entries ≡ packets = r.entries_are ∙ (ap (λ (x : Option Fault). packets ++ closing s.time m (unsent env s m) r.cuts x) e ∙ append-nil packets) in
    let tells : latest (connects_maker m) did.entries ≡ None = ap (latest (connects_maker m)) a ∙ packets_connect m env.routing s.history s.time m r.packets in
    subst (λ (t : Option Bool). FitsLine env (after s (Piece m piece) did) m (turned t (record { past = line.past; now = option_map (heard m (Piece m piece) did) line.now }))) (sym tells)
    (piece_goes env s did m piece line.past line.now sound f d r e a)
piece_mine env s did m piece line sound f d r (Some fault) e =
    let packets = posted_entries env.routing s.history s.time m r.packets in
    let why : Why = BadFrame fault.stage fault.cause in
    let last = closed_entry s.time m why (unsent env s m) r.cuts in
    let a : did.entries ≡ packets ++ last ∷ [] = r.entries_are ∙ ap (λ (x : Option Fault). packets ++ closing s.time m (unsent env s m) r.cuts x) e in
    let tells : latest (connects_maker m) did.entries ≡ Some false =
    ap (latest (connects_maker m)) a ∙ (latest-append (connects_maker m) packets (last ∷ []) ∙ ap (λ (t : Option Bool). or_earlier t (latest (connects_maker m) packets)) (says_connects m last last.what (record { maker = refl; what_is = refl }))) in
    subst (λ (t : Option Bool). FitsLine env (after s (Piece m piece) did) m (turned t (record { past = line.past; now = option_map (heard m (Piece m piece) did) line.now }))) (sym tells)
    (piece_ends env s did m piece line.past line.now sound f d r why (subst (λ (o : Option Fault). Blames o why) (sym e) (inl refl)) a)

-- any event

no_entries : (m : ℕ) (entries : List Entry) → entries ≡ [] → has_own m entries ≡ false
no_entries m entries a = ap (has_own m) a

one_entry : (m : ℕ) (e : Entry) (entries : List Entry) → e.by ≢ m → entries ≡ e ∷ [] → has_own m entries ≡ false
one_entry m e entries n a = ap (has_own m) a ∙ ap (λ (b : Bool). b || false) (not_own m e n)

closing_by : (env : Environment) (s : State) (by : ℕ) (cuts : List Pieces) (fault : Option Fault) (m : ℕ) → by ≢ m → has_own m (closing s.time by (unsent env s by) cuts fault) ≡ false
closing_by env s by cuts None m n = refl
closing_by env s by cuts (Some fault) m n = one_entry m (closed_entry s.time by (BadFrame fault.stage fault.cause) (unsent env s by) cuts) _ n refl

packets_by : (env : Environment) (history : List Entry) (now : Time) (by m : ℕ) (outs : List Output) → by ≢ m → has_own m (posted_entries env.routing history now by outs) ≡ false
packets_by env history now by m [] n = refl
packets_by env history now by m (o ∷ outs) n =
    let head = not_own m (record { by = by; time = time_in o.heading now; what = said_of env.routing history by o }) n in
    let tail = packets_by env history now by m outs n in
    grind arith

piece_by : (env : Environment) (s : State) (did : Did) (by m : ℕ) (piece : List ℕ) → by ≢ m → Receives env s by piece did.entries → has_own m did.entries ≡ false
piece_by env s did by m piece n r =
    ap (has_own m) r.entries_are ∙ any_append m (posted_entries env.routing s.history s.time by r.packets) (closing s.time by (unsent env s by) r.cuts (fault_of r.cuts))
    (packets_by env s.history s.time by m r.packets n) (closing_by env s by r.cuts (fault_of r.cuts) m n)

-- another's number is not the maker's
for_other : {T : Type 0} (by m : ℕ) (inside outside : T) → by ≢ m → (if by == m then inside else outside) ≡ outside
for_other by m inside outside n = ap (λ (b : Bool). if b then inside else outside) (apart by m n)

for_mine : {T : Type 0} (m : ℕ) (inside outside : T) → (if m == m then inside else outside) ≡ inside
for_mine m inside outside = ap (λ (b : Bool). if b then inside else outside) (eq-eqb m m refl)

abbrev Same : ℕ → ℕ → Type 0
Same by m = (((by == m) ≡ true) × (by ≡ m)) ⊎ (((by == m) ≡ false) × (by ≢ m))

opens_any : (env : Environment) (s : State) (did : Did) (by m : ℕ) (line : Line) → IsSoundEnvironment env → FitsLine env s m line → Does env s (Opens by) did → Same by m → FitsLine env (after s (Opens by) did) m (told_after m (Opens by) did line)
opens_any env s did by m line sound f d (inl t) =
    subst (λ (k : ℕ). Does env s (Opens k) did → FitsLine env (after s (Opens k) did) m (told_after m (Opens k) did line)) (sym t.1) (λ d. opens_mine env s did m line sound f d) d
opens_any env s did by m line sound f d (inr t) =
    quiet_event env s (Opens by) did m line f (one_entry m (record { by = by; time = s.time; what = Opened }) did.entries t.1 d.appends) refl (ap (put_for m) d.effect) refl

piece_any : (env : Environment) (s : State) (did : Did) (by m : ℕ) (piece : List ℕ) (line : Line) → IsSoundEnvironment env → FitsLine env s m line → Does env s (Piece by piece) did → Same by m
    → FitsLine env (after s (Piece by piece) did) m (told_after m (Piece by piece) did line)
piece_any env s did by m piece line sound f d (inl t) =
    subst (λ (k : ℕ). Does env s (Piece k piece) did → FitsLine env (after s (Piece k piece) did) m (told_after m (Piece k piece) did line)) (sym t.1)
    (λ d. let r : Receives env s m piece did.entries = d.appends in piece_mine env s did m piece line sound f d r (fault_of r.cuts) refl) d
piece_any env s did by m piece line sound f d (inr t) =
    quiet_event env s (Piece by piece) did m line f (piece_by env s did by m piece t.1 d.appends) (for_other by m (piece ∷ []) [] t.1) (ap (put_for m) d.effect) refl

finish_any : (env : Environment) (s : State) (did : Did) (by m : ℕ) (why : Why) (line : Line) → IsSoundEnvironment env → FitsLine env s m line → Does env s (Finish by why) did → Same by m
    → FitsLine env (after s (Finish by why) did) m (told_after m (Finish by why) did line)
finish_any env s did by m why line sound f d (inl t) =
    subst (λ (k : ℕ). Does env s (Finish k why) did → FitsLine env (after s (Finish k why) did) m (told_after m (Finish k why) did line)) (sym t.1) (λ d. finish_mine env s did m why line sound f d) d
finish_any env s did by m why line sound f d (inr t) =
    let k : Closes env s by why did.entries = d.appends in
    quiet_event env s (Finish by why) did m line f (one_entry m (closed_entry s.time by why (unsent env s by) k.cuts) did.entries t.1 k.entries_are) refl (ap (put_for m) d.effect) refl

write_any : (env : Environment) (s : State) (did : Did) (by m count : ℕ) (line : Line) → FitsLine env s m line → Does env s (Write by count) did → Same by m
    → FitsLine env (after s (Write by count) did) m (told_after m (Write by count) did line)
write_any env s did by m count line f d (inl t) =
    subst (λ (k : ℕ). Does env s (Write k count) did → FitsLine env (after s (Write k count) did) m (told_after m (Write k count) did line)) (sym t.1)
    (λ d. let on : is_connected m s.history ≡ true = (let n = d.enabled in grind arith) in
    let enough : nat_le count (length (ahead env s m)) ≡ true = (let n = d.enabled in grind arith) in
    puts_mine env s (Write m count) did m count line f d.appends on (enough_of count (length (ahead env s m)) enough) refl (ap (put_for m) d.effect ∙ for_mine m (put_next env s m count) []) (for_mine m count 0)) d
write_any env s did by m count line f d (inr t) =
    quiet_event env s (Write by count) did m line f (no_entries m did.entries d.appends) refl (ap (put_for m) d.effect ∙ for_other by m (put_next env s by count) [] t.1) (for_other by m count 0 t.1)

drain_any : (env : Environment) (s : State) (did : Did) (by m count : ℕ) (line : Line) → FitsLine env s m line → Does env s (DrainSlot by count) did → Same by m
    → FitsLine env (after s (DrainSlot by count) did) m (told_after m (DrainSlot by count) did line)
drain_any env s did by m count line f d (inl t) =
    subst (λ (k : ℕ). Does env s (DrainSlot k count) did → FitsLine env (after s (DrainSlot k count) did) m (told_after m (DrainSlot k count) did line)) (sym t.1)
    (λ d. let on : is_connected m s.history ≡ true = (let n = d.enabled in grind arith) in
    let enough : nat_le count (length (ahead env s m)) ≡ true = (let n = d.enabled in grind arith) in
    puts_mine env s (DrainSlot m count) did m count line f d.appends on (enough_of count (length (ahead env s m)) enough) refl (ap (put_for m) d.effect ∙ for_mine m (put_next env s m count) []) (for_mine m count 0)) d
drain_any env s did by m count line f d (inr t) =
    quiet_event env s (DrainSlot by count) did m line f (no_entries m did.entries d.appends) refl (ap (put_for m) d.effect ∙ for_other by m (put_next env s by count) [] t.1) (for_other by m count 0 t.1)

-- a maker that is no line
other_than : (env : Environment) (by m : ℕ) → is_line env by ≡ false → is_line env m ≡ true → by ≢ m
other_than env by m off on e = let same = ap (is_line env) e in cc

moves : (env : Environment) (s : State) (event : Event) (did : Did) (m : ℕ) (line : Line) → IsSoundEnvironment env → IsAnsweredByDesks env → AreApart env → is_line env m ≡ true → FitsLine env s m line → Does env s event did
    → FitsLine env (after s event did) m (told_after m event did line)
moves env s (SetTime time) did m line sound desks sites on f d = quiet_event env s (SetTime time) did m line f (no_entries m did.entries d.appends) refl (ap (put_for m) d.effect) refl
moves env s (Opens by) did m line sound desks sites on f d = opens_any env s did by m line sound f d (eqb_tells by m)
moves env s (Piece by piece) did m line sound desks sites on f d = piece_any env s did by m piece line sound f d (eqb_tells by m)
moves env s (Finish by why) did m line sound desks sites on f d = finish_any env s did by m why line sound f d (eqb_tells by m)
moves env s (Write by count) did m line sound desks sites on f d = write_any env s did by m count line f d (eqb_tells by m)
moves env s (Call desk body) did m line sound desks sites on f d =
    let there : env.is_desk desk ≡ true = (let n = d.enabled in grind arith) in
    let apart = other_than env (first_desk + desk) m (sites.desks desk there) on in
    let none = ap (has_own m) d.appends ∙ none_of m (first_desk + desk) d.answer.entries apart (desks s.history desk s.time body d.answer d.answered) in
    quiet_event env s (Call desk body) did m line f none refl (ap (put_for m) d.effect) refl
moves env s (DrainLog count) did m line sound desks sites on f d = quiet_event env s (DrainLog count) did m line f (no_entries m did.entries d.appends) refl (ap (put_for m) d.effect) refl
moves env s (DrainSlot by count) did m line sound desks sites on f d = drain_any env s did by m count line f d (eqb_tells by m)
moves env s Stop did m line sound desks sites on f d =
    quiet_event env s Stop did m line f (one_entry m (record { by = server; time = s.time; what = StopEntry }) did.entries (other_than env server m sites.server on) d.appends) refl (ap (put_for m) d.effect) refl

-- any run

fits_told : (env : Environment) (s : State) (m : ℕ) (line : Line) (history : List Entry) → history ≡ s.history → FitsLine env s m line → Told env.routing m history line
fits_told env s m line history same f = subst (λ (l : List Entry). Told env.routing m l line) (sym same) (told_by env s m line.past line.now f)

told_none : (m : ℕ) (line : Line) (events : List Event) → told_from m line events [] ≡ line
told_none m line [] = refl
told_none m line (event ∷ events) = refl

run_told : (env : Environment) (s : State) (events : List Event) (dids : List Did) (ending : Ending) (m : ℕ) (line : Line) → IsSoundEnvironment env → IsAnsweredByDesks env → AreApart env → is_line env m ≡ true → FitsLine env s m line → Runs env s events dids ending
    → Told env.routing m (s.history ++ history_of dids) (told_from m line events dids)
run_told env s [] dids ending m line sound desks sites on f h = fits_told env s m line (s.history ++ history_of dids) (ap (λ (l : List Did). s.history ++ history_of l) h.0 ∙ append-nil s.history) f
run_told env s (event ∷ events) dids ending m line sound desks sites on f (inl h) =
    subst (λ (l : List Did). Told env.routing m (s.history ++ history_of l) (told_from m line (event ∷ events) l)) (sym h.0) (fits_told env s m line (s.history ++ []) (append-nil s.history) f)
run_told env s (event ∷ events) dids ending m line sound desks sites on f (inr h) =
    let next = after s event h.0 in
    let more = run_told env next events h.1 ending m (told_after m event h.0 line) sound desks sites on (moves env s event h.0 m line sound desks sites on f h.3) h.4 in
    subst (λ (l : List Did). Told env.routing m (s.history ++ history_of l) (told_from m line (event ∷ events) l)) (sym h.2)
    (subst (λ (l : List Entry). Told env.routing m l (told_from m (told_after m event h.0 line) events h.1)) (append_assoc s.history h.0.entries (history_of h.1)) more)

pub core_is_told : (env : Environment) → IsSoundEnvironment env → IsAnsweredByDesks env → CoreIsTold env
core_is_told env sound desks events dids ending m sites on h = run_told env opening events dids ending m (record { past = []; now = None }) sound desks sites on (refl, refl) h
