-- What the world stands for after each event.
use Rattle.std.proofs.Common.{◌≡◌, ℕ, zero, suc, ◌+◌, ◌<◌, Bool, true, false, ◌&&◌, not, List, [], ◌∷◌, ◌++◌, length, map, filter, Option, Some, None, Ok, Err, refl, sym, ◌∙◌, ap, subst, arith, unwrap_or, append_assoc, ◌⊎◌, inl, inr}
use Rattle.std.specs.Prelude.{◌==◌, ◌≢◌, nat_le, nat_lt, set, slice_index_or, if◌then◌else◌}
use Rattle.std.proofs.lemmas.List.{append-nil, nil_from_length, length-set, get_or-set_same, get_or-set_other, set-set, length-map}
use Rattle.std.proofs.lemmas.Bool.{cases_eq, eq-eqb, ne_eqb}
use Rattle.cts_chain.specs.Builds.{AreFresh, IsFresh, use_specs, writes}
use Rattle.cts_chain.specs.Chains.{AllSettled, StagesStand, framings_of, last_fault, loss_in}
use Rattle.cts_chain.specs.Laws.{AreOf}
use Rattle.cts_chain.specs.Shapes.{ChainData, IsSameChain, writers}
use Rattle.cts_chain.proofs.Settled.{settled_gives_all, renewed_stands}
use Rattle.cts_def.specs.Makers.{first_desk, server}
use Rattle.cts_def.specs.Protocols.{UseData}
use Rattle.cts_def.specs.Sites.{IsSoundSite, SiteData}
use Rattle.cts_def.specs.declared.time.Time.{Time}
use Rattle.cts_entry.specs.declared.entry.Entry.{Entry}
use Rattle.cts_entry.specs.declared.what.What.TheVariants.{Opened, Closed, Stop as StopEntry}
use Rattle.cts_entry.specs.declared.why.Why.{Why}
use Rattle.cts_entry.specs.declared.why.Why.TheVariants.{BadFrame}
use Rattle.cts_entry.specs.declared.event.Event.{Event}
use Rattle.cts_entry.specs.declared.event.Event.TheVariants.{SetTime, Opens, Piece, Finish, Call, Stop}
use Rattle.cts_entry.specs.declared.event.Effect.TheVariants.{Posted, Reply}
use Rattle.cts_entry.specs.Histories.{or_earlier, latest, connects, connects_maker, is_connected, is_stopped, entries_in, bytes_in}
use Rattle.cts_entry.proofs.Appending.{latest-append, connected-append}
use Rattle.cts_framing.specs.Chains.{framings_at, framings_of as framings_in, uses_at}
use Rattle.cts_framing.specs.Framing.{Framing, Output, plain}
use Rattle.cts_framing.specs.Cuts.{Pieces}
use Rattle.cts_framing.specs.Packets.{IsPackets, loss_of, Fault, fault_of}
use Rattle.cts_core.specs.States.{State, is_piece, is_enabled, has_room, takes_memory, takes_room, unsent, may_close, opening}
use Rattle.cts_core.specs.Runs.{Did, Does, silent, Appends, Receives, after, pieces_for, closed_entry, closing}
use Rattle.cts_chain.proofs.Anew.{all_renewed, same_framings}
use Rattle.cts_core.proofs.Chaining.{begins, begins_anew, plain_more}
use Rattle.cts_core.proofs.CursorSteps.{PassesOn, passes, passed_opened, waits, waiting_kept}
use Rattle.cts_core.proofs.Keeping.{pieces_turned, pieces_grow, pieces_stay, cursor_turned}
use Rattle.cts_trace.proofs.Walks.{connected_kept, packets_connect}
use Rattle.cts_core.specs.Environments.{environment_of, site_environment}
use Rattle.cts_api.specs.Points.{point_of}
use Rattle.cts_api.specs.Replies.{IsReply, Reply as Answer, text_of}
use Rattle.cts_core.proofs.Replying.{reply_quiet}
use Rattle.cts_connection.specs.Connections.{HeldConnection, HeldCursor, IsRenewed, connection_at, no_chain, shut, waiting}
use Rattle.cts_connection.specs.Routings.{site_routing, writers_at}
use Rattle.cts_connection.specs.Takings.{TakesPiece, blamed, entries_of}
use Rattle.cts_table.specs.States.{is_within}
use Rattle.cts_table.specs.declared.basis.Basis.{Basis}
use Rattle.cts_core.specs.Takings.{Begins, IsClosed, IsOpened, Posts, Settles, Takes, lost}
use Rattle.cts_core.specs.Worlds.{Held, IsSoundHeld, IsUnmoved, HadRoom, RepresentsWithin, Steps, IsConnection, changed, connection_of, first_held, with_connection}
use Rattle.cts_core.specs.declared.fault.WorldFault.{WorldFault}
use Rattle.cts_core.specs.declared.fault.WorldFault.TheVariants.{NotEnabled as RefusedEvent, Full, Memory}
use Rattle.cts_connection.specs.LinePlaces.{is_line as is_line_of, line_count, line_place}
use Rattle.cts_connection.specs.LineChains.{line_chains}
use Rattle.cts_connection.proofs.Supplying.{chains_count, line_chain}
use Rattle.cts_connection.proofs.Placing.{lines_have_places}
use Rattle.cts_core.specs.Cursors.{IsPassed}
use Rattle.cts_core.proofs.Building.{and_tells, below, place_shown, shown_other}
use Rattle.cts_core.proofs.Holding.{none_stands}
use Rattle.cts_core.proofs.Postings.{tells_maker, tells_no_other, entries_grow, bytes_grow}

and_same : (a b c : Bool) → (a ≡ true → b ≡ c) → (a && b) ≡ (a && c)
and_same true b c h = h refl
and_same false b c h = refl

-- ---- an event that is not done

stays : (base : Basis) (w new : Held) (s : State) → new ≡ w → RepresentsWithin base w s → RepresentsWithin base new s
stays base w new s same h = subst (λ (x : Held). RepresentsWithin base x s) (sym same) h

-- nothing is changed, so what the hall shows is not
pub unmoved : (w new : Held) → new ≡ w → IsUnmoved w new
unmoved w new same = record { history = ap (λ (x : Held). x.history) same; time = ap (λ (x : Held). x.time) same; basis = ap (λ (x : Held). x.basis) same }

pub not_enabled : (base : Basis) (w new : Held) (s : State) (event : Event) (test : Bool) → test ≡ is_enabled (environment_of base) s event → test ≡ false → new ≡ w → RepresentsWithin base w s → Steps base s event w (Err RefusedEvent) new
not_enabled base w new s event test same off kept h = (sym same ∙ off, kept, stays base w new s kept h)

pub wants_memory : (base : Basis) (w new : Held) (s : State) (event : Event) → IsUnmoved w new → is_enabled (environment_of base) s event ≡ true → takes_memory event ≡ true → HadRoom base s event → Steps base s event w (Err Memory) new
wants_memory base w new s event kept on takes room = (kept, record { enabled = on; takes = takes; room = room })

-- what is left of the limits is what the definition says
room_is : (base : Basis) (w : Held) (s : State) (entries : List Entry) (n m : ℕ) → entries_in entries ≡ n → bytes_in entries ≡ m → RepresentsWithin base w s → is_within w.basis w.history n m ≡ has_room (environment_of base) s entries
room_is base w s entries n m e b h =
    let count : entries_in w.history + n ≡ entries_in (s.history ++ entries) = omega (arith, ap entries_in h.history, entries_grow s.history entries n e) in
    let size : bytes_in w.history + m ≡ bytes_in (s.history ++ entries) = omega (arith, ap bytes_in h.history, bytes_grow s.history entries m b) in
    ap (λ (k : Basis). is_within k w.history n m) h.basis
    ∙ (ap (λ (k : ℕ). nat_le k base.entries && nat_le (bytes_in w.history + m) base.bytes) count ∙ ap (λ (k : ℕ). nat_le (entries_in (s.history ++ entries)) base.entries && nat_le k base.bytes) size)

finds_full : (base : Basis) (w new : Held) (s : State) (event : Event) (entries : List Entry) (n m counted size : ℕ) → is_enabled (environment_of base) s event ≡ true → takes_room event ≡ true → Appends (environment_of base) s event silent entries
    → entries_in entries ≡ n → bytes_in entries ≡ m → is_within w.basis w.history n m ≡ false → counted ≡ entries_in w.history → size ≡ bytes_in w.history → IsUnmoved w new → RepresentsWithin base w s → Steps base s event w (Err (Full counted size)) new
finds_full base w new s event entries n m counted size t takes appends e b full c k kept h =
    ((t, takes, (entries, appends, sym (room_is base w s entries n m e b h) ∙ full)), c ∙ ap entries_in h.history, k ∙ ap bytes_in h.history, kept)

-- ---- which events are enabled

pub may_open_is : (base : Basis) (w : Held) (s : State) (by : ℕ) → RepresentsWithin base w s
    → (is_line_of w.basis.site by && (not (connection_of w by).connected && not (is_stopped w.history))) ≡ is_enabled (environment_of base) s (Opens by)
may_open_is base w s by h =
    ap (λ (b : Basis). is_line_of b.site by && (not (connection_of w by).connected && not (is_stopped w.history))) h.basis
    ∙ and_same (is_line_of base.site by) (not (connection_of w by).connected && not (is_stopped w.history)) (not (is_connected by s.history) && not (is_stopped s.history)) (λ line.
    ap (λ (c : Bool). not c && not (is_stopped w.history)) (h.connections by line).connected ∙ ap (λ (l : List Entry). not (is_connected by s.history) && not (is_stopped l)) h.history)

pub may_finish_is : (base : Basis) (w : Held) (s : State) (by : ℕ) (why : Why) → RepresentsWithin base w s
    → (is_line_of w.basis.site by && ((connection_of w by).connected && may_close w.history why)) ≡ is_enabled (environment_of base) s (Finish by why)
may_finish_is base w s by why h =
    ap (λ (b : Basis). is_line_of b.site by && ((connection_of w by).connected && may_close w.history why)) h.basis
    ∙ and_same (is_line_of base.site by) ((connection_of w by).connected && may_close w.history why) (is_connected by s.history && may_close s.history why) (λ line.
    ap (λ (c : Bool). c && may_close w.history why) (h.connections by line).connected ∙ ap (λ (l : List Entry). is_connected by s.history && may_close l why) h.history)

pub may_receive_is : (base : Basis) (w : Held) (s : State) (by : ℕ) (piece : List ℕ) → RepresentsWithin base w s
    → (is_line_of w.basis.site by && ((connection_of w by).connected && is_piece piece)) ≡ is_enabled (environment_of base) s (Piece by piece)
may_receive_is base w s by piece h =
    ap (λ (b : Basis). is_line_of b.site by && ((connection_of w by).connected && is_piece piece)) h.basis
    ∙ and_same (is_line_of base.site by) ((connection_of w by).connected && is_piece piece) (is_connected by s.history && is_piece piece) (λ line. ap (λ (c : Bool). c && is_piece piece) (h.connections by line).connected)

-- ---- the connections after an event

-- a connection stands as before where neither the history nor the pieces say more of it
pub connection_kept : (site : SiteData) (s t : State) (k : ℕ) (c : HeldConnection) → is_connected k t.history ≡ is_connected k s.history → t.pieces k ≡ s.pieces k → PassesOn site s t k → IsConnection site s k c → IsConnection site t k c
connection_kept site s t k c e p on h = record {
  connected = h.connected ∙ sym e;
  framings = h.framings;
  writing = h.writing;
  packets = h.packets;
  stands = subst (λ (pieces : List (List ℕ)). StagesStand c.chain.stages (map plain pieces) h.packets) (sym p) h.stands;
  settled = h.settled;
  unfailed = h.unfailed;
  passed = λ stands. on c.cursor.place c.cursor.refused (h.passed (sym e ∙ stands));
}

-- one connection is changed to this one, and each other stands as before
module _ (base : Basis) (w : Held) (s t : State) (by : ℕ) (connection : HeldConnection) (sound : IsSoundSite base.site) (h : RepresentsWithin base w s) (line : is_line_of base.site by ≡ true) (mine : IsConnection base.site t by connection) where
  connection_set : (k : ℕ) → (k ≢ by → is_connected k t.history ≡ is_connected k s.history) → (k ≢ by → t.pieces k ≡ s.pieces k) → (k ≢ by → PassesOn base.site s t k) → is_line_of base.site k ≡ true → ((k ≡ by) ⊎ (k ≢ by))
      → IsConnection base.site t k (connection_of (with_connection by w connection) k)
  connection_set k c p on one (inl same) =
      subst (λ (j : ℕ). IsConnection base.site t j (connection_of (with_connection by w connection) j)) (sym same)
      (subst (λ (x : HeldConnection). IsConnection base.site t by x) (sym (get_or-set_same w.connections (line_place w.basis.site by) connection (shut no_chain) (place_shown base w s sound h by line))) mine)
  connection_set k c p on one (inr other) =
      connection_kept base.site s t k (connection_of (with_connection by w connection) k) (c other) (p other) (on other)
      (subst (λ (x : HeldConnection). IsConnection base.site s k x) (sym (get_or-set_other w.connections (line_place w.basis.site by) (line_place w.basis.site k) connection (shut no_chain) (shown_other base w s sound h k by one line other))) (h.connections k one))

  pub connections_set : ((k : ℕ) → k ≢ by → is_connected k t.history ≡ is_connected k s.history) → ((k : ℕ) → k ≢ by → t.pieces k ≡ s.pieces k) → ((k : ℕ) → k ≢ by → PassesOn base.site s t k)
      → (k : ℕ) → is_line_of base.site k ≡ true → IsConnection base.site t k (connection_of (with_connection by w connection) k)
  connections_set c p on k one = connection_set k (c k) (p k) (on k) one (cases_eq k by)

pub set_count : (connections : List HeldConnection) (n by : ℕ) (connection : HeldConnection) → length connections ≡ n → length (set connections by connection) ≡ n
set_count connections n by connection e = length-set connections by connection ∙ e

-- ---- no connection stands

-- the chain of an interface to which nothing was fed
fresh_at : (site : SiteData) (chains : List (List UseData)) (cs : List ChainData) (by : ℕ) → AreFresh chains cs → by < length cs → IsFresh (slice_index_or chains by []) (connection_at (map shut cs) by).chain
fresh_at site [] [] by f m = absurd (omega (arith, m))
fresh_at site [] (c ∷ cs) by f m = absurd f
fresh_at site (uses ∷ chains) [] by f m = absurd f
fresh_at site (uses ∷ chains) (c ∷ cs) zero f m = f.0
fresh_at site (uses ∷ chains) (c ∷ cs) (suc by) f m = fresh_at site chains cs by f.1 (omega (arith, m))

pub fresh_count : (chains : List (List UseData)) (cs : List ChainData) → AreFresh chains cs → length cs ≡ length chains
fresh_count [] [] f = refl
fresh_count [] (c ∷ cs) f = absurd f
fresh_count (uses ∷ chains) [] f = absurd f
fresh_count (uses ∷ chains) (c ∷ cs) f = ap suc (fresh_count chains cs f.1)

first_connection : (site : SiteData) (cs : List ChainData) (by : ℕ) → IsSoundSite site → AreFresh (line_chains site) cs → is_line_of site by ≡ true → IsConnection site opening by (connection_at (map shut cs) (line_place site by))
first_connection site cs by sound f line =
    let place = line_place site by in
    let at : place < length cs = omega (arith, lines_have_places site by sound line, fresh_count (line_chains site) cs f, chains_count site) in
    let fresh = fresh_at site (line_chains site) cs place f at in
    let uses : slice_index_or (line_chains site) place [] ≡ uses_at site by = line_chain site by sound line in
    begins site opening by (connection_at (map shut cs) place) (none_stands cs place) (fresh.framings ∙ ap framings_in uses) (fresh.writing ∙ ap (λ (us : List UseData). use_specs (filter writes us)) uses) refl fresh.idle.drained fresh.stands (λ stands. absurd (cc stands))

pub stands_first : (base : Basis) (w : Held) (cs : List ChainData) → IsSoundSite base.site → AreFresh (line_chains base.site) cs → w ≡ first_held base.site base.entries base.bytes cs → RepresentsWithin base w opening
stands_first base w cs sound f e = subst (λ (x : Held). RepresentsWithin base x opening) (sym e) (record {
  history = refl;
  time = refl;
  basis = refl;
  count = length-map cs shut ∙ (fresh_count (line_chains base.site) cs f ∙ chains_count base.site);
  connections = λ by line. first_connection base.site cs by sound f line;
})

-- ---- the clock and the Stop

pub time_set : (base : Basis) (w : Held) (s : State) (time : Time) → time.micros < 1000000 → RepresentsWithin base w s
    → (did : Did) × Does (environment_of base) s (SetTime time) did × (Posted ≡ did.effect) × RepresentsWithin base (record w { time = time }) (after s (SetTime time) did)
time_set base w s time m h =
    let did : Did = record { entries = []; effect = Posted } in
    let all : s.history ≡ s.history ++ [] = sym (append-nil s.history) in (
      did,
      record { enabled = below time.micros 1000000 m; answer = silent; answered = refl; appends = refl; room = λ takes. absurd (cc takes); effect = refl },
      refl,
      record {
        history = h.history ∙ all;
        time = refl;
        basis = h.basis;
        count = h.count;
        connections = λ k m. connection_kept base.site s (after s (SetTime time) did) k (connection_of w k) (ap (is_connected k) (sym all)) (pieces_stay k (SetTime time) [] s.pieces refl refl) (passes base.site s (SetTime time) did k refl refl) (h.connections k m);
      },
    )

stop_tells_none : (k : ℕ) (b : Bool) → (if b then connects StopEntry else None) ≡ None
stop_tells_none k true = refl
stop_tells_none k false = refl

pub stopped : (base : Basis) (w new : Held) (s : State) → is_stopped w.history ≡ false → new ≡ record w { history = w.history ++ record { by = server; time = w.time; what = StopEntry } ∷ [] } → RepresentsWithin base w s
    → (did : Did) × Does (environment_of base) s Stop did × (Posted ≡ did.effect) × RepresentsWithin base new (after s Stop did)
stopped base w new s off n h =
    let entry : Entry = record { by = server; time = s.time; what = StopEntry } in
    let did : Did = record { entries = entry ∷ []; effect = Posted } in
    let whole : RepresentsWithin base (record w { history = w.history ++ record { by = server; time = w.time; what = StopEntry } ∷ [] }) (after s Stop did) = record {
      history = ap (λ (l : List Entry). l ++ record { by = server; time = w.time; what = StopEntry } ∷ []) h.history ∙ ap (λ (now : Time). s.history ++ record { by = server; time = now; what = StopEntry } ∷ []) h.time;
      time = h.time;
      basis = h.basis;
      count = h.count;
      connections = λ k m. connection_kept base.site s (after s Stop did) k (connection_of w k) (connected_kept k s.history (entry ∷ []) (stop_tells_none k (31 == k))) (pieces_stay k Stop (entry ∷ []) s.pieces (stop_tells_none k (31 == k)) refl) (passes base.site s Stop did k (stop_tells_none k (31 == k)) refl) (h.connections k m);
    } in (
      did,
      record {
        enabled = ap not (ap is_stopped (sym h.history) ∙ off);
        answer = silent;
        answered = refl;
        appends = refl;
        room = λ takes. absurd (cc takes);
        effect = refl;
      },
      refl,
      subst (λ (x : Held). RepresentsWithin base x (after s Stop did)) (sym n) whole,
    )

-- ---- one entry of a maker

-- it leaves each other maker connected or not
others_kept : (by : ℕ) (s : State) (entry : Entry) → entry.by ≡ by → (k : ℕ) → k ≢ by → is_connected k (s.history ++ entry ∷ []) ≡ is_connected k s.history
others_kept by s entry e k other = connected_kept k s.history (entry ∷ []) (tells_no_other k entry (λ same. other (same ∙ e)))

-- and says whether its own maker is connected
maker_told : (by : ℕ) (s : State) (entry : Entry) (on : Bool) → entry.by ≡ by → connects entry.what ≡ Some on → on ≡ is_connected by (s.history ++ entry ∷ [])
maker_told by s entry on e t = sym (connected-append by s.history (entry ∷ []) ∙ ap (λ (o : Option Bool). unwrap_or (or_earlier o (latest (connects_maker by) s.history)) false) (tells_maker by entry e ∙ t))

pub opens : (base : Basis) (w new : Held) (s : State) (by : ℕ) → IsSoundSite base.site → IsOpened by w new → is_enabled (environment_of base) s (Opens by) ≡ true → is_within w.basis w.history 1 0 ≡ true → RepresentsWithin base w s
    → (did : Did) × Does (environment_of base) s (Opens by) did × (Posted ≡ did.effect) × RepresentsWithin base new (after s (Opens by) did)
opens base w new s by sound n t fits h =
    let line = (and_tells (is_line_of base.site by) _ t).0 in
    let entry : Entry = record { by = by; time = s.time; what = Opened } in
    let did : Did = record { entries = entry ∷ []; effect = Posted } in
    let moved : State = after s (Opens by) did in
    let same : w.history ++ record { by = by; time = w.time; what = Opened } ∷ [] ≡ moved.history =
    ap (λ (l : List Entry). l ++ record { by = by; time = w.time; what = Opened } ∷ []) h.history ∙ ap (λ (now : Time). s.history ++ record { by = by; time = now; what = Opened } ∷ []) h.time in
    let mine : IsConnection base.site moved by n.0 =
    begins_anew base.site s moved by true (connection_of w by) n.0 n.1 (h.connections by line) (maker_told by s entry true refl refl) (pieces_turned by (Opens by) (entry ∷ []) s.pieces true (tells_maker by entry refl))
    (λ stands. passed_opened base.site moved by s.history entry n.0.cursor refl refl refl (cursor_turned by (Opens by) (entry ∷ []) s.cursor true (tells_maker by entry refl))
    (n.2 ∙ ap (λ (l : List Entry). record { place = length l; refused = 0 }) (ap (λ (x : Held). x.history) n.3 ∙ same))) in
    let whole : RepresentsWithin base (changed by w (record { by = by; time = w.time; what = Opened } ∷ []) n.0) moved = record {
      history = same;
      time = h.time;
      basis = h.basis;
      count = set_count w.connections (line_count base.site) (line_place w.basis.site by) n.0 h.count;
      connections = connections_set base w s moved by n.0 sound h line mine (others_kept by s entry refl) (λ k other. pieces_stay k (Opens by) (entry ∷ []) s.pieces (tells_no_other k entry other) refl) (λ k other. passes base.site s (Opens by) did k (tells_no_other k entry other) refl);
    } in (
      did,
      record {
        enabled = t;
        answer = silent;
        answered = refl;
        appends = refl;
        room = λ takes. sym (room_is base w s (entry ∷ []) 1 0 refl refl h) ∙ fits;
        effect = refl;
      },
      refl,
      subst (λ (x : Held). RepresentsWithin base x moved) (sym n.3) whole,
    )

-- there is no room for an Opened, or no memory for it
pub open_refused : (base : Basis) (w new : Held) (s : State) (by : ℕ) (fault : WorldFault) → is_enabled (environment_of base) s (Opens by) ≡ true → Begins by w (Err fault) new → RepresentsWithin base w s → Steps base s (Opens by) w (Err fault) new
open_refused base w new s by RefusedEvent t g h = absurd g
open_refused base w new s by (Full counted size) t g h = finds_full base w new s (Opens by) (record { by = by; time = s.time; what = Opened } ∷ []) 1 0 counted size t refl refl refl refl g.0 g.1 g.2 (unmoved w new g.3) h
open_refused base w new s by Memory t g h =
    let entry : Entry = record { by = by; time = s.time; what = Opened } in
    wants_memory base w new s (Opens by) (unmoved w new g.1) t refl (λ entries is. ap (has_room (environment_of base) s) is ∙ (sym (room_is base w s (entry ∷ []) 1 0 refl refl h) ∙ g.0))

-- ---- a connection ends

-- the packets of an interface's chain
given_by : (site : SiteData) (s : State) (by : ℕ) (c : HeldConnection) → (h : IsConnection site s by c) → AreOf c.chain.stages (s.pieces by) h.packets
given_by site s by c h = settled_gives_all c.chain.stages (s.pieces by) h.packets h.settled h.stands

closed_entry_is : (site : SiteData) (by : ℕ) (before now : Time) (history : List Entry) (why : Why) (c : HeldConnection) (n : ℕ) (cuts : List Pieces) → before ≡ now → loss_in c.chain.stages ≡ loss_of cuts → waiting site by history c.cursor ≡ n → lost site by before history c why ≡ closed_entry now by why n cuts
closed_entry_is site by before now history why c n cuts t l u = λ i. record { by = by; time = t i; what = Closed why (l i) 0 (u i) }

-- a connection that does not stand needs to have passed nothing
none_passed : {P : Type 0} (off : Bool) → off ≡ false → off ≡ true → P
none_passed true h k = absurd (cc h)
none_passed false h k = absurd (cc k)

pub finished : (base : Basis) (w new : Held) (s : State) (by : ℕ) (why : Why) → IsSoundSite base.site → IsClosed by w why new → is_enabled (environment_of base) s (Finish by why) ≡ true → RepresentsWithin base w s
    → (did : Did) × Does (environment_of base) s (Finish by why) did × (Posted ≡ did.effect) × RepresentsWithin base new (after s (Finish by why) did)
finished base w new s by why sound n t h =
    let parts = and_tells (is_line_of base.site by) _ t in
    let line = parts.0 in
    let on : is_connected by s.history ≡ true = (and_tells (is_connected by s.history) (may_close s.history why) parts.1).0 in
    let old = connection_of w by in
    let mine = h.connections by line in
    let all = given_by base.site s by old mine in
    let left = unsent (environment_of base) s by in
    let entry = closed_entry s.time by why left all.cuts in
    let did : Did = record { entries = entry ∷ []; effect = Posted } in
    let moved : State = after s (Finish by why) did in
    let told : false ≡ is_connected by moved.history = maker_told by s entry false refl refl in
    let waits_is : waiting w.basis.site by w.history old.cursor ≡ left = ap (λ (b : Basis). waiting b.site by w.history old.cursor) h.basis ∙ (ap (λ (l : List Entry). waiting base.site by l old.cursor) h.history ∙ sym (waits base.site s by old.cursor (mine.passed on))) in
    let whole : RepresentsWithin base (changed by w (lost w.basis.site by w.time w.history old why ∷ []) n.0) moved = record {
      history = ap (λ (l : List Entry). l ++ lost w.basis.site by w.time w.history old why ∷ []) h.history ∙ ap (λ (x : Entry). s.history ++ x ∷ []) (closed_entry_is w.basis.site by w.time s.time w.history why old left all.cuts h.time all.loss_is waits_is);
      time = h.time;
      basis = h.basis;
      count = set_count w.connections (line_count base.site) (line_place w.basis.site by) n.0 h.count;
      connections = connections_set base w s moved by n.0 sound h line
          (begins_anew base.site s moved by false old n.0 n.1 mine told (pieces_turned by (Finish by why) (entry ∷ []) s.pieces false (tells_maker by entry refl)) (λ stands. none_passed (is_connected by moved.history) (sym told) stands))
          (others_kept by s entry refl) (λ k other. pieces_stay k (Finish by why) (entry ∷ []) s.pieces (tells_no_other k entry other) refl) (λ k other. passes base.site s (Finish by why) did k (tells_no_other k entry other) refl);
    } in (
      did,
      record {
        enabled = t;
        answer = silent;
        answered = refl;
        appends = record {
          cuts = all.cuts;
          given = mine.packets;
          before = subst (λ (chain : List Framing). IsPackets chain (s.pieces by) all.cuts mine.packets) mine.framings all.packets_are;
          entries_are = refl;
        };
        room = λ takes. absurd (cc takes);
        effect = refl;
      },
      refl,
      subst (λ (x : Held). RepresentsWithin base x moved) (sym n.2) whole,
    )

-- ---- What a piece brings

-- a chain was fed a piece, and each packet that it gave has its entry
record TakesWhole (site : SiteData) (history : List Entry) (by : ℕ) (now : Time) (old : ChainData) (piece : List ℕ) (entries : List Entry) (why : Option Why) (new : ChainData) : Type 0 where
  packets : List Output
  stands : (ins given : List Output) → StagesStand old.stages ins given → StagesStand new.stages (ins ++ plain piece ∷ []) (given ++ packets)
  settled : AllSettled new.stages
  same : IsSameChain old new
  entries_are : entries ≡ entries_of site history by now packets
  why_is : why ≡ blamed (last_fault 1 new.stages)

whole_of : (site : SiteData) (history : List Entry) (by : ℕ) (now : Time) (old : ChainData) (piece : List ℕ) (entries : List Entry) (unposted : ℕ) (why : Option Why) (new : ChainData) → unposted ≡ 0 → TakesPiece site history by now old piece entries unposted why new → TakesWhole site history by now old piece entries why new
whole_of site history by now old piece entries unposted why new all t =
    let none : t.lost ≡ [] = nil_from_length t.lost (omega (arith, t.count, all)) in
    let given_are : t.packets ++ t.lost ≡ t.packets = ap (λ (l : List Output). t.packets ++ l) none ∙ append-nil t.packets in
    record {
      packets = t.packets;
      stands = λ ins given h. subst (λ (l : List Output). StagesStand new.stages (ins ++ plain piece ∷ []) (given ++ l)) given_are (t.stands ins given h);
      settled = t.settled;
      same = t.same;
      entries_are = t.entries_are;
      why_is = t.why_is;
    }

-- what is known where a chain was fed a piece and gave all its packets
record IsFed (site : SiteData) (w : Held) (s : State) (by : ℕ) (piece : List ℕ) (entries : List Entry) (why : Option Why) (c : HeldConnection) : Type 0 where
  rules : IsSoundSite site
  line : is_line_of site by ≡ true
  before : IsConnection site s by (connection_of w by)
  on : is_connected by s.history ≡ true
  flag : c.connected ≡ (connection_of w by).connected
  cursor : c.cursor ≡ (connection_of w by).cursor
  taken : TakesWhole site w.history by w.time (connection_of w by).chain piece entries why c.chain
  framings : framings_of c.chain.stages ≡ framings_at site by
  writing : writers c.chain ≡ writers_at site by
  stands : StagesStand c.chain.stages (map plain (s.pieces by ++ piece ∷ [])) (before.packets ++ taken.packets)
  all : AreOf c.chain.stages (s.pieces by ++ piece ∷ []) (before.packets ++ taken.packets)

is_fed : (base : Basis) (w mid : Held) (s : State) (by : ℕ) (piece : List ℕ) (entries : List Entry) (unposted : ℕ) (why : Option Why) → IsSoundSite base.site → is_enabled (environment_of base) s (Piece by piece) ≡ true → RepresentsWithin base w s → unposted ≡ 0
    → (k : Takes by w piece entries unposted why mid) → IsFed base.site w s by piece entries why k.0
is_fed base w mid s by piece entries unposted why sound t h all k =
    let parts = and_tells (is_line_of base.site by) _ t in
    let before = h.connections by parts.0 in
    let old = (connection_of w by).chain in
    let taken : TakesWhole base.site w.history by w.time old piece entries why k.0.chain =
    whole_of base.site w.history by w.time old piece entries unposted why k.0.chain all (subst (λ (b : Basis). TakesPiece b.site w.history by w.time old piece entries unposted why k.0.chain) h.basis k.3) in
    let stands = subst (λ (ins : List Output). StagesStand k.0.chain.stages ins (before.packets ++ taken.packets)) (plain_more (s.pieces by) piece) (taken.stands (map plain (s.pieces by)) before.packets before.stands) in
    record {
      rules = sound;
      line = parts.0;
      before = before;
      on = (and_tells (is_connected by s.history) (is_piece piece) parts.1).0;
      flag = k.1;
      cursor = k.2;
      taken = taken;
      framings = same_framings (connection_of w by).chain k.0.chain taken.same ∙ before.framings;
      writing = taken.same.writers ∙ before.writing;
      stands = stands;
      all = settled_gives_all k.0.chain.stages (s.pieces by ++ piece ∷ []) (before.packets ++ taken.packets) taken.settled stands;
    }

-- what stands after the packets of a piece
tail_of : ℕ → Time → ℕ → List Pieces → Option Fault → List Entry
tail_of by now n cuts fault = closing now by n cuts fault

tail_counts : (by : ℕ) (now : Time) (n : ℕ) (cuts : List Pieces) (fault : Option Fault) → entries_in (tail_of by now n cuts fault) ≡ 0
unfolding tail_of
tail_counts by now n cuts None = refl
tail_counts by now n cuts (Some f) = refl

tail_weighs : (by : ℕ) (now : Time) (n : ℕ) (cuts : List Pieces) (fault : Option Fault) → bytes_in (tail_of by now n cuts fault) ≡ 0
unfolding tail_of
tail_weighs by now n cuts None = refl
tail_weighs by now n cuts (Some f) = refl

-- the entries of a piece
posts : SiteData → List Entry → ℕ → Time → ℕ → List Output → List Pieces → Option Fault → List Entry
posts site history by now n packets cuts fault = entries_of site history by now packets ++ tail_of by now n cuts fault

posts_received : (base : Basis) (w : Held) (s : State) (by : ℕ) (piece : List ℕ) (entries : List Entry) (why : Option Why) (c : HeldConnection) → RepresentsWithin base w s → (k : IsFed base.site w s by piece entries why c)
    → Receives (environment_of base) s by piece (posts base.site s.history by s.time (unsent (environment_of base) s by) k.taken.packets k.all.cuts (fault_of k.all.cuts))
unfolding posts tail_of
posts_received base w s by piece entries why c h k =
    let old = connection_of w by in
    let first = given_by base.site s by old k.before in
    let packets = k.taken.packets in
    record {
      earlier = first.cuts;
      given = k.before.packets;
      before = subst (λ (chain : List Framing). IsPackets chain (s.pieces by) first.cuts k.before.packets) k.before.framings first.packets_are;
      cuts = k.all.cuts;
      packets = packets;
      after = subst (λ (chain : List Framing). IsPackets chain (s.pieces by ++ piece ∷ []) k.all.cuts (k.before.packets ++ packets)) k.framings k.all.packets_are;
      entries_are = refl;
    }

-- they are the entries that were taken, and what stands after them counts nothing
entries_at : (base : Basis) (w : Held) (s : State) (by : ℕ) (packets : List Output) (entries : List Entry) → entries ≡ entries_of base.site w.history by w.time packets → RepresentsWithin base w s → entries ≡ entries_of base.site s.history by s.time packets
entries_at base w s by packets entries e h = e ∙ (ap (λ (now : Time). entries_of base.site w.history by now packets) h.time ∙ ap (λ (l : List Entry). entries_of base.site l by s.time packets) h.history)

posts_count : (site : SiteData) (history : List Entry) (by : ℕ) (now : Time) (n : ℕ) (packets : List Output) (cuts : List Pieces) (fault : Option Fault) (entries : List Entry) → entries ≡ entries_of site history by now packets → entries_in (posts site history by now n packets cuts fault) ≡ entries_in entries
unfolding posts
posts_count site history by now n packets cuts fault entries e = omega (arith, entries_grow (entries_of site history by now packets) (tail_of by now n cuts fault) 0 (tail_counts by now n cuts fault), ap entries_in e)

posts_size : (site : SiteData) (history : List Entry) (by : ℕ) (now : Time) (n : ℕ) (packets : List Output) (cuts : List Pieces) (fault : Option Fault) (entries : List Entry) → entries ≡ entries_of site history by now packets → bytes_in (posts site history by now n packets cuts fault) ≡ bytes_in entries
unfolding posts
posts_size site history by now n packets cuts fault entries e = omega (arith, bytes_grow (entries_of site history by now packets) (tail_of by now n cuts fault) 0 (tail_weighs by now n cuts fault), ap bytes_in e)

-- a piece is its own maker's

piece_of_maker : (by : ℕ) (piece : List ℕ) → pieces_for by (Piece by piece) ≡ piece ∷ []
piece_of_maker by piece = ap (λ (b : Bool). if b then piece ∷ [] else []) (eq-eqb by by refl)

piece_of_other : (k by : ℕ) (piece : List ℕ) → k ≢ by → pieces_for k (Piece by piece) ≡ []
piece_of_other k by piece other = ap (λ (b : Bool). if b then piece ∷ [] else []) (ne_eqb by k (λ same. other (sym same)))

or_none : (o : Option Bool) → or_earlier o None ≡ o
or_none (Some b) = refl
or_none None = refl

-- packets, and an entry after them
packets_then : (site : SiteData) (history : List Entry) (k by : ℕ) (now : Time) (packets : List Output) (e : Entry) → latest (connects_maker k) (entries_of site history by now packets ++ e ∷ []) ≡ connects_maker k e
packets_then site history k by now packets e =
    latest-append (connects_maker k) (entries_of site history by now packets) (e ∷ [])
    ∙ (ap (λ (o : Option Bool). or_earlier (connects_maker k e) o) (packets_connect k (site_routing site) history now by packets) ∙ or_none (connects_maker k e))

-- the connection has passed what it had passed before the piece
passed_same : (site : SiteData) (w : Held) (s : State) (by : ℕ) (piece : List ℕ) (entries : List Entry) (why : Option Why) (c : HeldConnection) → IsFed site w s by piece entries why c → IsPassed (site_environment site) s by c.cursor.place c.cursor.refused
passed_same site w s by piece entries why c k = subst (λ (x : HeldCursor). IsPassed (site_environment site) s by x.place x.refused) (sym k.cursor) (k.before.passed k.on)

-- the packets are in the history, and no stage has failed
stands_whole : (base : Basis) (w : Held) (s : State) (by : ℕ) (piece : List ℕ) (entries : List Entry) (why : Option Why) (c : HeldConnection) → RepresentsWithin base w s → (k : IsFed base.site w s by piece entries why c)
    → (did : Did) → did.entries ≡ entries → fault_of k.all.cuts ≡ None → RepresentsWithin base (changed by w entries c) (after s (Piece by piece) did)
stands_whole base w s by piece entries why c h k did d e =
    let moved : State = after s (Piece by piece) did in
    let packets = k.taken.packets in
    let mine_are = entries_at base w s by packets entries k.taken.entries_are h in
    let none : (j : ℕ) → latest (connects_maker j) did.entries ≡ None = λ j. ap (latest (connects_maker j)) (d ∙ mine_are) ∙ packets_connect j (site_routing base.site) s.history s.time by packets in
    let kept : (j : ℕ) → is_connected j (s.history ++ did.entries) ≡ is_connected j s.history = λ j. connected_kept j s.history did.entries (none j) in
    let mine : IsConnection base.site moved by c = record {
      connected = k.flag ∙ (k.before.connected ∙ sym (kept by));
      framings = k.framings;
      writing = k.writing;
      packets = k.before.packets ++ packets;
      stands = subst (λ (pieces : List (List ℕ)). StagesStand c.chain.stages (map plain pieces) (k.before.packets ++ packets)) (sym (pieces_grow by (Piece by piece) did.entries s.pieces (none by) ∙ ap (λ (l : List (List ℕ)). s.pieces by ++ l) (piece_of_maker by piece))) k.stands;
      settled = k.taken.settled;
      unfailed = k.all.fault_is ∙ e;
      passed = λ stands. passes base.site s (Piece by piece) did by (none by) refl c.cursor.place c.cursor.refused (passed_same base.site w s by piece entries why c k);
    } in
    record {
      history = ap (λ (l : List Entry). l ++ entries) h.history ∙ ap (λ (l : List Entry). s.history ++ l) (sym d);
      time = h.time;
      basis = h.basis;
      count = set_count w.connections (line_count base.site) (line_place w.basis.site by) c h.count;
      connections = connections_set base w s moved by c k.rules h k.line mine (λ j other. kept j) (λ j other. pieces_stay j (Piece by piece) did.entries s.pieces (none j) (piece_of_other j by piece other)) (λ j other. passes base.site s (Piece by piece) did j (none j) refl);
    }

-- a stage has failed, and the connection is closed
stands_bad : (base : Basis) (w : Held) (s : State) (by : ℕ) (piece : List ℕ) (entries : List Entry) (why : Option Why) (c : HeldConnection) → RepresentsWithin base w s → (k : IsFed base.site w s by piece entries why c)
    → (did : Did) (reason : Why) → did.entries ≡ entries ++ closed_entry s.time by reason (unsent (environment_of base) s by) k.all.cuts ∷ [] → (shutting : HeldConnection) → IsRenewed false c shutting
    → RepresentsWithin base (record w { history = (w.history ++ entries) ++ lost w.basis.site by w.time (w.history ++ entries) c reason ∷ []; connections = set w.connections (line_place w.basis.site by) shutting }) (after s (Piece by piece) did)
stands_bad base w s by piece entries why c h k did reason d shutting r =
    let moved : State = after s (Piece by piece) did in
    let packets = k.taken.packets in
    let mine_are = entries_at base w s by packets entries k.taken.entries_are h in
    let left = unsent (environment_of base) s by in
    let tail = closed_entry s.time by reason left k.all.cuts in
    let bad : did.entries ≡ entries_of base.site s.history by s.time packets ++ tail ∷ [] = d ∙ ap (λ (l : List Entry). l ++ tail ∷ []) mine_are in
    let behind : w.history ++ entries ≡ s.history ++ entries_of base.site s.history by s.time packets = ap (λ (l : List Entry). l ++ entries) h.history ∙ ap (λ (l : List Entry). s.history ++ l) mine_are in
    let passed = passed_same base.site w s by piece entries why c k in
    let waits_is : waiting w.basis.site by (w.history ++ entries) c.cursor ≡ left =
    ap (λ (b : Basis). waiting b.site by (w.history ++ entries) c.cursor) h.basis ∙ (ap (λ (l : List Entry). waiting base.site by l c.cursor) behind ∙ (waiting_kept base.site s by s.time packets c.cursor passed ∙ sym (waits base.site s by c.cursor passed))) in
    let last : lost w.basis.site by w.time (w.history ++ entries) c reason ≡ tail = closed_entry_is w.basis.site by w.time s.time (w.history ++ entries) reason c left k.all.cuts h.time k.all.loss_is waits_is in
    let tells : (j : ℕ) → latest (connects_maker j) did.entries ≡ connects_maker j tail = λ j. ap (latest (connects_maker j)) bad ∙ packets_then base.site s.history j by s.time packets tail in
    let others : (j : ℕ) → j ≢ by → latest (connects_maker j) did.entries ≡ None = λ j other. tells j ∙ tells_no_other j tail other in
    let off : false ≡ is_connected by (s.history ++ did.entries) =
    sym (connected-append by s.history did.entries ∙ ap (λ (t : Option Bool). unwrap_or (or_earlier t (latest (connects_maker by) s.history)) false) (tells by ∙ tells_maker by tail refl)) in
    let mine : IsConnection base.site moved by shutting =
    begins base.site moved by shutting (r.connected_is ∙ off) (same_framings c.chain shutting.chain r.same ∙ k.framings) (r.same.writers ∙ k.writing) (pieces_turned by (Piece by piece) did.entries s.pieces false (tells by ∙ tells_maker by tail refl))
    (all_renewed c.chain.stages shutting.chain.stages r.renewed) (renewed_stands c.chain.stages shutting.chain.stages r.renewed) (λ stands. none_passed (is_connected by moved.history) (sym off) stands) in
    record {
      history = ap (λ (l : List Entry). (l ++ entries) ++ lost w.basis.site by w.time (w.history ++ entries) c reason ∷ []) h.history
          ∙ (append_assoc s.history entries (lost w.basis.site by w.time (w.history ++ entries) c reason ∷ []) ∙ (ap (λ (x : Entry). s.history ++ (entries ++ x ∷ [])) last ∙ ap (λ (l : List Entry). s.history ++ l) (sym d)));
      time = h.time;
      basis = h.basis;
      count = set_count w.connections (line_count base.site) (line_place w.basis.site by) shutting h.count;
      connections = connections_set base w s moved by shutting k.rules h k.line mine
          (λ j other. connected_kept j s.history did.entries (others j other)) (λ j other. pieces_stay j (Piece by piece) did.entries s.pieces (others j other) (piece_of_other j by piece other)) (λ j other. passes base.site s (Piece by piece) did j (others j other) refl);
    }

-- what is held with a connection set twice
set_twice : (w : Held) (by : ℕ) (entries : List Entry) (c shutting : HeldConnection) (reason : Why) (new : Held) → line_place w.basis.site by < length w.connections
    → IsRenewed false (connection_of (changed by w entries c) by) shutting → new ≡ changed by (changed by w entries c) (lost w.basis.site by w.time (w.history ++ entries) (connection_of (changed by w entries c) by) reason ∷ []) shutting
    → IsRenewed false c shutting × (new ≡ record w { history = (w.history ++ entries) ++ lost w.basis.site by w.time (w.history ++ entries) c reason ∷ []; connections = set w.connections (line_place w.basis.site by) shutting })
set_twice w by entries c shutting reason new m r n =
    let place = line_place w.basis.site by in
    let same : connection_of (changed by w entries c) by ≡ c = get_or-set_same w.connections place c (shut no_chain) m in (
      subst (λ (x : HeldConnection). IsRenewed false x shutting) same r,
      n ∙ (ap (λ (x : HeldConnection). record w { history = (w.history ++ entries) ++ lost w.basis.site by w.time (w.history ++ entries) x reason ∷ []; connections = set (set w.connections place c) place shutting }) same
          ∙ ap (λ (cs : List HeldConnection). record w { history = (w.history ++ entries) ++ lost w.basis.site by w.time (w.history ++ entries) c reason ∷ []; connections = cs }) (set-set w.connections place c shutting)),
    )

stands_settled : (base : Basis) (w new : Held) (s : State) (by : ℕ) (piece : List ℕ) (entries : List Entry) (why : Option Why) (c : HeldConnection) → RepresentsWithin base w s → (k : IsFed base.site w s by piece entries why c)
    → (fault : Option Fault) → fault_of k.all.cuts ≡ fault → Settles by (changed by w entries c) (blamed fault) new
    → (did : Did) → did.entries ≡ entries ++ tail_of by s.time (unsent (environment_of base) s by) k.all.cuts fault → RepresentsWithin base new (after s (Piece by piece) did)
unfolding tail_of
stands_settled base w new s by piece entries why c h k None e settles did d =
    subst (λ (x : Held). RepresentsWithin base x (after s (Piece by piece) did)) (sym settles) (stands_whole base w s by piece entries why c h k did (d ∙ append-nil entries) e)
stands_settled base w new s by piece entries why c h k (Some fault) e settles did d =
    let reason : Why = BadFrame fault.stage fault.cause in
    let both = set_twice w by entries c settles.0 reason new (place_shown base w s k.rules h by k.line) settles.1 settles.2 in
    subst (λ (x : Held). RepresentsWithin base x (after s (Piece by piece) did)) (sym both.1) (stands_bad base w s by piece entries why c h k did reason d settles.0 both.0)

received : (base : Basis) (w new : Held) (s : State) (by : ℕ) (piece : List ℕ) (entries : List Entry) (why : Option Why) (c : HeldConnection) → is_enabled (environment_of base) s (Piece by piece) ≡ true → RepresentsWithin base w s → (k : IsFed base.site w s by piece entries why c)
    → is_within w.basis w.history (entries_in entries) (bytes_in entries) ≡ true → Settles by (changed by w entries c) why new
    → (did : Did) × Does (environment_of base) s (Piece by piece) did × (Posted ≡ did.effect) × RepresentsWithin base new (after s (Piece by piece) did)
unfolding posts
received base w new s by piece entries why c t h k room settles =
    let packets = k.taken.packets in
    let cuts = k.all.cuts in
    let fault = fault_of cuts in
    let left = unsent (environment_of base) s by in
    let mine_are = entries_at base w s by packets entries k.taken.entries_are h in
    let did : Did = record { entries = posts base.site s.history by s.time left packets cuts fault; effect = Posted } in
    let blame : why ≡ blamed fault = k.taken.why_is ∙ ap blamed k.all.fault_is in (
      did,
      record {
        enabled = t;
        answer = silent;
        answered = refl;
        appends = posts_received base w s by piece entries why c h k;
        room = λ takes. sym (room_is base w s did.entries (entries_in entries) (bytes_in entries) (posts_count base.site s.history by s.time left packets cuts fault entries mine_are) (posts_size base.site s.history by s.time left packets cuts fault entries mine_are) h) ∙ room;
        effect = refl;
      },
      refl,
      stands_settled base w new s by piece entries why c h k fault refl (subst (λ (o : Option Why). Settles by (changed by w entries c) o new) blame settles) did (ap (λ (l : List Entry). l ++ tail_of by s.time left cuts fault) (sym mine_are)),
    )

-- ---- a piece as the world takes it: it goes through the chain, and its packets are posted

pub piece_done : (base : Basis) (w mid new : Held) (s : State) (by : ℕ) (piece : List ℕ) (entries : List Entry) (unposted : ℕ) (why : Option Why) → IsSoundSite base.site → is_enabled (environment_of base) s (Piece by piece) ≡ true
    → unposted ≡ 0 → Takes by w piece entries unposted why mid → Posts by mid entries why (Ok tt) new → RepresentsWithin base w s → Steps base s (Piece by piece) w (Ok Posted) new
piece_done base w mid new s by piece entries unposted why sound t all k q h =
    let p = subst (λ (x : Held). Posts by x entries why (Ok tt) new) k.4 q in
    received base w new s by piece entries why k.0 t h (is_fed base w mid s by piece entries unposted why sound t h all k) p.0 p.1

refused : (base : Basis) (w new : Held) (s : State) (by : ℕ) (piece : List ℕ) (entries : List Entry) (why : Option Why) (c : HeldConnection) (fault : WorldFault) → is_enabled (environment_of base) s (Piece by piece) ≡ true → RepresentsWithin base w s
    → IsFed base.site w s by piece entries why c → Posts by (with_connection by w c) entries why (Err fault) new → Steps base s (Piece by piece) w (Err fault) new
refused base w new s by piece entries why c RefusedEvent t h k p = absurd p
refused base w new s by piece entries why c (Full counted size) t h k p =
    let mine_are = entries_at base w s by k.taken.packets entries k.taken.entries_are h in
    let fault = fault_of k.all.cuts in
    let left = unsent (environment_of base) s by in
    finds_full base w new s (Piece by piece) (posts base.site s.history by s.time left k.taken.packets k.all.cuts fault) (entries_in entries) (bytes_in entries) counted size t refl (posts_received base w s by piece entries why c h k)
    (posts_count base.site s.history by s.time left k.taken.packets k.all.cuts fault entries mine_are) (posts_size base.site s.history by s.time left k.taken.packets k.all.cuts fault entries mine_are) p.0 p.1 p.2
    (record { history = ap (λ (x : Held). x.history) p.3; time = ap (λ (x : Held). x.time) p.3; basis = ap (λ (x : Held). x.basis) p.3 }) h
refused base w new s by piece entries why c Memory t h k p =
    wants_memory base w new s (Piece by piece) (record { history = ap (λ (x : Held). x.history) p.1; time = ap (λ (x : Held). x.time) p.1; basis = ap (λ (x : Held). x.basis) p.1 }) t refl tt

pub piece_refused : (base : Basis) (w mid new : Held) (s : State) (by : ℕ) (piece : List ℕ) (entries : List Entry) (unposted : ℕ) (why : Option Why) (fault : WorldFault) → IsSoundSite base.site → is_enabled (environment_of base) s (Piece by piece) ≡ true
    → unposted ≡ 0 → Takes by w piece entries unposted why mid → Posts by mid entries why (Err fault) new → RepresentsWithin base w s → Steps base s (Piece by piece) w (Err fault) new
piece_refused base w mid new s by piece entries unposted why fault sound t all k p h =
    refused base w new s by piece entries why k.0 fault t h (is_fed base w mid s by piece entries unposted why sound t h all k) (subst (λ (x : Held). Posts by x entries why (Err fault) new) k.4 p)

-- ---- the site that is held

-- it is the one that is stood for
pub site_of : (base : Basis) (w : Held) (s : State) → IsSoundHeld w → RepresentsWithin base w s → IsSoundSite base.site
site_of base w s sound h = subst (λ (b : Basis). IsSoundSite b.site) h.basis sound.site

-- ---- a desk is asked

pub has_desk_is : (base : Basis) (w : Held) (s : State) (desk : ℕ) (body : List ℕ) → RepresentsWithin base w s → nat_lt desk w.basis.site.desks ≡ is_enabled (environment_of base) s (Call desk body)
has_desk_is base w s desk body h = ap (λ (b : Basis). nat_lt desk b.site.desks) h.basis

-- what a desk replies after what is held it replies after the state
reply_here : (base : Basis) (w : Held) (s : State) (by : ℕ) (body : List ℕ) (a : Answer) → RepresentsWithin base w s → IsReply (point_of w.basis w.history) by w.time body a → IsReply (point_of base s.history) by s.time body a
reply_here base w s by body a h r = subst (λ (b : Basis). IsReply (point_of b s.history) by s.time body a) h.basis (subst (λ (l : List Entry). IsReply (point_of w.basis l) by s.time body a) h.history (subst (λ (now : Time). IsReply (point_of w.basis w.history) by now body a) h.time r))

pub called : (base : Basis) (w new : Held) (s : State) (desk : ℕ) (body : List ℕ) (front : ℕ) (text : Option (List ℕ)) (a : Answer) → nat_lt desk w.basis.site.desks ≡ true → front ≡ length w.history → text ≡ text_of a
    → IsReply (point_of w.basis w.history) (first_desk + desk) w.time body a → new ≡ record w { history = w.history ++ a.entries } → RepresentsWithin base w s → Steps base s (Call desk body) w (Ok (Reply desk front text)) new
called base w new s desk body front text a there at says is n h =
    let did : Did = record { entries = a.entries; effect = Reply desk (length s.history) (text_of a) } in
    let moved : State = after s (Call desk body) did in
    let none : (k : ℕ) → latest (connects_maker k) a.entries ≡ None = reply_quiet (point_of w.basis w.history) (first_desk + desk) w.time body a is in
    let whole : RepresentsWithin base (record w { history = w.history ++ a.entries }) moved = record {
      history = ap (λ (l : List Entry). l ++ a.entries) h.history;
      time = h.time;
      basis = h.basis;
      count = h.count;
      connections = λ k m. connection_kept base.site s moved k (connection_of w k) (connected_kept k s.history a.entries (none k)) (pieces_stay k (Call desk body) a.entries s.pieces (none k) refl) (passes base.site s (Call desk body) did k (none k) refl) (h.connections k m);
    } in (
      did,
      record {
        enabled = sym (has_desk_is base w s desk body h) ∙ there;
        answer = a;
        answered = reply_here base w s (first_desk + desk) body a h is;
        appends = refl;
        room = λ takes. absurd (cc takes);
        effect = refl;
      },
      ap (λ (k : ℕ). Reply desk k text) (at ∙ ap length h.history) ∙ ap (Reply desk (length s.history)) says,
      subst (λ (x : Held). RepresentsWithin base x moved) (sym n) whole,
    )
