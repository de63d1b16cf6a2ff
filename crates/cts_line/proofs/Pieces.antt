-- What follows when a piece was taken.
use Rattle.std.proofs.Common.{◌≡◌, ℕ, ◌≤◌, ◌==◌, Bool, true, false, List, [], ◌∷◌, ◌++◌, length, map, refl, sym, ◌∙◌, ap, subst, arith, length-append, append-nil, append_assoc, Option, Some, None, option_map, inl, inr}
use Rattle.std.specs.Prelude.{take, ◌⊎◌, if◌then◌else◌}
use Rattle.std.proofs.lemmas.Bool.{eqb-true}
use Rattle.std.proofs.lemmas.List.{nil_from_length, map-append}
use Rattle.cts_chain.specs.Chains.{StagesStand, AllSettled, Reserved, framings_of, last_fault}
use Rattle.cts_chain.specs.Laws.{AreOf}
use Rattle.cts_chain.proofs.Rising.{reserved_stand}
use Rattle.cts_chain.proofs.Settled.{settled_gives_all}
use Rattle.cts_connection.specs.Postings.{end_of}
use Rattle.cts_connection.specs.Takings.{blamed}
use Rattle.cts_connection.specs.declared.end.End.{End}
use Rattle.cts_entry.specs.declared.entry.Entry.{Entry}
use Rattle.cts_entry.specs.declared.why.Why.{Why}
use Rattle.cts_entry.specs.declared.why.Why.TheVariants.{BadFrame, Full, NoMemory}
use Rattle.cts_entry.specs.Histories.{has_own}
use Rattle.cts_entry.specs.Places.{Posts}
use Rattle.cts_framing.specs.Cuts.{Ends as EndsCut}
use Rattle.cts_framing.specs.Framing.{Framing, Output, plain}
use Rattle.cts_framing.specs.Laws.{AllSound}
use Rattle.cts_framing.specs.Packets.{Fault, IsPackets, capped}
use Rattle.cts_framing.specs.Rows.{framing_of}
use Rattle.cts_outside.specs.Causes.{raised}
use Rattle.cts_outside.specs.Lines.{Connection, Line, at_now, after_take}
use Rattle.cts_outside.specs.declared.link.Taken.TheVariants.{Got}
use Rattle.cts_proto.specs.Meaning.{Meaning, framing}
use Rattle.cts_trace.specs.Connections.{Blames, Fed, Left, NoneLate, Shows}
use Rattle.cts_trace.proofs.Lateness.{late_more}
use Rattle.cts_entry.specs.Room.{Capacity}
use Rattle.cts_trace.specs.Lines.{Causes, Flags, PutsAll, PostsNone, Seen, TellsWhy}
use Rattle.cts_trace.specs.Routing.{Routing}
use Rattle.cts_line.specs.Rows.{Gives, InRows, Row}
use Rattle.cts_line.specs.Talks.{Takes, Talking, Waits}
use Rattle.cts_line.proofs.Bodies.{grown_body, inside, rows_grown, rows_kept}
use Rattle.cts_line.proofs.Closing.{Closing}
use Rattle.cts_line.proofs.Growing.{Grows, among_or_none, holds_grown, last_grown, look_grown, past_grown}
use Rattle.cts_line.proofs.Soon.{soon_grown, soon_more}
use Rattle.cts_line.proofs.Steps.{no_tail, raised_few}

-- ---- why a connection is closed after a piece

-- what such a reason owes
pub record ByPiece (why : Why) : Type 1 where
  pub puts : (A : Type 0) → A → PutsAll why A
  pub posts : (A : Type 0) → PostsNone why A
  pub tells : (c : Connection) → Flags c false false false → TellsWhy why c

pub by_memory : ByPiece NoMemory
by_memory = record { puts = λ A a. tt; posts = λ A. tt; tells = λ c f. f }

pub by_room : ByPiece Full
by_room = record { puts = λ A a. tt; posts = λ A. tt; tells = λ c f. f }

pub by_fault : (stage : ℕ) (cause : _) → ByPiece (BadFrame stage cause)
by_fault stage cause = record { puts = λ A a. a; posts = λ A. tt; tells = λ c f. f }

pub blames_memory : (f : Option Fault) → Blames f NoMemory
blames_memory None = refl
blames_memory (Some fault) = inr (inr refl)

pub blames_full : (f : Option Fault) → Blames f Full
blames_full None = refl
blames_full (Some fault) = inr (inl refl)

pub unblamed : (f : Option Fault) → None ≡ blamed f → f ≡ None
unblamed None e = refl
unblamed (Some fault) e = absurd (cc e)

-- where a connection has to be closed after the packets of a piece: for want of memory, or since a stage has failed
pub record LastBy (room : Capacity) (end : End) (lost : List Output) (fault : Option Fault) : Type 1 where
  pub by : ByPiece end.why
  pub blames : Blames fault end.why
  pub causes : (s : Seen) → Causes room end.why s
  pub wants : (lost ≡ []) ⊎ (end.why ≡ NoMemory)
  pub count : end.unposted ≡ capped (length lost)

last_memory : (room : Capacity) (n : ℕ) (lost : List Output) (fault : Option Fault) → n ≡ capped (length lost) → LastBy room (record { why = NoMemory; unposted = n }) lost fault
last_memory room n lost fault count = record { by = by_memory; blames = blames_memory fault; causes = λ s. tt; wants = inr refl; count = count }

last_fault_by : (room : Capacity) (lost : List Output) (fault : Fault) → lost ≡ [] → LastBy room (record { why = BadFrame fault.stage fault.cause; unposted = 0 }) lost (Some fault)
last_fault_by room lost fault none = record { by = by_fault fault.stage fault.cause; blames = inl refl; causes = λ s. tt; wants = inl none; count = ap (λ (l : List Output). capped (length l)) (sym none) }

abbrev Same : End → End → Type 0
Same a b = a ≡ b

abbrev end_if : Bool → ℕ → Option Why → Option End
end_if b n failed = if b then option_map (λ (w : Why). record { why = w; unposted = 0 }) failed else Some (record { why = NoMemory; unposted = n })

last_if : (room : Capacity) (b : Bool) (n : ℕ) (failed : Option Why) (end : End) (lost : List Output) (fault : Option Fault) → end_if b n failed ≡ Some end
    → failed ≡ blamed fault → n ≡ capped (length lost) → (b ≡ true → lost ≡ []) → LastBy room end lost fault
last_if room false n failed end lost fault e is count none = let w : Same (record { why = NoMemory; unposted = n }) end = cc in subst (λ (x : End). LastBy room x lost fault) w (last_memory room n lost fault count)
last_if room true n failed end lost None e is count none = absurd (let f : end_if true n None ≡ Some end = ap (end_if true n) (sym is) ∙ e in cc)
last_if room true n failed end lost (Some fault) e is count none =
    let f : end_if true n (Some (BadFrame fault.stage fault.cause)) ≡ Some end = ap (end_if true n) (sym is) ∙ e in
    let w : Same (record { why = BadFrame fault.stage fault.cause; unposted = 0 }) end = cc in
    subst (λ (x : End). LastBy room x lost (Some fault)) w (last_fault_by room lost fault (none refl))

none_lost : (n : ℕ) (lost : List Output) → n ≡ capped (length lost) → (n == 0) ≡ true → lost ≡ []
none_lost n lost is h = nil_from_length lost (let z : n ≡ 0 = eqb-true n 0 h in omega (arith, is, z))

pub last_by : (room : Capacity) (n : ℕ) (failed : Option Why) (end : End) (lost : List Output) (fault : Option Fault) → end_of n failed ≡ Some end → failed ≡ blamed fault → n ≡ capped (length lost) → LastBy room end lost fault
last_by room n failed end lost fault e is count = last_if room (n == 0) n failed end lost fault e is count (none_lost n lost count)

goes_if : (b : Bool) (n : ℕ) (failed : Option Why) → end_if b n failed ≡ None → (b ≡ true) × (failed ≡ None)
goes_if false n failed e = absurd (cc e)
goes_if true n None e = (refl, refl)
goes_if true n (Some w) e = absurd (cc e)

-- where it goes on, all packets have entries and no stage has failed
pub goes_on : (n : ℕ) (failed : Option Why) (lost : List Output) (fault : Option Fault) → end_of n failed ≡ None → failed ≡ blamed fault → n ≡ capped (length lost) → (lost ≡ []) × (fault ≡ None)
goes_on n failed lost fault e is count = let h = goes_if (n == 0) n failed e in (none_lost n lost count h.0, unblamed fault (sym h.1 ∙ is))

-- ---- the chain

pub reserved_settled : (old new : List Meaning) → Reserved old new → AllSettled old → AllSettled new
reserved_settled [] [] r s = tt
reserved_settled [] (n ∷ ns) r s = absurd r
reserved_settled (m ∷ ms) [] r s = absurd r
reserved_settled (m ∷ ms) (n ∷ ns) r s =
    let a = subst (λ (x : _). EndsCut (framing_of x) m.pending m.failed) (sym r.0.spec_is) s.0 in
    let b = subst (λ (x : List ℕ). EndsCut (framing n) x m.failed) (sym r.0.pending) a in
    (subst (λ (x : Option _). EndsCut (framing n) n.pending x) (sym r.0.failed) b, r.0.drained ∙ s.1, reserved_settled ms ns r.1 s.2)

-- ---- a piece was fed

-- a piece that is taken does not come late
next_late : (g : Routing) (room : Capacity) (m place unsent : ℕ) (stages : List Meaning) (found : List ℕ) (history : List Entry) (line : Line) → (t : Talking g room m Takes stages place unsent found history line) (piece : List ℕ)
    → AllSound (g.chain m) → framings_of stages ≡ g.chain m → NoneLate (g.chain m) (t.connection.pieces ++ piece ∷ [])
next_late g room m place unsent stages found history line t piece sound framings =
    let are : AreOf stages t.connection.pieces t.body.posted = settled_gives_all stages t.connection.pieces t.body.posted t.settled t.fed in
    late_more (g.chain m) t.connection.pieces piece are.cuts t.body.posted sound (subst (λ (fs : List Framing). IsPackets fs t.connection.pieces are.cuts t.body.posted) framings are.packets_are) (sym are.fault_is ∙ t.sound)

-- all that its pieces gave is posted
gives_all : (g : Routing) (room : Capacity) (m place unsent : ℕ) (stages : List Meaning) (found : List ℕ) (history : List Entry) (line : Line) → (t : Talking g room m Takes stages place unsent found history line)
    → framings_of stages ≡ g.chain m → Gives (g.chain m) t.connection.pieces t.body.posted
gives_all g room m place unsent stages found history line t framings =
    let are : AreOf stages t.connection.pieces t.body.posted = settled_gives_all stages t.connection.pieces t.body.posted t.settled t.fed in
    (are.cuts, subst (λ (fs : List Framing). IsPackets fs t.connection.pieces are.cuts t.body.posted) framings are.packets_are)

-- a connection of whose last piece some packets are posted, and the others left, is closed
module _ (g : Routing) (room : Capacity) (m place unsent : ℕ) (why : Why) (stages stages' : List Meaning) (found found' : List ℕ) (history added history' : List Entry) (line : Line)
    (grows : Grows m found history added found' history') (t : Talking g room m Takes stages place unsent found history line) (n : ℕ) (buffer : List ℕ) where
  pub piece_closing : AllSound (g.chain m) → framings_of stages ≡ g.chain m → (by : ByPiece why) (fed : List (List ℕ)) (packets left : List Output) (unposted : ℕ) → Posts m (Shows g m) (history ++ grows.others) added packets
      → InRows g m fed (t.body.posted ++ packets) (t.body.before ++ t.body.opened ∷ []) (t.body.looked ++ (t.body.ahead ++ (grows.others ++ added))) → Fed why (t.connection.pieces ++ take n buffer ∷ []) fed
      → StagesStand stages' (map plain fed) ((t.body.posted ++ packets) ++ left) → AllSettled stages' → framings_of stages' ≡ g.chain m → Blames (last_fault 1 stages') why → Left g m why fed (t.body.posted ++ packets) left
      → unposted ≡ capped (length left) → Causes room why (record { connection = after_take (Got n) buffer t.connection; looked = t.body.before ++ t.body.opened ∷ t.body.looked; whole = history'; left = left })
      → Closing g room m why stages' place unsent unposted found' history' (at_now (after_take (Got n) buffer) line)
  piece_closing sound was by fed packets left unposted shown rows fed_is chain settled framings blames left_is count causes =
      let b = t.body in
      let grown = grown_body g m found history added found' history' grows b packets shown in
      let long = inside history b.before (b.looked ++ b.ahead) b.opened b.whole in
      let few : raised t.connection.takes ≤ length t.holds.mine = raised_few t.connection.takes (length t.holds.mine) t.looked_so.0 in
      record {
        connection = after_take (Got n) buffer t.connection;
        stands = ap (option_map (after_take (Got n) buffer)) t.stands;
        body = grown;
        fed = fed;
        fed_is = fed_is;
        left = left;
        chain = chain;
        settled = settled;
        framings = framings;
        blames = blames;
        late = next_late g room m place unsent stages found history line t (take n buffer) sound was;
        left_is = left_is;
        unposted_is = count;
        rows = rows;
        past = past_grown m found history added found' history' grows g room line.past b.before t.past (omega arith);
        place_is = t.place_is;
        holds = holds_grown m found history added found' history' grows (length b.before) (omega arith) t.holds;
        soon = soon_more 1 3 found' (length b.before) history' (omega arith) (soon_grown m found history added found' history' grows 0 (length b.before) t.holds.all_within t.soon_so);
        look_is = look_grown m found history added found' history' grows place b.looked t.among;
        cause = causes;
        tells = by.tells _ t.tells_so;
        quiet = by.posts _;
        tail = [];
        put = no_tail g room m place unsent stages found history line b.done t.connection.put t.put_so.1;
        tail_is = inl refl;
        put_all = by.puts _ t.put_so.0;
        unsent_is = t.unsent_is;
        often = (let l = length-append t.holds.mine (length (history ++ grows.others) ∷ []) in omega (arith, few, l));
        last = by.puts _ (last_grown m found history added found' history' grows place (length b.before) t.holds t.looked_so.1);
      }

-- what a piece gave
pub record Feeds (g : Routing) (m : ℕ) (old new : List Meaning) (piece : List ℕ) (packets : List Output) : Type 0 where
  pub stands : (ins was : List Output) → StagesStand old ins was → StagesStand new (ins ++ plain piece ∷ []) (was ++ packets)
  pub settled : AllSettled new
  pub sound : AllSound (g.chain m)
  pub framings_old : framings_of old ≡ g.chain m
  pub framings : framings_of new ≡ g.chain m

module _ (g : Routing) (room : Capacity) (m place unsent : ℕ) (stages stages' : List Meaning) (found found' : List ℕ) (history added history' : List Entry) (line : Line)
    (grows : Grows m found history added found' history') (t : Talking g room m Takes stages place unsent found history line) (n : ℕ) (buffer piece : List ℕ) (is : piece ≡ take n buffer) where
  pieces_plain : map plain t.connection.pieces ++ plain piece ∷ [] ≡ map plain (t.connection.pieces ++ take n buffer ∷ [])
  pieces_plain = sym (map-append plain t.connection.pieces (piece ∷ [])) ∙ ap (λ (p : List ℕ). map plain (t.connection.pieces ++ p ∷ [])) is

  fed_chain : (packets : List Output) → Feeds g m stages stages' piece packets → StagesStand stages' (map plain (t.connection.pieces ++ take n buffer ∷ [])) (t.body.posted ++ packets)
  fed_chain packets f = subst (λ (l : List Output). StagesStand stages' l (t.body.posted ++ packets)) pieces_plain (f.stands (map plain t.connection.pieces) t.body.posted t.fed)

  -- all packets before the last piece are posted
  left_so : (why : Why) (packets more left : List Output) → Feeds g m stages stages' piece packets → ((left ≡ []) ⊎ (((why ≡ Full) × (more ≡ [])) ⊎ (why ≡ NoMemory))) → Left g m why (t.connection.pieces ++ take n buffer ∷ []) (t.body.posted ++ more) left
  left_so why packets more left f (inl none) = inl none
  left_so why packets more left f (inr wants) =
      let are : AreOf stages t.connection.pieces t.body.posted = settled_gives_all stages t.connection.pieces t.body.posted t.settled t.fed in
      inr (t.connection.pieces, take n buffer, are.cuts, t.body.posted, more, refl, subst (λ (fs : List Framing). IsPackets fs t.connection.pieces are.cuts t.body.posted) f.framings_old are.packets_are, refl, wants)

  rows_by : (packets given : List Output) → Feeds g m stages stages' piece given → Row g m (history ++ grows.others) packets added
      → InRows g m (t.connection.pieces ++ take n buffer ∷ []) (t.body.posted ++ packets) (t.body.before ++ t.body.opened ∷ []) (t.body.looked ++ (t.body.ahead ++ (grows.others ++ added)))
  rows_by packets given feeds row =
      rows_grown g m found history added found' history' grows t.body t.connection.pieces t.rows (take n buffer) packets
      (gives_all g room m place unsent stages found history line t feeds.framings_old) row

  -- a piece was fed, and its packets are posted
  pub takes_piece : (packets : List Output) → Feeds g m stages stages' piece packets → last_fault 1 stages' ≡ None → Posts m (Shows g m) (history ++ grows.others) added packets
      → Row g m (history ++ grows.others) packets added → Talking g room m Waits stages' place unsent found' history' (at_now (after_take (Got n) buffer) line)
  takes_piece packets feeds sound shown row =
      let b = t.body in
      let long = inside history b.before (b.looked ++ b.ahead) b.opened b.whole in
      let few = raised_few t.connection.takes (length t.holds.mine) t.looked_so.0 in
      let l = length-append t.holds.mine (length (history ++ grows.others) ∷ []) in
      record {
        connection = after_take (Got n) buffer t.connection;
        stands = ap (option_map (after_take (Got n) buffer)) t.stands;
        body = grown_body g m found history added found' history' grows b packets shown;
        fed = fed_chain packets feeds;
        rows = rows_by packets packets feeds row;
        settled = feeds.settled;
        sound = sound;
        past = past_grown m found history added found' history' grows g room line.past b.before t.past (omega arith);
        place_is = t.place_is;
        holds = holds_grown m found history added found' history' grows (length b.before) (omega arith) t.holds;
        soon_so = soon_grown m found history added found' history' grows 0 (length b.before) t.holds.all_within t.soon_so;
        among = among_or_none m found history added found' history' grows place b.looked t.among;
        late = next_late g room m place unsent stages found history line t (take n buffer) feeds.sound feeds.framings_old;
        tells_so = t.tells_so;
        saw_so = tt;
        quiet_so = tt;
        put_so = t.put_so;
        unsent_is = t.unsent_is;
        looked_so = omega (arith, few, l);
      }

  wants_memory : (lost packets : List Output) (why : Why) → (lost ≡ []) ⊎ (why ≡ NoMemory) → (lost ≡ []) ⊎ (((why ≡ Full) × (packets ≡ [])) ⊎ (why ≡ NoMemory))
  wants_memory lost packets why (inl e) = inl e
  wants_memory lost packets why (inr e) = inr (inr e)

  wants_either : (packets : List Output) (why : Why) → packets ≡ [] → (why ≡ Full) ⊎ (why ≡ NoMemory) → ((why ≡ Full) × (packets ≡ [])) ⊎ (why ≡ NoMemory)
  wants_either packets why none (inl e) = inl (e, none)
  wants_either packets why none (inr e) = inr e

  -- its packets are posted but for those that are lost, and the connection is closed
  pub last_closing : (end : End) (packets lost : List Output) → Feeds g m stages stages' piece (packets ++ lost) → LastBy room end lost (last_fault 1 stages') → Posts m (Shows g m) (history ++ grows.others) added packets
      → Row g m (history ++ grows.others) packets added → Closing g room m end.why stages' place unsent end.unposted found' history' (at_now (after_take (Got n) buffer) line)
  last_closing end packets lost feeds by shown row =
      piece_closing g room m place unsent end.why stages stages' found found' history added history' line grows t n buffer feeds.sound feeds.framings_old by.by (t.connection.pieces ++ take n buffer ∷ []) packets lost end.unposted shown (rows_by packets (packets ++ lost) feeds row) (inl refl)
      (subst (λ (l : List Output). StagesStand stages' (map plain (t.connection.pieces ++ take n buffer ∷ [])) l) (sym (append_assoc t.body.posted packets lost)) (fed_chain (packets ++ lost) feeds))
      feeds.settled feeds.framings by.blames (left_so end.why (packets ++ lost) packets lost feeds (wants_memory lost packets end.why by.wants)) by.count (by.causes _)

  -- none of its packets is posted, and the connection is closed
  pub refused_closing : (why : Why) (unposted : ℕ) (left : List Output) → Feeds g m stages stages' piece left → ByPiece why → Blames (last_fault 1 stages') why → ((why ≡ Full) ⊎ (why ≡ NoMemory)) → added ≡ [] → unposted ≡ capped (length left)
      → ((s : Seen) → s.whole ≡ history' → s.left ≡ left → Causes room why s) → Closing g room m why stages' place unsent unposted found' history' (at_now (after_take (Got n) buffer) line)
  refused_closing why unposted left feeds by blames wants none count causes =
      piece_closing g room m place unsent why stages stages' found found' history added history' line grows t n buffer feeds.sound feeds.framings_old by (t.connection.pieces ++ take n buffer ∷ []) [] left unposted
      (subst (λ (l : List Entry). Posts m (Shows g m) (history ++ grows.others) l []) (sym none) refl)
      (rows_by [] left feeds (subst (λ (l : List Entry). Row g m (history ++ grows.others) [] l) (sym none) refl)) (inl refl)
      (subst (λ (l : List Output). StagesStand stages' (map plain (t.connection.pieces ++ take n buffer ∷ [])) (l ++ left)) (sym (append-nil t.body.posted)) (fed_chain left feeds))
      feeds.settled feeds.framings blames (left_so why left [] left feeds (inr (wants_either [] why refl wants))) count (causes _ refl refl)

  -- the piece was not fed
  pub unfed_closing : AllSound (g.chain m) → framings_of stages ≡ g.chain m → Reserved stages stages' → framings_of stages' ≡ g.chain m → added ≡ [] → Closing g room m NoMemory stages' place unsent 0 found' history' (at_now (after_take (Got n) buffer) line)
  unfed_closing sound was r framings none =
      piece_closing g room m place unsent NoMemory stages stages' found found' history added history' line grows t n buffer sound was by_memory t.connection.pieces [] [] 0
      (subst (λ (l : List Entry). Posts m (Shows g m) (history ++ grows.others) l []) (sym none) refl)
      (rows_kept g m found history added found' history' grows t.body t.connection.pieces t.rows (ap (has_own m) none)) (inr (refl, (take n buffer, refl)))
      (subst (λ (l : List Output). StagesStand stages' (map plain t.connection.pieces) l) (sym (append-nil (t.body.posted ++ []) ∙ append-nil t.body.posted)) (reserved_stand stages stages' r (map plain t.connection.pieces) t.body.posted t.fed))
      (reserved_settled stages stages' r t.settled) framings (blames_memory (last_fault 1 stages')) (inl refl) refl tt
