-- A connection is closed.
use Rattle.std.proofs.Common.{◌≡◌, ℕ, ◌+◌, ◌<◌, ◌≤◌, false, List, [], ◌∷◌, ◌++◌, length, map, refl, sym, ◌∙◌, ap, subst, arith, length-append, append_assoc, Option, Some, inl, inr}
use Rattle.std.specs.Prelude.{drop, ◌⊎◌, option_to_list}
use Rattle.std.proofs.lemmas.List.Elements.{All-nil}
use Rattle.cts_chain.specs.Chains.{StagesStand, AllSettled, framings_of, last_fault, loss_in}
use Rattle.cts_chain.specs.Laws.{AreOf}
use Rattle.cts_chain.proofs.Settled.{settled_gives_all}
use Rattle.cts_def.specs.declared.loss.Loss.{Loss}
use Rattle.cts_def.specs.declared.time.Time.{Time}
use Rattle.cts_entry.specs.declared.entry.Entry.{Entry}
use Rattle.cts_entry.specs.declared.what.What.TheVariants.{Closed}
use Rattle.cts_entry.specs.declared.why.Why.{Why}
use Rattle.cts_entry.specs.Histories.{has_own}
use Rattle.cts_entry.specs.Queues.{unsent_of, refused, spelled}
use Rattle.cts_entry.proofs.Queuing.{stays_snoc}
use Rattle.cts_framing.specs.Framing.{Output, Framing, plain}
use Rattle.cts_framing.specs.Packets.{Fault, IsPackets, capped, loss_of}
use Rattle.cts_outside.specs.Lines.{Connection, Line}
use Rattle.cts_proto.specs.Meaning.{Meaning}
use Rattle.cts_trace.specs.Routing.{Routing, queue, spell}
use Rattle.cts_trace.specs.Connections.{Carries, Blames, Fed, Left, NoneLate, Stay, Tail}
use Rattle.cts_entry.specs.Room.{Capacity}
use Rattle.cts_trace.specs.Lines.{Causes, Looked, IsLook, LastTwo, PutsAll, PostsNone, TellsWhy, looks}
use Rattle.cts_trace.proofs.Looking.{looks_append, puts_all_map}
use Rattle.cts_trace.proofs.Walks.{queue-append}
use Rattle.cts_worker.specs.Lasts.{entry_of}
use Rattle.cts_line.specs.Rows.{InRows, LookedInRows, SaidInRows}
use Rattle.cts_line.specs.Talks.{Body, Holds, SoonBy}
use Rattle.cts_line.proofs.Bodies.{inside, drop_whole}
use Rattle.cts_line.proofs.Growing.{looks_all}

-- What is owed of a connection when its Closed is appended, in a hold that is the last of these: the packets that are not posted, and why.
pub record Closing (g : Routing) (room : Capacity) (m : ℕ) (why : Why) (stages : List Meaning) (place unsent unposted : ℕ) (found : List ℕ) (history : List Entry) (line : Line) : Type 0 where
  pub connection : Connection
  pub stands : line.now ≡ Some connection
  pub body : Body g m history
  pub fed : List (List ℕ)
  pub fed_is : Fed why connection.pieces fed
  pub left : List Output
  pub chain : StagesStand stages (map plain fed) (body.posted ++ left)
  pub settled : AllSettled stages
  pub framings : framings_of stages ≡ g.chain m
  pub blames : Blames (last_fault 1 stages) why
  pub late : NoneLate (g.chain m) connection.pieces
  pub left_is : Left g m why fed body.posted left
  pub unposted_is : unposted ≡ capped (length left)
  pub rows : InRows g m fed body.posted (body.before ++ body.opened ∷ []) (body.looked ++ body.ahead)
  pub past : SaidInRows g room m found line.past body.before
  pub place_is : place ≡ length body.before + 1 + length body.looked
  pub holds : Holds found (length body.before) (length history)
  pub soon : SoonBy 3 found (length body.before) history
  pub look_is : (body.looked ≡ []) ⊎ IsLook found place (length history)
  pub cause : Causes room why (record { connection = connection; looked = body.before ++ body.opened ∷ body.looked; whole = history; left = left })
  pub tells : TellsWhy why connection
  pub quiet : PostsNone why (has_own m body.ahead ≡ false)
  pub tail : List ℕ
  pub put : connection.put ≡ spelled (spell g m) body.done ++ tail
  pub tail_is : Tail (spell g m) why body.rest tail
  pub put_all : PutsAll why (body.rest ≡ [])
  pub unsent_is : unsent ≡ refused (spell g m) body.done + length body.rest
  pub often : connection.takes < length holds.mine
  pub last : PutsAll why ((close : ℕ) × (earlier : List ℕ) × (found ≡ earlier ++ place ∷ close ∷ []) × (close ≤ length history))

tail_more : (spelling : Entry → Option (List ℕ)) (why : Why) (rest more : List Entry) (tail : List ℕ) → Tail spelling why rest tail → Tail spelling why (rest ++ more) tail
tail_more spelling why rest more tail (inl e) = inl e
tail_more spelling why rest more tail (inr p) = inr (p.0, (p.1.0, p.1.1 ++ more, p.1.2, ap (λ (l : List Entry). l ++ more) p.1.3, p.1.4))

look_at : (found : List ℕ) (place place' end end' : ℕ) (looked : List Entry) → place ≡ place' → end ≡ end' → (looked ≡ []) ⊎ IsLook found place end → (looked ≡ []) ⊎ IsLook found place' end'
look_at found place place' end end' looked p e l = subst (λ (n : ℕ). (looked ≡ []) ⊎ IsLook found place' n) e (subst (λ (n : ℕ). (looked ≡ []) ⊎ IsLook found n end) p l)

-- the Closed of a connection
abbrev pub closed_at : Routing → ℕ → Time → Why → List Meaning → ℕ → ℕ → ℕ → List Entry → Entry
closed_at g m time why stages place unsent unposted history = entry_of m time (Closed why (loss_in stages) unposted (capped (unsent + length (queue g m (drop place history)))))

-- its stay is said then
pub closes : (g : Routing) (room : Capacity) (m : ℕ) (time : Time) (why : Why) (stages : List Meaning) (place unsent unposted : ℕ) (found : List ℕ) (history : List Entry) (line : Line)
    → Closing g room m why stages place unsent unposted found history line
    → SaidInRows g room m found (line.past ++ option_to_list line.now) (history ++ closed_at g m time why stages place unsent unposted history ∷ [])
closes g room m time why stages place unsent unposted found history line t =
    let b = t.body in
    let o : ℕ = length b.before in
    let closed : Entry = closed_at g m time why stages place unsent unposted history in
    let between : List Entry = b.looked ++ b.ahead in
    let entries : List Entry = b.opened ∷ (between ++ closed ∷ []) in
    let are : AreOf stages t.fed (b.posted ++ t.left) = settled_gives_all stages t.fed (b.posted ++ t.left) t.settled t.chain in
    let whole : history ++ closed ∷ [] ≡ b.before ++ entries = ap (λ (l : List Entry). l ++ closed ∷ []) b.whole ∙ append_assoc b.before (b.opened ∷ between) (closed ∷ []) in
    let long : length history ≡ o + 1 + length between = inside history b.before between b.opened b.whole in
    let rest : List Entry = b.rest ++ queue g m b.ahead in
    let counted = ap (λ (l : List Entry). length (queue g m l)) (drop_whole history b.before b.looked b.ahead b.opened place t.place_is b.whole) in
    let all_is : capped (unsent + length (queue g m (drop place history))) ≡ capped (unsent_of (spell g m) b.done rest) =
    (let u = t.unsent_is in let s = length-append b.rest (queue g m b.ahead) in omega (arith, u, s, counted)) in
    let says : Closed why (loss_in stages) unposted (capped (unsent + length (queue g m (drop place history)))) ≡ Closed why (loss_of are.cuts) (capped (length t.left)) (capped (unsent_of (spell g m) b.done rest)) =
    ap (λ (x : Loss). Closed why x unposted (capped (unsent + length (queue g m (drop place history))))) are.loss_is
    ∙ (ap (λ (x : ℕ). Closed why (loss_of are.cuts) x (capped (unsent + length (queue g m (drop place history))))) t.unposted_is ∙ ap (λ (x : ℕ). Closed why (loss_of are.cuts) (capped (length t.left)) x) all_is) in
    let carries : Carries g m (b.before ++ b.opened ∷ []) t.fed t.left b.done rest between = record {
      cuts = are.cuts;
      posted = b.posted;
      packets = subst (λ (fs : List Framing). IsPackets fs t.fed are.cuts (b.posted ++ t.left)) t.framings are.packets_are;
      posts = b.posts;
      queue_is = queue-append g m b.looked b.ahead ∙ (ap (λ (l : List Entry). l ++ queue g m b.ahead) b.queue_is ∙ append_assoc b.done b.rest (queue g m b.ahead));
    } in
    let stay : Stay g m b.before t.connection.pieces t.connection.put entries = record {
      opened = b.opened;
      between = between;
      closed = closed;
      entries_are = refl;
      opens = b.opens;
      why = why;
      fed = t.fed;
      left = t.left;
      done = b.done;
      rest = rest;
      tail = t.tail;
      carries = carries;
      blames = subst (λ (f : Option Fault). Blames f why) are.fault_is t.blames;
      late = t.late;
      fed_is = t.fed_is;
      left_is = t.left_is;
      put = t.put;
      tail_is = tail_more (spell g m) why b.rest (queue g m b.ahead) t.tail t.tail_is;
      closes = record { maker = refl; what_is = says };
    } in
    let look : ℕ = o + 1 + length b.looked in
    let end : ℕ = o + 1 + length between in
    let looked : Looked g room m found b.before t.connection entries = record {
      stay = stay;
      looked = b.looked;
      since = b.ahead;
      between_is = refl;
      look_is = look_at found place look (length history) end b.looked t.place_is long t.look_is;
      cause = subst (λ (l : List Entry). Causes room why (record { connection = t.connection; looked = b.before ++ b.opened ∷ b.looked; whole = l; left = t.left })) b.whole t.cause;
      tells = t.tells;
      waits = b.rest;
      saw = b.queue_is;
      tail_is = t.tail_is;
      put_all = t.put_all;
      posted_none = t.quiet;
      often = (let all = looks_all t.holds.mine o (length history) t.holds.within in
          let f = ap (λ (l : List ℕ). looks l o (length history)) t.holds.found_is ∙ looks_append t.holds.earlier t.holds.mine o (length history) in
          let far = ap (looks found o) long in
          let few = t.often in omega (arith, all, f, far, few));
      last = puts_all_map why ((close : ℕ) × (earlier : List ℕ) × (found ≡ earlier ++ place ∷ close ∷ []) × (close ≤ length history)) ((close : ℕ) × LastTwo found look close end)
          (λ p. (
            p.0,
            record {
              earlier = p.1;
              later = [];
              found_are = p.2 ∙ ap (λ (k : ℕ). p.1 ++ k ∷ p.0 ∷ []) t.place_is;
              close_within = (let c = p.3 in omega (arith, c, long));
              later_beyond = All-nil (λ (k : ℕ). end < k);
            },
          )) t.last;
      soon = λ earlier later are stop.
          (let front : List Entry = b.before ++ b.opened ∷ earlier in
          let is : history ≡ front ++ later = b.whole ∙ (ap (λ (l : List Entry). b.before ++ b.opened ∷ l) are ∙ sym (append_assoc b.before (b.opened ∷ earlier) later)) in
          let n = length-append b.before (b.opened ∷ earlier) in
          subst (λ (k : ℕ). looks found (o + length earlier) k ≤ 3) long (t.soon front later (o + length earlier) is (omega (arith, n)) (omega arith) stop));
    } in
    let both : LookedInRows g room m found b.before t.connection entries = (looked, record { stay = stay; rows = t.rows }) in
    subst (λ (c : Option Connection). SaidInRows g room m found (line.past ++ option_to_list c) (history ++ closed ∷ [])) (sym t.stands)
    (subst (λ (l : List Entry). SaidInRows g room m found (line.past ++ t.connection ∷ []) l) (sym whole)
    (stays_snoc m (LookedInRows g room m found) [] line.past b.before entries t.connection t.past both))
