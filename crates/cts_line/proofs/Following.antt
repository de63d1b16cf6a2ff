-- What each hold of a line leaves of what it tells.
use Rattle.std.proofs.Common.{◌≡◌, ℕ, ◌+◌, ◌≤◌, ◌&&◌, Bool, true, false, cond, filter, List, [], ◌∷◌, ◌++◌, length, map, refl, sym, ◌∙◌, ap, subst, arith, length-append, append-nil, append_assoc, Option, Some, None, inl, inr}
use Rattle.std.specs.Prelude.{take, ◌≢◌, sum_by, nat_le, option_to_list, drop, ◌-◌, Result, Ok, IfOk}
use Rattle.std.proofs.lemmas.Bool.Decides.{nat_tests}
use Rattle.std.proofs.lemmas.List.{length-drop, length-map}
use Rattle.std.proofs.lemmas.List.Sums.{sum_by-append}
use Rattle.cts_chain.proofs.Anew.{same_framings}
use Rattle.cts_chain.specs.Chains.{last_fault, loss_in}
use Rattle.cts_chain.specs.Shapes.{writers}
use Rattle.cts_connection.specs.Connections.{HeldConnection, HeldCursor, entries_ahead, waiting}
use Rattle.cts_connection.specs.Postings.{Closes, closed_of, end_of}
use Rattle.cts_connection.specs.Routings.{site_routing}
use Rattle.cts_connection.specs.Takings.{TakesPiece}
use Rattle.cts_connection.specs.Writings.{spell_by}
use Rattle.cts_def.specs.Protocols.{SpecData}
use Rattle.cts_connection.specs.declared.end.End.{End as EndData}
use Rattle.cts_def.specs.Sites.{SiteData}
use Rattle.cts_def.specs.declared.time.Time.{Time}
use Rattle.cts_entry.specs.declared.entry.Entry.{Entry}
use Rattle.cts_entry.specs.declared.what.What.TheVariants.{Closed}
use Rattle.cts_entry.specs.declared.why.Why.{Why}
use Rattle.cts_entry.specs.declared.why.Why.TheVariants.{Full, NoMemory, PeerEnded, ReadFault}
use Rattle.cts_entry.specs.Histories.{bytes_in, entries_in, is_stopped}
use Rattle.cts_entry.specs.Places.{Posts}
use Rattle.cts_framing.specs.Framing.{Output}
use Rattle.cts_framing.specs.Packets.{capped}
use Rattle.cts_framing.proofs.Sound.{chains_are_sound}
use Rattle.cts_outside.specs.Lines.{Line, at_now, after_take, told_after}
use Rattle.cts_outside.specs.declared.link.Taken.TheVariants.{Got, Nothing, End, Failed}
use Rattle.cts_table.specs.States.{Shown, fits}
use Rattle.cts_table.specs.declared.basis.Basis.{Basis}
use Rattle.cts_trace.specs.Connections.{Shows}
use Rattle.cts_entry.specs.Room.{Capacity}
use Rattle.cts_trace.specs.Lines.{LacksRoom}
use Rattle.cts_trace.specs.Routing.{Routing, is_for, posted_entries, queue, said_of, spell, time_in}
use Rattle.cts_turn.specs.declared.rule.View.{View}
use Rattle.cts_line.specs.Doing.{ClosesTaken, ClosesUnfed, IsRefused, PostsIn}
use Rattle.cts_line.specs.Ending.{Keeps, has_stop}
use Rattle.cts_worker.specs.Holds.{Held, InHold, Onward}
use Rattle.cts_line.specs.Rows.{Row, SaidInRows}
use Rattle.cts_line.specs.Talks.{Caught, Ends, IsClosed, Puts, Suits, Takes, Talking, Talks, TalksAt, Waits, Went, after, closed_by, room_of, stopped_by}
use Rattle.cts_line.specs.Telling.{SomeLine}
use Rattle.cts_line.specs.declared.posting.Posting.{Posting}
use Rattle.cts_line.specs.declared.posting.Posting.TheVariants.{Posted, Closed as ClosedPosting}
use Rattle.cts_line.proofs.Bodies.{packets_shown}
use Rattle.cts_line.proofs.Closing.{Closing, closes}
use Rattle.cts_line.proofs.Growing.{Grows}
use Rattle.cts_line.proofs.Keeping.{Quiet, keeps_closed, keeps_quiet, packets_bytes, quiet_both, quiet_none, quiet_others, quiet_packets, stop_both, stop_closed, stop_packets, stop_same, stop_strange}
use Rattle.cts_line.proofs.Pieces.{Feeds, blames_full, blames_memory, by_memory, by_room, goes_on, last_by, last_closing, refused_closing, takes_piece, unfed_closing}
use Rattle.cts_line.proofs.Rows.{packets_row}
use Rattle.cts_line.proofs.Steps.{ends_closing, looks_not, looks_talk, stopped_talks, takes_end, takes_failed, takes_nothing, talks_map, talks_step}

-- ---- room

fits_less : (room : Capacity) (e b n n' k k' : ℕ) → n ≤ n' → k ≤ k' → (nat_le (e + n) room.entries && nat_le (b + k) room.bytes) ≡ false → (nat_le (e + n') room.entries && nat_le (b + k') room.bytes) ≡ false
fits_less room e b n n' k k' le lb full = grind (arith, nat_tests)

-- what finds no room for the entries of some packets finds none for more packets
lacks_room : (s : Shown) (m : ℕ) (now : Time) (packets lost : List Output) (entries : List Entry) → entries ≡ posted_entries (site_routing s.basis.site) s.entries now m packets → entries ≢ [] → fits s (length entries) (bytes_in entries) ≡ false
    → LacksRoom (room_of s.basis) s.entries (packets ++ lost)
lacks_room s m now packets lost entries is some full =
    let g = site_routing s.basis.site in
    let count : length entries ≡ length packets = ap length is ∙ length-map packets (λ (o : Output). record { by = m; time = time_in o.heading now; what = said_of g s.entries m o }) in
    let size : bytes_in entries ≡ sum_by (λ (o : Output). length o.bytes) packets = ap bytes_in is ∙ packets_bytes g s.entries now m packets in
    let long = length-append packets lost in
    let heavy = sum_by-append (λ (o : Output). length o.bytes) packets lost in (
      (λ none. some (is ∙ ap (posted_entries g s.entries now m) (first_none packets lost none))),
      fits_less (room_of s.basis) (entries_in s.entries) (bytes_in s.entries) (length entries) (length (packets ++ lost)) (bytes_in entries) (sum_by (λ (o : Output). length o.bytes) (packets ++ lost))
          (omega (arith, count, long)) (omega (arith, size, heavy)) full,
    )
  where
    first_none : (xs ys : List Output) → xs ++ ys ≡ [] → xs ≡ []
    first_none [] ys e = refl
    first_none (x ∷ xs) ys e = absurd (cc e)

module _ {G : Type 0} (m : ℕ) (old new : View Entry G) (s t : Shown) (held : Held m old new s t) where
  abbrev pub grows_to : (history added : List Entry) → history ≡ s.entries ++ added → Grows m old.found old.seen added new.found history
  grows_to history added e = record {
    others = held.others;
    strange = held.strange;
    seen = e ∙ ap (λ (l : List Entry). l ++ added) held.began;
    found_is = held.found ∙ ap (λ (l : List Entry). old.found ++ length l ∷ []) held.began;
  }

  abbrev pub grows_by : (added : List Entry) → t.entries ≡ s.entries ++ added → Grows m old.found old.seen added new.found new.seen
  grows_by added e = grows_to new.seen added (held.seen ∙ e)

  pub onward_by : (added : List Entry) → t.entries ≡ s.entries ++ added → Onward old new
  onward_by added e = record {
    makers = held.makers;
    seen = (held.others ++ added, held.seen ∙ (e ∙ (ap (λ (l : List Entry). l ++ added) held.began ∙ append_assoc old.seen held.others added)));
    found = (length s.entries ∷ [], held.found);
  }

  -- ---- what is kept

  pub quiet_keeps : (added : List Entry) → t.entries ≡ s.entries ++ added → Quiet m added → Keeps m old.seen new.seen None
  quiet_keeps added e q =
      let is : new.seen ≡ old.seen ++ (held.others ++ added) = held.seen ∙ (e ∙ (ap (λ (l : List Entry). l ++ added) held.began ∙ append_assoc old.seen held.others added)) in
      subst (λ (l : List Entry). Keeps m old.seen l None) (sym is) (keeps_quiet m old.seen (held.others ++ added) (quiet_both m held.others added (quiet_others m held.others held.strange) q))

  pub closed_keeps : (time : Time) (h : Shown) (c d : HeldConnection) (why : Why) (unposted : ℕ) (added : List Entry) → h.entries ≡ s.entries ++ added → Quiet m added → Closes m time h c why unposted t d → Keeps m old.seen new.seen (Some why)
  closed_keeps time h c d why unposted added e q k =
      let is : h.entries ≡ old.seen ++ (held.others ++ added) = e ∙ (ap (λ (l : List Entry). l ++ added) held.began ∙ append_assoc old.seen held.others added) in
      subst (λ (l : List Entry). Keeps m old.seen l (Some why)) (sym (held.seen ∙ (k.grown.entries ∙ ap (λ (l : List Entry). l ++ closed_of m time h c why unposted ∷ []) is)))
      (keeps_closed m old.seen (held.others ++ added) time why (loss_in c.chain.stages) unposted (waiting h.basis.site m h.entries c.cursor) (quiet_both m held.others added (quiet_others m held.others held.strange) q))

  pub close_keeps : (time : Time) (c d : HeldConnection) (why : Why) → Closes m time s c why 0 t d → Keeps m old.seen new.seen (Some why)
  close_keeps time c d why k = closed_keeps time s c d why 0 [] (sym (append-nil s.entries)) (quiet_none m) k

  pub post_keeps : (time : Time) (c d : HeldConnection) (piece : List ℕ) (posting : Posting) → PostsIn m time s c piece posting t d → Keeps m old.seen new.seen (closed_by posting)
  post_keeps time c d piece (Posted some) (inl k) = quiet_keeps k.entries k.posts.1.entries (entries_quiet k.entries k.takes.packets k.takes.entries_are)
    where
      entries_quiet : (entries : List Entry) (packets : List Output) → entries ≡ posted_entries (site_routing s.basis.site) s.entries time m packets → Quiet m entries
      entries_quiet entries packets is = subst (Quiet m) (sym is) (quiet_packets (site_routing s.basis.site) s.entries time m packets)
  post_keeps time c d piece (ClosedPosting why) (inl k) = by_closes k.posts
    where
      entries_quiet : Quiet m k.entries
      entries_quiet = subst (Quiet m) (sym k.takes.entries_are) (quiet_packets (site_routing s.basis.site) s.entries time m k.takes.packets)

      by_closes : ClosesTaken m time s k.mid k.entries k.unposted k.failed why t d → Keeps m old.seen new.seen (Some why)
      by_closes (inl p) = closed_keeps time p.3.0 k.mid d why p.0.unposted k.entries p.3.1.entries entries_quiet p.3.2
      by_closes (inr p) = closed_keeps time s k.mid d why _ [] (sym (append-nil s.entries)) (quiet_none m) p.1
  post_keeps time c d piece (Posted some) (inr k) = absurd (let e = k.closed in cc)
  post_keeps time c d piece (ClosedPosting why) (inr k) =
      let e : why ≡ NoMemory = (let f = k.closed in cc) in
      subst (λ (w : Why). Keeps m old.seen new.seen (Some w)) (sym e) (closed_keeps time s k.mid d NoMemory 0 [] (sym (append-nil s.entries)) (quiet_none m) k.closes)

  -- ---- who stopped the server

  -- the line did not
  pub stop_kept_by : (added : List Entry) → t.entries ≡ s.entries ++ added → has_stop m added ≡ false → has_stop m new.seen ≡ has_stop m old.seen
  stop_kept_by added e none =
      let is : new.seen ≡ old.seen ++ (held.others ++ added) = held.seen ∙ (e ∙ (ap (λ (l : List Entry). l ++ added) held.began ∙ append_assoc old.seen held.others added)) in
      ap (has_stop m) is ∙ stop_same m old.seen (held.others ++ added) (stop_both m held.others added (stop_strange m held.others held.strange) none)

  -- ---- what is told

  -- a connection that was closed in the hold
  closed_told : (time : Time) (h : Shown) (c d : HeldConnection) (why : Why) (unposted : ℕ) (line : Line) → h.basis ≡ s.basis → Closes m time h c why unposted t d
      → Closing (site_routing s.basis.site) (room_of s.basis) m why c.chain.stages c.cursor.place c.cursor.refused unposted new.found h.entries line → SaidInRows (site_routing s.basis.site) (room_of s.basis) m new.found (line.past ++ option_to_list line.now) new.seen
  closed_told time h c d why unposted line same k closing =
      let entry : SiteData → Entry = λ site. record { by = m; time = time; what = Closed why (loss_in c.chain.stages) unposted (waiting site m h.entries c.cursor) } in
      let seen : new.seen ≡ h.entries ++ entry s.basis.site ∷ [] = held.seen ∙ (k.grown.entries ∙ ap (λ (b : Basis). h.entries ++ entry b.site ∷ []) same) in
      subst (λ (l : List Entry). SaidInRows (site_routing s.basis.site) (room_of s.basis) m new.found (line.past ++ option_to_list line.now) l) (sym seen)
      (closes (site_routing s.basis.site) (room_of s.basis) m time why c.chain.stages c.cursor.place c.cursor.refused unposted new.found h.entries line closing)

  pub close_follows : (time : Time) (c d : HeldConnection) (why : Why) → Suits s.basis.site m c.chain → Closes m time s c why 0 t d → (told : Option Line)
      → TalksAt (site_routing s.basis.site) (room_of s.basis) m (Ends why) c old told → IsClosed (site_routing s.basis.site) (room_of s.basis) m new told
  close_follows time c d why suits k None x = tt
  close_follows time c d why suits k (Some line) x =
      closed_told time s c d why 0 line refl k
      (ends_closing (site_routing s.basis.site) (room_of s.basis) m c.cursor.place c.cursor.refused why c.chain.stages old.found new.found old.seen s.entries line (grows_to s.entries [] (sym (append-nil s.entries))) suits.framings x)

  module _ (time : Time) (c : HeldConnection) (piece : List ℕ) (suits : Suits s.basis.site m c.chain) (line : Line) (n : ℕ) (buffer : List ℕ) (is : piece ≡ take n buffer)
      (x : Talking (site_routing s.basis.site) (room_of s.basis) m Takes c.chain.stages c.cursor.place c.cursor.refused old.found old.seen line) where
    feeds : (mid : HeldConnection) (entries : List Entry) (unposted : ℕ) (failed : Option Why) (k : TakesPiece s.basis.site s.entries m time c.chain piece entries unposted failed mid.chain)
        → Feeds (site_routing s.basis.site) m c.chain.stages mid.chain.stages piece (k.packets ++ k.lost)
    feeds mid entries unposted failed k = record {
      stands = k.stands;
      settled = k.settled;
      sound = chains_are_sound s.basis.site m;
      framings_old = suits.framings;
      framings = same_framings c.chain mid.chain k.same ∙ suits.framings;
    }

    shown : (entries : List Entry) (packets : List Output) → entries ≡ posted_entries (site_routing s.basis.site) s.entries time m packets → Posts m (Shows (site_routing s.basis.site) m) (old.seen ++ held.others) entries packets
    shown entries packets e =
        subst (λ (h : List Entry). Posts m (Shows (site_routing s.basis.site) m) h entries packets) held.began
        (subst (λ (es : List Entry). Posts m (Shows (site_routing s.basis.site) m) s.entries es packets) (sym e) (packets_shown (site_routing s.basis.site) m s.entries time packets))

    row : (entries : List Entry) (packets : List Output) → entries ≡ posted_entries (site_routing s.basis.site) s.entries time m packets → Row (site_routing s.basis.site) m (old.seen ++ held.others) packets entries
    row entries packets e = packets_row (site_routing s.basis.site) m (old.seen ++ held.others) s.entries entries time packets e (shown entries packets e)

    posted_told : (mid d : HeldConnection) (entries : List Entry) (unposted : ℕ) (failed : Option Why) (k : TakesPiece s.basis.site s.entries m time c.chain piece entries unposted failed mid.chain) → mid.cursor ≡ c.cursor → end_of unposted failed ≡ None
        → t.entries ≡ s.entries ++ entries → d ≡ mid → TalksAt (site_routing s.basis.site) (room_of s.basis) m Waits d new (Some (at_now (after_take (Got n) buffer) line))
    posted_told mid d entries unposted failed k cursor none grown same =
        let g = site_routing s.basis.site in
        let goes = goes_on unposted failed k.lost (last_fault 1 mid.chain.stages) none k.why_is k.count in
        let fed = subst (λ (l : List Output). Feeds g m c.chain.stages mid.chain.stages piece l) (ap (λ (l : List Output). k.packets ++ l) goes.0 ∙ append-nil k.packets) (feeds mid entries unposted failed k) in
        let talks = takes_piece g (room_of s.basis) m c.cursor.place c.cursor.refused c.chain.stages mid.chain.stages old.found new.found old.seen entries new.seen line (grows_by entries grown) x n buffer piece is k.packets fed goes.1 (shown entries k.packets k.entries_are) (row entries k.packets k.entries_are) in
        subst (λ (y : HeldConnection). TalksAt g (room_of s.basis) m Waits y new (Some (at_now (after_take (Got n) buffer) line))) (sym same)
        (subst (λ (y : HeldCursor). Talking g (room_of s.basis) m Waits mid.chain.stages y.place y.refused new.found new.seen (at_now (after_take (Got n) buffer) line)) (sym cursor) talks)

    refused_told : (mid d : HeldConnection) (entries : List Entry) (unposted : ℕ) (failed : Option Why) (why : Why) (k : TakesPiece s.basis.site s.entries m time c.chain piece entries unposted failed mid.chain)
        → IsRefused s entries why → Closing (site_routing s.basis.site) (room_of s.basis) m why mid.chain.stages c.cursor.place c.cursor.refused (capped (unposted + length entries)) new.found s.entries (at_now (after_take (Got n) buffer) line)
    refused_told mid d entries unposted failed why k (inl r) =
        let g = site_routing s.basis.site in
        let full = lacks_room s m time k.packets k.lost entries k.entries_are r.1 r.2 in
        subst (λ (w : Why). Closing g (room_of s.basis) m w mid.chain.stages c.cursor.place c.cursor.refused (capped (unposted + length entries)) new.found s.entries (at_now (after_take (Got n) buffer) line)) (sym r.0)
        (refused_closing g (room_of s.basis) m c.cursor.place c.cursor.refused c.chain.stages mid.chain.stages old.found new.found old.seen [] s.entries line (grows_to s.entries [] (sym (append-nil s.entries))) x n buffer piece is
        Full (capped (unposted + length entries)) (k.packets ++ k.lost) (feeds mid entries unposted failed k) by_room (blames_full (last_fault 1 mid.chain.stages)) (inl refl) refl (counts k)
        (λ y whole left. subst (λ (h : List Entry). LacksRoom (room_of s.basis) h y.left) (sym whole) (subst (λ (l : List Output). LacksRoom (room_of s.basis) s.entries l) (sym left) full)))
      where
        counts : (k : TakesPiece s.basis.site s.entries m time c.chain piece entries unposted failed mid.chain) → capped (unposted + length entries) ≡ capped (length (k.packets ++ k.lost))
        counts k = (let a = ap length k.entries_are ∙ length-map k.packets (λ (o : Output). record { by = m; time = time_in o.heading time; what = said_of (site_routing s.basis.site) s.entries m o }) in let b = length-append k.packets k.lost in let u = k.count in omega (arith, a, b, u))
    refused_told mid d entries unposted failed why k (inr r) =
        let g = site_routing s.basis.site in
        let a = ap length k.entries_are ∙ length-map k.packets (λ (o : Output). record { by = m; time = time_in o.heading time; what = said_of (site_routing s.basis.site) s.entries m o }) in
        let b = length-append k.packets k.lost in
        let u = k.count in
        subst (λ (w : Why). Closing g (room_of s.basis) m w mid.chain.stages c.cursor.place c.cursor.refused (capped (unposted + length entries)) new.found s.entries (at_now (after_take (Got n) buffer) line)) (sym r)
        (refused_closing g (room_of s.basis) m c.cursor.place c.cursor.refused c.chain.stages mid.chain.stages old.found new.found old.seen [] s.entries line (grows_to s.entries [] (sym (append-nil s.entries))) x n buffer piece is
        NoMemory (capped (unposted + length entries)) (k.packets ++ k.lost) (feeds mid entries unposted failed k) by_memory (blames_memory (last_fault 1 mid.chain.stages)) (inr refl) refl (omega (arith, a, b, u)) (λ y whole left. tt))

    -- the cursor of a connection that was fed is as before
    cursor_closing : (mid : HeldConnection) (why : Why) (unposted : ℕ) (history : List Entry) (l : Line) → mid.cursor ≡ c.cursor → Closing (site_routing s.basis.site) (room_of s.basis) m why mid.chain.stages c.cursor.place c.cursor.refused unposted new.found history l
        → Closing (site_routing s.basis.site) (room_of s.basis) m why mid.chain.stages mid.cursor.place mid.cursor.refused unposted new.found history l
    cursor_closing mid why unposted history l same k = subst (λ (y : HeldCursor). Closing (site_routing s.basis.site) (room_of s.basis) m why mid.chain.stages y.place y.refused unposted new.found history l) (sym same) k

    closes_told : (mid d : HeldConnection) (entries : List Entry) (unposted : ℕ) (failed : Option Why) (why : Why) (k : TakesPiece s.basis.site s.entries m time c.chain piece entries unposted failed mid.chain) → mid.cursor ≡ c.cursor
        → ClosesTaken m time s mid entries unposted failed why t d → IsClosed (site_routing s.basis.site) (room_of s.basis) m new (Some (at_now (after_take (Got n) buffer) line))
    closes_told mid d entries unposted failed why k cursor (inl p) =
        let g = site_routing s.basis.site in
        let end : EndData = p.0 in
        let h : Shown = p.3.0 in
        let by = last_by (room_of s.basis) unposted failed end k.lost (last_fault 1 mid.chain.stages) p.1 k.why_is k.count in
        let closing = last_closing g (room_of s.basis) m c.cursor.place c.cursor.refused c.chain.stages mid.chain.stages old.found new.found old.seen entries h.entries line (grows_to h.entries entries p.3.1.entries) x n buffer piece is
        end k.packets k.lost (feeds mid entries unposted failed k) by (shown entries k.packets k.entries_are) (row entries k.packets k.entries_are) in
        closed_told time h mid d why end.unposted (at_now (after_take (Got n) buffer) line) p.3.1.basis p.3.2
        (cursor_closing mid why end.unposted h.entries (at_now (after_take (Got n) buffer) line) cursor
        (subst (λ (w : Why). Closing g (room_of s.basis) m w mid.chain.stages c.cursor.place c.cursor.refused end.unposted new.found h.entries (at_now (after_take (Got n) buffer) line)) (sym p.2) closing))
    closes_told mid d entries unposted failed why k cursor (inr p) =
        closed_told time s mid d why (capped (unposted + length entries)) (at_now (after_take (Got n) buffer) line) refl p.1
        (cursor_closing mid why (capped (unposted + length entries)) s.entries (at_now (after_take (Got n) buffer) line) cursor (refused_told mid d entries unposted failed why k p.0))

    unfed_told : (posting : Posting) (d : HeldConnection) → ClosesUnfed m time s c posting t d → IsClosed (site_routing s.basis.site) (room_of s.basis) m new (Some (at_now (after_take (Got n) buffer) line))
    unfed_told posting d k =
        let g = site_routing s.basis.site in
        closed_told time s k.mid d NoMemory 0 (at_now (after_take (Got n) buffer) line) refl k.closes
        (cursor_closing k.mid NoMemory 0 s.entries (at_now (after_take (Got n) buffer) line) k.cursor
        (unfed_closing g (room_of s.basis) m c.cursor.place c.cursor.refused c.chain.stages k.mid.chain.stages old.found new.found old.seen [] s.entries line (grows_to s.entries [] (sym (append-nil s.entries))) x n buffer piece is
        (chains_are_sound s.basis.site m) suits.framings k.reserved (same_framings c.chain k.mid.chain k.same ∙ suits.framings) refl))

  pub post_follows : (time : Time) (c d : HeldConnection) (piece : List ℕ) (posting : Posting) → Suits s.basis.site m c.chain → PostsIn m time s c piece posting t d → (told : Option Line) (n : ℕ) (buffer : List ℕ) → piece ≡ take n buffer
      → TalksAt (site_routing s.basis.site) (room_of s.basis) m Takes c old told → Went (site_routing s.basis.site) (room_of s.basis) m d new (told_after (at_now (after_take (Got n) buffer)) told) (closed_by posting)
  post_follows time c d piece (Posted some) suits k None n buffer is x = tt
  post_follows time c d piece (ClosedPosting why) suits k None n buffer is x = tt
  post_follows time c d piece (Posted some) suits (inl k) (Some line) n buffer is x = posted_told time c piece suits line n buffer is x k.mid d k.entries k.unposted k.failed k.takes k.cursor k.posts.0 k.posts.1.entries k.posts.2
  post_follows time c d piece (ClosedPosting why) suits (inl k) (Some line) n buffer is x = closes_told time c piece suits line n buffer is x k.mid d k.entries k.unposted k.failed why k.takes k.cursor k.posts
  post_follows time c d piece (Posted some) suits (inr k) (Some line) n buffer is x = absurd (let e = k.closed in cc)
  post_follows time c d piece (ClosedPosting why) suits (inr k) (Some line) n buffer is x = unfed_told time c piece suits line n buffer is x (ClosedPosting why) d k

-- ---- over the basis of a turn

module _ {G : Type 0} (base : Basis) (m : ℕ) (old new : View Entry G) (c d : HeldConnection) where
  pub close_onward : (why : Why) → (time : Time) × InHold base m old new (λ s t. Closes m time s c why 0 t d) → Onward old new
  close_onward why h = onward_by m old new h.1.0 h.1.1 h.1.3 (closed_of m h.0 h.1.0 c why 0 ∷ []) h.1.4.grown.entries

  pub close_kept : (why : Why) → (time : Time) × InHold base m old new (λ s t. Closes m time s c why 0 t d) → Keeps m old.seen new.seen (Some why)
  close_kept why h = close_keeps m old new h.1.0 h.1.1 h.1.3 h.0 c d why h.1.4

  pub close_told : (why : Why) → Suits base.site m c.chain → (time : Time) × InHold base m old new (λ s t. Closes m time s c why 0 t d) → (told : Option Line)
      → TalksAt (site_routing base.site) (room_of base) m (Ends why) c old told → IsClosed (site_routing base.site) (room_of base) m new told
  close_told why suits h told =
      subst (λ (b : Basis). TalksAt (site_routing b.site) (room_of b) m (Ends why) c old told → IsClosed (site_routing b.site) (room_of b) m new told) h.1.2
      (λ x. close_follows m old new h.1.0 h.1.1 h.1.3 h.0 c d why (subst (λ (b : Basis). Suits b.site m c.chain) (sym h.1.2) suits) h.1.4 told x)

  pub close_stop : (why : Why) → (time : Time) × InHold base m old new (λ s t. Closes m time s c why 0 t d) → has_stop m new.seen ≡ has_stop m old.seen
  close_stop why h =
      stop_kept_by m old new h.1.0 h.1.1 h.1.3 (closed_of m h.0 h.1.0 c why 0 ∷ []) h.1.4.grown.entries
      (stop_closed m h.0 why (loss_in c.chain.stages) 0 (waiting h.1.0.basis.site m h.1.0.entries c.cursor))

  -- what a hold appended that was to post a piece: no Stop
  record PostingAdds (s t : Shown) : Type 0 where
    added : List Entry
    entries : t.entries ≡ s.entries ++ added
    none : has_stop m added ≡ false

  adds_closed : (time : Time) (s h t : Shown) (k : HeldConnection) (why : Why) (unposted : ℕ) (entries : List Entry) → h.entries ≡ s.entries ++ entries → has_stop m entries ≡ false → Closes m time h k why unposted t d → PostingAdds s t
  adds_closed time s h t k why unposted entries e none closes = record {
    added = entries ++ closed_of m time h k why unposted ∷ [];
    entries = closes.grown.entries ∙ (ap (λ (l : List Entry). l ++ closed_of m time h k why unposted ∷ []) e ∙ append_assoc s.entries entries (closed_of m time h k why unposted ∷ []));
    none = stop_both m entries (closed_of m time h k why unposted ∷ []) none (stop_closed m time why (loss_in k.chain.stages) unposted (waiting h.basis.site m h.entries k.cursor));
  }

  adds_of : (piece : List ℕ) (posting : Posting) (time : Time) (s t : Shown) → PostsIn m time s c piece posting t d → PostingAdds s t
  adds_of piece (Posted some) time s t (inl k) = record {
    added = k.entries;
    entries = k.posts.1.entries;
    none = subst (λ (es : List Entry). has_stop m es ≡ false) (sym k.takes.entries_are) (stop_packets (site_routing s.basis.site) s.entries time m k.takes.packets);
  }
  adds_of piece (Posted some) time s t (inr k) = absurd (let e = k.closed in cc)
  adds_of piece (ClosedPosting why) time s t (inr k) = adds_closed time s s t k.mid NoMemory 0 [] (sym (append-nil s.entries)) refl k.closes
  adds_of piece (ClosedPosting why) time s t (inl k) = by_closes k.posts
    where
      no_stop : has_stop m k.entries ≡ false
      no_stop = subst (λ (es : List Entry). has_stop m es ≡ false) (sym k.takes.entries_are) (stop_packets (site_routing s.basis.site) s.entries time m k.takes.packets)

      by_closes : ClosesTaken m time s k.mid k.entries k.unposted k.failed why t d → PostingAdds s t
      by_closes (inl p) = adds_closed time s p.3.0 t k.mid why p.0.unposted k.entries p.3.1.entries no_stop p.3.2
      by_closes (inr p) = adds_closed time s s t k.mid why (capped (k.unposted + length k.entries)) [] (sym (append-nil s.entries)) refl p.1

  pub post_onward : (piece : List ℕ) (posting : Posting) → (time : Time) × InHold base m old new (λ s t. PostsIn m time s c piece posting t d) → Onward old new
  post_onward piece posting h = let a = adds_of piece posting h.0 h.1.0 h.1.1 h.1.4 in onward_by m old new h.1.0 h.1.1 h.1.3 a.added a.entries

  pub post_stop : (piece : List ℕ) (posting : Posting) → (time : Time) × InHold base m old new (λ s t. PostsIn m time s c piece posting t d) → has_stop m new.seen ≡ has_stop m old.seen
  post_stop piece posting h = let a = adds_of piece posting h.0 h.1.0 h.1.1 h.1.4 in stop_kept_by m old new h.1.0 h.1.1 h.1.3 a.added a.entries a.none

  pub post_kept : (piece : List ℕ) (posting : Posting) → (time : Time) × InHold base m old new (λ s t. PostsIn m time s c piece posting t d) → Keeps m old.seen new.seen (closed_by posting)
  post_kept piece posting h = post_keeps m old new h.1.0 h.1.1 h.1.3 h.0 c d piece posting h.1.4

  pub post_told : (piece : List ℕ) (posting : Posting) → Suits base.site m c.chain → (time : Time) × InHold base m old new (λ s t. PostsIn m time s c piece posting t d) → (told : Option Line) (n : ℕ) (buffer : List ℕ) → piece ≡ take n buffer
      → TalksAt (site_routing base.site) (room_of base) m Takes c old told → Went (site_routing base.site) (room_of base) m d new (told_after (at_now (after_take (Got n) buffer)) told) (closed_by posting)
  post_told piece posting suits h told n buffer is =
      subst (λ (b : Basis). TalksAt (site_routing b.site) (room_of b) m Takes c old told → Went (site_routing b.site) (room_of b) m d new (told_after (at_now (after_take (Got n) buffer)) told) (closed_by posting)) h.1.2
      (λ x. post_follows m old new h.1.0 h.1.1 h.1.3 h.0 c d piece posting (subst (λ (b : Basis). Suits b.site m c.chain) (sym h.1.2) suits) h.1.4 told n buffer is x)

-- ---- a look

pub filter_few : (test : Entry → Bool) (xs : List Entry) → length (filter test xs) ≤ length xs
filter_few test [] = omega arith
filter_few test (x ∷ xs) = by_test (test x) (filter_few test xs)
  where
    by_test : (b : Bool) → length (filter test xs) ≤ length xs → length (cond b (x ∷ filter test xs) (filter test xs)) ≤ length (x ∷ xs)
    by_test true f = omega (arith, f)
    by_test false f = omega (arith, f)

queue_few : (g : Routing) (m : ℕ) (entries : List Entry) → length (queue g m entries) ≤ length entries
queue_few g m entries = filter_few (is_for g m) entries

-- how many spellings a look gives
pub spellings_few : (site : SiteData) (specs : List SpecData) (m place : ℕ) (seen : List Entry) → length (map (spell_by site specs) (queue (site_routing site) m (drop place seen))) ≤ length seen - place
spellings_few site specs m place seen =
    let a = length-map (queue (site_routing site) m (drop place seen)) (spell_by site specs) in
    let b = queue_few (site_routing site) m (drop place seen) in
    let d = length-drop place seen in
    omega (arith, a, b, d)

module _ {G : Type 0} (base : Basis) (m : ℕ) (old new : View Entry G) (h : InHold base m old new (λ s t. t ≡ s)) where
  same_entries : h.1.entries ≡ h.0.entries ++ []
  same_entries = ap (λ (x : Shown). x.entries) h.4 ∙ sym (append-nil h.0.entries)

  pub look_onward : Onward old new
  look_onward = onward_by m old new h.0 h.1 h.3 [] same_entries

  pub look_kept : Keeps m old.seen new.seen None
  look_kept = quiet_keeps m old new h.0 h.1 h.3 [] same_entries (quiet_none m)

  pub look_stop : has_stop m new.seen ≡ has_stop m old.seen
  look_stop = stop_kept_by m old new h.0 h.1 h.3 [] same_entries refl

  pub look_grows : Grows m old.found old.seen [] new.found new.seen
  look_grows = grows_by m old new h.0 h.1 h.3 [] same_entries

  pub look_long : length old.seen ≤ length new.seen
  look_long = let o = look_onward.seen in let l = ap length o.1 ∙ length-append old.seen o.0 in omega (arith, l)

  -- the look itself: what it saw is to be put
  looked_up : (c : HeldConnection) (spellings given : List (Option (List ℕ))) (place : ℕ) (told : Option Line) → Suits base.site m c.chain
      → spellings ≡ map (spell_by base.site (writers c.chain)) (queue (site_routing base.site) m (entries_ahead c new.seen)) → place ≡ length new.seen → given ≡ spellings
      → TalksAt (site_routing base.site) (room_of base) m Waits c old told
      → Talks (site_routing base.site) (room_of base) m (Puts given) c.chain.stages place c.cursor.refused new.found new.seen told
  looked_up c spellings given place told suits saw is same t =
      let g = site_routing base.site in
      let saw' : spellings ≡ map (spell g m) (queue g m (drop c.cursor.place new.seen)) = saw ∙ ap (λ (specs : List SpecData). map (spell_by base.site specs) (queue g m (drop c.cursor.place new.seen))) suits.writing in
      let looked = talks_map g (room_of base) m Waits (Puts spellings) c.chain.stages c.chain.stages c.cursor.place (length new.seen) c.cursor.refused c.cursor.refused old.found new.found old.seen new.seen told t
      (λ line u. looks_talk g (room_of base) m c.cursor.place c.cursor.refused c.chain.stages old.found new.found old.seen new.seen look_grows spellings line saw' u) in
      subst (λ (l : List (Option (List ℕ))). Talks g (room_of base) m (Puts l) c.chain.stages place c.cursor.refused new.found new.seen told) (sym same)
      (subst (λ (k : ℕ). Talks g (room_of base) m (Puts spellings) c.chain.stages k c.cursor.refused new.found new.seen told) (sym is) looked)

  pub caught_up : (c : HeldConnection) (spellings given : List (Option (List ℕ))) (place unsent : ℕ) (end : Option Why) (stop : Bool) (told told' : Option Line) → Suits base.site m c.chain
      → spellings ≡ map (spell_by base.site (writers c.chain)) (queue (site_routing base.site) m (entries_ahead c new.seen)) → place ≡ length new.seen → stop ≡ is_stopped new.seen → given ≡ spellings
      → (Talks (site_routing base.site) (room_of base) m (Puts given) c.chain.stages place c.cursor.refused new.found new.seen told → Talks (site_routing base.site) (room_of base) m (after Caught end) c.chain.stages place (c.cursor.refused + unsent) new.found new.seen told')
      → TalksAt (site_routing base.site) (room_of base) m Waits c old told
      → Talks (site_routing base.site) (room_of base) m (after Takes (stopped_by end stop)) c.chain.stages place (c.cursor.refused + unsent) new.found new.seen told'
  caught_up c spellings given place unsent end stop told told' suits saw is stands same puts t =
      stopped_talks (site_routing base.site) (room_of base) m place (c.cursor.refused + unsent) c.chain.stages new.found new.seen told' end stop stands
      (puts (looked_up c spellings given place told suits saw is same t))

  -- the same of some line
  pub caught_some : (c : HeldConnection) (spellings given : List (Option (List ℕ))) (place unsent : ℕ) (end : Option Why) (stop : Bool) → Suits base.site m c.chain
      → spellings ≡ map (spell_by base.site (writers c.chain)) (queue (site_routing base.site) m (entries_ahead c new.seen)) → place ≡ length new.seen → stop ≡ is_stopped new.seen → given ≡ spellings
      → (SomeLine (λ told. Talks (site_routing base.site) (room_of base) m (Puts given) c.chain.stages place c.cursor.refused new.found new.seen told)
      → SomeLine (λ told. Talks (site_routing base.site) (room_of base) m (after Caught end) c.chain.stages place (c.cursor.refused + unsent) new.found new.seen told))
      → SomeLine (λ told. TalksAt (site_routing base.site) (room_of base) m Waits c old told)
      → SomeLine (λ told. Talks (site_routing base.site) (room_of base) m (after Takes (stopped_by end stop)) c.chain.stages place (c.cursor.refused + unsent) new.found new.seen told)
  caught_some c spellings given place unsent end stop suits saw is stands same puts t =
      let u = puts (t.0, looked_up c spellings given place (Some t.0) suits saw is same t.1) in (
        u.0,
        stopped_talks (site_routing base.site) (room_of base) m place (c.cursor.refused + unsent) c.chain.stages new.found new.seen (Some u.0) end stop stands u.1,
      )

  pub looked_not : (c : HeldConnection) (told : Option Line) → TalksAt (site_routing base.site) (room_of base) m Waits c old told → TalksAt (site_routing base.site) (room_of base) m (Ends NoMemory) c new told
  looked_not c told t =
      talks_map (site_routing base.site) (room_of base) m Waits (Ends NoMemory) c.chain.stages c.chain.stages c.cursor.place c.cursor.place c.cursor.refused c.cursor.refused old.found new.found old.seen new.seen told t
      (λ line u. looks_not (site_routing base.site) (room_of base) m c.cursor.place c.cursor.refused c.chain.stages old.found new.found old.seen new.seen look_grows line u)

-- ---- a round

pub at_ok : {T E : Type 0} (P : T → Type 0) {r : Result T E} {x : T} → r ≡ Ok x → IfOk r P → P x
at_ok {T} {E} P {r} {x} e h = subst (λ (y : Result T E). IfOk y P) e h

module _ {G : Type 0} (g : Routing) (room : Capacity) (m : ℕ) (c : HeldConnection) (v : View Entry G) where
  pub ends_by : (told : Option Line) (end : Option Why) (why : Why) → end ≡ Some why → TalksAt g room m (after Takes end) c v told → TalksAt g room m (Ends why) c v told
  ends_by told end why e t = subst (λ (x : Option Why). TalksAt g room m (after Takes x) c v told) e t

  pub takes_by : (told : Option Line) (end : Option Why) → end ≡ None → TalksAt g room m (after Takes end) c v told → TalksAt g room m Takes c v told
  takes_by told end e t = subst (λ (x : Option Why). TalksAt g room m (after Takes x) c v told) e t

  pub closed_went : (told : Option Line) (closed : Option Why) (why : Why) → closed ≡ Some why → IsClosed g room m v told → Went g room m c v told closed
  closed_went told closed why e t = subst (λ (x : Option Why). Went g room m c v told x) (sym e) t

  pub went_told : (old new : Option Line) (closed : Option Why) → new ≡ old → Went g room m c v old closed → Went g room m c v new closed
  went_told old new closed e t = subst (λ (o : Option Line). Went g room m c v o closed) (sym e) t

  pub nothing_taken : (old new : Option Line) (buffer : List ℕ) → new ≡ told_after (at_now (after_take Nothing buffer)) old → TalksAt g room m Takes c v old → TalksAt g room m Waits c v new
  nothing_taken old new buffer e t =
      talks_step g room m Takes Waits c.chain.stages c.chain.stages c.cursor.place c.cursor.place c.cursor.refused c.cursor.refused v.found v.found v.seen v.seen (at_now (after_take Nothing buffer)) old new e t
      (λ line u. takes_nothing g room m c.cursor.place c.cursor.refused c.chain.stages v.found v.seen line buffer u)

  pub end_taken : (old new : Option Line) (buffer : List ℕ) → new ≡ told_after (at_now (after_take End buffer)) old → TalksAt g room m Takes c v old → TalksAt g room m (Ends PeerEnded) c v new
  end_taken old new buffer e t =
      talks_step g room m Takes (Ends PeerEnded) c.chain.stages c.chain.stages c.cursor.place c.cursor.place c.cursor.refused c.cursor.refused v.found v.found v.seen v.seen (at_now (after_take End buffer)) old new e t
      (λ line u. takes_end g room m c.cursor.place c.cursor.refused c.chain.stages v.found v.seen line buffer u)

  pub failed_taken : (old new : Option Line) (buffer : List ℕ) → new ≡ told_after (at_now (after_take Failed buffer)) old → TalksAt g room m Takes c v old → TalksAt g room m (Ends ReadFault) c v new
  failed_taken old new buffer e t =
      talks_step g room m Takes (Ends ReadFault) c.chain.stages c.chain.stages c.cursor.place c.cursor.place c.cursor.refused c.cursor.refused v.found v.found v.seen v.seen (at_now (after_take Failed buffer)) old new e t
      (λ line u. takes_failed g room m c.cursor.place c.cursor.refused c.chain.stages v.found v.seen line buffer u)
