-- What a line may append to a hall.
use Rattle.std.proofs.Common.{◌≡◌, ℕ, ◌+◌, ◌≤◌, Bool, true, false, ◌||◌, ◌&&◌, List, [], ◌∷◌, ◌++◌, Option, Some, None, refl, sym, ◌∙◌, ap, subst, arith, inl, inr, append_assoc, append-nil}
use Rattle.std.specs.Prelude.{◌==◌, ◌⊎◌, max, nat_le, if◌then◌else◌, IfSome, Err, option_map}
use Rattle.std.proofs.lemmas.Bool.Decides.{nat_tests}
use Rattle.std.proofs.lemmas.List.Folds.{list_any-append}
use Rattle.cts_def.specs.Sites.{IsSoundSite, SiteData}
use Rattle.cts_def.specs.declared.ident.Ident.{Ident}
use Rattle.cts_def.specs.declared.ident.Ident.TheVariants.{Known, Unknown}
use Rattle.cts_def.specs.declared.time.Time.{Time}
use Rattle.cts_entry.specs.declared.entry.Entry.{Entry}
use Rattle.cts_entry.specs.declared.what.What.{What}
use Rattle.cts_entry.specs.declared.what.What.TheVariants.{Packet, Command, Unrouted}
use Rattle.cts_entry.specs.declared.what.NotSent.TheVariants.{NotConnected as NoConnection}
use Rattle.cts_entry.specs.declared.why.Why.{Why}
use Rattle.cts_entry.specs.declared.why.Why.TheVariants.{PeerEnded, ReadFault, WriteFault, BadFrame, Stopped, NoMemory, Full}
use Rattle.cts_entry.specs.Histories.{connects, connects_maker, entries_in, bytes_in, is_connected, latest}
use Rattle.cts_entry.specs.Legal.{AllAllowed, Allows, IsOn, Rules, StopsAfter, has_ended, is_ended, most_bytes as bytes_limit}
use Rattle.cts_entry.specs.Workers.{is_interface, is_slot, is_desk}
use Rattle.cts_entry.proofs.Appending.{stopped-append}
use Rattle.cts_framing.specs.Framing.{Output, is_stored}
use Rattle.cts_framing.specs.Packets.{Fault, capped}
use Rattle.cts_framing.proofs.Fronts.{le_tells}
use Rattle.cts_table.specs.declared.basis.Basis.{Basis}
use Rattle.cts_table.specs.Keeping.{IsKept, rules_of}
use Rattle.cts_table.specs.States.{CanAdd, IsRoomAnswer, Shown, fits, with_room}
use Rattle.cts_table.specs.declared.fault.HallFault.{HallFault}
use Rattle.cts_table.specs.declared.fault.HallFault.TheVariants.{Full as Crowded, Memory as Wanting}
use Rattle.cts_table.proofs.Active.{connected_active}
use Rattle.cts_trace.specs.Routing.{Routing, posted_entries, routed_as, said_of, sent_on, time_in}
use Rattle.cts_trace.proofs.Walks.{after, connected_kept, none_if, packets_connect, said, said_kept}
use Rattle.cts_connection.specs.Laws.{LinesMayPost}
use Rattle.cts_connection.specs.LinePlaces.{is_line}
use Rattle.cts_connection.specs.Postings.{CanAddAll, CanClose, CanOpen, Grown, Posts, added_all, closed_of, end_of, opened_entry}
use Rattle.cts_connection.specs.declared.end.End.{End}
use Rattle.cts_connection.specs.Connections.{HeldConnection}
use Rattle.cts_connection.specs.Routings.{site_routing}
use Rattle.cts_connection.specs.Takings.{blamed, entries_of}
use Rattle.cts_connection.proofs.LinePosts.{makes, posted}

-- ---- what may be said, for any makers

-- The rules of makers that are routed so, with these slots, desks and limits.
abbrev pub ruled : Routing → (ℕ → Bool) → (ℕ → Bool) → ℕ → ℕ → Rules
ruled g slot desk entries bytes = record { is_interface = g.is_interface; is_slot = slot; is_desk = desk; interface_of = g.interface_of; most_entries = entries; most_bytes = bytes }

module _ (g : Routing) (slot desk : ℕ → Bool) (entries bytes : ℕ) where
  -- what a maker's packet says may be said, and ends nothing
  abbrev pub Sayable : List Entry → ℕ → What → Type 0
  Sayable before by what = Allows (ruled g slot desk entries bytes) before by what × (is_ended what ≡ false)

  sayable_if : (b : Bool) (before : List Entry) (by interface command : ℕ) (said : List ℕ) → IsOn slot before by → g.interface_of command ≡ Some interface → is_connected interface before ≡ b
      → Sayable before by (if b then Command interface command said else Unrouted NoConnection said)
  sayable_if true before by interface command said on to c = ((to, c, inr on), refl)
  sayable_if false before by interface command said on to c = (on, refl)

  sayable_sent : (before : List Entry) (by : ℕ) (to : Option ℕ) (command : ℕ) (said : List ℕ) → IsOn slot before by → g.interface_of command ≡ to → Sayable before by (sent_on before to command said)
  sayable_sent before by None command said on to = (on, refl)
  sayable_sent before by (Some interface) command said on to = sayable_if (is_connected interface before) before by interface command said on to refl

  sayable_routed : (before : List Entry) (by : ℕ) (ident : Ident) (said : List ℕ) → IsOn slot before by → Sayable before by (routed_as g before ident said)
  sayable_routed before by (Known command) said on = sayable_sent before by (g.interface_of command) command said on refl
  sayable_routed before by Unknown said on = (on, refl)

  sayable_either : (b : Bool) (before : List Entry) (by : ℕ) (ident : Ident) (stored : Bool) (said : List ℕ) → g.is_interface by ≡ b → (slot by || g.is_interface by) ≡ true → is_connected by before ≡ true
      → Sayable before by (if b then Packet ident stored said else routed_as g before ident said)
  sayable_either true before by ident stored said kind line on = ((kind, on), refl)
  sayable_either false before by ident stored said kind line on = sayable_routed before by ident said ((let l = line in grind arith), on)

  pub sayable : (before : List Entry) (by : ℕ) (o : Output) → (slot by || g.is_interface by) ≡ true → is_connected by before ≡ true → Sayable before by (said_of g before by o)
  sayable before by o line on = sayable_either (g.is_interface by) before by (g.ident by o) (is_stored o.heading) o.bytes refl line on

  -- one entry more leaves a maker that has not ended
  still_active : (by : ℕ) (history : List Entry) (e : Entry) → has_ended by history ≡ false → is_ended e.what ≡ false → has_ended by (history ++ e ∷ []) ≡ false
  still_active by history e h k = (let a = list_any-append (λ (x : Entry). x.by == by && is_ended x.what) history (e ∷ []) in grind arith)

  -- the entries of packets are allowed one after the other
  pub packets_allowed : (history : List Entry) (now : Time) (m : ℕ) (outs : List Output) (sofar : List Entry) → ((k : ℕ) → latest (connects_maker k) sofar ≡ None) → (slot m || g.is_interface m) ≡ true → is_connected m history ≡ true
      → has_ended m (history ++ sofar) ≡ false → AllAllowed (ruled g slot desk entries bytes) (history ++ sofar) (posted_entries g history now m outs)
  packets_allowed history now m [] sofar none line on last = tt
  packets_allowed history now m (o ∷ outs) sofar none line on last =
      let e : Entry = record { by = m; time = time_in o.heading now; what = said_of g history m o } in
      let same : said_of g (history ++ sofar) m o ≡ said_of g history m o = said_kept g (history ++ sofar) history m o (λ i. connected_kept i history sofar (none i)) in
      let says = subst (Sayable (history ++ sofar) m) same (sayable (history ++ sofar) m o line (connected_kept m history sofar (none m) ∙ on)) in
      let place : (history ++ sofar) ++ e ∷ [] ≡ history ++ (sofar ++ e ∷ []) = append_assoc history sofar (e ∷ []) in
      let more = packets_allowed history now m outs (sofar ++ e ∷ []) (λ k. after k sofar e (none k) (none_if (m == k) (connects e.what) (said g history m o).connects)) line on
      (subst (λ (l : List Entry). has_ended m l ≡ false) place (still_active m (history ++ sofar) e last says.1)) in
      (record { active = last; says = says.0 }, subst (λ (l : List Entry). AllAllowed (ruled g slot desk entries bytes) l (posted_entries g history now m outs)) (sym place) more)

-- ---- lines of a site

pub lines_may_post : LinesMayPost
lines_may_post s by now outs sound line on active few small =
    let b = s.basis in
    let es = entries_of b.site s.entries by now outs in
    let allowed = packets_allowed (site_routing b.site) (is_slot b.site) (is_desk b.site) b.entries b.bytes s.entries now by outs [] (λ k. refl) line on (subst (λ (l : List Entry). has_ended by l ≡ false) (sym (append-nil s.entries)) active) in
    record {
      allowed = subst (λ (l : List Entry). AllAllowed (rules_of b) l es) (append-nil s.entries) allowed;
      of_site = (posted b.site by sound line s.entries s.entries now outs).of_site;
      entries = few;
      bytes = small;
    }

line_of : (site : SiteData) (by : ℕ) (b : Bool) → is_slot site by ≡ b → is_line site by ≡ true → (is_slot site by ≡ true) ⊎ (is_interface site by ≡ true)
line_of site by true slot line = inl slot
line_of site by false slot line = inr (let l = line in grind arith)

-- a connection may be opened, where there is room
pub can_open : (s : Shown) (by : ℕ) (now : Time) → IsSoundSite s.basis.site → CanOpen s by → CanAdd (with_room s 1 0) (opened_entry by now)
can_open s by now sound h = record {
  allowed = record { active = h.active; says = (line_of s.basis.site by (is_slot s.basis.site by) refl h.line, h.off, h.going) };
  of_site = record { maker = makes s.basis.site by sound h.line; said = tt };
  entry = omega arith;
  bytes = omega arith;
}

-- a connection may be closed
pub can_close : (s : Shown) (by : ℕ) (now : Time) (c : HeldConnection) (why : Why) (unposted : ℕ) → IsSoundSite s.basis.site → IsKept s.basis s.entries → CanClose s by why → CanAdd s (closed_of by now s c why unposted)
can_close s by now c why unposted sound kept h = record {
  allowed = record { active = connected_active s.basis s.entries by kept h.on; says = (h.on, h.stops) };
  of_site = record { maker = makes s.basis.site by sound h.line; said = tt };
  entry = omega arith;
  bytes = omega arith;
}

-- ---- packets are posted

-- a sum of bytes that stays at the greatest number passes a limit where the sum does
fits_capped : (s : Shown) (n m : ℕ) → s.basis.bytes ≤ bytes_limit → fits s n (capped m) ≡ fits s n m
fits_capped s n m small = ap (λ (t : Bool). nat_le (entries_in s.entries + n) s.basis.entries && t) (same (bytes_in s.entries) s.basis.bytes m small)
  where
    same : (h limit m : ℕ) → limit ≤ bytes_limit → nat_le (h + capped m) limit ≡ nat_le (h + m) limit
    same h limit m small = grind (arith, nat_tests)

-- it was asked for as much room as the entries take
pub room_same : (s : Shown) (es : List Entry) (n m : ℕ) → n ≡ entries_in es → m ≡ capped (bytes_in es) → s.basis.bytes ≤ bytes_limit → fits s n m ≡ fits s (entries_in es) (bytes_in es)
room_same s es n m e b small = ap (λ (x : ℕ). fits s x m) e ∙ (ap (fits s (entries_in es)) b ∙ fits_capped s (entries_in es) (bytes_in es) small)

and_second : (a b : Bool) → (a && b) ≡ true → b ≡ true
and_second true b h = h
and_second false b h = cc h

-- room that was made for entries of packets is enough for them
pub can_post : (s : Shown) (by : ℕ) (now : Time) (es : List Entry) (n m : ℕ) (outs : List Output) → IsSoundSite s.basis.site → IsKept s.basis s.entries → is_line s.basis.site by ≡ true → is_connected by s.entries ≡ true
    → es ≡ entries_of s.basis.site s.entries by now outs → n ≡ entries_in es → m ≡ capped (bytes_in es) → s.basis.bytes ≤ bytes_limit → fits s n m ≡ true → CanAddAll (with_room s n m) es
can_post s by now es n m outs sound kept line on is e b small t =
    let le : bytes_in s.entries + m ≤ s.basis.bytes = le_tells (bytes_in s.entries + m) s.basis.bytes (and_second _ _ t) in
    let few : entries_in es ≤ max s.spare_entries n = omega (arith, e) in
    let light : bytes_in es ≤ max s.spare_bytes m = omega (arith, le, small, b) in
    let can = lines_may_post (with_room s n m) by now outs sound line on (connected_active s.basis s.entries by kept on)
    (subst (λ (l : List Entry). entries_in l ≤ max s.spare_entries n) is few) (subst (λ (l : List Entry). bytes_in l ≤ max s.spare_bytes m) is light) in
    subst (λ (l : List Entry). CanAddAll (with_room s n m) l) (sym is) can

-- the connection still stands after its packets, and may be closed for the same reason
stops_more : (history more : List Entry) (why : Why) → StopsAfter history why → StopsAfter (history ++ more) why
stops_more history more PeerEnded h = tt
stops_more history more ReadFault h = tt
stops_more history more WriteFault h = tt
stops_more history more (BadFrame stage cause) h = tt
stops_more history more Stopped h = (let a = stopped-append history more in grind arith)
stops_more history more NoMemory h = tt
stops_more history more Full h = tt

-- what a piece ends a connection for may stand after any history
pub end_stops : (history : List Entry) (unposted : ℕ) (fault : Option Fault) → IfSome (end_of unposted (blamed fault)) (λ e. StopsAfter history e.why)
end_stops history unposted fault = either (unposted == 0) fault
  where
    either : (b : Bool) (f : Option Fault) → IfSome (if b then option_map (λ (w : Why). record { why = w; unposted = 0 }) (blamed f) else Some (record { why = NoMemory; unposted = unposted })) (λ (e : End). StopsAfter history e.why)
    either true None = tt
    either true (Some f) = tt
    either false f = tt

-- entries stand after the others, where room was made for them
pub grown : (s mid t : Shown) (es : List Entry) (n m : ℕ) → mid ≡ with_room s n m → t ≡ added_all mid es → Grown s es t
grown s mid t es n m room added = record {
  basis = ap (λ (x : Shown). x.basis) added ∙ ap (λ (x : Shown). x.basis) room;
  entries = ap (λ (x : Shown). x.entries) added ∙ ap (λ (x : Shown). x.entries ++ es) room;
}

-- the connection still stands then, and may be closed
pub ends_then : (s t : Shown) (by : ℕ) (now : Time) (es : List Entry) (outs : List Output) (end : Option End) → is_line s.basis.site by ≡ true → is_connected by s.entries ≡ true → es ≡ entries_of s.basis.site s.entries by now outs
    → IfSome end (λ e. StopsAfter s.entries e.why) → Grown s es t → IfSome end (λ e. CanClose t by e.why)
ends_then s t by now es outs None line on is stops g = tt
ends_then s t by now es outs (Some end) line on is stops g = record {
  line = subst (λ (b : Basis). is_line b.site by ≡ true) (sym g.basis) line;
  on = ap (is_connected by) g.entries ∙ (connected_kept by s.entries es (ap (latest (connects_maker by)) is ∙ packets_connect by (site_routing s.basis.site) s.entries now by outs) ∙ on);
  stops = subst (λ (l : List Entry). StopsAfter l end.why) (sym g.entries) (stops_more s.entries es end.why stops);
}

-- where there is no room, nothing is posted
pub not_posted : (by : ℕ) (now : Time) (s new : Shown) (c : HeldConnection) (es : List Entry) (end : Option End) (n m : ℕ) (fault : HallFault) → fits s n m ≡ fits s (entries_in es) (bytes_in es)
    → IsRoomAnswer s n m (Err fault) → new ≡ s → Posts by now s c es end (Err fault) new c
not_posted by now s new c es end n m (Crowded counted size) same a kept = (sym same ∙ a.0, a.1, a.2, kept, refl)
not_posted by now s new c es end n m Wanting same a kept = (sym same ∙ a, kept, refl)
