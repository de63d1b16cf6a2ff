-- What a line may append to a hall, and what it has appended.
use Rattle.std.proofs.Common.{◌≡◌, ℕ, ◌+◌, ◌≤◌, ◌==◌, ◌||◌, ◌&&◌, Bool, true, false, List, [], ◌∷◌, ◌++◌, length, refl, sym, ◌∙◌, ap, subst, arith, append-nil, append_assoc, Option, None, Err, inl, inr, eq-eqb}
use Rattle.std.specs.Prelude.{◌≢◌, nat_le, if◌then◌else◌}
use Rattle.std.proofs.lemmas.Bool.Decides.{nat_tests}
use Rattle.cts_connection.specs.Connections.{HeldConnection}
use Rattle.cts_connection.specs.LinePlaces.{is_line}
use Rattle.cts_connection.specs.Postings.{Closes, Ends, Grown, Posts, Refuses, closed_of, end_of}
use Rattle.cts_connection.specs.Routings.{site_routing}
use Rattle.cts_connection.specs.Takings.{entries_of}
use Rattle.cts_connection.specs.declared.end.End.{End}
use Rattle.cts_connection.proofs.LinePosts.{entries_count}
use Rattle.cts_def.specs.Sites.{IsSoundSite, SiteData}
use Rattle.cts_def.specs.declared.time.Time.{Time}
use Rattle.cts_entry.specs.declared.entry.Entry.{Entry}
use Rattle.cts_entry.specs.declared.what.What.TheVariants.{Stop}
use Rattle.cts_entry.specs.declared.why.Why.{Why}
use Rattle.cts_entry.specs.Histories.{bytes_in, connects, entries_in, or_earlier}
use Rattle.cts_entry.specs.Workers.{is_worker}
use Rattle.cts_framing.specs.Framing.{Output}
use Rattle.cts_table.specs.Keeping.{IsKept}
use Rattle.cts_table.specs.States.{Shown, added, fits}
use Rattle.cts_table.specs.declared.fault.HallFault.{HallFault}
use Rattle.cts_table.specs.declared.fault.HallFault.TheVariants.{Full as Crowded, Memory as Wanting}
use Rattle.cts_turn.specs.Lists.{AllBy, has}
use Rattle.cts_trace.specs.Routing.{posted_entries}
use Rattle.cts_worker.specs.Holds.{Adds}
use Rattle.cts_worker.specs.Lasts.{IsShut, MayEnd, entry_of, stop_if}
use Rattle.cts_worker.proofs.Holdings.{by_one}
use Rattle.cts_line.specs.Doing.{IsPosted, IsRefused, OpensIn, PostsTaken, refused_for}
use Rattle.cts_line.proofs.Keeping.{Quiet, quiet_none}
use Rattle.cts_line.specs.declared.opening.Opening.TheVariants.{Full as NoRoom}
use Rattle.cts_line.specs.declared.posting.Posting.{Posting}
use Rattle.cts_line.specs.declared.posting.Posting.TheVariants.{Posted, Closed}

-- ---- the entries of a maker

pub all_by_append : (makers : List ℕ) (xs ys : List Entry) → AllBy (λ (e : Entry). e.by) makers xs → AllBy (λ (e : Entry). e.by) makers ys → AllBy (λ (e : Entry). e.by) makers (xs ++ ys)
all_by_append makers [] ys a b = b
all_by_append makers (x ∷ xs) ys a b = (a.0, all_by_append makers xs ys a.1 b)

all_by_packets : (site : SiteData) (history : List Entry) (by : ℕ) (now : Time) (packets : List Output) → AllBy (λ (e : Entry). e.by) (by ∷ []) (posted_entries (site_routing site) history now by packets)
all_by_packets site history by now [] = tt
all_by_packets site history by now (p ∷ packets) = (by_one by, all_by_packets site history by now packets)

pub adds_none : (by : ℕ) (s t : Shown) → t ≡ s → Adds by s t
adds_none by s t same = (ap (λ (x : Shown). x.basis) same, ([], ap (λ (x : Shown). x.entries) same ∙ sym (append-nil s.entries), tt))

pub adds_grown : (by : ℕ) (s t : Shown) (es : List Entry) → AllBy (λ (e : Entry). e.by) (by ∷ []) es → Grown s es t → Adds by s t
adds_grown by s t es all g = (g.basis, (es, g.entries, all))

pub adds_one : (by : ℕ) (s t : Shown) (e : Entry) → e.by ≡ by → Grown s (e ∷ []) t → Adds by s t
adds_one by s t e mine g = adds_grown by s t (e ∷ []) (ap (λ (k : ℕ). has k (by ∷ [])) mine ∙ by_one by, tt) g

adds_then : (by : ℕ) (s h t : Shown) → Adds by s h → Adds by h t → Adds by s t
adds_then by s h t a b = (
  b.0 ∙ a.0,
  (a.1.0 ++ b.1.0, b.1.1 ∙ (ap (λ (l : List Entry). l ++ b.1.0) a.1.1 ∙ append_assoc s.entries a.1.0 b.1.0), all_by_append (by ∷ []) a.1.0 b.1.0 a.1.2 b.1.2),
)

pub adds_closed : (by : ℕ) (now : Time) (s t : Shown) (c d : HeldConnection) (why : Why) (unposted : ℕ) → Closes by now s c why unposted t d → Adds by s t
adds_closed by now s t c d why unposted k = adds_one by s t (closed_of by now s c why unposted) refl k.grown

-- ---- one entry

pub grown_one : (s t : Shown) (e : Entry) → t ≡ added s e → Grown s (e ∷ []) t
grown_one s t e is = record { basis = ap (λ (x : Shown). x.basis) is; entries = ap (λ (x : Shown). x.entries) is }

pub works : (site : SiteData) (by : ℕ) → is_line site by ≡ true → is_worker site by ≡ true
works site by line = grind arith

-- a line that is shut may end
pub may_end : (site : SiteData) (by : ℕ) (seen : List Entry) → is_line site by ≡ true → IsShut by seen → MayEnd site by seen
may_end site by seen line shut = record { worker = works site by line; active = shut.1; off = inl shut.0 }

-- ---- the Opened

full_at : (s : Shown) → IsKept s.basis s.entries → fits s 1 0 ≡ false → s.basis.entries ≤ entries_in s.entries
full_at s kept full = let b = kept.legal.bytes in grind (arith, nat_tests)

pub refused_same : (s new : Shown) (c d : HeldConnection) (n m : ℕ) (fault : HallFault) → Refuses s c n m fault new d → (new ≡ s) × (d ≡ c)
refused_same s new c d n m (Crowded counted size) r = (r.3, r.4)
refused_same s new c d n m Wanting r = (r.1, r.2)

pub grown_same : (s mid t : Shown) (es : List Entry) → mid ≡ s → Grown mid es t → Grown s es t
grown_same s mid t es same g = subst (λ (x : Shown). Grown x es t) same g

pub opens_full : (by : ℕ) (now : Time) (s mid t : Shown) (c d : HeldConnection) (counted size : ℕ) → IsKept s.basis s.entries → Refuses s c 1 0 (Crowded counted size) mid d → Grown mid (entry_of by now Stop ∷ []) t → OpensIn by now s c NoRoom t d
opens_full by now s mid t c d counted size kept r g = (grown_same s mid t (entry_of by now Stop ∷ []) r.3 g, r.4, full_at s kept r.0)

-- ---- the packets of a piece

some_entries : (s : Shown) (entries : List Entry) → IsKept s.basis s.entries → fits s (length entries) (bytes_in entries) ≡ false → entries ≢ []
some_entries s entries kept full none =
    let e = kept.legal.entries in
    let b = kept.legal.bytes in
    let f : fits s 0 0 ≡ false = sym (ap (λ (l : List Entry). fits s (length l) (bytes_in l)) none) ∙ full in
    absurd (no_room (entries_in s.entries) s.basis.entries (bytes_in s.entries) s.basis.bytes e b f)
  where
    no_room : (a b c d : ℕ) → a ≤ b → c ≤ d → (nat_le (a + 0) b && nat_le (c + 0) d) ≡ false → ⊥
    no_room a b c d le lf f = grind (arith, nat_tests)

pub refused_is : (s new : Shown) (by : ℕ) (now : Time) (c d : HeldConnection) (packets : List Output) (entries : List Entry) (end : Option End) (fault : HallFault) → IsSoundSite s.basis.site → IsKept s.basis s.entries → is_line s.basis.site by ≡ true
    → entries ≡ entries_of s.basis.site s.entries by now packets → Posts by now s c entries end (Err fault) new d → IsRefused s entries (refused_for fault)
refused_is s new by now c d packets entries end (Crowded counted size) sound kept line is p =
    let count = entries_count s.basis.site by s.entries now packets entries sound line is in
    let full : fits s (length entries) (bytes_in entries) ≡ false = ap (λ (n : ℕ). fits s n (bytes_in entries)) (sym count) ∙ p.0 in
    inl (refl, some_entries s entries kept full, full)
refused_is s new by now c d packets entries end Wanting sound kept line is p = inr refl

-- the hall and the connection are as before a refusal, so the connection can be closed
pub close_same : (s mid t : Shown) (by : ℕ) (now : Time) (c e d : HeldConnection) (why : Why) (unposted : ℕ) → mid ≡ s → e ≡ c → Closes by now mid e why unposted t d → Closes by now s c why unposted t d
close_same s mid t by now c e d why unposted same is k = subst (λ (x : Shown). Closes by now x c why unposted t d) same (subst (λ (x : HeldConnection). Closes by now mid x why unposted t d) is k)

pub posts_taken : (by : ℕ) (now : Time) (s t : Shown) (c d : HeldConnection) (entries : List Entry) (unposted : ℕ) (failed : Option Why) (end : Option End) (posting : Posting) → end ≡ end_of unposted failed → IsPosted end posting
    → (mid : Shown) × Grown s entries mid × Ends by now mid c end t d → PostsTaken by now s c entries unposted failed posting t d
posts_taken by now s t c d entries unposted failed end (Posted some) is p k =
    let e = subst (λ (x : Option End). Ends by now k.0 c x t d) p k.2 in
    (sym is ∙ p, subst (λ (x : Shown). Grown s entries x) (sym e.0) k.1, e.1)
posts_taken by now s t c d entries unposted failed end (Closed why) is p k =
    let e = subst (λ (x : Option End). Ends by now k.0 c x t d) p.1 k.2 in
    inl (p.0, sym is ∙ p.1, p.2, (k.0, k.1, subst (λ (w : Why). Closes by now k.0 c w p.0.unposted t d) (sym p.2) e))

pub taken_adds : (by : ℕ) (now : Time) (s t : Shown) (c d : HeldConnection) (packets : List Output) (entries : List Entry) (unposted : ℕ) (failed : Option Why) (posting : Posting) → entries ≡ entries_of s.basis.site s.entries by now packets
    → PostsTaken by now s c entries unposted failed posting t d → Adds by s t
taken_adds by now s t c d packets entries unposted failed (Posted some) is k =
    adds_grown by s t entries (subst (AllBy (λ (e : Entry). e.by) (by ∷ [])) (sym is) (all_by_packets s.basis.site s.entries by now packets)) k.1
taken_adds by now s t c d packets entries unposted failed (Closed why) is (inl p) =
    adds_then by s p.3.0 t (adds_grown by s p.3.0 entries (subst (AllBy (λ (e : Entry). e.by) (by ∷ [])) (sym is) (all_by_packets s.basis.site s.entries by now packets)) p.3.1) (adds_closed by now p.3.0 t c d why p.0.unposted p.3.2)
taken_adds by now s t c d packets entries unposted failed (Closed why) is (inr p) = adds_closed by now s t c d why _ p.1

-- ---- a Stop

pub quiet_stop : (b : Bool) (by : ℕ) (now : Time) → Quiet by (stop_if b by now)
quiet_stop false by now = quiet_none by
quiet_stop true by now =
    let mine : (by == by) ≡ true = eq-eqb by by refl in
    record {
      connects = ap (λ (x : Bool). or_earlier None (if x then connects Stop else None)) mine;
      ended = ap (λ (x : Bool). (x && false) || false) mine;
      opened = ap (λ (x : Bool). (x && false) || false) mine;
      closed = λ test. ap (λ (x : Bool). (x && false) || false) mine;
    }
