-- What is put of the next entries of a history.
use Rattle.std.proofs.Common.{◌≡◌, ℕ, ◌+◌, ◌<◌, ◌≤◌, Bool, true, false, ◌&&◌, List, ◌++◌, length, take, drop, refl, sym, ◌∙◌, ap, subst, arith, length-append, Option, Some, None}
use Rattle.std.specs.Prelude.{MatchOption, nat_le}
use Rattle.std.proofs.Math.Seq.{take-append_seam}
use Rattle.std.proofs.lemmas.Bool.Decides.{nat_tests}
use Rattle.std.proofs.lemmas.List.{length-take-le, take-append-drop}
use Rattle.cts_def.specs.Sites.{SiteData}
use Rattle.cts_entry.specs.declared.entry.Entry.{Entry}
use Rattle.cts_entry.specs.Histories.{is_connected}
use Rattle.cts_entry.specs.Queues.{refused, spelled}
use Rattle.cts_table.specs.declared.basis.Basis.{Basis}
use Rattle.cts_trace.specs.Routing.{Routing, queue, spell, walk}
use Rattle.cts_trace.proofs.Walks.{queue_walk, walk-append}
use Rattle.cts_connection.specs.Connections.{HeldConnection, HeldCursor, HoldsNext, entries_ahead}
use Rattle.cts_connection.specs.LinePlaces.{is_line}
use Rattle.cts_connection.specs.Routings.{site_routing, writers_at}
use Rattle.cts_connection.specs.Writings.{spell_by}
use Rattle.cts_core.specs.Cursors.{IsPassed}
use Rattle.cts_core.specs.Environments.{environment_of, site_environment}
use Rattle.cts_core.specs.States.{State, ahead, put_next}
use Rattle.cts_core.specs.Worlds.{Held, RepresentsWithin, connection_of}
use Rattle.cts_core.specs.Writings.{IsNext, ahead_in, can_pass, walk_in}
use Rattle.cts_core.proofs.Building.{and_false}
use Rattle.cts_core.proofs.Passing.{ahead_is, passed_on}

-- ---- what a Write puts

and_same : (a b c : Bool) → (a ≡ true → b ≡ c) → (a && b) ≡ (a && c)
and_same true b c h = h refl
and_same false b c h = refl

-- a line may pass `count` of its entries where the event that passes them is enabled
pub can_pass_is : (base : Basis) (w : Held) (s : State) (by count : ℕ) → RepresentsWithin base w s → is_line base.site by ≡ true → can_pass w by count ≡ (is_connected by s.history && nat_le count (length (ahead (environment_of base) s by)))
can_pass_is base w s by count h line =
    let c = connection_of w by in
    let mine = h.connections by line in
    let ahead_of : SiteData → List Entry → ℕ = λ site l. length (walk (site_routing site) by (drop c.cursor.place l)) in
    ap (λ (b : Basis). c.connected && nat_le count (ahead_of b.site w.history)) h.basis
    ∙ (ap (λ (b : Bool). b && nat_le count (ahead_of base.site w.history)) mine.connected
    ∙ and_same (is_connected by s.history) (nat_le count (ahead_of base.site w.history)) (nat_le count (length (ahead (environment_of base) s by))) (λ on.
    ap (λ (l : List Entry). nat_le count (ahead_of base.site l)) h.history ∙ ap (λ (l : List Entry). nat_le count (length l)) (sym (ahead_is (site_environment base.site) s by c.cursor.place c.cursor.refused (mine.passed on)))))

-- the next ones are those among the next entries
next_walked : (g : Routing) (by count next : ℕ) (rest : List Entry) → length (walk g by (take next rest)) ≡ count → take count (walk g by rest) ≡ walk g by (take next rest)
next_walked g by count next rest many =
    let front = walk g by (take next rest) in
    let back = walk g by (drop next rest) in
    let cut : walk g by rest ≡ front ++ back = ap (walk g by) (sym (take-append-drop next rest)) ∙ walk-append g by (take next rest) (drop next rest) in
    ap (take count) cut ∙ (ap (λ (k : ℕ). take k (front ++ back)) (sym many) ∙ take-append_seam front back)

pub put_is : (site : SiteData) (s : State) (by count next : ℕ) (k : HeldCursor) → IsPassed (site_environment site) s by k.place k.refused → length (walk (site_routing site) by (take next (drop k.place s.history))) ≡ count
    → put_next (site_environment site) s by count ≡ spelled (spell_by site (writers_at site by)) (queue (site_routing site) by (take next (drop k.place s.history)))
put_is site s by count next k p many =
    let g = site_routing site in
    let some = take next (drop k.place s.history) in
    let first : take count (ahead (site_environment site) s by) ≡ walk g by some = ap (take count) (ahead_is (site_environment site) s by k.place k.refused p) ∙ next_walked g by count next (drop k.place s.history) many in
    ap (λ (l : List Entry). spelled (spell g by) (queue g by l)) first ∙ ap (spelled (spell g by)) (queue_walk g by some)

-- the maker has passed that number of entries more
pub passed_next : (site : SiteData) (s t : State) (by count next : ℕ) (k : HeldCursor) → IsPassed (site_environment site) s by k.place k.refused → next ≤ length (drop k.place s.history) → length (walk (site_routing site) by (take next (drop k.place s.history))) ≡ count
    → t.history ≡ s.history → t.cursor by ≡ s.cursor by + count → IsPassed (site_environment site) t by (k.place + next) (k.refused + refused (spell_by site (writers_at site by)) (queue (site_routing site) by (take next (drop k.place s.history))))
passed_next site s t by count next k p within many same on =
    let env = site_environment site in
    let rest = drop k.place s.history in
    let some = take next rest in
    let here = passed_on env s by k.place k.refused p t some (drop next rest) (sym (take-append-drop next rest)) same (on ∙ ap (λ (n : ℕ). s.cursor by + n) (sym many)) in
    subst (λ (n : ℕ). IsPassed env t by (k.place + n) (k.refused + refused (spell_by site (writers_at site by)) (queue (site_routing site) by some))) (length-take-le next rest within) here

-- ---- which entries are the next ones

fewer : (n count : ℕ) → n < count → nat_le count n ≡ false
fewer n count h = grind (arith, nat_tests)

enough : (n count : ℕ) → count ≤ n → nat_le count n ≡ true
enough n count h = grind (arith, nat_tests)

-- a line that is not connected passes nothing
pub not_open : (w : Held) (by count : ℕ) → (connection_of w by).connected ≡ false → can_pass w by count ≡ false
not_open w by count off = ap (λ (b : Bool). b && nat_le count (length (walk_in w by (ahead_in w by)))) off

pub next_is : (w : Held) (by count : ℕ) (next : Option ℕ) (site : SiteData) (old : HeldConnection) (history : List Entry) → (connection_of w by).connected ≡ true → site ≡ w.basis.site → old ≡ connection_of w by → history ≡ w.history
    → HoldsNext site by (entries_ahead old history) count next → MatchOption next (can_pass w by count ≡ false) (λ n. IsNext w by count n)
next_is w by count next site old history on of_site held same found =
    here next (subst (λ (x : SiteData). HoldsNext x by (ahead_in w by) count next) of_site
    (subst (λ (l : List Entry). HoldsNext site by (entries_ahead (connection_of w by) l) count next) same (subst (λ (c : HeldConnection). HoldsNext site by (entries_ahead c history) count next) held found)))
  where
    here : (o : Option ℕ) → HoldsNext w.basis.site by (ahead_in w by) count o → MatchOption o (can_pass w by count ≡ false) (λ n. IsNext w by count n)
    here None few = and_false _ _ (fewer _ count few)
    here (Some n) more =
        let g = site_routing w.basis.site in
        let rest = ahead_in w by in
        let cut : walk g by rest ≡ walk g by (take n rest) ++ walk g by (drop n rest) = ap (walk g by) (sym (take-append-drop n rest)) ∙ walk-append g by (take n rest) (drop n rest) in
        let least : count ≤ length (walk g by rest) = omega (arith, more.1, ap length cut, length-append (walk g by (take n rest)) (walk g by (drop n rest))) in
        let test : nat_le count (length (walk g by rest)) ≡ true = enough _ count least in
        record { enabled = rw (on, test) refl; within = more.0; count_is = more.1 }
