-- Connections that were closed for a fault.
use Rattle.std.proofs.Common.{◌≡◌, ℕ, ◌+◌, ◌==◌, Bool, true, false, cond, ◌&&◌, ◌||◌, List, [], ◌∷◌, ◌++◌, length, None, refl, sym, ◌∙◌, ap, arith, length-append, filter, eq-eqb}
use Rattle.std.specs.Prelude.{if◌then◌else◌}
use Rattle.std.specs.List.{list_any}
use Rattle.std.proofs.lemmas.List.Elements.{filter-append}
use Rattle.cts_entry.specs.declared.entry.Entry.{Entry}
use Rattle.cts_entry.specs.declared.what.What.{What}
use Rattle.cts_entry.specs.declared.what.What.TheVariants.{Opened, Packet, Closed, Command, SetLimits, Enable, LimitsSetIs, Injected, Unrouted, Stop, Ended}
use Rattle.cts_entry.specs.declared.why.Why.{Why}
use Rattle.cts_entry.specs.declared.why.Why.TheVariants.{PeerEnded, ReadFault, WriteFault, BadFrame, Stopped, NoMemory, Full}
use Rattle.cts_entry.specs.Histories.{connects, is_of_connection, is_own, has_own}
use Rattle.cts_entry.specs.Places.{Stays}
use Rattle.cts_outside.specs.Lines.{Connection}
use Rattle.cts_entry.specs.Room.{Capacity}
use Rattle.cts_trace.specs.Lines.{Looked, TellsWhy}
use Rattle.cts_trace.specs.Makers.{closes_for, is_fault, faults_of}
use Rattle.cts_trace.specs.Routing.{Routing}
use Rattle.cts_trace.specs.ToldLaws.{FaultsAreTold}
use Rattle.cts_trace.proofs.Stretches.{filter_none, posts_quiet}

abbrev is_faulty : ℕ → Entry → Bool
is_faulty m e = e.by == m && closes_for is_fault e.what

abbrev failed : Connection → Bool
failed c = c.take_failed || c.put_failed

abbrev one_if : Bool → ℕ
one_if b = cond b 1 0

-- ---- entries that close nothing

closes_none : (what : What) → connects what ≡ None → closes_for is_fault what ≡ false
closes_none Opened none = refl
closes_none (Packet ident stored bytes) none = refl
closes_none (Closed why loss unposted unsent) none = absurd (cc none)
closes_none (Command interface command bytes) none = refl
closes_none (SetLimits enabled packet item persistence set limits) none = refl
closes_none (Enable packet item enabled) none = refl
closes_none (LimitsSetIs set) none = refl
closes_none (Injected packet bytes) none = refl
closes_none (Unrouted why bytes) none = refl
closes_none Stop none = refl
closes_none Ended none = refl

closes_aside : (what : What) → is_of_connection what ≡ false → closes_for is_fault what ≡ false
closes_aside Opened aside = refl
closes_aside (Packet ident stored bytes) aside = refl
closes_aside (Closed why loss unposted unsent) aside = absurd (cc aside)
closes_aside (Command interface command bytes) aside = refl
closes_aside (SetLimits enabled packet item persistence set limits) aside = refl
closes_aside (Enable packet item enabled) aside = refl
closes_aside (LimitsSetIs set) aside = refl
closes_aside (Injected packet bytes) aside = refl
closes_aside (Unrouted why bytes) aside = refl
closes_aside Stop aside = refl
closes_aside Ended aside = refl

quiet_if : (b : Bool) (what : What) → (if b then connects what else None) ≡ None → (b && closes_for is_fault what) ≡ false
quiet_if true what none = closes_none what none
quiet_if false what none = refl

aside_if : (b : Bool) (what : What) → (b && is_of_connection what) ≡ false → (b && closes_for is_fault what) ≡ false
aside_if true what aside = closes_aside what aside
aside_if false what aside = refl

none_faulty : (m : ℕ) (entries : List Entry) → has_own m entries ≡ false → list_any (is_faulty m) entries ≡ false
none_faulty m [] none = refl
none_faulty m (e ∷ es) none =
    let two = neither (is_own m e) (has_own m es) none in
    ap (λ (b : Bool). b || list_any (is_faulty m) es) (aside_if (e.by == m) e.what two.0) ∙ none_faulty m es two.1
  where
    neither : (a b : Bool) → (a || b) ≡ false → (a ≡ false) × (b ≡ false)
    neither true b h = absurd (cc h)
    neither false b h = (refl, h)

-- ---- one connection

counted : (m : ℕ) (e : Entry) (es : List Entry) → faults_of m (e ∷ es) ≡ one_if (is_faulty m e) + faults_of m es
counted m e es = by_test (is_faulty m e) (filter (is_faulty m) es)
  where
    by_test : (b : Bool) (rest : List Entry) → length (cond b (e ∷ rest) rest) ≡ cond b 1 0 + length rest
    by_test true rest = omega arith
    by_test false rest = omega arith

faults_append : (m : ℕ) (xs ys : List Entry) → faults_of m (xs ++ ys) ≡ faults_of m xs + faults_of m ys
faults_append m xs ys = ap length (filter-append (is_faulty m) xs ys) ∙ length-append (filter (is_faulty m) xs) (filter (is_faulty m) ys)

no_faults : (m : ℕ) (entries : List Entry) → list_any (is_faulty m) entries ≡ false → faults_of m entries ≡ 0
no_faults m entries none = ap length (filter_none (is_faulty m) entries none)

-- where neither failed none is told
none_failed : (c : Connection) → c.take_failed ≡ false → c.put_failed ≡ false → failed c ≡ false
none_failed c take put = ap (λ (b : Bool). b || c.put_failed) take ∙ put

-- a reason is a fault exactly where one is told
is_told : (why : Why) (c : Connection) → TellsWhy why c → is_fault why ≡ failed c
is_told PeerEnded c t = sym (none_failed c t.1 t.2)
is_told ReadFault c t = sym (ap (λ (b : Bool). b || c.put_failed) t.1)
is_told WriteFault c t = sym (ap (λ (b : Bool). b || c.put_failed) t.1 ∙ t.2)
is_told (BadFrame stage cause) c t = sym (none_failed c t.1 t.2)
is_told Stopped c t = sym (none_failed c t.1 t.2)
is_told NoMemory c t = sym (none_failed c t.1 t.2)
is_told Full c t = sym (none_failed c t.1 t.2)

one_connection : (g : Routing) (room : Capacity) (m : ℕ) (found : List ℕ) (before : List Entry) (c : Connection) (entries : List Entry) → Looked g room m found before c entries → faults_of m entries ≡ one_if (failed c)
one_connection g room m found before c entries l =
    let s = l.stay in
    let whole = ap (faults_of m) s.entries_are in
    let first = counted m s.opened (s.between ++ s.closed ∷ []) in
    let opening = ap one_if (and_not (s.opened.by == m) (closes_for is_fault s.opened.what) (ap (closes_for is_fault) s.opens.what_is)) in
    let inner = faults_append m s.between (s.closed ∷ []) in
    let quiet = no_faults m s.between (posts_quiet g m (is_faulty m) (λ e none. quiet_if (e.by == m) e.what none) (before ++ s.opened ∷ []) s.between s.carries.posted s.carries.posts) in
    let last = counted m s.closed [] in
    let closing = ap one_if (ap (λ (b : Bool). b && closes_for is_fault s.closed.what) (eq-eqb s.closed.by m s.closes.maker) ∙ ap (closes_for is_fault) s.closes.what_is) in
    let told = ap one_if (is_told s.why c l.tells) in
    omega (arith, whole, first, opening, inner, quiet, last, closing, told)
  where
    and_not : (b c : Bool) → c ≡ false → (b && c) ≡ false
    and_not true c h = h
    and_not false c h = refl

-- ---- all of them

failures : (c : Connection) (cs : List Connection) → length (filter failed (c ∷ cs)) ≡ one_if (failed c) + length (filter failed cs)
failures c cs = by_test (failed c) (filter failed cs)
  where
    by_test : (b : Bool) (rest : List Connection) → length (cond b (c ∷ rest) rest) ≡ cond b 1 0 + length rest
    by_test true rest = omega arith
    by_test false rest = omega arith

faults_after : (g : Routing) (room : Capacity) (m : ℕ) (found : List ℕ) (before : List Entry) (past : List Connection) (entries : List Entry) → Stays m (Looked g room m found) before past entries
    → faults_of m entries ≡ length (filter failed past)
faults_after g room m found before [] entries s = let none = no_faults m entries (none_faulty m entries s) in omega (arith, none)
faults_after g room m found before (c ∷ cs) entries s =
    let gap = no_faults m s.0 (none_faulty m s.0 s.4) in
    let one = one_connection g room m found (before ++ s.0) c s.1 s.5 in
    let more = faults_after g room m found (before ++ (s.0 ++ s.1)) cs s.2 s.6 in
    let whole = ap (faults_of m) s.3 in
    let outer = faults_append m s.0 (s.1 ++ s.2) in
    let inner = faults_append m s.1 s.2 in
    let count = failures c cs in
    omega (arith, gap, one, more, whole, outer, inner, count)

pub faults_are_told : FaultsAreTold
faults_are_told g room m found past history s = faults_after g room m found [] past history s
