-- What a history says of all connections of a maker.
use Rattle.std.proofs.Common.{◌≡◌, ℕ, ◌+◌, ◌≤◌, ◌==◌, Bool, true, false, cond, ◌&&◌, ◌||◌, List, [], ◌∷◌, ◌++◌, length, Option, Some, None, refl, sym, ◌∙◌, ap, arith, append_assoc, length-append, filter, eq-eqb}
use Rattle.std.specs.Prelude.{if◌then◌else◌}
use Rattle.std.specs.List.{list_any}
use Rattle.std.proofs.lemmas.List.Elements.{filter-append}
use Rattle.std.proofs.lemmas.List.Folds.{list_any-append}
use Rattle.cts_entry.specs.declared.entry.Entry.{Entry}
use Rattle.cts_entry.specs.declared.what.What.{What}
use Rattle.cts_entry.specs.declared.what.What.TheVariants.{Opened, Packet, Closed, Command, SetLimits, Enable, LimitsSetIs, Injected, Unrouted, Stop, Ended}
use Rattle.cts_entry.specs.Histories.{connects, connects_maker, is_connected, is_opened, opens, is_of_connection, is_own, has_own}
use Rattle.cts_entry.specs.Places.{Posts, Stays}
use Rattle.cts_entry.proofs.Queuing.{none_connected, none_opened}
use Rattle.cts_framing.specs.Framing.{Output}
use Rattle.cts_outside.specs.Lines.{Connection}
use Rattle.cts_trace.specs.Connections.{Shows}
use Rattle.cts_trace.specs.Routing.{Routing}
use Rattle.cts_trace.specs.Told.{IsStay}
use Rattle.cts_trace.specs.ToldLaws.{ConnectedWhereOneStands, OneOpenedEach, OneTelling, stretches}
use Rattle.cts_trace.proofs.Connecting.{connected_meanwhile, connected_within, shown_connect, says_connects}
use Rattle.cts_trace.proofs.Walks.{connected_kept}

-- ---- stays that are something else too

module _ {C : Type 0} (by n : ℕ) (Is Js : List Entry → C → List Entry → Type 0) (to : (b : List Entry) (c : C) (mine : List Entry) → length (b ++ mine) ≤ n → Is b c mine → Js b c mine) where
  pub stays_each : (before : List Entry) (cs : List C) (entries : List Entry) → length (before ++ entries) ≤ n → Stays by Is before cs entries → Stays by Js before cs entries
  stays_each before [] entries le s = s
  stays_each before (c ∷ cs) entries le s =
      let to_entries : before ++ entries ≡ ((before ++ s.0) ++ s.1) ++ s.2 =
      ap (λ (l : List Entry). before ++ l) (s.3 ∙ sym (append_assoc s.0 s.1 s.2)) ∙ sym (append_assoc before (s.0 ++ s.1) s.2) ∙ ap (λ (l : List Entry). l ++ s.2) (sym (append_assoc before s.0 s.1)) in
      let to_later : before ++ entries ≡ (before ++ (s.0 ++ s.1)) ++ s.2 = ap (λ (l : List Entry). before ++ l) (s.3 ∙ sym (append_assoc s.0 s.1 s.2)) ∙ sym (append_assoc before (s.0 ++ s.1) s.2) in
      let a : ℕ = length ((before ++ s.0) ++ s.1) in
      let sum : length (before ++ entries) ≡ a + length s.2 = ap length to_entries ∙ length-append ((before ++ s.0) ++ s.1) s.2 in (
        s.0,
        s.1,
        s.2,
        s.3,
        s.4,
        to (before ++ s.0) c s.1 (omega arith) s.5,
        stays_each (before ++ (s.0 ++ s.1)) cs s.2 (let f = ap length to_later in omega arith) s.6,
      )

-- ---- connected where one stands

stays_connected : (g : Routing) (m : ℕ) (before : List Entry) (past : List Connection) (entries : List Entry) → is_connected m before ≡ false → Stays m (IsStay g m) before past entries → is_connected m (before ++ entries) ≡ false
stays_connected g m before [] entries off s = connected_kept m before entries (none_connected m entries s) ∙ off
stays_connected g m before (c ∷ cs) entries off s =
    let here : (before ++ s.0) ++ s.1 ≡ before ++ (s.0 ++ s.1) = append_assoc before s.0 s.1 in
    let closed = connected_within g m (before ++ s.0) c.pieces c.put s.1 s.5 in
    let all : before ++ entries ≡ (before ++ (s.0 ++ s.1)) ++ s.2 = ap (λ (l : List Entry). before ++ l) (s.3 ∙ sym (append_assoc s.0 s.1 s.2)) ∙ sym (append_assoc before (s.0 ++ s.1) s.2) in
    ap (is_connected m) all ∙ stays_connected g m (before ++ (s.0 ++ s.1)) cs s.2 (ap (is_connected m) (sym here) ∙ closed.1) s.6

pub connected_where_one_stands : ConnectedWhereOneStands
connected_where_one_stands g m history past None t = stays_connected g m [] past history refl t
connected_where_one_stands g m history past (Some c) t = ap (is_connected m) t.2 ∙ connected_meanwhile g m t.0 c.pieces c.put t.1 t.4

-- ---- what stands between an Opened and a Closed

abbrev closed_of : Option Bool → Bool
closed_of None = false
closed_of (Some opened) = if opened then false else true

abbrev closes : ℕ → Entry → Bool
closes m e = closed_of (connects_maker m e)

no_opened : (what : What) → connects what ≡ None → is_opened what ≡ false
no_opened Opened none = absurd (cc none)
no_opened (Packet ident stored bytes) none = refl
no_opened (Closed why loss unposted unsent) none = refl
no_opened (Command interface command bytes) none = refl
no_opened (SetLimits enabled packet item persistence set limits) none = refl
no_opened (Enable packet item enabled) none = refl
no_opened (LimitsSetIs set) none = refl
no_opened (Injected packet bytes) none = refl
no_opened (Unrouted why bytes) none = refl
no_opened Stop none = refl
no_opened Ended none = refl

pub opens_nothing : (b : Bool) (what : What) → (if b then connects what else None) ≡ None → (b && is_opened what) ≡ false
opens_nothing true what none = no_opened what none
opens_nothing false what none = refl

-- what holds of no entry that leaves the connection ls it is holds of none that shows packets
pub posts_quiet : (g : Routing) (m : ℕ) (test : Entry → Bool) → ((e : Entry) → connects_maker m e ≡ None → test e ≡ false)
    → (before entries : List Entry) (packets : List Output) → Posts m (Shows g m) before entries packets → list_any test entries ≡ false
posts_quiet g m test none before [] packets posts = refl
posts_quiet g m test none before (e ∷ es) packets posts =
    let s = shown_connect g m before e es packets (is_own m e) refl posts in
    ap (λ (b : Bool). b || list_any test es) (none e s.0) ∙ posts_quiet g m test none (before ++ e ∷ []) es s.1.0 s.1.1

-- the Opened of a connection is the maker's, the Closed is the first one after it, and no Opened stands between them
record Stretch (m : ℕ) (entries : List Entry) : Type 0 where
  opened : Entry
  between : List Entry
  closed : Entry
  entries_are : entries ≡ opened ∷ (between ++ closed ∷ [])
  own : is_own m opened ≡ true
  opening : opens m opened ≡ true
  closing : closes m closed ≡ true
  not_opening : opens m closed ≡ false
  opens_none : list_any (opens m) between ≡ false
  closes_none : list_any (closes m) between ≡ false

stretch_of : (g : Routing) (m : ℕ) (before : List Entry) (c : Connection) (entries : List Entry) → IsStay g m before c entries → Stretch m entries
stretch_of g m before c entries s = record {
  opened = s.opened;
  between = s.between;
  closed = s.closed;
  entries_are = s.entries_are;
  own = ap (λ (b : Bool). b && is_of_connection s.opened.what) (eq-eqb s.opened.by m s.opens.maker) ∙ ap is_of_connection s.opens.what_is;
  opening = ap (λ (b : Bool). b && is_opened s.opened.what) (eq-eqb s.opened.by m s.opens.maker) ∙ ap is_opened s.opens.what_is;
  closing = ap closed_of (says_connects m s.closed _ s.closes);
  not_opening = and_not (s.closed.by == m) (is_opened s.closed.what) (ap is_opened s.closes.what_is);
  opens_none = posts_quiet g m (opens m) (λ e none. opens_nothing (e.by == m) e.what none) (before ++ s.opened ∷ []) s.between s.carries.posted s.carries.posts;
  closes_none = posts_quiet g m (closes m) (λ e none. ap closed_of none) (before ++ s.opened ∷ []) s.between s.carries.posted s.carries.posts;
}
  where
    and_not : (b c : Bool) → c ≡ false → (b && c) ≡ false
    and_not true c h = h
    and_not false c h = refl

-- ---- one Opened each

pub filter_none : (test : Entry → Bool) (xs : List Entry) → list_any test xs ≡ false → filter test xs ≡ []
filter_none test [] none = refl
filter_none test (x ∷ xs) none =
    let head : test x ≡ false = grind arith in
    let tail : list_any test xs ≡ false = grind arith in
    ap (λ (b : Bool). cond b (x ∷ filter test xs) (filter test xs)) head ∙ filter_none test xs tail

one_opened : (m : ℕ) (entries : List Entry) → Stretch m entries → length (filter (opens m) entries) ≡ 1
one_opened m entries s =
    let closing : filter (opens m) (s.closed ∷ []) ≡ [] = ap (λ (b : Bool). cond b (s.closed ∷ []) []) s.not_opening in
    let inner : filter (opens m) (s.between ++ s.closed ∷ []) ≡ [] =
    filter-append (opens m) s.between (s.closed ∷ []) ∙ (ap (λ (l : List Entry). l ++ filter (opens m) (s.closed ∷ [])) (filter_none (opens m) s.between s.opens_none) ∙ closing) in
    ap (λ (l : List Entry). length (filter (opens m) l)) s.entries_are
    ∙ (ap (λ (b : Bool). length (cond b (s.opened ∷ filter (opens m) (s.between ++ s.closed ∷ [])) (filter (opens m) (s.between ++ s.closed ∷ [])))) s.opening ∙ ap (λ (l : List Entry). length (s.opened ∷ l)) inner)

stays_opened : (g : Routing) (m : ℕ) (before : List Entry) (past : List Connection) (entries : List Entry) → Stays m (IsStay g m) before past entries → length (filter (opens m) entries) ≡ length past
stays_opened g m before [] entries s = ap length (filter_none (opens m) entries (none_opened m entries s))
stays_opened g m before (c ∷ cs) entries s =
    let gap = ap length (filter_none (opens m) s.0 (none_opened m s.0 s.4)) in
    let one = one_opened m s.1 (stretch_of g m (before ++ s.0) c s.1 s.5) in
    let more = stays_opened g m (before ++ (s.0 ++ s.1)) cs s.2 s.6 in
    let whole = ap (λ (l : List Entry). length (filter (opens m) l)) s.3 in
    let outer = ap length (filter-append (opens m) s.0 (s.1 ++ s.2)) ∙ length-append (filter (opens m) s.0) (filter (opens m) (s.1 ++ s.2)) in
    let inner = ap length (filter-append (opens m) s.1 s.2) ∙ length-append (filter (opens m) s.1) (filter (opens m) s.2) in
    omega (arith, gap, one, more, whole, outer, inner)

pub one_opened_each : OneOpenedEach
one_opened_each g m history past s = stays_opened g m [] past history s

-- ---- a history falls into connections in one way

-- two cuts of a list at the first element that passes a test are one
first_one : (test : Entry → Bool) (xs ys : List Entry) (x y : Entry) (ls rs : List Entry) → list_any test xs ≡ false → test x ≡ true → list_any test ys ≡ false → test y ≡ true → xs ++ x ∷ ls ≡ ys ++ y ∷ rs
    → (xs ≡ ys) × (x ≡ y) × (ls ≡ rs)
first_one test [] [] x y ls rs no_x is_x no_y is_y e =
    let head : x ≡ y = cc in
    let tail : ls ≡ rs = cc in
    (refl, head, tail)
first_one test [] (z ∷ ys) x y ls rs no_x is_x no_y is_y e =
    let head : x ≡ z = cc in
    let not_z : test z ≡ false = grind arith in
    absurd (let f : true ≡ false = sym is_x ∙ (ap test head ∙ not_z) in cc)
first_one test (z ∷ xs) [] x y ls rs no_x is_x no_y is_y e =
    let head : z ≡ y = cc in
    let not_z : test z ≡ false = grind arith in
    absurd (let f : true ≡ false = sym is_y ∙ (ap test (sym head) ∙ not_z) in cc)
first_one test (z ∷ xs) (w ∷ ys) x y ls rs no_x is_x no_y is_y e =
    let head : z ≡ w = cc in
    let tail : xs ++ x ∷ ls ≡ ys ++ y ∷ rs = cc in
    let rest_x : list_any test xs ≡ false = grind arith in
    let rest_y : list_any test ys ≡ false = grind arith in
    let more = first_one test xs ys x y ls rs rest_x is_x rest_y is_y tail in
    (ap (λ (v : Entry). v ∷ xs) head ∙ ap (λ (l : List Entry). w ∷ l) more.0, more.1, more.2)

any_or : (a b : Bool) → b ≡ true → (a || b) ≡ true
any_or true b h = refl
any_or false b h = h

-- no connection stands where no entry is of one
some_own : (m : ℕ) (entries gap mine later : List Entry) → has_own m entries ≡ false → entries ≡ gap ++ (mine ++ later) → Stretch m mine → ⊥
some_own m entries gap mine later none are s =
    let own : has_own m (mine ++ later) ≡ true =
    ap (λ (l : List Entry). has_own m (l ++ later)) s.entries_are ∙ ap (λ (b : Bool). b || has_own m ((s.between ++ s.closed ∷ []) ++ later)) s.own in
    let some : has_own m entries ≡ true = ap (has_own m) are ∙ (list_any-append (is_own m) gap (mine ++ later) ∙ any_or (has_own m gap) (has_own m (mine ++ later)) own) in
    let f : true ≡ false = sym some ∙ none in cc

-- two stretches after entries of no connection are one
one_stretch : (m : ℕ) (gap gap' mine mine' later later' : List Entry) → has_own m gap ≡ false → has_own m gap' ≡ false → Stretch m mine → Stretch m mine' → gap ++ (mine ++ later) ≡ gap' ++ (mine' ++ later') → (mine ≡ mine') × (later ≡ later')
one_stretch m gap gap' mine mine' later later' quiet quiet' s t e =
    let a : gap ++ (mine ++ later) ≡ gap ++ s.opened ∷ (s.between ++ s.closed ∷ later) =
    ap (λ (l : List Entry). gap ++ (l ++ later)) s.entries_are ∙ ap (λ (l : List Entry). gap ++ s.opened ∷ l) (append_assoc s.between (s.closed ∷ []) later) in
    let b : gap' ++ (mine' ++ later') ≡ gap' ++ t.opened ∷ (t.between ++ t.closed ∷ later') =
    ap (λ (l : List Entry). gap' ++ (l ++ later')) t.entries_are ∙ ap (λ (l : List Entry). gap' ++ t.opened ∷ l) (append_assoc t.between (t.closed ∷ []) later') in
    let outer = first_one (is_own m) gap gap' s.opened t.opened (s.between ++ s.closed ∷ later) (t.between ++ t.closed ∷ later') quiet s.own quiet' t.own (sym a ∙ e ∙ b) in
    let inner = first_one (closes m) s.between t.between s.closed t.closed later later' s.closes_none s.closing t.closes_none t.closing outer.2 in
    let same : s.opened ∷ (s.between ++ s.closed ∷ []) ≡ t.opened ∷ (t.between ++ t.closed ∷ []) =
    ap (λ (o : Entry). o ∷ (s.between ++ s.closed ∷ [])) outer.1
    ∙ (ap (λ (l : List Entry). t.opened ∷ (l ++ s.closed ∷ [])) inner.0 ∙ ap (λ (c : Entry). t.opened ∷ (t.between ++ c ∷ [])) inner.1) in
    (s.entries_are ∙ (same ∙ sym t.entries_are), inner.2)

one_telling_after : (g : Routing) (m : ℕ) (before before' entries entries' : List Entry) → entries ≡ entries' → (cs ds : List Connection) → (s : Stays m (IsStay g m) before cs entries) (t : Stays m (IsStay g m) before' ds entries')
    → stretches g m before cs entries s ≡ stretches g m before' ds entries' t
one_telling_after g m before before' entries entries' same [] [] s t = refl
one_telling_after g m before before' entries entries' same [] (d ∷ ds) s t =
    absurd (some_own m entries t.0 t.1 t.2 s (same ∙ t.3) (stretch_of g m (before' ++ t.0) d t.1 t.5))
one_telling_after g m before before' entries entries' same (c ∷ cs) [] s t =
    absurd (some_own m entries' s.0 s.1 s.2 t (sym same ∙ s.3) (stretch_of g m (before ++ s.0) c s.1 s.5))
one_telling_after g m before before' entries entries' same (c ∷ cs) (d ∷ ds) s t =
    let one = one_stretch m s.0 t.0 s.1 t.1 s.2 t.2 s.4 t.4 (stretch_of g m (before ++ s.0) c s.1 s.5) (stretch_of g m (before' ++ t.0) d t.1 t.5) (sym s.3 ∙ (same ∙ t.3)) in
    let more = one_telling_after g m (before ++ (s.0 ++ s.1)) (before' ++ (t.0 ++ t.1)) s.2 t.2 one.1 cs ds s.6 t.6 in
    ap (λ (l : List Entry). l ∷ stretches g m (before ++ (s.0 ++ s.1)) cs s.2 s.6) one.0 ∙ ap (λ (l : List (List Entry)). t.1 ∷ l) more

pub one_telling : OneTelling
one_telling g m history cs ds s t = one_telling_after g m [] [] history history refl cs ds s t
