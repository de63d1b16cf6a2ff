-- What is kept by packet and by command stands for one entry more.
use Rattle.std.proofs.Common.{◌≡◌, ◌≢◌, ◌∷◌, [], ◌++◌, ℕ, zero, suc, ◌+◌, ◌<◌, ◌≤◌, ◌^◌, Bool, true, false, List, length, set, get_or, refl, sym, ◌∙◌, ap, subst, arith, Option, Some, None, unwrap_or, replicate}
use Rattle.std.specs.Prelude.{◌==◌, if◌then◌else◌, slice_get, option_map, count_by}
use Rattle.std.proofs.lemmas.Grind.{common_steps}
use Rattle.std.proofs.lemmas.List.Sums.{sum_by-append, count_by-le-length}
use Rattle.cts_def.specs.Sites.{SiteData}
use Rattle.cts_def.specs.declared.ident.Ident.{Ident}
use Rattle.cts_def.specs.declared.ident.Ident.TheVariants.{Known, Unknown}
use Rattle.cts_entry.specs.declared.entry.Entry.{Entry}
use Rattle.cts_entry.specs.declared.what.What.{What}
use Rattle.cts_entry.specs.declared.what.What.TheVariants.{Opened, Packet, Closed, Command, SetLimits, Enable, LimitsSetIs, Injected, Unrouted, Stop, Ended}
use Rattle.cts_entry.specs.Histories.{or_earlier}
use Rattle.cts_entry.proofs.Appending.{latest-append}
use Rattle.cts_monitor.specs.Brought.{brings, brought_by, current_of, of_ident}
use Rattle.cts_monitor.proofs.PlaceSteps.{get_last, get_more}
use Rattle.cts_table.specs.declared.counts.Counts.{Counts}
use Rattle.cts_table.specs.declared.marks.Heard.{Heard}
use Rattle.cts_table.specs.Lookups.{counted, counts_of, commands_in, every_length, is_command, is_long_of, is_short_of, packet_of}
use Rattle.cts_table.specs.Marking.{MarksData, with_one, Each, one_if, more, heard_more, noted, noted_brought, noted_command, command_in, is_it, next, begun_marks, unheard, CanCount, CanMark, IsPlaceOf, HeardTells, CommandTells, Tells}

-- ---- lists with a key

-- what was said of each element is said afterwards: of the others as it was, of the one that changed by itself
pub each_with : {A : Type 0} (P Q : ℕ → A → Type 0) (xs : List A) (b : ℕ) (f : A → A) → ((m : ℕ) (x : A) → m ≢ b → P m x → Q m x) → ((x : A) → P b x → Q b (f x)) → Each P xs → Each Q (with_one xs b f)
each_with P Q [] b f others own before m x e = (cc)
each_with P Q (y ∷ xs) zero f others own before zero x e = let same : f y ≡ x = cc in subst (λ z. Q 0 z) same (own y (before 0 y refl))
each_with P Q (y ∷ xs) zero f others own before (suc m) x e = others (suc m) x (omega arith) (before (suc m) x e)
each_with P Q (y ∷ xs) (suc b) f others own before zero x e = others zero x (omega arith) (before zero x e)
each_with P Q (y ∷ xs) (suc b) f others own before (suc m) x e =
    each_with (λ n z. P (suc n) z) (λ n z. Q (suc n) z) xs b f (λ n z d p. others (suc n) z (λ q. d (omega arith)) p) own (λ n z q. before (suc n) z q) m x e

pub each_all : {A : Type 0} (P Q : ℕ → A → Type 0) (xs : List A) → ((m : ℕ) (x : A) → P m x → Q m x) → Each P xs → Each Q xs
each_all P Q xs step before n x e = step n x (before n x e)

pub each_of : {A : Type 0} (P : ℕ → A → Type 0) (n : ℕ) (a : A) → ((m : ℕ) → P m a) → Each P (replicate n a)
each_of P zero a all m x e = (cc)
each_of P (suc n) a all zero x e = let same : a ≡ x = cc in subst (λ z. P 0 z) same (all 0)
each_of P (suc n) a all (suc m) x e = each_of (λ k z. P (suc k) z) n a (λ k. all (suc k)) m x e

pub with_long : {A : Type 0} (xs : List A) (b : ℕ) (f : A → A) → length (with_one xs b f) ≡ length xs
with_long [] b f = refl
with_long (x ∷ xs) zero f = refl
with_long (x ∷ xs) (suc b) f = ap suc (with_long xs b f)

-- a write is the list with one element changed
pub set_is : {A : Type 0} (xs : List A) (i : ℕ) (f : A → A) (x now : A) → i < length xs → x ≡ get_or xs i x → now ≡ f x → set xs i now ≡ with_one xs i f
set_is [] i f x now lt e n = absurd (omega arith)
set_is (y ∷ xs) zero f x now lt e n = ap (λ z. z ∷ xs) (n ∙ ap f e)
set_is (y ∷ xs) (suc i) f x now lt e n = ap (λ zs. y ∷ zs) (set_is xs i f x now (omega arith) e n)

pub past_is : {A : Type 0} (xs : List A) (i : ℕ) (f : A → A) → length xs ≤ i → with_one xs i f ≡ xs
past_is [] i f le = refl
past_is (x ∷ xs) zero f le = absurd (omega arith)
past_is (x ∷ xs) (suc i) f le = ap (λ ys. x ∷ ys) (past_is xs i f (omega arith))

-- ---- counts with one entry more

count_more : {X : Type 0} (p : X → Bool) (h : List X) (e : X) → count_by p (h ++ e ∷ []) ≡ count_by p h + one_if (p e)
count_more p h e = rw (sum_by-append (λ y. if p y then 1 else 0) h (e ∷ [])) (omega arith)

abbrev passes : (ℕ → Bool) → Option (List ℕ) → Bool
passes test o = unwrap_or (option_map (λ bytes. test (length bytes)) o) false

counted_more : (ident : Ident) (test : ℕ → Bool) (h : List Entry) (e : Entry) (o : Option (List ℕ)) → brought_by ident e ≡ o → counted ident test (h ++ e ∷ []) ≡ counted ident test h + one_if (passes test o)
counted_more ident test h e o is =
    count_more (λ (x : Entry). unwrap_or (option_map (λ bytes. test (length bytes)) (brought_by ident x)) false) h e
    ∙ ap (λ (b : Option (List ℕ)). counted ident test h + one_if (passes test b)) is

counted_same : (ident : Ident) (test : ℕ → Bool) (h : List Entry) (e : Entry) → brought_by ident e ≡ None → counted ident test (h ++ e ∷ []) ≡ counted ident test h
counted_same ident test h e is = let m = counted_more ident test h e None is in omega (arith, m)

pub counts_same : (site : SiteData) (ident : Ident) (h : List Entry) (e : Entry) → brought_by ident e ≡ None → counts_of site ident (h ++ e ∷ []) ≡ counts_of site ident h
counts_same site ident h e is =
    let a = counted_same ident every_length h e is in
    let b = counted_same ident (is_short_of (packet_of site ident)) h e is in
    let c = counted_same ident (is_long_of (packet_of site ident)) h e is in
    rw (a, b, c) refl

pub counts_more : (site : SiteData) (ident : Ident) (h : List Entry) (e : Entry) (bytes : List ℕ) → brought_by ident e ≡ Some bytes → counts_of site ident (h ++ e ∷ []) ≡ more (packet_of site ident) (length bytes) (counts_of site ident h)
counts_more site ident h e bytes is =
    let a = counted_more ident every_length h e (Some bytes) is in
    let b = counted_more ident (is_short_of (packet_of site ident)) h e (Some bytes) is in
    let c = counted_more ident (is_long_of (packet_of site ident)) h e (Some bytes) is in
    rw (a, b, c) refl

commanded : (n : ℕ) (what : What) → is_command n what ≡ is_it n (command_in what)
commanded n Opened = refl
commanded n (Packet ident stored bytes) = refl
commanded n (Closed why loss unposted unsent) = refl
commanded n (Command interface command bytes) = refl
commanded n (SetLimits enabled packet item persistence set limits) = refl
commanded n (Enable packet item enabled) = refl
commanded n (LimitsSetIs set) = refl
commanded n (Injected packet bytes) = refl
commanded n (Unrouted why bytes) = refl
commanded n Stop = refl
commanded n Ended = refl

commands_more : (n : ℕ) (h : List Entry) (e : Entry) (c : Option ℕ) → command_in e.what ≡ c → commands_in n (h ++ e ∷ []) ≡ commands_in n h + one_if (is_it n c)
commands_more n h e c is = count_more (λ (x : Entry). is_command n x.what) h e ∙ ap (λ (b : Bool). commands_in n h + one_if b) (commanded n e.what ∙ ap (is_it n) is)

-- ---- the place of a packet's current entry

current_more : (p : ℕ) (h : List Entry) (e : Entry) (o : Option (List ℕ)) → brought_by (Known p) e ≡ o → current_of p (h ++ e ∷ []) ≡ or_earlier o (current_of p h)
current_more p h e o is = latest-append (brought_by (Known p)) h (e ∷ []) ∙ ap (λ (b : Option (List ℕ)). or_earlier b (current_of p h)) is

place_same : (p : ℕ) (h : List Entry) (e : Entry) (n : Option ℕ) → brought_by (Known p) e ≡ None → IsPlaceOf p h n → IsPlaceOf p (h ++ e ∷ []) n
place_same p h e None is t = current_more p h e None is ∙ t
place_same p h e (Some n) is t = (t.0, get_more h e n t.0 t.1, current_more p h e None is ∙ t.2)

place_here : (p : ℕ) (h : List Entry) (e : Entry) (bytes : List ℕ) → brought_by (Known p) e ≡ Some bytes → IsPlaceOf p (h ++ e ∷ []) (Some (length h))
place_here p h e bytes is = (e, get_last h e, current_more p h e (Some bytes) is ∙ sym is)

heard_same : (site : SiteData) (h : List Entry) (e : Entry) (p : ℕ) (x : Heard) → brought_by (Known p) e ≡ None → HeardTells site h p x → HeardTells site (h ++ e ∷ []) p x
heard_same site h e p x is t = record { place = place_same p h e x.place is t.place; counts = t.counts ∙ sym (counts_same site (Known p) h e is) }

heard_here : (site : SiteData) (h : List Entry) (e : Entry) (p : ℕ) (x : Heard) (bytes : List ℕ) → brought_by (Known p) e ≡ Some bytes → HeardTells site h p x →
    HeardTells site (h ++ e ∷ []) p (heard_more (slice_get site.definitions.telemetry p) (length h) (length bytes) x)
heard_here site h e p x bytes is t = record {
  place = place_here p h e bytes is;
  counts = ap (more (packet_of site (Known p)) (length bytes)) t.counts ∙ sym (counts_more site (Known p) h e bytes is);
}

-- ---- one entry more

same_number : (n : ℕ) → (n == n) ≡ true
same_number n = grind (arith, common_steps)

other_number : (n m : ℕ) → m ≢ n → (n == m) ≡ false
other_number n m d = grind (arith, common_steps)

module _ (site : SiteData) (h : List Entry) (e : Entry) (m : MarksData) (t : Tells site h m) where
  -- after the bytes that it brings
  after_brought : (o : Option (Ident × List ℕ)) → brings e.what ≡ o →
      let n = noted_brought site (length h) o m in
      (length n.packets ≡ length site.definitions.telemetry) × Each (HeardTells site (h ++ e ∷ [])) n.packets × (n.unknown ≡ counts_of site Unknown (h ++ e ∷ [])) × (n.commands ≡ m.commands)
  after_brought None is = (
    t.packets_long,
    each_all (HeardTells site h) (HeardTells site (h ++ e ∷ [])) m.packets (λ p x. heard_same site h e p x (ap (of_ident (Known p)) is)) t.packets,
    t.unknown ∙ sym (counts_same site Unknown h e (ap (of_ident Unknown) is)),
    refl,
  )
  after_brought (Some (Known q, bytes)) is =
      let own : brought_by (Known q) e ≡ Some bytes = ap (of_ident (Known q)) is ∙ ap (λ (b : Bool). if b then Some bytes else None) (same_number q) in (
        with_long m.packets q _ ∙ t.packets_long,
        each_with (HeardTells site h) (HeardTells site (h ++ e ∷ [])) m.packets q (heard_more (slice_get site.definitions.telemetry q) (length h) (length bytes))
            (λ p x d. heard_same site h e p x (ap (of_ident (Known p)) is ∙ ap (λ (b : Bool). if b then Some bytes else None) (other_number q p d)))
            (λ x. heard_here site h e q x bytes own) t.packets,
        t.unknown ∙ sym (counts_same site Unknown h e (ap (of_ident Unknown) is)),
        refl,
      )
  after_brought (Some (Unknown, bytes)) is = (
    t.packets_long,
    each_all (HeardTells site h) (HeardTells site (h ++ e ∷ [])) m.packets (λ p x. heard_same site h e p x (ap (of_ident (Known p)) is)) t.packets,
    ap (more None (length bytes)) t.unknown ∙ sym (counts_more site Unknown h e bytes (ap (of_ident Unknown) is)),
    refl,
  )

  after_command : (c : Option ℕ) → command_in e.what ≡ c → let n = noted_command c m in
      (length n.commands ≡ length site.definitions.commands) × Each (CommandTells (h ++ e ∷ [])) n.commands
  after_command None is = (
    t.commands_long,
    each_all (CommandTells h) (CommandTells (h ++ e ∷ [])) m.commands (λ n c q. let k = commands_more n h e None is in omega (arith, k, q)) t.commands,
  )
  after_command (Some c) is = (
    with_long m.commands c next ∙ t.commands_long,
    each_with (CommandTells h) (CommandTells (h ++ e ∷ [])) m.commands c next
        (λ n x d q. let k = commands_more n h e (Some c) is ∙ ap (λ (b : Bool). commands_in n h + one_if b) (other_number c n d) in omega (arith, k, q))
        (λ x q. let k = commands_more c h e (Some c) is ∙ ap (λ (b : Bool). commands_in c h + one_if b) (same_number c) in omega (arith, k, q)) t.commands,
  )

  join : (c : Option ℕ) (n : MarksData) → n.commands ≡ m.commands →
      (length n.packets ≡ length site.definitions.telemetry) → Each (HeardTells site (h ++ e ∷ [])) n.packets → (n.unknown ≡ counts_of site Unknown (h ++ e ∷ [])) →
      (length (noted_command c m).commands ≡ length site.definitions.commands) → Each (CommandTells (h ++ e ∷ [])) (noted_command c m).commands → Tells site (h ++ e ∷ []) (noted_command c n)
  join None n same pl p u cl c = record { packets_long = pl; packets = p; unknown = u; commands_long = ap length same ∙ cl; commands = subst (λ (xs : List ℕ). Each (CommandTells (h ++ e ∷ [])) xs) (sym same) c }
  join (Some k) n same pl p u cl c = record {
    packets_long = pl;
    packets = p;
    unknown = u;
    commands_long = ap (λ (xs : List ℕ). length (with_one xs k next)) same ∙ cl;
    commands = subst (λ (xs : List ℕ). Each (CommandTells (h ++ e ∷ [])) (with_one xs k next)) (sym same) c;
  }

  pub tells_noted : Tells site (h ++ e ∷ []) (noted site (length h) e m)
  tells_noted =
      let b = after_brought (brings e.what) refl in
      let c = after_command (command_in e.what) refl in
      join (command_in e.what) (noted_brought site (length h) (brings e.what) m) b.3 b.0 b.1 b.2 c.0 c.1

pub begun_tells : (site : SiteData) → Tells site [] (begun_marks site)
begun_tells site = record {
  packets_long = long (length site.definitions.telemetry) unheard;
  packets = each_of (HeardTells site []) (length site.definitions.telemetry) unheard (λ p. record { place = refl; counts = refl });
  unknown = refl;
  commands_long = long (length site.definitions.commands) 0;
  commands = each_of (CommandTells []) (length site.definitions.commands) 0 (λ n. refl);
}
  where
    long : {A : Type 0} (n : ℕ) (a : A) → length (replicate n a) ≡ n
    long zero a = refl
    long (suc n) a = ap suc (long n a)

-- it can count one more
counts_few : (site : SiteData) (ident : Ident) (h : List Entry) (c : Counts) → length h < 2 ^ 60 → c ≡ counts_of site ident h → CanCount c
counts_few site ident h c few is =
    let r = count_by-le-length (λ (e : Entry). unwrap_or (option_map (λ bytes. every_length (length bytes)) (brought_by ident e)) false) h in
    let s = count_by-le-length (λ (e : Entry). unwrap_or (option_map (λ bytes. is_short_of (packet_of site ident) (length bytes)) (brought_by ident e)) false) h in
    let l = count_by-le-length (λ (e : Entry). unwrap_or (option_map (λ bytes. is_long_of (packet_of site ident) (length bytes)) (brought_by ident e)) false) h in
    subst CanCount (sym is) (omega (arith, r, few), omega (arith, s, few), omega (arith, l, few))

pub can_mark : (site : SiteData) (h : List Entry) (m : MarksData) → length h < 2 ^ 60 → Tells site h m → CanMark m
can_mark site h m few t = record {
  packets = each_all (HeardTells site h) (λ n x. CanCount x.counts) m.packets (λ n x q. counts_few site (Known n) h x.counts few q.counts) t.packets;
  unknown = counts_few site Unknown h m.unknown few t.unknown;
  commands = each_all (CommandTells h) (λ n c. c < 2 ^ 60) m.commands (λ n c q. let k = count_by-le-length (λ (e : Entry). is_command n e.what) h in omega (arith, k, q, few)) t.commands;
}

-- ---- the entry at a place

pub place_in : (p : ℕ) (h : List Entry) (n : ℕ) → IsPlaceOf p h (Some n) → n < length h
place_in p h n t = within h n t.0 t.1
  where
    within : {A : Type 0} (xs : List A) (n : ℕ) (x : A) → slice_get xs n ≡ Some x → n < length xs
    within [] n x e = (cc)
    within (y ∷ xs) zero x e = omega arith
    within (y ∷ xs) (suc n) x e = let r = within xs n x e in omega (arith, r)

pub place_some : (p : ℕ) (h : List Entry) (n : ℕ) (e : Entry) → IsPlaceOf p h (Some n) → slice_get h n ≡ Some e → current_of p h ≡ brought_by (Known p) e
place_some p h n e t at = let same : t.0 ≡ e = cc in t.2 ∙ ap (brought_by (Known p)) same
