-- Single params, and params that stand first.
use Rattle.std.proofs.Common.{◌≡◌, ℕ, ◌≤◌, Bool, true, false, List, [], ◌∷◌, Some, None, Result, Ok, Err, refl, sym, ap, subst, ◌∙◌, inl, inr}
use Rattle.std.specs.Prelude.{if◌then◌else◌, nat_le, ◌&&◌}
use Rattle.std.proofs.lemmas.Bool.{le-leb, leb-true}
use Rattle.cts_base.specs.declared.decimal.Decimal.{Decimal}
use Rattle.cts_base.specs.declared.decimal.NotDecimal.{NotDecimal}
use Rattle.cts_base.specs.Decimals.{decimal_of}
use Rattle.serde_json.specs.Data.{Data, Members, array, boolean, float, negative, null, number, object, string, unsigned}
use Rattle.serde_json.specs.Find.{as_integer}
use Rattle.cts_methods.specs.Asking.{ItemName, PacketName}
use Rattle.cts_methods.specs.Kinds.{are_given, decimal_in, decimal_read, first_in, names_first, natural_in, object_in, packet_first, pair_first, persistence, persistence_in, switch_in, text_in, wholes}
use Rattle.cts_api.proofs.MaySay.{if_some}
use Rattle.cts_api_laws.specs.ParamRows.{AreNames, AreTwoNames, IsDecimal, IsObject, IsPersistence}
use Rattle.cts_api_laws.proofs.Inverting.{and_then_some, and_then_taken, map_some, map_taken, some_is}

-- ---- what one param is

pub text_said : (d : Data) (t : List ℕ) → text_in d ≡ Some t → d ≡ string t
text_said null t e = absurd (cc e)
text_said (boolean b) t e = absurd (cc e)
text_said (number n) t e = absurd (cc e)
text_said (string s) t e = ap string (some_is s t e)
text_said (array ds) t e = absurd (cc e)
text_said (object ms) t e = absurd (cc e)

pub text_taken : (d : Data) (t : List ℕ) → d ≡ string t → text_in d ≡ Some t
text_taken d t e = ap text_in e

pub switch_said : (d : Data) (b : Bool) → switch_in d ≡ Some b → d ≡ boolean b
switch_said null t e = absurd (cc e)
switch_said (boolean b) t e = ap boolean (some_is b t e)
switch_said (number n) t e = absurd (cc e)
switch_said (string s) t e = absurd (cc e)
switch_said (array ds) t e = absurd (cc e)
switch_said (object ms) t e = absurd (cc e)

read_said : (r : Result Decimal NotDecimal) (x : Decimal) → decimal_read r ≡ Some x → r ≡ Ok x
read_said (Ok d) x e = ap (λ y. Ok y) (some_is d x e)
read_said (Err e) x is = absurd (cc is)

pub decimal_said : (d : Data) (x : Decimal) → decimal_in d ≡ Some x → IsDecimal d x
decimal_said null x e = absurd (cc e)
decimal_said (boolean b) x e = absurd (cc e)
decimal_said (number n) x e = let m = map_some wholes (as_integer n) x e in inl (n, m.0, refl, m.1, sym m.2)
decimal_said (string s) x e = inr (s, refl, read_said (decimal_of s) x e)
decimal_said (array ds) x e = absurd (cc e)
decimal_said (object ms) x e = absurd (cc e)

pub decimal_taken : (d : Data) (x : Decimal) → IsDecimal d x → decimal_in d ≡ Some x
decimal_taken d x (inl (n, z, is, whole, so)) = ap decimal_in is ∙ map_taken wholes (as_integer n) z x whole (sym so)
decimal_taken d x (inr (s, is, reads)) = ap decimal_in is ∙ ap decimal_read reads

first_of_both : (a b : Bool) → (a && b) ≡ true → a ≡ true
first_of_both true b h = refl
first_of_both false b h = absurd cc

second_of_both : (a b : Bool) → (a && b) ≡ true → b ≡ true
second_of_both true b h = h
second_of_both false b h = absurd cc

both_true : (a b : Bool) → a ≡ true → b ≡ true → (a && b) ≡ true
both_true a b x y = ap (λ c. c && b) x ∙ y

lasting : (k n : ℕ) → persistence k ≡ Some n → (k ≡ n) × (1 ≤ n) × (n ≤ 4294967295)
lasting k n e =
    let b = if_some (nat_le 1 k && nat_le k 4294967295) k n e in
    let low = leb-true 1 k (first_of_both (nat_le 1 k) (nat_le k 4294967295) b.0) in
    let high = leb-true k 4294967295 (second_of_both (nat_le 1 k) (nat_le k 4294967295) b.0) in (b.1, subst (λ (m : ℕ). 1 ≤ m) b.1 low, subst (λ (m : ℕ). m ≤ 4294967295) b.1 high)

natural_persists : (d : Data) (k : ℕ) → natural_in d ≡ Some k → d ≡ number (unsigned k)
natural_persists null k e = absurd (cc e)
natural_persists (boolean b) k e = absurd (cc e)
natural_persists (number (unsigned n)) k e = ap (λ m. number (unsigned m)) (some_is n k e)
natural_persists (number (negative z)) k e = absurd (cc e)
natural_persists (number (float x)) k e = absurd (cc e)
natural_persists (string s) k e = absurd (cc e)
natural_persists (array ds) k e = absurd (cc e)
natural_persists (object ms) k e = absurd (cc e)

pub persistence_said : (d : Data) (n : ℕ) → persistence_in d ≡ Some n → IsPersistence d n
persistence_said d n e =
    let a = and_then_some persistence (natural_in d) n e in
    let l = lasting a.0 n a.2 in
    (natural_persists d a.0 a.1 ∙ ap (λ m. number (unsigned m)) l.0, l.1, l.2)

within : (n : ℕ) → 1 ≤ n → n ≤ 4294967295 → (nat_le 1 n && nat_le n 4294967295) ≡ true
within n low high = both_true (nat_le 1 n) (nat_le n 4294967295) (le-leb 1 n low) (le-leb n 4294967295 high)

pub persistence_taken : (d : Data) (n : ℕ) → IsPersistence d n → persistence_in d ≡ Some n
persistence_taken d n (is, low, high) = ap persistence_in is ∙ ap (λ (b : Bool). if b then Some n else None) (within n low high)

object_if : (b : Bool) (ms found : Members) → are_given ms ≡ b → (if b then Some ms else None) ≡ Some found → (ms ≡ found) × (are_given ms ≡ true)
object_if true ms found is e = (some_is ms found e, is)
object_if false ms found is e = absurd (cc e)

pub object_said : (d : Data) (ms : Members) → object_in d ≡ Some ms → IsObject d ms
object_said null x e = absurd (cc e)
object_said (boolean b) x e = absurd (cc e)
object_said (number n) x e = absurd (cc e)
object_said (string s) x e = absurd (cc e)
object_said (array ds) x e = absurd (cc e)
object_said (object ms) x e = let f = object_if (are_given ms) ms x refl e in (ap object f.0, subst (λ (m : Members). are_given m ≡ true) f.0 f.1)

pub object_taken : (d : Data) (ms : Members) → IsObject d ms → object_in d ≡ Some ms
object_taken d ms (is, given) = ap object_in is ∙ ap (λ (b : Bool). if b then Some ms else None) given

-- ---- names that stand first

pub packet_said : (t p : Data) (ds : List Data) (f : PacketName × List Data) → packet_first (t ∷ (p ∷ ds)) ≡ Some f → AreTwoNames t p f.0 × (ds ≡ f.1)
packet_said t p ds f e =
    let x = and_then_some _ (first_in text_in (t ∷ (p ∷ ds))) f e in
    let a = map_some (λ (s : List ℕ). (s, p ∷ ds)) (text_in t) x.0 x.1 in
    let y = map_some _ (first_in text_in x.0.1) f x.2 in
    let second = subst (λ (l : List ℕ × List Data). first_in text_in l.1 ≡ Some y.0) (sym a.2) y.1 in
    let b = map_some (λ (s : List ℕ). (s, ds)) (text_in p) y.0 second in (
      (
        text_said t a.0 a.1 ∙ ap string (ap (λ (z : List ℕ × List Data). z.0) a.2 ∙ ap (λ (z : PacketName × List Data). z.0.target) y.2),
        text_said p b.0 b.1 ∙ ap string (ap (λ (z : List ℕ × List Data). z.0) b.2 ∙ ap (λ (z : PacketName × List Data). z.0.packet) y.2),
      ),
      ap (λ (z : List ℕ × List Data). z.1) b.2 ∙ ap (λ (z : PacketName × List Data). z.1) y.2,
    )

pub packet_short : (t : Data) (f : PacketName × List Data) → packet_first (t ∷ []) ≡ Some f → ⊥
packet_short t f e =
    let x = and_then_some _ (first_in text_in (t ∷ [])) f e in
    let a = map_some (λ (s : List ℕ). (s, [])) (text_in t) x.0 x.1 in
    let y = map_some _ (first_in text_in x.0.1) f x.2 in
    let second = subst (λ (l : List ℕ × List Data). first_in text_in l.1 ≡ Some y.0) (sym a.2) y.1 in cc second

pub packet_taken : (t p : Data) (ds : List Data) (name : PacketName) → AreTwoNames t p name → packet_first (t ∷ (p ∷ ds)) ≡ Some (name, ds)
packet_taken t p ds name (target, packet) =
    and_then_taken _ (first_in text_in (t ∷ (p ∷ ds))) (name.target, p ∷ ds) (name, ds) (map_taken _ (text_in t) name.target _ (text_taken t name.target target) refl)
    (map_taken _ (first_in text_in (p ∷ ds)) (name.packet, ds) (name, ds) (map_taken _ (text_in p) name.packet _ (text_taken p name.packet packet) refl) refl)

pub names_said : (t p i : Data) (ds : List Data) (f : ItemName × List Data) → names_first (t ∷ (p ∷ (i ∷ ds))) ≡ Some f → AreNames t p i f.0 × (ds ≡ f.1)
names_said t p i ds f e =
    let x = and_then_some _ (packet_first (t ∷ (p ∷ (i ∷ ds)))) f e in
    let a = packet_said t p (i ∷ ds) x.0 x.1 in
    let y = map_some _ (first_in text_in x.0.1) f x.2 in
    let third = subst (λ (l : List Data). first_in text_in l ≡ Some y.0) (sym a.1) y.1 in
    let b = map_some (λ (s : List ℕ). (s, ds)) (text_in i) y.0 third in (
      (
        a.0.0 ∙ ap string (ap (λ (z : ItemName × List Data). z.0.target) y.2),
        a.0.1 ∙ ap string (ap (λ (z : ItemName × List Data). z.0.packet) y.2),
        text_said i b.0 b.1 ∙ ap string (ap (λ (z : List ℕ × List Data). z.0) b.2 ∙ ap (λ (z : ItemName × List Data). z.0.item) y.2),
      ),
      ap (λ (z : List ℕ × List Data). z.1) b.2 ∙ ap (λ (z : ItemName × List Data). z.1) y.2,
    )

abbrev pub IsShort : List Data → Type 0
IsShort [] = Unit {0}
IsShort (t ∷ []) = Unit {0}
IsShort (t ∷ (p ∷ [])) = Unit {0}
IsShort (t ∷ (p ∷ (i ∷ ds))) = ⊥

-- fewer than three are none
pub names_short : (ds : List Data) (f : ItemName × List Data) → IsShort ds → names_first ds ≡ Some f → ⊥
names_short [] f short e = cc e
names_short (t ∷ []) f short e = let x = and_then_some _ (packet_first (t ∷ [])) f e in packet_short t x.0 x.1
names_short (t ∷ (p ∷ [])) f short e =
    let x = and_then_some _ (packet_first (t ∷ (p ∷ []))) f e in
    let a = packet_said t p [] x.0 x.1 in
    let y = map_some _ (first_in text_in x.0.1) f x.2 in
    let third = subst (λ (l : List Data). first_in text_in l ≡ Some y.0) (sym a.1) y.1 in cc third
names_short (t ∷ (p ∷ (i ∷ ds))) f short e = short

pub names_taken : (t p i : Data) (ds : List Data) (name : ItemName) → AreNames t p i name → names_first (t ∷ (p ∷ (i ∷ ds))) ≡ Some (name, ds)
names_taken t p i ds name (target, packet, item) =
    and_then_taken _ (packet_first (t ∷ (p ∷ (i ∷ ds)))) (record { target = name.target; packet = name.packet }, i ∷ ds) (name, ds)
    (packet_taken t p (i ∷ ds) (record { target = name.target; packet = name.packet }) (target, packet))
    (map_taken _ (first_in text_in (i ∷ ds)) (name.item, ds) (name, ds) (map_taken _ (text_in i) name.item _ (text_taken i name.item item) refl) refl)

-- ---- two decimals that stand first

abbrev pub Two : Type 0
Two = (Decimal × Decimal) × List Data

pub pair_said : (a b : Data) (ds : List Data) (f : Two) → pair_first (a ∷ (b ∷ ds)) ≡ Some f → IsDecimal a f.0.0 × IsDecimal b f.0.1 × (ds ≡ f.1)
pair_said a b ds f e =
    let x = and_then_some _ (first_in decimal_in (a ∷ (b ∷ ds))) f e in
    let v = map_some (λ (s : Decimal). (s, b ∷ ds)) (decimal_in a) x.0 x.1 in
    let y = map_some _ (first_in decimal_in x.0.1) f x.2 in
    let second = subst (λ (l : Decimal × List Data). first_in decimal_in l.1 ≡ Some y.0) (sym v.2) y.1 in
    let w = map_some (λ (s : Decimal). (s, ds)) (decimal_in b) y.0 second in (
      subst (IsDecimal a) (ap (λ (z : Decimal × List Data). z.0) v.2 ∙ ap (λ (z : Two). z.0.0) y.2) (decimal_said a v.0 v.1),
      subst (IsDecimal b) (ap (λ (z : Decimal × List Data). z.0) w.2 ∙ ap (λ (z : Two). z.0.1) y.2) (decimal_said b w.0 w.1),
      ap (λ (z : Decimal × List Data). z.1) w.2 ∙ ap (λ (z : Two). z.1) y.2,
    )

pub pair_short : (a : Data) (f : Two) → pair_first (a ∷ []) ≡ Some f → ⊥
pair_short a f e =
    let x = and_then_some _ (first_in decimal_in (a ∷ [])) f e in
    let v = map_some (λ (s : Decimal). (s, [])) (decimal_in a) x.0 x.1 in
    let y = map_some _ (first_in decimal_in x.0.1) f x.2 in
    let second = subst (λ (l : Decimal × List Data). first_in decimal_in l.1 ≡ Some y.0) (sym v.2) y.1 in cc second

pub pair_taken : (a b : Data) (ds : List Data) (low high : Decimal) → IsDecimal a low → IsDecimal b high → pair_first (a ∷ (b ∷ ds)) ≡ Some ((low, high), ds)
pair_taken a b ds low high x y =
    and_then_taken _ (first_in decimal_in (a ∷ (b ∷ ds))) (low, b ∷ ds) ((low, high), ds) (map_taken _ (decimal_in a) low _ (decimal_taken a low x) refl)
    (map_taken _ (first_in decimal_in (b ∷ ds)) (high, ds) ((low, high), ds) (map_taken _ (decimal_in b) high _ (decimal_taken b high y) refl) refl)
