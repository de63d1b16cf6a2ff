-- The params of all methods that change something.
use Rattle.std.proofs.Common.{◌≡◌, Bool, true, false, List, [], ◌∷◌, Option, Some, None, refl, sym, ap, subst, ◌∙◌}
use Rattle.serde_json.specs.Data.{Data, Members, no_members}
use Rattle.cts_methods.specs.Asking.{Asking, ItemName, Order, PacketName, chooses_set, enables, in_parts, in_text, injects, sends, stops}
use Rattle.cts_methods.specs.Kinds.{alone, choose_set, command, enable, injected, may_be, names_first, names_in, nothing, object_in, or_else, order_in, packet_first, parts_in, single, text_in}
use Rattle.cts_api_laws.specs.ParamRows.{AreNames, AreTwoNames, IsChoice, IsCommand, IsEnable, IsInjection, IsOrder, ParamsAreTheirRow}
use Rattle.cts_api_laws.proofs.Inverting.{and_then_some, and_then_taken, map_some, map_taken, one_said, one_taken, pair_refused, single_said, single_taken, some_is, two_refused}
use Rattle.cts_api_laws.proofs.Params.{names_said, names_short, names_taken, object_said, object_taken, packet_said, packet_short, packet_taken, text_said, text_taken}
use Rattle.cts_api_laws.proofs.SetLimits.{set_limits_said, set_limits_taken}

-- ---- three names

abbrev Three : Type 0
Three = ItemName × List Data

alone_said : {A : Type 0} (f : A × List Data) (ds : List Data) (a : A) → ds ≡ f.1 → alone f ≡ Some a → (ds ≡ []) × (f.0 ≡ a)
alone_said (x, []) ds a e is = (e, some_is x a is)
alone_said (x, d ∷ more) ds a e is = absurd (cc is)

abbrev IsThree : List Data → ItemName → Type 0
IsThree (t ∷ (p ∷ (i ∷ []))) name = AreNames t p i name
IsThree _ name = ⊥

names_alone : (ds : List Data) (i : ItemName) → names_in ds ≡ Some i → IsThree ds i
names_alone ds i e = let f = and_then_some alone (names_first ds) i e in by_count_of ds f.0 f.1 f.2 where
  by_count_of : (ds : List Data) (f : Three) → names_first ds ≡ Some f → alone f ≡ Some i → IsThree ds i
  by_count_of [] f first is = names_short [] f tt first
  by_count_of (t ∷ []) f first is = names_short (t ∷ []) f tt first
  by_count_of (t ∷ (p ∷ [])) f first is = names_short (t ∷ (p ∷ [])) f tt first
  by_count_of (t ∷ (p ∷ (d ∷ []))) f first is =
      let n = names_said t p d [] f first in subst (AreNames t p d) (alone_said f [] i n.1 is).1 n.0
  by_count_of (t ∷ (p ∷ (d ∷ (e ∷ ds)))) f first is =
      let n = names_said t p d (e ∷ ds) f first in let none : e ∷ ds ≡ [] = (alone_said f (e ∷ ds) i n.1 is).0 in cc none

enable_row : (on : Bool) (ds : List Data) (i : ItemName) (a : Asking) → a ≡ enables on i → IsThree ds i → IsEnable on ds a
enable_row on [] i a is x = absurd x
enable_row on (t ∷ []) i a is x = absurd x
enable_row on (t ∷ (p ∷ [])) i a is x = absurd x
enable_row on (t ∷ (p ∷ (d ∷ []))) i a is x = (i, is, x)
enable_row on (t ∷ (p ∷ (d ∷ (e ∷ ds)))) i a is x = absurd x

enable_said : (on : Bool) (ds : List Data) (a : Asking) → enable on ds ≡ Some a → IsEnable on ds a
enable_said on ds a e = let m = map_some (λ (i : ItemName). enables on i) (names_in ds) a e in enable_row on ds m.0 a (sym m.2) (names_alone ds m.0 m.1)

enable_taken : (on : Bool) (ds : List Data) (a : Asking) → IsEnable on ds a → enable on ds ≡ Some a
enable_taken on [] a x = absurd x
enable_taken on (t ∷ []) a x = absurd x
enable_taken on (t ∷ (p ∷ [])) a x = absurd x
enable_taken on (t ∷ (p ∷ (d ∷ []))) a (name, is, names) =
    map_taken (λ (i : ItemName). enables on i) (names_in (t ∷ (p ∷ (d ∷ [])))) name a (and_then_taken alone (names_first (t ∷ (p ∷ (d ∷ [])))) (name, []) name (names_taken t p d [] name names) refl) (sym is)
enable_taken on (t ∷ (p ∷ (d ∷ (e ∷ ds)))) a x = absurd x

-- ---- one text

choice_said : (ds : List Data) (a : Asking) → choose_set ds ≡ Some a → IsChoice ds a
choice_said [] a e = absurd (cc e)
choice_said (s ∷ []) a e =
    let m = map_some chooses_set (single text_in (s ∷ [])) a e in (m.0, sym m.2, text_said s m.0 (single_said text_in s m.0 m.1))
choice_said (s ∷ (d ∷ ds)) a e = let m = map_some chooses_set (single text_in (s ∷ (d ∷ ds))) a e in absurd (pair_refused text_in s d ds m.0 m.1)

choice_taken : (ds : List Data) (a : Asking) → IsChoice ds a → choose_set ds ≡ Some a
choice_taken [] a x = absurd x
choice_taken (s ∷ []) a (name, is, text) = map_taken chooses_set (single text_in (s ∷ [])) name a (single_taken text_in s name (text_taken s name text)) (sym is)
choice_taken (s ∷ (d ∷ ds)) a x = absurd x

-- ---- a command

abbrev Two : Type 0
Two = PacketName × List Data

parts_of : (t c : Data) (ds : List Data) (o : Order) → parts_in (t ∷ (c ∷ ds)) ≡ Some o → (name : PacketName) × (ms : Option Members) × AreTwoNames t c name × (may_be object_in ds ≡ Some ms) × (o ≡ in_parts name (or_else no_members ms))
parts_of t c ds o e =
    let f = and_then_some _ (packet_first (t ∷ (c ∷ ds))) o e in
    let n = packet_said t c ds f.0 f.1 in
    let m = map_some _ (may_be object_in f.0.1) o f.2 in (f.0.0, m.0, n.0, ap (may_be object_in) n.1 ∙ m.1, sym m.2)

parts_taken : (t c : Data) (ds : List Data) (o : Order) (name : PacketName) (ms : Option Members) → AreTwoNames t c name → may_be object_in ds ≡ Some ms → o ≡ in_parts name (or_else no_members ms) → parts_in (t ∷ (c ∷ ds)) ≡ Some o
parts_taken t c ds o name ms names is so =
    and_then_taken _ (packet_first (t ∷ (c ∷ ds))) (name, ds) o (packet_taken t c ds name names) (map_taken _ (may_be object_in ds) ms o is (sym so))

order_said : (ds : List Data) (o : Order) → order_in ds ≡ Some o → IsOrder ds o
order_said [] o e = absurd (cc e)
order_said (d ∷ []) o e = let m = map_some in_text (text_in d) o e in (m.0, sym m.2, text_said d m.0 m.1)
order_said (t ∷ (c ∷ [])) o e =
    let p = parts_of t c [] o e in
    let none : None ≡ p.1 = some_is None p.1 p.3 in (p.0, p.4 ∙ ap (λ (x : Option Members). in_parts p.0 (or_else no_members x)) (sym none), p.2)
order_said (t ∷ (c ∷ (d ∷ []))) o e =
    let p = parts_of t c (d ∷ []) o e in
    let one = one_said object_in d p.1 p.3 in
    (p.0, one.0, p.4 ∙ ap (λ (x : Option Members). in_parts p.0 (or_else no_members x)) (sym one.2), p.2, object_said d one.0 one.1)
order_said (t ∷ (c ∷ (d ∷ (x ∷ ds)))) o e = let p = parts_of t c (d ∷ (x ∷ ds)) o e in absurd (two_refused object_in d x ds p.1 p.3)

order_taken : (ds : List Data) (o : Order) → IsOrder ds o → order_in ds ≡ Some o
order_taken [] o x = absurd x
order_taken (d ∷ []) o (text, is, so) = map_taken in_text (text_in d) text o (text_taken d text so) (sym is)
order_taken (t ∷ (c ∷ [])) o (name, is, names) = parts_taken t c [] o name None names refl is
order_taken (t ∷ (c ∷ (d ∷ []))) o (name, ms, is, names, so) = parts_taken t c (d ∷ []) o name (Some ms) names (one_taken object_in d ms (object_taken d ms so)) is
order_taken (t ∷ (c ∷ (d ∷ (x ∷ ds)))) o y = absurd y

command_said : (range hazardous : Bool) (ds : List Data) (a : Asking) → command range hazardous ds ≡ Some a → IsCommand range hazardous ds a
command_said range hazardous ds a e = let m = map_some (λ (o : Order). sends (record { range = range; hazardous = hazardous }) o) (order_in ds) a e in (m.0, sym m.2, order_said ds m.0 m.1)

command_taken : (range hazardous : Bool) (ds : List Data) (a : Asking) → IsCommand range hazardous ds a → command range hazardous ds ≡ Some a
command_taken range hazardous ds a (o, is, order) = map_taken (λ (o : Order). sends (record { range = range; hazardous = hazardous }) o) (order_in ds) o a (order_taken ds o order) (sym is)

-- ---- an injection

injection_of : (t p : Data) (ds : List Data) (a : Asking) → injected (t ∷ (p ∷ ds)) ≡ Some a → (name : PacketName) × (ms : Members) × (a ≡ injects name ms) × AreTwoNames t p name × (single object_in ds ≡ Some ms)
injection_of t p ds a e =
    let f = and_then_some _ (packet_first (t ∷ (p ∷ ds))) a e in
    let n = packet_said t p ds f.0 f.1 in
    let m = map_some _ (single object_in f.0.1) a f.2 in (f.0.0, m.0, sym m.2, n.0, ap (single object_in) n.1 ∙ m.1)

injection_said : (ds : List Data) (a : Asking) → injected ds ≡ Some a → IsInjection ds a
injection_said [] a e = absurd (cc e)
injection_said (t ∷ []) a e = let f = and_then_some _ (packet_first (t ∷ [])) a e in absurd (packet_short t f.0 f.1)
injection_said (t ∷ (p ∷ [])) a e = let i = injection_of t p [] a e in let none = i.4 in absurd (cc none)
injection_said (t ∷ (p ∷ (d ∷ []))) a e =
    let i = injection_of t p (d ∷ []) a e in (i.0, i.1, i.2, i.3, object_said d i.1 (single_said object_in d i.1 i.4))
injection_said (t ∷ (p ∷ (d ∷ (x ∷ ds)))) a e = let i = injection_of t p (d ∷ (x ∷ ds)) a e in absurd (pair_refused object_in d x ds i.1 i.4)

injection_taken : (ds : List Data) (a : Asking) → IsInjection ds a → injected ds ≡ Some a
injection_taken [] a x = absurd x
injection_taken (t ∷ []) a x = absurd x
injection_taken (t ∷ (p ∷ [])) a x = absurd x
injection_taken (t ∷ (p ∷ (d ∷ []))) a (name, ms, is, names, so) =
    and_then_taken _ (packet_first (t ∷ (p ∷ (d ∷ [])))) (name, d ∷ []) a (packet_taken t p (d ∷ []) name names)
    (map_taken _ (single object_in (d ∷ [])) ms a (single_taken object_in d ms (object_taken d ms so)) (sym is))
injection_taken (t ∷ (p ∷ (d ∷ (x ∷ ds)))) a y = absurd y

-- ---- no params

none_said : (ds : List Data) (a : Asking) → nothing stops ds ≡ Some a → (ds ≡ []) × (a ≡ stops)
none_said [] a e = (refl, sym (some_is stops a e))
none_said (d ∷ ds) a e = absurd (cc e)

none_taken : (ds : List Data) (a : Asking) → (ds ≡ []) × (a ≡ stops) → nothing stops ds ≡ Some a
none_taken ds a (none, is) = ap (nothing stops) none ∙ ap (λ x. Some x) (sym is)

-- ---- all of them

pub params_are_their_row : ParamsAreTheirRow
params_are_their_row = record {
  set_limits = λ ds a. (set_limits_said ds a, set_limits_taken ds a);
  enable_limits = λ ds a. (enable_said true ds a, enable_taken true ds a);
  disable_limits = λ ds a. (enable_said false ds a, enable_taken false ds a);
  set_limits_set = λ ds a. (choice_said ds a, choice_taken ds a);
  cmd = λ ds a. (command_said true true ds a, command_taken true true ds a);
  cmd_no_range_check = λ ds a. (command_said false true ds a, command_taken false true ds a);
  cmd_no_hazardous_check = λ ds a. (command_said true false ds a, command_taken true false ds a);
  cmd_no_checks = λ ds a. (command_said false false ds a, command_taken false false ds a);
  inject_tlm = λ ds a. (injection_said ds a, injection_taken ds a);
  stop_server = λ ds a. (none_said ds a, none_taken ds a);
}
