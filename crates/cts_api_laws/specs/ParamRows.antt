-- The params of the methods that change something, by their rows in the table of methods: how many there may be, and what each of them is.
use Rattle.std.specs.Prelude.{◌≡◌, ℕ, ℤ, ◌≤◌, Bool, true, false, ◌⊎◌, List, [], ◌∷◌, Some, None, Ok, codes}
use Rattle.cts_base.specs.declared.decimal.Decimal.{Decimal}
use Rattle.cts_base.specs.Decimals.{decimal_of}
use Rattle.serde_json.specs.Data.{Data, Members, Num, boolean, no_members, number, object, string, unsigned}
use Rattle.serde_json.specs.Find.{as_integer}
use Rattle.cts_methods.specs.Asking.{Asking, ItemName, NewLimits, Order, PacketName, chooses_set, enables, in_parts, in_text, injects, sends}
use Rattle.cts_methods.specs.Asking.{sets_limits, stops}
use Rattle.cts_methods.specs.Kinds.{are_given, wholes}
use Rattle.cts_api.specs.Rows.{asked}

-- ---- what one param is

-- a whole number, so many wholes, or the text of a decimal
abbrev pub IsDecimal : Data → Decimal → Type 0
IsDecimal d x = ((n : Num) × (z : ℤ) × (d ≡ number n) × (as_integer n ≡ Some z) × (x ≡ wholes z)) ⊎ ((s : List ℕ) × (d ≡ string s) × (decimal_of s ≡ Ok x))

abbrev pub IsPersistence : Data → ℕ → Type 0
IsPersistence d n = (d ≡ number (unsigned n)) × (1 ≤ n) × (n ≤ 4294967295)

-- an object of whole numbers and texts
abbrev pub IsObject : Data → Members → Type 0
IsObject d ms = (d ≡ object ms) × (are_given ms ≡ true)

-- a target and a packet, or a target and a command
abbrev pub AreTwoNames : Data → Data → PacketName → Type 0
AreTwoNames t p name = (t ≡ string name.target) × (p ≡ string name.packet)

-- a target, a packet and an item
abbrev pub AreNames : Data → Data → Data → ItemName → Type 0
AreNames t p i name = (t ≡ string name.target) × (p ≡ string name.packet) × (i ≡ string name.item)

-- ---- set_limits: three names, rl, yl, yh, rh, and then none, or gl and gh, or these and a set, or these and a persistence, or these and
-- whether samples are taken

abbrev pub AreGreen : Data → Data → NewLimits → Type 0
AreGreen gl gh new = (low : Decimal) × (high : Decimal) × IsDecimal gl low × IsDecimal gh high × (new.limits.green ≡ Some (low, high))

abbrev pub IsSet : Data → NewLimits → Type 0
IsSet d new = (name : List ℕ) × (d ≡ string name) × (new.set ≡ Some name)

abbrev pub IsLasting : Data → NewLimits → Type 0
IsLasting d new = (n : ℕ) × IsPersistence d n × (new.persistence ≡ Some n)

abbrev pub AreMore : List Data → NewLimits → Type 0
AreMore [] new = (new.limits.green ≡ None) × (new.set ≡ None) × (new.persistence ≡ None) × (new.enabled ≡ true)
AreMore (gl ∷ []) new = ⊥
AreMore (gl ∷ (gh ∷ [])) new = AreGreen gl gh new × (new.set ≡ None) × (new.persistence ≡ None) × (new.enabled ≡ true)
AreMore (gl ∷ (gh ∷ (s ∷ []))) new = AreGreen gl gh new × IsSet s new × (new.persistence ≡ None) × (new.enabled ≡ true)
AreMore (gl ∷ (gh ∷ (s ∷ (n ∷ [])))) new = AreGreen gl gh new × IsSet s new × IsLasting n new × (new.enabled ≡ true)
AreMore (gl ∷ (gh ∷ (s ∷ (n ∷ (on ∷ []))))) new = AreGreen gl gh new × IsSet s new × IsLasting n new × (on ≡ boolean new.enabled)
AreMore (gl ∷ (gh ∷ (s ∷ (n ∷ (on ∷ (d ∷ ds)))))) new = ⊥

abbrev pub IsSetLimits : List Data → Asking → Type 0
IsSetLimits (t ∷ (p ∷ (i ∷ (rl ∷ (yl ∷ (yh ∷ (rh ∷ more))))))) a =
    (name : ItemName) × (new : NewLimits) × (a ≡ sets_limits name new) × AreNames t p i name
    × IsDecimal rl new.limits.red_low × IsDecimal yl new.limits.yellow_low × IsDecimal yh new.limits.yellow_high × IsDecimal rh new.limits.red_high
    × AreMore more new
IsSetLimits _ a = ⊥

-- ---- the others

-- three names
abbrev pub IsEnable : Bool → List Data → Asking → Type 0
IsEnable on (t ∷ (p ∷ (i ∷ []))) a = (name : ItemName) × (a ≡ enables on name) × AreNames t p i name
IsEnable on _ a = ⊥

-- a set
abbrev pub IsChoice : List Data → Asking → Type 0
IsChoice (s ∷ []) a = (name : List ℕ) × (a ≡ chooses_set name) × (s ≡ string name)
IsChoice _ a = ⊥

-- a command's text; or a target and a command, and perhaps an object
abbrev pub IsOrder : List Data → Order → Type 0
IsOrder (d ∷ []) o = (text : List ℕ) × (o ≡ in_text text) × (d ≡ string text)
IsOrder (t ∷ (c ∷ [])) o = (name : PacketName) × (o ≡ in_parts name no_members) × AreTwoNames t c name
IsOrder (t ∷ (c ∷ (d ∷ []))) o = (name : PacketName) × (ms : Members) × (o ≡ in_parts name ms) × AreTwoNames t c name × IsObject d ms
IsOrder _ o = ⊥

abbrev pub IsCommand : Bool → Bool → List Data → Asking → Type 0
IsCommand range hazardous ds a = (o : Order) × (a ≡ sends (record { range = range; hazardous = hazardous }) o) × IsOrder ds o

-- a target and a packet, and an object
abbrev pub IsInjection : List Data → Asking → Type 0
IsInjection (t ∷ (p ∷ (d ∷ []))) a = (name : PacketName) × (ms : Members) × (a ≡ injects name ms) × AreTwoNames t p name × IsObject d ms
IsInjection _ a = ⊥

-- nothing
abbrev pub IsStop : List Data → Asking → Type 0
IsStop ds a = (ds ≡ []) × (a ≡ stops)

-- ---- what is asked by the params of each method that changes something

-- The params ask what their row says, and all params of the row ask it.
abbrev pub IsAskedBy : List ℕ → (List Data → Asking → Type 0) → Type 0
IsAskedBy name row = (ds : List Data) (a : Asking) → (asked name ds ≡ Some a → row ds a) × (row ds a → asked name ds ≡ Some a)

pub record ParamsAreTheirRow : Type 0 where
  pub set_limits : IsAskedBy (codes "set_limits") IsSetLimits
  pub enable_limits : IsAskedBy (codes "enable_limits") (IsEnable true)
  pub disable_limits : IsAskedBy (codes "disable_limits") (IsEnable false)
  pub set_limits_set : IsAskedBy (codes "set_limits_set") IsChoice
  pub cmd : IsAskedBy (codes "cmd") (IsCommand true true)
  pub cmd_no_range_check : IsAskedBy (codes "cmd_no_range_check") (IsCommand false true)
  pub cmd_no_hazardous_check : IsAskedBy (codes "cmd_no_hazardous_check") (IsCommand true false)
  pub cmd_no_checks : IsAskedBy (codes "cmd_no_checks") (IsCommand false false)
  pub inject_tlm : IsAskedBy (codes "inject_tlm") IsInjection
  pub stop_server : IsAskedBy (codes "stop_server") IsStop
