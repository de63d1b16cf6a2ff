-- How many boxes of a kind the worlds of two sites need together.
use Rattle.std.proofs.Common.{◌≡◌, ℕ, ◌+◌, ◌*◌, ◌<◌, ◌≤◌, List, ◌∷◌, ◌++◌, Some, None, Bool, true, false, cond, map, ap, arith, refl, subst, ◌∙◌}
use Rattle.std.specs.Prelude.{if◌then◌else◌, nat_lt}
use Rattle.std.specs.List.{flat_map}
use Rattle.std.proofs.lemmas.Bool.Decides.{nat_tests}
use Rattle.std.proofs.lemmas.Grind.{flat_map-append}
use Rattle.std.proofs.lemmas.List.{map-append}
use Rattle.cts_chain.specs.Builds.{Taken, all_uses, use_specs, uses_in}
use Rattle.cts_chain.specs.Stocking.{first_short, is_short, needed}
use Rattle.cts_chain.proofs.Counting.{needed_then}
use Rattle.cts_chain.proofs.Planning.{enough_of}
use Rattle.cts_connection.specs.LineChains.{line_uses, twice}
use Rattle.cts_def.specs.Protocols.{SpecData, UseData}
use Rattle.cts_def.specs.Sites.{InterfaceData, RouterData, SiteData}
use Rattle.cts_def.specs.declared.proto_spec.Kind.{Kind}
use Rattle.cts_def.specs.declared.proto_spec.Kind.TheVariants as kind
use Rattle.cts_framing.specs.Chains.{interface_chains, router_chains}
use Rattle.cts_proto.specs.Meaning.{Meaning}
use Rattle.cts_proto.specs.Stock.{counted, stocked}
use Rattle.cts_run.specs.Hub.{joint, router_uses}
use Rattle.cts_run.specs.Start.{short_halt, short_kind, site_specs}
use Rattle.cts_run.specs.declared.halt.Halt.{Halt}
use Rattle.cts_run.specs.declared.halt.Halt.TheVariants.{ShelfEmpty}

-- those of an interface, and then those of the others
pub needed_first : (k : Kind) (i : InterfaceData) (later : List InterfaceData) → needed k (use_specs (uses_in (i ∷ later))) ≡ needed k (use_specs i.chain) + needed k (use_specs (uses_in later))
needed_first k i later = needed_then k i.chain (uses_in later)

-- a router has two chains
pub needed_twice : (k : Kind) (r : RouterData) (later : List RouterData)
    → needed k (use_specs (router_uses (r ∷ later))) ≡ 2 * needed k (use_specs r.chain) + needed k (use_specs (router_uses later))
needed_twice k r later =
    let one = needed_then k r.chain (r.chain ++ router_uses later) in
    let two = needed_then k r.chain (router_uses later) in
    omega (arith, one, two)

-- a site needs those of its interfaces and of its routers
pub needed_site : (k : Kind) (s : SiteData) → needed k (use_specs (line_uses s)) ≡ needed k (use_specs (uses_in s.interfaces)) + needed k (use_specs (router_uses s.routers))
needed_site k s =
    ap (λ (us : List UseData). needed k (use_specs us)) (flat_map-append (λ (uses : List UseData). uses) (interface_chains s) (flat_map twice (router_chains s)))
    ∙ needed_then k (uses_in s.interfaces) (router_uses s.routers)

uses_append : (xs ys : List InterfaceData) → uses_in (xs ++ ys) ≡ uses_in xs ++ uses_in ys
uses_append xs ys =
    ap all_uses (map-append (λ (i : InterfaceData). i.chain) xs ys)
    ∙ flat_map-append (λ (uses : List UseData). uses) (map (λ (i : InterfaceData). i.chain) xs) (map (λ (i : InterfaceData). i.chain) ys)

routers_append : (xs ys : List RouterData) → router_uses (xs ++ ys) ≡ router_uses xs ++ router_uses ys
routers_append xs ys =
    ap (λ (cs : List (List UseData)). all_uses (flat_map twice cs)) (map-append (λ (r : RouterData). r.chain) xs ys)
    ∙ ap all_uses (flat_map-append twice (map (λ (r : RouterData). r.chain) xs) (map (λ (r : RouterData). r.chain) ys))
    ∙ flat_map-append (λ (uses : List UseData). uses) (flat_map twice (map (λ (r : RouterData). r.chain) xs)) (flat_map twice (map (λ (r : RouterData). r.chain) ys))

-- both sites together need what each needs
pub needed_joint : (k : Kind) (above below : SiteData) → needed k (use_specs (line_uses above)) + needed k (use_specs (line_uses below)) ≡ needed k (site_specs (joint above below))
needed_joint k above below =
    let i : needed k (use_specs (uses_in (above.interfaces ++ below.interfaces))) ≡ needed k (use_specs (uses_in above.interfaces)) + needed k (use_specs (uses_in below.interfaces)) =
    ap (λ (us : List UseData). needed k (use_specs us)) (uses_append above.interfaces below.interfaces) ∙ needed_then k (uses_in above.interfaces) (uses_in below.interfaces) in
    let r : needed k (use_specs (router_uses (above.routers ++ below.routers))) ≡ needed k (use_specs (router_uses above.routers)) + needed k (use_specs (router_uses below.routers)) =
    ap (λ (us : List UseData). needed k (use_specs us)) (routers_append above.routers below.routers) ∙ needed_then k (router_uses above.routers) (router_uses below.routers) in
    let all = needed_site k (joint above below) in
    let first = needed_site k above in
    let second = needed_site k below in
    omega (arith, i, r, all, first, second)

exact : (s n c : ℕ) → n ≤ 192 → c < n → c ≡ counted s → c ≡ s
exact s n c few less is = grind arith

less_than : (m n : ℕ) → m < n → nat_lt m n ≡ true
less_than m n h = grind (arith, nat_tests)

not_less : (s n c : ℕ) → n ≤ 192 → n ≤ c → c ≡ counted s → nat_lt s n ≡ false
not_less s n c few enough is = grind (arith, nat_tests)

by_test : (b : Bool) (h : Halt) → b ≡ true → Some h ≡ (if b then Some h else None)
by_test b h is = rw is refl

by_no_test : (b : Bool) (h : Halt) → b ≡ false → None ≡ (if b then Some h else None)
by_no_test b h is = rw is refl

module _ (stock : List Meaning) (above below : SiteData) (k : Kind) (wanted there : ℕ) (is : wanted ≡ needed k (site_specs (joint above below))) (few : wanted ≤ 192) (count : there ≡ counted (stocked k stock)) where
  pub short_shown : there < wanted
      → Some (ShelfEmpty k wanted there) ≡ (if is_short stock (site_specs (joint above below)) k then Some (short_halt stock (joint above below) k) else None)
  short_shown less =
      let same : there ≡ stocked k stock = exact (stocked k stock) wanted there few less count in
      let shown : Some (ShelfEmpty k wanted there) ≡ Some (short_halt stock (joint above below) k) = ap (λ (n : ℕ). Some (ShelfEmpty k n there)) is ∙ ap (λ (n : ℕ). Some (ShelfEmpty k (needed k (site_specs (joint above below))) n)) same in
      let test : nat_lt (stocked k stock) (needed k (site_specs (joint above below))) ≡ true =
      less_than _ _ (subst (λ (n : ℕ). stocked k stock < n) is (subst (λ (n : ℕ). n < wanted) same less)) in
      shown ∙ by_test (is_short stock (site_specs (joint above below)) k) (short_halt stock (joint above below) k) test

  pub short_not : wanted ≤ there
      → None ≡ (if is_short stock (site_specs (joint above below)) k then Some (short_halt stock (joint above below) k) else None)
  short_not enough =
      by_no_test (is_short stock (site_specs (joint above below)) k) (short_halt stock (joint above below) k)
      (subst (λ (n : ℕ). nat_lt (stocked k stock) n ≡ false) is (not_less (stocked k stock) wanted there few enough count))

-- ---- both worlds, one after the other

none_of : (a b c d e : Bool) → a ≡ false → b ≡ false → c ≡ false → d ≡ false → e ≡ false
    → cond a (Some kind.Burst) (cond b (Some kind.Fixed) (cond c (Some kind.Length) (cond d (Some kind.Terminated) (cond e (Some kind.Preidentified) None)))) ≡ None
none_of a b c d e p q r s t = rw (p, q, r, s, t) refl

never_less : (m n : ℕ) → n ≤ m → nat_lt m n ≡ false
never_less m n h = grind (arith, nat_tests)

-- where there are enough boxes of each kind, none is short
enough_all : (stock : List Meaning) (specs : List SpecData) → ((k : Kind) → needed k specs ≤ stocked k stock) → first_short stock specs ≡ None
enough_all stock specs h =
    let there : (k : Kind) → is_short stock specs k ≡ false = λ k. never_less (stocked k stock) (needed k specs) (h k) in
    none_of (is_short stock specs kind.Burst) (is_short stock specs kind.Fixed) (is_short stock specs kind.Length) (is_short stock specs kind.Terminated) (is_short stock specs kind.Preidentified) (there kind.Burst) (there kind.Fixed) (there kind.Length) (there kind.Terminated) (there kind.Preidentified)

module _ (stock mid : List Meaning) (above below : SiteData) (none : short_kind stock (joint above below) ≡ None) where
  enough : (k : Kind) → needed k (use_specs (line_uses above)) + needed k (use_specs (line_uses below)) ≤ stocked k stock
  enough k =
      let both = needed_joint k above below in
      let all = enough_of stock (site_specs (joint above below)) none k in
      omega (arith, both, all)

  -- none is short for the world above, and none for the world below after it
  pub none_above : short_kind stock above ≡ None
  none_above =
      let each : (k : Kind) → needed k (site_specs above) ≤ stocked k stock = λ k. omega (arith, enough k) in
      enough_all stock (site_specs above) each

  pub none_below : Taken stock (line_uses above) mid → short_kind mid below ≡ None
  none_below t =
      let each : (k : Kind) → needed k (site_specs below) ≤ stocked k mid = λ k. omega (arith, enough k, t k) in
      enough_all mid (site_specs below) each

-- the boxes of both are gone
pub both_taken : (stock mid new : List Meaning) (above below : SiteData) → Taken stock (line_uses above) mid → Taken mid (line_uses below) new → Taken stock (line_uses (joint above below)) new
both_taken stock mid new above below t u k =
    let both = needed_joint k above below in
    omega (arith, both, t k, u k)
