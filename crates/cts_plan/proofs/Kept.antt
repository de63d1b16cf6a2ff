-- A statement without a cause keeps what is true of all that stands.
use Rattle.std.proofs.Common.{◌≡◌, ℕ, zero, suc, pos, negsuc, ◌≤◌, Bool, true, false, cond, ◌||◌, List, [], ◌∷◌, ◌++◌, length, Option, Some, None, Ok, Err, refl, sym, ap, subst, ◌∙◌, append_assoc, nat_lt, arith, IsTrue}
use Rattle.std.specs.Prelude.{ℤ, codes, find, int_le, nat_le, unsigned_abs, unwrap_or, Result}
use Rattle.std.specs.Int.{is_negative}
use Rattle.std.specs.Str.{bytes_eq}
use Rattle.std.specs.List.{list_any, list_all, IsDistinct}
use Rattle.std.proofs.lemmas.Bool.Decides.{nat_tests}
use Rattle.std.proofs.lemmas.List.{append-nil}
use Rattle.std.proofs.lemmas.List.Folds.{list_any-append}
use Rattle.cts_base.specs.declared.decimal.Decimal.{Decimal}
use Rattle.cts_base.specs.declared.decimal.NotDecimal.{NotDecimal}
use Rattle.cts_base.specs.Decimals.{decimal_of}
use Rattle.cts_base.specs.Wholes.{whole_of}
use Rattle.cts_def.specs.Items.{is_same}
use Rattle.cts_def.specs.Most.{least_cycle, most_cycle, most_desks}
use Rattle.cts_def.specs.Packets.{DefinitionsData}
use Rattle.cts_def.specs.Protocols.{is_layout}
use Rattle.cts_def.specs.Sites.{InterfaceData, RouterData, SiteData, IsSoundSite, is_cycle, is_known_target, targets_of}
use Rattle.cts_words.specs.declared.statement.Statement.{Statement}
use Rattle.cts_words.specs.Refusals.{or_else}
use Rattle.cts_words.proofs.Finds.{none_passes}
use Rattle.cts_plan.specs.declared.draft.Draft.{Draft}
use Rattle.cts_plan.specs.declared.opened.Current.{Current}
use Rattle.cts_plan.specs.declared.opened.Current.TheVariants as current
use Rattle.cts_plan.specs.declared.keyword.Keyword.{Keyword}
use Rattle.cts_plan.specs.declared.keyword.Keyword.TheVariants as keyword
use Rattle.cts_plan.specs.declared.words.Way.TheVariants.{ReadWrite}
use Rattle.cts_plan.specs.declared.line.Line.{Line}
use Rattle.cts_plan.specs.declared.line.Line.TheVariants as line
use Rattle.cts_plan.specs.declared.line.Detail.{Detail}
use Rattle.cts_plan.specs.declared.line.Detail.TheVariants as detail
use Rattle.cts_plan.specs.Words.{word, way_of, natural_in, port_of, desks_of, log_layout_of, cycle_of, delay_in, delay_of}
use Rattle.cts_plan.specs.Lines.{name_of, step_at, interface_by, router_by, said_or_nothing, line_of}
use Rattle.cts_plan.specs.Standing.{first_site, start, has_name, number_of, closed, change, place}
use Rattle.cts_plan.specs.Causes.{holds, order, is_file_unknown, is_unrouted, is_double, is_unknown_target, maps, is_in, is_target_twice, is_chain_too_long, is_not_last, is_too_many}
use Rattle.cts_reader.specs.Reading.{at_line}
use Rattle.cts_plan.specs.Completing.{due}
use Rattle.cts_plan.specs.SiteFiles.{parts, opening, opens, ready, with_line, step, cause_in, refusal_in}
use Rattle.cts_plan.specs.Keeping.{IsNewInterface, IsNewRouter, IsNew, KeepsRules, FitsCurrent, Fits}
use Rattle.cts_reader.proofs.FirstRefused.{no_cause}
use Rattle.cts_plan.proofs.Lists.{neither, not_false, and_true, distinct_snoc}
use Rattle.cts_plan.proofs.Completed.{sound_completed, none_left, all_joined}

-- ---- lines keep their bounds

-- what is true of each line, refused or not
abbrev IsSoundLine : Line → Type 0
IsSoundLine (line.ApiPort port) = 1 ≤ port
IsSoundLine (line.Desks desks) = (1 ≤ desks) × (desks ≤ most_desks)
IsSoundLine (line.LogLayout layout) = IsTrue (is_layout layout)
IsSoundLine (line.LogCycle bytes) = IsTrue (is_cycle (Some bytes))
IsSoundLine (line.Interface i) = i.targets ≡ []
IsSoundLine (line.Router r) = r.routes ≡ []
IsSoundLine (line.Detail (detail.Delay delay)) = IsTrue (int_le (pos 0) delay.parts)
IsSoundLine _ = Unit {0}

within : (negative : Bool) (least most m n : ℕ) (b : Bool) → (negative || nat_lt m least || nat_lt most m) ≡ b → cond b None (Some m) ≡ Some n → (least ≤ n) × (n ≤ most)
within negative least most m n true is e = absurd cc
within negative least most m n false is e =
    let parts = neither (negative || nat_lt m least) (nat_lt most m) is in
    let low : nat_lt m least ≡ false = (neither negative (nat_lt m least) parts.0).1 in
    let high : nat_lt most m ≡ false = parts.1 in
    let same : m ≡ n = cc in
    (subst (λ k. least ≤ k) same (grind (arith, nat_tests)), subst (λ k. k ≤ most) same (grind (arith, nat_tests)))

natural_within : (least most : ℕ) (o : Option ℤ) (n : ℕ) → natural_in least most o ≡ Some n → (least ≤ n) × (n ≤ most)
natural_within least most None n e = absurd cc
natural_within least most (Some z) n e = within (is_negative z) least most (unsigned_abs z) n (is_negative z || nat_lt (unsigned_abs z) least || nat_lt most (unsigned_abs z)) refl e

layout_sound : (two four : Bool) (n : ℕ) → cond two (Some 2) (cond four (Some 4) None) ≡ Some n → is_layout n ≡ true
layout_sound true four n e = let same : 2 ≡ n = cc in ap is_layout (sym same)
layout_sound false true n e = let same : 4 ≡ n = cc in ap is_layout (sym same)
layout_sound false false n e = absurd cc

cycle_sound : (n : ℕ) → (least_cycle ≤ n) × (n ≤ most_cycle) → is_cycle (Some n) ≡ true
cycle_sound n h = and_true (nat_le least_cycle n) (nat_le n most_cycle) (grind (arith, h)) (grind (arith, h))

from_zero : (z : ℤ) → is_negative z ≡ false → int_le (pos 0) z ≡ true
from_zero (pos n) e = grind arith
from_zero (negsuc n) e = absurd cc

delay_from_zero : (b : Bool) (d x : Decimal) → is_negative d.parts ≡ b → cond b None (Some d) ≡ Some x → int_le (pos 0) x.parts ≡ true
delay_from_zero true d x is e = absurd cc
delay_from_zero false d x is e = let same : d ≡ x = cc in subst (λ (y : Decimal). int_le (pos 0) y.parts ≡ true) same (from_zero d.parts is)

delay_sound : (r : Result Decimal NotDecimal) (x : Decimal) → delay_in r ≡ Some x → int_le (pos 0) x.parts ≡ true
delay_sound (Err n) x e = absurd cc
delay_sound (Ok d) x e = delay_from_zero (is_negative d.parts) d x refl e

sound_said : {X : Type 0} (f : X → Line) (o : Option X) → ((x : X) → o ≡ Some x → IsSoundLine (f x)) → IsSoundLine (said_or_nothing f o)
sound_said f None h = tt
sound_said f (Some x) h = h x refl

sound_line : (n : ℕ) (k : Keyword) (ws : List (List ℕ)) → IsSoundLine (line_of n k ws)
sound_line n keyword.Title ws = tt
sound_line n keyword.Port ws = sound_said (λ port. line.ApiPort port) (port_of (word ws 1)) (λ x e. (natural_within 1 65535 (whole_of (word ws 1)) x e).0)
sound_line n keyword.Desks ws = sound_said (λ desks. line.Desks desks) (desks_of (word ws 0)) (λ x e. natural_within 1 most_desks (whole_of (word ws 0)) x e)
sound_line n keyword.LogLayout ws = sound_said (λ layout. line.LogLayout layout) (log_layout_of (word ws 0)) (λ x e. layout_sound (bytes_eq (word ws 0) (codes "2")) (bytes_eq (word ws 0) (codes "4")) x e)
sound_line n keyword.LogCycle ws = sound_said (λ bytes. line.LogCycle bytes) (cycle_of (word ws 0)) (λ x e. cycle_sound x (natural_within least_cycle most_cycle (whole_of (word ws 0)) x e))
sound_line n keyword.Interface ws = sound_said (λ name. line.Interface (interface_by n ws name)) (name_of (word ws 0)) (λ x e. refl)
sound_line n keyword.Router ws = sound_said (λ name. line.Router (router_by n ws name)) (name_of (word ws 0)) (λ x e. refl)
sound_line n keyword.Target ws = sound_said (λ name. line.Detail (detail.Target name)) (name_of (word ws 0)) (λ x e. tt)
sound_line n keyword.Protocol ws = sound_said (λ step. line.Detail (detail.Step step)) (step_at n (unwrap_or (way_of (word ws 0)) ReadWrite) keyword.Protocol ws) (λ x e. tt)
sound_line n keyword.ReconnectDelay ws = sound_said (λ delay. line.Detail (detail.Delay delay)) (delay_of (word ws 0)) (λ x e. delay_sound (decimal_of (word ws 0)) x e)
sound_line n keyword.DontReconnect ws = tt
sound_line n keyword.Log ws = tt
sound_line n keyword.DontLog ws = tt
sound_line n keyword.Route ws = tt

-- ---- a line without a cause can be placed

-- what is known of a line whose statement is not refused
record IsFree (s : Draft) (l : Line) : Type 0 where
  pub routed : is_unrouted s l ≡ false
  pub double : is_double s l ≡ false
  pub unknown : is_unknown_target s l ≡ false
  pub twice : is_target_twice s l ≡ false
  pub long : is_chain_too_long s l ≡ false
  pub last : is_not_last s l ≡ false
  pub many : is_too_many s l ≡ false

free : (s : Draft) (n : ℕ) (k : Keyword) (ws : List (List ℕ)) → find (λ c. holds c s k ws (line_of n k ws)) order ≡ None → IsFree s (line_of n k ws)
free s n k ws e =
    let l = line_of n k ws in
    let none = none_passes (λ c. holds c s k ws l) order e in
    record {
      routed = (neither (is_file_unknown k ws) (is_unrouted s l) none.1.1.0).1;
      double = none.1.1.1.1.1.0;
      unknown = none.1.1.1.1.1.1.1.0;
      twice = none.1.1.1.1.1.1.1.1.0;
      long = none.1.1.1.1.1.1.1.1.1.1.1.0;
      last = none.1.1.1.1.1.1.1.1.1.1.1.1.0;
      many = none.1.1.1.1.1.1.1.1.1.1.1.1.1.0;
    }

fits_current : (s : SiteData) (c : Current) (given : Bool) (d : Detail) → IsSoundLine (line.Detail d) → IsFree (record { site = s; current = c; layout_said = given }) (line.Detail d) → FitsCurrent s d c
fits_current s current.Nothing given d sound is_free = tt
fits_current s (current.Interface i) given (detail.Target name) sound is_free =
    let once = neither (list_any (maps name) s.interfaces) (is_in i.targets name) is_free.twice in
    (not_false (is_known_target s.definitions name) is_free.unknown, once.0, once.1)
fits_current s (current.Interface i) given (detail.Step step) sound is_free = (is_free.long, is_free.last)
fits_current s (current.Interface i) given (detail.Route name) sound is_free = tt
fits_current s (current.Interface i) given (detail.Delay delay) sound is_free = sound
fits_current s (current.Interface i) given detail.DontReconnect sound is_free = tt
fits_current s (current.Interface i) given (detail.Logged logged) sound is_free = tt
fits_current s (current.Router r) given (detail.Target name) sound is_free = tt
fits_current s (current.Router r) given (detail.Step step) sound is_free = (is_free.long, is_free.last)
fits_current s (current.Router r) given (detail.Route None) sound is_free = tt
fits_current s (current.Router r) given (detail.Route (Some name)) sound is_free = (not_false (list_any (has_name name) s.interfaces) is_free.routed, is_free.double)
fits_current s (current.Router r) given (detail.Delay delay) sound is_free = tt
fits_current s (current.Router r) given detail.DontReconnect sound is_free = tt
fits_current s (current.Router r) given (detail.Logged logged) sound is_free = tt

fits : (s : Draft) (l : Line) → IsSoundSite s.site → IsSoundLine l → IsFree s l → Fits l s
fits s line.Nothing site sound is_free = tt
fits s (line.ApiPort port) site sound is_free = sound
fits s (line.Desks desks) site sound is_free = sound
fits s (line.LogLayout layout) site sound is_free = sound
fits s (line.LogCycle bytes) site sound is_free = sound
fits s (line.Interface i) site sound is_free = record {
  few = is_free.many;
  name = is_free.double;
  targets = subst (IsDistinct is_same) (sym (ap (λ ts. targets_of s.site.interfaces ++ ts) sound ∙ append-nil (targets_of s.site.interfaces))) site.targets;
  known = ap (list_all (is_known_target s.site.definitions)) sound;
}
fits s (line.Router r) site sound is_free = record { few = is_free.many; name = is_free.double; routes = ap (list_all (λ n. nat_lt n (length s.site.interfaces))) sound }
fits s (line.Detail d) site sound is_free = fits_current s.site s.current s.layout_said d sound is_free

pub line_fits : (s : Draft) (n : ℕ) (k : Keyword) (ws : List (List ℕ)) → KeepsRules s → find (λ c. holds c s k ws (line_of n k ws)) order ≡ None → Fits (line_of n k ws) s
line_fits s n k ws so_far e = fits s (line_of n k ws) so_far.site (sound_line n k ws) (free s n k ws e)

-- ---- a line that is placed

any_mapped : (name : List ℕ) (is : List InterfaceData) → list_any (λ t. is_same t name) (targets_of is) ≡ list_any (maps name) is
any_mapped name [] = refl
any_mapped name (i ∷ is) = list_any-append (λ t. is_same t name) i.targets (targets_of is) ∙ ap (λ b. is_in i.targets name || b) (any_mapped name is)

neither_of : (a b : Bool) → a ≡ false → b ≡ false → (a || b) ≡ false
neither_of true b e f = absurd cc
neither_of false b e f = f

target_placed : (d : DefinitionsData) (is : List InterfaceData) (own name : List ℕ) (ts : List (List ℕ)) → IsNewInterface d is own ts → is_known_target d name ≡ true → list_any (maps name) is ≡ false
    → is_in ts name ≡ false → IsNewInterface d is own (ts ++ name ∷ [])
target_placed d is own name ts new known others here =
    let none : list_any (λ t. is_same t name) (targets_of is ++ ts) ≡ false =
    list_any-append (λ t. is_same t name) (targets_of is) ts
    ∙ neither_of (list_any (λ t. is_same t name) (targets_of is)) (is_in ts name) (any_mapped name is ∙ others) here in
    record {
      few = new.few;
      name = new.name;
      targets = subst (IsDistinct is_same) (append_assoc (targets_of is) ts (name ∷ [])) (distinct_snoc is_same (targets_of is ++ ts) name new.targets none);
      known = all_joined (is_known_target d) ts (name ∷ []) new.known (and_true (is_known_target d name) true known refl);
    }

within_step : (b any : Bool) (m n : ℕ) → (any ≡ true → nat_lt m n ≡ true) → (b || any) ≡ true → nat_lt (cond b zero (suc m)) (suc n) ≡ true
within_step true any m n h e = grind arith
within_step false any m n h e = let below = h e in grind arith

number_within : (is : List InterfaceData) (name : List ℕ) → list_any (has_name name) is ≡ true → nat_lt (number_of is name) (length is) ≡ true
number_within [] name e = absurd cc
number_within (i ∷ is) name e = within_step (has_name name i) (list_any (has_name name) is) (number_of is name) (length is) (number_within is name) e

route_placed : (is : List InterfaceData) (rs : List RouterData) (own name : List ℕ) (ns : List ℕ) → IsNewRouter is rs own ns → list_any (has_name name) is ≡ true → IsNewRouter is rs own (ns ++ number_of is name ∷ [])
route_placed is rs own name ns new known = record {
  few = new.few;
  name = new.name;
  routes = all_joined (λ n. nat_lt n (length is)) ns (number_of is name ∷ []) new.routes (and_true (nat_lt (number_of is name) (length is)) true (number_within is name known) refl);
}

changed : (s : SiteData) (c : Current) (d : Detail) → IsNew s.definitions s.interfaces s.routers c → FitsCurrent s d c → IsNew s.definitions s.interfaces s.routers (change s.interfaces d c)
changed s current.Nothing d new can = tt
changed s (current.Interface i) (detail.Target name) new can = target_placed s.definitions s.interfaces i.name name i.targets new can.0 can.1 can.2
changed s (current.Interface i) (detail.Step step) new can = new
changed s (current.Interface i) (detail.Route name) new can = new
changed s (current.Interface i) (detail.Delay delay) new can = new
changed s (current.Interface i) detail.DontReconnect new can = new
changed s (current.Interface i) (detail.Logged logged) new can = new
changed s (current.Router r) (detail.Target name) new can = new
changed s (current.Router r) (detail.Step step) new can = new
changed s (current.Router r) (detail.Route None) new can = new
changed s (current.Router r) (detail.Route (Some name)) new can = route_placed s.interfaces s.routers r.name name r.routes new can.0
changed s (current.Router r) (detail.Delay delay) new can = new
changed s (current.Router r) detail.DontReconnect new can = new
changed s (current.Router r) (detail.Logged logged) new can = new

-- the site with another port, another number of desks, or another layout or cycle of logs
pub site_with_port : (s : SiteData) (port : ℕ) → IsSoundSite s → 1 ≤ port → IsSoundSite (record s { api_port = port })
site_with_port s port sound some = record {
  few_interfaces = sound.few_interfaces;
  few_routers = sound.few_routers;
  interface_names = sound.interface_names;
  router_names = sound.router_names;
  targets = sound.targets;
  known_targets = sound.known_targets;
  routes = sound.routes;
  interface_packets = sound.interface_packets;
  router_packets = sound.router_packets;
  api_port = some;
  some_desks = sound.some_desks;
  few_desks = sound.few_desks;
  log_layout = sound.log_layout;
  log_cycle = sound.log_cycle;
}

pub site_with_desks : (s : SiteData) (desks : ℕ) → IsSoundSite s → 1 ≤ desks → desks ≤ most_desks → IsSoundSite (record s { desks = desks })
site_with_desks s desks sound some few = record {
  few_interfaces = sound.few_interfaces;
  few_routers = sound.few_routers;
  interface_names = sound.interface_names;
  router_names = sound.router_names;
  targets = sound.targets;
  known_targets = sound.known_targets;
  routes = sound.routes;
  interface_packets = sound.interface_packets;
  router_packets = sound.router_packets;
  api_port = sound.api_port;
  some_desks = some;
  few_desks = few;
  log_layout = sound.log_layout;
  log_cycle = sound.log_cycle;
}

pub site_with_layout : (s : SiteData) (layout : ℕ) → IsSoundSite s → IsTrue (is_layout layout) → IsSoundSite (record s { log_layout = layout })
site_with_layout s layout sound is = record {
  few_interfaces = sound.few_interfaces;
  few_routers = sound.few_routers;
  interface_names = sound.interface_names;
  router_names = sound.router_names;
  targets = sound.targets;
  known_targets = sound.known_targets;
  routes = sound.routes;
  interface_packets = sound.interface_packets;
  router_packets = sound.router_packets;
  api_port = sound.api_port;
  some_desks = sound.some_desks;
  few_desks = sound.few_desks;
  log_layout = is;
  log_cycle = sound.log_cycle;
}

pub site_with_cycle : (s : SiteData) (bytes : ℕ) → IsSoundSite s → IsTrue (is_cycle (Some bytes)) → IsSoundSite (record s { log_cycle = Some bytes })
site_with_cycle s bytes sound is = record {
  few_interfaces = sound.few_interfaces;
  few_routers = sound.few_routers;
  interface_names = sound.interface_names;
  router_names = sound.router_names;
  targets = sound.targets;
  known_targets = sound.known_targets;
  routes = sound.routes;
  interface_packets = sound.interface_packets;
  router_packets = sound.router_packets;
  api_port = sound.api_port;
  some_desks = sound.some_desks;
  few_desks = sound.few_desks;
  log_layout = sound.log_layout;
  log_cycle = is;
}

placed : (s : Draft) (l : Line) → KeepsRules s → Fits l s → KeepsRules (place l s)
placed s line.Nothing so_far can = so_far
placed s (line.ApiPort port) so_far can = record { site = site_with_port s.site port so_far.site can; current = so_far.current }
placed s (line.Desks desks) so_far can = record { site = site_with_desks s.site desks so_far.site can.0 can.1; current = so_far.current }
placed s (line.LogLayout layout) so_far can = record { site = site_with_layout s.site layout so_far.site can; current = so_far.current }
placed s (line.LogCycle bytes) so_far can = record { site = site_with_cycle s.site bytes so_far.site can; current = so_far.current }
placed s (line.Interface i) so_far can = record { site = so_far.site; current = can }
placed s (line.Router r) so_far can = record { site = so_far.site; current = can }
placed s (line.Detail d) so_far can = record { site = so_far.site; current = changed s.site s.current d so_far.current can }

-- ---- a statement

pub ready_kept : (b : Bool) (s : Draft) → KeepsRules s → cond b (due s) None ≡ None → KeepsRules (cond b (closed s) s)
ready_kept true s so_far right = record { site = sound_completed s.site s.current so_far.site so_far.current right; current = tt }
ready_kept false s so_far right = so_far

kept_at : (s : Draft) (n : ℕ) (p : Option (Keyword × List (List ℕ))) → or_else (cond (opens p) (due s) None) (at_line n (cause_in (ready p s) n p)) ≡ None → KeepsRules s → KeepsRules (with_line n p s)
kept_at s n None e so_far = absurd cc
kept_at s n (Some p) e so_far =
    let stands = ready (Some p) s in
    let parts = none_left (cond (opening p.0) (due s) None) (at_line n (cause_in stands n (Some p))) e in
    let kept = ready_kept (opening p.0) s so_far parts.0 in
    placed stands (line_of n p.0 p.1) kept (line_fits stands n p.0 p.1 kept (no_cause n (cause_in stands n (Some p)) parts.1))

pub keeps_rules : (s : Draft) (statement : Statement) → KeepsRules s → refusal_in s statement ≡ None → KeepsRules (step s statement)
keeps_rules s statement so_far e = kept_at s statement.line (parts statement.words) e so_far

pub no_two : {X : Type 0} (e : X → X → Bool) → IsDistinct e []
unfolding IsDistinct
no_two e = tt

-- a site without interfaces and routers
pub empty_site : (d : DefinitionsData) (is : List InterfaceData) (rs : List RouterData) → is ≡ [] → rs ≡ [] → IsSoundSite (record (first_site d) { interfaces = is; routers = rs })
empty_site d is rs none others =
    subst (λ (js : List InterfaceData). IsSoundSite (record (first_site d) { interfaces = js; routers = rs })) (sym none)
    (subst (λ (qs : List RouterData). IsSoundSite (record (first_site d) { interfaces = []; routers = qs })) (sym others) (record {
      few_interfaces = omega arith;
      few_routers = omega arith;
      interface_names = no_two is_same;
      router_names = no_two is_same;
      targets = no_two is_same;
      known_targets = refl;
      routes = refl;
      interface_packets = tt;
      router_packets = tt;
      api_port = omega arith;
      some_desks = omega arith;
      few_desks = omega arith;
      log_layout = refl;
      log_cycle = refl;
    }))

pub at_start : (d : DefinitionsData) → KeepsRules (start d)
at_start d = record { site = empty_site d [] [] refl refl; current = tt }
