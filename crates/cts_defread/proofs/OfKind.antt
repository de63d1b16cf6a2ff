-- Each line keeps what packets and commands are by their kind.
use Rattle.std.proofs.Common.{◌≡◌, ℕ, ℤ, Bool, true, false, not, ◌||◌, ◌&&◌, cond, map, List, [], ◌∷◌, ◌++◌, Option, Some, None, refl, ap, ◌∙◌, subst}
use Rattle.std.specs.Prelude.{is_none, is_some, if◌then◌else◌}
use Rattle.std.specs.List.{list_any, list_all, filter}
use Rattle.std.proofs.lemmas.Bool.{and_parts, and_from, or_parts, or_from, or_left, not_from_false, not-true}
use Rattle.std.proofs.lemmas.Cmp.{nat_list_eq_equiv}
use Rattle.cts_def.specs.declared.item_kind.ItemKind.{ItemKind}
use Rattle.cts_def.specs.declared.item_kind.Preset.{Preset}
use Rattle.cts_def.specs.declared.limits.Limits.{Limits}
use Rattle.cts_def.specs.declared.limits_setup.LimitsSetup.{LimitsSetup}
use Rattle.cts_def.specs.declared.state_def.StateDef.{StateDef}
use Rattle.cts_def.specs.Items.{ItemData, is_same, has_color, has_default_of, has_range_of_its_kind, has_sets_among, is_from_start, is_parameter, is_plain, is_telemetry_item, is_to_the_end, sets_in}
use Rattle.cts_def.specs.Packets.{PacketData, are_before_the_end, is_command, is_telemetry}
use Rattle.cts_def.specs.Spans.{is_number}
use Rattle.cts_defstatement.specs.declared.details.Detail.{Detail}
use Rattle.cts_defstatement.specs.declared.details.Detail.TheVariants as detail
use Rattle.cts_defstatement.specs.declared.details.LimitsLine.{LimitsLine}
use Rattle.cts_defstatement.specs.declared.line.ItemLine.{ItemLine}
use Rattle.cts_defstatement.specs.declared.line.Line.{Line}
use Rattle.cts_defstatement.specs.declared.line.Line.TheVariants as line
use Rattle.cts_defstatement.specs.declared.line.PacketLine.{PacketLine}
use Rattle.cts_defstatement.specs.declared.open.PacketKind.{PacketKind}
use Rattle.cts_defstatement.specs.declared.open.PacketKind.TheVariants.{Telemetry, Command}
use Rattle.cts_defstatement.specs.Refusals.{open_kind}
use Rattle.cts_defstatement.specs.Rules.{has_wanted_default, has_wanted_range, is_of_kind, suits}
use Rattle.cts_defread.specs.declared.drafted.Drafted.{Drafted}
use Rattle.cts_defread.specs.Causes.{is_text_id, opened_in, opened_with}
use Rattle.cts_defread.specs.Sound.{keeps_kind, keeps_its_kind}
use Rattle.cts_defread.specs.Standing.{are_same_kind, packets_of, preset_or, set_limits}
use Rattle.cts_defread.specs.Steps.{add_detail, add_item, add_limits, change_item, make_hazardous, new_item, new_packet, place_set}
use Rattle.cts_defread.proofs.Lists.{all_more, all_on_last, any_more}
use Rattle.cts_defread.proofs.Rules.{or_right}
use Rattle.cts_words.specs.Blocks.{last_of, on_last}

-- ---- what suits the open definition suits its kind

suits_items : (kind : PacketKind) (items : List ItemData) (l : Line) → suits (open_kind (opened_with kind items)) l ≡ true → is_of_kind kind l ≡ true
suits_items kind [] l h = h
suits_items kind (i ∷ items) l h = h

pub suits_last : (o : Option Drafted) (d : Drafted) (l : Line) → o ≡ Some d → suits (open_kind (opened_in o)) l ≡ true → is_of_kind d.kind l ≡ true
suits_last o d l e h = suits_items d.kind d.packet.items l (subst (λ (p : Option Drafted). suits (open_kind (opened_in p)) l ≡ true) e h)

-- ---- more limits sets

-- each of these names is among the others
abbrev AreAmong : List (List ℕ) → List (List ℕ) → Type 0
AreAmong names others = (name : List ℕ) → list_any (is_same name) names ≡ true → list_any (is_same name) others ≡ true

all_weaker : {X : Type 0} (p q : X → Bool) (xs : List X) → ((x : X) → p x ≡ true → q x ≡ true) → list_all p xs ≡ true → list_all q xs ≡ true
all_weaker p q [] h all = refl
all_weaker p q (x ∷ xs) h all =
    let parts = and_parts (p x) (list_all p xs) all in
    and_from (q x) (list_all q xs) (h x parts.0) (all_weaker p q xs h parts.1)

-- what a telemetry item is but for its limits sets
abbrev is_given : ItemData → Bool
is_given i = is_none i.range && not i.required && not (list_any (λ (s : StateDef). s.hazardous) i.states)

item_among : (names others : List (List ℕ)) → AreAmong names others → (i : ItemData) → is_telemetry_item names i ≡ true → is_telemetry_item others i ≡ true
item_among names others among i e =
    let parts = and_parts (is_given i) (has_sets_among names i) e in
    and_from (is_given i) (has_sets_among others i) parts.0
    (all_weaker (λ (s : List ℕ × Limits). list_any (is_same s.0) names) (λ (s : List ℕ × Limits). list_any (is_same s.0) others) (sets_in i.limits) (λ s. among s.0) parts.1)

kind_among : (names others : List (List ℕ)) → AreAmong names others → (kind : PacketKind) (p : PacketData) → keeps_kind names kind p ≡ true → keeps_kind others kind p ≡ true
kind_among names others among Telemetry p e =
    let parts = and_parts (not p.hazardous) (list_all (is_telemetry_item names) p.items) e in
    and_from (not p.hazardous) (list_all (is_telemetry_item others) p.items) parts.0
    (all_weaker (is_telemetry_item names) (is_telemetry_item others) p.items (item_among names others among) parts.1)
kind_among names others among Command p e = e

all_among : (names others : List (List ℕ)) → AreAmong names others → (ps : List Drafted) → list_all (keeps_its_kind names) ps ≡ true → list_all (keeps_its_kind others) ps ≡ true
all_among names others among ps = all_weaker (keeps_its_kind names) (keeps_its_kind others) ps (λ d. kind_among names others among d.kind d.packet)

among_more : (sets : List (List ℕ)) (set : List ℕ) (b : Bool) → AreAmong sets (if b then sets else sets ++ set ∷ [])
among_more sets set true name e = e
among_more sets set false name e = any_more (is_same name) sets set ∙ or_left (list_any (is_same name) sets) (is_same name set) e

among_placed : (d : Detail) (sets : List (List ℕ)) → AreAmong sets (place_set (line.Detail d) sets)
among_placed (detail.State s) sets name e = e
among_placed (detail.Limits l) sets name e = among_more sets l.set (list_any (is_same l.set) sets) name e
among_placed (detail.Poly coefficients) sets name e = e
among_placed (detail.Segment s) sets name e = e
among_placed (detail.Units full short) sets name e = e
among_placed (detail.Format text) sets name e = e
among_placed (detail.Overflow o) sets name e = e
among_placed detail.Required sets name e = e

-- the set that a detail names is among these
abbrev NamesOne : Detail → List (List ℕ) → Type 0
NamesOne (detail.Limits l) sets = list_any (is_same l.set) sets ≡ true
NamesOne _ sets = Unit {0}

set_added : (sets : List (List ℕ)) (set : List ℕ) (b : Bool) → list_any (is_same set) sets ≡ b → list_any (is_same set) (if b then sets else sets ++ set ∷ []) ≡ true
set_added sets set true e = e
set_added sets set false e = any_more (is_same set) sets set ∙ or_right (list_any (is_same set) sets) (is_same set set) (nat_list_eq_equiv.refl set)

names_placed : (d : Detail) (sets : List (List ℕ)) → NamesOne d (place_set (line.Detail d) sets)
names_placed (detail.State s) sets = tt
names_placed (detail.Limits l) sets = set_added sets l.set (list_any (is_same l.set) sets) refl
names_placed (detail.Poly coefficients) sets = tt
names_placed (detail.Segment s) sets = tt
names_placed (detail.Units full short) sets = tt
names_placed (detail.Format text) sets = tt
names_placed (detail.Overflow o) sets = tt
names_placed detail.Required sets = tt

-- ---- one more definition

new_keeps : (sets : List (List ℕ)) (kind : PacketKind) (head : PacketLine) → keeps_kind sets kind (new_packet head).packet ≡ true
new_keeps sets Telemetry head = refl
new_keeps sets Command head = refl

pub kinds_packet : (sets : List (List ℕ)) (ps : List Drafted) (head : PacketLine) → list_all (keeps_its_kind sets) ps ≡ true → list_all (keeps_its_kind sets) (ps ++ new_packet head ∷ []) ≡ true
kinds_packet sets ps head all =
    all_more (keeps_its_kind sets) ps (new_packet head)
    ∙ and_from (list_all (keeps_its_kind sets) ps) (keeps_its_kind sets (new_packet head)) all (new_keeps sets head.kind head)

-- ---- one more item

before_more : (items : List ItemData) (i : ItemData) → list_any is_to_the_end items ≡ false → are_before_the_end (items ++ i ∷ []) ≡ true
before_more [] i e = refl
before_more (j ∷ []) i e = and_from (not (is_to_the_end j)) true (not_from_false (is_to_the_end j) (or_parts (is_to_the_end j) false e).0) refl
before_more (j ∷ k ∷ items) i e =
    let parts = or_parts (is_to_the_end j) (list_any is_to_the_end (k ∷ items)) e in
    and_from (not (is_to_the_end j)) (are_before_the_end (k ∷ (items ++ i ∷ []))) (not_from_false (is_to_the_end j) parts.0) (before_more (k ∷ items) i parts.1)

wanted_range : (number id : Bool) (some none : Bool) → id && not number ≡ false → (if number || id then some else none) ≡ true → (if number then some else none) ≡ true
wanted_range true id some none whole e = e
wanted_range false true some none whole e = absurd cc
wanted_range false false some none whole e = e

own_default : (kind : ItemKind) (id : Option ℤ) (preset : Option Preset) → has_wanted_default id preset ≡ true → has_default_of id (preset_or kind preset) ≡ true
own_default kind None None e = refl
own_default kind (Some z) None e = absurd cc
own_default kind id (Some preset) e = e

-- what a command asks of a further item
pub record IsFurther (d : Drafted) (head : ItemLine) : Type 0 where
  pub from_start : is_from_start (new_item head d) ≡ true
  pub later : list_any is_to_the_end d.packet.items ≡ false

item_keeps : (sets : List (List ℕ)) (kind : PacketKind) (d : Drafted) (head : ItemLine) → is_of_kind kind (line.Item head) ≡ true → is_text_id (line.Item head) ≡ false
    → (are_same_kind Command kind ≡ true → IsFurther d head) → keeps_kind sets kind d.packet ≡ true → keeps_kind sets kind (add_item head d).packet ≡ true
item_keeps sets Telemetry d head suited whole further e =
    let parts = and_parts (not d.packet.hazardous) (list_all (is_telemetry_item sets) d.packet.items) e in
    let one : is_telemetry_item sets (new_item head d) ≡ true = ap (λ (b : Bool). b && true && true && true) suited in
    and_from (not d.packet.hazardous) (list_all (is_telemetry_item sets) (d.packet.items ++ new_item head d ∷ [])) parts.0
    (all_more (is_telemetry_item sets) d.packet.items (new_item head d)
    ∙ and_from (list_all (is_telemetry_item sets) d.packet.items) (is_telemetry_item sets (new_item head d)) parts.1 one)
item_keeps sets Command d head suited whole further e =
    let parts = and_parts (list_all is_parameter d.packet.items) (are_before_the_end d.packet.items) e in
    let h : IsFurther d head = further refl in
    let asked = and_parts (has_wanted_range head) (has_wanted_default head.id head.preset) suited in
    let range : has_range_of_its_kind (new_item head d) ≡ true = wanted_range (is_number head.kind) (is_some head.id) (is_some head.range) (is_none head.range) whole asked.0 in
    let default : has_default_of head.id (preset_or head.kind head.preset) ≡ true = own_default head.kind head.id head.preset asked.1 in
    let one : is_parameter (new_item head d) ≡ true =
    and_from (is_from_start (new_item head d) && true && true && true && has_range_of_its_kind (new_item head d)) (has_default_of head.id (preset_or head.kind head.preset))
    (and_from (is_from_start (new_item head d) && true && true && true) (has_range_of_its_kind (new_item head d)) (ap (λ (b : Bool). b && true && true && true) h.from_start) range) default in
    and_from (list_all is_parameter (d.packet.items ++ new_item head d ∷ [])) (are_before_the_end (d.packet.items ++ new_item head d ∷ []))
    (all_more is_parameter d.packet.items (new_item head d) ∙ and_from (list_all is_parameter d.packet.items) (is_parameter (new_item head d)) parts.0 one)
    (before_more d.packet.items (new_item head d) h.later)

pub kinds_item : (sets : List (List ℕ)) (ps : List Drafted) (head : ItemLine) → suits (open_kind (opened_in (last_of ps))) (line.Item head) ≡ true → is_text_id (line.Item head) ≡ false
    → ((d : Drafted) → last_of ps ≡ Some d → are_same_kind Command d.kind ≡ true → IsFurther d head) → list_all (keeps_its_kind sets) ps ≡ true → list_all (keeps_its_kind sets) (on_last (add_item head) ps) ≡ true
kinds_item sets ps head suited whole further =
    all_on_last (keeps_its_kind sets) (add_item head) ps
    (λ d last e. item_keeps sets d.kind d head (suits_last (last_of ps) d (line.Item head) last suited) whole (further d last) e)

-- ---- details

state_given : (s : StateDef) (i : ItemData) → not s.hazardous ≡ true → is_given i ≡ true → is_given (change_item (detail.State s) i) ≡ true
state_given s i plain e =
    let hazards : Bool = list_any (λ (t : StateDef). t.hazardous) i.states in
    let parts = and_parts (is_none i.range && not i.required) (not hazards) e in
    and_from (is_none i.range && not i.required) (not (list_any (λ (t : StateDef). t.hazardous) (i.states ++ s ∷ []))) parts.0
    (not_from_false (list_any (λ (t : StateDef). t.hazardous) (i.states ++ s ∷ []))
    (any_more (λ (t : StateDef). t.hazardous) i.states s ∙ or_from hazards s.hazardous (not-true hazards parts.1) (not-true s.hazardous plain)))

limits_among : (sets : List (List ℕ)) (l : LimitsLine) (o : Option LimitsSetup) → list_any (is_same l.set) sets ≡ true
    → list_all (λ (s : List ℕ × Limits). list_any (is_same s.0) sets) (sets_in o) ≡ true
    → list_all (λ (s : List ℕ × Limits). list_any (is_same s.0) sets) (sets_in (add_limits l o)) ≡ true
limits_among sets l None known e = and_from (list_any (is_same l.set) sets) true known refl
limits_among sets l (Some setup) known e =
    all_more (λ (s : List ℕ × Limits). list_any (is_same s.0) sets) setup.sets (set_limits l)
    ∙ and_from (list_all (λ (s : List ℕ × Limits). list_any (is_same s.0) sets) setup.sets) (list_any (is_same l.set) sets) e known

telemetry_detail : (sets : List (List ℕ)) (d : Detail) (i : ItemData) → is_of_kind Telemetry (line.Detail d) ≡ true → NamesOne d sets → is_telemetry_item sets i ≡ true → is_telemetry_item sets (change_item d i) ≡ true
telemetry_detail sets (detail.State s) i suited known e =
    let parts = and_parts (is_given i) (has_sets_among sets i) e in
    and_from (is_given (change_item (detail.State s) i)) (has_sets_among sets i) (state_given s i suited parts.0) parts.1
telemetry_detail sets (detail.Limits l) i suited known e =
    let parts = and_parts (is_given i) (has_sets_among sets i) e in
    and_from (is_given i) (has_sets_among sets (change_item (detail.Limits l) i)) parts.0 (limits_among sets l i.limits known parts.1)
telemetry_detail sets (detail.Poly coefficients) i suited known e = e
telemetry_detail sets (detail.Segment s) i suited known e = e
telemetry_detail sets (detail.Units full short) i suited known e = e
telemetry_detail sets (detail.Format text) i suited known e = e
telemetry_detail sets (detail.Overflow o) i suited known e = e
telemetry_detail sets detail.Required i suited known e = absurd cc

-- what a parameter is but for its colours and its range
abbrev is_unconverted : ItemData → Bool
is_unconverted i = is_from_start i && is_none i.limits && is_plain i.conversion

command_detail : (d : Detail) (i : ItemData) → is_of_kind Command (line.Detail d) ≡ true → is_parameter i ≡ true → is_parameter (change_item d i) ≡ true
command_detail (detail.State s) i suited e =
    let colors : Bool = list_any has_color i.states in
    let all = and_parts (is_unconverted i && not colors && has_range_of_its_kind i) (has_default_of i.id i.preset) e in
    let parts = and_parts (is_unconverted i && not colors) (has_range_of_its_kind i) all.0 in
    let front = and_parts (is_unconverted i) (not colors) parts.0 in
    let colorless : not (list_any has_color (i.states ++ s ∷ [])) ≡ true =
    not_from_false (list_any has_color (i.states ++ s ∷ [])) (any_more has_color i.states s ∙ or_from colors (has_color s) (not-true colors front.1) (not-true (has_color s) suited)) in
    and_from (is_unconverted i && not (list_any has_color (i.states ++ s ∷ [])) && has_range_of_its_kind i) (has_default_of i.id i.preset)
    (and_from (is_unconverted i && not (list_any has_color (i.states ++ s ∷ []))) (has_range_of_its_kind i)
    (and_from (is_unconverted i) (not (list_any has_color (i.states ++ s ∷ []))) front.0 colorless) parts.1) all.1
command_detail (detail.Limits l) i suited e = absurd cc
command_detail (detail.Poly coefficients) i suited e = absurd cc
command_detail (detail.Segment s) i suited e = absurd cc
command_detail (detail.Units full short) i suited e = e
command_detail (detail.Format text) i suited e = e
command_detail (detail.Overflow o) i suited e = e
command_detail detail.Required i suited e = e

before_on_last : (f : ItemData → ItemData) (items : List ItemData) → are_before_the_end (on_last f items) ≡ are_before_the_end items
before_on_last f [] = refl
before_on_last f (i ∷ []) = refl
before_on_last f (i ∷ j ∷ []) = refl
before_on_last f (i ∷ j ∷ k ∷ items) = ap (λ (b : Bool). not (is_to_the_end i) && b) (before_on_last f (j ∷ k ∷ items))

detail_keeps : (sets : List (List ℕ)) (kind : PacketKind) (d : Detail) (p : Drafted) → is_of_kind kind (line.Detail d) ≡ true → NamesOne d sets → keeps_kind sets kind p.packet ≡ true
    → keeps_kind sets kind (add_detail d p).packet ≡ true
detail_keeps sets Telemetry d p suited known e =
    let parts = and_parts (not p.packet.hazardous) (list_all (is_telemetry_item sets) p.packet.items) e in
    and_from (not p.packet.hazardous) (list_all (is_telemetry_item sets) (on_last (change_item d) p.packet.items)) parts.0
    (all_on_last (is_telemetry_item sets) (change_item d) p.packet.items (λ i last. telemetry_detail sets d i suited known) parts.1)
detail_keeps sets Command d p suited known e =
    let parts = and_parts (list_all is_parameter p.packet.items) (are_before_the_end p.packet.items) e in
    and_from (list_all is_parameter (on_last (change_item d) p.packet.items)) (are_before_the_end (on_last (change_item d) p.packet.items))
    (all_on_last is_parameter (change_item d) p.packet.items (λ i last. command_detail d i suited) parts.0)
    (before_on_last (change_item d) p.packet.items ∙ parts.1)

pub kinds_detail : (sets : List (List ℕ)) (ps : List Drafted) (d : Detail) → suits (open_kind (opened_in (last_of ps))) (line.Detail d) ≡ true → list_all (keeps_its_kind sets) ps ≡ true
    → list_all (keeps_its_kind (place_set (line.Detail d) sets)) (on_last (add_detail d) ps) ≡ true
kinds_detail sets ps d suited all =
    let after : List (List ℕ) = place_set (line.Detail d) sets in
    all_on_last (keeps_its_kind after) (add_detail d) ps
    (λ p last. detail_keeps after p.kind d p (suits_last (last_of ps) p (line.Detail d) last suited) (names_placed d sets))
    (all_among sets after (among_placed d sets) ps all)

-- ---- a hazardous command

hazardous_keeps : (sets : List (List ℕ)) (kind : PacketKind) (d : Drafted) → is_of_kind kind line.Hazardous ≡ true → keeps_kind sets kind d.packet ≡ true → keeps_kind sets kind (make_hazardous d).packet ≡ true
hazardous_keeps sets Telemetry d suited e = absurd cc
hazardous_keeps sets Command d suited e = e

pub kinds_hazardous : (sets : List (List ℕ)) (ps : List Drafted) → suits (open_kind (opened_in (last_of ps))) line.Hazardous ≡ true → list_all (keeps_its_kind sets) ps ≡ true
    → list_all (keeps_its_kind sets) (on_last make_hazardous ps) ≡ true
kinds_hazardous sets ps suited =
    all_on_last (keeps_its_kind sets) make_hazardous ps (λ d last. hazardous_keeps sets d.kind d (suits_last (last_of ps) d line.Hazardous last suited))

-- ---- all packets, and all commands

kept_cond : (test : PacketData → Bool) (b : Bool) (d : Drafted) (ps : List Drafted) → (b ≡ true → test d.packet ≡ true) → list_all test (map (λ (e : Drafted). e.packet) ps) ≡ true
    → list_all test (map (λ (e : Drafted). e.packet) (cond b (d ∷ ps) ps)) ≡ true
kept_cond test true d ps h all = and_from (test d.packet) (list_all test (map (λ (e : Drafted). e.packet) ps)) (h refl) all
kept_cond test false d ps h all = all

kept_by : (sets : List (List ℕ)) (kind : PacketKind) (test : PacketData → Bool) → ((d : Drafted) → are_same_kind kind d.kind ≡ true → keeps_its_kind sets d ≡ true → test d.packet ≡ true)
    → (ps : List Drafted) → list_all (keeps_its_kind sets) ps ≡ true → list_all test (packets_of kind ps) ≡ true
kept_by sets kind test h [] all = refl
kept_by sets kind test h (d ∷ ps) all =
    let parts = and_parts (keeps_its_kind sets d) (list_all (keeps_its_kind sets) ps) all in
    kept_cond test (are_same_kind kind d.kind) d (filter (λ (e : Drafted). are_same_kind kind e.kind) ps) (λ own. h d own parts.0) (kept_by sets kind test h ps parts.1)

own_telemetry : (sets : List (List ℕ)) (kind : PacketKind) (p : PacketData) → are_same_kind Telemetry kind ≡ true → keeps_kind sets kind p ≡ true → is_telemetry sets p ≡ true
own_telemetry sets Telemetry p own e = e
own_telemetry sets Command p own e = absurd cc

pub all_telemetry : (sets : List (List ℕ)) (ps : List Drafted) → list_all (keeps_its_kind sets) ps ≡ true → list_all (is_telemetry sets) (packets_of Telemetry ps) ≡ true
all_telemetry sets = kept_by sets Telemetry (is_telemetry sets) (λ d. own_telemetry sets d.kind d.packet)

own_command : (sets : List (List ℕ)) (kind : PacketKind) (p : PacketData) → are_same_kind Command kind ≡ true → keeps_kind sets kind p ≡ true → is_command p ≡ true
own_command sets Telemetry p own e = absurd cc
own_command sets Command p own e = e

pub all_commands : (sets : List (List ℕ)) (ps : List Drafted) → list_all (keeps_its_kind sets) ps ≡ true → list_all is_command (packets_of Command ps) ≡ true
all_commands sets = kept_by sets Command is_command (λ d. own_command sets d.kind d.packet)
