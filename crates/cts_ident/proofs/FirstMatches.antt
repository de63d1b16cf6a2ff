-- The first that fits is the one that no earlier one forestalls.
use Rattle.std.proofs.Common.{◌≡◌, ◌↔◌, ℕ, ◌<◌, ◌≤◌, Bool, true, false, ◌&&◌, List, [], ◌∷◌, Option, Some, None, cond, length, get_or, refl, sym, ap, ◌∙◌, arith, nat_lt}
use Rattle.std.proofs.lemmas.Bool.{false≢true}
use Rattle.std.proofs.lemmas.Bool.Decides.{nat_tests}
use Rattle.std.proofs.lemmas.Cmp.{nat_list_eq_equiv}
use Rattle.std.proofs.lemmas.Map.Keys.{apart_from_distinct}
use Rattle.std.proofs.lemmas.Option.{get_or_from_slice_get, slice_get-get_or, slice_get_within}
use Rattle.std.proofs.lemmas.List.Quantifiers.{position-Some}
use Rattle.std.proofs.lemmas.List.Sums.{fails_before_first, position_or_len_is}
use Rattle.std.specs.List.{IsDistinct, position, position_or_len}
use Rattle.cts_base.specs.Names.{in_upper_case, spells}
use Rattle.cts_def.specs.Items.{is_same}
use Rattle.cts_def.specs.Packets.{DefinitionsData, PacketData, have_same_names, is_of, is_named}
use Rattle.cts_def.specs.Sites.{SiteData, targets_at}
use Rattle.cts_def.specs.declared.ident.Ident.{Ident}
use Rattle.cts_def.specs.declared.ident.Ident.TheVariants.{Known, Unknown}
use Rattle.cts_def.specs.Makers.{first_slot, router_of}
use Rattle.cts_ident.specs.Identification.{IsFirstMatch, IsMatch, first_of, router_targets, worker_packets, worker_targets}
use Rattle.cts_ident.specs.Matches.{at_place}
use Rattle.cts_ident.proofs.Firsts.{first_is_place, passes}

both : (a b : Bool) → (a && b) ≡ true → (a ≡ true) × (b ≡ true)
both true true h = (refl, refl)
both true false h = absurd (false≢true h)
both false b h = absurd (false≢true h)

match_at : (targets : List (List ℕ)) (packets : List PacketData) (test : PacketData → Bool) (n : ℕ) (d : PacketData)
    → n < length packets → passes targets test (get_or packets n d) ≡ true → IsMatch targets packets test n
match_at targets packets test n d within h =
    let parts = both (is_of targets (get_or packets n d)) (test (get_or packets n d)) h in
    record { packet = get_or packets n d; at = slice_get-get_or packets n d within; target = parts.0; passes = parts.1 }

passes_there : (targets : List (List ℕ)) (packets : List PacketData) (test : PacketData → Bool) (n : ℕ) (d : PacketData)
    → IsMatch targets packets test n → passes targets test (get_or packets n d) ≡ true
passes_there targets packets test n d m =
    let e = get_or_from_slice_get packets n m.packet d m.at in
    rw (e, m.target, m.passes) refl

fails_there : (b : Bool) → (b ≡ true → ⊥) → b ≡ false
fails_there true h = absurd (h refl)
fails_there false h = refl

first_from_place : (targets : List (List ℕ)) (packets : List PacketData) (test : PacketData → Bool) (n : ℕ)
    → position (passes targets test) packets ≡ Some n → IsFirstMatch targets packets test n
first_from_place targets [] test n h = cc
first_from_place targets (p ∷ packets) test n h =
    let all = p ∷ packets in
    let is = position-Some (passes targets test) all n p h in
    record {
      match = match_at targets all test n p is.0 is.1;
      first = λ k before m. false≢true (sym (is.2 k before) ∙ passes_there targets all test k p m);
    }

place_from_first : (targets : List (List ℕ)) (packets : List PacketData) (test : PacketData → Bool) (n : ℕ)
    → IsFirstMatch targets packets test n → position (passes targets test) packets ≡ Some n
place_from_first targets packets test n f =
    let d = f.match.packet in
    let within = slice_get_within packets n d f.match.at in
    let earlier : (k : ℕ) → k < n → passes targets test (get_or packets k d) ≡ false =
    λ k before. fails_there _ (λ h. f.first k before (match_at targets packets test k d (omega arith) h))
    in
    let is = position_or_len_is (passes targets test) packets n d (omega arith) earlier (λ _. passes_there targets packets test n d f.match) in
    let least : nat_lt n (length packets) ≡ true = grind (arith, nat_tests) in
    rw (is, least) refl

by_test : (b : Bool) (place len : ℕ) → cond b (Some place) None ≡ None → nat_lt place len ≡ b → len ≤ place
by_test true place len h t = cc
by_test false place len h t = grind (arith, nat_tests)

past_all : (place len : ℕ) → cond (nat_lt place len) (Some place) None ≡ None → len ≤ place
past_all place len h = by_test (nat_lt place len) place len h refl

none_from_place : (targets : List (List ℕ)) (packets : List PacketData) (test : PacketData → Bool)
    → position (passes targets test) packets ≡ None → (n : ℕ) → IsMatch targets packets test n → ⊥
none_from_place targets packets test h n m =
    let d = m.packet in
    let within = slice_get_within packets n d m.at in
    let past : length packets ≤ position_or_len (passes targets test) packets = past_all _ _ h in
    false≢true (sym (fails_before_first (passes targets test) packets n d (omega arith)) ∙ passes_there targets packets test n d m)

known : (o : Option ℕ) (n : ℕ) → at_place o ≡ Known n → o ≡ Some n
known None n h = cc
known (Some k) n h = cc

unknown : (o : Option ℕ) → at_place o ≡ Unknown → o ≡ None
unknown None h = refl
unknown (Some k) h = cc

pub known_is_first : (targets : List (List ℕ)) (packets : List PacketData) (test : PacketData → Bool) (n : ℕ)
    → (first_of targets packets test ≡ Known n) ↔ IsFirstMatch targets packets test n
known_is_first targets packets test n =
    let e = first_is_place targets packets test in
    (λ h. first_from_place targets packets test n (known _ n (sym e ∙ h)), λ f. e ∙ ap at_place (place_from_first targets packets test n f))

none_or : (targets : List (List ℕ)) (packets : List PacketData) (test : PacketData → Bool) → ((n : ℕ) → IsMatch targets packets test n → ⊥)
    → (o : Option ℕ) → position (passes targets test) packets ≡ o → o ≡ None
none_or targets packets test none None h = refl
none_or targets packets test none (Some n) h = absurd (none n (first_from_place targets packets test n h).match)

pub unknown_is_none : (targets : List (List ℕ)) (packets : List PacketData) (test : PacketData → Bool)
    → (first_of targets packets test ≡ Unknown) ↔ ((n : ℕ) → IsMatch targets packets test n → ⊥)
unknown_is_none targets packets test =
    let e = first_is_place targets packets test in
    (λ h. none_from_place targets packets test (unknown _ (sym e ∙ h)), λ none. e ∙ ap at_place (none_or targets packets test none _ refl))

pub known_of : (targets : List (List ℕ)) (packets : List PacketData) (test : PacketData → Bool) (n : ℕ) (i : Ident) → i ≡ first_of targets packets test
    → (i ≡ Known n) ↔ IsFirstMatch targets packets test n
known_of targets packets test n i e = let both = known_is_first targets packets test n in (λ h. both.0 (sym e ∙ h), λ f. e ∙ both.1 f)

pub unknown_of : (targets : List (List ℕ)) (packets : List PacketData) (test : PacketData → Bool) (i : Ident) → i ≡ first_of targets packets test
    → (i ≡ Unknown) ↔ ((n : ℕ) → IsMatch targets packets test n → ⊥)
unknown_of targets packets test i e = let both = unknown_is_none targets packets test in (λ h. both.0 (sym e ∙ h), λ none. e ∙ both.1 none)

-- ---- names

-- two names that one text spells are the same
same_spelled : (text a b : List ℕ) → spells text a ≡ true → spells text b ≡ true → is_same a b ≡ true
same_spelled text a b h k =
    let t = in_upper_case text in
    nat_list_eq_equiv.congr a t b (nat_list_eq_equiv.symm a t ∙ h) ∙ k

names_of_both : (target name : List ℕ) (p q : PacketData) → is_named target name p ≡ true → is_named target name q ≡ true → have_same_names p q ≡ true
names_of_both target name p q h k =
    let of_p = both (spells target p.target) (spells name p.name) h in
    let of_q = both (spells target q.target) (spells name q.name) k in
    rw (same_spelled target p.target q.target of_p.0 of_q.0, same_spelled name p.name q.name of_p.1 of_q.1) refl

first_if_named : (targets : List (List ℕ)) (packets : List PacketData) (target name : List ℕ) (n : ℕ) → IsDistinct have_same_names packets
    → IsMatch targets packets (is_named target name) n → IsFirstMatch targets packets (is_named target name) n
first_if_named targets packets target name n distinct m =
    record {
      match = m;
      first = λ k before j.
          let apart = apart_from_distinct have_same_names packets k n m.packet distinct before (slice_get_within packets n m.packet m.at) in
          let p = get_or_from_slice_get packets k j.packet m.packet j.at in
          let q = get_or_from_slice_get packets n m.packet m.packet m.at in
          false≢true (sym (rw (p, q) at apart) ∙ names_of_both target name j.packet m.packet j.passes m.passes);
    }

pub named_of : (targets : List (List ℕ)) (packets : List PacketData) (target name : List ℕ) (n : ℕ) (i : Ident) → IsDistinct have_same_names packets
    → i ≡ first_of targets packets (is_named target name) → (i ≡ Known n) ↔ IsMatch targets packets (is_named target name) n
named_of targets packets target name n i distinct e =
    let both = known_of targets packets (is_named target name) n i e in
    (λ h. (both.0 h).match, λ m. both.1 (first_if_named targets packets target name n distinct m))

-- ---- workers

pub interface_targets : (s : SiteData) (worker : ℕ) → worker < first_slot → worker_targets s worker ≡ targets_at s.interfaces worker
interface_targets s worker h = let t : nat_lt worker first_slot ≡ true = grind (arith, nat_tests) in rw t refl

pub interface_packets : (d : DefinitionsData) (worker : ℕ) → worker < first_slot → worker_packets d worker ≡ d.telemetry
interface_packets d worker h = let t : nat_lt worker first_slot ≡ true = grind (arith, nat_tests) in rw t refl

pub slot_targets : (s : SiteData) (worker : ℕ) → first_slot ≤ worker → worker_targets s worker ≡ router_targets s (router_of worker)
slot_targets s worker h = let t : nat_lt worker first_slot ≡ false = grind (arith, nat_tests) in rw t refl

pub slot_packets : (d : DefinitionsData) (worker : ℕ) → first_slot ≤ worker → worker_packets d worker ≡ d.commands
slot_packets d worker h = let t : nat_lt worker first_slot ≡ false = grind (arith, nat_tests) in rw t refl

pub named_known : (ts targets : List (List ℕ)) (ps packets : List PacketData) (target name : List ℕ) (n : ℕ) (i : Ident) → targets ≡ ts → packets ≡ ps
    → IsDistinct have_same_names ps → i ≡ first_of ts ps (is_named target name) → (i ≡ Known n) ↔ IsMatch targets packets (is_named target name) n
named_known ts targets ps packets target name n i e f distinct is = rw (e, f) (named_of ts ps target name n i distinct is)

pub named_unknown : (ts targets : List (List ℕ)) (ps packets : List PacketData) (target name : List ℕ) (i : Ident) → targets ≡ ts → packets ≡ ps
    → i ≡ first_of ts ps (is_named target name) → (i ≡ Unknown) ↔ ((n : ℕ) → IsMatch targets packets (is_named target name) n → ⊥)
named_unknown ts targets ps packets target name i e f is = rw (e, f) (unknown_of ts ps (is_named target name) i is)
