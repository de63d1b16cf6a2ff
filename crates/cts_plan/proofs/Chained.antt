-- The protocols of interfaces and routers that are without fault.
use Rattle.std.proofs.Common.{◌≡◌, ℕ, ◌≤◌, ◌+◌, Bool, true, false, not, cond, ◌&&◌, ◌||◌, List, [], ◌∷◌, ◌++◌, length, map, Option, Some, None, Result, Ok, Err, refl, sym, ap, subst, ◌∙◌, arith, nat_lt}
use Rattle.std.specs.Prelude.{IsTrue, IfOk, nat_le}
use Rattle.std.specs.List.{list_any}
use Rattle.std.proofs.lemmas.List.{length-map}
use Rattle.cts_def.specs.Most.{most_protocols}
use Rattle.cts_def.specs.Packets.{DefinitionsData}
use Rattle.cts_def.specs.Protocols.{SpecData, UseData, reads, reads_packets, is_packet_kind, is_chain}
use Rattle.cts_def.specs.Protocols as uses
use Rattle.cts_reader.specs.declared.fault.Fault.{Fault}
use Rattle.cts_reader.specs.Reading.{Settles}
use Rattle.cts_plan.specs.declared.fault.SiteCause.{SiteCause}
use Rattle.cts_plan.specs.declared.fault.SiteCause.TheVariants.{ChainTooLong}
use Rattle.cts_plan.specs.Steps.{StepData, step_reads, step_reads_packets, are_packets_last, added, whole_chain}
use Rattle.cts_plan.specs.Standing.{spec_with, use_of}
use Rattle.cts_plan.specs.Completing.{Refused, first_step_fault, fault_of}
use Rattle.cts_plan.proofs.Lists.{both, and_true, neither, any_snoc}

-- ---- none reads after one that reads packets

one_more : (p a r q : Bool) → not (p && a) ≡ true → (r && (p || q)) ≡ false → not (p && (a || r)) ≡ true
one_more false a r q last fits = refl
one_more true true r q last fits = absurd cc
one_more true false true q last fits = absurd cc
one_more true false false q last fits = refl

others_fit : (p r q : Bool) → (r && (p || q)) ≡ false → (r && q) ≡ false
others_fit p true true fits = absurd (fits_not p fits) where
  fits_not : (p : Bool) → (p || true) ≡ false → ⊥
  fits_not true e = cc
  fits_not false e = cc
others_fit p true false fits = refl
others_fit p false q fits = refl

pub packets_last_more : (ss : List StepData) (s : StepData) → IsTrue (are_packets_last ss) → (step_reads s && list_any step_reads_packets ss) ≡ false → IsTrue (are_packets_last (ss ++ s ∷ []))
packets_last_more [] s last fits = alone (step_reads_packets s) where
  alone : (b : Bool) → (not (b && false) && true) ≡ true
  alone true = refl
  alone false = refl
packets_last_more (t ∷ ss) s last fits =
    let parts = both (not (step_reads_packets t && list_any step_reads ss)) (are_packets_last ss) last in
    let first : not (step_reads_packets t && list_any step_reads (ss ++ s ∷ [])) ≡ true =
    ap (λ b. not (step_reads_packets t && b)) (any_snoc step_reads ss s)
    ∙ one_more (step_reads_packets t) (list_any step_reads ss) (step_reads s) (list_any step_reads_packets ss) parts.0 fits in
    and_true (not (step_reads_packets t && list_any step_reads (ss ++ s ∷ []))) (are_packets_last (ss ++ s ∷ []))
    first (packets_last_more ss s parts.1 (others_fit (step_reads_packets t) (step_reads s) (list_any step_reads_packets ss) fits))

-- ---- the whole chain

-- what reads packets reads
no_packets_at : (s : StepData) → step_reads s ≡ false → step_reads_packets s ≡ false
no_packets_at s e = ap (λ b. b && is_packet_kind s.used.spec) e

none_of : (a b : Bool) → a ≡ false → b ≡ false → (a || b) ≡ false
none_of true b e f = absurd cc
none_of false b e f = f

no_packets : (ss : List StepData) → list_any step_reads ss ≡ false → list_any step_reads_packets ss ≡ false
no_packets [] e = refl
no_packets (s ∷ ss) e =
    let parts = neither (step_reads s) (list_any step_reads ss) e in
    none_of (step_reads_packets s) (list_any step_reads_packets ss) (no_packets_at s parts.0) (no_packets ss parts.1)

or_true : (a : Bool) → (a || true) ≡ true
or_true true = refl
or_true false = refl

with_added_reads : (b : Bool) (ss : List StepData) → list_any step_reads ss ≡ b → list_any step_reads (cond b ss (ss ++ added ∷ [])) ≡ true
with_added_reads true ss e = e
with_added_reads false ss e = any_snoc step_reads ss added ∙ or_true (list_any step_reads ss)

with_added_last : (b : Bool) (ss : List StepData) → list_any step_reads ss ≡ b → IsTrue (are_packets_last ss) → IsTrue (are_packets_last (cond b ss (ss ++ added ∷ [])))
with_added_last true ss e last = last
with_added_last false ss e last = packets_last_more ss added last (no_packets ss e)

-- ---- as uses

same_kind : (d : DefinitionsData) (targets : List (List ℕ)) (s : SpecData) → is_packet_kind (spec_with d targets s) ≡ is_packet_kind s
same_kind d targets (uses.Burst b) = refl
same_kind d targets (uses.Fixed f) = refl
same_kind d targets (uses.Length l) = refl
same_kind d targets (uses.Terminated t) = refl
same_kind d targets (uses.Preidentified p) = refl

use_reads_packets : (d : DefinitionsData) (targets : List (List ℕ)) (s : StepData) → reads_packets (use_of d targets s) ≡ step_reads_packets s
use_reads_packets d targets s = ap (λ b. s.used.reads && b) (same_kind d targets s.used.spec)

any_use_reads : (d : DefinitionsData) (targets : List (List ℕ)) (ss : List StepData) → list_any reads (map (use_of d targets) ss) ≡ list_any step_reads ss
any_use_reads d targets [] = refl
any_use_reads d targets (s ∷ ss) = ap (λ b. step_reads s || b) (any_use_reads d targets ss)

uses_last : (d : DefinitionsData) (targets : List (List ℕ)) (ss : List StepData) → uses.are_packets_last (map (use_of d targets) ss) ≡ are_packets_last ss
uses_last d targets [] = refl
uses_last d targets (s ∷ ss) =
    ap (λ b. not (b && list_any reads (map (use_of d targets) ss)) && uses.are_packets_last (map (use_of d targets) ss)) (use_reads_packets d targets s)
    ∙ ap (λ b. not (step_reads_packets s && b) && uses.are_packets_last (map (use_of d targets) ss)) (any_use_reads d targets ss)
    ∙ ap (λ b. not (step_reads_packets s && list_any step_reads ss) && b) (uses_last d targets ss)

not_above : (most n : ℕ) → nat_lt most n ≡ false → nat_le n most ≡ true
not_above most n e = grind arith

-- a chain that is not too long, and in which none reads after one that reads packets
pub sound_chain : (d : DefinitionsData) (targets : List (List ℕ)) (ss : List StepData) → nat_lt most_protocols (length (whole_chain ss)) ≡ false → IsTrue (are_packets_last ss)
    → IsTrue (is_chain (map (use_of d targets) (whole_chain ss)))
sound_chain d targets ss few last =
    let chain = whole_chain ss in
    let f = use_of d targets in
    and_true (nat_le (length (map f chain)) most_protocols && list_any reads (map f chain)) (uses.are_packets_last (map f chain))
    (and_true (nat_le (length (map f chain)) most_protocols) (list_any reads (map f chain))
    (ap (λ n. nat_le n most_protocols) (length-map chain f) ∙ not_above most_protocols (length chain) few)
    (any_use_reads d targets chain ∙ with_added_reads (list_any step_reads ss) ss refl))
    (uses_last d targets chain ∙ with_added_last (list_any step_reads ss) ss refl last)

long_or_not : (b : Bool) (o : Option Refused) (r : Refused) → cond b (Some r) o ≡ None → b ≡ false
long_or_not true o r e = absurd cc
long_or_not false o r e = refl

-- an interface or router without fault has no chain that is too long
pub not_too_long : (d : DefinitionsData) (targets : List (List ℕ)) (n : ℕ) (ss : List StepData) → fault_of d targets n ss ≡ None → nat_lt most_protocols (length (whole_chain ss)) ≡ false
not_too_long d targets n ss none = long_or_not (nat_lt most_protocols (length (whole_chain ss))) (first_step_fault d targets ss) (n, ChainTooLong) none

-- what a chain is made to is one
pub sound_uses : (d : DefinitionsData) (targets : List (List ℕ)) (n : ℕ) (ss : List StepData) (r : Result (List UseData) (Fault SiteCause)) → IsTrue (are_packets_last ss) → Settles r (fault_of d targets n ss)
    → IfOk r (λ us. us ≡ map (use_of d targets) (whole_chain ss)) → IfOk r (λ us. IsTrue (is_chain us))
sound_uses d targets n ss (Ok us) last none made = subst (λ (xs : List UseData). IsTrue (is_chain xs)) (sym made) (sound_chain d targets ss (not_too_long d targets n ss none) last)
sound_uses d targets n ss (Err e) last fault made = tt

-- a chain of fewer than so many has room for one more
pub room_for : (most n : ℕ) → nat_le most n ≡ false → n + 1 ≤ most
room_for most n e = grind arith
