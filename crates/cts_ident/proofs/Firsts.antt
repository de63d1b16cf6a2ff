-- The first candidate is the packet at the first place that passes.
use Rattle.std.proofs.Common.{◌≡◌, ℕ, zero, suc, ◌+◌, ◌<◌, ◌≤◌, Bool, true, false, ◌&&◌, ◌||◌, cond, List, [], ◌∷◌, Option, Some, None, length, get_or, refl, sym, ap, ◌∙◌, arith}
use Rattle.std.proofs.lemmas.List.{append-nil, get_or-map}
use Rattle.std.proofs.lemmas.List.Folds.{list_any-append}
use Rattle.std.proofs.lemmas.Iterator.Adapters.{position_from-zero}
use Rattle.std.specs.List.{cons_option, filter, find, flat_map, list_all, list_any, filter_map, position, position_from}
use Rattle.cts_def.specs.Beginnings.{has_id, id_field_of}
use Rattle.cts_def.specs.Items.{ItemData}
use Rattle.cts_def.specs.Packets.{PacketData, is_of}
use Rattle.cts_def.specs.Sites.{InterfaceData, RouterData, routed_targets, targets_at}
use Rattle.cts_def.specs.Starts.{IdField}
use Rattle.cts_ident.specs.Identification.{first_of, number_of, numbered, routes_at}
use Rattle.cts_ident.specs.Matches.{at_place, has_its_id, has_own_id}

abbrev pub passes : List (List ℕ) → (PacketData → Bool) → PacketData → Bool
passes targets test p = is_of targets p && test p

first_step : (of passed : Bool) (n : ℕ) (p : PacketData) (test : PacketData → Bool) (rest : List (ℕ × PacketData)) (later : Option ℕ)
    → test p ≡ passed → number_of (find (λ (c : ℕ × PacketData). test c.1) rest) ≡ at_place later
    → number_of (find (λ (c : ℕ × PacketData). test c.1) (cond of ((n, p) ∷ rest) rest)) ≡ at_place (cond (of && passed) (Some n) later)
first_step false passed n p test rest later t h = h
first_step true false n p test rest later t h = rw t h
first_step true true n p test rest later t h = rw t refl

first_from : (targets : List (List ℕ)) (test : PacketData → Bool) (n : ℕ) (ps : List PacketData)
    → number_of (find (λ (c : ℕ × PacketData). test c.1) (filter (λ (c : ℕ × PacketData). is_of targets c.1) (numbered n ps))) ≡ at_place (position_from (passes targets test) n ps)
first_from targets test n [] = refl
first_from targets test n (p ∷ ps) =
    first_step (is_of targets p) (test p) n p test (filter (λ (c : ℕ × PacketData). is_of targets c.1) (numbered (n + 1) ps)) (position_from (passes targets test) (n + 1) ps) refl (first_from targets test (n + 1) ps)

pub first_is_place : (targets : List (List ℕ)) (packets : List PacketData) (test : PacketData → Bool)
    → first_of targets packets test ≡ at_place (position (passes targets test) packets)
first_is_place targets packets test =
    first_from targets test 0 packets ∙ ap at_place (sym (position_from-zero (passes targets test) packets))

-- ---- targets

pub any-flat_map : {X Y : Type 0} (p : Y → Bool) (f : X → List Y) (xs : List X) → list_any p (flat_map f xs) ≡ list_any (λ x. list_any p (f x)) xs
any-flat_map p f [] = refl
any-flat_map p f (x ∷ xs) = list_any-append p (f x) (flat_map f xs) ∙ ap (λ b. list_any p (f x) || b) (any-flat_map p f xs)

pub targets_of_one : (interfaces : List InterfaceData) (n : ℕ) → routed_targets interfaces (n ∷ []) ≡ targets_at interfaces n
targets_of_one interfaces n = append-nil (targets_at interfaces n)

pub targets_there : (interfaces : List InterfaceData) (n : ℕ) (i : InterfaceData) → n < length interfaces → i ≡ get_or interfaces n i → targets_at interfaces n ≡ i.targets
targets_there [] n i within is = absurd (omega arith)
targets_there (j ∷ interfaces) zero i within is = ap (λ (x : InterfaceData). x.targets) (sym is)
targets_there (j ∷ interfaces) (suc n) i within is = targets_there interfaces n i (omega arith) is

pub targets_nowhere : (interfaces : List InterfaceData) (n : ℕ) → length interfaces ≤ n → targets_at interfaces n ≡ []
targets_nowhere [] n past = refl
targets_nowhere (j ∷ interfaces) zero past = absurd (omega arith)
targets_nowhere (j ∷ interfaces) (suc n) past = targets_nowhere interfaces n (omega arith)

pub routes_there : (routers : List RouterData) (n : ℕ) (r : RouterData) → n < length routers → r ≡ get_or routers n r → routes_at routers n ≡ r.routes
routes_there routers n r within is = get_or-map (λ (x : RouterData). x.routes) routers n r [] within ∙ ap (λ (x : RouterData). x.routes) (sym is)

-- ---- ids

all-cons_option : (bytes : List ℕ) (o : Option IdField) (rest : List IdField) → list_all (has_id bytes) (cons_option o rest) ≡ (has_its_id bytes o && list_all (has_id bytes) rest)
all-cons_option bytes None rest = refl
all-cons_option bytes (Some i) rest = refl

pub all-filter_map : (bytes : List ℕ) (items : List ItemData) → list_all (has_id bytes) (filter_map id_field_of items) ≡ list_all (has_own_id bytes) items
all-filter_map bytes [] = refl
all-filter_map bytes (i ∷ items) = all-cons_option bytes (id_field_of i) (filter_map id_field_of items) ∙ ap (λ b. has_own_id bytes i && b) (all-filter_map bytes items)
