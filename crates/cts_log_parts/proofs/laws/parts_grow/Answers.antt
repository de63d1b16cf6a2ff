use Rattle.std.proofs.Common.{◌≡◌, ℕ, Bool, List, [], ◌∷◌, ◌++◌, length, arith, ap, refl, sym, ◌∙◌, subst, append_assoc, length-append, Some, None}
use Rattle.std.specs.Prelude.{map}
use Rattle.std.specs.List.{flat_map}
use Rattle.std.proofs.lemmas.List.Concat.{flat_map-append, length-flat_map}
use Rattle.cts_log.specs.Files.{log_file, log_head, log_head_len}
use Rattle.cts_log.specs.Logged.{Logged, entry_bytes}
use Rattle.cts_log.specs.declared.kind.LogKind.{LogKind}
use Rattle.cts_log.proofs.LogHeads.{head_len, heads_are_written}
use Rattle.cts_log_parts.specs.Grouping.{BeginsParts, StartsWith, before, grouped, last_of, part_size, size_after}
use Rattle.cts_log_parts.specs.Laws.{CyclesCount, PartsGrow, SizeIsOfTheLast}
use Rattle.cts_log_parts.specs.Parts.{entry_len, groups_of, log_parts}
use Rattle.cts_log_parts.proofs.Dividing.{begins_joined, before_none, goes_on, last_size}
use Rattle.cts_log_parts.proofs.laws.parts_grow.Goals as goal

pub returns-clause-goes_on : goal.returns-clause-goes_on
returns-clause-goes_on c fl cycle size xs ys = goes_on (entry_len fl) cycle size xs ys

file_more : (kind : LogKind) (fl : Bool) (digest : List ℕ) (xs ys : List Logged) → StartsWith (log_file kind fl digest (xs ++ ys)) (log_file kind fl digest xs)
file_more kind fl digest xs ys = (
  flat_map (entry_bytes fl) ys,
  ap (λ l. log_head kind fl digest ++ l) (flat_map-append (entry_bytes fl) xs ys) ∙ sym (append_assoc (log_head kind fl digest) (flat_map (entry_bytes fl) xs) (flat_map (entry_bytes fl) ys)),
)

grow : PartsGrow
grow kind fl digest cycle xs ys =
    subst (λ gs. BeginsParts (map (log_file kind fl digest) gs) (map (log_file kind fl digest) (groups_of fl cycle xs))) (sym (goes_on (entry_len fl) cycle log_head_len xs ys))
    (begins_joined (log_file kind fl digest) (file_more kind fl digest) (groups_of fl cycle xs) (grouped (entry_len fl) cycle (size_after (entry_len fl) cycle log_head_len xs) ys))

pub returns-clause-begins : goal.returns-clause-begins
returns-clause-begins c = grow

last_map : (f : List Logged → List ℕ) (g : List Logged) (gs : List (List Logged)) → last_of (map f (g ∷ gs)) ≡ f (last_of (g ∷ gs))
last_map f g [] = refl
last_map f g (h ∷ gs) = last_map f h gs

some_last : (f : List Logged → List ℕ) (a : List Logged) (gs : List (List Logged)) → last_of (map f (before a gs)) ≡ f (last_of (before a gs))
some_last f a [] = refl
some_last f a (g ∷ gs) = last_map f (a ++ g) gs

size : SizeIsOfTheLast
size kind fl digest cycle es long bytes =
    let head = head_len kind fl (log_head kind fl digest) (heads_are_written kind fl digest long bytes) in
    let gs = groups_of fl cycle es in
    let some : before [] gs ≡ gs = before_none (entry_len fl) cycle log_head_len es in
    let last : last_of (log_parts kind fl digest cycle es) ≡ log_file kind fl digest (last_of gs) =
    subst (λ x. last_of (map (log_file kind fl digest) x) ≡ log_file kind fl digest (last_of x)) some (some_last (log_file kind fl digest) [] gs) in
    let len : length (log_file kind fl digest (last_of gs)) ≡ part_size (entry_len fl) (last_of gs) =
    (let a = length-append (log_head kind fl digest) (flat_map (entry_bytes fl) (last_of gs)) in let b = length-flat_map (entry_bytes fl) (last_of gs) in omega (arith, a, b, head)) in
    let counted = last_size (entry_len fl) cycle [] es in
    ap length last ∙ len ∙ ap (λ x. part_size (entry_len fl) (last_of x)) (sym some) ∙ counted

pub returns-clause-size : goal.returns-clause-size
returns-clause-size c = size

counts : CyclesCount
counts None _ n = (refl, refl)
counts (Some limit) _ n = (refl, refl)

pub returns-clause-counts : goal.returns-clause-counts
returns-clause-counts c = counts
