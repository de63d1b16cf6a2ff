-- What a line's calls leave of what its dialer tells, also of the connections after the first ones.
use Rattle.std.proofs.Common.{◌≡◌, ℕ, ◌≤◌, List, [], ◌∷◌, ◌++◌, length, drop, suc, zero, refl, sym, ◌∙◌, ap, subst, arith, length-append, append-nil, append_assoc, Option, Some, None}
use Rattle.std.specs.Prelude.{option_to_list}
use Rattle.cts_outside.specs.Lines.{Connection, Line, after_dial, at_now, hung_up, told_after}
use Rattle.cts_outside.specs.declared.link.Dialed.{Dialed}
use Rattle.cts_outside.specs.declared.link.Dialed.TheVariants.{Linked, Later, Finished, Failed}
use Rattle.cts_turn.specs.Lists.{StartsWith}
use Rattle.cts_line.specs.Ending.{IsUndialed}
use Rattle.cts_line.specs.Telling.{Has, Retells, made_by, since}

-- ---- the connections after the first ones

pub since_now : (k : ℕ) (f : Connection → Connection) (old new : Option Line) → new ≡ told_after (at_now f) old → since k new ≡ told_after (at_now f) (since k old)
since_now k f None new e = ap (since k) e
since_now k f (Some line) new e = ap (since k) e

pub since_dial : (k : ℕ) (d : Dialed) (old new : Option Line) → new ≡ told_after (after_dial d) old → since k new ≡ told_after (after_dial d) (since k old)
since_dial k d None new e = ap (since k) e
since_dial k Linked (Some line) new e = ap (since k) e
since_dial k Later (Some line) new e = ap (since k) e
since_dial k Finished (Some line) new e = ap (since k) e
since_dial k Failed (Some line) new e = ap (since k) e

drop_append : (k : ℕ) (xs ys : List Connection) → k ≤ length xs → drop k (xs ++ ys) ≡ drop k xs ++ ys
drop_append zero xs ys le = refl
drop_append (suc k) [] ys le = absurd (omega arith)
drop_append (suc k) (x ∷ xs) ys le = drop_append k xs ys (omega arith)

drop_all : (xs : List Connection) → drop (length xs) xs ≡ []
drop_all [] = refl
drop_all (x ∷ xs) = drop_all xs

pub since_hung : (k : ℕ) (old new : Option Line) → Has k old → new ≡ told_after hung_up old → since k new ≡ told_after hung_up (since k old)
since_hung k None new has e = ap (since k) e
since_hung k (Some line) new has e =
    ap (since k) e ∙ ap (λ (l : List Connection). let m : Line = record line { past = l; now = None } in Some m) (drop_append k line.past (option_to_list line.now) has)

-- ---- what is told as before

starts_same : (xs : List Connection) → StartsWith xs xs
starts_same xs = ([], sym (append-nil xs))

pub retells_same : (told : Option Line) → Retells told told
retells_same None = tt
retells_same (Some line) = (starts_same line.past, refl)

pub retells_now : (f : Connection → Connection) (old new : Option Line) → new ≡ told_after (at_now f) old → Retells old new
retells_now f None new e = subst (Retells None) (sym e) tt
retells_now f (Some line) new e = subst (Retells (Some line)) (sym e) (starts_same line.past, refl)

pub retells_dial : (d : Dialed) (old new : Option Line) → new ≡ told_after (after_dial d) old → Retells old new
retells_dial d None new e = subst (Retells None) (sym e) tt
retells_dial Linked (Some line) new e = subst (Retells (Some line)) (sym e) (starts_same line.past, refl)
retells_dial Later (Some line) new e = subst (Retells (Some line)) (sym e) (starts_same line.past, refl)
retells_dial Finished (Some line) new e = subst (Retells (Some line)) (sym e) (starts_same line.past, refl)
retells_dial Failed (Some line) new e = subst (Retells (Some line)) (sym e) (starts_same line.past, refl)

pub retells_hung : (old new : Option Line) → new ≡ told_after hung_up old → Retells old new
retells_hung None new e = subst (Retells None) (sym e) tt
retells_hung (Some line) new e = subst (Retells (Some line)) (sym e) ((option_to_list line.now, refl), refl)

pub retells_then : (a b c : Option Line) → Retells a b → Retells b c → Retells a c
retells_then None None None r s = tt
retells_then None None (Some z) r s = absurd s
retells_then None (Some y) c r s = absurd r
retells_then (Some x) None c r s = absurd r
retells_then (Some x) (Some y) None r s = absurd s
retells_then (Some x) (Some y) (Some z) r s = (
  (r.0.0 ++ s.0.0, s.0.1 ∙ (ap (λ (l : List Connection). l ++ s.0.0) r.0.1 ∙ append_assoc x.past r.0.0 s.0.0)),
  s.1 ∙ r.1,
)

pub retells_has : (k : ℕ) (old new : Option Line) → Retells old new → Has k old → Has k new
retells_has k None None r h = tt
retells_has k None (Some line) r h = absurd r
retells_has k (Some was) None r h = absurd r
retells_has k (Some was) (Some line) r h = let l = ap length r.0.1 ∙ length-append was.past r.0.0 in omega (arith, h, l)

-- all connections that were made before a line hung up
pub has_made : (old new : Option Line) → new ≡ told_after hung_up old → Has (made_by old) new
has_made None new e = subst (Has 0) (sym e) tt
has_made (Some line) new e = subst (Has (length (line.past ++ option_to_list line.now))) (sym e) (omega arith)

pub undialed_made : (old new : Option Line) → new ≡ told_after hung_up old → IsUndialed (since (made_by old) new)
undialed_made None new e = subst (λ (o : Option Line). IsUndialed (since 0 o)) (sym e) tt
undialed_made (Some line) new e =
    let made : List Connection = line.past ++ option_to_list line.now in
    subst (λ (o : Option Line). IsUndialed (since (length made) o)) (sym e) (drop_all made, refl)
