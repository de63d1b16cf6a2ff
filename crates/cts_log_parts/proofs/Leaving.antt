-- What a stop leaves of parts.
use Rattle.std.proofs.Common.{◌≡◌, ℕ, List, [], ◌∷◌, ◌++◌, length, sym, ◌∙◌, ap, subst, arith, append-nil, length-append}
use Rattle.std.proofs.lemmas.List.{nil_from_length}
use Rattle.cts_log_parts.specs.Grouping.{StartsWith}
use Rattle.cts_log_parts.specs.Laws.{StopsLeaveParts}
use Rattle.cts_log_parts.specs.Stops.{IsPartLeft}
use Rattle.cts_outside.specs.Vaults.{Part}
use Rattle.cts_log_parts.proofs.Dividing.{starts_then}

-- two lists that begin each other are one
pub one_list : {X : Type 0} (a b : List X) → StartsWith a b → StartsWith b a → a ≡ b
one_list a b x y =
    let m = ap length x.1 in
    let n = ap length y.1 in
    let none : x.0 ≡ [] = nil_from_length x.0 (omega (arith, m, n, length-append b x.0, length-append a y.0)) in
    x.1 ∙ ap (λ l. b ++ l) none ∙ append-nil b

-- a part that is synced is left whole
pub left_whole : (p : Part) (file : List ℕ) → p.synced ≡ p.bytes → IsPartLeft p file → file ≡ p.bytes
left_whole p file s l = one_list file p.bytes (subst (StartsWith file) s l.1) l.0

pub stops_leave : StopsLeaveParts
stops_leave whole [] [] b c l = tt
stops_leave whole [] (f ∷ fs) b c l = absurd l
stops_leave whole (p ∷ []) [] b c l = tt
stops_leave [] (p ∷ []) (f ∷ fs) b c l = absurd b
stops_leave (w ∷ ws) (p ∷ []) (f ∷ []) b c l = starts_then w p.bytes f b l.0.0
stops_leave (w ∷ ws) (p ∷ []) (f ∷ h ∷ fs) b c l = absurd l.1
stops_leave whole (p ∷ q ∷ ps) [] b c l = tt
stops_leave [] (p ∷ q ∷ ps) (f ∷ fs) b c l = absurd b
stops_leave (w ∷ ws) (p ∷ q ∷ ps) (f ∷ []) b c l = ([], sym (left_whole p f c.0 l.0 ∙ b.0) ∙ sym (append-nil f))
stops_leave (w ∷ ws) (p ∷ q ∷ ps) (f ∷ h ∷ fs) b c l = (left_whole p f c.0 l.0 ∙ b.0, stops_leave ws (q ∷ ps) (h ∷ fs) b.1 c.1 l.1)
