-- Bytes that are cut at places, and one entry more.
use Rattle.std.proofs.Common.{◌≡◌, ℕ, ◌-◌, ◌≤◌, Bool, true, false, List, [], ◌∷◌, ◌++◌, length, take, drop, refl, sym, ◌∙◌, ap, arith, append_assoc, length-drop}
use Rattle.std.specs.Prelude.{map, slice_range}
use Rattle.std.proofs.Math.Seq.{drop-append_seam}
use Rattle.std.proofs.lemmas.List.{drop-append-le, take-append-le, take_at}
use Rattle.cts_log_parts.specs.Grouping.{joined}
use Rattle.cts_log_parts.specs.Growths.{DoNotFall, cut_growth, headed, pieces_from, with_entry}
use Rattle.cts_log_parts.specs.Laws.{CutsTellGrowth}

-- places that do not fall before the end do not fall before a later one
pub fall_later : (from : ℕ) (places : List ℕ) (end later : ℕ) → end ≤ later → DoNotFall from places end → DoNotFall from places later
fall_later from [] end later le d = omega (arith, le, d)
fall_later from (c ∷ cs) end later le d = (d.0, fall_later c cs end later le d.1)

-- the end is one place more
pub fall_more : (from : ℕ) (places : List ℕ) (end later : ℕ) → end ≤ later → DoNotFall from places end → DoNotFall from (places ++ end ∷ []) later
fall_more from [] end later le d = (d, le)
fall_more from (c ∷ cs) end later le d = (d.0, fall_more c cs end later le d.1)

pub within : (from : ℕ) (places : List ℕ) (end : ℕ) → DoNotFall from places end → from ≤ end
within from [] end d = d
within from (c ∷ cs) end d = let w = within c cs end d.1 in omega (arith, d.0, w)

-- a piece that lies within the first bytes is one of all
same_piece : (bytes entry : List ℕ) (from to : ℕ) → from ≤ to → to ≤ length bytes → slice_range (bytes ++ entry) from to ≡ slice_range bytes from to
same_piece bytes entry from to le within =
    ap (take (to - from)) (drop-append-le from bytes entry (omega (arith, le, within)))
    ∙ take-append-le (to - from) (drop from bytes) entry (let n = length-drop from bytes in omega (arith, n, le, within))

last_piece : (bytes entry : List ℕ) (from : ℕ) → from ≤ length bytes → slice_range (bytes ++ entry) from (length bytes) ≡ drop from bytes
last_piece bytes entry from le =
    ap (take (length bytes - from)) (drop-append-le from bytes entry le) ∙ take_at (drop from bytes) entry (length bytes - from) (length-drop from bytes)

-- the pieces with one more, which begins a part or goes on with the last one
pieces_new : (bytes entry : List ℕ) (from : ℕ) (places : List ℕ) → DoNotFall from places (length bytes) → pieces_from from (places ++ length bytes ∷ []) (bytes ++ entry) ≡ pieces_from from places bytes ++ entry ∷ []
pieces_new bytes entry from [] d = ap (λ p. p ∷ drop (length bytes) (bytes ++ entry) ∷ []) (last_piece bytes entry from d) ∙ ap (λ e. drop from bytes ∷ e ∷ []) (drop-append_seam bytes entry)
pieces_new bytes entry from (c ∷ cs) d =
    ap (λ p. p ∷ pieces_from c (cs ++ length bytes ∷ []) (bytes ++ entry)) (same_piece bytes entry from c d.0 (within c cs (length bytes) d.1)) ∙ ap (λ ps. slice_range bytes from c ∷ ps) (pieces_new bytes entry c cs d.1)

pieces_on : (bytes entry : List ℕ) (from : ℕ) (places : List ℕ) → DoNotFall from places (length bytes) → pieces_from from places (bytes ++ entry) ≡ joined (pieces_from from places bytes) (entry ∷ [])
pieces_on bytes entry from [] d = ap (λ p. p ∷ []) (drop-append-le from bytes entry d)
pieces_on bytes entry from (c ∷ []) d =
    ap (λ p. p ∷ drop c (bytes ++ entry) ∷ []) (same_piece bytes entry from c d.0 d.1) ∙ ap (λ ps. slice_range bytes from c ∷ ps) (pieces_on bytes entry c [] d.1)
pieces_on bytes entry from (c ∷ e ∷ cs) d =
    ap (λ p. p ∷ pieces_from c (e ∷ cs) (bytes ++ entry)) (same_piece bytes entry from c d.0 (within c (e ∷ cs) (length bytes) d.1)) ∙ ap (λ ps. slice_range bytes from c ∷ ps) (pieces_on bytes entry c (e ∷ cs) d.1)

-- ---- after heads

heads_new : (head entry p : List ℕ) (ps : List (List ℕ)) → headed head ((p ∷ ps) ++ entry ∷ []) ≡ headed head (p ∷ ps) ++ (head ++ entry) ∷ []
heads_new head entry p ps = ap (λ l. p ∷ l) (maps ps)
  where
    maps : (qs : List (List ℕ)) → map (λ x. head ++ x) (qs ++ entry ∷ []) ≡ map (λ x. head ++ x) qs ++ (head ++ entry) ∷ []
    maps [] = refl
    maps (q ∷ qs) = ap (λ l. (head ++ q) ∷ l) (maps qs)

heads_on : (head entry p : List ℕ) (ps : List (List ℕ)) → headed head (joined (p ∷ ps) (entry ∷ [])) ≡ joined (headed head (p ∷ ps)) (entry ∷ [])
heads_on head entry p [] = refl
heads_on head entry p (q ∷ qs) = ap (λ l. p ∷ l) (maps q qs)
  where
    maps : (r : List ℕ) (rs : List (List ℕ)) → map (λ x. head ++ x) (joined (r ∷ rs) (entry ∷ [])) ≡ joined (map (λ x. head ++ x) (r ∷ rs)) (entry ∷ [])
    maps r [] = ap (λ l. l ∷ []) (sym (append_assoc head r entry))
    maps r (s ∷ rs) = ap (λ l. (head ++ r) ∷ l) (maps s rs)

new_growth : (head bytes entry : List ℕ) (from : ℕ) (places : List ℕ) → headed head (pieces_from from places bytes ++ entry ∷ []) ≡ headed head (pieces_from from places bytes) ++ (head ++ entry) ∷ []
new_growth head bytes entry from [] = heads_new head entry (drop from bytes) []
new_growth head bytes entry from (c ∷ cs) = heads_new head entry (slice_range bytes from c) (pieces_from c cs bytes)

on_growth : (head bytes entry : List ℕ) (from : ℕ) (places : List ℕ) → headed head (joined (pieces_from from places bytes) (entry ∷ [])) ≡ joined (headed head (pieces_from from places bytes)) (entry ∷ [])
on_growth head bytes entry from [] = heads_on head entry (drop from bytes) []
on_growth head bytes entry from (c ∷ cs) = heads_on head entry (slice_range bytes from c) (pieces_from c cs bytes)

pub cuts_tell_growth : CutsTellGrowth
cuts_tell_growth head bytes entry places true d = ap (headed head) (pieces_new bytes entry 0 places d) ∙ new_growth head bytes entry 0 places
cuts_tell_growth head bytes entry places false d = ap (headed head) (pieces_on bytes entry 0 places d) ∙ on_growth head bytes entry 0 places

-- ---- puts

-- what was put and closed, and the pieces that are left
pub closed_then : (head p bytes : List ℕ) (from : ℕ) (places : List ℕ) → joined (p ∷ head ∷ []) (headed head (pieces_from from places bytes)) ≡ headed head (p ∷ pieces_from from places bytes)
closed_then head p bytes from [] = refl
closed_then head p bytes from (c ∷ cs) = refl
