-- Parts that are joined.
use Rattle.std.proofs.Common.{◌≡◌, List, [], ◌∷◌, ◌++◌, refl, sym, ◌∙◌, ap, append_assoc, append-nil}
use Rattle.cts_log_parts.specs.Grouping.{BeginsParts, before, joined}
use Rattle.cts_log_parts.proofs.Dividing.{before_before}

module _ {X : Type 0} where
  -- what stands before a list that has a member
  over : (x : List X) (l : List X) (ls c : List (List X)) → joined (x ∷ l ∷ ls) c ≡ x ∷ joined (l ∷ ls) c
  over x l ls c = refl

  over_before : (x y : List X) (b c : List (List X)) → joined (x ∷ before y b) c ≡ x ∷ joined (before y b) c
  over_before x y [] c = refl
  over_before x y (z ∷ b) c = refl

  over_joined : (x z : List X) (xs b c : List (List X)) → joined (x ∷ joined (z ∷ xs) b) c ≡ x ∷ joined (joined (z ∷ xs) b) c
  over_joined x z [] b c = over_before x z b c
  over_joined x z (y ∷ xs) b c = refl

  before_joined : (a : List X) (xss yss : List (List X)) → before a (joined xss yss) ≡ joined (before a xss) yss
  before_joined a [] yss = refl
  before_joined a (x ∷ []) yss = before_before a x yss
  before_joined a (x ∷ z ∷ xss) yss = refl

  pub joined_assoc : (a b c : List (List X)) → joined (joined a b) c ≡ joined a (joined b c)
  joined_assoc [] b c = refl
  joined_assoc (x ∷ []) b c = sym (before_joined x b c)
  joined_assoc (x ∷ z ∷ a) b c = over_joined x z a b c ∙ ap (λ l. x ∷ l) (joined_assoc (z ∷ a) b c)

  -- the last one goes on
  pub joined_end : (xs : List (List X)) (a : List X) (yss : List (List X)) → joined (xs ++ a ∷ []) yss ≡ xs ++ before a yss
  joined_end [] a yss = refl
  joined_end (x ∷ []) a yss = refl
  joined_end (x ∷ z ∷ xs) a yss = ap (λ l. x ∷ l) (joined_end (z ∷ xs) a yss)

  pub joined_none : (xs : List (List X)) (a : List X) → joined (xs ++ a ∷ []) ([] ∷ []) ≡ xs ++ a ∷ []
  joined_none xs a = joined_end xs a ([] ∷ []) ∙ ap (λ l. xs ++ l ∷ []) (append-nil a)

  pub begins_same : (ps : List (List X)) → BeginsParts ps ps
  begins_same [] = tt
  begins_same (p ∷ []) = ([], sym (append-nil p))
  begins_same (p ∷ q ∷ ps) = (refl, begins_same (q ∷ ps))

  -- a beginning of parts is one of the parts grown
  pub begins_grown : (ws ps h : List (List X)) → BeginsParts ws ps → BeginsParts (joined ws h) ps
  begins_grown ws [] h b = tt
  begins_grown [] (p ∷ []) h b = absurd b
  begins_grown [] (p ∷ q ∷ ps) h b = absurd b
  begins_grown (w ∷ []) (p ∷ []) [] b = b
  begins_grown (w ∷ []) (p ∷ []) (y ∷ h) b = (b.0 ++ y, ap (λ l. l ++ y) b.1 ∙ append_assoc p b.0 y)
  begins_grown (w ∷ []) (p ∷ q ∷ []) h b = absurd b.1
  begins_grown (w ∷ []) (p ∷ q ∷ r ∷ ps) h b = absurd b.1
  begins_grown (w ∷ v ∷ ws) (p ∷ []) h b = b
  begins_grown (w ∷ v ∷ ws) (p ∷ q ∷ ps) h b = (b.0, begins_grown (v ∷ ws) (q ∷ ps) h b.1)

  -- the last one is cut
  pub begins_cut : (xs : List (List X)) (a more : List X) → BeginsParts (xs ++ (a ++ more) ∷ []) (xs ++ a ∷ [])
  begins_cut [] a more = (more, refl)
  begins_cut (x ∷ []) a more = (refl, (more, refl))
  begins_cut (x ∷ z ∷ xs) a more = (refl, begins_cut (z ∷ xs) a more)
