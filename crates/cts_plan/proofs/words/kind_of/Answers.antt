use Rattle.std.proofs.Common.{◌≡◌, ◌∙◌, Bool, true, false, cond, refl, sym}
use Rattle.cts_plan.proofs.words.kind_of.Goals as goal

-- the first of some choices
first : {X : Type 0} (b : Bool) (x rest : X) → b ≡ true → x ≡ cond b x rest
first true x rest e = refl
first false x rest e = absurd cc

-- one of those after it
later : {X : Type 0} (b : Bool) (x y rest : X) → b ≡ false → y ≡ rest → y ≡ cond b x rest
later true x y rest e h = absurd cc
later false x y rest e h = h

pub returns-then-is_one_of : goal.returns-then-is_one_of
returns-then-is_one_of c =
    first _ _ _ (sym c.is_one_of.ensures ∙ c.if-is_one_of.true)

pub returns-then-is_one_of-2 : goal.returns-then-is_one_of-2
returns-then-is_one_of-2 c =
    later _ _ _ _ (sym c.is_one_of.ensures ∙ c.if-is_one_of.false)
    (first _ _ _ (sym c.is_one_of-else-is_one_of.ensures ∙ c.if-is_one_of-2.true))

pub returns-then-is_one_of-3 : goal.returns-then-is_one_of-3
returns-then-is_one_of-3 c =
    later _ _ _ _ (sym c.is_one_of.ensures ∙ c.if-is_one_of.false)
    (later _ _ _ _ (sym c.is_one_of-else-is_one_of.ensures ∙ c.if-is_one_of-2.false)
    (first _ _ _ (sym c.is_one_of-else-is_one_of-2.ensures ∙ c.if-is_one_of-3.true)))

pub returns-then-is_one_of-4 : goal.returns-then-is_one_of-4
returns-then-is_one_of-4 c =
    later _ _ _ _ (sym c.is_one_of.ensures ∙ c.if-is_one_of.false)
    (later _ _ _ _ (sym c.is_one_of-else-is_one_of.ensures ∙ c.if-is_one_of-2.false)
    (later _ _ _ _ (sym c.is_one_of-else-is_one_of-2.ensures ∙ c.if-is_one_of-3.false)
    (first _ _ _ (sym c.is_one_of-else-is_one_of-3.ensures ∙ c.if-is_one_of-4.true))))

pub returns-then-is_one_of-5 : goal.returns-then-is_one_of-5
returns-then-is_one_of-5 c =
    later _ _ _ _ (sym c.is_one_of.ensures ∙ c.if-is_one_of.false)
    (later _ _ _ _ (sym c.is_one_of-else-is_one_of.ensures ∙ c.if-is_one_of-2.false)
    (later _ _ _ _ (sym c.is_one_of-else-is_one_of-2.ensures ∙ c.if-is_one_of-3.false)
    (later _ _ _ _ (sym c.is_one_of-else-is_one_of-3.ensures ∙ c.if-is_one_of-4.false)
    (first _ _ _ (sym c.is_one_of-else-is_one_of-4.ensures ∙ c.if-is_one_of-5.true)))))

pub returns-else-is_one_of-5 : goal.returns-else-is_one_of-5
returns-else-is_one_of-5 c =
    later _ _ _ _ (sym c.is_one_of.ensures ∙ c.if-is_one_of.false)
    (later _ _ _ _ (sym c.is_one_of-else-is_one_of.ensures ∙ c.if-is_one_of-2.false)
    (later _ _ _ _ (sym c.is_one_of-else-is_one_of-2.ensures ∙ c.if-is_one_of-3.false)
    (later _ _ _ _ (sym c.is_one_of-else-is_one_of-3.ensures ∙ c.if-is_one_of-4.false)
    (later _ _ _ _ (sym c.is_one_of-else-is_one_of-4.ensures ∙ c.if-is_one_of-5.false) refl))))
