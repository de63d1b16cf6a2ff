-- The sign that may stand before a number.
use Rattle.std.specs.Prelude.{ℕ, Bool, true, false, List, [], ◌∷◌, ℤ, pos, neg_ℤ, if◌then◌else◌}

pub data Sign : Type 0 where
  absent : Sign
  plus : Sign
  minus : Sign

-- nothing, `+` or `-`
abbrev pub sign_text : Sign → List ℕ
sign_text absent = []
sign_text plus = 43 ∷ []
sign_text minus = 45 ∷ []

abbrev pub is_minus : Sign → Bool
is_minus absent = false
is_minus plus = false
is_minus minus = true

-- n, or -n where it is negative
abbrev pub with_sign : Bool → ℕ → ℤ
with_sign negative n = if negative then neg_ℤ (pos n) else pos n
