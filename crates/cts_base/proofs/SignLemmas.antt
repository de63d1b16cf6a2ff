-- A text is its sign and the rest.
use Rattle.std.proofs.Common.{◌≡◌, ◌≢◌, ℕ, false, eqb, List, [], ◌∷◌, ◌++◌, get_or, refl, sym, subst, ⊎_elim}
use Rattle.std.specs.Str.Parse.{without_leading_sign, starts_with_minus}
use Rattle.std.proofs.lemmas.Bool.{cases_eq, ne_eqb}
use Rattle.cts_base.specs.Signs.{Sign, sign_text, is_minus}
use Rattle.cts_base.specs.Signs.Sign.{absent, plus, minus}

pub record SignSplit (text : List ℕ) : Type 0 where
  pub sign : Sign
  pub form : text ≡ sign_text sign ++ without_leading_sign text
  pub negative : starts_with_minus text ≡ is_minus sign

pub sign_split : (text : List ℕ) → SignSplit text
sign_split [] = record { sign = absent; form = refl; negative = refl }
sign_split (c ∷ cs) =
    let P : ℕ → Type 0 = λ d. SignSplit (d ∷ cs) in
    ⊎_elim
    (λ is45. subst P (sym is45) (record { sign = minus; form = refl; negative = refl }))
    (λ not45. ⊎_elim
    (λ is43. subst P (sym is43) (record { sign = plus; form = refl; negative = refl }))
    (λ not43.
    let e45 : eqb c 45 ≡ false = ne_eqb c 45 not45 in
    let e43 : eqb c 43 ≡ false = ne_eqb c 43 not43 in
    record { sign = absent; form = rw (e45, e43) refl; negative = e45 })
    (cases_eq c 43))
    (cases_eq c 45)

-- a body with no sign of its own, after a sign
pub record NoSign (body : List ℕ) : Type 0 where
  pub not_plus : get_or body 0 0 ≢ 43
  pub not_minus : get_or body 0 0 ≢ 45

pub without_sign : (s : Sign) (body : List ℕ) → NoSign body → without_leading_sign (sign_text s ++ body) ≡ body
without_sign absent body h =
    let e45 : eqb (get_or body 0 0) 45 ≡ false = ne_eqb (get_or body 0 0) 45 h.not_minus in
    let e43 : eqb (get_or body 0 0) 43 ≡ false = ne_eqb (get_or body 0 0) 43 h.not_plus in
    rw (e45, e43) refl
without_sign plus body h = refl
without_sign minus body h = refl

pub minus_sign : (s : Sign) (body : List ℕ) → NoSign body → starts_with_minus (sign_text s ++ body) ≡ is_minus s
minus_sign absent body h = ne_eqb (get_or body 0 0) 45 h.not_minus
minus_sign plus body h = refl
minus_sign minus body h = refl
