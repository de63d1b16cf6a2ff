-- Whether a round is the last of its connection.
use Rattle.std.proofs.Common.{◌≡◌, Bool, true, false, refl, sym, subst, Option, Some, None}
use Rattle.std.specs.Prelude.{IfNone, IfSome}
use Rattle.cts_desk.specs.declared.ending.HangUp.{HangUp}
use Rattle.cts_desk.specs.Serving.{Waits, after, goes_on, is_stop, over_unless}

-- the stage after the requests of a piece is that after the round
pub after_goes : (goes : Bool) → after (over_unless goes) ≡ goes_on goes Waits
after_goes true = refl
after_goes false = refl

open_by : (goes : Bool) (P : Type 0) → (goes ≡ true → P) → IfNone (over_unless goes) P
open_by true P p = p refl
open_by false P p = tt

-- where the requests of a piece do not end a round, what they leave holds
pub open_unless : (goes : Bool) (end : Option HangUp) (P : Type 0) → end ≡ over_unless goes → (goes ≡ true → P) → IfNone end P
open_unless goes end P e p = subst (λ (o : Option HangUp). IfNone o P) (sym e) (open_by goes P p)

no_stop : (goes : Bool) (P : Type 0) → IfSome (over_unless goes) (λ why. is_stop why ≡ true → P)
no_stop true P = tt
no_stop false P = λ e. absurd (let f : false ≡ true = e in cc)

-- they are no Stop
pub unless_no_stop : (goes : Bool) (end : Option HangUp) (P : Type 0) → end ≡ over_unless goes → IfSome end (λ why. is_stop why ≡ true → P)
unless_no_stop goes end P e = subst (λ (o : Option HangUp). IfSome o (λ why. is_stop why ≡ true → P)) (sym e) (no_stop goes P)

pub if_none : {A : Type 0} (o : Option A) (P : Type 0) → o ≡ None → IfNone o P → P
if_none {A} o P e p = subst (λ (x : Option A). IfNone x P) e p

pub if_some : {A : Type 0} (o : Option A) (x : A) (P : A → Type 0) → o ≡ Some x → IfSome o P → P x
if_some {A} o x P e p = subst (λ (y : Option A). IfSome y P) e p
