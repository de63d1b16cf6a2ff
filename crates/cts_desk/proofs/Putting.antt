-- Puts one after the other.
use Rattle.std.proofs.Common.{◌≡◌, ℕ, ◌+◌, ◌≤◌, List, [], ◌∷◌, ◌++◌, length, take, drop, suc, zero, true, sym, refl, ap, ◌∙◌, arith, length-append, append_assoc, Option, Some, None, option_map, Result, Ok, Err}
use Rattle.std.proofs.Math.Seq.{take-append-add, take-append_seam}
use Rattle.cts_http.specs.Texts.{Writes}
use Rattle.cts_outside.specs.Lines.{Connection, Line, told_after, at_now, with_put, with_failed_put, LinkPuts}

-- a beginning of what is put second
pub take_after : (xs ys : List ℕ) (n : ℕ) → xs ++ take n ys ≡ take (length xs + n) (xs ++ ys)
take_after [] ys n = ap (λ k. take k ys) (let e : n ≡ 0 + n = omega arith in e)
take_after (x ∷ xs) ys n =
    let e : suc (length xs) + n ≡ suc (length xs + n) = omega arith in
    ap (λ l. x ∷ l) (take_after xs ys n) ∙ ap (λ k. take k (x ∷ (xs ++ ys))) (sym e)

take_front : (xs ys : List ℕ) (n : ℕ) → n ≤ length xs → take n xs ≡ take n (xs ++ ys)
take_front xs ys zero le = refl
take_front [] ys (suc n) le = absurd (omega arith)
take_front (x ∷ xs) ys (suc n) le = ap (λ l. x ∷ l) (take_front xs ys n (omega arith))

module _ (f g h : Connection → Connection) (same : (c : Connection) → g (f c) ≡ h c) where
  now_twice : (o : Option Connection) → option_map g (option_map f o) ≡ option_map h o
  now_twice None = refl
  now_twice (Some c) = ap (λ d. Some d) (same c)

  twice : (o : Option Line) → told_after (at_now g) (told_after (at_now f) o) ≡ told_after (at_now h) o
  twice None = refl
  twice (Some line) = ap (λ (n : Option Connection). let l : Line = record line { now = n } in Some l) (now_twice line.now)

put_twice : (a b : List ℕ) (c : Connection) → with_put b (with_put a c) ≡ with_put (a ++ b) c
put_twice a b c = ap (λ (l : List ℕ). let d : Connection = record c { put = l } in d) (append_assoc c.put a b)

fail_second : (a b : List ℕ) (n : ℕ) (c : Connection) → with_failed_put (take n b) (with_put a c) ≡ with_failed_put (take (length a + n) (a ++ b)) c
fail_second a b n c = ap (λ (l : List ℕ). let d : Connection = record c { put = l; put_failed = true } in d)
    (append_assoc c.put a (take n b) ∙ ap (λ l. c.put ++ l) (take_after a b n))

pub puts_both : {T E : Type 0} (a b : List ℕ) (old mid new : Option Line) (result : Result T E) → mid ≡ told_after (at_now (with_put a)) old → LinkPuts mid new b result → LinkPuts old new (a ++ b) result
puts_both a b old mid new (Ok u) first second = second ∙ ap (told_after (at_now (with_put b))) first ∙ twice (with_put a) (with_put b) (with_put (a ++ b)) (put_twice a b) old
puts_both a b old mid new (Err e) first second = (
  length a + second.0,
  (let l = length-append a b in let le : second.0 ≤ length b = second.1 in omega arith),
  second.2 ∙ ap (told_after (at_now (with_failed_put (take second.0 b)))) first ∙ twice (with_put a) (with_failed_put (take second.0 b)) (with_failed_put (take (length a + second.0) (a ++ b))) (fail_second a b second.0) old,
)

pub puts_part : (a b : List ℕ) (old new : Option Line) → (n : ℕ) × (n ≤ length a) × (new ≡ told_after (at_now (with_failed_put (take n a))) old) → (n : ℕ) × (n ≤ length (a ++ b)) × (new ≡ told_after (at_now (with_failed_put (take n (a ++ b)))) old)
puts_part a b old new puts = (
  puts.0,
  (let l = length-append a b in let le : puts.0 ≤ length a = puts.1 in omega arith),
  puts.2 ∙ ap (λ l. told_after (at_now (with_failed_put l)) old) (take_front a b puts.0 puts.1),
)

take_all : (xs : List ℕ) → take (length xs) xs ≡ xs
take_all [] = refl
take_all (x ∷ xs) = ap (λ l. x ∷ l) (take_all xs)

-- a text that was written over the first bytes, and another one after it
written_both : (a b w x : List ℕ) → take (length a + length b) (take (length a) (a ++ w) ++ (b ++ x)) ≡ a ++ b
written_both a b w x =
    ap (λ (l : List ℕ). take (length a + length b) (l ++ (b ++ x))) (take-append_seam a w)
    ∙ take-append-add a (b ++ x) (length b) ∙ ap (λ (l : List ℕ). a ++ l) (take-append_seam b x)

pub joined : (a b w x mid new : List ℕ) (middle end : ℕ) → mid ≡ a ++ w → middle ≡ 0 + length a → new ≡ take middle mid ++ (b ++ x)
    → end ≡ middle + length b → take end new ≡ a ++ b
joined a b w x mid new middle end first from second ends =
    let at : middle ≡ length a = omega (arith, from) in
    ap (λ (n : ℕ). take n new) (ends ∙ ap (λ (n : ℕ). n + length b) at)
    ∙ ap (take (length a + length b)) (second ∙ ap (λ (n : ℕ). take n mid ++ (b ++ x)) at ∙ ap (λ (l : List ℕ). take (length a) l ++ (b ++ x)) first)
    ∙ written_both a b w x

-- the bytes that were written
pub text_written : (text old new : List ℕ) (count : ℕ) → Writes text old new count → take count new ≡ text
text_written text old new count w =
    ap (λ l. take count l) w.1 ∙ sym (take_front text (drop count old) count (let e : count ≡ length text = w.0 in omega arith)) ∙ ap (λ k. take k text) w.0 ∙ take_all text
