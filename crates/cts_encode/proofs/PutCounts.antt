-- What is put with a count is the spelling.
use Rattle.std.proofs.Common.{◌≡◌, ℕ, ◌-◌, true, false, ◌||◌, List, ◌++◌, length, take, drop, refl, sym, ◌∙◌, ap, subst, arith, Option, Some, length-append}
use Rattle.std.specs.Prelude.{ℤ, nat_lt, Ok, Err}
use Rattle.std.proofs.lemmas.List.{take_at, drop_at, take-append-drop, length-drop}
use Rattle.cts_def.specs.Protocols.{LengthData, Length}
use Rattle.cts_def.specs.Starts.{PlaceData}
use Rattle.cts_framing.specs.Framing.{Heading}
use Rattle.cts_def.specs.Most.{frame_limit}
use Rattle.cts_encode.specs.Putting.{length_row, CountsFor, lacks_place}
use Rattle.cts_encode.specs.Spellings.{Encodes, HasField, HasCount, over_first, count_of, is_large, has_no_count, ended}
use Rattle.cts_framing.proofs.Fronts.{not_lt_tells}
use Rattle.cts_framing.proofs.LengthSteady.{or_tells}
use Rattle.cts_encode.specs.declared.encode_fault.EncodeFault.{EncodeFault}
use Rattle.cts_encode.specs.declared.encode_fault.EncodeFault.TheVariants.{HoldsTermination, NoPlace, LengthTooLarge, Memory}

pub over_length : (s e : List ℕ) → nat_lt (length e) (length s) ≡ false → length (over_first s e) ≡ length e
over_length s e h = omega (arith, not_lt_tells (length e) (length s) h, length-append s (drop (length s) e), length-drop (length s) e)

module _ (p : PlaceData) (v : ℤ) (n d : ℕ) (s : List ℕ) (m : Option ℕ) (h : Heading) (b old put new : List ℕ) (start : ℕ) (start_is : start ≡ length old) (put_is : put ≡ old ++ ended (Length (length_row p v n d s m true)) b) where
  total_is : length put - start ≡ length (ended (Length (length_row p v n d s m true)) b)
  total_is = omega (arith, ap length put_is, length-append old (ended (Length (length_row p v n d s m true)) b), start_is)

  front_is : take start put ≡ old
  front_is = ap (take start) put_is ∙ take_at old (ended (Length (length_row p v n d s m true)) b) start (sym start_is)

  back_is : drop start put ≡ ended (Length (length_row p v n d s m true)) b
  back_is = ap (drop start) put_is ∙ drop_at old (ended (Length (length_row p v n d s m true)) b) start (sym start_is)

  pub counted_err : (fault : EncodeFault) → CountsFor (length_row p v n d s m true) (length put - start) (Err fault) → new ≡ take start put
      → Encodes (Length (length_row p v n d s m true)) h b old new (Err fault)
  counted_err HoldsTermination c e = absurd c
  counted_err Memory c e = absurd c
  counted_err NoPlace c e =
      let k : lacks_place (length_row p v n d s m true) (length (ended (Length (length_row p v n d s m true)) b)) ≡ true = subst (λ t. lacks_place (length_row p v n d s m true) t ≡ true) total_is c in
      (rw k refl, e ∙ front_is)
  counted_err LengthTooLarge c e =
      let l : LengthData = length_row p v n d s m true in
      let k : lacks_place l (length (ended (Length l) b)) ≡ false = subst (λ t. lacks_place l t ≡ false) total_is c.0 in
      let g : (is_large l (count_of l (length (ended (Length l) b))) || nat_lt frame_limit (length (ended (Length l) b))) ≡ true =
      subst (λ t. (is_large l (count_of l t) || nat_lt frame_limit t) ≡ true) total_is c.1 in
      (rw (k, g) refl, e ∙ front_is)

  pub counted_ok : (count : ℕ) (over : List ℕ) → CountsFor (length_row p v n d s m true) (length put - start) (Ok count)
      → over ≡ take start put ++ over_first s (drop start put) → take start new ≡ take start over → HasField p count (drop start over) (drop start new)
      → Encodes (Length (length_row p v n d s m true)) h b old new (Ok tt)
  counted_ok count over c o f g =
      let l : LengthData = length_row p v n d s m true in
      let e : List ℕ = ended (Length l) b in
      let k : lacks_place l (length e) ≡ false = subst (λ t. lacks_place l t ≡ false) total_is c.0 in
      let count_is : count_of l (length e) ≡ Some count = subst (λ t. count_of l t ≡ Some count) total_is c.1 in
      let within : nat_lt frame_limit (length e) ≡ false = subst (λ t. nat_lt frame_limit t ≡ false) total_is c.4 in
      let over_is : over ≡ old ++ over_first s e = o ∙ (ap (λ t. t ++ over_first s (drop start put)) front_is ∙ ap (λ t. old ++ over_first s t) back_is) in
      let new_is : new ≡ old ++ drop start new = sym (take-append-drop start new) ∙ ap (λ t. t ++ drop start new) (f ∙ (ap (take start) over_is ∙ take_at old (over_first s e) start (sym start_is))) in
      let at : drop start over ≡ over_first s e = ap (drop start) over_is ∙ drop_at old (over_first s e) start (sym start_is) in
      let same : length (over_first s e) ≡ length e = over_length s e (or_tells (nat_lt (length e) (length s)) (has_no_count l (length e)) k).0 in
      let counted : HasCount l (count_of l (length (over_first s e))) (over_first s e) (drop start new) =
      subst (λ (o : Option ℕ). HasCount l o (over_first s e) (drop start new)) (sym (ap (count_of l) same ∙ count_is)) (subst (λ t. HasField p count t (drop start new)) at g) in
      (rw (k, count_is, c.2, within) refl, (drop start new, new_is, counted))
