-- What the puts of several texts leave, one after another.
use Rattle.std.proofs.Common.{◌≡◌, ◌≢◌, ℕ, ◌+◌, Bool, true, false, List, [], ◌∷◌, ◌++◌, length, take, Result, Ok, Err, refl, sym, ◌∙◌, ap, subst, arith}
use Rattle.std.specs.Prelude.{is_ok}
use Rattle.std.proofs.Math.Seq.{take-append-add, take-length}
use Rattle.std.proofs.lemmas.List.{take-append-le}
use Rattle.cts_outside.proofs.Putting.{part_first, part_then, whole_then}
use Rattle.cts_outside.specs.Causes.{Rose, Steady}
use Rattle.cts_outside.specs.Contents.{appended}
use Rattle.cts_outside.specs.Seen.{SinkSeen}
use Rattle.cts_run.specs.Acts.{TakesNoMemory}
use Rattle.cts_run.specs.Putting.{FailsWithin, IsPut, Printed, PutsText}
use Rattle.cts_run.specs.declared.putting.Undone.{Undone}
use Rattle.cts_run.specs.declared.putting.Undone.TheVariants as undone
use Rattle.cts_serve.specs.Served.{PutsWhole}

-- ---- two texts

not_empty : (xs ys : List ℕ) → ys ≢ [] → xs ++ ys ≢ []
not_empty [] ys n = n
not_empty (x ∷ xs) ys n = λ e. absurd (cc e)

not_empty_first : (xs ys : List ℕ) → xs ≢ [] → xs ++ ys ≢ []
not_empty_first [] ys n = λ e. absurd (n refl)
not_empty_first (x ∷ xs) ys n = λ e. absurd (cc e)

rose_after : (old mid new : SinkSeen) → mid.faults ≡ old.faults → Rose mid.faults new.faults → Rose old.faults new.faults
rose_after old mid new e r = subst (λ (n : ℕ). Rose n new.faults) e r

-- a text was put, and then another, or a put failed within that
pub whole_after : (xs ys : List ℕ) (is : Bool) (old mid new : SinkSeen) → IsPut xs old mid → PutsWhole ys is mid new → PutsWhole (xs ++ ys) is old new
whole_after xs ys true old mid new p q = (q.0 ∙ p.0, whole_then old.told mid.told new.told xs ys p.1 q.1)
whole_after xs ys false old mid new p q = (rose_after old mid new p.0 q.0, not_empty xs ys q.1, part_then old.told mid.told new.told xs ys p.1 q.2)

-- a put failed within the first
pub fails_before : (xs ys : List ℕ) (old new : SinkSeen) → FailsWithin xs old new → FailsWithin (xs ++ ys) old new
fails_before xs ys old new q = (q.0, not_empty_first xs ys q.1, part_first old.told new.told xs ys q.2)

pub whole_of : (xs : List ℕ) (result : Result (Unit {0}) Undone) (is : Bool) (old new : SinkSeen) → is ≡ is_ok result → TakesNoMemory result
    → PutsText xs result old new → PutsWhole xs is old new
whole_of xs (Ok done) is old new e m q = subst (λ (b : Bool). PutsWhole xs b old new) (sym e) q
whole_of xs (Err undone.WriteFault) is old new e m q = subst (λ (b : Bool). PutsWhole xs b old new) (sym e) q
whole_of xs (Err undone.LogFault) is old new e m q = absurd q
whole_of xs (Err undone.Memory) is old new e m q = absurd m

-- ---- what is printed

pub printed_after : (xs ys : List ℕ) (old mid new : SinkSeen) → IsPut xs old mid → Printed mid new ys → Printed old new (xs ++ ys)
printed_after xs ys old mid new p q = record {
  later = omega (arith, p.0, q.later);
  count = length xs + q.count;
  part = whole_then old.told mid.told new.told xs (take q.count ys) p.1 q.part ∙ ap (appended old.told) (sym (take-append-add xs ys q.count));
  whole = λ steady. whole_then old.told mid.told new.told xs ys p.1 (q.whole (subst (λ (n : ℕ). Steady n new.faults) (sym p.0) steady));
}

pub printed_part : (xs ys : List ℕ) (old new : SinkSeen) → FailsWithin xs old new → Printed old new (xs ++ ys)
printed_part xs ys old new f = record {
  later = f.0.0;
  count = f.2.0;
  part = f.2.2 ∙ ap (appended old.told) (sym (take-append-le f.2.0 xs ys f.2.1));
  whole = λ steady. absurd (omega (arith, steady, f.0.1));
}

pub printed_of : (xs : List ℕ) (is : Bool) (old new : SinkSeen) → PutsWhole xs is old new → Printed old new xs
printed_of xs true old new p = record {
  later = omega (arith, p.0);
  count = length xs;
  part = p.1 ∙ ap (appended old.told)
      (sym (take-length xs));
  whole = λ steady. p.1;
}
printed_of xs false old new f = record { later = f.0.0; count = f.2.0; part = f.2.2; whole = λ steady. absurd (omega (arith, steady, f.0.1)) }
