-- The count of faults rises with the faults that are told.
use Rattle.std.proofs.Common.{◌≡◌, ℕ, ◌+◌, ◌≤◌, List, [], ◌∷◌, ◌++◌, length, take, sym, ap, subst, append-nil, arith, Option, Some, None, Result, Ok, Err}
use Rattle.std.specs.Prelude.{option_map, option_to_list}
use Rattle.cts_outside.specs.Causes.{Cause, Rose, TakeCause}
use Rattle.cts_outside.specs.Lines.{Connection, Line, told_after, at_now, with_put, with_failed_put, after_take, after_dial, hung_up, fresh, LinkPuts}
use Rattle.cts_outside.specs.Seen.{LineSeen}
use Rattle.cts_outside.specs.declared.link.Taken.{Taken}
use Rattle.cts_outside.specs.declared.link.Taken.TheVariants.{Got, Nothing, End, Failed}
use Rattle.cts_outside.specs.declared.link.Dialed.{Dialed}
use Rattle.cts_outside.specs.declared.link.Dialed.TheVariants.{Linked, Later, Finished, Failed as DialFailed}
use Rattle.cts_desk.specs.Faults.{faults_of, faults_in, faults_told, FaultsRise}
use Rattle.cts_worker.specs.Counts.{RoseBy}

-- ---- counts

pub rise_then : (a b c : LineSeen) → FaultsRise a b → FaultsRise b c → FaultsRise a c
rise_then a b c r s = let w = r.0 in let x = r.1 in let y = s.0 in let z = s.1 in (omega (arith, w, y), omega (arith, w, x, y, z))

rise_by : (k : ℕ) (old new : LineSeen) → faults_told new.told ≤ faults_told old.told + k → RoseBy k old.faults new.faults → FaultsRise old new
rise_by k old new le r = let x = r.0 in let y = r.1 in (omega (arith, x), omega (arith, le, x, y))

-- nothing is told beyond what was
stays : (old new : LineSeen) → faults_told new.told ≤ faults_told old.told → new.faults ≡ old.faults → FaultsRise old new
stays old new le same = (omega (arith, same), omega (arith, le, same))

pub rise_same : (seen : LineSeen) → FaultsRise seen seen
rise_same seen = (omega arith, omega arith)

-- ---- what is told

in_append : (cs ds : List Connection) → faults_in (cs ++ ds) ≡ faults_in cs + faults_in ds
unfolding faults_in
in_append [] ds = omega arith
in_append (c ∷ cs) ds = let e = in_append cs ds in omega (arith, e)

module _ (f : Connection → Connection) (k : ℕ) (le : (c : Connection) → faults_of (f c) ≤ faults_of c + k) where
  now_more : (o : Option Connection) → faults_in (option_to_list (option_map f o)) ≤ faults_in (option_to_list o) + k
  unfolding faults_in
  now_more None = omega arith
  now_more (Some c) = let l = le c in omega (arith, l)

  told_more : (o : Option Line) → faults_told (told_after (at_now f) o) ≤ faults_told o + k
  unfolding faults_told
  told_more None = omega arith
  told_more (Some line) =
      let a = in_append line.past (option_to_list (option_map f line.now)) in
      let b = in_append line.past (option_to_list line.now) in
      let c = now_more line.now in omega (arith, a, b, c)

-- a call that acts on the connection that stands, and after which at most `k` faults more are told of it
acts : (f : Connection → Connection) (k : ℕ) → ((c : Connection) → faults_of (f c) ≤ faults_of c + k) → (old new : LineSeen) → new.told ≡ told_after (at_now f) old.told → RoseBy k old.faults new.faults → FaultsRise old new
acts f k le old new e r = rise_by k old new (subst (λ o. faults_told o ≤ faults_told old.told + k) (sym e) (told_more f k le old.told)) r

rose_none : (a b : ℕ) → b ≡ a → RoseBy 0 a b
rose_none a b e = (omega (arith, e), omega (arith, e))

-- ---- the calls of a door

pub whole_rises : (bytes : List ℕ) (old new : LineSeen) → new.told ≡ told_after (at_now (with_put bytes)) old.told → new.faults ≡ old.faults → FaultsRise old new
whole_rises bytes old new puts same = acts (with_put bytes) 0 (λ c. omega arith) old new puts (rose_none old.faults new.faults same)

pub part_rises : (bytes : List ℕ) (old new : LineSeen) → (n : ℕ) × (n ≤ length bytes) × (new.told ≡ told_after (at_now (with_failed_put (take n bytes))) old.told) → Rose old.faults new.faults → FaultsRise old new
part_rises bytes old new puts rose = acts (with_failed_put (take puts.0 bytes)) 1 (λ c. omega arith) old new puts.2 rose

pub put_rises : {T E : Type 0} (bytes : List ℕ) (old new : LineSeen) (result : Result T E) → LinkPuts old.told new.told bytes result → Cause result old.faults new.faults → FaultsRise old new
put_rises bytes old new (Ok u) puts same = whole_rises bytes old new puts same
put_rises bytes old new (Err e) puts rose = part_rises bytes old new puts rose

pub take_rises : (result : Taken) (buffer : List ℕ) (old new : LineSeen) → new.told ≡ told_after (at_now (after_take result buffer)) old.told → TakeCause result old.faults new.faults → FaultsRise old new
take_rises (Got n) buffer old new e same = acts (after_take (Got n) buffer) 0 (λ c. omega arith) old new e (rose_none old.faults new.faults same)
take_rises Nothing buffer old new e same = acts (after_take Nothing buffer) 0 (λ c. omega arith) old new e (rose_none old.faults new.faults same)
take_rises End buffer old new e same = acts (after_take End buffer) 0 (λ c. omega arith) old new e (rose_none old.faults new.faults same)
take_rises Failed buffer old new e rose = acts (after_take Failed buffer) 1 (λ c. omega arith) old new e rose

dial_tells : (result : Dialed) (o : Option Line) → faults_told (told_after (after_dial result) o) ≤ faults_told o
unfolding faults_told faults_in
dial_tells result None = omega arith
dial_tells Linked (Some line) =
    let a = in_append line.past (fresh ∷ []) in
    let b = in_append line.past (option_to_list line.now) in omega (arith, a, b)
dial_tells Later (Some line) = omega arith
dial_tells Finished (Some line) = omega arith
dial_tells DialFailed (Some line) = omega arith

pub dial_rises : (result : Dialed) (old new : LineSeen) → new.told ≡ told_after (after_dial result) old.told → new.faults ≡ old.faults → FaultsRise old new
dial_rises result old new e same = stays old new (subst (λ o. faults_told o ≤ faults_told old.told) (sym e) (dial_tells result old.told)) same

hang_tells : (o : Option Line) → faults_told (told_after hung_up o) ≤ faults_told o
unfolding faults_told
hang_tells None = omega arith
hang_tells (Some line) = let e = ap faults_in (append-nil (line.past ++ option_to_list line.now)) in omega (arith, e)

pub hang_rises : (old new : LineSeen) → new.told ≡ told_after hung_up old.told → new.faults ≡ old.faults → FaultsRise old new
hang_rises old new e same = stays old new (subst (λ o. faults_told o ≤ faults_told old.told) (sym e) (hang_tells old.told)) same
