-- Dumps of several files: each has one, and how what is done of a file goes on with those after it.
use Rattle.std.proofs.Common.{◌≡◌, ℕ, ◌+◌, ◌≤◌, List, [], ◌∷◌, ◌++◌, length, take, true, false, Option, Some, None, IfSome, MatchOption, Result, Ok, Err, inl, inr, refl, sym, ◌∙◌, ap, subst, arith}
use Rattle.std.specs.Prelude.{IfOk, min, nat_lt}
use Rattle.std.proofs.Math.Seq.{take-append-add}
use Rattle.std.proofs.lemmas.Bool.Decides.{nat_tests}
use Rattle.std.proofs.lemmas.List.{nil_from_length, take_min}
use Rattle.cts_framing.specs.Patterns.{begins}
use Rattle.cts_log.specs.Files.{log_head_len}
use Rattle.cts_outside.specs.Seen.{SinkSeen}
use Rattle.cts_run.specs.Acts.{Act, AreDone, Outside, is_kept, is_put}
use Rattle.cts_run.specs.Command.{DoesOf, Dumps, DumpsFile}
use Rattle.cts_run.specs.Dump.{AreDumped, GoesOn, IsDump, IsFileDump, IsReadAfter, PutsFile, PutsLog, head_after, log_phase, other_head}
use Rattle.cts_run.specs.Load.{bytes_of}
use Rattle.cts_run.specs.Load.Files.{GivesBytes, log_limit, within}
use Rattle.cts_run.specs.Phases.{HaltsAt, file_halt}
use Rattle.cts_run.specs.Putting.{HaltFaults, SinkCounts}
use Rattle.cts_run.specs.declared.halt.Halt.{Halt}
use Rattle.cts_run.specs.declared.halt.Halt.TheVariants as halt
use Rattle.cts_run.proofs.ActLemmas.{all_then, done_front, fails_first, rose_from, wants_first}
use Rattle.cts_run.proofs.DumpLemmas.{some_dump}

-- acts and an end of which this holds
abbrev Ended : (List Act → Result (Unit {0}) Halt → Type 0) → Type 0
Ended done = (acts : List Act) × (due : Result (Unit {0}) Halt) × done acts due

-- what is due of a file that has this reason to be refused, or none
abbrev pub IsFileDue : List ℕ → Option Halt → List Act → Result (Unit {0}) Halt → Type 0
IsFileDue file other acts due = MatchOption other (IsDump file acts due) (λ x. (acts ≡ []) × (due ≡ Err x))

pub same_head : (head file : List ℕ) → begins head file ≡ true → other_head head file ≡ None
same_head head file e = rw e refl

pub another_head : (head file : List ℕ) → begins head file ≡ false → other_head head file ≡ Some (halt.LogRefused 0)
another_head head file e = rw e refl

-- ---- each file has a dump, and so have several

some_by : (h : Option Halt) (done : List Act → Result (Unit {0}) Halt → Type 0) → Ended done → Ended (λ acts due. MatchOption h (done acts due) (λ x. (acts ≡ []) × (due ≡ Err x)))
some_by (Some h) done some = ([], Err h, (refl, refl))
some_by None done some = some

module _ (files : List ℕ → Option (List ℕ)) where
  pub some_file : (head log : List ℕ) → Ended (IsFileDump files head log)
  some_file head log = some_by (log_phase files head log).halts (IsDump (bytes_of (files log))) (some_dump (bytes_of (files log)))

  goes_some : (ended : Result (Unit {0}) Halt) (next : List Act → Result (Unit {0}) Halt → Type 0) (own : List Act) → Ended next → Ended (GoesOn ended next own)
  goes_some (Ok done) next own some = (own ++ some.0, some.1, (some.0, some.2, refl))
  goes_some (Err h) next own some = (own, Err h, (refl, refl))

  pub some_dumped : (head : List ℕ) (logs : List (List ℕ)) → Ended (AreDumped files head logs)
  some_dumped head [] = ([], Ok tt, (refl, refl))
  some_dumped head (log ∷ logs) =
      let after = head_after head (bytes_of (files log)) in
      let one = some_file head log in
      let all = goes_some one.1 (AreDumped files after logs) one.0 (some_dumped after logs) in
      (all.0, all.1, (one.0, one.1, one.2, all.2))

  -- ---- a file that was read

  within_small : (halts : Halt) (judges : List ℕ → Option Halt) (file : List ℕ) → length file ≤ log_limit → within log_limit halts judges file ≡ judges file
  within_small halts judges file h = let small : nat_lt log_limit (length file) ≡ false = grind (arith, nat_tests, h) in rw small refl

  pub halts_as_read : (head log file : List ℕ) → files log ≡ Some file → length file ≤ log_limit → (log_phase files head log).halts ≡ other_head head file
  halts_as_read head log file e h =
      ap (file_halt log (within log_limit (halt.LogRefused log_limit) (other_head head))) e ∙ within_small (halt.LogRefused log_limit) (other_head head) file h

  pub file_dumped : (head log file : List ℕ) (acts : List Act) (due : Result (Unit {0}) Halt) → files log ≡ Some file → length file ≤ log_limit
      → IsFileDue file (other_head head file) acts due → IsFileDump files head log acts due
  file_dumped head log file acts due e h m =
      subst (λ (o : Option Halt). IsFileDue (bytes_of (files log)) o acts due) (sym (halts_as_read head log file e h))
      (subst (λ (f : Option (List ℕ)). IsFileDue (bytes_of f) (other_head head file) acts due) (sym e) m)

  -- ---- a file that was not read

  file_halts : (head log : List ℕ) (h : Halt) → (log_phase files head log).halts ≡ Some h → IsFileDump files head log [] (Err h)
  file_halts head log h e = subst (λ (o : Option Halt). IsFileDue (bytes_of (files log)) o [] (Err h)) (sym e) (refl, refl)

  same_name : (a b : List ℕ) → Some a ≡ Some b → a ≡ b
  same_name a b e = cc e

  pub file_fails : (head log : List ℕ) (h : Halt) (o : Outside) → HaltsAt (log_phase files head log) h → DumpsFile files head log (Err h) o o
  file_fails head log halt.Memory o k = let d = some_file head log in record { acts = d.0; due = d.1; is = d.2; does = (0, refl) }
  file_fails head log (halt.ReadFault name) o k = let d = some_file head log in record { acts = d.0; due = d.1; is = d.2; does = (0, (refl, same_name log name k), refl) }
  file_fails head log (halt.Absent name) o k = record { acts = []; due = Err (halt.Absent name); is = file_halts head log (halt.Absent name) k; does = (refl, refl) }
  file_fails head log halt.WriteFault o k = absurd k
  file_fails head log halt.LogFault o k = absurd k
  file_fails head log (halt.Refused name kind line cause) o k = record { acts = []; due = Err (halt.Refused name kind line cause); is = file_halts head log (halt.Refused name kind line cause) k; does = (refl, refl) }
  file_fails head log (halt.ShelfEmpty kind needed stocked) o k = record { acts = []; due = Err (halt.ShelfEmpty kind needed stocked); is = file_halts head log (halt.ShelfEmpty kind needed stocked) k; does = (refl, refl) }
  file_fails head log (halt.HistoryFull entries bytes) o k = record { acts = []; due = Err (halt.HistoryFull entries bytes); is = file_halts head log (halt.HistoryFull entries bytes) k; does = (refl, refl) }
  file_fails head log (halt.LogRefused place) o k = record { acts = []; due = Err (halt.LogRefused place); is = file_halts head log (halt.LogRefused place) k; does = (refl, refl) }
  file_fails head log (halt.UnknownName name) o k = record { acts = []; due = Err (halt.UnknownName name); is = file_halts head log (halt.UnknownName name) k; does = (refl, refl) }
  file_fails head log (halt.HubRefused cause) o k = record { acts = []; due = Err (halt.HubRefused cause); is = file_halts head log (halt.HubRefused cause) k; does = (refl, refl) }
  file_fails head log halt.Misused o k = record { acts = []; due = Err halt.Misused; is = file_halts head log halt.Misused k; does = (refl, refl) }

  -- ---- no file, a file that ended well and those after it, and one that did not

  pub dumps_none : (head : List ℕ) (o : Outside) → Dumps files head [] (Ok tt) o o
  dumps_none head o = record { acts = []; due = Ok tt; is = (refl, refl); does = (refl, refl) }

  module _ (head log : List ℕ) (logs : List (List ℕ)) where
    abbrev after : List ℕ
    after = head_after head (bytes_of (files log))

    abbrev Reads : List Act → List ℕ → Type 0
    Reads = IsReadAfter files head (log ∷ logs)

    read_then : (xs ys : List Act) (n : ℕ) (name : List ℕ) → IsFileDump files head log xs (Ok tt) → IsReadAfter files after logs (take n ys) name → Reads (take (length xs + n) (xs ++ ys)) name
    read_then xs ys n name f r = subst (λ (t : List Act). Reads t name) (sym (take-append-add xs ys n)) (inr (xs, take n ys, f, r, refl))

    does_then : (old mid new : Outside) (xs ys : List Act) (due answer : Result (Unit {0}) Halt) → IsFileDump files head log xs (Ok tt) → AreDone xs old mid → DoesOf (IsReadAfter files after logs) ys due answer mid new
        → DoesOf Reads (xs ++ ys) due answer old new
    does_then old mid new xs ys due (Ok done) f d k = all_then old mid new xs ys due (Ok done) d k
    does_then old mid new xs ys due (Err halt.Memory) f d k = all_then old mid new xs ys due (Err halt.Memory) d k
    does_then old mid new xs ys due (Err (halt.ReadFault name)) f d k = (length xs + k.0, read_then xs ys k.0 name f k.1, done_front old mid new xs ys k.0 d k.2)
    does_then old mid new xs ys due (Err (halt.Absent name)) f d k = all_then old mid new xs ys due (Err (halt.Absent name)) d k
    does_then old mid new xs ys due (Err halt.WriteFault) f d k = all_then old mid new xs ys due (Err halt.WriteFault) d k
    does_then old mid new xs ys due (Err halt.LogFault) f d k = all_then old mid new xs ys due (Err halt.LogFault) d k
    does_then old mid new xs ys due (Err (halt.Refused name kind line cause)) f d k = all_then old mid new xs ys due (Err (halt.Refused name kind line cause)) d k
    does_then old mid new xs ys due (Err (halt.ShelfEmpty kind needed stocked)) f d k = all_then old mid new xs ys due (Err (halt.ShelfEmpty kind needed stocked)) d k
    does_then old mid new xs ys due (Err (halt.HistoryFull entries bytes)) f d k = all_then old mid new xs ys due (Err (halt.HistoryFull entries bytes)) d k
    does_then old mid new xs ys due (Err (halt.LogRefused place)) f d k = all_then old mid new xs ys due (Err (halt.LogRefused place)) d k
    does_then old mid new xs ys due (Err (halt.UnknownName name)) f d k = all_then old mid new xs ys due (Err (halt.UnknownName name)) d k
    does_then old mid new xs ys due (Err (halt.HubRefused cause)) f d k = all_then old mid new xs ys due (Err (halt.HubRefused cause)) d k
    does_then old mid new xs ys due (Err halt.Misused) f d k = all_then old mid new xs ys due (Err halt.Misused) d k

    pub dumps_then : (answer : Result (Unit {0}) Halt) (old mid new : Outside) → DumpsFile files head log (Ok tt) old mid → Dumps files after logs answer mid new → Dumps files head (log ∷ logs) answer old new
    dumps_then answer old mid new f k =
        let whole : IsFileDump files head log f.acts (Ok tt) = subst (IsFileDump files head log f.acts) (sym f.does.0) f.is in
        record { acts = f.acts ++ k.acts; due = k.due; is = (f.acts, Ok tt, whole, (k.acts, k.is, refl)); does = does_then old mid new f.acts k.acts k.due answer whole f.does.1 k.does }

    -- what is done of the first file, where that is all
    abbrev Own : List Act → List ℕ → Type 0
    Own before name = (before ≡ []) × (log ≡ name)

    does_own : (acts : List Act) (due answer : Result (Unit {0}) Halt) (old new : Outside) → DoesOf Own acts due answer old new → DoesOf Reads acts due answer old new
    does_own acts due (Ok done) old new k = k
    does_own acts due (Err halt.Memory) old new k = k
    does_own acts due (Err (halt.ReadFault name)) old new k = (k.0, inl k.1, k.2)
    does_own acts due (Err (halt.Absent name)) old new k = k
    does_own acts due (Err halt.WriteFault) old new k = k
    does_own acts due (Err halt.LogFault) old new k = k
    does_own acts due (Err (halt.Refused name kind line cause)) old new k = k
    does_own acts due (Err (halt.ShelfEmpty kind needed stocked)) old new k = k
    does_own acts due (Err (halt.HistoryFull entries bytes)) old new k = k
    does_own acts due (Err (halt.LogRefused place)) old new k = k
    does_own acts due (Err (halt.UnknownName name)) old new k = k
    does_own acts due (Err (halt.HubRefused cause)) old new k = k
    does_own acts due (Err halt.Misused) old new k = k

    -- and where more would have been done, had it been done
    abbrev halted : Halt → Result (Unit {0}) Halt
    halted h = Err h

    never : {A : Type 0} (h : Halt) → halted h ≡ Ok tt → A
    never h e = absurd (cc e)

    does_less : (acts more : List Act) (due : Result (Unit {0}) Halt) (h : Halt) (old new : Outside) → DoesOf Own acts (Ok tt) (Err h) old new → DoesOf Reads (acts ++ more) due (Err h) old new
    does_less acts more due halt.Memory old new k = wants_first old new acts more k
    does_less acts more due (halt.ReadFault name) old new k = (0, inl (refl, k.1.1), subst (λ (t : List Act). AreDone t old new) k.1.0 k.2)
    does_less acts more due (halt.Absent name) old new k = never (halt.Absent name) k.0
    does_less acts more due halt.WriteFault old new k = fails_first is_put old new acts more k
    does_less acts more due halt.LogFault old new k = fails_first is_kept old new acts more k
    does_less acts more due (halt.Refused name kind line cause) old new k = never (halt.Refused name kind line cause) k.0
    does_less acts more due (halt.ShelfEmpty kind needed stocked) old new k = never (halt.ShelfEmpty kind needed stocked) k.0
    does_less acts more due (halt.HistoryFull entries bytes) old new k = never (halt.HistoryFull entries bytes) k.0
    does_less acts more due (halt.LogRefused place) old new k = never (halt.LogRefused place) k.0
    does_less acts more due (halt.UnknownName name) old new k = never (halt.UnknownName name) k.0
    does_less acts more due (halt.HubRefused cause) old new k = never (halt.HubRefused cause) k.0
    does_less acts more due halt.Misused old new k = never halt.Misused k.0

    first_by : (acts : List Act) (due : Result (Unit {0}) Halt) (h : Halt) (old new : Outside) → IsFileDump files head log acts due → DoesOf Own acts due (Err h) old new → Dumps files head (log ∷ logs) (Err h) old new
    first_by acts (Err w) h old new f k = record { acts = acts; due = Err w; is = (acts, Err w, f, (refl, refl)); does = does_own acts (Err w) (Err h) old new k }
    first_by acts (Ok done) h old new f k =
        let rest = some_dumped after logs in
        record { acts = acts ++ rest.0; due = rest.1; is = (acts, Ok tt, f, (rest.0, rest.2, refl)); does = does_less acts rest.0 rest.1 h old new k }

    pub dumps_first : (h : Halt) (old new : Outside) → DumpsFile files head log (Err h) old new → Dumps files head (log ∷ logs) (Err h) old new
    dumps_first h old new f = first_by f.acts f.due h old new f.is f.does

-- ---- the bytes of a file

pub file_puts : (head file : List ℕ) (answer : Result (Unit {0}) Halt) (old new : Outside) → begins head file ≡ true → PutsLog file answer old new → PutsFile head file answer old new
file_puts head file answer old new b p = record { acts = p.acts; due = p.due; is = subst (λ (o : Option Halt). IsFileDue file o p.acts p.due) (sym (same_head head file b)) p.is; does = p.does }

pub file_wants : (head file : List ℕ) (o : Outside) → PutsFile head file (Err halt.Memory) o o
file_wants head file o = let d = some_by (other_head head file) (IsDump file) (some_dump file) in record { acts = d.0; due = d.1; is = d.2; does = (0, refl) }

pub file_other : (head file : List ℕ) (o : Outside) → begins head file ≡ false → PutsFile head file (Err (halt.LogRefused 0)) o o
file_other head file o b = record {
  acts = [];
  due = Err (halt.LogRefused 0);
  is = subst (λ (x : Option Halt). IsFileDue file x [] (Err (halt.LogRefused 0))) (sym (another_head head file b)) (refl, refl);
  does = (refl, refl);
}

-- ---- what later files have to begin with

head_of_first : (head file begun : List ℕ) (n : ℕ) → head ≡ [] → n ≡ min log_head_len (length file) → begun ≡ take n file → begun ≡ head_after head file
head_of_first [] file begun n none e t = t ∙ (ap (λ (m : ℕ). take m file) e ∙ take_min log_head_len file)
head_of_first (c ∷ head) file begun n none e t = absurd (cc none)

pub head_copied : {E : Type 0} (head file : List ℕ) (n : ℕ) (answer : Result (List ℕ) E) → length head ≡ 0 → n ≡ min log_head_len (length file) → IfOk answer (λ b. b ≡ take n file) → IfOk answer (λ b. b ≡ head_after head file)
head_copied head file n (Ok begun) none e t = head_of_first head file begun n (nil_from_length head none) e t
head_copied head file n (Err x) none e t = tt

-- ---- the same where files tell their content

pub told_fails : (told : Option (List ℕ → Option (List ℕ))) (head log : List ℕ) (h : Halt) (o : Outside)
    → IfSome told (λ all. GivesBytes log_limit (halt.LogRefused log_limit) log (all log) (Err h)) → IfSome told (λ all. DumpsFile all head log (Err h) o o)
told_fails None head log h o k = tt
told_fails (Some all) head log h o k = file_fails all head log h o (k (other_head head))

pub told_none : (told : Option (List ℕ → Option (List ℕ))) (head : List ℕ) (o : Outside) → IfSome told (λ all. Dumps all head [] (Ok tt) o o)
told_none None head o = tt
told_none (Some all) head o = dumps_none all head o

pub told_first : (told : Option (List ℕ → Option (List ℕ))) (head log : List ℕ) (logs : List (List ℕ)) (h : Halt) (old new : Outside)
    → IfSome told (λ all. DumpsFile all head log (Err h) old new) → IfSome told (λ all. Dumps all head (log ∷ logs) (Err h) old new)
told_first None head log logs h old new f = tt
told_first (Some all) head log logs h old new f = dumps_first all head log logs h old new f

pub told_then : (told second : Option (List ℕ → Option (List ℕ))) (head log next : List ℕ) (logs : List (List ℕ)) (answer : Result (Unit {0}) Halt) (old mid new : Outside) → second ≡ told
    → IfSome told (λ all. DumpsFile all head log (Ok tt) old mid) → IfSome told (λ all. next ≡ head_after head (bytes_of (all log)))
    → IfSome second (λ all. Dumps all next logs answer mid new) → IfSome told (λ all. Dumps all head (log ∷ logs) answer old new)
told_then None second head log next logs answer old mid new same f e k = tt
told_then (Some all) second head log next logs answer old mid new same f e k =
    let k' = subst (λ (t : Option (List ℕ → Option (List ℕ))). IfSome t (λ a. Dumps a next logs answer mid new)) same k in
    dumps_then all head log logs answer old mid new f (subst (λ (t : List ℕ). Dumps all t logs answer mid new) e k')

pub told_head : (told : Option (List ℕ → Option (List ℕ))) (head log file b : List ℕ) → IfSome told (λ all. GivesBytes log_limit (halt.LogRefused log_limit) log (all log) (Ok file)) → b ≡ head_after head file
    → IfSome told (λ all. b ≡ head_after head (bytes_of (all log)))
told_head None head log file b k e = tt
told_head (Some all) head log file b k e = e ∙ ap (λ (f : Option (List ℕ)). head_after head (bytes_of f)) (sym k.0)

-- ---- the count of a sink, after puts that went well

pub sink_after : {T : Type 0} (answer : Result T Halt) (old mid new : SinkSeen) → mid.faults ≡ old.faults → SinkCounts answer mid new → SinkCounts answer old new
sink_after (Ok x) old mid new e k = k ∙ e
sink_after (Err h) old mid new e k = by_halt h k
  where
    by_halt : (h : Halt) → HaltFaults h mid new → HaltFaults h old new
    by_halt halt.Memory k = k ∙ e
    by_halt (halt.ReadFault name) k = k ∙ e
    by_halt (halt.Absent name) k = k ∙ e
    by_halt halt.WriteFault k = rose_from mid.faults old.faults new.faults e k
    by_halt halt.LogFault k = k ∙ e
    by_halt (halt.Refused name kind line cause) k = k ∙ e
    by_halt (halt.ShelfEmpty kind needed stocked) k = k ∙ e
    by_halt (halt.HistoryFull entries bytes) k = k ∙ e
    by_halt (halt.LogRefused place) k = k ∙ e
    by_halt (halt.UnknownName name) k = k ∙ e
    by_halt (halt.HubRefused cause) k = k ∙ e
    by_halt halt.Misused k = k ∙ e
