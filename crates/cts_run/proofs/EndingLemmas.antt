-- What a put of a last line leaves, and the status that comes with it.
use Rattle.std.proofs.Common.{◌≡◌, ◌≢◌, ℕ, zero, suc, ◌≤◌, true, List, [], ◌∷◌, length, take, Result, Ok, Err, refl, sym, ◌∙◌, ap, subst, arith, inl, inr}
use Rattle.std.proofs.Math.Seq.{take-length}
use Rattle.cts_outside.specs.Causes.{Cause}
use Rattle.cts_outside.specs.Contents.{appended, Puts}
use Rattle.cts_outside.specs.Seen.{FilesSeen, SinkSeen, VaultSeen}
use Rattle.cts_outside.proofs.Putting.{appended-nil}
use Rattle.cts_run.specs.Acts.{Act, Append, AreDone, EndsWith, Fails, Outside, Put, PutFails, Sync, after_acts, is_put}
use Rattle.cts_run.specs.Command.{IsCaused, IsLater}
use Rattle.cts_run.specs.Endings.{Ends, halt_status, refused_as}
use Rattle.cts_run.specs.Lines.{usage_line}
use Rattle.cts_run.specs.Phases.{FileCounts, HaltCounts, IsFound}
use Rattle.cts_run.specs.Putting.{HaltFaults, HaltLogs, Printed, SinkCounts, VaultCounts}
use Rattle.cts_run.specs.declared.halt.Halt.{Halt}
use Rattle.cts_run.specs.declared.halt.Halt.TheVariants as halt
use Rattle.cts_run.specs.declared.halt.file_kind.FileKind.{FileKind}
use Rattle.cts_run.specs.declared.halt.file_kind.FileKind.TheVariants.{Configuration, Script}
use Rattle.cts_run.specs.declared.halt.status.Status.{Status}
use Rattle.cts_run.specs.declared.halt.status.Status.TheVariants as is

pub put_printed : {T E : Type 0} (old new : SinkSeen) (line : List ℕ) (result : Result T E) → Puts old.told new.told line result → Cause result old.faults new.faults → Printed old new line
put_printed old new line (Ok x) p c = record { later = omega arith; count = length line; part = p ∙ ap (appended old.told) (sym (take-length line)); whole = λ steady. p }
put_printed old new line (Err e) p c = record { later = c.0; count = p.0; part = p.2; whole = λ steady. absurd (omega (arith, steady, c.1)) }

pub no_line : (out : SinkSeen) → Printed out out []
no_line out = record { later = omega arith; count = 0; part = sym (appended-nil out.told); whole = λ steady. sym (appended-nil out.told) }

-- a line without bytes is not put
pub unput_printed : (out : SinkSeen) (line : List ℕ) → length line ≡ 0 → Printed out out line
unput_printed out [] e = no_line out
unput_printed out (x ∷ line) e = absurd (cc e)

-- acts that were done, and then a last line
pub ends_with : (acts : List Act) (last : List ℕ) (old mid new : Outside) → AreDone acts old mid → Printed mid.out new.out last → new.vault ≡ mid.vault → EndsWith acts last old new
ends_with acts last old mid new d p same = record {
  printed = subst (λ (o : Outside). Printed o.out new.out last) d p;
  kept = same ∙ ap (λ (o : Outside). o.vault) d;
}

abbrev nothing : List ℕ
nothing = []

take_none : (n : ℕ) → take n nothing ≡ nothing
take_none zero = refl
take_none (suc n) = refl

-- a put failed, and no last line was put after it
still_by : (act : Act) (old mid new : Outside) → is_put act ≡ true → Fails act old mid → Printed mid.out new.out [] → new.vault ≡ mid.vault → Fails act old new
still_by (Put text) old mid new e f p same =
    let told : new.out.told ≡ mid.out.told = p.part ∙ (ap (appended mid.out.told) (take_none p.count) ∙ appended-nil mid.out.told) in
    ((omega (arith, f.0.0, p.later), omega (arith, f.0.1, p.later)), (f.1.0, f.1.1, told ∙ f.1.2), same ∙ f.2)
still_by (Append kind bytes) old mid new e f p same = absurd (cc e)
still_by (Sync kind) old mid new e f p same = absurd (cc e)

pub fails_still : (acts : List Act) (old mid new : Outside) → PutFails acts old mid → Printed mid.out new.out [] → new.vault ≡ mid.vault → PutFails acts old new
fails_still acts old mid new f p same = record { before = f.before; act = f.act; rest = f.rest; split = f.split; is = f.is; fails = still_by f.act (after_acts f.before old) mid new f.is f.fails p same }

-- ---- where the status of a fault comes from: a count of the files, of the sink or of the vault rose

module _ (files files' : FilesSeen) (out mid out' : SinkSeen) (vault vault' : VaultSeen) where
  abbrev Later : Type 0
  Later = IsLater files files' out out' vault vault'

  abbrev Caused : Status → Type 0
  Caused status = IsCaused status files files' out out' vault vault'

  -- a status that is no fault, and does not say that all was done
  plain : (status : Status) → status ≢ is.ReadFault → status ≢ is.Absent → status ≢ is.WriteFault → status ≢ is.LogFault → status ≢ is.Ok → Later → Caused status
  plain status read absent write log fine later = record { read = λ e. absurd (read e); absent = λ e. absurd (absent e); write = λ e. absurd (write e); log = λ e. absurd (log e); fine = λ e. absurd (fine e); later = later }

  found_later : IsFound files files' → mid.faults ≡ out.faults → mid.faults ≤ out'.faults → vault'.faults ≡ vault.faults → Later
  found_later f k p v = record { read = omega (arith, f.0); absent = omega (arith, f.1); put = omega (arith, k, p); kept = omega (arith, v) }

  later_of : (h : Halt) → HaltCounts h files files' → HaltFaults h out mid → mid.faults ≤ out'.faults → HaltLogs h vault vault' → Later
  later_of (halt.ReadFault name) f k p v = record { read = f.0.0; absent = omega (arith, f.1); put = omega (arith, k, p); kept = omega (arith, v) }
  later_of (halt.Absent name) f k p v = record { read = omega (arith, f.0); absent = f.1.0; put = omega (arith, k, p); kept = omega (arith, v) }
  later_of halt.WriteFault f k p v = record { read = omega (arith, f.0); absent = omega (arith, f.1); put = omega (arith, k.0, p); kept = omega (arith, v) }
  later_of halt.LogFault f k p v = record { read = omega (arith, f.0); absent = omega (arith, f.1); put = omega (arith, k, p); kept = v.0 }
  later_of halt.Memory f k p v = found_later f k p v
  later_of (halt.Refused name kind line cause) f k p v = found_later f k p v
  later_of (halt.ShelfEmpty kind needed stocked) f k p v = found_later f k p v
  later_of (halt.HistoryFull entries bytes) f k p v = found_later f k p v
  later_of (halt.LogRefused place) f k p v = found_later f k p v
  later_of (halt.UnknownName name) f k p v = found_later f k p v
  later_of (halt.HubRefused cause) f k p v = found_later f k p v
  later_of halt.Misused f k p v = found_later f k p v

  refused : (kind : FileKind) → Later → Caused (refused_as kind)
  refused Configuration later = plain is.ConfigRefused (λ e. absurd (cc)) (λ e. absurd (cc)) (λ e. absurd (cc)) (λ e. absurd (cc)) (λ e. absurd (cc)) later
  refused Script later = plain is.ScriptRefused (λ e. absurd (cc)) (λ e. absurd (cc)) (λ e. absurd (cc)) (λ e. absurd (cc)) (λ e. absurd (cc)) later

  own : (h : Halt) → HaltCounts h files files' → HaltFaults h out mid → mid.faults ≤ out'.faults → HaltLogs h vault vault' → Later → Caused (halt_status h)
  own (halt.ReadFault name) f k p v later = record { read = λ e. f.0; absent = λ e. absurd (cc); write = λ e. absurd (cc); log = λ e. absurd (cc); fine = λ e. absurd (cc); later = later }
  own (halt.Absent name) f k p v later = record { read = λ e. absurd (cc); absent = λ e. f.1; write = λ e. absurd (cc); log = λ e. absurd (cc); fine = λ e. absurd (cc); later = later }
  own halt.WriteFault f k p v later = record { read = λ e. absurd (cc); absent = λ e. absurd (cc); write = λ e. (omega (arith, k.0, p), omega (arith, k.1, p)); log = λ e. absurd (cc); fine = λ e. absurd (cc); later = later }
  own halt.LogFault f k p v later = record { read = λ e. absurd (cc); absent = λ e. absurd (cc); write = λ e. absurd (cc); log = λ e. v; fine = λ e. absurd (cc); later = later }
  own halt.Memory f k p v later = plain is.Memory (λ e. absurd (cc)) (λ e. absurd (cc)) (λ e. absurd (cc)) (λ e. absurd (cc)) (λ e. absurd (cc)) later
  own (halt.Refused name kind line cause) f k p v later = refused kind later
  own (halt.ShelfEmpty kind needed stocked) f k p v later = plain is.ShelfEmpty (λ e. absurd (cc)) (λ e. absurd (cc)) (λ e. absurd (cc)) (λ e. absurd (cc)) (λ e. absurd (cc)) later
  own (halt.HistoryFull entries bytes) f k p v later = plain is.HistoryFull (λ e. absurd (cc)) (λ e. absurd (cc)) (λ e. absurd (cc)) (λ e. absurd (cc)) (λ e. absurd (cc)) later
  own (halt.LogRefused place) f k p v later = plain is.LogRefused (λ e. absurd (cc)) (λ e. absurd (cc)) (λ e. absurd (cc)) (λ e. absurd (cc)) (λ e. absurd (cc)) later
  own (halt.UnknownName name) f k p v later = plain is.UnknownName (λ e. absurd (cc)) (λ e. absurd (cc)) (λ e. absurd (cc)) (λ e. absurd (cc)) (λ e. absurd (cc)) later
  own (halt.HubRefused cause) f k p v later = plain is.HubRefused (λ e. absurd (cc)) (λ e. absurd (cc)) (λ e. absurd (cc)) (λ e. absurd (cc)) (λ e. absurd (cc)) later
  own halt.Misused f k p v later = plain is.Usage (λ e. absurd (cc)) (λ e. absurd (cc)) (λ e. absurd (cc)) (λ e. absurd (cc)) (λ e. absurd (cc)) later

  pub caused : (answer : Result (Unit {0}) Halt) (status : Status) → FileCounts answer files files' → SinkCounts answer out mid → VaultCounts answer vault vault' → Ends answer status mid out' → Caused status
  caused (Ok done) status f k v h =
      let put : out'.faults ≡ out.faults = ap (λ (s : SinkSeen). s.faults) h.1 ∙ k in
      rw h.0 (record { read = λ r. absurd (cc); absent = λ r. absurd (cc); write = λ r. absurd (cc); log = λ r. absurd (cc); fine = λ r. (f.0, f.1, put, v); later = record { read = omega (arith, f.0); absent = omega (arith, f.1); put = omega (arith, put); kept = omega (arith, v) } })
  caused (Err why) status f k v (inl h) = rw h.0 (own why f k h.1.later v (later_of why f k h.1.later v))
  caused (Err why) status f k v (inr h) = rw h.1 (plain is.Memory (λ e. absurd (cc)) (λ e. absurd (cc)) (λ e. absurd (cc)) (λ e. absurd (cc)) (λ e. absurd (cc)) (later_of why f k h.2.later v))

-- words that fit no command
pub misused_caused : (files : FilesSeen) (out out' : SinkSeen) (vault : VaultSeen) (status : Status) → status ≡ is.Usage → Printed out out' usage_line → IsCaused status files files out out' vault vault
misused_caused files out out' vault status e p =
    let later : IsLater files files out out' vault vault = record { read = omega arith; absent = omega arith; put = p.later; kept = omega arith } in
    rw e (plain files files out out out' vault vault is.Usage (λ e. absurd (cc)) (λ e. absurd (cc)) (λ e. absurd (cc)) (λ e. absurd (cc)) (λ e. absurd (cc)) later)
