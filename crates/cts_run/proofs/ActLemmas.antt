-- What acts leave that are done one after another, and what is left where one fails.
use Rattle.std.proofs.Common.{◌≡◌, ℕ, ◌+◌, ◌≤◌, Bool, true, List, [], ◌∷◌, ◌++◌, length, take, drop, Option, Some, None, Result, Ok, Err, refl, sym, ◌∙◌, ap, subst, append_assoc}
use Rattle.std.specs.Prelude.{option_map}
use Rattle.std.proofs.Math.Seq.{take-append-add}
use Rattle.std.proofs.lemmas.List.{append-nil, take-append-drop, take_at}
use Rattle.cts_outside.proofs.Putting.{appended-append, appended-nil}
use Rattle.cts_outside.specs.Causes.{Rose}
use Rattle.cts_outside.specs.Seen.{SinkSeen, VaultSeen}
use Rattle.cts_outside.specs.Vaults.{Logs, all_synced, at_kind, log_of, with_bytes}
use Rattle.cts_outside.specs.declared.vault.LogKind.{LogKind}
use Rattle.cts_outside.specs.declared.vault.LogKind.TheVariants.{Tlm, Cmd}
use Rattle.cts_run.specs.Acts.{Act, Append, AreDone, DoesActs, DoesAll, Fails, FailsIn, LogFails, Outside, Put, PutFails, Sync, after_act, after_acts, appends, bytes_if, is_kept, is_kind, is_put, logged_of, outside, puts, syncs, text_of}
use Rattle.cts_run.specs.Causes.{put_answer}
use Rattle.cts_run.specs.Laws.{AllIsSynced, BytesAreKept, NoCountRises, TextsArePut}
use Rattle.cts_run.specs.Putting.{PutsText, SinkCounts, VaultCounts}
use Rattle.cts_run.specs.declared.halt.Halt.{Halt}
use Rattle.cts_run.specs.declared.halt.Halt.TheVariants as halt
use Rattle.cts_run.specs.declared.putting.Undone.{Undone}
use Rattle.cts_run.specs.declared.putting.Undone.TheVariants as undone

-- ---- acts after acts

pub after_append : (xs ys : List Act) (o : Outside) → after_acts (xs ++ ys) o ≡ after_acts ys (after_acts xs o)
after_append [] ys o = refl
after_append (x ∷ xs) ys o = after_append xs ys (after_act x o)

pub done_then : (old mid new : Outside) (xs ys : List Act) → AreDone xs old mid → AreDone ys mid new → AreDone (xs ++ ys) old new
done_then old mid new xs ys p q = q ∙ (ap (after_acts ys) p ∙ sym (after_append xs ys old))

pub fails_then : (of : Act → Bool) (old mid new : Outside) (xs ys : List Act) → AreDone xs old mid → FailsIn of ys mid new → FailsIn of (xs ++ ys) old new
fails_then of old mid new xs ys p f = record {
  before = xs ++ f.before;
  act = f.act;
  rest = f.rest;
  split = ap (λ (t : List Act). xs ++ t) f.split ∙ sym (append_assoc xs f.before (f.act ∷ f.rest));
  is = f.is;
  fails = subst (λ (o : Outside). Fails f.act o new) (ap (after_acts f.before) p ∙ sym (after_append xs f.before old)) f.fails;
}

pub fails_first : (of : Act → Bool) (old new : Outside) (xs ys : List Act) → FailsIn of xs old new → FailsIn of (xs ++ ys) old new
fails_first of old new xs ys f = record {
  before = f.before;
  act = f.act;
  rest = f.rest ++ ys;
  split = ap (λ (t : List Act). t ++ ys) f.split ∙ append_assoc f.before (f.act ∷ f.rest) ys;
  is = f.is;
  fails = f.fails;
}

-- some acts of a front are as many of all
take_front : (n : ℕ) (xs ys : List Act) → take (length (take n xs)) (xs ++ ys) ≡ take n xs
take_front n xs ys =
    let k = length (take n xs) in
    ap (λ (t : List Act). take k (t ++ ys)) (sym (take-append-drop n xs)) ∙ (ap (take k) (append_assoc (take n xs) (drop n xs) ys) ∙ take_at (take n xs) (drop n xs ++ ys) k refl)

-- These acts were wanted to be done, and memory ran out before one of them.
abbrev pub Wants : List Act → Outside → Outside → Type 0
Wants acts old new = (n : ℕ) × AreDone (take n acts) old new

pub wants_first : (old new : Outside) (xs ys : List Act) → Wants xs old new → Wants (xs ++ ys) old new
wants_first old new xs ys w = (length (take w.0 xs), w.1 ∙ ap (λ (t : List Act). after_acts t old) (sym (take_front w.0 xs ys)))

-- all of a front are done, and so many of what follows
pub done_front : (old mid new : Outside) (xs ys : List Act) (n : ℕ) → AreDone xs old mid → AreDone (take n ys) mid new → AreDone (take (length xs + n) (xs ++ ys)) old new
done_front old mid new xs ys n p q = done_then old mid new xs (take n ys) p q ∙ ap (λ (t : List Act). after_acts t old) (sym (take-append-add xs ys n))

wants_then : (old mid new : Outside) (xs ys : List Act) → AreDone xs old mid → Wants ys mid new → Wants (xs ++ ys) old new
wants_then old mid new xs ys p w = (length xs + w.0, done_front old mid new xs ys w.0 p w.1)

-- all of a front are done, and then memory is wanted
pub wants_whole : (old new : Outside) (xs ys : List Act) → AreDone xs old new → (n : ℕ) × AreDone (take n (xs ++ ys)) old new
wants_whole old new xs ys p = (length xs, p ∙ ap (λ (t : List Act). after_acts t old) (sym (take_at xs ys (length xs) refl)))

pub does_then : (old mid new : Outside) (xs ys : List Act) (result : Result (Unit {0}) Undone) → AreDone xs old mid → DoesActs ys result mid new → DoesActs (xs ++ ys) result old new
does_then old mid new xs ys (Ok done) p d = done_then old mid new xs ys p d
does_then old mid new xs ys (Err undone.WriteFault) p d = fails_then is_put old mid new xs ys p d
does_then old mid new xs ys (Err undone.LogFault) p d = fails_then is_kept old mid new xs ys p d
does_then old mid new xs ys (Err undone.Memory) p d = wants_then old mid new xs ys p d

pub does_first : (old new : Outside) (xs ys : List Act) (why : Undone) → DoesActs xs (Err why) old new → DoesActs (xs ++ ys) (Err why) old new
does_first old new xs ys undone.WriteFault d = fails_first is_put old new xs ys d
does_first old new xs ys undone.LogFault d = fails_first is_kept old new xs ys d
does_first old new xs ys undone.Memory d = wants_first old new xs ys d

-- the same of what a command answers
pub all_of : (acts : List Act) (result : Result (Unit {0}) Undone) (old new : Outside) → DoesActs acts result old new → DoesAll acts (Ok tt) (put_answer result) old new
all_of acts (Ok done) old new d = (refl, d)
all_of acts (Err undone.WriteFault) old new d = d
all_of acts (Err undone.LogFault) old new d = d
all_of acts (Err undone.Memory) old new d = d

pub all_then : (old mid new : Outside) (xs ys : List Act) (due answer : Result (Unit {0}) Halt) → AreDone xs old mid → DoesAll ys due answer mid new → DoesAll (xs ++ ys) due answer old new
all_then old mid new xs ys due (Ok done) p d = (d.0, done_then old mid new xs ys p d.1)
all_then old mid new xs ys due (Err halt.Memory) p d = wants_then old mid new xs ys p d
all_then old mid new xs ys due (Err halt.WriteFault) p d = fails_then is_put old mid new xs ys p d
all_then old mid new xs ys due (Err halt.LogFault) p d = fails_then is_kept old mid new xs ys p d
all_then old mid new xs ys due (Err (halt.ReadFault name)) p d = (d.0, done_then old mid new xs ys p d.1)
all_then old mid new xs ys due (Err (halt.Absent name)) p d = (d.0, done_then old mid new xs ys p d.1)
all_then old mid new xs ys due (Err (halt.Refused name kind line cause)) p d = (d.0, done_then old mid new xs ys p d.1)
all_then old mid new xs ys due (Err (halt.ShelfEmpty kind needed stocked)) p d = (d.0, done_then old mid new xs ys p d.1)
all_then old mid new xs ys due (Err (halt.HistoryFull entries bytes)) p d = (d.0, done_then old mid new xs ys p d.1)
all_then old mid new xs ys due (Err (halt.LogRefused place)) p d = (d.0, done_then old mid new xs ys p d.1)
all_then old mid new xs ys due (Err (halt.UnknownName name)) p d = (d.0, done_then old mid new xs ys p d.1)
all_then old mid new xs ys due (Err (halt.HubRefused cause)) p d = (d.0, done_then old mid new xs ys p d.1)
all_then old mid new xs ys due (Err halt.Misused) p d = (d.0, done_then old mid new xs ys p d.1)

-- acts in front that were not all done
pub all_first : (old new : Outside) (xs ys : List Act) (due : Result (Unit {0}) Halt) (why : Undone) → DoesActs xs (Err why) old new → DoesAll (xs ++ ys) due (put_answer (Err why)) old new
all_first old new xs ys due undone.WriteFault d = fails_first is_put old new xs ys d
all_first old new xs ys due undone.LogFault d = fails_first is_kept old new xs ys d
all_first old new xs ys due undone.Memory d = wants_first old new xs ys d

-- ---- one act

-- a text was put, or not
pub put_done : (text : List ℕ) (result : Result (Unit {0}) Undone) (old new : SinkSeen) (vault : VaultSeen) → PutsText text result old new → DoesActs (puts text) result (outside old vault) (outside new vault)
put_done [] (Ok done) old new vault p =
    let told : new.told ≡ old.told = p.1 ∙ appended-nil old.told in
    λ i. record { out = record { told = told i; faults = p.0 i }; vault = vault }
put_done (c ∷ text) (Ok done) old new vault p = λ i. record { out = record { told = p.1 i; faults = p.0 i }; vault = vault }
put_done [] (Err undone.WriteFault) old new vault p = absurd (p.1 refl)
put_done (c ∷ text) (Err undone.WriteFault) old new vault p = record { before = []; act = Put (c ∷ text); rest = []; split = refl; is = refl; fails = (p.0, p.2, refl) }
put_done [] (Err undone.LogFault) old new vault p = absurd p
put_done (c ∷ text) (Err undone.LogFault) old new vault p = absurd p
put_done [] (Err undone.Memory) old new vault p = (0, ap (λ (s : SinkSeen). outside s vault) p)
put_done (c ∷ text) (Err undone.Memory) old new vault p = (0, ap (λ (s : SinkSeen). outside s vault) p)

-- both logs got their bytes, or one of them did not
abbrev Appended : LogKind → List ℕ → VaultSeen → VaultSeen → Type 0
Appended kind bytes old new = new.told ≡ option_map (at_kind kind (with_bytes bytes)) old.told

abbrev Part : LogKind → List ℕ → VaultSeen → VaultSeen → Type 0
Part kind bytes old new = (n : ℕ) × (n ≤ length bytes) × Appended kind (take n bytes) old new

abbrev Synced : LogKind → VaultSeen → VaultSeen → Type 0
Synced kind old new = new.told ≡ option_map (at_kind kind all_synced) old.told

module _ (old new : VaultSeen) (out : SinkSeen) where
  append_done : (kind : LogKind) (bytes : List ℕ) → Appended kind bytes old new → new.faults ≡ old.faults → AreDone (Append kind bytes ∷ []) (outside out old) (outside out new)
  append_done kind bytes p c = λ i. record { out = out; vault = record { told = p i; faults = c i } }

  append_fails : (kind : LogKind) (bytes : List ℕ) → Part kind bytes old new → Rose old.faults new.faults → LogFails (Append kind bytes ∷ []) (outside out old) (outside out new)
  append_fails kind bytes p c = record { before = []; act = Append kind bytes; rest = []; split = refl; is = refl; fails = (c, p, refl) }

  sync_done : (kind : LogKind) → Synced kind old new → new.faults ≡ old.faults → AreDone (Sync kind ∷ []) (outside out old) (outside out new)
  sync_done kind p c = λ i. record { out = out; vault = record { told = p i; faults = c i } }

  sync_fails : (kind : LogKind) → new.told ≡ old.told → Rose old.faults new.faults → LogFails (Sync kind ∷ []) (outside out old) (outside out new)
  sync_fails kind p c = record { before = []; act = Sync kind; rest = []; split = refl; is = refl; fails = (c, p, refl) }

pub second_fails : (tlm cmd : List ℕ) (old mid new : VaultSeen) (out : SinkSeen) → Appended Tlm tlm old mid → mid.faults ≡ old.faults → Part Cmd cmd mid new → Rose mid.faults new.faults → LogFails (appends tlm cmd) (outside out old) (outside out new)
second_fails tlm cmd old mid new out p c q d = fails_then is_kept (outside out old) (outside out mid) (outside out new) (Append Tlm tlm ∷ []) (Append Cmd cmd ∷ []) (append_done old mid out Tlm tlm p c) (append_fails mid new out Cmd cmd q d)

pub first_fails : (tlm cmd : List ℕ) (old new : VaultSeen) (out : SinkSeen) → Part Tlm tlm old new → Rose old.faults new.faults → LogFails (appends tlm cmd) (outside out old) (outside out new)
first_fails tlm cmd old new out p c = fails_first is_kept (outside out old) (outside out new) (Append Tlm tlm ∷ []) (Append Cmd cmd ∷ []) (append_fails old new out Tlm tlm p c)

pub second_unsynced : (old mid new : VaultSeen) (out : SinkSeen) → Synced Tlm old mid → mid.faults ≡ old.faults → new.told ≡ mid.told → Rose mid.faults new.faults → LogFails syncs (outside out old) (outside out new)
second_unsynced old mid new out p c q d = fails_then is_kept (outside out old) (outside out mid) (outside out new) (Sync Tlm ∷ []) (Sync Cmd ∷ []) (sync_done old mid out Tlm p c) (sync_fails mid new out Cmd q d)

pub first_unsynced : (old new : VaultSeen) (out : SinkSeen) → new.told ≡ old.told → Rose old.faults new.faults → LogFails syncs (outside out old) (outside out new)
first_unsynced old new out p c = fails_first is_kept (outside out old) (outside out new) (Sync Tlm ∷ []) (Sync Cmd ∷ []) (sync_fails old new out Tlm p c)

-- ---- laws

act_counts : (act : Act) (o : Outside) → ((after_act act o).out.faults ≡ o.out.faults) × ((after_act act o).vault.faults ≡ o.vault.faults)
act_counts (Put text) o = (refl, refl)
act_counts (Append kind bytes) o = (refl, refl)
act_counts (Sync kind) o = (refl, refl)

pub no_count_rises : NoCountRises
no_count_rises [] o = (refl, refl)
no_count_rises (act ∷ acts) o =
    let here = act_counts act o in
    let more = no_count_rises acts (after_act act o) in
    (more.0 ∙ here.0, more.1 ∙ here.1)

pub texts_are_put : TextsArePut
texts_are_put [] o = sym (appended-nil o.out.told)
texts_are_put (Put text ∷ acts) o = texts_are_put acts (after_act (Put text) o) ∙ appended-append o.out.told text (text_of acts)
texts_are_put (Append kind bytes ∷ acts) o = texts_are_put acts (after_act (Append kind bytes) o)
texts_are_put (Sync kind ∷ acts) o = texts_are_put acts (after_act (Sync kind) o)

-- the bytes of the log of a kind
abbrev bytes_in : LogKind → Option Logs → Option (List ℕ)
bytes_in kind told = option_map (λ (logs : Logs). (log_of kind logs).bytes) told

abbrev bytes_then : LogKind → List ℕ → Option Logs → Option (List ℕ)
bytes_then kind more told = option_map (λ (logs : Logs). (log_of kind logs).bytes ++ more) told

same_then : (kind : LogKind) (told : Option Logs) → bytes_in kind told ≡ bytes_then kind [] told
same_then kind None = refl
same_then kind (Some logs) = ap (λ (t : List ℕ). Some t) (sym (append-nil (log_of kind logs).bytes))

append_then : (kind other : LogKind) (bytes more : List ℕ) (told : Option Logs) → bytes_then kind more (option_map (at_kind other (with_bytes bytes)) told) ≡ bytes_then kind (bytes_if (is_kind kind other) bytes ++ more) told
append_then kind other bytes more None = refl
append_then Tlm Tlm bytes more (Some logs) = ap (λ (t : List ℕ). Some t) (append_assoc logs.tlm.bytes bytes more)
append_then Tlm Cmd bytes more (Some logs) = refl
append_then Cmd Tlm bytes more (Some logs) = refl
append_then Cmd Cmd bytes more (Some logs) = ap (λ (t : List ℕ). Some t) (append_assoc logs.cmd.bytes bytes more)

sync_then : (kind other : LogKind) (more : List ℕ) (told : Option Logs) → bytes_then kind more (option_map (at_kind other all_synced) told) ≡ bytes_then kind more told
sync_then kind other more None = refl
sync_then Tlm Tlm more (Some logs) = refl
sync_then Tlm Cmd more (Some logs) = refl
sync_then Cmd Tlm more (Some logs) = refl
sync_then Cmd Cmd more (Some logs) = refl

pub bytes_are_kept : BytesAreKept
bytes_are_kept kind [] o = same_then kind o.vault.told
bytes_are_kept kind (Put text ∷ acts) o = bytes_are_kept kind acts (after_act (Put text) o)
bytes_are_kept kind (Append other bytes ∷ acts) o = bytes_are_kept kind acts (after_act (Append other bytes) o) ∙ append_then kind other bytes (logged_of kind acts) o.vault.told
bytes_are_kept kind (Sync other ∷ acts) o = bytes_are_kept kind acts (after_act (Sync other) o) ∙ sync_then kind other (logged_of kind acts) o.vault.told

-- after both syncs, with nothing but a put after them
synced_told : (kind : LogKind) (told : Option Logs)
    → option_map (λ (logs : Logs). (log_of kind logs).synced) (option_map (at_kind Cmd all_synced) (option_map (at_kind Tlm all_synced) told))
    ≡ option_map (λ (logs : Logs). (log_of kind logs).bytes) (option_map (at_kind Cmd all_synced) (option_map (at_kind Tlm all_synced) told))
synced_told kind None = refl
synced_told Tlm (Some logs) = refl
synced_told Cmd (Some logs) = refl

synced_then : (kind : LogKind) (line : List ℕ) (o : Outside)
    → option_map (λ (logs : Logs). (log_of kind logs).synced) (after_acts (syncs ++ puts line) o).vault.told
    ≡ option_map (λ (logs : Logs). (log_of kind logs).bytes) (after_acts (syncs ++ puts line) o).vault.told
synced_then kind [] o = synced_told kind o.vault.told
synced_then kind (c ∷ line) o = synced_told kind o.vault.told

pub all_is_synced : AllIsSynced
all_is_synced kind acts line o =
    subst (λ (p : Outside). option_map (λ (logs : Logs). (log_of kind logs).synced) p.vault.told ≡ option_map (λ (logs : Logs). (log_of kind logs).bytes) p.vault.told)
    (sym (after_append acts (syncs ++ puts line) o)) (synced_then kind line (after_acts acts o))

-- ---- counts

-- all acts were done
pub done_counts : (acts : List Act) (old new : Outside) → AreDone acts old new → (new.out.faults ≡ old.out.faults) × (new.vault.faults ≡ old.vault.faults)
done_counts acts old new d =
    let stay = no_count_rises acts old in
    (ap (λ (o : Outside). o.out.faults) d ∙ stay.0, ap (λ (o : Outside). o.vault.faults) d ∙ stay.1)

pub rose_from : (a b c : ℕ) → a ≡ b → Rose a c → Rose b c
rose_from a b c e r = subst (λ (n : ℕ). Rose n c) e r

put_counts_by : (act : Act) (mid new : Outside) → is_put act ≡ true → Fails act mid new → Rose mid.out.faults new.out.faults × (new.vault.faults ≡ mid.vault.faults)
put_counts_by (Put text) mid new e f = (f.0, ap (λ (v : VaultSeen). v.faults) f.2)
put_counts_by (Append kind bytes) mid new e f = absurd (cc e)
put_counts_by (Sync kind) mid new e f = absurd (cc e)

log_counts_by : (act : Act) (mid new : Outside) → is_kept act ≡ true → Fails act mid new → Rose mid.vault.faults new.vault.faults × (new.out.faults ≡ mid.out.faults)
log_counts_by (Put text) mid new e f = absurd (cc e)
log_counts_by (Append kind bytes) mid new e f = (f.0, ap (λ (s : SinkSeen). s.faults) f.2)
log_counts_by (Sync kind) mid new e f = (f.0, ap (λ (s : SinkSeen). s.faults) f.2)

pub put_fails_counts : (acts : List Act) (old new : Outside) → PutFails acts old new → Rose old.out.faults new.out.faults × (new.vault.faults ≡ old.vault.faults)
put_fails_counts acts old new f =
    let stay = no_count_rises f.before old in
    let k = put_counts_by f.act (after_acts f.before old) new f.is f.fails in
    (rose_from _ _ _ stay.0 k.0, k.1 ∙ stay.1)

pub log_fails_counts : (acts : List Act) (old new : Outside) → LogFails acts old new → Rose old.vault.faults new.vault.faults × (new.out.faults ≡ old.out.faults)
log_fails_counts acts old new f =
    let stay = no_count_rises f.before old in
    let k = log_counts_by f.act (after_acts f.before old) new f.is f.fails in
    (rose_from _ _ _ stay.1 k.0, k.1 ∙ stay.0)

-- the counts of both, where a command did its acts
pub sink_of : (acts : List Act) (due answer : Result (Unit {0}) Halt) (old new : Outside) → DoesAll acts due answer old new → SinkCounts answer old.out new.out
sink_of acts due (Ok done) old new k = (done_counts acts old new k.1).0
sink_of acts due (Err halt.Memory) old new k = (done_counts (take k.0 acts) old new k.1).0
sink_of acts due (Err (halt.ReadFault name)) old new k = (done_counts acts old new k.1).0
sink_of acts due (Err (halt.Absent name)) old new k = (done_counts acts old new k.1).0
sink_of acts due (Err halt.WriteFault) old new k = (put_fails_counts acts old new k).0
sink_of acts due (Err halt.LogFault) old new k = (log_fails_counts acts old new k).1
sink_of acts due (Err (halt.Refused name kind line cause)) old new k = (done_counts acts old new k.1).0
sink_of acts due (Err (halt.ShelfEmpty kind needed stocked)) old new k = (done_counts acts old new k.1).0
sink_of acts due (Err (halt.HistoryFull entries bytes)) old new k = (done_counts acts old new k.1).0
sink_of acts due (Err (halt.LogRefused place)) old new k = (done_counts acts old new k.1).0
sink_of acts due (Err (halt.UnknownName name)) old new k = (done_counts acts old new k.1).0
sink_of acts due (Err (halt.HubRefused cause)) old new k = (done_counts acts old new k.1).0
sink_of acts due (Err halt.Misused) old new k = (done_counts acts old new k.1).0

pub vault_of : (acts : List Act) (due answer : Result (Unit {0}) Halt) (old new : Outside) → DoesAll acts due answer old new → VaultCounts answer old.vault new.vault
vault_of acts due (Ok done) old new k = (done_counts acts old new k.1).1
vault_of acts due (Err halt.Memory) old new k = (done_counts (take k.0 acts) old new k.1).1
vault_of acts due (Err (halt.ReadFault name)) old new k = (done_counts acts old new k.1).1
vault_of acts due (Err (halt.Absent name)) old new k = (done_counts acts old new k.1).1
vault_of acts due (Err halt.WriteFault) old new k = (put_fails_counts acts old new k).1
vault_of acts due (Err halt.LogFault) old new k = (log_fails_counts acts old new k).0
vault_of acts due (Err (halt.Refused name kind line cause)) old new k = (done_counts acts old new k.1).1
vault_of acts due (Err (halt.ShelfEmpty kind needed stocked)) old new k = (done_counts acts old new k.1).1
vault_of acts due (Err (halt.HistoryFull entries bytes)) old new k = (done_counts acts old new k.1).1
vault_of acts due (Err (halt.LogRefused place)) old new k = (done_counts acts old new k.1).1
vault_of acts due (Err (halt.UnknownName name)) old new k = (done_counts acts old new k.1).1
vault_of acts due (Err (halt.HubRefused cause)) old new k = (done_counts acts old new k.1).1
vault_of acts due (Err halt.Misused) old new k = (done_counts acts old new k.1).1
