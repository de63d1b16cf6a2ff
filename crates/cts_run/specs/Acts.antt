-- What a command does outside, one act after another: texts that are put, and bytes that two logs get and keep.
use Rattle.std.specs.Prelude.{◌≡◌, ℕ, ◌≤◌, Bool, true, false, not, List, [], ◌∷◌, ◌++◌, length, take, option_map, Result, Ok, Err}
use Rattle.std.specs.List.{flat_map}
use Rattle.cts_outside.specs.Causes.{Rose}
use Rattle.cts_outside.specs.Contents.{appended, IsPartPut}
use Rattle.cts_outside.specs.Seen.{SinkSeen, VaultSeen}
use Rattle.cts_outside.specs.Vaults.{all_synced, at_kind, with_bytes}
use Rattle.cts_outside.specs.declared.vault.LogKind.{LogKind}
use Rattle.cts_outside.specs.declared.vault.LogKind.TheVariants.{Tlm, Cmd}
use Rattle.cts_run.specs.Putting.{Printed}
use Rattle.cts_run.specs.declared.halt.Halt.{Halt}
use Rattle.cts_run.specs.declared.halt.Halt.TheVariants as halt
use Rattle.cts_run.specs.declared.putting.Undone.{Undone}
use Rattle.cts_run.specs.declared.putting.Undone.TheVariants.{WriteFault, LogFault, Memory}

-- a text is put, bytes are appended to a log, or all bytes of a log are synced
pub data Act : Type 0 where
  Put : List ℕ → Act
  Append : LogKind → List ℕ → Act
  Sync : LogKind → Act

-- the put of a text, if it has any bytes
abbrev pub puts : List ℕ → List Act
puts [] = []
puts (c ∷ text) = Put (c ∷ text) ∷ []

-- both logs get bytes
abbrev pub appends : List ℕ → List ℕ → List Act
appends tlm cmd = Append Tlm tlm ∷ Append Cmd cmd ∷ []

-- both logs are synced
abbrev pub syncs : List Act
syncs = Sync Tlm ∷ Sync Cmd ∷ []

-- ---- what acts put and append, all together

abbrev pub put_by : Act → List ℕ
put_by (Put text) = text
put_by (Append kind bytes) = []
put_by (Sync kind) = []

-- what they put
abbrev pub text_of : List Act → List ℕ
text_of acts = flat_map put_by acts

abbrev pub is_kind : LogKind → LogKind → Bool
is_kind Tlm Tlm = true
is_kind Tlm Cmd = false
is_kind Cmd Tlm = false
is_kind Cmd Cmd = true

abbrev pub bytes_if : Bool → List ℕ → List ℕ
bytes_if true bytes = bytes
bytes_if false bytes = []

abbrev pub appended_by : LogKind → Act → List ℕ
appended_by kind (Put text) = []
appended_by kind (Append other bytes) = bytes_if (is_kind kind other) bytes
appended_by kind (Sync other) = []

-- what they append to the log of a kind
abbrev pub logged_of : LogKind → List Act → List ℕ
logged_of kind acts = flat_map (appended_by kind) acts

-- ---- what they leave

-- what is seen outside: of the sink and of the vault
pub record Outside : Type 0 where
  pub out : SinkSeen
  pub vault : VaultSeen

abbrev pub outside : SinkSeen → VaultSeen → Outside
outside out vault = record { out = out; vault = vault }

-- what is told after an act that was done; no count rises
abbrev pub after_act : Act → Outside → Outside
after_act (Put text) o = record { out = record { told = appended o.out.told text; faults = o.out.faults }; vault = o.vault }
after_act (Append kind bytes) o = record {
  out = o.out;
  vault = record {
    told = option_map (at_kind kind (with_bytes bytes)) o.vault.told;
    faults = o.vault.faults;
  };
}
after_act (Sync kind) o = record { out = o.out; vault = record { told = option_map (at_kind kind all_synced) o.vault.told; faults = o.vault.faults } }

abbrev pub after_acts : List Act → Outside → Outside
after_acts [] o = o
after_acts (act ∷ acts) o = after_acts acts (after_act act o)

-- These acts were done, one after another.
abbrev pub AreDone : List Act → Outside → Outside → Type 0
AreDone acts old new = new ≡ after_acts acts old

-- An act failed: its count rose, and of what is put or appended a prefix was.
abbrev pub Fails : Act → Outside → Outside → Type 0
Fails (Put text) old new = Rose old.out.faults new.out.faults × IsPartPut old.out.told new.out.told text × (new.vault ≡ old.vault)
Fails (Append kind bytes) old new =
    Rose old.vault.faults new.vault.faults × ((n : ℕ) × (n ≤ length bytes)
    × (new.vault.told ≡ option_map (at_kind kind (with_bytes (take n bytes))) old.vault.told)) × (new.out ≡ old.out)
Fails (Sync kind) old new = Rose old.vault.faults new.vault.faults × (new.vault.told ≡ old.vault.told) × (new.out ≡ old.out)

abbrev pub is_put : Act → Bool
is_put (Put text) = true
is_put (Append kind bytes) = false
is_put (Sync kind) = false

abbrev pub is_kept : Act → Bool
is_kept act = not (is_put act)

-- One of these acts failed, which is of this kind. Those before it were done, and none after it.
pub record FailsIn (of : Act → Bool) (acts : List Act) (old new : Outside) : Type 0 where
  pub before : List Act
  pub act : Act
  pub rest : List Act
  pub split : acts ≡ before ++ act ∷ rest
  pub is : of act ≡ true
  pub fails : Fails act (after_acts before old) new

-- a put failed, and an append or a sync
abbrev pub PutFails : List Act → Outside → Outside → Type 0
PutFails = FailsIn is_put

abbrev pub LogFails : List Act → Outside → Outside → Type 0
LogFails = FailsIn is_kept

-- These acts were done, or why not: want of memory may come before each of them.
abbrev pub DoesActs : List Act → Result (Unit {0}) Undone → Outside → Outside → Type 0
DoesActs acts (Ok done) old new = AreDone acts old new
DoesActs acts (Err WriteFault) old new = PutFails acts old new
DoesActs acts (Err LogFault) old new = LogFails acts old new
DoesActs acts (Err Memory) old new = (n : ℕ) × AreDone (take n acts) old new

-- want of memory is not the answer
abbrev pub TakesNoMemory : Result (Unit {0}) Undone → Type 0
TakesNoMemory (Ok done) = Unit {0}
TakesNoMemory (Err WriteFault) = Unit {0}
TakesNoMemory (Err LogFault) = Unit {0}
TakesNoMemory (Err Memory) = ⊥

-- What a command does whose acts are these: it does them all, and then answers as it ends. A fault within them and want of memory may
-- come before.
abbrev pub DoesAll : List Act → Result (Unit {0}) Halt → Result (Unit {0}) Halt → Outside → Outside → Type 0
DoesAll acts due (Err halt.WriteFault) old new = PutFails acts old new
DoesAll acts due (Err halt.LogFault) old new = LogFails acts old new
DoesAll acts due (Err halt.Memory) old new = (n : ℕ) × AreDone (take n acts) old new
DoesAll acts due answer old new = (answer ≡ due) × AreDone acts old new

-- What is left where these acts were done and then a last line was put, or a prefix of it where its put failed.
pub record EndsWith (acts : List Act) (last : List ℕ) (old new : Outside) : Type 0 where
  pub printed : Printed (after_acts acts old).out new.out last
  pub kept : new.vault ≡ (after_acts acts old).vault
