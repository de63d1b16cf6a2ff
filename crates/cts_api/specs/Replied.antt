-- What the calls that reply leave: the text, the entries that stand after the history, and how many there are.
use Rattle.std.specs.Prelude.{◌≡◌, ℕ, List, ◌++◌, option_map, length, Result, Ok, Err}
use Rattle.cts_base.specs.declared.memory.Memory.{Memory}
use Rattle.cts_def.specs.declared.time.Time.{Time}
use Rattle.cts_rpc.specs.declared.call.Call.{Call}
use Rattle.cts_table.specs.States.{Shown}
use Rattle.serde_json.specs.View.{items_view, view}
use Rattle.cts_api.specs.declared.settling.Answer as code
use Rattle.cts_methods.specs.Kinds.{listed}
use Rattle.cts_methods.specs.Methods.{method_named}
use Rattle.cts_api.specs.Replies.{Reply, IsReply, IsReplyOf, IsTextFor, text_of}
use Rattle.cts_api.specs.Telling.{point}

-- Only the entries of the reply stand after those that were there.
pub record Appends (old : Shown) (r : Reply) (appended : ℕ) (new : Shown) : Type 0 where
  pub count : appended ≡ length r.entries
  pub entries : new.entries ≡ old.entries ++ r.entries
  pub basis : new.basis ≡ old.basis

-- nothing was appended
abbrev pub IsUnchanged : Shown → Shown → Type 0
IsUnchanged old new = (new.entries ≡ old.entries) × (new.basis ≡ old.basis)

-- The answer is the reply. Where no memory was found the entries are as they were.
abbrev pub Gives : Shown → Reply → Result code.Answer Memory → Shown → Type 0
Gives old r (Ok a) new = (a.text ≡ text_of r) × Appends old r a.appended new × IsTextFor r.response a.text
Gives old r (Err e) new = IsUnchanged old new

-- a body is answered
abbrev pub Replied : Shown → ℕ → Time → List ℕ → Result code.Answer Memory → Shown → Type 0
Replied old by time body (Ok a) new = (r : Reply) × IsReply (point old) by time body r × Gives old r (Ok a) new
Replied old by time body (Err e) new = IsUnchanged old new

-- A call is answered. An id with a fraction has no one text, and no body gives such a call; but there is a text where there is an id, and it reads back as the
-- response with that id.
abbrev pub Answered : Shown → ℕ → Time → Call → Result code.Answer Memory → Shown → Type 0
Answered old by time c (Ok a) new =
    (r : Reply) × IsReplyOf (point old) by time (option_map view c.id) (listed (items_view c.params)) (method_named c.method) r
    × Appends old r a.appended new × IsTextFor r.response a.text
Answered old by time c (Err e) new = IsUnchanged old new
