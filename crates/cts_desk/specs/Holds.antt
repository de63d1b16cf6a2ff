-- What one hold leaves in the view of a pass.
use Rattle.std.specs.Prelude.{◌≡◌, ℕ, true, false, List, ◌++◌, length, Option, Some, Result, Ok, Err}
use Rattle.std.specs.List.{All, list_any}
use Rattle.cts_base.specs.declared.memory.Memory.{Memory}
use Rattle.cts_entry.specs.declared.entry.Entry.{Entry}
use Rattle.cts_entry.specs.Legal.{has_ended, is_ended}
use Rattle.cts_entry.specs.Workers.{is_desk}
use Rattle.cts_table.specs.declared.basis.Basis.{Basis}
use Rattle.cts_table.specs.States.{Shown}
use Rattle.cts_turn.specs.declared.rule.View.{View}
use Rattle.cts_turn.specs.Lists.{has}
use Rattle.cts_api.specs.declared.settling.Answer.{Answer}
use Rattle.cts_desk.specs.Exchanges.{IsAnswered, out_of_memory}
use Rattle.cts_worker.specs.Holds.{Hold}

-- a desk that may ask for replies
pub record IsReady (b : Basis) (by : ℕ) (v : View Entry Basis) : Type 0 where
  pub makers : has by v.makers ≡ true
  pub desk : is_desk b.site by ≡ true
  pub active : has_ended by v.seen ≡ false

-- the text that is put for an answer
abbrev pub text_of : Result Answer Memory → Option (List ℕ)
text_of (Ok a) = a.text
text_of (Err e) = Some out_of_memory

-- a reply over a hall
pub record Asked (by : ℕ) (old : Shown) (body : List ℕ) (front : ℕ) (text : Option (List ℕ)) (new : Shown) : Type 0 where
  pub added : List Entry
  pub entries : new.entries ≡ old.entries ++ added
  pub basis : new.basis ≡ old.basis
  pub own : All (λ (e : Entry). e.by ≡ by) added
  pub lasting : list_any (λ (e : Entry). is_ended e.what) added ≡ false
  pub front_is : front ≡ length old.entries
  pub answered : IsAnswered old.basis by old.entries (record { body = body; front = front; text = text }) added

-- a reply in a hold
pub record AskedHold (b : Basis) (by : ℕ) (body : List ℕ) (front : ℕ) (text : Option (List ℕ)) (old new : View Entry Basis) : Type 0 where
  pub added : List Entry
  pub hold : Hold by old new added
  pub lasting : list_any (λ (e : Entry). is_ended e.what) added ≡ false
  pub front_is : front ≡ length (old.seen ++ hold.others)
  pub answered : IsAnswered b by (old.seen ++ hold.others) (record { body = body; front = front; text = text }) added
