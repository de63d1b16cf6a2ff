-- What is said is appended where the history has room for it, and its result is told; else it is told that the history is full.
use Rattle.std.proofs.Common.{◌≡◌, ℕ, Bool, true, false, List, [], ◌∷◌, ◌++◌, Option, Some, None, Ok, refl, sym, ◌∙◌, arith, append-nil}
use Rattle.cts_def.specs.declared.time.Time.{Time}
use Rattle.cts_entry.specs.Histories.{bytes_for, bytes_in, entries_for, entries_in}
use Rattle.cts_entry.specs.declared.entry.Entry.{Entry}
use Rattle.cts_entry.specs.declared.what.What.{What}
use Rattle.cts_table.specs.States.{Shown, fits}
use Rattle.serde_json.specs.Data.{Data}
use Rattle.cts_api.specs.declared.settling.Answer as code
use Rattle.cts_api.specs.Replies.{IsTextFor, fit, made}
use Rattle.cts_api.specs.Settling.{Settled, text_by}
use Rattle.cts_api.specs.Telling.{point}

module _ (old : Shown) (by : ℕ) (time : Time) (what : What) where
  -- one entry takes what it says
  takes_one : fit (point old) (made by time what ∷ []) ≡ fits old (entries_for what) (bytes_for what)
  takes_one =
      let number : entries_in (made by time what ∷ []) ≡ entries_for what = omega arith in
      let bytes : bytes_in (made by time what ∷ []) ≡ bytes_for what = omega arith in
      rw (number, bytes) refl

  module _ (id : Option Data) (value : Data) (text : Option (List ℕ)) (n : ℕ) (new : Shown) (basis : new.basis ≡ old.basis) where
    pub appended : fits old (entries_for what) (bytes_for what) ≡ true → IsTextFor (text_by id value true) text → n ≡ 1
        → new.entries ≡ old.entries ++ made by time what ∷ []
        → Settled old by time id value (Some what) (Ok (record { text = text; appended = n })) new
    appended room told one entries = rw (takes_one ∙ room) (told, record { count = one; entries = entries; basis = basis })

    pub refused : fits old (entries_for what) (bytes_for what) ≡ false → IsTextFor (text_by id value false) text → n ≡ 0
        → new.entries ≡ old.entries → Settled old by time id value (Some what) (Ok (record { text = text; appended = n })) new
    refused room told none entries =
        rw (takes_one ∙ room) (told, record { count = none; entries = entries ∙ sym (append-nil old.entries); basis = basis })
