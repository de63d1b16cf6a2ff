-- A reply over a hall, as its desk sees it.
use Rattle.std.proofs.Common.{◌≡◌, ℕ, List, [], length, sym, refl, ◌∙◌, append-nil, inl, inr, Result, Ok, Err}
use Rattle.std.proofs.lemmas.List.Elements.{All-nil}
use Rattle.cts_api.specs.declared.settling.Answer.{Answer}
use Rattle.cts_api.specs.Legal.{RepliesAreOfTheirDesk}
use Rattle.cts_api.specs.Replied.{Replied}
use Rattle.cts_api.specs.Telling.{point}
use Rattle.cts_base.specs.declared.memory.Memory.{Memory}
use Rattle.cts_def.specs.declared.time.Time.{Time}
use Rattle.cts_entry.specs.declared.entry.Entry.{Entry}
use Rattle.cts_table.specs.States.{Shown}
use Rattle.cts_desk.specs.Holds.{Asked, text_of}

pub asked : (old : Shown) (by : ℕ) (time : Time) (body : List ℕ) (front : ℕ) (r : Result Answer Memory) (new : Shown) → RepliesAreOfTheirDesk → front ≡ length old.entries → Replied old by time body r new → Asked by old body front (text_of r) new
asked old by time body front (Ok a) new law at replied =
    let own = law (point old) by time body replied.0 replied.1 in record {
      added = replied.0.entries;
      entries = replied.2.1.entries;
      basis = replied.2.1.basis;
      own = own.0;
      lasting = own.1;
      front_is = at;
      answered = inl (record { time = time; reply = replied.0; is = replied.1; text = replied.2.0; entries = refl });
    }
asked old by time body front (Err e) new law at replied = record {
  added = [];
  entries = replied.0 ∙ sym (append-nil old.entries);
  basis = replied.1;
  own = All-nil (λ (x : Entry). x.by ≡ by);
  lasting = refl;
  front_is = at;
  answered = inr (refl, refl);
}
