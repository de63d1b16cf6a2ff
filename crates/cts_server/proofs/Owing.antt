-- What is owed over the basis of a server, by a device that was aimed.
use Rattle.std.proofs.Common.{◌≡◌, ℕ, List, subst}
use Rattle.cts_server.specs.Desks.{DeskRule}
use Rattle.cts_server.specs.Lines.{OwesLine}
use Rattle.cts_entry.specs.declared.entry.Entry.{Entry}
use Rattle.cts_line.specs.declared.ending.LineWhy.{LineWhy}
use Rattle.cts_outside.specs.Seen.{LineSeen}
use Rattle.cts_table.specs.declared.basis.Basis.{Basis}
use Rattle.cts_server.specs.declared.worked.DeskNote.{DeskNote}

pub owes_line : (b server : Basis) (by n : ℕ) (found : List ℕ) (h : List Entry) (shown aimed new : LineSeen) (connections : ℕ) (why : LineWhy)
    → b ≡ server → by ≡ n → shown ≡ aimed
    → OwesLine b by found h shown new connections why → OwesLine server n found h aimed new connections why
owes_line b server by n found h shown aimed new connections why same at is o =
    subst (λ (s : LineSeen). OwesLine server n found h s new connections why) is
    (subst (λ (m : ℕ). OwesLine server m found h shown new connections why) at
    (subst (λ (x : Basis). OwesLine x by found h shown new connections why) same o))

pub owes_desk : (rule : DeskRule) (b server : Basis) (by n : ℕ) (found : List ℕ) (h : List Entry) (shown aimed new : LineSeen) (note : DeskNote)
    → b ≡ server → by ≡ n → shown ≡ aimed → rule b by found h shown new note → rule server n found h aimed new note
owes_desk rule b server by n found h shown aimed new note same at is o =
    subst (λ (s : LineSeen). rule server n found h s new note) is
    (subst (λ (m : ℕ). rule server m found h shown new note) at (subst (λ (x : Basis). rule x by found h shown new note) same o))
