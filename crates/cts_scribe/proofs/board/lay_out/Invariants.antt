use Rattle.std.proofs.Common.{◌≡◌, ◌≤◌, ◌<◌, ◌+◌, ◌-◌, length, take}
use Rattle.std.specs.Prelude.{◌⊎◌}
use Rattle.cts_worker.specs.Followed.{Follows}
use Rattle.cts_scribe.specs.Growing.{Count, GivesBoth, bytes_given, most_bytes, most_entries}
use Rattle.cts_scribe.proofs.board.lay_out.Given as goal

abbrev pub invariant-entries : goal.invariant-entries
invariant-entries l = record {
  begun : l.fn.from.place < l.end;
  within : l.end ≤ length l.hall.entries;
  few : l.end ≤ l.fn.from.place + most_entries;
  from : l.fn.from.place ≤ l.progress.place;
  until : l.progress.place ≤ l.end;
  follows : Follows l.progress l.hall.entries;
  gives : GivesBoth l.site l.hall.entries l.fn.from.place l.progress.place l.growth;
  short : (l.progress.place ≡ l.fn.from.place + 1) ⊎ (bytes_given l.growth.batch ≤ most_bytes);
  count : Count l.site (take l.progress.place l.hall.entries) l.cycles;
}

abbrev pub decreases-entries : goal.decreases-entries
decreases-entries l = l.end - l.progress.place
