-- What replies leave: a desk appends in its own name, and a history that was legal stays so.
use Rattle.std.specs.Prelude.{◌≡◌, ℕ, true, false, List, ◌++◌}
use Rattle.std.specs.List.{All, list_any}
use Rattle.cts_def.specs.declared.time.Time.{Time}
use Rattle.cts_entry.specs.declared.entry.Entry.{Entry}
use Rattle.cts_entry.specs.Legal.{has_ended, is_ended, IsLegal}
use Rattle.cts_entry.specs.Workers.{is_desk}
use Rattle.cts_table.specs.declared.basis.Basis.{Basis}
use Rattle.cts_table.specs.Keeping.{rules_of}
use Rattle.cts_api.specs.Points.{point_of}
use Rattle.cts_api.specs.Replies.{Reply, IsReply}
use Rattle.cts_api.specs.Points.{Point}

-- What a reply appends has the desk as its maker, and ends nobody.
abbrev pub RepliesAreOfTheirDesk : Type 0
RepliesAreOfTheirDesk = (h : Point) (by : ℕ) (time : Time) (body : List ℕ) (a : Reply) → IsReply h by time body a
    → All (λ (e : Entry). e.by ≡ by) a.entries × (list_any (λ (e : Entry). is_ended e.what) a.entries ≡ false)

-- What a desk that has not ended replies leaves a legal history legal, its limits too.
abbrev pub RepliesAreLegal : Type 0
RepliesAreLegal = (b : Basis) (history : List Entry) (by : ℕ) (time : Time) (body : List ℕ) (a : Reply) → is_desk b.site by ≡ true
    → has_ended by history ≡ false
    → IsLegal (rules_of b) history → IsReply (point_of b history) by time body a → IsLegal (rules_of b) (history ++ a.entries)
