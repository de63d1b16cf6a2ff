-- What the workers of a site did, and what was done where they did not work.
use Rattle.std.specs.Prelude.{◌≡◌, ℕ, ◌+◌, Bool, true, List, [], ◌++◌, length, take, drop, Option, count_by}
use Rattle.std.specs.List.{AllByRecursion}
use Rattle.cts_def.specs.Makers.{first_desk, first_slot, server}
use Rattle.cts_def.specs.Most.{most_slots}
use Rattle.cts_def.specs.Sites.{IsSoundSite, SiteData}
use Rattle.cts_outside.specs.Crews.{CancelledFrom, with_cancelled, with_jobs}
use Rattle.cts_outside.specs.Seen.{CrewSeen, LineSeen, VaultSeen}
use Rattle.cts_scribe.specs.Laws.{StopsLeaveLogsOf}
use Rattle.cts_table.specs.Keeping.{IsKept}
use Rattle.cts_trace.specs.Makers.{of_maker}
use Rattle.cts_server.specs.Aims.{desk_aims, line_aims, slot_aims}
use Rattle.cts_server.specs.Cancelled.{cancellations, is_set, worker_count}
use Rattle.cts_server.specs.Desks.{DeskRule}
use Rattle.cts_server.specs.Owed.{DeskDid, DeskOwes, LineOwes, ScribeOwes, server_basis}
use Rattle.cts_server.specs.Places.{AimedAtMost, CameBack}
use Rattle.cts_server.specs.declared.worked.Worked.{Worked}

module _ {D Q V : Type 0} (line_seen : D → LineSeen) (door_seen : Q → LineSeen) (vault_seen : V → VaultSeen) (site : SiteData) where
  -- The workers of a site worked, by what its devices of each kind showed before and show now, where this is what a desk owes: the site is
  -- sound, the history is legal, the server itself has no entry in it, what a stop leaves of its logs is readable, each worker owes what its
  -- kind owes, and all were the jobs of one `all` of the crew, with some more after those of the workers, of which these were cancelled.
  pub record ServedBy (rule : DeskRule) (more : List Bool) (digest : List ℕ) (w : Worked) (dialers dialers' : List (Option D))
      (at_slots at_slots' at_desks at_desks' : List (Option Q)) (vault vault' : Option V) (crew crew' : CrewSeen) : Type 0 where
    pub sound : IsSoundSite site
    pub legal : IsKept (server_basis site) w.history
    pub silent : of_maker server w.history ≡ []
    pub readable : StopsLeaveLogsOf site w.history digest
    pub interfaces : CameBack (LineOwes line_seen site w.history) 0 (line_aims site) dialers dialers' (take (length site.interfaces) w.lines)
    pub slots : CameBack (LineOwes door_seen site w.history) first_slot (slot_aims site) at_slots at_slots' (drop (length site.interfaces) w.lines)
    pub desks : CameBack (DeskDid door_seen site w.history rule) first_desk (desk_aims site) at_desks at_desks' w.desks
    pub scribe : ScribeOwes vault_seen site digest w.history vault vault' w.scribe
    pub jobs : crew' ≡ with_cancelled (with_jobs crew (worker_count site + length more)) (count_by is_set (cancellations w ++ more))
    pub exact : crew.in_turn ≡ true → CancelledFrom is_set crew.refused 0 (cancellations w ++ more)

  -- The same where desks read in holds of the turn, so that each response of a desk is of a beginning of the history, and where the workers
  -- are all the jobs.
  pub record ServedParts (digest : List ℕ) (w : Worked) (dialers dialers' : List (Option D)) (at_slots at_slots' at_desks at_desks' : List (Option Q))
      (vault vault' : Option V) (crew crew' : CrewSeen) : Type 0 where
    pub sound : IsSoundSite site
    pub legal : IsKept (server_basis site) w.history
    pub silent : of_maker server w.history ≡ []
    pub readable : StopsLeaveLogsOf site w.history digest
    pub interfaces : CameBack (LineOwes line_seen site w.history) 0 (line_aims site) dialers dialers' (take (length site.interfaces) w.lines)
    pub slots : CameBack (LineOwes door_seen site w.history) first_slot (slot_aims site) at_slots at_slots' (drop (length site.interfaces) w.lines)
    pub desks : CameBack (DeskOwes door_seen site w.history) first_desk (desk_aims site) at_desks at_desks' w.desks
    pub tied : AllByRecursion (λ note. note.tied ≡ true) w.desks
    pub scribe : ScribeOwes vault_seen site digest w.history vault vault' w.scribe
    pub jobs : crew' ≡ with_cancelled (with_jobs crew (worker_count site)) (count_by is_set (cancellations w))
    pub exact : crew.in_turn ≡ true → CancelledFrom is_set crew.refused 0 (cancellations w)

  -- The same of all doors, of which those of the slots are the first.
  abbrev pub HasServed : List ℕ → Worked → List (Option D) → List (Option D) → List (Option Q) → List (Option Q) → Option V → Option V → CrewSeen
      → CrewSeen → Type 0
  HasServed digest w dialers dialers' doors doors' vault vault' crew crew' =
      ServedParts digest w dialers dialers' (take most_slots doors) (take most_slots doors') (drop most_slots doors)
      (drop most_slots doors') vault vault' crew crew'

  -- No worker worked: devices were aimed at most, and nothing was cancelled.
  pub record IdledParts (dialers dialers' : List (Option D)) (at_slots at_slots' at_desks at_desks' : List (Option Q)) (vault vault' : Option V)
      (crew crew' : CrewSeen) : Type 0 where
    pub interfaces : AimedAtMost line_seen (line_aims site) dialers dialers'
    pub slots : AimedAtMost door_seen (slot_aims site) at_slots at_slots'
    pub desks : AimedAtMost door_seen (desk_aims site) at_desks at_desks'
    pub kept : vault' ≡ vault
    pub jobs : crew'.faults ≡ crew.faults

  abbrev pub HasIdled : List (Option D) → List (Option D) → List (Option Q) → List (Option Q) → Option V → Option V → CrewSeen → CrewSeen → Type 0
  HasIdled dialers dialers' doors doors' vault vault' crew crew' =
      IdledParts dialers dialers' (take most_slots doors) (take most_slots doors') (drop most_slots doors) (drop most_slots doors') vault vault' crew crew'
