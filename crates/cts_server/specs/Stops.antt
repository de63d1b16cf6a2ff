-- Why a server was stopped.
use Rattle.std.specs.Prelude.{◌≡◌, ◌⊎◌, ℕ, Bool, true, false, List, ◌++◌, Option, None}
use Rattle.std.specs.List.{AllByRecursion, list_any}
use Rattle.cts_def.specs.Sites.{SiteData}
use Rattle.cts_desk.specs.Ending.{stops_all as desk_stops}
use Rattle.cts_desk.specs.Exchanges.{Exchange, IsAnswered}
use Rattle.cts_desk.specs.declared.ending.DeskWhy.{DeskWhy}
use Rattle.cts_desk.specs.declared.ending.DeskWhy.TheVariants as desk
use Rattle.cts_entry.specs.Histories.{is_stopped}
use Rattle.cts_entry.specs.Workers.{is_desk}
use Rattle.cts_entry.specs.declared.entry.Entry.{Entry}
use Rattle.cts_line.specs.Ending.{stops_all as line_stops}
use Rattle.cts_line.specs.declared.ending.LineWhy.{LineWhy}
use Rattle.cts_line.specs.declared.ending.LineWhy.TheVariants as line
use Rattle.cts_outside.specs.Seen.{CrewSeen, LineSeen, VaultSeen}
use Rattle.cts_scribe.specs.Ending.{stops_all as scribe_stops}
use Rattle.cts_server.specs.Owed.{server_basis}
use Rattle.cts_server.specs.Serving.{HasServed}
use Rattle.cts_server.specs.Troubles.{trouble_of}
use Rattle.cts_server.specs.declared.worked.Worked.{Worked}
use Rattle.cts_table.specs.declared.basis.Basis.{Basis}

-- A request of a client of this desk has a Stop among the entries of its reply, which stand at this place of the history.
pub record IsAskedToStop (basis : Basis) (by : ℕ) (history : List Entry) : Type 0 where
  pub exchange : Exchange
  pub before : List Entry
  pub added : List Entry
  pub later : List Entry
  pub there : history ≡ before ++ (added ++ later)
  pub answered : IsAnswered basis by before exchange added
  pub stops : is_stopped added ≡ true

-- A client asked one of the site's desks for the Stop.
abbrev pub IsAsked : SiteData → List Entry → Type 0
IsAsked site history = (by : ℕ) × (is_desk site by ≡ true) × IsAskedToStop (server_basis site) by history

-- A line, a desk or the scribe ended for a reason that stops the server, or a client asked for it.
abbrev pub IsCaused : SiteData → Worked → Type 0
IsCaused site w =
    (list_any line_stops w.lines ≡ true) ⊎ ((list_any (λ n. desk_stops n.why) w.desks ≡ true) ⊎ ((scribe_stops w.scribe ≡ true) ⊎ IsAsked site w.history))

-- a line that has ended for good though nobody stopped the server: its device finished, or failed and it does not connect again
abbrev pub is_gone_line : LineWhy → Bool
is_gone_line line.Finished = true
is_gone_line line.NoReconnect = true
is_gone_line why = false

-- the same of a desk: its door has no more clients
abbrev pub is_gone_desk : DeskWhy → Bool
is_gone_desk desk.Finished = true
is_gone_desk why = false

-- All devices of lines and desks ended for good.
pub record HaveGone (w : Worked) : Type 0 where
  pub lines : AllByRecursion (λ why. is_gone_line why ≡ true) w.lines
  pub desks : AllByRecursion (λ n. is_gone_desk n.why ≡ true) w.desks

module _ {D Q V : Type 0} (line_seen : D → LineSeen) (door_seen : Q → LineSeen) (vault_seen : V → VaultSeen) where
  -- Where the workers of a site worked, a Stop in their history has its cause.
  abbrev pub StopsAreCaused : Type 0
  StopsAreCaused = (site : SiteData) (digest : List ℕ) (w : Worked) (dialers dialers' : List (Option D)) (doors doors' : List (Option Q))
      (vault vault' : Option V) (crew crew' : CrewSeen)
      → HasServed line_seen door_seen vault_seen site digest w dialers dialers' doors doors' vault vault' crew crew' → is_stopped w.history ≡ true
      → IsCaused site w

  -- And where no trouble shows in what they left, as the status 0 says, it was asked for; without a Stop all devices ended for good.
  abbrev pub PlainEndsAreCaused : Type 0
  PlainEndsAreCaused = (site : SiteData) (digest : List ℕ) (w : Worked) (dialers dialers' : List (Option D)) (doors doors' : List (Option Q))
      (vault vault' : Option V) (crew crew' : CrewSeen) (written : Bool)
      → HasServed line_seen door_seen vault_seen site digest w dialers dialers' doors doors' vault vault' crew crew'
      → trouble_of (record { written = written; lines = w.lines; desks = w.desks; scribe = w.scribe; history = w.history }) ≡ None
      → ((is_stopped w.history ≡ true) × IsAsked site w.history) ⊎ ((is_stopped w.history ≡ false) × HaveGone w)
