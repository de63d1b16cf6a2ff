-- How a running core may keep a maker's cursor.
use Rattle.std.specs.Prelude.{◌≡◌, ℕ, ◌+◌, List, ◌++◌, length}
use Rattle.cts_entry.specs.declared.entry.Entry.{Entry}
use Rattle.cts_entry.specs.Histories.{since}
use Rattle.cts_entry.specs.Queues.{refused}
use Rattle.cts_trace.specs.Routing.{spell, queue, walk}
use Rattle.cts_core.specs.States.{Environment, State}

-- A maker has passed the history up to a place; of the entries of its queue that it passed, a number was refused.
pub record IsPassed (env : Environment) (s : State) (by place count : ℕ) : Type 0 where
  pub behind : List Entry
  pub beyond : List Entry
  pub since_is : since by s.history ≡ behind ++ beyond
  pub place_is : place + length beyond ≡ length s.history
  pub cursor_is : s.cursor by ≡ length (walk env.routing by behind)
  pub count_is : count ≡ refused (spell env.routing by) (queue env.routing by behind)
