-- What a worker has seen at its end is how the history begins.
use Rattle.std.proofs.Common.{◌≡◌, ℕ, List, refl, [], ◌++◌, ◌∙◌, ap, sym, append-nil}
use Rattle.cts_def.specs.Sites.{SiteData}
use Rattle.cts_entry.specs.declared.entry.Entry.{Entry}
use Rattle.cts_scribe.specs.Ending.{stops_all}
use Rattle.cts_scribe.specs.Following.{Ends}
use Rattle.cts_scribe.specs.declared.ending.ScribeWhy.{ScribeWhy}
use Rattle.cts_trace.specs.Makers.{of_maker}
use Rattle.cts_trace.proofs.Others.{of_maker_append}
use Rattle.cts_turn.specs.Lists.{StartsWith}
use Rattle.cts_worker.specs.Lasts.{first_moment, last_entries}
use Rattle.cts_worker.proofs.Lasting.{last_own}
use Rattle.cts_server.specs.Scribes.{EndedScribe}
use Rattle.cts_server.specs.Workers.{LastLook}

pub begins_all : (seen all : List Entry) → seen ≡ all → StartsWith seen all
begins_all seen all e = ([], e ∙ sym (append-nil all))

-- a worker's own end is its last look
pub look_all : (by : ℕ) (seen : List Entry) → LastLook by seen seen
look_all by seen = record { begins = begins_all seen seen refl; own = refl }

pub ended_scribe : (site : SiteData) (by : ℕ) (why : ScribeWhy) (seen : List Entry) (cursor : ℕ) → Ends site by why seen cursor
    → EndedScribe site by why seen cursor
ended_scribe site by why seen cursor e =
    let last : List Entry = last_entries (stops_all why) by first_moment e.stood in
    record {
      stood = e.stood;
      begins = begins_all seen (e.stood ++ last) e.seen_is;
      silent = e.silent;
      own = ap (of_maker by) e.seen_is ∙ (of_maker_append by e.stood last
          ∙ (ap (λ (l : List Entry). l ++ of_maker by last) e.silent ∙ last_own by first_moment (stops_all why) e.stood));
      within = e.within;
      drained = e.drained;
    }
