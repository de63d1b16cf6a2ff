-- What a desk that reads from a pane and the publisher owe goes on to hold when others append.
use Rattle.std.proofs.Common.{◌≡◌, ℕ, List, ◌∙◌, ap, true, inl, inr}
use Rattle.cts_def.specs.Sites.{SiteData}
use Rattle.cts_desk.specs.declared.ending.DeskWhy.{DeskWhy}
use Rattle.cts_entry.specs.declared.entry.Entry.{Entry}
use Rattle.cts_entry.specs.Histories.{is_stopped}
use Rattle.cts_outside.specs.Seen.{LineSeen}
use Rattle.cts_publisher.specs.Publishing.{publisher}
use Rattle.cts_publisher.specs.declared.ending.PublisherWhy.{PublisherWhy}
use Rattle.cts_snap.specs.Copies.{Writes}
use Rattle.cts_table.specs.declared.basis.Basis.{Basis}
use Rattle.cts_trace.specs.Makers.{LastEnded, of_maker}
use Rattle.cts_trace.proofs.Looking.{stop_kept}
use Rattle.cts_turn.specs.Lists.{StartsWith}
use Rattle.cts_turn.proofs.ManyPasses.{begins_on}
use Rattle.cts_snap_server.specs.Lasting.{Lasts}
use Rattle.cts_snap_server.specs.Publishers.{OwesPublisher}
use Rattle.cts_snap_server.specs.SnapDesks.{OwesSnapDesk, PaneSeen}

last_on : (by : ℕ) (seen whole : List Entry) → of_maker by whole ≡ of_maker by seen → LastEnded by seen → LastEnded by whole
last_on by seen whole own last = (last.0, last.1, own ∙ last.2, last.3)

stop_on : (seen whole : List Entry) → StartsWith whole seen → is_stopped seen ≡ true → is_stopped whole ≡ true
stop_on seen whole begins stopped = ap is_stopped begins.1 ∙ stop_kept seen begins.0 stopped

module _ (basis : Basis) (by : ℕ) (found : List ℕ) (old new : LineSeen) (before now : PaneSeen) (fronts : List ℕ) (why : DeskWhy) where
  pub snap_desk_lasts : Lasts by (λ (history : List Entry). OwesSnapDesk basis by found history old new before now fronts why)
  snap_desk_lasts seen whole begins own (inl r) = inl (record {
    seen = r.seen;
    begins = begins_on r.seen seen whole r.begins begins;
    own = own ∙ r.own;
    ends = r.ends;
    ended = last_on by seen whole own r.ended;
    cause = r.cause;
    failed = r.failed;
    stops = r.stops;
    faults = r.faults;
    aim = r.aim;
    idle = r.idle;
  })
  snap_desk_lasts seen whole begins own (inr u) = inr (record {
    stood = u.stood;
    begins = begins_on u.stood seen whole u.begins begins;
    own = own ∙ u.own;
    stopped = stop_on seen whole begins u.stopped;
    same = u.same;
    unread = u.unread;
    none = u.none;
    cancelled = u.cancelled;
  })

module _ (site : SiteData) (now : Writes) (why : PublisherWhy) where
  pub publisher_lasts : Lasts publisher (λ (history : List Entry). OwesPublisher site history now why)
  publisher_lasts seen whole begins own o = record {
    silent = own ∙ o.silent;
    did = elim o.did [
      | inl r ↦ inl (record {
        seen = r.seen;
        begins = begins_on r.seen seen whole r.begins begins;
        published = r.published;
        list = r.list;
        ends = r.ends;
      })
      | inr u ↦ inr u
    ];
  }
