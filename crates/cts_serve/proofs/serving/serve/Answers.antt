use Rattle.std.proofs.Common.{◌≡◌, true, List, ℕ, Option, None, Ok, Err, refl, sym, ◌∙◌, ap, subst, ◌<◌, ◌⊎◌, inl, inr}
use Rattle.std.specs.Prelude.{map}
use Rattle.cts_server.specs.Troubles.{has_closed, trouble_of}
use Rattle.cts_server.specs.declared.outcome.trouble.Trouble.TheVariants.{HistoryFull as FullHistory}
use Rattle.cts_entry.specs.declared.entry.Entry.{Entry}
use Rattle.cts_entry.specs.Histories.{entries_in}
use Rattle.cts_entry.specs.Legal.{most_entries}
use Rattle.cts_def.specs.Sites.{SiteData}
use Rattle.cts_server.specs.Ready.{ready_line}
use Rattle.cts_server.specs.declared.worked.Worked.{Worked}
use Rattle.cts_run.specs.Command.{ShelfAt, first_phases}
use Rattle.cts_run.specs.Endings.{EndsHalted}
use Rattle.cts_run.specs.Laws.{IsShortOf}
use Rattle.cts_run.specs.Load.{site_asked}
use Rattle.cts_run.specs.Command.{LeavesShelf}
use Rattle.cts_run.specs.Phases.{first_halt}
use Rattle.cts_serve.specs.Served.{EndsServing, left, serves_on}
use Rattle.cts_serve.specs.Serving.{HaltsServing, IsPlanned, UnstartedBy, worked_of}
use Rattle.cts_server.specs.Headline.{Headline}
use Rattle.cts_server.specs.Serving.{HasServed}
use Rattle.cts_server.proofs.Headlines.{headline_holds}
use Rattle.cts_run.specs.Start.{short_halt}
use Rattle.cts_serve.specs.Words.{asked_to_serve}
use Rattle.cts_run.specs.declared.halt.status.Status.{Status}
use Rattle.cts_run.specs.declared.halt.status.Status.TheVariants as status
use Rattle.cts_run.proofs.CommandLemmas.{never_some, no_vault, shelf_status, steady_rose}
use Rattle.cts_run.proofs.EndingLemmas.{caused}
use Rattle.cts_serve.proofs.HostLemmas.{fitting_status, some_plan, unserved_logs, unserved_status}
use Rattle.cts_serve.proofs.ServeLemmas.{asked_not, complete_by, halts_serving, in_if, in_none, in_there, none_status, phase_status, reason_status}
use Rattle.cts_serve.proofs.ServeLemmas.{shelf_started, short_by, short_reason, told_asked, told_both, told_is_asked, told_one, told_unasked, un_full}
use Rattle.cts_serve.proofs.ServeLemmas.{un_if, un_started, un_status, un_there}
use Rattle.cts_serve.proofs.ServedLemmas.{full_is_told, never_absent, never_read, never_shelf, never_usage_told, ready_end, served_door, served_fine}
use Rattle.cts_serve.proofs.ServedLemmas.{served_full, served_log, served_worker, served_write}
use Rattle.cts_serve.proofs.serving.serve.Goals as goal

-- ---- the words ask for no server

pub returns-in-None-clause-starts : goal.returns-in-None-clause-starts
returns-in-None-clause-starts g c = record {
  started =
      let is_so = c.unstarted-in-None.ensures.status ∙ c.end_misused.ensures.status in
      let off = ap serves_on is_so in
      let nothing = c.unstarted-in-None.ensures.nothing in
      un_started c.unstarted-in-None.result off nothing;
  nothing =
      λ none. c.unstarted-in-None.ensures.nothing;
  planned =
      let is_so = c.unstarted-in-None.ensures.status ∙ c.end_misused.ensures.status in
      let off = ap serves_on is_so in
      let nothing = c.unstarted-in-None.ensures.nothing in
      λ some. un_there c.unstarted-in-None.result off nothing some;
  halted =
      let none = sym c.in-None.ensures in
      λ e. told_unasked ((g.F.Files.seen c.args.files.now).told) (asked_to_serve (map (λ w. w.now) c.args.words.now))
      (λ all n. HaltsServing (first_phases (g.B.Stocked.stock c.args.shelf.now) all n.0 n.1) c.unstarted-in-None.result.status
      (g.O.Sink.seen c.args.out.now) (g.O.Sink.seen c.end_misused.new.out)) none;
}

pub returns-in-None-clause-served : goal.returns-in-None-clause-served
returns-in-None-clause-served g c =
    let is_so = c.unstarted-in-None.ensures.status ∙ c.end_misused.ensures.status in
    let off = ap serves_on is_so in
    let nothing = c.unstarted-in-None.ensures.nothing in
    un_if c.unstarted-in-None.result off nothing _

pub returns-in-None-clause-ends : goal.returns-in-None-clause-ends
returns-in-None-clause-ends g c =
    let is_so = c.unstarted-in-None.ensures.status ∙ c.end_misused.ensures.status in
    let off = ap serves_on is_so in
    let nothing = c.unstarted-in-None.ensures.nothing in
    un_if c.unstarted-in-None.result off nothing _

pub returns-in-None-clause-idle : goal.returns-in-None-clause-idle
returns-in-None-clause-idle g c =
    let p = some_plan ((g.F.Files.seen c.args.files.now).told) (asked_to_serve (map (λ w. w.now) c.args.words.now)) in
    λ e. (p.0, p.1, p.2, record { interfaces = inl refl; slots = inl refl; desks = inl refl; kept = refl; jobs = refl })

pub returns-in-None-clause-fine : goal.returns-in-None-clause-fine
returns-in-None-clause-fine g c =
    let is_so = c.unstarted-in-None.ensures.status ∙ c.end_misused.ensures.status in
    let off = ap serves_on is_so in
    let nothing = c.unstarted-in-None.ensures.nothing in
    λ e. un_status c.unstarted-in-None.result off nothing status.Ok refl e

pub returns-in-None-clause-faults : goal.returns-in-None-clause-faults
returns-in-None-clause-faults g c = record {
  read =
      let is_so = c.unstarted-in-None.ensures.status ∙ c.end_misused.ensures.status in
      λ e. absurd (cc (sym is_so ∙ e));
  absent =
      let is_so = c.unstarted-in-None.ensures.status ∙ c.end_misused.ensures.status in
      λ e. absurd (cc (sym is_so ∙ e));
  write =
      let is_so = c.unstarted-in-None.ensures.status ∙ c.end_misused.ensures.status in
      λ e. absurd (cc (sym is_so ∙ e));
  log =
      let is_so = c.unstarted-in-None.ensures.status ∙ c.end_misused.ensures.status in
      let off = ap serves_on is_so in
      let nothing = c.unstarted-in-None.ensures.nothing in
      λ e. un_status c.unstarted-in-None.result off nothing status.LogFault refl e;
  worker =
      let is_so = c.unstarted-in-None.ensures.status ∙ c.end_misused.ensures.status in
      let off = ap serves_on is_so in
      let nothing = c.unstarted-in-None.ensures.nothing in
      λ e. un_status c.unstarted-in-None.result off nothing status.NoWorker refl e;
  door =
      let is_so = c.unstarted-in-None.ensures.status ∙ c.end_misused.ensures.status in
      let off = ap serves_on is_so in
      let nothing = c.unstarted-in-None.ensures.nothing in
      λ e. un_status c.unstarted-in-None.result off nothing status.DoorFault refl e;
}

pub returns-in-None-clause-full : goal.returns-in-None-clause-full
returns-in-None-clause-full g c = record {
  cause =
      let is_so = c.unstarted-in-None.ensures.status ∙ c.end_misused.ensures.status in
      let off = ap serves_on is_so in
      let nothing = c.unstarted-in-None.ensures.nothing in
      λ e. un_status c.unstarted-in-None.result off nothing status.HistoryFull refl e;
  told =
      let is_so = c.unstarted-in-None.ensures.status ∙ c.end_misused.ensures.status in
      let off = ap serves_on is_so in
      let nothing = c.unstarted-in-None.ensures.nothing in
      λ closed. un_full c.unstarted-in-None.result off nothing closed;
}

pub returns-in-None-clause-usage : goal.returns-in-None-clause-usage
returns-in-None-clause-usage g c = record {
  exact =
      let none = sym c.in-None.ensures in
      let is_so = c.unstarted-in-None.ensures.status ∙ c.end_misused.ensures.status in
      (λ e. none, λ e. is_so);
  misused =
      λ e. c.end_misused.ensures.printed;
}

pub returns-in-None-clause-shelf : goal.returns-in-None-clause-shelf
returns-in-None-clause-shelf g c = record {
  short =
      let is_so = c.unstarted-in-None.ensures.status ∙ c.end_misused.ensures.status in
      λ e. absurd (cc (sym is_so ∙ e));
  exact =
      let none = sym c.in-None.ensures in
      λ steady. told_unasked ((g.F.Files.seen c.args.files.now).told) (asked_to_serve (map (λ w. w.now) c.args.words.now))
      (λ all n. IsShortOf (g.B.Stocked.stock c.args.shelf.now) all n.0 n.1 → (c.unstarted-in-None.result.status ≡ status.ShelfEmpty)
      ⊎ (c.unstarted-in-None.result.status ≡ status.Memory)) none;
}

pub returns-in-None-clause-complete : goal.returns-in-None-clause-complete
returns-in-None-clause-complete g c =
    let none = sym c.in-None.ensures in
    λ sf sa so sv sw dials closed room. told_unasked ((g.F.Files.seen c.args.files.now).told) (asked_to_serve (map (λ w. w.now) c.args.words.now))
    (λ all n. first_halt (first_phases (g.B.Stocked.stock c.args.shelf.now) all n.0 n.1) ≡ None → (c.unstarted-in-None.result.status ≡ status.Ok)
    ⊎ (c.unstarted-in-None.result.status ≡ status.Memory)) none

pub returns-in-None-clause-untouched : goal.returns-in-None-clause-untouched
returns-in-None-clause-untouched g c =
    λ e. refl

pub returns-in-None-clause-boxes : goal.returns-in-None-clause-boxes
returns-in-None-clause-boxes g c =
    let none = sym c.in-None.ensures in
    told_unasked ((g.F.Files.seen c.args.files.now).told) (asked_to_serve (map (λ w. w.now) c.args.words.now))
    (λ all n. ShelfAt (site_asked all n.0 n.1) (first_halt (first_phases (g.B.Stocked.stock c.args.shelf.now) all n.0 n.1))
    c.unstarted-in-None.result.status (g.B.Stocked.stock c.args.shelf.now) (g.B.Stocked.stock c.args.shelf.now)) none

-- ---- it was not started

pub returns-in-Err-clause-starts : goal.returns-in-Err-clause-starts
returns-in-Err-clause-starts g c = record {
  started =
      let is_so = c.unstarted.ensures.status in
      let off = ap serves_on is_so ∙ unserved_status c.in-Err.halt c.end.result (g.O.Sink.seen c.host.new.out)
      (g.O.Sink.seen c.end.new.out) c.in-Err.ensures.unserved c.end.ensures in
      let nothing = c.unstarted.ensures.nothing in
      un_started c.unstarted.result off nothing;
  nothing =
      λ none. c.unstarted.ensures.nothing;
  planned =
      let is_so = c.unstarted.ensures.status in
      let off = ap serves_on is_so ∙ unserved_status c.in-Err.halt c.end.result (g.O.Sink.seen c.host.new.out)
      (g.O.Sink.seen c.end.new.out) c.in-Err.ensures.unserved c.end.ensures in
      let nothing = c.unstarted.ensures.nothing in
      λ some. un_there c.unstarted.result off nothing some;
  halted =
      let same = sym c.in-Some.ensures in
      let is_so = c.unstarted.ensures.status in
      λ none. told_asked ((g.F.Files.seen c.args.files.now).told) (asked_to_serve (map (λ w. w.now) c.args.words.now))
      (c.in-Some.definitions, c.in-Some.site) same (λ all n. HaltsServing (first_phases (g.B.Stocked.stock c.args.shelf.now) all n.0 n.1)
      c.unstarted.result.status (g.O.Sink.seen c.args.out.now) (g.O.Sink.seen c.end.new.out))
      (told_one ((g.F.Files.seen c.args.files.now).told) (λ all. UnstartedBy
      (first_phases (g.B.Stocked.stock c.args.shelf.now) all c.in-Some.definitions c.in-Some.site) c.in-Err.halt (g.O.Sink.seen c.args.out.now)
      (g.O.Sink.seen c.host.new.out)) (λ all. HaltsServing
      (first_phases (g.B.Stocked.stock c.args.shelf.now) all c.in-Some.definitions c.in-Some.site) c.unstarted.result.status
      (g.O.Sink.seen c.args.out.now) (g.O.Sink.seen c.end.new.out))
      (λ all u. halts_serving (first_phases (g.B.Stocked.stock c.args.shelf.now) all c.in-Some.definitions c.in-Some.site) c.in-Err.halt
      c.unstarted.result.status (g.O.Sink.seen c.args.out.now) (g.O.Sink.seen c.host.new.out) (g.O.Sink.seen c.end.new.out) u
      (subst (λ (s : Status). EndsHalted c.in-Err.halt s (g.O.Sink.seen c.host.new.out) (g.O.Sink.seen c.end.new.out)) (sym is_so) c.end.ensures))
      c.in-Err.ensures.halts);
}

pub returns-in-Err-clause-served : goal.returns-in-Err-clause-served
returns-in-Err-clause-served g c =
    let is_so = c.unstarted.ensures.status in
    let off = ap serves_on is_so ∙ unserved_status c.in-Err.halt c.end.result (g.O.Sink.seen c.host.new.out)
    (g.O.Sink.seen c.end.new.out) c.in-Err.ensures.unserved c.end.ensures in
    let nothing = c.unstarted.ensures.nothing in
    un_if c.unstarted.result off nothing _

pub returns-in-Err-clause-ends : goal.returns-in-Err-clause-ends
returns-in-Err-clause-ends g c =
    let is_so = c.unstarted.ensures.status in
    let off = ap serves_on is_so ∙ unserved_status c.in-Err.halt c.end.result (g.O.Sink.seen c.host.new.out)
    (g.O.Sink.seen c.end.new.out) c.in-Err.ensures.unserved c.end.ensures in
    let nothing = c.unstarted.ensures.nothing in
    un_if c.unstarted.result off nothing _

pub returns-in-Err-clause-idle : goal.returns-in-Err-clause-idle
returns-in-Err-clause-idle g c =
    let same = sym c.in-Some.ensures in
    let i = c.in-Err.ensures.idle in
    λ none. (i.0, i.1, subst (λ (o : Option (List ℕ × List ℕ)). IsPlanned ((g.F.Files.seen c.args.files.now).told) o i.0 i.1) (sym same) i.2, i.3)

pub returns-in-Err-clause-fine : goal.returns-in-Err-clause-fine
returns-in-Err-clause-fine g c =
    let is_so = c.unstarted.ensures.status in
    let off = ap serves_on is_so ∙ unserved_status c.in-Err.halt c.end.result (g.O.Sink.seen c.host.new.out)
    (g.O.Sink.seen c.end.new.out) c.in-Err.ensures.unserved c.end.ensures in
    let nothing = c.unstarted.ensures.nothing in
    λ e. un_status c.unstarted.result off nothing status.Ok refl e

pub returns-in-Err-clause-faults : goal.returns-in-Err-clause-faults
returns-in-Err-clause-faults g c = record {
  read =
      λ e. (caused _ _ _ _ _ no_vault no_vault (Err c.in-Err.halt) _ c.in-Err.ensures.files c.in-Err.ensures.sink
      (unserved_logs c.in-Err.halt c.in-Err.ensures.unserved) c.end.ensures).read (sym c.unstarted.ensures.status ∙ e);
  absent =
      λ e. (caused _ _ _ _ _ no_vault no_vault (Err c.in-Err.halt) _ c.in-Err.ensures.files c.in-Err.ensures.sink
      (unserved_logs c.in-Err.halt c.in-Err.ensures.unserved) c.end.ensures).absent (sym c.unstarted.ensures.status ∙ e);
  write =
      λ e. (caused _ _ _ _ _ no_vault no_vault (Err c.in-Err.halt) _ c.in-Err.ensures.files c.in-Err.ensures.sink
      (unserved_logs c.in-Err.halt c.in-Err.ensures.unserved) c.end.ensures).write (sym c.unstarted.ensures.status ∙ e);
  log =
      let is_so = c.unstarted.ensures.status in
      let off = ap serves_on is_so ∙ unserved_status c.in-Err.halt c.end.result (g.O.Sink.seen c.host.new.out)
      (g.O.Sink.seen c.end.new.out) c.in-Err.ensures.unserved c.end.ensures in
      let nothing = c.unstarted.ensures.nothing in
      λ e. un_status c.unstarted.result off nothing status.LogFault refl e;
  worker =
      let is_so = c.unstarted.ensures.status in
      let off = ap serves_on is_so ∙ unserved_status c.in-Err.halt c.end.result (g.O.Sink.seen c.host.new.out)
      (g.O.Sink.seen c.end.new.out) c.in-Err.ensures.unserved c.end.ensures in
      let nothing = c.unstarted.ensures.nothing in
      λ e. un_status c.unstarted.result off nothing status.NoWorker refl e;
  door =
      let is_so = c.unstarted.ensures.status in
      let off = ap serves_on is_so ∙ unserved_status c.in-Err.halt c.end.result (g.O.Sink.seen c.host.new.out)
      (g.O.Sink.seen c.end.new.out) c.in-Err.ensures.unserved c.end.ensures in
      let nothing = c.unstarted.ensures.nothing in
      λ e. un_status c.unstarted.result off nothing status.DoorFault refl e;
}

pub returns-in-Err-clause-full : goal.returns-in-Err-clause-full
returns-in-Err-clause-full g c = record {
  cause =
      let is_so = c.unstarted.ensures.status in
      let off = ap serves_on is_so ∙ unserved_status c.in-Err.halt c.end.result (g.O.Sink.seen c.host.new.out)
      (g.O.Sink.seen c.end.new.out) c.in-Err.ensures.unserved c.end.ensures in
      let nothing = c.unstarted.ensures.nothing in
      λ e. un_status c.unstarted.result off nothing status.HistoryFull refl e;
  told =
      let is_so = c.unstarted.ensures.status in
      let off = ap serves_on is_so ∙ unserved_status c.in-Err.halt c.end.result (g.O.Sink.seen c.host.new.out)
      (g.O.Sink.seen c.end.new.out) c.in-Err.ensures.unserved c.end.ensures in
      let nothing = c.unstarted.ensures.nothing in
      λ closed. un_full c.unstarted.result off nothing closed;
}

pub returns-in-Err-clause-usage : goal.returns-in-Err-clause-usage
returns-in-Err-clause-usage g c = record {
  exact =
      let same = sym c.in-Some.ensures in (
        λ e. absurd (fitting_status c.in-Err.halt _ _ _ c.in-Err.ensures.fits c.end.ensures (sym c.unstarted.ensures.status ∙ e)),
        λ none. asked_not None
            (asked_to_serve (map (λ w. w.now) c.args.words.now)) (c.in-Some.definitions, c.in-Some.site) same none,
      );
  misused =
      let same = sym c.in-Some.ensures in
      λ none. asked_not None (asked_to_serve (map (λ w. w.now) c.args.words.now)) (c.in-Some.definitions, c.in-Some.site) same none;
}

pub returns-in-Err-clause-shelf : goal.returns-in-Err-clause-shelf
returns-in-Err-clause-shelf g c = record {
  short =
      let same = sym c.in-Some.ensures in
      let is_so = c.unstarted.ensures.status in
      λ e.
      let own = sym is_so ∙ e in
      told_is_asked ((g.F.Files.seen c.args.files.now).told) (asked_to_serve (map (λ w. w.now) c.args.words.now))
      (c.in-Some.definitions, c.in-Some.site) same (λ all n. IsShortOf (g.B.Stocked.stock c.args.shelf.now) all n.0 n.1)
      (told_one ((g.F.Files.seen c.args.files.now).told) (λ all. UnstartedBy
      (first_phases (g.B.Stocked.stock c.args.shelf.now) all c.in-Some.definitions c.in-Some.site) c.in-Err.halt (g.O.Sink.seen c.args.out.now)
      (g.O.Sink.seen c.host.new.out)) (λ all. IsShortOf (g.B.Stocked.stock c.args.shelf.now) all c.in-Some.definitions c.in-Some.site)
      (λ all u.
      let f = phase_status (first_phases (g.B.Stocked.stock c.args.shelf.now) all c.in-Some.definitions c.in-Some.site) c.end.result
      (g.O.Sink.seen c.args.out.now) (g.O.Sink.seen c.end.new.out)
      (halts_serving (first_phases (g.B.Stocked.stock c.args.shelf.now) all c.in-Some.definitions c.in-Some.site) c.in-Err.halt c.end.result
      (g.O.Sink.seen c.args.out.now) (g.O.Sink.seen c.host.new.out) (g.O.Sink.seen c.end.new.out) u c.end.ensures) (λ m. absurd (cc (sym own ∙ m)))
      (λ r. absurd (cc (sym own ∙ r))) (λ w. absurd (cc (sym own ∙ w))) in
      short_by (g.B.Stocked.stock c.args.shelf.now) all c.in-Some.definitions c.in-Some.site f.0 f.1 (sym f.2 ∙ own))
      c.in-Err.ensures.halts);
  exact =
      let same = sym c.in-Some.ensures in
      let is_so = c.unstarted.ensures.status in
      λ steady. told_asked ((g.F.Files.seen c.args.files.now).told) (asked_to_serve (map (λ w. w.now) c.args.words.now))
      (c.in-Some.definitions, c.in-Some.site) same (λ all n. IsShortOf (g.B.Stocked.stock c.args.shelf.now) all n.0 n.1
      → (c.unstarted.result.status ≡ status.ShelfEmpty) ⊎ (c.unstarted.result.status ≡ status.Memory))
      (told_one ((g.F.Files.seen c.args.files.now).told) (λ all. UnstartedBy
      (first_phases (g.B.Stocked.stock c.args.shelf.now) all c.in-Some.definitions c.in-Some.site) c.in-Err.halt (g.O.Sink.seen c.args.out.now)
      (g.O.Sink.seen c.host.new.out)) (λ all. IsShortOf (g.B.Stocked.stock c.args.shelf.now) all c.in-Some.definitions c.in-Some.site
      → (c.unstarted.result.status ≡ status.ShelfEmpty) ⊎ (c.unstarted.result.status ≡ status.Memory))
      (λ all u. λ short. subst (λ (s : Status). (s ≡ status.ShelfEmpty) ⊎ (s ≡ status.Memory)) (sym is_so)
      (reason_status (first_phases (g.B.Stocked.stock c.args.shelf.now) all c.in-Some.definitions c.in-Some.site) c.end.result
      (g.O.Sink.seen c.args.out.now) (g.O.Sink.seen c.end.new.out)
      (halts_serving (first_phases (g.B.Stocked.stock c.args.shelf.now) all c.in-Some.definitions c.in-Some.site) c.in-Err.halt c.end.result
      (g.O.Sink.seen c.args.out.now) (g.O.Sink.seen c.host.new.out) (g.O.Sink.seen c.end.new.out) u c.end.ensures)
      (short_halt (g.B.Stocked.stock c.args.shelf.now) (site_asked all c.in-Some.definitions c.in-Some.site) short.kind)
      (short_reason (g.B.Stocked.stock c.args.shelf.now) all c.in-Some.definitions c.in-Some.site short)
      (λ r. steady_rose _ _ steady ((returns-in-Err-clause-faults g c).read (is_so ∙ r))))) c.in-Err.ensures.halts);
}

pub returns-in-Err-clause-complete : goal.returns-in-Err-clause-complete
returns-in-Err-clause-complete g c =
    let same = sym c.in-Some.ensures in
    let is_so = c.unstarted.ensures.status in
    λ sf sa so sv sw dials closed room. told_asked ((g.F.Files.seen c.args.files.now).told) (asked_to_serve (map (λ w. w.now) c.args.words.now))
    (c.in-Some.definitions, c.in-Some.site) same (λ all n. first_halt (first_phases (g.B.Stocked.stock c.args.shelf.now) all n.0 n.1) ≡ None
    → (c.unstarted.result.status ≡ status.Ok) ⊎ (c.unstarted.result.status ≡ status.Memory))
    (told_one ((g.F.Files.seen c.args.files.now).told) (λ all. UnstartedBy
    (first_phases (g.B.Stocked.stock c.args.shelf.now) all c.in-Some.definitions c.in-Some.site) c.in-Err.halt (g.O.Sink.seen c.args.out.now)
    (g.O.Sink.seen c.host.new.out)) (λ all. first_halt (first_phases (g.B.Stocked.stock c.args.shelf.now) all c.in-Some.definitions
    c.in-Some.site) ≡ None → (c.unstarted.result.status ≡ status.Ok) ⊎ (c.unstarted.result.status ≡ status.Memory))
    (λ all u. λ none. inr (is_so ∙ none_status (first_phases (g.B.Stocked.stock c.args.shelf.now) all c.in-Some.definitions c.in-Some.site)
    c.end.result (g.O.Sink.seen c.args.out.now) (g.O.Sink.seen c.end.new.out)
    (halts_serving (first_phases (g.B.Stocked.stock c.args.shelf.now) all c.in-Some.definitions c.in-Some.site) c.in-Err.halt c.end.result
    (g.O.Sink.seen c.args.out.now) (g.O.Sink.seen c.host.new.out) (g.O.Sink.seen c.end.new.out) u c.end.ensures) none
    (λ r. steady_rose _ _ sf ((returns-in-Err-clause-faults g c).read (is_so ∙ r))) (λ w. steady_rose _ _ so ((returns-in-Err-clause-faults g c).write (is_so ∙ w)))))
    c.in-Err.ensures.halts)

pub returns-in-Err-clause-untouched : goal.returns-in-Err-clause-untouched
returns-in-Err-clause-untouched g c =
    let same = sym c.in-Some.ensures in
    λ none. asked_not None (asked_to_serve (map (λ w. w.now) c.args.words.now)) (c.in-Some.definitions, c.in-Some.site) same none

pub returns-in-Err-clause-boxes : goal.returns-in-Err-clause-boxes
returns-in-Err-clause-boxes g c =
    let same = sym c.in-Some.ensures in
    let is_so = c.unstarted.ensures.status in
    told_asked ((g.F.Files.seen c.args.files.now).told) (asked_to_serve (map (λ w. w.now) c.args.words.now))
    (c.in-Some.definitions, c.in-Some.site) same (λ all n. ShelfAt (site_asked all n.0 n.1)
    (first_halt (first_phases (g.B.Stocked.stock c.args.shelf.now) all n.0 n.1)) c.unstarted.result.status (g.B.Stocked.stock c.args.shelf.now)
    (g.B.Stocked.stock c.host.new.shelf))
    (told_one ((g.F.Files.seen c.args.files.now).told) (λ all. LeavesShelf all c.in-Some.definitions c.in-Some.site (Err c.in-Err.halt)
    (g.B.Stocked.stock c.args.shelf.now) (g.B.Stocked.stock c.host.new.shelf))
    (λ all. ShelfAt (site_asked all c.in-Some.definitions c.in-Some.site)
    (first_halt (first_phases (g.B.Stocked.stock c.args.shelf.now) all c.in-Some.definitions c.in-Some.site)) c.unstarted.result.status
    (g.B.Stocked.stock c.args.shelf.now) (g.B.Stocked.stock c.host.new.shelf))
    (λ all k. subst (λ (s : Status). ShelfAt (site_asked all c.in-Some.definitions c.in-Some.site)
    (first_halt (first_phases (g.B.Stocked.stock c.args.shelf.now) all c.in-Some.definitions c.in-Some.site)) s
    (g.B.Stocked.stock c.args.shelf.now) (g.B.Stocked.stock c.host.new.shelf)) (sym is_so)
    (shelf_status (site_asked all c.in-Some.definitions c.in-Some.site)
    (first_halt (first_phases (g.B.Stocked.stock c.args.shelf.now) all c.in-Some.definitions c.in-Some.site)) (Err c.in-Err.halt) c.end.result
    (g.B.Stocked.stock c.args.shelf.now) (g.B.Stocked.stock c.host.new.shelf) (g.O.Sink.seen c.host.new.out) (g.O.Sink.seen c.end.new.out) k c.end.ensures))
    c.in-Err.ensures.boxes)

-- ---- its workers have worked

pub returns-in-Ok-clause-starts : goal.returns-in-Ok-clause-starts
returns-in-Ok-clause-starts g c = record {
  started =
      λ on. in_there c.finish.result c.in-Ok.worked.scribe c.finish.ensures.scribe;
  nothing =
      λ none. in_none c.finish.result c.in-Ok.worked.scribe c.finish.ensures.scribe none;
  planned =
      let same = sym c.in-Some.ensures in
      λ some. told_is_asked ((g.F.Files.seen c.args.files.now).told) (asked_to_serve (map (λ w. w.now) c.args.words.now))
      (c.in-Some.definitions, c.in-Some.site) same (λ all n. first_halt (first_phases (g.B.Stocked.stock c.args.shelf.now) all n.0 n.1) ≡ None)
      c.in-Ok.ensures.planned;
  halted =
      λ none. in_none c.finish.result c.in-Ok.worked.scribe c.finish.ensures.scribe none;
}

pub returns-in-Ok-clause-idle : goal.returns-in-Ok-clause-idle
returns-in-Ok-clause-idle g c =
    λ none. in_none c.finish.result c.in-Ok.worked.scribe c.finish.ensures.scribe none

pub returns-in-Ok-clause-served : goal.returns-in-Ok-clause-served
returns-in-Ok-clause-served g c =
    let same = sym c.in-Some.ensures in
    let s = c.in-Ok.ensures.served in
    let whole : c.in-Ok.worked ≡ worked_of c.finish.result c.in-Ok.worked.scribe = λ i. record
    { history = sym c.finish.ensures.history i; lines = sym c.finish.ensures.lines i; desks = sym c.finish.ensures.desks i; scribe = c.in-Ok.worked.scribe } in
    let served = subst
    (λ (w : Worked). HasServed g.D.Link.seen g.Q.Link.seen g.V.Vault.seen s.0 s.1 w c.args.lines.now.items c.host.new.lines.items
    c.args.doors.now.items c.host.new.doors.items c.args.vault.now c.host.new.vault (g.W.Crew.seen c.args.crew.now)
    (g.W.Crew.seen c.host.new.crew)) whole s.3 in
    in_if c.finish.result c.in-Ok.worked.scribe c.finish.ensures.scribe
    (λ scribe. (site : SiteData) × (digest : List ℕ) × IsPlanned ((g.F.Files.seen c.args.files.now).told)
    (asked_to_serve (map (λ w. w.now) c.args.words.now)) site digest × HasServed g.D.Link.seen g.Q.Link.seen g.V.Vault.seen site digest
    (worked_of c.finish.result scribe) c.args.lines.now.items c.host.new.lines.items c.args.doors.now.items c.host.new.doors.items
    c.args.vault.now c.host.new.vault (g.W.Crew.seen c.args.crew.now) (g.W.Crew.seen c.host.new.crew)
    × Headline g.D.Link.seen g.Q.Link.seen g.V.Vault.seen site digest (worked_of c.finish.result scribe) c.args.lines.now.items
    c.host.new.lines.items c.args.doors.now.items c.host.new.doors.items c.host.new.vault) (
      s.0,
      s.1,
      subst (λ (o : Option (List ℕ × List ℕ)). IsPlanned ((g.F.Files.seen c.args.files.now).told) o s.0 s.1) (sym same) s.2,
      served,
      headline_holds g.D.Link.seen g.Q.Link.seen g.V.Vault.seen s.0 s.1 (worked_of c.finish.result c.in-Ok.worked.scribe)
          c.args.lines.now.items c.host.new.lines.items c.args.doors.now.items c.host.new.doors.items c.args.vault.now c.host.new.vault
          (g.W.Crew.seen c.args.crew.now) (g.W.Crew.seen c.host.new.crew) c.requires.vault served,
    )

pub returns-in-Ok-clause-ends : goal.returns-in-Ok-clause-ends
returns-in-Ok-clause-ends g c =
    let ends = ready_end c.in-Ok.worked.lines c.in-Ok.worked.desks c.in-Ok.worked.scribe c.in-Ok.worked.history c.finish.result.status
    (g.O.Sink.seen c.args.out.now) (g.O.Sink.seen c.host.new.out) (g.O.Sink.seen c.finish.new.out) c.in-Ok.ensures.ready c.finish.ensures.ends in
    let whole : c.in-Ok.worked ≡ worked_of c.finish.result c.in-Ok.worked.scribe = λ i. record
    { history = sym c.finish.ensures.history i; lines = sym c.finish.ensures.lines i; desks = sym c.finish.ensures.desks i; scribe = c.in-Ok.worked.scribe } in
    in_if c.finish.result c.in-Ok.worked.scribe c.finish.ensures.scribe
    (λ scribe. EndsServing ready_line c.finish.result.lines c.finish.result.desks scribe c.finish.result.history c.finish.result.status
    (g.O.Sink.seen c.args.out.now) (g.O.Sink.seen c.finish.new.out))
    (subst (λ (w : Worked). EndsServing ready_line w.lines w.desks w.scribe w.history c.finish.result.status (g.O.Sink.seen c.args.out.now)
    (g.O.Sink.seen c.finish.new.out)) whole ends)

pub returns-in-Ok-clause-fine : goal.returns-in-Ok-clause-fine
returns-in-Ok-clause-fine g c =
    let ends = ready_end c.in-Ok.worked.lines c.in-Ok.worked.desks c.in-Ok.worked.scribe c.in-Ok.worked.history c.finish.result.status
    (g.O.Sink.seen c.args.out.now) (g.O.Sink.seen c.host.new.out) (g.O.Sink.seen c.finish.new.out) c.in-Ok.ensures.ready c.finish.ensures.ends in
    let s = c.in-Ok.ensures.served in
    λ e. served_fine _ _ _ s.0 s.1 c.in-Ok.worked _ _ _ _ _ _ _ _ s.3 _ _ _ ends _ _ c.in-Ok.ensures.files e c.finish.result c.finish.ensures.lines
    c.finish.ensures.desks c.finish.ensures.scribe c.finish.ensures.history

pub returns-in-Ok-clause-usage : goal.returns-in-Ok-clause-usage
returns-in-Ok-clause-usage g c = record {
  exact =
      let same = sym c.in-Some.ensures in
      let ends = ready_end c.in-Ok.worked.lines c.in-Ok.worked.desks c.in-Ok.worked.scribe c.in-Ok.worked.history c.finish.result.status
      (g.O.Sink.seen c.args.out.now) (g.O.Sink.seen c.host.new.out) (g.O.Sink.seen c.finish.new.out) c.in-Ok.ensures.ready c.finish.ensures.ends in
      let told = trouble_of (left ends.written c.in-Ok.worked.lines c.in-Ok.worked.desks c.in-Ok.worked.scribe c.in-Ok.worked.history) in (
        λ e. absurd (never_usage_told told (sym ends.status_is ∙ e)),
        λ none. asked_not None (asked_to_serve (map (λ w. w.now) c.args.words.now))
            (c.in-Some.definitions, c.in-Some.site) same none,
      );
  misused =
      let same = sym c.in-Some.ensures in
      λ none. asked_not None (asked_to_serve (map (λ w. w.now) c.args.words.now)) (c.in-Some.definitions, c.in-Some.site) same none;
}

pub returns-in-Ok-clause-faults : goal.returns-in-Ok-clause-faults
returns-in-Ok-clause-faults g c = record {
  read =
      let ends = ready_end c.in-Ok.worked.lines c.in-Ok.worked.desks c.in-Ok.worked.scribe c.in-Ok.worked.history c.finish.result.status
      (g.O.Sink.seen c.args.out.now) (g.O.Sink.seen c.host.new.out) (g.O.Sink.seen c.finish.new.out) c.in-Ok.ensures.ready c.finish.ensures.ends in
      let told = trouble_of (left ends.written c.in-Ok.worked.lines c.in-Ok.worked.desks c.in-Ok.worked.scribe c.in-Ok.worked.history) in
      λ e. absurd (never_read told (sym ends.status_is ∙ e));
  absent =
      let ends = ready_end c.in-Ok.worked.lines c.in-Ok.worked.desks c.in-Ok.worked.scribe c.in-Ok.worked.history c.finish.result.status
      (g.O.Sink.seen c.args.out.now) (g.O.Sink.seen c.host.new.out) (g.O.Sink.seen c.finish.new.out) c.in-Ok.ensures.ready c.finish.ensures.ends in
      let told = trouble_of (left ends.written c.in-Ok.worked.lines c.in-Ok.worked.desks c.in-Ok.worked.scribe c.in-Ok.worked.history) in
      λ e. absurd (never_absent told (sym ends.status_is ∙ e));
  write =
      let ends = ready_end c.in-Ok.worked.lines c.in-Ok.worked.desks c.in-Ok.worked.scribe c.in-Ok.worked.history c.finish.result.status
      (g.O.Sink.seen c.args.out.now) (g.O.Sink.seen c.host.new.out) (g.O.Sink.seen c.finish.new.out) c.in-Ok.ensures.ready c.finish.ensures.ends in
      let s = c.in-Ok.ensures.served in
      λ e. served_write _ _ _ s.0 s.1 c.in-Ok.worked _ _ _ _ _ _ _ _ s.3 _ _ _ ends e;
  log =
      let ends = ready_end c.in-Ok.worked.lines c.in-Ok.worked.desks c.in-Ok.worked.scribe c.in-Ok.worked.history c.finish.result.status
      (g.O.Sink.seen c.args.out.now) (g.O.Sink.seen c.host.new.out) (g.O.Sink.seen c.finish.new.out) c.in-Ok.ensures.ready c.finish.ensures.ends in
      let s = c.in-Ok.ensures.served in
      λ e. served_log _ _ _ s.0 s.1 c.in-Ok.worked _ _ _ _ _ _ _ _ s.3 _ _ _ ends e;
  worker =
      let ends = ready_end c.in-Ok.worked.lines c.in-Ok.worked.desks c.in-Ok.worked.scribe c.in-Ok.worked.history c.finish.result.status
      (g.O.Sink.seen c.args.out.now) (g.O.Sink.seen c.host.new.out) (g.O.Sink.seen c.finish.new.out) c.in-Ok.ensures.ready c.finish.ensures.ends in
      let s = c.in-Ok.ensures.served in
      λ e. served_worker _ _ _ s.0 s.1 c.in-Ok.worked _ _ _ _ _ _ _ _ s.3 _ _ _ ends e;
  door =
      let ends = ready_end c.in-Ok.worked.lines c.in-Ok.worked.desks c.in-Ok.worked.scribe c.in-Ok.worked.history c.finish.result.status
      (g.O.Sink.seen c.args.out.now) (g.O.Sink.seen c.host.new.out) (g.O.Sink.seen c.finish.new.out) c.in-Ok.ensures.ready c.finish.ensures.ends in
      let s = c.in-Ok.ensures.served in
      λ e. served_door _ _ _ s.0 s.1 c.in-Ok.worked _ _ _ _ _ _ _ _ s.3 _ _ _ ends e;
}

pub returns-in-Ok-clause-full : goal.returns-in-Ok-clause-full
returns-in-Ok-clause-full g c = record {
  cause =
      let ends = ready_end c.in-Ok.worked.lines c.in-Ok.worked.desks c.in-Ok.worked.scribe c.in-Ok.worked.history c.finish.result.status
      (g.O.Sink.seen c.args.out.now) (g.O.Sink.seen c.host.new.out) (g.O.Sink.seen c.finish.new.out) c.in-Ok.ensures.ready c.finish.ensures.ends in
      let s = c.in-Ok.ensures.served in
      λ e. subst (λ (h : List Entry). (has_closed FullHistory h ≡ true) ⊎ (entries_in h ≡ most_entries)) (sym c.finish.ensures.history)
      (served_full _ _ _ s.0 s.1 c.in-Ok.worked _ _ _ _ _ _ _ _ s.3 _ _ _ ends e);
  told =
      let ends = ready_end c.in-Ok.worked.lines c.in-Ok.worked.desks c.in-Ok.worked.scribe c.in-Ok.worked.history c.finish.result.status
      (g.O.Sink.seen c.args.out.now) (g.O.Sink.seen c.host.new.out) (g.O.Sink.seen c.finish.new.out) c.in-Ok.ensures.ready c.finish.ensures.ends in
      let told = trouble_of (left ends.written c.in-Ok.worked.lines c.in-Ok.worked.desks c.in-Ok.worked.scribe c.in-Ok.worked.history) in
      λ closed. subst (λ (x : Status). (x ≡ status.Memory) ⊎ ((x ≡ status.WriteFault) ⊎ (x ≡ status.HistoryFull))) (sym ends.status_is)
      (full_is_told (left ends.written c.in-Ok.worked.lines c.in-Ok.worked.desks c.in-Ok.worked.scribe c.in-Ok.worked.history)
      (sym (ap (has_closed FullHistory) c.finish.ensures.history) ∙ closed) told refl);
}

pub returns-in-Ok-clause-shelf : goal.returns-in-Ok-clause-shelf
returns-in-Ok-clause-shelf g c = record {
  short =
      let ends = ready_end c.in-Ok.worked.lines c.in-Ok.worked.desks c.in-Ok.worked.scribe c.in-Ok.worked.history c.finish.result.status
      (g.O.Sink.seen c.args.out.now) (g.O.Sink.seen c.host.new.out) (g.O.Sink.seen c.finish.new.out) c.in-Ok.ensures.ready c.finish.ensures.ends in
      let told = trouble_of (left ends.written c.in-Ok.worked.lines c.in-Ok.worked.desks c.in-Ok.worked.scribe c.in-Ok.worked.history) in
      λ e. absurd (never_shelf told (sym ends.status_is ∙ e));
  exact =
      let same = sym c.in-Some.ensures in
      λ steady. told_asked ((g.F.Files.seen c.args.files.now).told) (asked_to_serve (map (λ w. w.now) c.args.words.now))
      (c.in-Some.definitions, c.in-Some.site) same (λ all n. IsShortOf (g.B.Stocked.stock c.args.shelf.now) all n.0 n.1
      → (c.finish.result.status ≡ status.ShelfEmpty) ⊎ (c.finish.result.status ≡ status.Memory))
      (told_one ((g.F.Files.seen c.args.files.now).told) (λ all. first_halt
      (first_phases (g.B.Stocked.stock c.args.shelf.now) all c.in-Some.definitions c.in-Some.site) ≡ None)
      (λ all. IsShortOf (g.B.Stocked.stock c.args.shelf.now) all c.in-Some.definitions c.in-Some.site → (c.finish.result.status ≡ status.ShelfEmpty)
      ⊎ (c.finish.result.status ≡ status.Memory)) (λ all none. λ short. never_some
      (first_phases (g.B.Stocked.stock c.args.shelf.now) all c.in-Some.definitions c.in-Some.site)
      (short_halt (g.B.Stocked.stock c.args.shelf.now) (site_asked all c.in-Some.definitions c.in-Some.site) short.kind) none
      (short_reason (g.B.Stocked.stock c.args.shelf.now) all c.in-Some.definitions c.in-Some.site short)) c.in-Ok.ensures.planned);
}

pub returns-in-Ok-clause-complete : goal.returns-in-Ok-clause-complete
returns-in-Ok-clause-complete g c =
    let same = sym c.in-Some.ensures in
    let ends = ready_end c.in-Ok.worked.lines c.in-Ok.worked.desks c.in-Ok.worked.scribe c.in-Ok.worked.history c.finish.result.status
    (g.O.Sink.seen c.args.out.now) (g.O.Sink.seen c.host.new.out) (g.O.Sink.seen c.finish.new.out) c.in-Ok.ensures.ready c.finish.ensures.ends in
    let told = trouble_of (left ends.written c.in-Ok.worked.lines c.in-Ok.worked.desks c.in-Ok.worked.scribe c.in-Ok.worked.history) in
    let s = c.in-Ok.ensures.served in
    λ sf sa so sv sw dials closed room. told_asked ((g.F.Files.seen c.args.files.now).told) (asked_to_serve (map (λ w. w.now) c.args.words.now))
    (c.in-Some.definitions, c.in-Some.site) same (λ all n. first_halt (first_phases (g.B.Stocked.stock c.args.shelf.now) all n.0 n.1) ≡ None
    → (c.finish.result.status ≡ status.Ok) ⊎ (c.finish.result.status ≡ status.Memory))
    (told_one ((g.F.Files.seen c.args.files.now).told) (λ all. first_halt
    (first_phases (g.B.Stocked.stock c.args.shelf.now) all c.in-Some.definitions c.in-Some.site) ≡ None)
    (λ all. first_halt (first_phases (g.B.Stocked.stock c.args.shelf.now) all c.in-Some.definitions c.in-Some.site) ≡ None
    → (c.finish.result.status ≡ status.Ok) ⊎ (c.finish.result.status ≡ status.Memory))
    (λ all none. λ again. subst (λ (x : Status). (x ≡ status.Ok) ⊎ (x ≡ status.Memory)) (sym ends.status_is)
    (complete_by g.Q.Link.seen g.V.Vault.seen c.args.doors.now.items c.host.new.doors.items c.args.vault.now c.host.new.vault
    (g.W.Crew.seen c.args.crew.now).faults (g.W.Crew.seen c.host.new.crew).faults (g.O.Sink.seen c.args.out.now)
    (g.O.Sink.seen c.finish.new.out) c.in-Ok.worked.history told so sv sw dials
    (sym (ap (has_closed FullHistory) c.finish.ensures.history) ∙ closed)
    (subst (λ (h : List Entry). entries_in h < most_entries) c.finish.ensures.history room)
    (λ e. served_write _ _ _ s.0 s.1 c.in-Ok.worked _ _ _ _ _ _ _ _ s.3 _ _ _ ends (ends.status_is ∙ e))
    (λ e. served_log _ _ _ s.0 s.1 c.in-Ok.worked _ _ _ _ _ _ _ _ s.3 _ _ _ ends (ends.status_is ∙ e))
    (λ e. served_worker _ _ _ s.0 s.1 c.in-Ok.worked _ _ _ _ _ _ _ _ s.3 _ _ _ ends (ends.status_is ∙ e))
    (λ e. served_door _ _ _ s.0 s.1 c.in-Ok.worked _ _ _ _ _ _ _ _ s.3 _ _ _ ends (ends.status_is ∙ e))
    (λ e. served_full _ _ _ s.0 s.1 c.in-Ok.worked _ _ _ _ _ _ _ _ s.3 _ _ _ ends (ends.status_is ∙ e)))) c.in-Ok.ensures.planned)

pub returns-in-Ok-clause-untouched : goal.returns-in-Ok-clause-untouched
returns-in-Ok-clause-untouched g c =
    let same = sym c.in-Some.ensures in
    λ none. asked_not None (asked_to_serve (map (λ w. w.now) c.args.words.now)) (c.in-Some.definitions, c.in-Some.site) same none

pub returns-in-Ok-clause-boxes : goal.returns-in-Ok-clause-boxes
returns-in-Ok-clause-boxes g c =
    let same = sym c.in-Some.ensures in
    told_asked ((g.F.Files.seen c.args.files.now).told) (asked_to_serve (map (λ w. w.now) c.args.words.now))
    (c.in-Some.definitions, c.in-Some.site) same (λ all n. ShelfAt (site_asked all n.0 n.1)
    (first_halt (first_phases (g.B.Stocked.stock c.args.shelf.now) all n.0 n.1)) c.finish.result.status (g.B.Stocked.stock c.args.shelf.now)
    (g.B.Stocked.stock c.host.new.shelf))
    (told_both ((g.F.Files.seen c.args.files.now).told) (λ all. first_halt
    (first_phases (g.B.Stocked.stock c.args.shelf.now) all c.in-Some.definitions c.in-Some.site) ≡ None)
    (λ all. LeavesShelf all c.in-Some.definitions c.in-Some.site (Ok tt) (g.B.Stocked.stock c.args.shelf.now)
    (g.B.Stocked.stock c.host.new.shelf)) (λ all. ShelfAt (site_asked all c.in-Some.definitions c.in-Some.site)
    (first_halt (first_phases (g.B.Stocked.stock c.args.shelf.now) all c.in-Some.definitions c.in-Some.site)) c.finish.result.status
    (g.B.Stocked.stock c.args.shelf.now) (g.B.Stocked.stock c.host.new.shelf))
    (λ all none k. shelf_started (site_asked all c.in-Some.definitions c.in-Some.site)
    (first_halt (first_phases (g.B.Stocked.stock c.args.shelf.now) all c.in-Some.definitions c.in-Some.site)) c.finish.result.status
    (g.B.Stocked.stock c.args.shelf.now) (g.B.Stocked.stock c.host.new.shelf) none k) c.in-Ok.ensures.planned c.in-Ok.ensures.boxes)
