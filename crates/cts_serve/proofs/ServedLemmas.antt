-- What holds of a server whose workers have worked, by its status.
use Rattle.std.proofs.Common.{◌≡◌, ◌≢◌, ℕ, ◌≤◌, Bool, true, false, not, ◌||◌, List, [], ◌++◌, length, take, drop, Option, Some, None, refl, sym, ◌∙◌}
use Rattle.std.proofs.Common.{ap, subst, arith, ◌⊎◌, inl, inr}
use Rattle.std.specs.Prelude.{count_by}
use Rattle.std.specs.List.{AllByRecursion, list_any}
use Rattle.std.proofs.lemmas.List.{take-append-drop}
use Rattle.std.proofs.lemmas.List.Folds.{list_any-append}
use Rattle.cts_def.specs.Makers.{first_desk, first_slot}
use Rattle.cts_def.specs.Sites.{SiteData}
use Rattle.cts_server.proofs.Telling.{plain_where_none, tells_first}
use Rattle.cts_server.specs.TroubleLaws.{is_plain_desk, is_plain_line}
use Rattle.cts_server.specs.Troubles.{Left, has_closed, line_shows, shows, trouble_of}
use Rattle.cts_server.specs.declared.outcome.trouble.Trouble.{Trouble}
use Rattle.cts_server.specs.declared.outcome.trouble.Trouble.TheVariants as trouble
use Rattle.cts_entry.specs.Histories.{entries_in}
use Rattle.cts_entry.specs.Legal.{most_entries}
use Rattle.cts_entry.specs.declared.entry.Entry.{Entry}
use Rattle.cts_line.specs.declared.ending.LineWhy.{LineWhy}
use Rattle.cts_outside.specs.Causes.{Rose, raised}
use Rattle.cts_outside.proofs.Putting.{appended-nil}
use Rattle.cts_outside.specs.Seen.{CrewSeen, FilesSeen, LineSeen, SinkSeen, VaultSeen}
use Rattle.cts_scribe.specs.declared.ending.ScribeWhy.{ScribeWhy}
use Rattle.cts_server.specs.Aims.{desk_aims, line_aims, slot_aims}
use Rattle.cts_server.specs.Cancelled.{cancellations, is_set}
use Rattle.cts_server.specs.Ready.{ready_line}
use Rattle.cts_server.specs.declared.worked.DeskNote.{DeskNote}
use Rattle.cts_server.specs.declared.worked.Worked.{Worked}
use Rattle.cts_run.specs.Lines.{end_line}
use Rattle.cts_run.specs.Phases.{IsFound}
use Rattle.cts_run.specs.Putting.{FailsWithin, IsPut, Printed}
use Rattle.cts_serve.specs.Served.{DialFailedIn, EndsServing, IsFine, PutsWhole, VaultRose, left, trouble_line, trouble_status}
use Rattle.cts_server.specs.Serving.{HasServed}
use Rattle.cts_run.specs.declared.halt.status.Status.{Status}
use Rattle.cts_run.specs.declared.halt.status.Status.TheVariants as is
use Rattle.cts_serve.specs.declared.serving.ended.Ended.{Ended}
use Rattle.cts_serve.proofs.PieceLemmas.{printed_after, printed_part}
use Rattle.cts_serve.proofs.TroubleLemmas.{aims_fit, desks_door, dial_of_first, dial_of_rest, full_later, lines_door, lines_full, log_shown}
use Rattle.cts_serve.proofs.TroubleLemmas.{door_shown, full_shown, no_door, none_cancelled, raised_never, raised_once, vault_failed, vault_still}
use Rattle.cts_serve.proofs.TroubleLemmas.{worker_cancelled}

-- ---- the end

module _ (lines : List LineWhy) (desks : List DeskNote) (scribe : ScribeWhy) (history : List Entry) where
  abbrev At : Bool → Left
  At written = left written lines desks scribe history

  abbrev text : List ℕ
  text = end_line (length history)

  -- the number of entries was put, and then the last line
  pub told_end : (t : Option Trouble) (status : Status) (old mid new : SinkSeen) → t ≡ trouble_of (At true) → status ≡ trouble_status t
      → IsPut text old mid → Printed mid new (trouble_line t history) → (t ≡ None → new ≡ mid)
      → EndsServing [] lines desks scribe history status old new
  told_end t status old mid new e s p q quiet = record {
    ready = old;
    mid = mid;
    written = true;
    is_ready = (refl, sym (appended-nil old.told));
    counted = p;
    status_is = s ∙ ap trouble_status e;
    last = λ same. subst (λ (u : Option Trouble). Printed mid new (trouble_line u history)) e q;
    quiet = λ same none. quiet (e ∙ none);
    none = λ f. absurd (cc f);
  }

  -- it was not
  pub untold_end : (t : Option Trouble) (status : Status) (old new : SinkSeen) → t ≡ trouble_of (At false) → status ≡ trouble_status t
      → FailsWithin text old new → EndsServing [] lines desks scribe history status old new
  untold_end t status old new e s f = record {
    ready = old;
    mid = new;
    written = false;
    is_ready = (refl, sym (appended-nil old.told));
    counted = f;
    status_is = s ∙ ap trouble_status e;
    last = λ same. absurd (cc same);
    quiet = λ same. absurd (cc same);
    none = λ same. refl;
  }

  -- after it was said that the server is ready
  pub ready_end : (status : Status) (old mid new : SinkSeen) → IsPut ready_line old mid → EndsServing [] lines desks scribe history status mid new
      → EndsServing ready_line lines desks scribe history status old new
  ready_end status old mid new p e = record {
    ready = e.ready;
    mid = e.mid;
    written = e.written;
    is_ready = (e.is_ready.0 ∙ p.0, e.is_ready.1 ∙ appended-nil mid.told ∙ p.1);
    counted = e.counted;
    status_is = e.status_is;
    last = e.last;
    quiet = e.quiet;
    none = e.none;
  }

  module _ (status : Status) (old new : SinkSeen) (e : EndsServing ready_line lines desks scribe history status old new) where
    -- the number of entries could not be put only where the count rose
    pub ends_lost : e.written ≡ false → Rose old.faults new.faults
    ends_lost f =
        let counted : FailsWithin text e.ready e.mid = subst (λ (b : Bool). PutsWhole text b e.ready e.mid) f e.counted in
        subst (λ (n : ℕ). Rose n new.faults) e.is_ready.0 (subst (λ (o : SinkSeen). Rose e.ready.faults o.faults) (sym (e.none f)) counted.0)

    -- where no trouble shows, no put failed
    pub ends_steady : trouble_of (At e.written) ≡ None → new.faults ≡ old.faults
    ends_steady none =
        let put : e.written ≡ true = (plain_where_none (At e.written) none).written in
        let counted : IsPut text e.ready e.mid = subst (λ (b : Bool). PutsWhole text b e.ready e.mid) put e.counted in
        ap (λ (o : SinkSeen). o.faults) (e.quiet put none) ∙ counted.0 ∙ e.is_ready.0

    -- and what was put is a beginning of all that was to be
    pub ends_printed : Printed old new (ready_line ++ (text ++ trouble_line (trouble_of (At e.written)) history))
    ends_printed = by_written e.written refl
      where
        by_written : (b : Bool) → e.written ≡ b → Printed old new (ready_line ++ (text ++ trouble_line (trouble_of (At e.written)) history))
        by_written true w =
            printed_after ready_line (text ++ trouble_line (trouble_of (At e.written)) history) old e.ready new e.is_ready
            (printed_after text (trouble_line (trouble_of (At e.written)) history) e.ready e.mid new
            (subst (λ (b : Bool). PutsWhole text b e.ready e.mid) w e.counted) (e.last w))
        by_written false w =
            printed_after ready_line (text ++ trouble_line (trouble_of (At e.written)) history) old e.ready new e.is_ready
            (printed_part text (trouble_line (trouble_of (At e.written)) history) e.ready new
            (subst (λ (o : SinkSeen). FailsWithin text e.ready o) (sym (e.none w)) (subst (λ (b : Bool). PutsWhole text b e.ready e.mid) w e.counted)))

-- ---- the trouble of a status

trouble_fine : (t : Option Trouble) → trouble_status t ≡ is.Ok → t ≡ None
trouble_fine None e = refl
trouble_fine (Some trouble.Memory) e = absurd (cc e)
trouble_fine (Some trouble.WriteFault) e = absurd (cc e)
trouble_fine (Some trouble.HistoryFull) e = absurd (cc e)
trouble_fine (Some trouble.LogFault) e = absurd (cc e)
trouble_fine (Some trouble.NoWorker) e = absurd (cc e)
trouble_fine (Some trouble.DoorFault) e = absurd (cc e)

trouble_write : (t : Option Trouble) → trouble_status t ≡ is.WriteFault → t ≡ Some trouble.WriteFault
trouble_write None e = absurd (cc e)
trouble_write (Some trouble.Memory) e = absurd (cc e)
trouble_write (Some trouble.WriteFault) e = refl
trouble_write (Some trouble.HistoryFull) e = absurd (cc e)
trouble_write (Some trouble.LogFault) e = absurd (cc e)
trouble_write (Some trouble.NoWorker) e = absurd (cc e)
trouble_write (Some trouble.DoorFault) e = absurd (cc e)

trouble_full : (t : Option Trouble) → trouble_status t ≡ is.HistoryFull → t ≡ Some trouble.HistoryFull
trouble_full None e = absurd (cc e)
trouble_full (Some trouble.Memory) e = absurd (cc e)
trouble_full (Some trouble.WriteFault) e = absurd (cc e)
trouble_full (Some trouble.HistoryFull) e = refl
trouble_full (Some trouble.LogFault) e = absurd (cc e)
trouble_full (Some trouble.NoWorker) e = absurd (cc e)
trouble_full (Some trouble.DoorFault) e = absurd (cc e)

trouble_log : (t : Option Trouble) → trouble_status t ≡ is.LogFault → t ≡ Some trouble.LogFault
trouble_log None e = absurd (cc e)
trouble_log (Some trouble.Memory) e = absurd (cc e)
trouble_log (Some trouble.WriteFault) e = absurd (cc e)
trouble_log (Some trouble.HistoryFull) e = absurd (cc e)
trouble_log (Some trouble.LogFault) e = refl
trouble_log (Some trouble.NoWorker) e = absurd (cc e)
trouble_log (Some trouble.DoorFault) e = absurd (cc e)

trouble_worker : (t : Option Trouble) → trouble_status t ≡ is.NoWorker → t ≡ Some trouble.NoWorker
trouble_worker None e = absurd (cc e)
trouble_worker (Some trouble.Memory) e = absurd (cc e)
trouble_worker (Some trouble.WriteFault) e = absurd (cc e)
trouble_worker (Some trouble.HistoryFull) e = absurd (cc e)
trouble_worker (Some trouble.LogFault) e = absurd (cc e)
trouble_worker (Some trouble.NoWorker) e = refl
trouble_worker (Some trouble.DoorFault) e = absurd (cc e)

trouble_door : (t : Option Trouble) → trouble_status t ≡ is.DoorFault → t ≡ Some trouble.DoorFault
trouble_door None e = absurd (cc e)
trouble_door (Some trouble.Memory) e = absurd (cc e)
trouble_door (Some trouble.WriteFault) e = absurd (cc e)
trouble_door (Some trouble.HistoryFull) e = absurd (cc e)
trouble_door (Some trouble.LogFault) e = absurd (cc e)
trouble_door (Some trouble.NoWorker) e = absurd (cc e)
trouble_door (Some trouble.DoorFault) e = refl

-- no server whose workers have worked has these
pub never_read : (t : Option Trouble) → trouble_status t ≢ is.ReadFault
never_read None = λ e. absurd (cc e)
never_read (Some trouble.Memory) = λ e. absurd (cc e)
never_read (Some trouble.WriteFault) = λ e. absurd (cc e)
never_read (Some trouble.HistoryFull) = λ e. absurd (cc e)
never_read (Some trouble.LogFault) = λ e. absurd (cc e)
never_read (Some trouble.NoWorker) = λ e. absurd (cc e)
never_read (Some trouble.DoorFault) = λ e. absurd (cc e)

pub never_absent : (t : Option Trouble) → trouble_status t ≢ is.Absent
never_absent None = λ e. absurd (cc e)
never_absent (Some trouble.Memory) = λ e. absurd (cc e)
never_absent (Some trouble.WriteFault) = λ e. absurd (cc e)
never_absent (Some trouble.HistoryFull) = λ e. absurd (cc e)
never_absent (Some trouble.LogFault) = λ e. absurd (cc e)
never_absent (Some trouble.NoWorker) = λ e. absurd (cc e)
never_absent (Some trouble.DoorFault) = λ e. absurd (cc e)

pub never_usage_told : (t : Option Trouble) → trouble_status t ≢ is.Usage
never_usage_told None = λ e. absurd (cc e)
never_usage_told (Some trouble.Memory) = λ e. absurd (cc e)
never_usage_told (Some trouble.WriteFault) = λ e. absurd (cc e)
never_usage_told (Some trouble.HistoryFull) = λ e. absurd (cc e)
never_usage_told (Some trouble.LogFault) = λ e. absurd (cc e)
never_usage_told (Some trouble.NoWorker) = λ e. absurd (cc e)
never_usage_told (Some trouble.DoorFault) = λ e. absurd (cc e)

pub never_shelf : (t : Option Trouble) → trouble_status t ≢ is.ShelfEmpty
never_shelf None = λ e. absurd (cc e)
never_shelf (Some trouble.Memory) = λ e. absurd (cc e)
never_shelf (Some trouble.WriteFault) = λ e. absurd (cc e)
never_shelf (Some trouble.HistoryFull) = λ e. absurd (cc e)
never_shelf (Some trouble.LogFault) = λ e. absurd (cc e)
never_shelf (Some trouble.NoWorker) = λ e. absurd (cc e)
never_shelf (Some trouble.DoorFault) = λ e. absurd (cc e)

-- ---- what the statuses say

not_true : (b : Bool) → not b ≡ true → b ≡ false
not_true true e = absurd (cc e)
not_true false e = refl

module _ {D Q V : Type 0} (line_seen : D → LineSeen) (door_seen : Q → LineSeen) (vault_seen : V → VaultSeen) (site : SiteData) (digest : List ℕ)
    (w : Worked) (dialers dialers' : List (Option D)) (doors doors' : List (Option Q)) (vault vault' : Option V) (crew crew' : CrewSeen)
    (served : HasServed line_seen door_seen vault_seen site digest w dialers dialers' doors doors' vault vault' crew crew') (status : Status)
    (old new : SinkSeen) (ends : EndsServing ready_line w.lines w.desks w.scribe w.history status old new) where
  abbrev told : Left
  told = left ends.written w.lines w.desks w.scribe w.history

  -- the trouble with this status is told, so it is shown
  shown : (t : Trouble) → trouble_of told ≡ Some t → shows told t ≡ true
  shown t e = (tells_first told t e).0

  -- the lines are those of interfaces, and then of slots
  lines_split : (p : LineWhy → Bool) → list_any p w.lines ≡ (list_any p (take (length site.interfaces) w.lines) || list_any p
      (drop (length site.interfaces) w.lines))
  lines_split p = ap (list_any p) (sym (take-append-drop (length site.interfaces) w.lines)) ∙ list_any-append p
      (take (length site.interfaces) w.lines) (drop (length site.interfaces) w.lines)

  pub served_write : status ≡ is.WriteFault → Rose old.faults new.faults
  served_write e = ends_lost w.lines w.desks w.scribe w.history status old new ends (not_true ends.written (shown trouble.WriteFault (trouble_write
      (trouble_of told) (sym ends.status_is ∙ e))))

  pub served_log : status ≡ is.LogFault → VaultRose vault_seen vault vault'
  served_log e = vault_failed vault_seen site digest w.history vault vault' w.scribe
      (log_shown told (shown trouble.LogFault (trouble_log (trouble_of told) (sym ends.status_is ∙ e)))) served.scribe

  pub served_worker : status ≡ is.NoWorker → raised crew.faults ≤ crew'.faults
  served_worker e =
      raised_once (count_by is_set (cancellations w)) crew.faults crew'.faults
      (worker_cancelled w (shown trouble.NoWorker (trouble_worker (trouble_of told) (sym ends.status_is ∙ e))))
      (ap (λ (c : CrewSeen). c.faults) served.jobs)

  pub served_door : status ≡ is.DoorFault → DialFailedIn door_seen doors doors'
  served_door e = elim (door_shown told (shown trouble.DoorFault (trouble_door (trouble_of told) (sym ends.status_is ∙ e)))) [
    | inl line ↦ by_line (list_any (line_shows trouble.DoorFault) (take (length site.interfaces) w.lines)) refl
        (sym (lines_split (line_shows trouble.DoorFault)) ∙ line)
    | inr d ↦ dial_of_rest door_seen site w.history 8 doors doors'
        (desks_door door_seen site w.history first_desk (desk_aims site) (drop 8 doors) (drop 8 doors') w.desks served.desks d)
  ]
    where
      by_line : (b : Bool) → list_any (line_shows trouble.DoorFault) (take (length site.interfaces) w.lines) ≡ b
          → (b || list_any (line_shows trouble.DoorFault) (drop (length site.interfaces) w.lines)) ≡ true → DialFailedIn door_seen doors doors'
      by_line true h k = absurd (no_door line_seen site w.history 0 (line_aims site) dialers dialers' (take (length site.interfaces) w.lines)
          (aims_fit site) served.interfaces h)
      by_line false h k =
          dial_of_first door_seen site w.history 8 doors doors'
          (lines_door door_seen site w.history first_slot (slot_aims site) (take 8 doors) (take 8 doors')
          (drop (length site.interfaces) w.lines) served.slots k)

  full_by_line : list_any (line_shows trouble.HistoryFull) w.lines ≡ true → (has_closed trouble.HistoryFull w.history ≡ true)
      ⊎ (most_entries ≤ entries_in w.history)
  full_by_line line = by_line (list_any (line_shows trouble.HistoryFull) (take (length site.interfaces) w.lines)) refl
      (sym (lines_split (line_shows trouble.HistoryFull)) ∙ line)
    where
      by_line : (b : Bool) → list_any (line_shows trouble.HistoryFull) (take (length site.interfaces) w.lines) ≡ b
          → (b || list_any (line_shows trouble.HistoryFull) (drop (length site.interfaces) w.lines)) ≡ true
          → (has_closed trouble.HistoryFull w.history ≡ true) ⊎ (most_entries ≤ entries_in w.history)
      by_line true h k = lines_full line_seen site w.history 0 (line_aims site) dialers dialers' (take (length site.interfaces) w.lines) served.interfaces h
      by_line false h k = lines_full door_seen site w.history first_slot (slot_aims site) (take 8 doors) (take 8 doors')
          (drop (length site.interfaces) w.lines) served.slots k

  at_limit : (has_closed trouble.HistoryFull w.history ≡ true) ⊎ (most_entries ≤ entries_in w.history)
      → (has_closed trouble.HistoryFull w.history ≡ true) ⊎ (entries_in w.history ≡ most_entries)
  at_limit (inl c) = inl c
  at_limit (inr m) = let l = served.legal.legal.entries in inr (omega (arith, m, l))

  pub served_full : status ≡ is.HistoryFull → (has_closed trouble.HistoryFull w.history ≡ true) ⊎ (entries_in w.history ≡ most_entries)
  served_full e = elim (full_shown told (shown trouble.HistoryFull (trouble_full (trouble_of told) (sym ends.status_is ∙ e)))) [
    | inl line ↦ at_limit (full_by_line line)
    | inr closed ↦ inl closed
  ]

  pub served_fine : (files files' : FilesSeen) → IsFound files files' → status ≡ is.Ok → (e : Ended) → e.lines ≡ w.lines → e.desks ≡ w.desks
      → e.scribe ≡ Some w.scribe → e.history ≡ w.history
      → IsFine vault_seen files files' old new vault vault' crew crew' e
  served_fine files files' found ok e ls ds sc hs =
      let none = trouble_fine (trouble_of told) (sym ends.status_is ∙ ok) in
      let plain = plain_where_none told none in
      record {
        read = found.0;
        absent = found.1;
        put = ends_steady w.lines w.desks w.scribe w.history status old new ends none;
        kept = vault_still vault_seen site digest w.history vault vault' w.scribe plain.scribe served.scribe;
        jobs = raised_never (count_by is_set (cancellations w)) crew.faults crew'.faults (none_cancelled w plain.lines plain.desks plain.scribe)
            (ap (λ (c : CrewSeen). c.faults) served.jobs);
        lines = subst (λ (x : List LineWhy). AllByRecursion (λ (why : LineWhy). is_plain_line why ≡ true) x) (sym ls) plain.lines;
        desks = subst (λ (x : List DeskNote). AllByRecursion (λ (n : DeskNote). is_plain_desk n.why ≡ true) x) (sym ds) plain.desks;
        scribe = sc ∙ ap (λ (y : ScribeWhy). Some y) plain.scribe;
        memory = ap (has_closed trouble.Memory) hs ∙ plain.memory;
        room = ap (has_closed trouble.HistoryFull) hs ∙ plain.room;
      }

-- where a connection was closed since the history was full, no status with a greater number comes
pub full_is_told : (l : Left) → has_closed trouble.HistoryFull l.history ≡ true → (t : Option Trouble) → trouble_of l ≡ t
    → (trouble_status t ≡ is.Memory) ⊎ ((trouble_status t ≡ is.WriteFault) ⊎ (trouble_status t ≡ is.HistoryFull))
full_is_told l c None e = absurd (cc (sym c ∙ (plain_where_none l e).room))
full_is_told l c (Some trouble.Memory) e = inl refl
full_is_told l c (Some trouble.WriteFault) e = inr (inl refl)
full_is_told l c (Some trouble.HistoryFull) e = inr (inr refl)
full_is_told l c (Some trouble.LogFault) e = absurd (cc (sym (full_later l c) ∙ (tells_first l trouble.LogFault e).1 trouble.HistoryFull (omega arith)))
full_is_told l c (Some trouble.NoWorker) e = absurd (cc (sym (full_later l c) ∙ (tells_first l trouble.NoWorker e).1 trouble.HistoryFull (omega arith)))
full_is_told l c (Some trouble.DoorFault) e = absurd (cc (sym (full_later l c) ∙ (tells_first l trouble.DoorFault e).1 trouble.HistoryFull (omega arith)))
