-- What a line owes goes on to hold when others append.
use Rattle.std.proofs.Common.{◌≡◌, ℕ, List, ◌++◌, ◌∙◌, Some, sym, subst, inl, inr}
use Rattle.cts_entry.specs.declared.entry.Entry.{Entry}
use Rattle.cts_entry.specs.Histories.{is_opened, is_stop}
use Rattle.cts_line.specs.Ending.{is_full, is_no_memory}
use Rattle.cts_line.specs.declared.ending.LineWhy.{LineWhy}
use Rattle.cts_line.proofs.Rows.{rows_of_others}
use Rattle.cts_outside.specs.Seen.{LineSeen}
use Rattle.cts_server.specs.Lasting.{Lasts}
use Rattle.cts_table.specs.declared.basis.Basis.{Basis}
use Rattle.cts_trace.specs.Makers.{closes_for, is_fault, of_maker}
use Rattle.cts_worker.specs.Counts.{RoseBy}
use Rattle.cts_server.specs.Lines.{OwesLine, RanLine}
use Rattle.cts_server.specs.OwnLaws.{any_of, counted_of, last_more, lasts_by, look_more, unstarted_more}

module _ (basis : Basis) (by : ℕ) (found : List ℕ) (old new : LineSeen) (connections : ℕ) (why : LineWhy) where
  ran_more : (seen more : List Entry) → of_maker by (seen ++ more) ≡ of_maker by seen → RanLine basis by found seen old new connections why
      → RanLine basis by found (seen ++ more) old new connections why
  ran_more seen more own r = record {
    seen = r.seen;
    look = look_more by r.seen seen more own r.look;
    looked = r.looked;
    told = rows_of_others _ _ by found seen more _ own r.told;
    some = (r.some.0, rows_of_others _ _ by found seen more (Some r.some.0) own r.some.1);
    retells = r.retells;
    ended = last_more by seen more own r.ended;
    opened = r.opened ∙ sym (counted_of by is_opened (seen ++ more) seen own);
    once = r.once;
    cause = r.cause;
    stops = r.stops;
    own_stop = λ h. r.own_stop (sym (any_of by is_stop (seen ++ more) seen own) ∙ h);
    faults = subst (λ (n : ℕ). RoseBy n old.faults new.faults) (sym (counted_of by (closes_for is_fault) (seen ++ more) seen own)) r.faults;
    dials = r.dials;
    full = λ h. r.full (sym (any_of by (closes_for is_full) (seen ++ more) seen own) ∙ h);
    memory = λ h. r.memory (sym (any_of by (closes_for is_no_memory) (seen ++ more) seen own) ∙ h);
    idle = r.idle;
  }

  owes_more : (seen more : List Entry) → of_maker by (seen ++ more) ≡ of_maker by seen → OwesLine basis by found seen old new connections why
      → OwesLine basis by found (seen ++ more) old new connections why
  owes_more seen more own o = elim o [
    | inl r ↦ inl (ran_more seen more own r)
    | inr u ↦ inr (record { unstarted = unstarted_more by seen more own u.unstarted; same = u.same; none = u.none; cancelled = u.cancelled })
  ]

  pub line_lasts : Lasts by (λ (history : List Entry). OwesLine basis by found history old new connections why)
  line_lasts = lasts_by by (λ (history : List Entry). OwesLine basis by found history old new connections why) owes_more
