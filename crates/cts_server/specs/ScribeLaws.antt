-- What the scribe owes goes on to hold when others append.
use Rattle.std.proofs.Common.{◌≡◌, ℕ, List, ◌++◌, length, take, ◌∙◌, ap, sym, subst, arith, inl, inr, length-append}
use Rattle.std.proofs.lemmas.List.{take-append-le}
use Rattle.cts_def.specs.Sites.{SiteData}
use Rattle.cts_entry.specs.declared.entry.Entry.{Entry}
use Rattle.cts_outside.specs.Seen.{VaultSeen}
use Rattle.cts_scribe.specs.Ending.{LogsEnd, stops_all}
use Rattle.cts_scribe.specs.declared.ending.ScribeWhy.{ScribeWhy}
use Rattle.cts_server.specs.Lasting.{Lasts}
use Rattle.cts_trace.specs.Makers.{of_maker}
use Rattle.cts_trace.proofs.Looking.{stop_kept}
use Rattle.cts_worker.specs.Lasts.{first_moment, last_entries}
use Rattle.cts_server.specs.Scribes.{EndedScribe, OwesScribe, RanScribe}
use Rattle.cts_server.specs.OwnLaws.{begins_more, last_more, lasts_by, unstarted_more}

module _ (site : SiteData) (digest : List ℕ) (by : ℕ) (old new : VaultSeen) (cursor : ℕ) (why : ScribeWhy) where
  ends_more : (seen more : List Entry) → of_maker by (seen ++ more) ≡ of_maker by seen → EndedScribe site by why seen cursor → EndedScribe site by why
      (seen ++ more) cursor
  ends_more seen more own e = record {
    stood = e.stood;
    begins = begins_more seen more (e.stood ++ last_entries (stops_all why) by first_moment e.stood) e.begins;
    silent = e.silent;
    own = own ∙ e.own;
    within = e.within;
    drained = e.drained;
  }

  -- the entries up to the cursor are the same
  followed_more : (seen more : List Entry) → EndedScribe site by why seen cursor → take cursor (seen ++ more) ≡ take cursor seen
  followed_more seen more e =
      let last : List Entry = last_entries (stops_all why) by first_moment e.stood in
      let a = ap length e.begins.1 in
      let b = length-append (e.stood ++ last) e.begins.0 in
      let c = length-append e.stood last in
      let w = e.within in
      take-append-le cursor seen more (omega (arith, a, b, c, w))

  ran_more : (seen more : List Entry) → of_maker by (seen ++ more) ≡ of_maker by seen → RanScribe site digest by seen old new cursor why
      → RanScribe site digest by (seen ++ more) old new cursor why
  ran_more seen more own r = record {
    logs = subst (λ (l : List Entry). LogsEnd site digest l why new.told) (sym (followed_more seen more r.ends)) r.logs;
    ends = ends_more seen more own r.ends;
    ended = last_more by seen more own r.ended;
    cause = r.cause;
    stops = λ h. stop_kept seen more (r.stops h);
  }

  owes_more : (seen more : List Entry) → of_maker by (seen ++ more) ≡ of_maker by seen → OwesScribe site digest by seen old new cursor why
      → OwesScribe site digest by (seen ++ more) old new cursor why
  owes_more seen more own o = elim o [
    | inl r ↦ inl (ran_more seen more own r)
    | inr u ↦ inr (record { unstarted = unstarted_more by seen more own u.unstarted; same = u.same; none = u.none; cancelled = u.cancelled })
  ]

  pub scribe_lasts : Lasts by (λ (history : List Entry). OwesScribe site digest by history old new cursor why)
  scribe_lasts = lasts_by by (λ (history : List Entry). OwesScribe site digest by history old new cursor why) owes_more
