-- The end of a scribe.
use Rattle.std.proofs.Common.{◌≡◌, ◌∷◌, [], ◌++◌, ℕ, Bool, true, false, ◌&&◌, ◌||◌, not, List, length-append, take, refl, sym, ◌∙◌, ap, subst, arith, Ok}
use Rattle.std.proofs.lemmas.List.{take-append-le}
use Rattle.cts_def.specs.Sites.{SiteData}
use Rattle.cts_entry.specs.declared.entry.Entry.{Entry}
use Rattle.cts_entry.specs.declared.what.What.TheVariants.{Ended}
use Rattle.cts_entry.specs.Histories.{is_stopped}
use Rattle.cts_entry.proofs.Appending.{stopped-append}
use Rattle.cts_table.specs.States.{Shown}
use Rattle.cts_table.specs.declared.basis.Basis.{Basis}
use Rattle.cts_trace.specs.Makers.{LastEnded, of_maker}
use Rattle.cts_trace.proofs.Others.{of_maker_append}
use Rattle.cts_turn.specs.declared.rule.View.{View}
use Rattle.cts_worker.specs.Holds.{EndedHold, Held}
use Rattle.cts_worker.specs.Lasts.{entry_of, first_moment, last_entries, stop_if}
use Rattle.cts_worker.proofs.Lasting.{ended_seen, last_own}
use Rattle.cts_scribe.specs.declared.cycles.Cycles.{Cycles}
use Rattle.cts_scribe.specs.declared.ending.ScribeWhy.{ScribeWhy}
use Rattle.cts_scribe.specs.declared.ending.ScribeWhy.TheVariants.{Drained, VaultFailed, NoMemory, Cancelled}
use Rattle.cts_worker.specs.declared.progress.Progress.{Progress}
use Rattle.cts_scribe.specs.Ending.{stops_all}
use Rattle.cts_scribe.specs.Following.{DrainsAt, Ends, Following, IsDrained}
use Rattle.cts_scribe.specs.declared.sight.Sight.TheVariants.{Drained as DrainedSight}
use Rattle.cts_scribe.proofs.Sighting.{Looked, held_silent, silent_more, take_kept}

drains_nothing : (why : ScribeWhy) (site : SiteData) (by place : ℕ) (stood : List Entry) → stops_all why ≡ true → DrainsAt site by why place stood
drains_nothing Drained site by place stood stops = absurd cc
drains_nothing VaultFailed site by place stood stops = tt
drains_nothing NoMemory site by place stood stops = tt
drains_nothing Cancelled site by place stood stops = tt

-- a scribe that cannot go on
pub gave_up : {G : Type 0} (site : SiteData) (by : ℕ) (why : ScribeWhy) (old new : View Entry G) (p : Progress) → stops_all why ≡ true
    → EndedHold by first_moment true old new → Following by old p
    → Ends site by why new.seen p.place
gave_up site by why old new p stops ended f =
    let stood = old.seen ++ ended.hold.others in
    record {
      stood = stood;
      seen_is = ended_seen by first_moment true old new ended ∙ ap (λ x. stood ++ last_entries x by first_moment stood) (sym stops);
      silent = silent_more by old.seen ended.hold.others f.silent ended.hold.strange;
      within = (let a = length-append old.seen ended.hold.others in let b = f.follows.within in omega (arith, a, b));
      drained = drains_nothing why site by p.place stood stops;
    }

-- a scribe that has drained the history
pub drained_ends : {G : Type 0} (site : SiteData) (by : ℕ) (old new : View Entry G) (s t : Shown) (p : Progress) → Held by old new s t
    → t.entries ≡ s.entries ++ last_entries false by first_moment s.entries
    → IsDrained site by p.place s.entries → Following by old p → Ends site by Drained new.seen p.place
drained_ends site by old new s t p held grows drained f = record {
  stood = s.entries;
  seen_is = held.seen ∙ grows;
  silent = held_silent by old new s t held f.silent;
  within = (let e = drained.last in omega (arith, e));
  drained = drained;
}

module _ (site : SiteData) (by : ℕ) (why : ScribeWhy) (seen : List Entry) (cursor : ℕ) (ends : Ends site by why seen cursor) where
  -- its last entry is its Ended
  pub ends_last : LastEnded by seen
  ends_last =
      let stood = ends.stood in
      let words = last_entries (stops_all why) by first_moment stood in (
        stop_if (stops_all why && not (is_stopped stood)) by first_moment,
        entry_of by first_moment Ended,
        ap (of_maker by) ends.seen_is ∙ of_maker_append by stood words ∙ ap (λ l. l ++ of_maker by words) ends.silent
            ∙ last_own by first_moment (stops_all why) stood,
        refl,
      )

  -- what was followed of what it had seen is followed of what stood
  pub ends_taken : take cursor seen ≡ take cursor ends.stood
  ends_taken = ap (take cursor) ends.seen_is ∙ take-append-le cursor ends.stood (last_entries (stops_all why) by first_moment ends.stood) ends.within

always : (x : Bool) (by : ℕ) → (x || is_stopped (stop_if (true && not x) by first_moment ++ entry_of by first_moment Ended ∷ [])) ≡ true
always true by = refl
always false by = refl

pub ends_stopped : (site : SiteData) (by : ℕ) (why : ScribeWhy) (seen : List Entry) (cursor : ℕ) → Ends site by why seen cursor → stops_all why ≡ true
    → is_stopped seen ≡ true
ends_stopped site by why seen cursor ends stops =
    let stood = ends.stood in
    ap is_stopped ends.seen_is ∙ stopped-append stood (last_entries (stops_all why) by first_moment stood)
    ∙ ap (λ x. is_stopped stood || is_stopped (last_entries x by first_moment stood)) stops ∙ always (is_stopped stood) by

pub looked_drained : {G : Type 0} (site : SiteData) (base : Basis) (by : ℕ) (old new : View Entry G) (p q : Progress) (d : Cycles) → Following by old p
    → Looked site base by old new p (Ok DrainedSight) q d → Ends site by Drained new.seen q.place
looked_drained site base by old new p q d f (s, t, b, held, sees) =
    subst (λ (x : Progress). Ends site by Drained new.seen x.place) (sym sees.1) (drained_ends site by old new s t p held sees.0 sees.2 f)

-- what was followed before it gave up is what was followed
pub gave_up_taken : {G : Type 0} (by : ℕ) (old new : View Entry G) (p r : Progress) → EndedHold by first_moment true old new → Following by old p → r ≡ p
    → take r.place new.seen ≡ take p.place old.seen
gave_up_taken by old new p r ended f same =
    ap (λ (x : Progress). take x.place new.seen) same ∙ take_kept old.seen new.seen p.place f.follows.within (ended.hold.others ++ ended.added, ended.hold.seen)

pub gave_up_at : {G : Type 0} (site : SiteData) (by : ℕ) (why : ScribeWhy) (old new : View Entry G) (p r : Progress) → stops_all why ≡ true
    → EndedHold by first_moment true old new → Following by old p → r ≡ p
    → Ends site by why new.seen r.place
gave_up_at site by why old new p r stops ended f same =
    subst (λ (x : Progress). Ends site by why new.seen x.place) (sym same) (gave_up site by why old new p stops ended f)
