-- What a story tells of an event, from what the world says.
use Rattle.std.proofs.Common.{◌≡◌, ℕ, ◌-◌, nat_le, true, ◌++◌, List, [], ◌∷◌, length, take, drop, filter, Result, Ok, Err, refl, sym, ◌∙◌, ap, arith, length-drop}
use Rattle.std.proofs.Math.Seq.{drop-append_seam, take-append_seam, take-length}
use Rattle.std.proofs.lemmas.Bool.Decides.{nat_tests}
use Rattle.cts_core.specs.Endings.{LogPasses, WorldData, held_in, lasting}
use Rattle.cts_core.specs.Environments.{basis_of, site_environment}
use Rattle.cts_core.specs.Runs.{Did, after}
use Rattle.cts_core.specs.States.{State, commands_log, log_ahead, packets_log}
use Rattle.cts_core.specs.Worlds.{Held, Represents, Steps}
use Rattle.cts_core.specs.declared.fault.WorldFault.{WorldFault}
use Rattle.cts_core.specs.declared.fault.WorldFault.TheVariants as fault
use Rattle.cts_def.specs.Sites.{SiteData}
use Rattle.cts_entry.specs.declared.entry.Entry.{Entry}
use Rattle.cts_entry.specs.declared.event.Effect.{Effect}
use Rattle.cts_entry.specs.declared.event.Effect.TheVariants.{Logged}
use Rattle.cts_entry.specs.declared.event.Event.{Event}
use Rattle.cts_entry.specs.declared.event.Event.TheVariants.{DrainLog}
use Rattle.cts_script.specs.Effects.{effect_line}
use Rattle.cts_run.specs.Story.{Drains, Moves, Stands, StoryData, Tells}
use Rattle.cts_run.specs.Transcript.{event_text, lines_of}
use Rattle.cts_table.specs.declared.basis.Basis.{Basis}
use Rattle.cts_monitor.specs.Events.{is_from}
use Rattle.cts_monitor.specs.declared.types.LimitsEvent.{LimitsEvent as Change}

-- the site of the basis that a story stands on is its site
pub site_is : (site : SiteData) (s : State) (story : StoryData) → Stands site s story → (held_in story.world).basis.site ≡ site
site_is site s story h = ap (λ (b : Basis). b.site) h.represents.basis

-- all limits events are at entry 0 or later
pub all_from : (changes : List Change) → filter (is_from 0) changes ≡ changes
all_from [] = refl
all_from (c ∷ changes) =
    let below : nat_le 0 c.at ≡ true = grind (arith, nat_tests) in
    rw below (ap (λ (t : List Change). c ∷ t) (all_from changes))

-- an event was done without its text, or not
pub moved : (site : SiteData) (s : State) (event : Event) (old : StoryData) (world : WorldData) (result : Result Effect WorldFault)
    → Steps (basis_of site) s event (held_in old.world) result (held_in world) → LogPasses s event result world → world.ended ≡ lasting result → Moves site s event result (record { world = world })
moved site s event old world (Ok effect) k p e = (k.0, k.1, k.2, record { represents = k.3; going = e; passed = p })
moved site s event old world (Err fault.NotEnabled) k p e = k.0
moved site s event old world (Err (fault.Full entries bytes)) k p e = (k.0, k.1, k.2)
moved site s event old world (Err fault.Memory) k p e = tt

-- nothing was done
pub refused_tells : (site : SiteData) (s : State) (event : Event) (old : StoryData) (world : WorldData) (why : WorldFault)
    → Stands site s old → Steps (basis_of site) s event (held_in old.world) (Err why) (held_in world) → LogPasses s event (Err why) world → world.ended ≡ lasting (Err why) → Tells site s event (Err why) (record { world = world })
refused_tells site s event old world fault.NotEnabled h k p e = (k.0, record { represents = k.2; going = e; passed = p })
refused_tells site s event old world (fault.Full entries bytes) h k p e = (k.0, k.1, k.2)
refused_tells site s event old world fault.Memory h k p e = tt

-- an event was done, and n entries stood before it; the hall shows these entries on this basis
module _ (site : SiteData) (s : State) (event : Event) (did : Did) (old : StoryData) (world : WorldData) (h : Stands site s old) (k : Represents site (held_in world) (after s event did))
    (n : ℕ) (entries : List Entry) (basis : Basis) (number : n ≡ length (held_in old.world).history) (there : entries ≡ (held_in world).history) (on : basis ≡ (held_in world).basis) where
  all_is : entries ≡ s.history ++ did.entries
  all_is = there ∙ k.history

  count_is : n ≡ length s.history
  count_is = number ∙ ap (λ (t : List Entry). length t) h.represents.history

  front_is : take n entries ≡ s.history
  front_is = ap (λ (m : ℕ). take m entries) count_is ∙ ap (λ (t : List Entry). take (length s.history) t) all_is ∙ take-append_seam s.history did.entries

  back_is : drop n entries ≡ did.entries
  back_is = ap (λ (m : ℕ). drop m entries) count_is ∙ ap (λ (t : List Entry). drop (length s.history) t) all_is ∙ drop-append_seam s.history did.entries

  on_site : basis.site ≡ site
  on_site = ap (λ (b : Basis). b.site) (on ∙ k.basis)

  text_is : (effect : Effect) → effect ≡ did.effect → lines_of basis.site (take n entries) (drop n entries) ++ effect_line basis.site effect ≡ event_text site s.history did
  text_is effect gives =
      ap (λ (t : List Entry). lines_of basis.site t (drop n entries) ++ effect_line basis.site effect) front_is
      ∙ ap (λ (t : List Entry). lines_of basis.site s.history t ++ effect_line basis.site effect) back_is
      ∙ ap (λ (t : SiteData). lines_of t s.history did.entries ++ effect_line t effect) on_site
      ∙ ap (λ (f : Effect). lines_of site s.history did.entries ++ effect_line site f) gives

-- its text is told, and what it gave besides
pub done_tells : (site : SiteData) (s : State) (event : Event) (old : StoryData) (world : WorldData) (effect : Effect)
    → Stands site s old → Steps (basis_of site) s event (held_in old.world) (Ok effect) (held_in world) → LogPasses s event (Ok effect) world → world.ended ≡ lasting (Ok effect)
    → (n : ℕ) (entries : List Entry) (basis : Basis) (text : List ℕ) → n ≡ length (held_in old.world).history → entries ≡ (held_in world).history → basis ≡ (held_in world).basis
    → text ≡ lines_of basis.site (take n entries) (drop n entries) ++ effect_line basis.site effect
    → Tells site s event (Ok (text, effect)) (record { world = world })
done_tells site s event old world effect h k p e n entries basis text number there on t = (
  k.0,
  k.1,
  t ∙ text_is site s event k.0 old world h k.3 n entries basis number there on effect k.2,
  k.2,
  record { represents = k.3; going = e; passed = p },
)

-- ---- the rest for the logs

-- a number of entries are ahead of the logs
enough : (site : SiteData) (s : State) (n count : ℕ) → n ≡ length s.history → count ≡ n - s.log_cursor → nat_le count (length (log_ahead s)) ≡ true
enough site s n count e f =
    let l = length-drop s.log_cursor s.history in
    grind (arith, nat_tests, l, e, f)

-- and they are all of them
all_ahead : (s : State) (n count : ℕ) → n ≡ length s.history → count ≡ n - s.log_cursor → take count (log_ahead s) ≡ log_ahead s
all_ahead s n count e f =
    let same : count ≡ length (log_ahead s) = omega (arith, e, f, length-drop s.log_cursor s.history) in
    ap (λ (k : ℕ). take k (log_ahead s)) same ∙ take-length (log_ahead s)

pub rest_drains : (site : SiteData) (s : State) (old new : Held) (n count : ℕ) (result : Result Effect WorldFault) → n ≡ length s.history → count ≡ n - s.log_cursor
    → Steps (basis_of site) s (DrainLog count) old result new → Drains site s result
rest_drains site s old new n count (Ok effect) e f k =
    k.2 ∙ (k.1.effect ∙ ap (λ (es : List Entry). Logged (packets_log (site_environment site) es) (commands_log (site_environment site) es)) (all_ahead s n count e f))
rest_drains site s old new n count (Err fault.NotEnabled) e f k = absurd (cc (sym (enough site s n count e f) ∙ k.0))
rest_drains site s old new n count (Err (fault.Full entries bytes)) e f k = absurd (cc k.0.1)
rest_drains site s old new n count (Err fault.Memory) e f k = tt
