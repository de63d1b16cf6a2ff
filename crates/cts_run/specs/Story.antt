-- A story: a world, and what it tells of an event.
use Rattle.std.specs.Prelude.{◌≡◌, ℕ, List, Result, Ok, Err}
use Rattle.cts_core.specs.Endings.{GoesOn, HasPassed, WorldData, held_in}
use Rattle.cts_core.specs.Environments.{site_environment}
use Rattle.cts_core.specs.Runs.{Did, Does, after, Refuses, NotEnabled, HistoryFull}
use Rattle.cts_core.specs.States.{State, commands_log, log_ahead, packets_log}
use Rattle.cts_core.specs.Worlds.{Represents}
use Rattle.cts_core.specs.declared.fault.WorldFault.{WorldFault}
use Rattle.cts_core.specs.declared.fault.WorldFault.TheVariants.{NotEnabled as RefusedEvent, Full, Memory}
use Rattle.cts_def.specs.Sites.{SiteData}
use Rattle.cts_entry.specs.Histories.{entries_in, bytes_in}
use Rattle.cts_entry.specs.declared.event.Effect.{Effect}
use Rattle.cts_entry.specs.declared.event.Effect.TheVariants.{Logged}
use Rattle.cts_entry.specs.declared.event.Event.{Event}
use Rattle.cts_run.specs.Transcript.{event_text}

pub record StoryData : Type 0 where
  pub world : WorldData

-- the site of a story
abbrev pub site_told : StoryData → SiteData
site_told story = (held_in story.world).basis.site

-- The world represents this state and has not ended, and its logs have passed as many entries as the state's.
pub record Stands (site : SiteData) (s : State) (story : StoryData) : Type 0 where
  pub represents : Represents site (held_in story.world) s
  pub going : GoesOn story.world
  pub passed : HasPassed story.world s

-- What an event gives that is done without its text, or why it is not done.
abbrev pub Moves : SiteData → State → Event → Result Effect WorldFault → StoryData → Type 0
Moves site s event (Ok effect) story = (did : Did) × Does (site_environment site) s event did × (effect ≡ did.effect) × Stands site (after s event did) story
Moves site s event (Err RefusedEvent) story = Refuses (site_environment site) s event NotEnabled
Moves site s event (Err (Full entries bytes)) story = Refuses (site_environment site) s event HistoryFull × (entries ≡ entries_in s.history)
    × (bytes ≡ bytes_in s.history)
Moves site s event (Err Memory) story = Unit {0}

-- What a story tells of an event: the text of what it did, and what it gave besides. Where it is not enabled, or the history is full, nothing is done.
abbrev pub Tells : SiteData → State → Event → Result (List ℕ × Effect) WorldFault → StoryData → Type 0
Tells site s event (Ok told) story =
    (did : Did) × Does (site_environment site) s event did × (told.0 ≡ event_text site s.history did) × (told.1 ≡ did.effect)
    × Stands site (after s event did) story
Tells site s event (Err RefusedEvent) story = Refuses (site_environment site) s event NotEnabled × Stands site s story
Tells site s event (Err (Full entries bytes)) story = Refuses (site_environment site) s event HistoryFull × (entries ≡ entries_in s.history)
    × (bytes ≡ bytes_in s.history)
Tells site s event (Err Memory) story = Unit {0}

-- The rest of the history was given to the logs, or memory was wanted.
abbrev pub Drains : SiteData → State → Result Effect WorldFault → Type 0
Drains site s (Ok effect) = effect ≡ Logged (packets_log (site_environment site) (log_ahead s)) (commands_log (site_environment site) (log_ahead s))
Drains site s (Err RefusedEvent) = ⊥
Drains site s (Err (Full entries bytes)) = ⊥
Drains site s (Err Memory) = Unit {0}
