-- What a hub does is one, there is one, and the laws of hubs hold of it.
use Rattle.std.proofs.Common.{◌≡◌, ℕ, true, List, [], ◌∷◌, ◌++◌, map, Option, Some, None, Result, Ok, Err, refl, sym, ◌∙◌, ap, ap₂, subst, arith}
use Rattle.cts_core.specs.Environments.{basis_of, site_environment}
use Rattle.cts_core.specs.Runs.{Did, Ending, Finished, NotEnabled, HistoryFull, Runs}
use Rattle.cts_core.specs.States.{is_piece, opening}
use Rattle.cts_core_laws.proofs.Legality.{core_is_legal}
use Rattle.cts_core_laws.proofs.OneRun.{has_one_run, has_run}
use Rattle.cts_core_laws.proofs.SiteSound.{legally, site_sound}
use Rattle.cts_core_laws.specs.Told.{history_of, told}
use Rattle.cts_def.specs.Sites.{SiteData}
use Rattle.cts_entry.specs.declared.event.Event.{Event}
use Rattle.cts_entry.specs.declared.event.Event.TheVariants.{Piece}
use Rattle.cts_framing.specs.Packets.{joined}
use Rattle.cts_framing.proofs.Stagings.{joined_append}
use Rattle.cts_play.specs.Pieces.{ArePieces, AreWhole, last_piece}
use Rattle.cts_play_laws.specs.Hearing.{MayCome, hearing}
use Rattle.cts_play_laws.specs.Hubs.{HandsOn}
use Rattle.cts_play_laws.specs.Putting.{last_put}
use Rattle.cts_play_laws.proofs.HubRun.{hubs_run}
use Rattle.cts_run.specs.Acts.{Act}
use Rattle.cts_run.specs.Hub.{GoesBelow, HubKeeps, IsBelow, IsHubOf, below_run}
use Rattle.cts_run.specs.Play.{play_acts, play_answer}
use Rattle.cts_run.specs.Replay.{replay_answer}
use Rattle.cts_run.specs.Transcript.{events_of}
use Rattle.cts_run.specs.declared.halt.Halt.{Halt}
use Rattle.cts_run.specs.declared.halt.Halt.TheVariants as halt
use Rattle.cts_run.specs.declared.hub.ends.Ends.{Ends}
use Rattle.cts_run.proofs.EndsLemmas.{Fits}
use Rattle.cts_run.proofs.EventLemmas.{all_append, last_comes, last_joined, one_pieces, piece_is, some_pieces}
use Rattle.cts_run.proofs.PlayedLemmas.{all_text}

-- ---- pieces that may come

whole_may : (cut : ℕ) → Fits cut → (pieces : List (List ℕ)) → AreWhole cut pieces → MayCome pieces
whole_may cut fits [] all = tt
whole_may cut fits (p ∷ pieces) all = (piece_is p (omega (arith, all.0, fits.0)) (omega (arith, all.0, fits.1)), whole_may cut fits pieces all.1)

record ArePiecesBy (by : ℕ) (bytes : List ℕ) (events : List Event) : Type 0 where
  pub pieces : List (List ℕ)
  pub events_are : events ≡ map (Piece by) pieces
  pub bytes_are : joined pieces ≡ bytes
  pub come : MayCome pieces

pieces_by : (by cut : ℕ) (bytes : List ℕ) (events : List Event) → Fits cut → ArePieces by cut bytes events → ArePiecesBy by bytes events
pieces_by by cut bytes events fits a = record {
  pieces = a.pieces ++ last_piece a.last;
  events_are = a.events_are;
  bytes_are = joined_append a.pieces (last_piece a.last) ∙ (ap (λ (t : List ℕ). joined a.pieces ++ t) (last_joined a.last) ∙ a.all);
  come = all_append (λ (p : List ℕ). is_piece p ≡ true) a.pieces (last_piece a.last) (whole_may cut fits a.pieces a.whole) (last_comes a.last (omega (arith, a.rest, fits.1)));
}

-- ---- the world below

module _ (above below : SiteData) (ends : Ends) (fits : Fits ends.cut) (events : List (ℕ × Event)) (dids : List Did) (runs : Runs (site_environment above) opening (events_of events) dids Finished) where
  -- what the slot put last
  abbrev bytes : List ℕ
  bytes = last_put (told ends.slot (events_of events) dids)

  module _ (pieces : List Event) (are : ArePieces ends.interface ends.cut bytes pieces) (below_dids : List Did) (ending : Ending) (below_runs : Runs (site_environment below) opening (below_run ends.interface pieces) below_dids ending) where
    -- the law of both runs
    law : (keeps : HubKeeps above below ends events) → (ending ≡ Finished) × HandsOn keeps.tied.heads above ends.slot ends.interface (history_of dids) bytes (history_of below_dids)
    law keeps =
        let t = keeps.tied in
        let p = pieces_by ends.interface ends.cut bytes pieces fits are in
        let heard : Runs (site_environment below) opening (hearing ends.interface p.pieces []) below_dids ending =
        subst (λ (es : List Event). Runs (site_environment below) opening (below_run ends.interface es) below_dids ending) p.events_are below_runs in
        let both = hubs_run t.heads above below ends.slot ends.interface (events_of events) dids Finished p.pieces below_dids ending t.sound t.stages t.tied t.slot (keeps.times dids Finished runs) runs p.bytes_are p.come heard in
        (both.0, subst (λ (b : List ℕ). HandsOn t.heads above ends.slot ends.interface (history_of dids) b (history_of below_dids)) p.bytes_are both.1)

    pub below_is : IsBelow above below ends events dids (play_acts below true below_dids ending) (play_answer (Ok tt) below_dids ending)
    below_is = record {
      pieces = pieces;
      pieces_are = are;
      below_dids = below_dids;
      ending = ending;
      runs = below_runs;
      acts_are = refl;
      text = all_text below true below_dids ending;
      legal = core_is_legal (basis_of below) (legally (basis_of below)) (below_run ends.interface pieces) below_dids ending below_runs;
      finished = λ keeps. (law keeps).0;
      hands = λ keeps. (law keeps).1;
      due_is = refl;
    }

    -- where all is tied and times are short, the world below does all
    pub below_finishes : HubKeeps above below ends events → ending ≡ Finished
    below_finishes keeps = (law keeps).0

  pub some_below : (acts : List Act) × (due : Result (Unit {0}) Halt) × IsBelow above below ends events dids acts due
  some_below =
      let ps = some_pieces ends.interface ends.cut bytes fits.0 in
      let run = has_run (site_environment below) (site_sound (basis_of below)) opening (below_run ends.interface ps.0) in
      (play_acts below true run.0 run.1, play_answer (Ok tt) run.0 run.1, below_is ps.0 ps.1 run.0 run.1 run.2)

  pub one_below : (acts other : List Act) (due answer : Result (Unit {0}) Halt) → IsBelow above below ends events dids acts due → IsBelow above below ends events dids other answer → (acts ≡ other) × (due ≡ answer)
  one_below acts other due answer a b =
      let same = one_pieces ends.interface ends.cut bytes a.pieces b.pieces fits.0 a.pieces_are b.pieces_are in
      let run = subst (λ (es : List Event). Runs (site_environment below) opening (below_run ends.interface es) a.below_dids a.ending) same a.runs in
      let one = has_one_run (site_environment below) (site_sound (basis_of below)) opening (below_run ends.interface b.pieces) a.below_dids b.below_dids a.ending b.ending run b.runs in (
        a.acts_are ∙ (ap₂ (λ (ds : List Did) (e : Ending). play_acts below true ds e) one.0 one.1 ∙ sym b.acts_are),
        a.due_is ∙ (ap₂ (λ (ds : List Did) (e : Ending). play_answer (Ok tt) ds e) one.0 one.1 ∙ sym b.due_is),
      )

-- ---- both worlds

module _ (above below : SiteData) (script : List ℕ) (events : List (ℕ × Event)) where
  abbrev Some_done : Option Ends → Type 0
  Some_done o = (acts : List Act) × (due : Result (Unit {0}) Halt) × IsHubOf above below script events o acts due

  some_by : (ends : Ends) → Fits ends.cut → (dids : List Did) (ending : Ending) → Runs (site_environment above) opening (events_of events) dids ending → Some_done (Some ends)
  some_by ends fits dids Finished runs =
      let b = some_below above below ends fits events dids runs in
      (b.0, b.1, record { dids = dids; ending = Finished; runs = runs; goes = b.2 })
  some_by ends fits dids NotEnabled runs = ([], replay_answer script events dids NotEnabled, record { dids = dids; ending = NotEnabled; runs = runs; goes = (refl, refl) })
  some_by ends fits dids HistoryFull runs = ([], replay_answer script events dids HistoryFull, record { dids = dids; ending = HistoryFull; runs = runs; goes = (refl, refl) })

  pub some_hub : (ends : Ends) → Fits ends.cut → Some_done (Some ends)
  some_hub ends fits =
      let run = has_run (site_environment above) (site_sound (basis_of above)) opening (events_of events) in
      some_by ends fits run.0 run.1 run.2

  pub some_hub_of : (o : Option Ends) → ((ends : Ends) → o ≡ Some ends → Fits ends.cut) → Some_done o
  some_hub_of None fits = ([], Err halt.Misused, (refl, refl))
  some_hub_of (Some ends) fits = some_hub ends (fits ends refl)

  one_goes : (ends : Ends) → Fits ends.cut → (dids : List Did) (ending : Ending) → Runs (site_environment above) opening (events_of events) dids ending → (acts other : List Act) (due answer : Result (Unit {0}) Halt)
      → GoesBelow above below ends script events dids ending acts due → GoesBelow above below ends script events dids ending other answer → (acts ≡ other) × (due ≡ answer)
  one_goes ends fits dids Finished runs acts other due answer a b = one_below above below ends fits events dids runs acts other due answer a b
  one_goes ends fits dids NotEnabled runs acts other due answer a b = (a.0 ∙ sym b.0, a.1 ∙ sym b.1)
  one_goes ends fits dids HistoryFull runs acts other due answer a b = (a.0 ∙ sym b.0, a.1 ∙ sym b.1)

  pub one_hub_of : (o : Option Ends) → ((ends : Ends) → o ≡ Some ends → Fits ends.cut) → (acts other : List Act) (due answer : Result (Unit {0}) Halt)
      → IsHubOf above below script events o acts due → IsHubOf above below script events o other answer → (acts ≡ other) × (due ≡ answer)
  one_hub_of None fits acts other due answer a b = (a.0 ∙ sym b.0, a.1 ∙ sym b.1)
  one_hub_of (Some ends) fits acts other due answer a b =
      let one = has_one_run (site_environment above) (site_sound (basis_of above)) opening (events_of events) a.dids b.dids a.ending b.ending a.runs b.runs in
      let goes_dids = subst (λ (ds : List Did). GoesBelow above below ends script events ds a.ending acts due) one.0 a.goes in
      let goes = subst (λ (e : Ending). GoesBelow above below ends script events b.dids e acts due) one.1 goes_dids in
      one_goes ends (fits ends refl) b.dids b.ending b.runs acts other due answer goes b.goes
