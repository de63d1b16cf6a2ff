-- Which statuses a hub has.
use Rattle.std.proofs.Common.{◌≡◌, ◌≢◌, ℕ, List, [], ◌∷◌, ◌++◌, Option, Some, None, option_map, MatchOption, Result, Ok, Err, refl, sym, ◌∙◌, ap, subst}
use Rattle.std.specs.Option.{option_or}
use Rattle.cts_core.specs.Runs.{Did, Ending, Finished, NotEnabled, HistoryFull}
use Rattle.cts_def.specs.Sites.{SiteData}
use Rattle.cts_def.specs.declared.proto_spec.Kind.{Kind}
use Rattle.cts_entry.specs.declared.event.Event.{Event}
use Rattle.cts_proto.specs.Meaning.{Meaning}
use Rattle.cts_run.specs.Acts.{Act}
use Rattle.cts_run.specs.Command.{IsDone, IsDueOf, Outcome, outcome_of, phases}
use Rattle.cts_run.specs.Hub.{GoesBelow, IsHub, IsHubOf, ends_of, joint, names_halt, pair_phases, tie_cause, tie_halt, tie_phases}
use Rattle.cts_run.specs.Laws.{HasMisnamed, HasUntied, IsShortHub}
use Rattle.cts_run.specs.Load.{definitions_asked, definitions_phase, definitions_read, events_asked, script_phase, site_asked, site_phase, site_read}
use Rattle.cts_run.specs.Phases.{Phase, asking, first_halt}
use Rattle.cts_run.specs.Play.{play_answer}
use Rattle.cts_run.specs.Start.{shelf_phase, short_halt, short_kind}
use Rattle.cts_run.specs.Tie.{TieData}
use Rattle.cts_run.specs.declared.halt.Halt.{Halt}
use Rattle.cts_run.specs.declared.halt.Halt.TheVariants as halt
use Rattle.cts_run.specs.declared.halt.file_kind.FileKind.TheVariants.{Configuration}
use Rattle.cts_run.specs.declared.halt.hub_cause.HubCause.{HubCause}
use Rattle.cts_run.specs.declared.halt.status.Status.{Status}
use Rattle.cts_run.specs.declared.halt.status.Status.TheVariants as is
use Rattle.cts_run.specs.declared.hub.ends.Ends.{Ends}
use Rattle.cts_run.specs.declared.words.Command.TheVariants.{Hub}
use Rattle.cts_run.proofs.PhaseLemmas.{first_front, first_past}
use Rattle.cts_run.proofs.StatusLemmas.{Has, IsOther, Other, hub_is_other, of_file, of_phases, of_run, of_script, other_or, outcome_status, shelf_is_other, usage_is_other}

-- ---- a status of one phase

module _ (s : Status) (other : IsOther s) (before : List Phase) (p : Phase) (after : List Phase) (done : List Act → Result (Unit {0}) Halt → Type 0) where
  abbrev Due : List Phase → List Act → Result (Unit {0}) Halt → Type 0
  Due ps acts due = IsDueOf ps done acts due

  -- where no phase before has it, and nothing after
  pub record IsAlone : Type 0 where
    pub first : Other s other (first_halt before)
    pub later : (acts : List Act) (due : Result (Unit {0}) Halt) → p.halts ≡ None → Due after acts due → Has s other due → ⊥

  pub where_due : IsAlone → (acts : List Act) (due : Result (Unit {0}) Halt) → Due (before ++ p ∷ after) acts due → Has s other due → (first_halt before ≡ None) × ((h : Halt) × (p.halts ≡ Some h))
  where_due alone acts due m k = by_first (first_halt before) refl alone.first
    where
      by_own : (o : Option Halt) → p.halts ≡ o → first_halt before ≡ None → (first_halt before ≡ None) × ((h : Halt) × (p.halts ≡ Some h))
      by_own (Some h) e none = (none, (h, e))
      by_own None e none =
          let same : first_halt (before ++ p ∷ after) ≡ first_halt after = first_past before (p ∷ after) none ∙ ap (λ (o : Option Halt). option_or o (first_halt after)) e in
          absurd (alone.later acts due e (subst (λ (o : Option Halt). MatchOption o (done acts due) (λ x. (acts ≡ []) × (due ≡ Err x))) same m) k)

      by_first : (o : Option Halt) → first_halt before ≡ o → Other s other o → (first_halt before ≡ None) × ((h : Halt) × (p.halts ≡ Some h))
      by_first None e apart = by_own p.halts refl e
      by_first (Some f) e apart =
          let m' = subst (λ (o : Option Halt). MatchOption o (done acts due) (λ x. (acts ≡ []) × (due ≡ Err x))) (first_front before (p ∷ after) f e) m in
          absurd (apart (subst (Has s other) m'.1 k))

  pub told_due : (acts : List Act) (due : Result (Unit {0}) Halt) (h : Halt) → first_halt before ≡ None → p.halts ≡ Some h → Due (before ++ p ∷ after) acts due → due ≡ Err h
  told_due acts due h none e m =
      let same : first_halt (before ++ p ∷ after) ≡ Some h = first_past before (p ∷ after) none ∙ ap (λ (o : Option Halt). option_or o (first_halt after)) e in
      (subst (λ (o : Option Halt). MatchOption o (done acts due) (λ x. (acts ≡ []) × (due ≡ Err x))) same m).1

-- ---- statuses that a hub does not have

module _ (s : Status) (other : IsOther s) where
  played_other : (dids : List Did) (ending : Ending) → Has s other (play_answer (Ok tt) dids ending) → ⊥
  played_other dids Finished h = other.ok h
  played_other dids NotEnabled h = other.ok h
  played_other dids HistoryFull h = other.history_full h

  goes_other : (above below : SiteData) (ends : Ends) (script : List ℕ) (events : List (ℕ × Event)) (dids : List Did) (ending : Ending) (acts : List Act) (due : Result (Unit {0}) Halt) → GoesBelow above below ends script events dids ending acts due → Has s other due → ⊥
  goes_other above below ends script events dids Finished acts due g h = played_other g.below_dids g.ending (subst (Has s other) g.due_is h)
  goes_other above below ends script events dids NotEnabled acts due g h = of_run s other script events dids NotEnabled (subst (Has s other) g.1 h)
  goes_other above below ends script events dids HistoryFull acts due g h = of_run s other script events dids HistoryFull (subst (Has s other) g.1 h)

  pub hub_done_other : (above below : SiteData) (script : List ℕ) (events : List (ℕ × Event)) (ends : Ends) (acts : List Act) (due : Result (Unit {0}) Halt) → IsHub above below script events ends acts due → Has s other due → ⊥
  hub_done_other above below script events ends acts due h k = goes_other above below ends script events h.dids h.ending acts due h.goes k

  pub named_other : (above below : SiteData) (script : List ℕ) (events : List (ℕ × Event)) (o : Option Ends) (ends : Ends) (acts : List Act) (due : Result (Unit {0}) Halt) → o ≡ Some ends → IsHubOf above below script events o acts due → Has s other due → ⊥
  named_other above below script events o ends acts due e h k =
      hub_done_other above below script events ends acts due (subst (λ (x : Option Ends). IsHubOf above below script events x acts due) e h) k

  module _ (files : List ℕ → Option (List ℕ)) (definitions site below : List ℕ) where
    pub pair_other : Other s other (first_halt (pair_phases files definitions site below))
    pair_other =
        let d = definitions_asked files definitions in
        other_or s other (definitions_phase files definitions).halts _ (of_file s other Configuration definitions definitions_read (files definitions))
        (other_or s other (site_phase files d site).halts _ (of_file s other Configuration site (site_read d) (files site))
        (other_or s other (site_phase files d below).halts None (of_file s other Configuration below (site_read d) (files below)) tt))

    module _ (usage_other : is.Usage ≢ s) where
      names_other : (o : Option Ends) → Other s other (names_halt o)
      names_other None = usage_other
      names_other (Some ends) = tt

      of_hub : (above lower : SiteData) (script : List ℕ) (events : List (ℕ × Event)) (o : Option Ends) (acts : List Act) (due : Result (Unit {0}) Halt) → IsHubOf above lower script events o acts due → Has s other due → ⊥
      of_hub above lower script events None acts due h k = usage_other (subst (Has s other) h.1 k)
      of_hub above lower script events (Some ends) acts due h k = hub_done_other above lower script events ends acts due h k

      module _ (hub_refused_other : is.HubRefused ≢ s) where
        cause_other : (c : Option HubCause) → Other s other (option_map halt.HubRefused c)
        cause_other None = tt
        cause_other (Some cause) = hub_refused_other

        tie_other : (above lower : SiteData) (o : Option Ends) → Other s other (tie_halt above lower o)
        tie_other above lower None = tt
        tie_other above lower (Some ends) = cause_other (tie_cause above lower ends)

        pub ties_other : (above lower : SiteData) (tie : TieData) → Other s other (first_halt (tie_phases above lower tie))
        ties_other above lower tie =
            other_or s other (names_halt (ends_of above lower tie)) _ (names_other (ends_of above lower tie))
            (other_or s other (tie_halt above lower (ends_of above lower tie)) None (tie_other above lower (ends_of above lower tie)) tt)

-- a status that no hub has
short_other : (s : Status) (other : IsOther s) → is.ShelfEmpty ≢ s → (stock : List Meaning) (x : SiteData) (kind : Option Kind) → Other s other (option_map (short_halt stock x) kind)
short_other s other apart stock x None = tt
short_other s other apart stock x (Some kind) = apart

either_other : (s : Status) (other : IsOther s) (ps qs : List Phase) → Other s other (first_halt ps) → Other s other (first_halt qs) → Other s other (first_halt (ps ++ qs))
either_other s other [] qs a b = b
either_other s other (p ∷ ps) qs a b = by_first p.halts refl a (λ k. either_other s other ps qs k b)
  where
    by_first : (o : Option Halt) → p.halts ≡ o → Other s other (option_or p.halts (first_halt ps))
        → (Other s other (first_halt ps) → Other s other (first_halt (ps ++ qs))) → Other s other (option_or p.halts (first_halt (ps ++ qs)))
    by_first None e k later =
        let k' = subst (λ (o : Option Halt). Other s other (option_or o (first_halt ps))) e k in
        subst (λ (o : Option Halt). Other s other (option_or o (first_halt (ps ++ qs)))) (sym e) (later k')
    by_first (Some h) e k later =
        let k' = subst (λ (o : Option Halt). Other s other (option_or o (first_halt ps))) e k in
        subst (λ (o : Option Halt). Other s other (option_or o (first_halt (ps ++ qs)))) (sym e) k'

module _ (stock : List Meaning) (files : List ℕ → Option (List ℕ)) (definitions site script below : List ℕ) (tie : TieData) where
  abbrev above : SiteData
  above = site_asked files definitions site

  abbrev lower : SiteData
  lower = site_asked files definitions below

  abbrev pair : List Phase
  pair = pair_phases files definitions site below

  abbrev names : Phase
  names = asking (names_halt (ends_of above lower tie))

  abbrev tied : Phase
  tied = asking (tie_halt above lower (ends_of above lower tie))

  abbrev shelf : Phase
  shelf = shelf_phase stock (joint above lower)

  abbrev reads : Phase
  reads = script_phase files above script

  abbrev done : List Act → Result (Unit {0}) Halt → Type 0
  done = IsHubOf above lower script (events_asked files above script) (ends_of above lower tie)

  abbrev All_due : List Act → Result (Unit {0}) Halt → Type 0
  All_due acts due = IsDueOf (phases stock files (Hub definitions site script below tie)) (IsDone files (Hub definitions site script below tie)) acts due

  script_other : (s : Status) (other : IsOther s) (acts : List Act) (due : Result (Unit {0}) Halt) → (IsHubOf above lower script (events_asked files above script) (ends_of above lower tie) acts due → Has s other due → ⊥) → IsDueOf (reads ∷ []) done acts due → Has s other due → ⊥
  script_other s other acts due never m k = of_phases s other (first_halt (reads ∷ [])) (done acts due) acts due (of_script s other files definitions site above script) never m k

  pub hub_other : (s : Status) (other : IsOther s) → is.Usage ≢ s → is.HubRefused ≢ s → is.ShelfEmpty ≢ s → (acts : List Act) (due : Result (Unit {0}) Halt) → All_due acts due → Has s other due → ⊥
  hub_other s other a b c acts due m k =
      let ties = ties_other s other files definitions site below a b above lower tie in
      let worlds = other_or s other shelf.halts _ (short_other s other c stock (joint above lower) (short_kind stock (joint above lower))) (of_script s other files definitions site above script) in
      of_phases s other (first_halt (pair ++ (tie_phases above lower tie ++ shelf ∷ reads ∷ []))) (done acts due) acts due
      (either_other s other pair (tie_phases above lower tie ++ shelf ∷ reads ∷ []) (pair_other s other files definitions site below)
      (either_other s other (tie_phases above lower tie) (shelf ∷ reads ∷ []) ties worlds))
      (λ d e. of_hub s other files definitions site below a above lower script (events_asked files above script) (ends_of above lower tie) acts due d e) m k

  -- ---- a shelf that is short

  abbrev before_shelf : List Phase
  before_shelf = pair ++ tie_phases above lower tie

  not_usage : is.Usage ≢ is.ShelfEmpty
  not_usage e = absurd (cc e)

  not_refused : is.HubRefused ≢ is.ShelfEmpty
  not_refused e = absurd (cc e)

  shelf_alone : IsAlone is.ShelfEmpty shelf_is_other before_shelf shelf (reads ∷ []) done
  shelf_alone = record {
    first = either_other is.ShelfEmpty shelf_is_other pair (tie_phases above lower tie) (pair_other is.ShelfEmpty shelf_is_other files definitions site below)
        (ties_other is.ShelfEmpty shelf_is_other files definitions site below not_usage not_refused above lower tie);
    later = λ acts due e m k. script_other is.ShelfEmpty shelf_is_other acts due
        (λ d. of_hub is.ShelfEmpty shelf_is_other files definitions site below not_usage above lower script (events_asked files above script) (ends_of above lower tie) acts due d) m k;
  }

  split : (ps qs : List Phase) → first_halt (ps ++ qs) ≡ None → (first_halt ps ≡ None) × (first_halt qs ≡ None)
  split [] qs e = (refl, e)
  split (p ∷ ps) qs e = by_own p.halts refl e (λ none. split ps qs none)
    where
      by_own : (o : Option Halt) → p.halts ≡ o → option_or p.halts (first_halt (ps ++ qs)) ≡ None
          → (first_halt (ps ++ qs) ≡ None → (first_halt ps ≡ None) × (first_halt qs ≡ None))
          → (option_or p.halts (first_halt ps) ≡ None) × (first_halt qs ≡ None)
      by_own None f e later =
          let both = later (sym (ap (λ (o : Option Halt). option_or o (first_halt (ps ++ qs))) f) ∙ e) in
          (ap (λ (o : Option Halt). option_or o (first_halt ps)) f ∙ both.0, both.1)
      by_own (Some h) f e later = let never : Some h ≡ None = sym (ap (λ (o : Option Halt). option_or o (first_halt (ps ++ qs))) f) ∙ e in absurd (cc never)

  short_some : (kind : Option Kind) (h : Halt) → short_kind stock (joint above lower) ≡ kind → option_map (short_halt stock (joint above lower)) kind ≡ Some h → (k : Kind) × (short_kind stock (joint above lower) ≡ Some k)
  short_some None h e f = absurd (cc f)
  short_some (Some k) h e f = (k, e)

  pub short_hub_where : (acts : List Act) (due : Result (Unit {0}) Halt) → All_due acts due → Has is.ShelfEmpty shelf_is_other due → IsShortHub stock files definitions site below tie
  short_hub_where acts due m k =
      let w = where_due is.ShelfEmpty shelf_is_other before_shelf shelf (reads ∷ []) done shelf_alone acts due m k in
      let both = split pair (tie_phases above lower tie) w.0 in
      let short = short_some (short_kind stock (joint above lower)) w.1.0 refl w.1.1 in
      record { taken = both.0; tied = both.1; kind = short.0; short = short.1 }

  pub short_hub_so : (acts : List Act) (due : Result (Unit {0}) Halt) (o : Outcome) → o ≡ outcome_of acts due → All_due acts due → IsShortHub stock files definitions site below tie → o.status ≡ is.ShelfEmpty
  short_hub_so acts due o e m b =
      let h = short_halt stock (joint above lower) b.kind in
      let none = first_past pair (tie_phases above lower tie) b.taken ∙ b.tied in
      outcome_status acts due h o e (told_due is.ShelfEmpty shelf_is_other before_shelf shelf (reads ∷ []) done acts due h none (ap (option_map (short_halt stock (joint above lower))) b.short) m)

  -- ---- what can't be tied

  refused_alone : IsAlone is.HubRefused hub_is_other (pair ++ names ∷ []) tied (shelf ∷ reads ∷ []) done
  refused_alone = record {
    first = either_other is.HubRefused hub_is_other pair (names ∷ []) (pair_other is.HubRefused hub_is_other files definitions site below)
        (other_or is.HubRefused hub_is_other (names_halt (ends_of above lower tie)) None (names_other is.HubRefused hub_is_other files definitions site below (λ e. absurd (cc e)) (ends_of above lower tie)) tt);
    later = λ acts due e m k.
        of_phases is.HubRefused hub_is_other (first_halt (shelf ∷ reads ∷ [])) (done acts due) acts due
        (other_or is.HubRefused hub_is_other shelf.halts _ (short_other is.HubRefused hub_is_other (λ x. absurd (cc x)) stock (joint above lower) (short_kind stock (joint above lower))) (of_script is.HubRefused hub_is_other files definitions site above script))
        (λ d x. of_hub is.HubRefused hub_is_other files definitions site below (λ y. absurd (cc y)) above lower script (events_asked files above script) (ends_of above lower tie) acts due d x) m k;
  }

  -- why they can't, where they can't
  cause_some : (c : Option HubCause) (h : Halt) → option_map halt.HubRefused c ≡ Some h → (cause : HubCause) × (c ≡ Some cause)
  cause_some None h e = absurd (cc e)
  cause_some (Some cause) h e = (cause, refl)

  untied_some : (o : Option Ends) (h : Halt) → first_halt pair ≡ None → ends_of above lower tie ≡ o → tie_halt above lower o ≡ Some h → HasUntied files definitions site below tie
  untied_some None h taken e f = absurd (cc f)
  untied_some (Some ends) h taken e f =
      let c = cause_some (tie_cause above lower ends) h f in
      record { taken = taken; ends = ends; named = e; cause = c.0; why = c.1 }

  pub untied_where : (acts : List Act) (due : Result (Unit {0}) Halt) → All_due acts due → Has is.HubRefused hub_is_other due → HasUntied files definitions site below tie
  untied_where acts due m k =
      let w = where_due is.HubRefused hub_is_other (pair ++ names ∷ []) tied (shelf ∷ reads ∷ []) done refused_alone acts due m k in
      untied_some (ends_of above lower tie) w.1.0 (split pair (names ∷ []) w.0).0 refl w.1.1

  pub untied_so : (acts : List Act) (due : Result (Unit {0}) Halt) (o : Outcome) → o ≡ outcome_of acts due → All_due acts due → HasUntied files definitions site below tie → o.status ≡ is.HubRefused
  untied_so acts due o e m b =
      let h = halt.HubRefused b.cause in
      let named : first_halt (names ∷ []) ≡ None = ap (λ (x : Option Ends). option_or (names_halt x) None) b.named in
      let none = first_past pair (names ∷ []) b.taken ∙ named in
      let why : tied.halts ≡ Some h = ap (tie_halt above lower) b.named ∙ ap (option_map halt.HubRefused) b.why in
      outcome_status acts due h o e (told_due is.HubRefused hub_is_other (pair ++ names ∷ []) tied (shelf ∷ reads ∷ []) done acts due h none why m)

  -- ---- words that name nothing

  names_none : (o : Option Ends) (h : Halt) → names_halt o ≡ Some h → o ≡ None
  names_none None h e = refl
  names_none (Some ends) h e = absurd (cc e)

  names_some : (o : Option Ends) → names_halt o ≡ None → (ends : Ends) × (o ≡ Some ends)
  names_some None e = absurd (cc e)
  names_some (Some ends) e = (ends, refl)

  usage_cause : (c : Option HubCause) → Other is.Usage usage_is_other (option_map halt.HubRefused c)
  usage_cause None = tt
  usage_cause (Some cause) = λ e. absurd (cc e)

  usage_tie : (o : Option Ends) → Other is.Usage usage_is_other (tie_halt above lower o)
  usage_tie None = tt
  usage_tie (Some ends) = usage_cause (tie_cause above lower ends)

  names_alone : IsAlone is.Usage usage_is_other pair names (tied ∷ shelf ∷ reads ∷ []) done
  names_alone = record {
    first = pair_other is.Usage usage_is_other files definitions site below;
    later = λ acts due e m k.
        let named = names_some (ends_of above lower tie) e in
        of_phases is.Usage usage_is_other (first_halt (tied ∷ shelf ∷ reads ∷ [])) (done acts due) acts due
        (other_or is.Usage usage_is_other tied.halts _ (usage_tie (ends_of above lower tie))
        (other_or is.Usage usage_is_other shelf.halts _ (short_other is.Usage usage_is_other (λ x. absurd (cc x)) stock (joint above lower) (short_kind stock (joint above lower))) (of_script is.Usage usage_is_other files definitions site above script)))
        (λ d x. named_other is.Usage usage_is_other above lower script (events_asked files above script) (ends_of above lower tie) named.0 acts due named.1 d x) m k;
  }

  pub misnamed_where : (acts : List Act) (due : Result (Unit {0}) Halt) → All_due acts due → Has is.Usage usage_is_other due → HasMisnamed files definitions site below tie
  misnamed_where acts due m k =
      let w = where_due is.Usage usage_is_other pair names (tied ∷ shelf ∷ reads ∷ []) done names_alone acts due m k in
      record { taken = w.0; none = names_none (ends_of above lower tie) w.1.0 w.1.1 }

  pub misnamed_so : (acts : List Act) (due : Result (Unit {0}) Halt) (o : Outcome) → o ≡ outcome_of acts due → All_due acts due → HasMisnamed files definitions site below tie → o.status ≡ is.Usage
  misnamed_so acts due o e m b =
      outcome_status acts due halt.Misused o e (told_due is.Usage usage_is_other pair names (tied ∷ shelf ∷ reads ∷ []) done acts due halt.Misused b.taken (ap names_halt b.none) m)
