-- One more statement adds its event to those before it.
use Rattle.std.proofs.Common.{◌≡◌, ◌∙◌, ℕ, List, [], ◌∷◌, ◌++◌, Some, None, Ok, Err, refl, sym, ap}
use Rattle.std.specs.Prelude.{option_map}
use Rattle.std.specs.List.{filter_map}
use Rattle.cts_def.specs.Sites.{SiteData}
use Rattle.cts_entry.specs.declared.event.Event.{Event}
use Rattle.cts_words.specs.declared.statement.Statement.{Statement}
use Rattle.cts_reader.specs.declared.fault.Fault.{Fault}
use Rattle.cts_reader.specs.Reading.{Fails, Judged, Reads}
use Rattle.cts_reader.proofs.FirstRefused.{fails, said-more, takes_the_others}
use Rattle.cts_scriptread.specs.declared.cause.ScriptCause.{ScriptCause}
use Rattle.cts_scriptread.specs.Scripts.{refusal_in, event_in, line_in, refusal, no_refusal, events_of}

-- these are the events of the statements so far
abbrev pub Stands : SiteData → List (ℕ × Event) → List Statement → Type 0
Stands site events before = events ≡ filter_map (line_in site) before

pub is_taken : (site : SiteData) (old new : List (ℕ × Event)) (before : List Statement) (s : Statement) (e : Event) → Stands site old before → Judged (refusal_in site s) (event_in site s.words) (Ok e)
    → new ≡ old ++ (s.line, e) ∷ [] → (refusal site before s ≡ None) × Stands site new (before ++ s ∷ [])
is_taken site old new before s e so_far judged pushed =
    let one : line_in site s ≡ Some (s.line, e) = ap (option_map (λ (x : Event). (s.line, x))) judged.1 in (
      judged.0,
      pushed ∙ ap (λ (es : List (ℕ × Event)). es ++ (s.line, e) ∷ []) so_far ∙ sym (said-more (line_in site) before s (s.line, e) one),
    )

-- a pass that ended at a refusal
pub is_failed : (site : SiteData) (stands : List Statement → Type 0) (all : List Statement) (e : Fault ScriptCause) → Reads (refusal site) stands all (Err e) → Fails e (events_of site all)
is_failed site stands all e h = fails (refusal site) no_refusal (filter_map (line_in site)) stands all e h

pub is_done : (site : SiteData) (events : List (ℕ × Event)) (all : List Statement) → Reads (refusal site) (Stands site events) all (Ok tt) → events_of site all ≡ Ok events
is_done site events all h = takes_the_others (refusal site) no_refusal (filter_map (line_in site)) all h.0 refl ∙ ap Ok (sym h.1)
