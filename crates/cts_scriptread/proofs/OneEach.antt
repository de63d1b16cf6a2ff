-- Each statement that is not refused says one event.
use Rattle.std.proofs.Common.{◌≡◌, ℕ, true, List, [], ◌∷◌, Option, Some, None, Ok, refl, sym, ap, subst, inl}
use Rattle.std.specs.Prelude.{is_some, option_map, option_and_then}
use Rattle.std.specs.List.{filter_map, AllZip}
use Rattle.cts_def.specs.Sites.{SiteData}
use Rattle.cts_entry.specs.declared.event.Event.{Event}
use Rattle.cts_words.specs.declared.statement.Statement.{Statement}
use Rattle.cts_words.specs.Refusals.{Refusal, NoneRefused, first_refusal}
use Rattle.cts_words.proofs.Refused.{first_one_is_refused}
use Rattle.cts_reader.specs.Reading.{unless_refused}
use Rattle.cts_reader.proofs.FirstRefused as first
use Rattle.cts_reader.proofs.FirstRefused.{no_cause, never_at_end, taken, refuses_the_first}
use Rattle.cts_scriptread.specs.declared.form.Keyword.{Keyword}
use Rattle.cts_scriptread.specs.Causes.{cause_in}
use Rattle.cts_scriptread.specs.Events.{event_of}
use Rattle.cts_scriptread.specs.Forms.{parts}
use Rattle.cts_scriptread.specs.Laws.{RefusesTheFirst, TakesTheOthers, IsOfStatement, EventsAreOfTheirStatements}
use Rattle.cts_scriptread.specs.Scripts.{refusal_in, event_in, line_in, refusal, no_refusal}
use Rattle.cts_scriptread.proofs.Said.{says_event}
use Rattle.cts_scriptread.proofs.Rows.{says_words}

the_one : {A : Type 0} (o : Option A) → is_some o ≡ true → (x : A) × (o ≡ Some x)
the_one None e = absurd cc
the_one (Some x) e = (x, refl)

one_of : (site : SiteData) (o : Option (Keyword × List (List ℕ))) → cause_in site o ≡ None → (e : Event) × (option_and_then (λ (l : Keyword × List (List ℕ)). event_of site l.0 l.1) o ≡ Some e)
one_of site None none = absurd cc
one_of site (Some l) none = the_one (event_of site l.0 l.1) (says_event site l.0 l.1 none)

pub one_event : (site : SiteData) (s : Statement) → refusal_in site s ≡ None → (e : Event) × (event_in site s.words ≡ Some e)
one_event site s none = one_of site (parts s.words) (no_cause s.line (cause_in site (parts s.words)) none)

each : (site : SiteData) (all : List Statement) → NoneRefused (refusal site) all → AllZip (IsOfStatement site) all (filter_map (line_in site) all)
each site [] none = tt
each site (s ∷ rest) none =
    let it = one_event site s (none [] s rest refl) in
    let here : line_in site s ≡ Some (s.line, it.0) = ap (option_map (λ (e : Event). (s.line, e))) it.1 in
    let split : filter_map (line_in site) (s ∷ rest) ≡ (s.line, it.0) ∷ filter_map (line_in site) rest = rw here refl in
    subst (AllZip (IsOfStatement site) (s ∷ rest)) (sym split)
    ((refl, says_words site s.words it.0 it.1), each site rest (λ front t more parts. none (s ∷ front) t more (ap (λ (ss : List Statement). s ∷ ss) parts)))

not_refused : {C X : Type 0} (said x : X) (o : Option (Refusal C)) → unless_refused said o ≡ Ok x → o ≡ None
not_refused said x None e = refl
not_refused said x (Some r) e = absurd cc

pub events_are_of_their_statements : EventsAreOfTheirStatements
events_are_of_their_statements site all events e =
    let none = (first_one_is_refused (refusal site) no_refusal all None).0 (not_refused (filter_map (line_in site) all) events (first_refusal (refusal site) no_refusal [] all) e) in
    subst (AllZip (IsOfStatement site) all) (taken (refusal site) no_refusal (filter_map (line_in site)) all events e) (each site all none.0)

pub refuses_first : RefusesTheFirst
refuses_first site all r =
    let law = refuses_the_first (refusal site) no_refusal (filter_map (line_in site)) all r in
    (λ e. never_at_end (refusal site) no_refusal all r refl (law.0 e), λ w. law.1 (inl w))

pub takes_others : TakesTheOthers
takes_others site all none = first.takes_the_others (refusal site) no_refusal (filter_map (line_in site)) all none refl
