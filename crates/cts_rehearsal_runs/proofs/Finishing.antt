-- Rehearsals come to their end.
use Rattle.std.proofs.Common.{◌≡◌, ℕ, zero, suc, ◌+◌, ◌≤◌, true, List, [], ◌∷◌, refl, sym, ap, subst, arith}
use Rattle.std.specs.Prelude.{◌&&◌}
use Rattle.cts_def.specs.Sites.{SiteData}
use Rattle.cts_entry.specs.declared.entry.Entry.{Entry}
use Rattle.cts_entry.specs.declared.event.Effect.TheVariants.{Posted}
use Rattle.cts_entry.specs.declared.event.Event.TheVariants.{Opens}
use Rattle.cts_entry.specs.declared.what.What.TheVariants.{Opened}
use Rattle.cts_core.specs.Environments.{site_environment}
use Rattle.cts_core.specs.Runs.{after}
use Rattle.cts_core.specs.States.{State, has_room, opening}
use Rattle.cts_rehearsal.specs.Generated.{events_from, generated}
use Rattle.cts_rehearsal.specs.Numbers.{choice_of, next_number}
use Rattle.cts_rehearsal_runs.specs.Finishing.{RehearsalsFinish}
use Rattle.cts_rehearsal_runs.specs.Protocols.{frames, lines}
use Rattle.cts_rehearsal_runs.specs.Sites.{IsDemoSite}
use Rattle.cts_rehearsal_runs.proofs.Standing.{IsOnTheWay}
use Rattle.cts_rehearsal_runs.proofs.Choices.{choice_finishes}
use Rattle.cts_rehearsal_runs.proofs.Going.{Can, Finishes, goes, nothing_held, room_for, with_entries}
use Rattle.cts_rehearsal_runs.proofs.Places.{line_0, line_1, line_16}

-- ---- the choices, one after the other

choices_finish : (site : SiteData) → IsDemoSite site → (n x choices : ℕ) → choices + n ≤ 1000000 → (s : State) → IsOnTheWay site s choices [] → Finishes (site_environment site) s (events_from n x)
choices_finish site demo zero x choices few s way = λ dids ending run. run.1
choices_finish site demo (suc n) x choices few s way =
    choice_finishes site demo (events_from n (next_number x)) choices (omega (arith, few)) (λ s' way'. choices_finish site demo n (next_number x) (choices + 1) (omega (arith, few)) s' way')
    (choice_of (next_number x)) s way

-- ---- the beginning

abbrev opened : State → ℕ → Entry
opened s by = record { by = by; time = s.time; what = Opened }

-- after a maker is opened
abbrev with_opened : State → ℕ → State
with_opened s by = after s (Opens by) (record { entries = opened s by ∷ []; effect = Posted })

abbrev one : State
one = with_opened opening 0

abbrev two : State
two = with_opened one 1

abbrev three : State
three = with_opened two 16

module _ (site : SiteData) (demo : IsDemoSite site) where
  first_can : Can (site_environment site) opening (Opens 0)
  first_can = record {
    enabled = ap (λ b. b && true) (line_0 site demo);
    room = λ takes entries appends. subst (λ (l : List Entry). has_room (site_environment site) opening l ≡ true) (sym appends) (room_for site opening (opened opening 0 ∷ []) (omega arith) (omega arith));
  }

  second_can : Can (site_environment site) one (Opens 1)
  second_can = record {
    enabled = ap (λ b. b && true) (line_1 site demo);
    room = λ takes entries appends. subst (λ (l : List Entry). has_room (site_environment site) one l ≡ true) (sym appends) (room_for site one (opened one 1 ∷ []) (omega arith) (omega arith));
  }

  third_can : Can (site_environment site) two (Opens 16)
  third_can = record {
    enabled = ap (λ b. b && true) (line_16 site demo);
    room = λ takes entries appends. subst (λ (l : List Entry). has_room (site_environment site) two l ≡ true) (sym appends) (room_for site two (opened two 16 ∷ []) (omega arith) (omega arith));
  }

  begun : IsOnTheWay site three 0 []
  begun = record {
    first = refl;
    second = refl;
    running = refl;
    frame = nothing_held frames;
    line = nothing_held lines;
    passed = omega arith;
    entries = omega arith;
    bytes = omega arith;
  }

  finishes : (n : ℕ) → n ≤ 1000000 → Finishes (site_environment site) opening (generated n)
  finishes n few =
      goes (site_environment site) opening (Opens 0) (Opens 1 ∷ Opens 16 ∷ events_from n n) first_can (λ did does.
      with_entries (site_environment site) opening (Opens 0) did (opened opening 0 ∷ []) (Opens 1 ∷ Opens 16 ∷ events_from n n) does.appends (
      goes (site_environment site) one (Opens 1) (Opens 16 ∷ events_from n n) second_can (λ did' does'.
      with_entries (site_environment site) one (Opens 1) did' (opened one 1 ∷ []) (Opens 16 ∷ events_from n n) does'.appends (
      goes (site_environment site) two (Opens 16) (events_from n n) third_can (λ did'' does''.
      with_entries (site_environment site) two (Opens 16) did'' (opened two 16 ∷ []) (events_from n n) does''.appends (
      choices_finish site demo n n 0 (omega (arith, few)) three begun))))))

pub rehearsals_finish : RehearsalsFinish
rehearsals_finish site demo n few dids ending run = finishes site demo n few dids ending run
