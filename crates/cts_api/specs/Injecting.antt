-- How the refusal of an injection is told.
use Rattle.cts_cmd.specs.declared.refused.Refused.{Refused}
use Rattle.cts_cmd.specs.Refusals.{has_words}
use Rattle.std.specs.Prelude.{◌≡◌, true}
use Rattle.cts_api.specs.declared.refusal.Refusal.{Refusal}
use Rattle.cts_api.specs.declared.refusal.Refusal.TheVariants.{NoSuch, NotDone, BadParams, Memory}
use Rattle.cts_api.specs.Answers.{Done}
use Rattle.cts_api.specs.Shown.{injection_said}
use Rattle.cts_api.specs.Telling.{IsRefused}

-- It is what is said of it, and only want of memory has no words.
abbrev pub IsInjectionRefused : Refused → Refusal → Type 0
IsInjectionRefused why Memory = Unit {0}
IsInjectionRefused why (NoSuch message) = (has_words why ≡ true) × IsRefused {A = Done} (NoSuch message) (injection_said why)
IsInjectionRefused why (NotDone message) = (has_words why ≡ true) × IsRefused {A = Done} (NotDone message) (injection_said why)
IsInjectionRefused why BadParams = ⊥
