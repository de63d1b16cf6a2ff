-- How a rehearsal ends: its status hangs on the shelf alone.
use Rattle.std.specs.Prelude.{◌≡◌, ◌≤◌, ℕ, List, [], Option, Some, None, Result}
use Rattle.cts_def.specs.declared.proto_spec.Kind.{Kind}
use Rattle.cts_proto.specs.Meaning.{Meaning}
use Rattle.cts_run.specs.Command.{IsOutcome, Outcome, outcome_of}
use Rattle.cts_run.specs.Demo.{demo_site}
use Rattle.cts_run.specs.Start.{short_kind}
use Rattle.cts_run.specs.Words.{most}
use Rattle.cts_run.specs.declared.halt.Halt.{Halt}
use Rattle.cts_run.specs.declared.halt.status.Status.{Status}
use Rattle.cts_run.specs.declared.halt.status.Status.TheVariants.{Ok as Fine, Memory, WriteFault, ShelfEmpty}
use Rattle.cts_run.specs.declared.words.Command.{Command}
use Rattle.cts_run.specs.declared.words.Command.TheVariants.{Check, Replay, Rehearse, Dump, Play, Extract, Hub}

-- Where the demo's site has a kind of box that is short, or none: a rehearsal is done, or halts for that shelf. Want of memory may come in
-- place of either, and a fault of what is put where it is done. There is no other status.
abbrev pub EndsRehearsed : Option Kind → Status → Type 0
EndsRehearsed short Fine = short ≡ None
EndsRehearsed short Memory = Unit {0}
EndsRehearsed short WriteFault = short ≡ None
EndsRehearsed short ShelfEmpty = (kind : Kind) × (short ≡ Some kind)
EndsRehearsed short status = ⊥

-- a rehearsal that is asked for ends so
abbrev pub IsRehearsed : List Meaning → Option Command → Status → Type 0
IsRehearsed stock (Some (Rehearse number)) status = EndsRehearsed (short_kind stock demo_site) status
IsRehearsed stock asked status = Unit {0}

-- the same of how a command answers, where its number is one that words may ask for
abbrev pub AnswersRehearsed : List Meaning → Command → Result (Unit {0}) Halt → Type 0
AnswersRehearsed stock (Check definitions site) answer = Unit {0}
AnswersRehearsed stock (Replay definitions site script) answer = Unit {0}
AnswersRehearsed stock (Rehearse number) answer = number ≤ most → EndsRehearsed (short_kind stock demo_site) (outcome_of [] answer).status
AnswersRehearsed stock (Dump logs) answer = Unit {0}
AnswersRehearsed stock (Play definitions site log) answer = Unit {0}
AnswersRehearsed stock (Extract definitions log wanted) answer = Unit {0}
AnswersRehearsed stock (Hub definitions site script below tie) answer = Unit {0}

-- the status of a rehearsal, by the kind of box that is short
abbrev pub rehearsed : Option Kind → Status
rehearsed None = Fine
rehearsed (Some kind) = ShelfEmpty

-- The outcome of each rehearsal that words may ask for has it: no event of one is refused, and none finds the history full.
abbrev pub RehearsalsAreDone : Type 0
RehearsalsAreDone = (stock : List Meaning) (files : List ℕ → Option (List ℕ)) (number : ℕ) (o : Outcome) → number ≤ most
    → IsOutcome stock files (Some (Rehearse number)) o → o.status ≡ rehearsed (short_kind stock demo_site)
