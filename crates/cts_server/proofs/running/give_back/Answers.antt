use Rattle.std.proofs.Common.{◌≡◌, [], arith}
use Rattle.std.proofs.lemmas.Grind.{common_steps}
use Rattle.cts_server.proofs.Steps.{noted_all}
use Rattle.cts_server.proofs.running.give_back.Goals as goal

pub returns : goal.returns
returns g c =
    let none : c.jobs.jobs.items ≡ [] = grind (arith, common_steps) in
    noted_all (λ j. record { by = j.by; work = j.work }) c.jobs.tasks.items _ c.jobs.jobs.items none c.jobs.invariant.jobs
