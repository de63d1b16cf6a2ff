use Rattle.cts_run.proofs.load.configuration.take_twice.Goals as goal

pub returns-in-Ok-take_definitions : goal.returns-in-Ok-take_definitions
returns-in-Ok-take_definitions c = (c.in-Ok.ensures, c.in-Ok-take_definitions.ensures)

pub returns-in-Err-take_definitions : goal.returns-in-Err-take_definitions
returns-in-Err-take_definitions c = c.in-Err-take_definitions.ensures

pub returns-in-Err : goal.returns-in-Err
returns-in-Err c = c.in-Err.ensures
