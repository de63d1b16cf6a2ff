use Rattle.cts_monitor.proofs.lending.lend.Given as goal

abbrev pub ghosts-lend_counted : goal.ghosts-lend_counted
ghosts-lend_counted g a = record { name = a.blank.name; parts = a.blank.parts }
