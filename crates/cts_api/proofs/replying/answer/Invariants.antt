use Rattle.cts_api.proofs.replying.answer.Given as goal

abbrev pub ghosts-asked : goal.ghosts-asked
ghosts-asked a = record { name = a.blank.name; parts = a.blank.parts }
