use Rattle.cts_packet_tests.proofs.halls.looked_up.Given as goal

abbrev pub ghosts-raw_value : goal.ghosts-raw_value
ghosts-raw_value a = record { name = a.blank.name; parts = a.blank.parts }
