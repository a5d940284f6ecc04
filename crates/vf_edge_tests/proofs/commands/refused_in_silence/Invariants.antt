use Rattle.vf_edge_tests.proofs.commands.refused_in_silence.Given as goal

abbrev pub ghosts-counted : goal.ghosts-counted
ghosts-counted a = record { name = a.blank.name; parts = a.blank.parts }
