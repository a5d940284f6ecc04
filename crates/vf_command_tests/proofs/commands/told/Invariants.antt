use Rattle.vf_command_tests.proofs.commands.told.Given as goal

-- the ledger that the blank names
abbrev pub ghosts-counted : goal.ghosts-counted
ghosts-counted a = record { name = a.blank.name; parts = a.blank.parts }
