use Rattle.vf_machine_tests.proofs.runs.answer.Given as goal

-- the ledger that the blank names
abbrev pub ghosts-alone : goal.ghosts-alone
ghosts-alone a = record { name = a.blank.name; parts = a.blank.parts }
