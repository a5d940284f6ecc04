use Rattle.vf_farm_tests.proofs.runs.told_run.Given as goal

-- the ledger that the blank names
abbrev pub ghosts-run : goal.ghosts-run
ghosts-run a = record { name = a.blank.name; parts = a.blank.parts }
