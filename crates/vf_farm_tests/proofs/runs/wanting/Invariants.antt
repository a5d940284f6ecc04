use Rattle.vf_farm_tests.proofs.runs.wanting.Given as goal

-- the ledger that each blank names
abbrev pub ghosts-first_image : goal.ghosts-first_image
ghosts-first_image a = record { name = a.blank.name; parts = a.blank.parts }

abbrev pub ghosts-run_on : goal.ghosts-run_on
ghosts-run_on a = record { name = a.blank.name; parts = a.blank.parts }
