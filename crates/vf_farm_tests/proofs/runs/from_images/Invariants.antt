use Rattle.vf_farm_tests.proofs.runs.from_images.Given as goal

-- the ledger that each blank names
abbrev pub ghosts-first_image : goal.ghosts-first_image
ghosts-first_image a = record { name = a.blank.name; parts = a.blank.parts }

abbrev pub ghosts-second_image : goal.ghosts-second_image
ghosts-second_image a = record { name = a.blank.name; parts = a.blank.parts }

abbrev pub ghosts-test : goal.ghosts-test
ghosts-test a = record { name = a.blank.name; parts = a.blank.parts }
