use Rattle.mill_levels_tests.proofs.push.steps.one_step_a_touch.Given as goal

-- the counter is of the ledger of this blank
abbrev pub ghosts-touches : goal.ghosts-touches
ghosts-touches g a = record { name = a.blank.name; parts = a.blank.parts }
