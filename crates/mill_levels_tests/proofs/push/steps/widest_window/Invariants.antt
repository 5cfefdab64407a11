use Rattle.mill_levels_tests.proofs.push.steps.widest_window.Given as goal

-- the counter is of the ledger of this blank
abbrev pub ghosts-runs_over_point : goal.ghosts-runs_over_point
ghosts-runs_over_point g a = record { name = a.blank.name; parts = a.blank.parts }
