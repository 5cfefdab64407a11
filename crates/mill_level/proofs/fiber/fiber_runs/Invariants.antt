use Rattle.mill_level.proofs.fiber.fiber_runs.Given as goal

abbrev pub ghosts-counted_runs : goal.ghosts-counted_runs
ghosts-counted_runs a = record { name = a.blank.name; parts = a.blank.parts }
