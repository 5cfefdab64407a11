use Rattle.mill_levels_tests.proofs.push.told_of.Given as goal

-- the counter is of the ledger of this blank
abbrev pub ghosts-counted : goal.ghosts-counted
ghosts-counted a = record { name = a.blank.name; parts = a.blank.parts }
