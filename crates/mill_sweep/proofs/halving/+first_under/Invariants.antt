use Rattle.mill_sweep.proofs.halving.+first_under.Given as goal

abbrev pub decreases-first_under : goal.decreases-first_under
decreases-first_under l = l.more
