use Rattle.mill_paths.proofs.OutlineLemmas.{level_visits_are_free}
use Rattle.mill_paths.proofs.VisitLemmas.{finish_visits_are_free, rough_visits_are_free}
use Rattle.mill_paths.proofs.plan_laws.visits_are_free.Goals as goal

pub returns-clause-rough : goal.returns-clause-rough
returns-clause-rough c = rough_visits_are_free

pub returns-clause-level : goal.returns-clause-level
returns-clause-level c = level_visits_are_free

pub returns-clause-finish : goal.returns-clause-finish
returns-clause-finish c = finish_visits_are_free
