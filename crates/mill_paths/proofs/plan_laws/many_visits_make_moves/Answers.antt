use Rattle.mill_paths.proofs.Lengths.{many_finish, many_level, many_rough}
use Rattle.mill_paths.proofs.plan_laws.many_visits_make_moves.Goals as goal

pub returns-clause-rough : goal.returns-clause-rough
returns-clause-rough c = many_rough

pub returns-clause-level : goal.returns-clause-level
returns-clause-level c = many_level

pub returns-clause-finish : goal.returns-clause-finish
returns-clause-finish c = many_finish
