use Rattle.mill_paths.proofs.Rounds.{round_is_safe}
use Rattle.mill_paths.proofs.plan_laws.round_is_safe.Goals as goal

pub returns : goal.returns
returns c = round_is_safe
