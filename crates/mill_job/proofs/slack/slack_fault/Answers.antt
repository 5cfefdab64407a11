use Rattle.std.proofs.Common.{rules}
use Rattle.mill_job.proofs.Room.{is_roomy}
use Rattle.mill_job.proofs.slack.slack_fault.Goals as goal

pub returns-clause-none : goal.returns-clause-none
returns-clause-none c = λ none. is_roomy c.args.job.now c.args.cutter.now (search rules) (search rules) (search rules) (search rules)
