use Rattle.std.proofs.Common.{drop}
use Rattle.std.specs.Prelude.{All}
use Rattle.toml.specs.View.{items_view}
use Rattle.mill_job.specs.Jobs.{FitsJob}
use Rattle.mill_job.specs.Lists.{tables}
use Rattle.mill_job.proofs.InTurn.{IsRead}
use Rattle.mill_job.proofs.tables.each_step.Given as goal

-- the steps up to here are read, and each fits the job
abbrev pub invariant-loop-value : goal.invariant-loop-value
invariant-loop-value l =
    IsRead l.job.fields (tables (items_view l.values)) (tables (items_view (drop l.value-index l.values))) l.steps.items × All (λ step. FitsJob l.job.fields step.cutter) l.steps.items
