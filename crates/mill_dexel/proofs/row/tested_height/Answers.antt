use Rattle.std.proofs.Common.{sym, subst, ◌∙◌, ap}
use Rattle.std.specs.Prelude.{ℤ, ◌≤ℤ◌}
use Rattle.mill_base.specs.declared.motion.Kind.{Kind}
use Rattle.mill_base.specs.declared.motion.Kind.TheVariants.{Feed}
use Rattle.mill_dexel.specs.Tops.{tested_height}
use Rattle.mill_dexel.proofs.UncutRows.{limit_stored, tested_from_floor}
use Rattle.mill_dexel.proofs.row.tested_height.Goals as goal

pub returns-in-Feed-clause-value : goal.returns-in-Feed-clause-value
returns-in-Feed-clause-value c =
    limit_stored c.args.job.now.fields c.args.top c.max.result c.args.job.now.is_job c.requires c.max.ensures.value
    ∙ ap (λ (k : Kind). tested_height c.args.job.now.fields k c.args.top) (sym c.in-Feed.is)

pub returns-in-Feed-clause-high : goal.returns-in-Feed-clause-high
returns-in-Feed-clause-high c =
    subst (λ (z : ℤ). z ≤ℤ c.args.top) (sym (limit_stored c.args.job.now.fields c.args.top c.max.result c.args.job.now.is_job c.requires c.max.ensures.value))
    (tested_from_floor c.args.job.now.fields Feed c.args.top c.requires.low c.args.job.now.is_job.max_cut_ok.low).high
