use Rattle.std.specs.Prelude.{MatchOption}
use Rattle.std.proofs.Common.{subst}
use Rattle.mill_base.specs.Solids.{Solid}
use Rattle.mill_base.specs.declared.motion.Kind.TheVariants.{Rapid}
use Rattle.mill_dexel.specs.Rows.{IsFirstStop, PassesRow}
use Rattle.mill_dexel.specs.inner.Passing.{trying}
use Rattle.mill_dexel.proofs.row.Row.rapid_turn.Goals as goal

pub returns-clause-first : goal.returns-clause-first
returns-clause-first c =
    subst
    (λ (s : Solid). MatchOption c.first_stop.result (PassesRow c.args.job.now.fields (trying s Rapid c.args.step.now) c.args.self.now) (λ f. IsFirstStop c.args.job.now.fields (trying s Rapid c.args.step.now) c.args.self.now f.0 f.1))
    c.stock_solid.ensures c.first_stop.ensures.first
