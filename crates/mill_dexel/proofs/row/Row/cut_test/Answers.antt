use Rattle.std.specs.Prelude.{ℕ, Option, Some, None, IfSome, MatchOption}
use Rattle.std.proofs.Common.{subst, arith}
use Rattle.std.proofs.lemmas.Int.{ints}
use Rattle.mill_base.specs.Solids.{Solid}
use Rattle.mill_base.specs.declared.motion.Kind.TheVariants.{Feed}
use Rattle.mill_sweep.specs.declared.leaf.Leaf.{Leaf}
use Rattle.mill_dexel.specs.Rows.{IsFirstStop, PassesRow, cutting}
use Rattle.mill_dexel.specs.Tops.{IsTested}
use Rattle.mill_dexel.specs.inner.Passing.{trying}
use Rattle.mill_dexel.proofs.row.Row.cut_test.Goals as goal

pub returns-clause-none : goal.returns-clause-none
returns-clause-none c = λ none tested.
    subst
    (λ (o : Option (ℕ × Leaf)). MatchOption o (PassesRow c.args.job.now.fields (cutting c.args.job.now.fields Feed c.args.step.now) c.args.self.now) (λ f. IsFirstStop c.args.job.now.fields (cutting c.args.job.now.fields Feed c.args.step.now) c.args.self.now f.0 f.1))
    none
    (subst
    (λ (s : Solid). MatchOption c.first_stop.result (PassesRow c.args.job.now.fields (trying s Feed c.args.step.now) c.args.self.now) (λ f. IsFirstStop c.args.job.now.fields (trying s Feed c.args.step.now) c.args.self.now f.0 f.1))
    c.stock_solid.ensures c.first_stop.ensures.first)

pub returns-clause-tested : goal.returns-clause-tested
returns-clause-tested c = each c.first_stop.result
  where
    limited : IsTested c.args.job.now.fields Feed
    limited = let cut = c.args.job.now.is_job.max_cut_ok.low in let some = c.if-job-eq0.false in omega (arith, ints)

    each : (o : Option (ℕ × Leaf)) → IfSome o (λ s. IsTested c.args.job.now.fields Feed)
    each None = tt
    each (Some s) = limited
