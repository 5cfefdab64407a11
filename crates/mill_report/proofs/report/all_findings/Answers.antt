use Rattle.std.specs.Prelude.{List}
use Rattle.std.proofs.Common.{sym, subst}
use Rattle.mill_dexel.specs.Rows.{RowState}
use Rattle.mill_dexel.specs.Stocks.{IsStock}
use Rattle.mill_report.specs.inner.Stops.{AreTold}
use Rattle.mill_report.proofs.report.all_findings.Goals as goal

pub failing_moves-requires-clause-told : goal.failing_moves-requires-clause-told
failing_moves-requires-clause-told c = subst (AreTold c.args.job.now.fields c.args.moves.now) (sym c.deref.ensures.value) c.in_ok-passage.ensures.told

pub returns-clause-left : goal.returns-clause-left
returns-clause-left c = c.in_ok-left.ensures _ (subst (λ (rows : List RowState). IsStock c.args.job.now.fields c.args.moves.now rows) (sym c.deref-2.ensures.value) c.in_ok-passage.ensures.stock)
