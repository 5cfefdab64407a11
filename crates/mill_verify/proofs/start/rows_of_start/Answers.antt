use Rattle.std.proofs.Common.{IfOk, sym, subst}
use Rattle.mill_dexel.specs.Stocks.{ShowsStock}
use Rattle.mill_verify.specs.declared.start.Start.{Start}
use Rattle.mill_verify.specs.inner.Readiness.{stock_of}
use Rattle.mill_verify.proofs.start.rows_of_start.Goals as goal

pub returns-in-Uncut : goal.returns-in-Uncut
returns-in-Uncut c = subst (λ (start : Start). IfOk c.uncut_rows.result (λ rows. ShowsStock c.args.job.now.fields (stock_of c.args.job.now.fields start) rows.items)) (sym c.in-Uncut.is) c.uncut_rows.ensures.stock
