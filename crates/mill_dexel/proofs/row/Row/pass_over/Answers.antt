use Rattle.std.proofs.Common.{◌≤◌, subst, ap, arith}
use Rattle.std.proofs.lemmas.Int.{ints}
use Rattle.mill_job.specs.Columns.{column_y}
use Rattle.mill_dexel.specs.Rows.{RowState}
use Rattle.mill_dexel.specs.inner.Passing.{IsAway}
use Rattle.mill_dexel.proofs.Reaches.{away_same}
use Rattle.mill_dexel.proofs.row.Row.pass_over.Goals as goal

pub returns-clause-passed : goal.returns-clause-passed
returns-clause-passed c = λ passed. record {
  first = subst (λ (r : RowState). c.args.band.now.first ≤ r.done) c.self.view_is c.if-self-band.false;
  onward = subst (λ (r : RowState). r.done ≤ c.args.band.now.«end») c.self.view_is c.if-self-band-2.false;
  away = subst (λ (r : RowState). IsAway c.args.job.now.fields c.args.band.now.low c.args.band.now.high (column_y c.args.job.now.fields r.row)) c.self.view_is
      (away_same c.args.job.now.fields _ _ _ c.args.band.now.low c.args.band.now.high (column_y c.args.job.now.fields c.self.inside.number)
      (omega (arith, ints)) (omega (arith, ints)) (omega (arith, ints)) (c.is_away.ensures c.if-not-is_away.false));
  is = ap (λ (r : RowState). record r { done = c.args.band.now.«end» }) c.self.view_is;
}
