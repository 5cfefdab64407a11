use Rattle.std.proofs.Common.{◌≡◌, ◌∙◌, ap, w32, arith}
use Rattle.std.proofs.lemmas.Int.{ints}
use Rattle.mill_base.proofs.Machine.{stored}
use Rattle.mill_job.specs.Columns.{column_y}
use Rattle.mill_dexel.specs.Rows.{RowState}
use Rattle.mill_dexel.proofs.Lines.{same_point}
use Rattle.mill_dexel.proofs.row.Row.tested_point.Goals as goal

pub returns : goal.returns
returns c =
    let x : stored w32 c.column_x.result ≡ c.column_x.result = omega (arith, ints) in
    let y : stored w32 c.row_y.result ≡ c.row_y.result = omega (arith, ints) in
    let z : stored w32 c.height_at.result ≡ c.height_at.result = omega (arith, ints) in
    same_point
    (x ∙ c.column_x.ensures.value)
    (y ∙ c.row_y.ensures.value ∙ ap (λ (r : RowState). column_y c.args.job.now.fields r.row) c.self.view_is)
    (z ∙ c.height_at.ensures)
