use Rattle.std.proofs.Common.{◌≡◌, ◌∙◌, sym, ap, rules}
use Rattle.std.specs.Prelude.{ℤ, List, None, replicate}
use Rattle.mill_job.specs.Columns.{column_count}
use Rattle.mill_dexel.specs.Rows.{RowState}
use Rattle.mill_dexel.proofs.CutRows.{uncut_is_row}
use Rattle.mill_dexel.proofs.RowLaws.{row_after_none}
use Rattle.mill_dexel.proofs.row.Row.new.Goals as goal

pub returns-clause-row : goal.returns-clause-row
returns-clause-row c =
    let uncut : c.in_ok-tops.tops.items ≡ replicate (column_count c.args.job.now.fields) c.args.job.now.fields.top = search rules in
    uncut_is_row c.args.job.now.fields _ c.args.job.now.is_job c.requires uncut

pub returns-clause-uncut : goal.returns-clause-uncut
returns-clause-uncut c =
    let uncut : c.in_ok-tops.tops.items ≡ replicate (column_count c.args.job.now.fields) c.args.job.now.fields.top = search rules in
    ap (λ (tops : List ℤ). let row : RowState = record { row = c.args.number; tops = tops; done = 0; failed = None } in row) (uncut ∙ sym (row_after_none c.args.job.now.fields c.args.number))
