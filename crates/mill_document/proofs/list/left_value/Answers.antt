use Rattle.std.proofs.Common.{◌≡◌, ap, rules, w32, ◌∙◌}
use Rattle.std.specs.Prelude.{ℤ, FitsSigned}
use Rattle.std.proofs.lemmas.Int.{to_z-of_z}
use Rattle.mill_document.specs.Details.{column_at, left_column}
use Rattle.mill_document.specs.Documents.{column_data}
use Rattle.mill_document.proofs.Lists.{made_as}
use Rattle.mill_document.proofs.list.left_value.Goals as goal

pub returns-clause-data : goal.returns-clause-data
returns-clause-data c =
    let job = c.args.job.now.fields in
    let left = c.args.left in
    let fits : FitsSigned w32 left.top = search rules in
    let same : c.one_column-column.result ≡ left_column job left = c.one_column-column.ensures ∙ ap (λ (t : ℤ). column_at job left.row left.col t) (to_z-of_z w32 left.top fits) in
    made_as c.column_value.result _ _ (ap (column_data job.unit) same) c.column_value.ensures.«data»
