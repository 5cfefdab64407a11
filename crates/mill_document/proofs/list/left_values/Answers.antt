use Rattle.std.proofs.Common.{map, ap, ◌∙◌}
use Rattle.std.proofs.lemmas.List.{take_all}
use Rattle.mill_document.specs.Details.{left_column}
use Rattle.mill_document.specs.Documents.{column_data}
use Rattle.mill_report.specs.declared.left.LeftColumn.{LeftColumn}
use Rattle.mill_document.proofs.list.left_values.Goals as goal

pub returns-clause-data : goal.returns-clause-data
returns-clause-data c =
    c.loop-index.invariant.told
    ∙ ap (map (λ (left : LeftColumn). column_data c.args.job.now.fields.unit (left_column c.args.job.now.fields left))) (take_all c.loop-index.index c.args.left.now c.loop-index-test.false)
