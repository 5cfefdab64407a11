use Rattle.std.specs.Prelude.{IsTrue, pos, slice_index_or}
use Rattle.std.proofs.Common.{◌∙◌}
use Rattle.mill_base.proofs.Ranges.{coordinate, within_of_unit}
use Rattle.mill_report.proofs.Lefts.{column_cut, in_row, left_bare, left_more, not_true, stored_within, top_from, top_is, top_within}
use Rattle.mill_report.proofs.left.test_column.Goals as goal

pub bounds-tops-col : goal.bounds-tops-col
bounds-tops-col c =
    in_row c.args.job.now.fields c.args.rows.now c.args.job.now.is_job c.args.number c.args.col c.index-rows-number.result c.tops.result.now c.requires.count c.requires.column c.index-rows-number.is c.tops.ensures c.requires.rows_ok

pub is_cut-requires-clause-top_ok : goal.is_cut-requires-clause-top_ok
is_cut-requires-clause-top_ok c =
    let tops = c.tops.result.now in
    stored_within _ (top_within c.args.job.now.is_job (top_from c.args.job.now.fields c.args.rows.now c.args.job.now.is_job c.args.number c.args.col c.index-rows-number.result tops c.requires.count c.requires.column c.index-rows-number.is c.tops.ensures c.requires.rows_ok))

pub returns-then-is_cut-clause-more : goal.returns-then-is_cut-clause-more
returns-then-is_cut-clause-more c = λ stock shows h.
    let job = c.args.job.now.fields in
    let tops = c.tops.result.now in
    let within = top_within c.args.job.now.is_job (top_from job c.args.rows.now c.args.job.now.is_job c.args.number c.args.col c.index-rows-number.result tops c.requires.count c.requires.column c.index-rows-number.is c.tops.ensures c.requires.rows_ok) in
    let is = top_is job c.args.rows.now c.args.job.now.is_job c.args.number c.args.col c.index-rows-number.result tops c.requires.count c.requires.column c.index-rows-number.is c.tops.ensures stock shows in
    let test = column_cut job c.args.part.now stock c.args.number c.args.col (IsTrue c.is_cut.result) c.column_x.result c.row_y.result (slice_index_or tops c.args.col (pos 0))
    (within_of_unit job.unit _ c.column_x.ensures.in_range) (within_of_unit job.unit _ c.row_y.ensures.in_range) within c.column_x.ensures.value c.row_y.ensures.value is c.is_cut.ensures in
    left_bare job c.args.part.now stock c.args.number c.args.col c.requires.column c.args.left.now h (test.0 c.if-is_cut.true)

pub returns-clause-more : goal.returns-clause-more
returns-clause-more c = λ stock shows h.
    let job = c.args.job.now.fields in
    let tops = c.tops.result.now in
    let within = top_within c.args.job.now.is_job (top_from job c.args.rows.now c.args.job.now.is_job c.args.number c.args.col c.index-rows-number.result tops c.requires.count c.requires.column c.index-rows-number.is c.tops.ensures c.requires.rows_ok) in
    let is = top_is job c.args.rows.now c.args.job.now.is_job c.args.number c.args.col c.index-rows-number.result tops c.requires.count c.requires.column c.index-rows-number.is c.tops.ensures stock shows in
    let test = column_cut job c.args.part.now stock c.args.number c.args.col (IsTrue c.is_cut.result) c.column_x.result c.row_y.result (slice_index_or tops c.args.col (pos 0))
    (within_of_unit job.unit _ c.column_x.ensures.in_range) (within_of_unit job.unit _ c.row_y.ensures.in_range) within c.column_x.ensures.value c.row_y.ensures.value is c.is_cut.ensures in
    left_more job c.args.part.now stock c.args.number c.args.col c.requires.column c.args.left.now h _ c.add.new.left (λ cut. not_true c.if-is_cut.false (test.1 cut))
    (coordinate _ within ∙ is) c.in_ok-add.ensures.shown c.in_ok-add.ensures.total
