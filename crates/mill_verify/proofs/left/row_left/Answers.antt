use mir.Syntax.{w32}
use Rattle.std.proofs.Common.{◌<◌, FitsSigned, rules, refl, arith}
use Rattle.std.proofs.lemmas.Int.{to_z-of_z}
use Rattle.mill_job.specs.Columns.{IsColumn, column_count}
use Rattle.mill_dexel.proofs.Ranges.{stored_within}
use Rattle.mill_verify.proofs.Ranges.{columns_few, some_columns}
use Rattle.mill_verify.proofs.Remaining.{row_left_none, row_left_more, row_left_all}
use Rattle.mill_verify.proofs.StockLemmas.{in_rows, row_read}
use Rattle.mill_verify.proofs.Stored.{tops_read, is_at, top_stored, most_stored, uncut_stored}
use Rattle.mill_verify.proofs.left.row_left.Goals as goal

pub loop-index-init : goal.loop-index-init
loop-index-init c = row_left_none refl

pub overflow_cast-col : goal.overflow_cast-col
overflow_cast-col c =
    let tops = tops_read (row_read c.requires.rows_ok.shows (in_rows c.requires.rows_ok.shows c.requires.there) c.index-rows-number.is) c.tops-tops.ensures in
    omega (arith, columns_few c.args.job.now.is_job, tops.count)

pub column_x-requires : goal.column_x-requires
column_x-requires c =
    let tops = tops_read (row_read c.requires.rows_ok.shows (in_rows c.requires.rows_ok.shows c.requires.there) c.index-rows-number.is) c.tops-tops.ensures in
    omega (arith, tops.count)

pub most_with-requires-clause-ready : goal.most_with-requires-clause-ready
most_with-requires-clause-ready c =
    let tops = tops_read (row_read c.requires.rows_ok.shows (in_rows c.requires.rows_ok.shows c.requires.there) c.index-rows-number.is) c.tops-tops.ensures in
    let there : c.loop-index.index < column_count c.args.job.now.fields = omega (arith, tops.count) in
    let column : IsColumn c.args.job.now.fields c.args.number c.loop-index.index = record { row = c.requires.there; column = there } in
    record {
      x_ok = stored_within c.args.job.now.fields.unit _ c.column_x.ensures.in_range;
      y_ok = stored_within c.args.job.now.fields.unit _ c.row_y-y.ensures.in_range;
      top_ok = top_stored c.args.job.now.is_job c.requires.rows_ok.tops_ok column (is_at c.args.job.now.is_job c.requires.rows_ok.tops_ok tops column c.column_x.ensures.value c.column_x.ensures.in_range c.row_y-y.ensures.value c.row_y-y.ensures.in_range);
    }

pub returns-in-None : goal.returns-in-None
returns-in-None c =
    let tops = tops_read (row_read c.requires.rows_ok.shows (in_rows c.requires.rows_ok.shows c.requires.there) c.index-rows-number.is) c.tops-tops.ensures in
    let there : c.loop-index.index < column_count c.args.job.now.fields = omega (arith, tops.count) in
    let column : IsColumn c.args.job.now.fields c.args.number c.loop-index.index = record { row = c.requires.there; column = there } in
    let at = is_at c.args.job.now.is_job c.requires.rows_ok.tops_ok tops column c.column_x.ensures.value c.column_x.ensures.in_range c.row_y-y.ensures.value c.row_y-y.ensures.in_range in
    (refl, uncut_stored there c.loop-index.invariant.cut at c.in-None.ensures)

pub loop-index-preserved : goal.loop-index-preserved
loop-index-preserved c =
    let tops = tops_read (row_read c.requires.rows_ok.shows (in_rows c.requires.rows_ok.shows c.requires.there) c.index-rows-number.is) c.tops-tops.ensures in
    let there : c.loop-index.index < column_count c.args.job.now.fields = omega (arith, tops.count) in
    let column : IsColumn c.args.job.now.fields c.args.number c.loop-index.index = record { row = c.requires.there; column = there } in
    let at = is_at c.args.job.now.is_job c.requires.rows_ok.tops_ok tops column c.column_x.ensures.value c.column_x.ensures.in_range c.row_y-y.ensures.value c.row_y-y.ensures.in_range in
    let fits : FitsSigned w32 c.in-Some.greater = search rules in
    rw (to_z-of_z w32 c.in-Some.greater fits) (row_left_more c.loop-index.invariant (most_stored at c.in-Some.ensures))

pub most_with-requires-clause-most_ok : goal.most_with-requires-clause-most_ok
most_with-requires-clause-most_ok c = c.loop-index.invariant.most.low

pub returns : goal.returns
returns c =
    let tops = tops_read (row_read c.requires.rows_ok.shows (in_rows c.requires.rows_ok.shows c.requires.there) c.index-rows-number.is) c.tops-tops.ensures in
    row_left_all (omega (arith, tops.count)) (some_columns c.args.job.now.fields) c.loop-index.invariant
