use Rattle.std.proofs.Common.{◌∙◌, to_z, of_z, w32, refl, arith}
use Rattle.std.proofs.lemmas.Int.{ints, clamps}
use Rattle.std.proofs.lemmas.Result.{err_from_is_err_and}
use Rattle.mill_verify.proofs.Ranges.{rows_few}
use Rattle.mill_verify.proofs.Most.{max_is}
use Rattle.mill_verify.proofs.StockLemmas.{row_there}
use Rattle.mill_verify.proofs.Remaining.{rows_left_none, rows_left_more, rows_left_end, row_uncut_of}
use Rattle.mill_verify.proofs.left.scan_rows.Goals as goal

pub loop-index-init : goal.loop-index-init
loop-index-init c = rows_left_none refl

pub overflow_cast-index : goal.overflow_cast-index
overflow_cast-index c = omega (arith, rows_few c.args.job.now.is_job, c.requires.rows_ok.shows.count)

pub row_left-requires-clause-there : goal.row_left-requires-clause-there
row_left-requires-clause-there c = row_there c.requires.rows_ok.shows (omega (arith, c.loop-index-test.true, c.requires.there))

pub returns-in_err-left : goal.returns-in_err-left
returns-in_err-left c =
    let p = err_from_is_err_and c.from_residual.result c.from_residual.ensures.1 in
    rw (p.1, p.2) (row_uncut_of c.loop-index.auto.index c.loop-index-test.true c.loop-index.invariant c.in_err-left.ensures.0 c.in_err-left.ensures.1)

pub loop-index-preserved : goal.loop-index-preserved
loop-index-preserved c =
    let greater = c.max-most.ensures ∙ max_is (to_z w32 c.loop-index.most-bits) (to_z w32 (of_z w32 c.in_ok-left.left)) in
    rows_left_more c.loop-index.auto.index c.loop-index.invariant c.in_ok-left.ensures (omega (arith, ints, clamps, greater))

pub returns : goal.returns
returns c = rows_left_end (omega (arith, c.loop-index-test.false, c.loop-index.auto.index-end)) c.loop-index.invariant
