use mir.Syntax.{w32}
use Rattle.std.proofs.Common.{refl, arith}
use Rattle.std.proofs.lemmas.Int.{ints, clamps, to_z-of_z}
use Rattle.mill_dexel.proofs.Ranges.{stored_within}
use Rattle.mill_verify.proofs.Remaining.{is_most_kept, is_greater}
use Rattle.mill_verify.proofs.Stored.{enough_fits, enough_stored}
use Rattle.mill_verify.proofs.left.most_with.Goals as goal

pub overflow_sub-enough : goal.overflow_sub-enough
overflow_sub-enough c =
    let most = to_z-of_z w32 c.args.most c.ranges.most in
    enough_fits c.args.top c.args.most c.args.job.now.fields.allowance c.min.result c.requires.ready.top_ok c.requires.most_ok c.args.job.now.is_job.allowance_ok (rw most at c.min.ensures.value)

pub covered_near-requires-clause-floor_ok : goal.covered_near-requires-clause-floor_ok
covered_near-requires-clause-floor_ok c = stored_within c.args.job.now.fields.unit _ c.args.job.now.is_job.floor_ok

pub returns-then-covered_near : goal.returns-then-covered_near
returns-then-covered_near c =
    let most = to_z-of_z w32 c.args.most c.ranges.most in
    let covered = enough_stored c.args.job.now.is_job c.requires.ready.x_ok c.requires.ready.y_ok c.requires.ready.top_ok c.requires.most_ok (rw most at c.min.ensures.value) (c.covered_near.ensures.0 c.if-covered_near.true) in
    rw most (is_most_kept c.args.job.now.is_job.allowance_ok.low c.requires.most_ok refl covered)

pub returns-in_err-left : goal.returns-in_err-left
returns-in_err-left c =
    let x = to_z-of_z w32 c.args.x c.ranges.x in
    let y = to_z-of_z w32 c.args.y c.ranges.y in
    let top = to_z-of_z w32 c.args.top c.ranges.top in
    rw c.from_residual.ensures (rw (x, y, top) at c.in_err-left.ensures)

pub returns : goal.returns
returns c =
    let x = to_z-of_z w32 c.args.x c.ranges.x in
    let y = to_z-of_z w32 c.args.y c.ranges.y in
    let top = to_z-of_z w32 c.args.top c.ranges.top in
    is_greater c.requires.most_ok (rw (x, y, top) at c.in_ok-left.ensures) (omega (arith, ints, clamps, c.max.ensures.value))
