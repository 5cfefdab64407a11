use Rattle.std.proofs.Common.{arith}
use Rattle.std.proofs.lemmas.Int.{ints, clamps}
use Rattle.mill_dexel.proofs.Ranges.{stored_within}
use Rattle.mill_verify.proofs.Remaining.{isnt_cut, is_cut_to}
use Rattle.mill_verify.proofs.Stored.{cover_stored, left_fits}
use Rattle.mill_verify.proofs.left.left_over.Goals as goal

pub covered_height_near-covered-requires-clause-floor_ok : goal.covered_height_near-covered-requires-clause-floor_ok
covered_height_near-covered-requires-clause-floor_ok c = stored_within c.args.job.now.fields.unit _ c.args.job.now.is_job.floor_ok

pub returns-then-top-job : goal.returns-then-top-job
returns-then-top-job c =
    isnt_cut c.args.part.now c.args.job.now.fields.floor c.args.job.now.fields.band c.args.x c.args.y c.covered_height_near-covered.result _
    (cover_stored c.args.job.now.is_job c.requires.ready.x_ok c.requires.ready.y_ok c.covered_height_near-covered.ensures.exact) (omega (arith, ints))

pub overflow_sub-result : goal.overflow_sub-result
overflow_sub-result c = left_fits c.args.top c.covered_height_near-covered.result c.min.result c.requires.ready.top_ok c.covered_height_near-covered.ensures.bound c.min.ensures.value

pub returns : goal.returns
returns c = is_cut_to (cover_stored c.args.job.now.is_job c.requires.ready.x_ok c.requires.ready.y_ok c.covered_height_near-covered.ensures.exact) (omega (arith, ints)) (omega (arith, ints, clamps))
