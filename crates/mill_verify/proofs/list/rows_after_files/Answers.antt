use Rattle.std.proofs.Common.{refl, arith}
use Rattle.mill_verify.specs.inner.Readiness.{AreAsked}
use Rattle.mill_verify.proofs.Filed.{all_passed, moves_so, none_passed, passed_so, starts_so, stopped_so}
use Rattle.mill_verify.proofs.list.rows_after_files.Goals as goal

pub loop-number-init : goal.loop-number-init
loop-number-init g c = none_passed c.args.job.now.fields c.args.part.now c.args.files.now _ refl

pub rows_after-requires-clause-asked : goal.rows_after-requires-clause-asked
rows_after-requires-clause-asked g c =
    let moves = moves_so c.args.job.now.fields c.args.part.now c.args.files.now c.loop-number.number c.args.job.now.is_job c.loop-number-test.true c.loop-number.start c.loop-number.invariant
    c.index-files-number.result c.job_with-job.result.fields c.moves-moves.result.now c.index-files-number.is c.job_with-job.ensures c.moves-moves.ensures c.requires.files_ok in
    let asked : AreAsked c.job_with-job.result.fields c.loop-number.start c.moves-moves.result.now = record {
      start_ok = starts_so c.args.job.now.fields c.args.part.now c.args.files.now c.loop-number.number c.args.job.now.is_job c.loop-number-test.true c.loop-number.start c.loop-number.invariant
          c.index-files-number.result c.job_with-job.result.fields c.moves-moves.result.now c.index-files-number.is c.job_with-job.ensures c.moves-moves.ensures;
      moves_ok = moves.0;
      few = moves.1;
    } in
    asked

pub loop-number-preserved : goal.loop-number-preserved
loop-number-preserved g c =
    let passed = rw c.in-Ok.is at c.in_ok-rows.ensures in
    passed_so c.args.job.now.fields c.args.part.now c.args.files.now c.loop-number.number c.args.job.now.is_job c.loop-number-test.true c.loop-number.start c.loop-number.invariant
    c.index-files-number.result c.job_with-job.result.fields c.moves-moves.result.now c.index-files-number.is c.job_with-job.ensures c.moves-moves.ensures c.in-Ok.rows.items _ refl passed

pub returns-in-Err : goal.returns-in-Err
returns-in-Err g c =
    let stopped = rw c.in-Err.is at c.in_ok-rows.ensures in
    stopped_so c.args.job.now.fields c.args.part.now c.args.files.now c.loop-number.number c.args.job.now.is_job c.loop-number-test.true c.loop-number.start c.loop-number.invariant
    c.index-files-number.result c.job_with-job.result.fields c.moves-moves.result.now c.index-files-number.is c.job_with-job.ensures c.moves-moves.ensures c.in-Err.reason stopped

pub returns : goal.returns
returns g c =
    let over = c.loop-number-test.false in
    let within = c.loop-number.auto.number-end in
    all_passed c.args.job.now.fields c.args.part.now c.args.files.now c.loop-number.number c.loop-number.start c.in_ok-rows_of_start.field-0.items (omega (over, within, arith)) c.loop-number.invariant
    c.in_ok-rows_of_start.ensures
