use Rattle.std.proofs.Common.{refl, w32, arith}
use Rattle.mill_base.proofs.Machine.{kept}
use Rattle.mill_sweep.proofs.Depths.{depth_most}
use Rattle.mill_base.specs.declared.limits.TheConstants.{MAX_COORDINATE}
use Rattle.mill_sweep.proofs.leaf_span.stretch_in_y.Goals as goal

pub stretch_of-requires-clause-d_ok : goal.stretch_of-requires-clause-d_ok
stretch_of-requires-clause-d_ok c = let most = depth_most c.args.step.now c.requires.move_ok in let deep = c.requires.d_ok in omega arith

pub returns-clause-value : goal.returns-clause-value
returns-clause-value c =
    let range = c.requires.move_ok in
    rw (kept w32 c.args.step.now.from.y MAX_COORDINATE range.from_ok.y_ok.within refl, kept w32 c.args.step.now.to.y MAX_COORDINATE range.to_ok.y_ok.within refl) at c.stretch_of.ensures.value
