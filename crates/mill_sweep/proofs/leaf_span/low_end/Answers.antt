use Rattle.std.proofs.Common.{◌∙◌, refl, w32, arith}
use Rattle.mill_base.proofs.Machine.{kept}
use Rattle.mill_sweep.proofs.Depths.{depth_most}
use Rattle.mill_sweep.specs.Widths.{highest_tip}
use Rattle.mill_sweep.proofs.leaf_span.low_end.Goals as goal

pub lower_end-requires-clause-d_ok : goal.lower_end-requires-clause-d_ok
lower_end-requires-clause-d_ok c = let most = depth_most c.args.step.now c.requires.move_ok in let deep = c.requires.d_ok in omega arith

pub returns-clause-value : goal.returns-clause-value
returns-clause-value c =
    let range = c.requires.move_ok in
    kept w32 c.lower_end.result highest_tip c.lower_end.ensures.bound.within refl
    ∙ rw (kept w32 c.args.step.now.from.z highest_tip range.from_ok.z_ok.within refl, kept w32 c.args.step.now.to.z highest_tip range.to_ok.z_ok.within refl) at c.lower_end.ensures.value
