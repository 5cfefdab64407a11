use Rattle.mill_sweep.proofs.Depths.{depth_is, depth_most}
use Rattle.mill_sweep.proofs.Lifting.{in_lift}
use Rattle.mill_sweep.proofs.move_depth.depth.Goals as goal

pub returns-clause-value : goal.returns-clause-value
returns-clause-value c = depth_is c.args.step.now c.halvings.result (rw c.longest.ensures at c.halvings.ensures.reaches) (rw c.longest.ensures at c.halvings.ensures.least) c.halvings.ensures.most

pub returns-clause-most : goal.returns-clause-most
returns-clause-most c = λ range. rw (returns-clause-value c) (depth_most c.args.step.now (in_lift c.args.step.now range))
