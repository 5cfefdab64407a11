use Rattle.mill_margin.proofs.Sizing.{narrow_is, narrow_ok, high_is, high_ok}
use Rattle.mill_margin.proofs.margin.shrunk.Goals as goal

pub new-requires-clause-cutter_ok : goal.new-requires-clause-cutter_ok
new-requires-clause-cutter_ok c =
    rw c.resized.ensures (narrow_ok c.args.solid.cutter c.args.margin c.cutter-cutter.ensures.value c.cutter-cutter.ensures.in_range c.requires.margin_ok c.radius.ensures c.requires.radius_ok)

pub new-requires-clause-lift_ok : goal.new-requires-clause-lift_ok
new-requires-clause-lift_ok c =
    high_ok c.args.solid.cutter c.args.solid.lift c.args.margin c.cutter-cutter.ensures.value c.lift-lift.ensures.value c.lift-lift.ensures.in_range c.requires.margin_ok
    c.offset.ensures.value c.offset.ensures.least c.offset.ensures.most c.requires.lift_ok

pub returns : goal.returns
returns c =
    let sized = narrow_is c.args.solid.cutter c.args.margin c.cutter-cutter.ensures.value c.cutter-cutter.ensures.in_range c.requires.margin_ok c.radius.ensures in
    let moved = high_is c.args.solid.cutter c.args.solid.lift c.args.margin c.cutter-cutter.ensures.value c.lift-lift.ensures.value c.lift-lift.ensures.in_range c.requires.margin_ok
    c.offset.ensures.value c.offset.ensures.least c.offset.ensures.most in
    rw (c.resized.ensures, sized, moved) at c.new.ensures
