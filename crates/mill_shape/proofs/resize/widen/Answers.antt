use Rattle.std.proofs.Common.{rules, ◌≡◌}
use Rattle.mill_base.specs.Sizes.{outer}
use Rattle.mill_shape.proofs.Resizing.{wide}
use Rattle.mill_shape.proofs.resize.widen.Goals as goal

pub returns-clause-wide : goal.returns-clause-wide
returns-clause-wide c =
    let wider : c.with_radius_of.result ≡ outer c.args.cutter c.args.reach = search rules in
    wide c.args.cutter c.with_radius_of.result c.args.reach c.requires.cutter_ok c.requires.reach_least c.requires.reach_most wider
