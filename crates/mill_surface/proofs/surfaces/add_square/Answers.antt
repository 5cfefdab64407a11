use Rattle.std.proofs.Common.{rules}
use Rattle.mill_surface.proofs.RangeLemmas.{two_more_tris}
use Rattle.mill_surface.proofs.surfaces.add_square.Goals as goal

pub returns-clause-in_range : goal.returns-clause-in_range
returns-clause-in_range c =
    let here = c.top_point_of-here.ensures.in_range in
    let along = c.top_point_of-along.ensures.in_range in
    let beyond = c.top_point_of-beyond.ensures.in_range in
    let above = c.top_point_of-above.ensures.in_range in
    two_more_tris c.args.job.now.fields.unit c.args.tris.now.items c.push.new.self.items c.push-2.new.self.items _ _ c.in_ok-push.ensures.items c.in_ok-push-2.ensures.items c.requires.in_range
    (search rules) (search rules)
