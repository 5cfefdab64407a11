use mir.Syntax.{w32}
use Rattle.std.proofs.lemmas.Int.{to_z-of_z}
use Rattle.mill_push.proofs.Pushing.{is_wide, tip_centre}
use Rattle.mill_push.proofs.stretch.Pusher.is_touched.Goals as goal

pub counted_inside-requires-clause-cutter_ok : goal.counted_inside-requires-clause-cutter_ok
counted_inside-requires-clause-cutter_ok g c = is_wide c.args.self.cutter c.requires.self_ok.cutter_ok

pub counted_inside-requires-clause-tip_ok : goal.counted_inside-requires-clause-tip_ok
counted_inside-requires-clause-tip_ok g c = rw (c.tip.ensures, to_z-of_z w32 c.args.at c.ranges.at) (tip_centre c.args.self.fiber c.args.at c.requires.self_ok.fiber_ok c.requires.at_ok)

pub returns-clause-yes : goal.returns-clause-yes
returns-clause-yes g c = rw (c.tip.ensures, to_z-of_z w32 c.args.at c.ranges.at) at c.counted_inside.ensures.yes

pub returns-clause-no : goal.returns-clause-no
returns-clause-no g c = rw (c.tip.ensures, to_z-of_z w32 c.args.at c.ranges.at) at c.counted_inside.ensures.no
