use mir.Syntax.{w32}
use Rattle.std.proofs.lemmas.Int.{to_z-of_z}
use Rattle.mill_push.proofs.Pushing.{is_wide, tip_centre, touch_on}
use Rattle.mill_push.proofs.stretch.Pusher.touch_at.Goals as goal

pub counted_touch-requires-clause-cutter_ok : goal.counted_touch-requires-clause-cutter_ok
counted_touch-requires-clause-cutter_ok g c = is_wide c.args.self.cutter c.requires.self_ok.cutter_ok

pub counted_touch-requires-clause-tip_ok : goal.counted_touch-requires-clause-tip_ok
counted_touch-requires-clause-tip_ok g c = rw (c.tip.ensures, to_z-of_z w32 c.args.at c.ranges.at) (tip_centre c.args.self.fiber c.args.at c.requires.self_ok.fiber_ok c.requires.at_ok)

pub returns-clause-touch : goal.returns-clause-touch
returns-clause-touch g c =
    let at = to_z-of_z w32 c.args.at c.ranges.at in
    let h = rw (c.tip.ensures, at) at c.counted_touch.ensures.touch in
    touch_on c.counted_touch.result c.args.self.cutter c.args.tri.now c.args.self.fiber c.args.at h
