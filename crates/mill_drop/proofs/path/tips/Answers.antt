use Rattle.mill_base.proofs.Ranges.{coordinate}
use Rattle.mill_drop.proofs.PathLemmas.{one_tip}
use Rattle.mill_drop.proofs.path.tips.Goals as goal

pub loop-place-preserved : goal.loop-place-preserved
loop-place-preserved c =
    let x0 = coordinate c.args.x0 c.requires.x0_ok in
    rw x0
    (one_tip _ c.args.x0 c.args.heights.now c.args.places.now c.loop-place.place-index c.loop-place.points.items c.push.new.self.items c.requires.heights_ok c.requires.places_ok c.requires.x0_ok c.loop-place-test.true
    (rw x0 at c.loop-place.invariant) (rw x0 at c.in_ok-push.ensures.items))
