use Rattle.std.proofs.Common.{◌≡◌, map, take}
use Rattle.mill_drop.specs.Paths.{tip_over}
use Rattle.mill_drop.proofs.path.tips.Given as goal

abbrev pub invariant-loop-place : goal.invariant-loop-place
invariant-loop-place l = l.points.items ≡ map (tip_over l.y l.x0 l.heights) (take l.place-index l.places)
