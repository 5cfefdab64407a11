use Rattle.std.specs.Prelude.{◌≡◌, ◌++◌}
use Rattle.mill_control.specs.Holes.{at_height, bitten, over_hole, sunk, top_of}
use Rattle.mill_control.proofs.hole.go_down.Given as goal

abbrev pub invariant-loop-done : goal.invariant-loop-done
invariant-loop-done l = l.out.items ≡ l.fn.out.items ++ sunk (at_height (over_hole l.hole) (top_of l.hole)) (bitten l.hole l.done)
