use Rattle.std.specs.Prelude.{◌≡◌}
use Rattle.mill_obstacles.proofs.Gathered.{gathered}
use Rattle.mill_obstacles.proofs.kept_off.obstacles.Given as goal

abbrev pub invariant-loop-fixture : goal.invariant-loop-fixture
invariant-loop-fixture l = l.all.items ≡ gathered l.part l.fixtures l.fixture-index
