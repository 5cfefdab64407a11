-- The stretch in which the least lift lies, and how it is halved.
use Rattle.std.specs.Prelude.{ℕ, ◌+◌, ◌<◌, ◌≤◌, ℤ, pos, ◌+ℤ◌, ◌-ℤ◌, ◌≤ℤ◌, List}
use Rattle.std.proofs.Common.{arith}
use Rattle.std.proofs.lemmas.Int.{ints}
use Rattle.mill_base.specs.Covers.{IsUnder}
use Rattle.mill_base.specs.Numbers.{lesser}
use Rattle.mill_base.specs.declared.motion.Move.{Move}
use Rattle.mill_base.specs.declared.points.Tri.{Tri}
use Rattle.mill_base.specs.declared.tool.Tool.{Tool}
use Rattle.mill_sweep.specs.Apart.{low_end_of}
use Rattle.mill_gouge.specs.Gouges.{ToolPassesPart}
use Rattle.mill_gouge.specs.Lifts.{low_of, lowest_tip_of, raised, IsLeastLift}
use Rattle.mill_gouge.proofs.Leasts.{next_is_least, over_part_passes}

-- with the one lift the move doesn't pass, and with the other, which is no greater than a limit, it does
pub record IsBetween (tool : Tool) (part : List Tri) (m : Move) (limit short least : ℕ) : Type 0 where
  pub order : short < least
  pub most : least ≤ limit
  pub fails : ¬ ToolPassesPart tool (raised short m) part
  pub passes : ToolPassesPart tool (raised least m) part

pub ends : (tool : Tool) (part : List Tri) (m : Move) (limit short least : ℕ) → IsBetween tool part m limit short least → least ≤ short + 1 → IsLeastLift tool part m least
ends tool part m limit short least h next = next_is_least tool part m short least next h.fails h.passes

-- raised over the part, the move passes
pub enough_passes : (tool : Tool) (part : List Tri) (m : Move) (n : ℕ) → IsUnder part (lowest_tip_of tool m +ℤ pos n) → ToolPassesPart tool (raised n m) part
enough_passes tool part m n under =
    over_part_passes tool part (raised n m) (lowest_tip_of tool m +ℤ pos n) under (less (low_end_of m) (low_end_of (raised n m)) (low_of tool) (higher m.from.z m.to.z))
  where
    higher : (a b : ℤ) → (lesser a b +ℤ pos n) ≤ℤ lesser (a +ℤ pos n) (b +ℤ pos n)
    higher a b = grind (arith, ints)

    less : (a b l : ℤ) → (a +ℤ pos n) ≤ℤ b → ((a -ℤ l) +ℤ pos n) ≤ℤ (b -ℤ l)
    less a b l h = omega (h, arith, ints)
