-- The first gouge of those triangles that have been tried.
use Rattle.std.specs.Prelude.{◌≡◌, ◌⊎◌, ℕ, ◌<◌, Option, Some, None}
use Rattle.mill_base.specs.declared.points.Tri.{Tri}
use Rattle.mill_base.specs.declared.motion.Move.{Move}
use Rattle.mill_base.specs.declared.cutter.Cutter.{Cutter}
use Rattle.mill_sweep.specs.Passing.{FailsAt, IsBlocked, Passes}
use Rattle.mill_sweep.specs.declared.leaf.Leaf.{Leaf}
use Rattle.mill_gouge.specs.declared.gouge.Gouge.{Gouge}

-- triangle t comes before the first gouge so far, if there is one
abbrev pub ComesBefore : ℕ → Option Gouge → Type 0
ComesBefore t None = Unit {0}
ComesBefore t (Some gouge) = t < gouge.tri

-- the triangle, of number t, is the gouge that is told: the move fails at it, and it blocks the leaf that is named
pub record IsGouge (cutter : Cutter) (m : Move) (tri : Tri) (t : ℕ) (told : Option Gouge) : Type 0 where
  pub leaf : Leaf
  pub told_so : told ≡ Some (record { tri = t; leaf = leaf })
  pub fails : FailsAt cutter m tri leaf
  pub blocked : IsBlocked cutter m tri leaf

-- with the triangle of number t, the first gouge so far becomes another: itself, where t doesn't come before it or the move passes the triangle; else the triangle's
abbrev pub IsEarlier : Cutter → Move → Tri → ℕ → Option Gouge → Option Gouge → Type 0
IsEarlier cutter m tri t first next =
    ((next ≡ first) × ((¬ ComesBefore t first) ⊎ Passes cutter m tri))
    ⊎ (ComesBefore t first × IsGouge cutter m tri t next)
