-- The positions at which one triangle is touched: one stretch, since cutters and triangles are convex.
use Rattle.std.specs.Prelude.{◌≤ℤ◌, ◌<ℤ◌, ℤ, Option, MatchOption}
use Rattle.mill_base.specs.declared.points.Tri.{Tri}
use Rattle.mill_base.specs.declared.cutter.Cutter.{Cutter}
use Rattle.mill_push.specs.declared.fiber.Fiber.{Fiber}
use Rattle.mill_push.specs.declared.fiber.Run.{Run}
use Rattle.mill_push.specs.Fibers.{IsTouched}

-- between two positions at which one triangle is touched, it is touched everywhere
abbrev pub OneStretch : Type 0
OneStretch = (cutter : Cutter) (tri : Tri) (fiber : Fiber) (a v b : ℤ) → a ≤ℤ v → v ≤ℤ b
    → IsTouched cutter tri fiber a → IsTouched cutter tri fiber b → IsTouched cutter tri fiber v

-- no position from a to b is touched
abbrev pub IsClear : Cutter → Tri → Fiber → ℤ → ℤ → Type 0
IsClear cutter tri fiber a b = (v : ℤ) → a ≤ℤ v → v ≤ℤ b → ¬ IsTouched cutter tri fiber v

-- every position from a to b is touched
abbrev pub IsHeld : Cutter → Tri → Fiber → ℤ → ℤ → Type 0
IsHeld cutter tri fiber a b = (v : ℤ) → a ≤ℤ v → v ≤ℤ b → IsTouched cutter tri fiber v

-- the triangle is touched at this run's positions, and at no other from `from` to `to`
pub record IsTouchedStretch (cutter : Cutter) (tri : Tri) (fiber : Fiber) (from to : ℤ) (run : Run) : Type 0 where
  pub after : from ≤ℤ run.first
  pub some : run.first ≤ℤ run.last
  pub within : run.last ≤ℤ to
  pub touched : IsHeld cutter tri fiber run.first run.last
  pub before : (v : ℤ) → from ≤ℤ v → v <ℤ run.first → ¬ IsTouched cutter tri fiber v
  pub beyond : (v : ℤ) → run.last <ℤ v → v ≤ℤ to → ¬ IsTouched cutter tri fiber v

-- what is answered of one triangle: none where it is touched nowhere, else where it is
abbrev pub IsStretchAnswer : Cutter → Tri → Fiber → ℤ → ℤ → Option Run → Type 0
IsStretchAnswer cutter tri fiber from to answer = MatchOption answer (IsClear cutter tri fiber from to) (IsTouchedStretch cutter tri fiber from to)
