-- What is left to be searched where some runs are known, and lists of known runs that grow.
use Rattle.std.specs.Prelude.{◌⊎◌, ℕ, ◌+◌, ◌*◌, ◌^◌, ◌<◌, ◌≤◌, ℤ, pos, ◌+ℤ◌, ◌≤ℤ◌, ◌<ℤ◌, List, length, slice_index_or, Contains, Option, MatchOption}
use Rattle.mill_base.specs.Numbers.{Within}
use Rattle.mill_base.specs.declared.limits.TheConstants.{MAX_COORDINATE}
use Rattle.mill_base.specs.declared.points.Tri.{Tri}
use Rattle.mill_base.specs.declared.cutter.Cutter.{Cutter}
use Rattle.mill_push.specs.declared.fiber.Fiber.{Fiber}
use Rattle.mill_push.specs.declared.fiber.Run.{Run}
use Rattle.mill_push.specs.Fibers.{IsTouched}
use Rattle.mill_push.specs.Runs.{StandsIn}
use Rattle.mill_push.specs.Stretches.{IsHeld}
use Rattle.mill_push.specs.Touches.{position_count}
use Rattle.mill_push.specs.inner.Unions.{IsSpan, AreSpans}

-- the position is one of the run's
pub record IsAt (run : Run) (v : ℤ) : Type 0 where
  pub first : run.first ≤ℤ v
  pub last : v ≤ℤ run.last

-- both ends of a run are in range
pub record IsRunInRange (run : Run) : Type 0 where
  pub first_ok : Within MAX_COORDINATE run.first
  pub last_ok : Within MAX_COORDINATE run.last

-- so are those of each run of a list
abbrev pub AreInRange : List Run → Type 0
AreInRange runs = (run : Run) → Contains runs run → IsRunInRange run

-- a triangle's window: outside it, the triangle is touched nowhere from `from` to `to`
pub record IsWindow (cutter : Cutter) (tri : Tri) (fiber : Fiber) (from to : ℤ) (window : Run) : Type 0 where
  pub after : from ≤ℤ window.first
  pub within : window.last ≤ℤ to
  pub before : (v : ℤ) → from ≤ℤ v → v <ℤ window.first → ¬ IsTouched cutter tri fiber v
  pub beyond : (v : ℤ) → window.last <ℤ v → v ≤ℤ to → ¬ IsTouched cutter tri fiber v

-- the rest of a window: what was cut off stands in known runs
pub record IsRest (known : List Run) (window rest : Run) : Type 0 where
  pub after : window.first ≤ℤ rest.first
  pub within : rest.last ≤ℤ window.last
  pub before : (v : ℤ) → window.first ≤ℤ v → v <ℤ rest.first → StandsIn known v
  pub beyond : (v : ℤ) → rest.last <ℤ v → v ≤ℤ window.last → StandsIn known v

-- a run inside the rest of a window: a position of the rest is before it, and one after it
pub record IsInside (rest run : Run) : Type 0 where
  pub before : rest.first <ℤ run.first
  pub some : run.first ≤ℤ run.last
  pub after : run.last <ℤ rest.last

-- of the positions from `from` to `to` so few are in the rest that so many touches are to spare at each end, and one at the start
abbrev pub HasRoom : ℤ → ℤ → Run → ℕ → Type 0
HasRoom from to rest spare = 2 ^ (spare + 1) * position_count rest.first rest.last ≤ position_count from to

-- each position from a to b at which the triangle is touched stands in known runs
abbrev pub IsKnown : Cutter → Tri → Fiber → List Run → ℤ → ℤ → Type 0
IsKnown cutter tri fiber known a b = (v : ℤ) → a ≤ℤ v → v ≤ℤ b → IsTouched cutter tri fiber v → StandsIn known v

-- the triangle is touched at this run's positions, and what it is touched at before and beyond them is known
pub record IsNewStretch (cutter : Cutter) (tri : Tri) (fiber : Fiber) (from to : ℤ) (known : List Run) (run : Run) : Type 0 where
  pub span : IsSpan from to run
  pub touched : IsHeld cutter tri fiber run.first run.last
  pub before : (v : ℤ) → from ≤ℤ v → v <ℤ run.first → IsTouched cutter tri fiber v → StandsIn known v
  pub beyond : (v : ℤ) → run.last <ℤ v → v ≤ℤ to → IsTouched cutter tri fiber v → StandsIn known v

-- what is answered of one triangle where some runs are known: none where all is known, else where it is touched
abbrev pub IsNewAnswer : Cutter → Tri → Fiber → ℤ → ℤ → List Run → Option Run → Type 0
IsNewAnswer cutter tri fiber from to known answer = MatchOption answer (IsKnown cutter tri fiber known from to) (IsNewStretch cutter tri fiber from to known)

-- no free position lies between the two runs
pub record AreJoined (a b : Run) : Type 0 where
  pub before : a.first ≤ℤ (b.last +ℤ pos 1)
  pub after : b.first ≤ℤ (a.last +ℤ pos 1)

-- the run of number i; there is none past the end, so what stands there is never looked at
abbrev pub run_at : List Run → ℕ → Run
run_at runs i = slice_index_or runs i (record { first = pos 0; last = pos 0 })

-- the number of a run of the list to which the stretch is joined
pub record IsJoint (runs : List Run) (stretch : Run) (i : ℕ) : Type 0 where
  pub within : i < length runs
  pub joined : AreJoined (run_at runs i) stretch

-- a run that holds the positions of two, and no other
pub record IsHull (a b hull : Run) : Type 0 where
  pub first : (v : ℤ) → IsAt a v → IsAt hull v
  pub second : (v : ℤ) → IsAt b v → IsAt hull v
  pub only : (v : ℤ) → IsAt hull v → IsAt a v ⊎ IsAt b v
  pub spans : (from to : ℤ) → IsSpan from to a → IsSpan from to b → IsSpan from to hull

-- a list of runs with one stretch more: what stands in it stood in the list before, or in the stretch
pub record IsGrown (old : List Run) (stretch : Run) (new : List Run) : Type 0 where
  pub spans : (from to : ℤ) → AreSpans from to old → IsSpan from to stretch → AreSpans from to new
  pub kept : (v : ℤ) → StandsIn old v → StandsIn new v
  pub added : (v : ℤ) → IsAt stretch v → StandsIn new v
  pub only : (v : ℤ) → StandsIn new v → StandsIn old v ⊎ IsAt stretch v
