-- The runs of a fiber: the maximal stretches of whole positions at which the tool gouges.
use Rattle.std.specs.Prelude.{◌≡◌, ◌↔◌, ℤ, pos, ◌+ℤ◌, ◌<ℤ◌, ◌≤ℤ◌, List, [], ◌∷◌, Contains}
use Rattle.mill_base.specs.declared.points.Tri.{Tri}
use Rattle.mill_base.specs.declared.tool.Tool.{Tool}
use Rattle.mill_push.specs.declared.fiber.Fiber.{Fiber}
use Rattle.mill_push.specs.declared.fiber.Run.{Run}
use Rattle.mill_push.specs.Fibers.{IsBlocked}

-- every position from a up to b, and without b, is free
abbrev pub FreeUpTo : (ℤ → Type 0) → ℤ → ℤ → Type 0
FreeUpTo Blocked a b = (v : ℤ) → a ≤ℤ v → v <ℤ b → ¬ Blocked v

-- the first run from the position `from` on: what comes before it is free, it is blocked, and the position after it is free or past the end
pub record IsNextRun (Blocked : ℤ → Type 0) (from to : ℤ) (run : Run) : Type 0 where
  pub after : from ≤ℤ run.first
  pub some : run.first ≤ℤ run.last
  pub within : run.last ≤ℤ to
  pub before : FreeUpTo Blocked from run.first
  pub blocks : (v : ℤ) → run.first ≤ℤ v → v ≤ℤ run.last → Blocked v
  pub stops : run.last <ℤ to → ¬ Blocked (run.last +ℤ pos 1)

-- the runs from `from` to `to`, ascending: none where all is free; else the next one, and those after it
abbrev pub RunsOf : (ℤ → Type 0) → ℤ → ℤ → List Run → Type 0
RunsOf Blocked from to [] = FreeUpTo Blocked from (to +ℤ pos 1)
RunsOf Blocked from to (run ∷ runs) = IsNextRun Blocked from to run × RunsOf Blocked (run.last +ℤ pos 1) to runs

-- the runs of whole positions at which the tool gouges the part
abbrev pub AreRuns : Tool → List Tri → Fiber → ℤ → ℤ → List Run → Type 0
AreRuns tool part fiber from to runs = RunsOf (IsBlocked tool part fiber) from to runs

-- a fiber has at most one list of runs
abbrev pub OneListOfRuns : Type 0
OneListOfRuns = (tool : Tool) (part : List Tri) (fiber : Fiber) (from to : ℤ) (runs others : List Run)
    → AreRuns tool part fiber from to runs → AreRuns tool part fiber from to others → runs ≡ others

-- the position stands in some run of the list
pub record StandsIn (runs : List Run) (v : ℤ) : Type 0 where
  pub run : Run
  pub member : Contains runs run
  pub first : run.first ≤ℤ v
  pub last : v ≤ℤ run.last

-- the positions that are blocked are those that stand in a run
abbrev pub RunsHoldBlocked : Type 0
RunsHoldBlocked = (tool : Tool) (part : List Tri) (fiber : Fiber) (from to v : ℤ) (runs : List Run) → AreRuns tool part fiber from to runs
    → from ≤ℤ v → v ≤ℤ to → IsBlocked tool part fiber v ↔ StandsIn runs v
