-- A cutter, the points of a part, and the points that its moves remove.
use Rattle.std.specs.Prelude.{◌≡◌, ℤ, pos, ◌*ℤ◌, ◌<ℤ◌, ◌≤ℤ◌, List, Contains}
use Rattle.mill_base.specs.Points.{IsPointOf, minus, times, point_at}
use Rattle.mill_base.specs.Motion.{IsSure, IsTipOf, tip_at}
use Rattle.mill_base.specs.Cutters.{Inside}
use Rattle.mill_base.specs.declared.points.Pt3.{Pt3}
use Rattle.mill_base.specs.declared.points.Tri.{Tri}
use Rattle.mill_base.specs.declared.motion.Move.{Move}
use Rattle.mill_base.specs.declared.cutter.Cutter.{Cutter}

-- with its tip at t over m, the cutter strictly holds the point p over n: both are brought to the denominator m*n
abbrev pub Holds : Cutter → ℤ → Pt3 → ℤ → Pt3 → Type 0
Holds cutter m t n p = Inside cutter (m *ℤ n) (minus (times m p) (times n t))

-- some point of the triangle is strictly inside the cutter with its tip at t over m
pub record Touches (cutter : Cutter) (m : ℤ) (t : Pt3) (tri : Tri) : Type 0 where
  pub n : ℤ
  pub p : Pt3
  pub point : IsPointOf tri n p
  pub inside : Holds cutter m t n p

-- some part point is strictly inside the cutter with its tip at t over m
pub record Gouges (cutter : Cutter) (m : ℤ) (t : Pt3) (part : List Tri) : Type 0 where
  pub tri : Tri
  pub member : Contains part tri
  pub touches : Touches cutter m t tri

-- where the tip may be on the move, some part point is strictly inside the cutter
pub record GougesOn (cutter : Cutter) (move : Move) (part : List Tri) : Type 0 where
  pub m : ℤ
  pub tip : Pt3
  pub is : IsTipOf move m tip
  pub gouges : Gouges cutter m tip part

-- where the tip may be on the move, the point p over n is strictly inside the cutter
pub record MayRemove (cutter : Cutter) (move : Move) (n : ℤ) (p : Pt3) : Type 0 where
  pub m : ℤ
  pub tip : Pt3
  pub is : IsTipOf move m tip
  pub inside : Holds cutter m tip n p

-- at some moment of the move at which it is surely known where the tip is, the point p over n is strictly inside the cutter
pub record Removes (cutter : Cutter) (move : Move) (n : ℤ) (p : Pt3) : Type 0 where
  pub k : ℤ
  pub m : ℤ
  pub moment : IsSure move k m
  pub inside : Holds cutter m (tip_at move k m) n p

-- some move of the list removes the whole point p; else it is left
pub record IsRemoved (cutter : Cutter) (moves : List Move) (p : Pt3) : Type 0 where
  pub move : Move
  pub member : Contains moves move
  pub removes : Removes cutter move (pos 1) p

abbrev pub IsLeft : Cutter → List Move → Pt3 → Type 0
IsLeft cutter moves p = ¬ IsRemoved cutter moves p

-- a cutter that holds a whole point holds every point straight over it
abbrev pub HoldsOver : Type 0
HoldsOver = (cutter : Cutter) (m : ℤ) (t : Pt3) (n : ℤ) (p : Pt3) (x y h : ℤ) → (pos 0) <ℤ m → (pos 0) <ℤ n → Holds cutter m t (pos 1) (point_at x y h)
    → p.x ≡ n *ℤ x → p.y ≡ n *ℤ y → (n *ℤ h) ≤ℤ p.z → Holds cutter m t n p
