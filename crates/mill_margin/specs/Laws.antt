-- What holds of a solid wherever the machine's tip is.
use Rattle.std.specs.Prelude.{◌≡◌, ℤ, pos, ◌<ℤ◌, ◌≤ℤ◌}
use Rattle.mill_base.specs.Sizes.{IsCutter, radius_of, with_radius}
use Rattle.mill_base.specs.Solids.{Solid, SolidHolds}
use Rattle.mill_base.specs.declared.limits.TheConstants.{MAX_COORDINATE}
use Rattle.mill_base.specs.declared.points.Pt3.{Pt3}
use Rattle.mill_margin.specs.Margins.{IsWithin, grown, shrunk}

-- what a solid holds with the tip at r over n, it holds with a margin of s around it with the tip at t over m, from which r is no farther than s
abbrev pub GrownHolds : Type 0
GrownHolds = (solid : Solid) (s m n k : ℤ) (t r p : Pt3) → IsCutter solid.cutter → (pos 0) ≤ℤ s → s ≤ℤ pos MAX_COORDINATE → (pos 0) <ℤ m → (pos 0) <ℤ n → (pos 0) <ℤ k
    → IsWithin s m t n r → SolidHolds solid n r k p → SolidHolds (grown solid s) m t k p

-- what a solid with a margin of s taken off holds with the tip at t over m, the solid holds with the tip at each r over n no farther than s from t
abbrev pub ShrunkIsHeld : Type 0
ShrunkIsHeld = (solid : Solid) (s m n k : ℤ) (t r p : Pt3) → IsCutter solid.cutter → (pos 0) ≤ℤ s → s <ℤ radius_of solid.cutter → (pos 0) <ℤ m → (pos 0) <ℤ n → (pos 0) <ℤ k
    → IsWithin s m t n r → SolidHolds (shrunk solid s) m t k p → SolidHolds solid n r k p

-- a solid lies in another one of its kind and slope whose radius is at least as great and whose lift is at most as great
pub record LiesIn (inside outside : Solid) : Type 0 where
  pub kind : inside.cutter ≡ with_radius outside.cutter (radius_of inside.cutter)
  pub some : (pos 0) ≤ℤ radius_of inside.cutter
  pub narrow : radius_of inside.cutter ≤ℤ radius_of outside.cutter
  pub high : outside.lift ≤ℤ inside.lift

-- what the one holds, the other one holds with the tip at the same place
abbrev pub InsideIsHeld : Type 0
InsideIsHeld = (inside outside : Solid) (m n : ℤ) (t p : Pt3) → IsCutter outside.cutter → LiesIn inside outside → (pos 0) <ℤ m → (pos 0) <ℤ n
    → SolidHolds inside m t n p → SolidHolds outside m t n p
