-- What a hole must be like to be drilled, and what holds of its moves.
use Rattle.std.specs.Prelude.{◌≡◌, ℕ, ◌≤◌, ◌+◌, ◌<◌, ℤ, pos, ◌≤ℤ◌, IfSome, Option, true, List, [], ◌∷◌}
use Rattle.mill_base.specs.Motion.{Follow}
use Rattle.mill_base.specs.Numbers.{Within}
use Rattle.mill_base.specs.Ranges.{IsInUnitRange, MovesInUnitRange}
use Rattle.mill_base.specs.Units.{greatest_of}
use Rattle.mill_base.specs.declared.motion.Move.{Move}
use Rattle.mill_base.specs.declared.points.Pt3.{Pt3}
use Rattle.mill_words.specs.Words.{FitsNum}
use Rattle.mill_control.specs.Holes.{bottom_of, count_bites, hole_end, hole_moves, is_positive, over_hole, pecks, top_of}
use Rattle.mill_control.specs.Lengths.{exact}
use Rattle.mill_control.specs.declared.hole.Hole.{Hole}
use Rattle.mill_control.specs.declared.series.Series.{Series}

-- where the tool stands behind moves
abbrev pub ends_at : Pt3 → List Move → Pt3
ends_at at [] = at
ends_at at (m ∷ moves) = ends_at m.to moves

-- the numbers of a series have at most 18 digits
pub record FitsSeries (s : Series) : Type 0 where
  pub r_fits : IfSome s.r (FitsNum 18)
  pub z_fits : IfSome s.z (FitsNum 18)
  pub q_fits : IfSome s.q (FitsNum 18)

-- it goes down from R to a bottom in range, from a place in range to one, and back to a height in range; a peck is over 0
pub record IsHole (h : Hole) : Type 0 where
  pub r_fits : FitsNum 18 h.r
  pub z_fits : FitsNum 18 h.z
  pub q_fits : IfSome h.q (FitsNum 18)
  pub down : exact h.z ≤ℤ exact h.r
  pub bite : pecks h.cycle ≡ true → is_positive h.q ≡ true
  pub from : IsInUnitRange h.unit h.from
  pub over : IsInUnitRange h.unit (over_hole h)
  pub top : Within (greatest_of h.unit) (top_of h)
  pub bottom : Within (greatest_of h.unit) (bottom_of h)
  pub end : Within (greatest_of h.unit) h.end
  pub least : pos 0 ≤ℤ h.peck_clearance
  pub most : h.peck_clearance ≤ℤ pos 65535

-- the moves follow on each other from where it begins to where it ends, and are in range
pub record GoesOn (h : Hole) : Type 0 where
  pub follow : Follow h.from (hole_moves h)
  pub in_range : MovesInUnitRange h.unit (hole_moves h)
  pub last : ends_at h.from (hole_moves h) ≡ hole_end h

abbrev pub HoleGoesOn : Type 0
HoleGoesOn = (h : Hole) → IsHole h → GoesOn h
