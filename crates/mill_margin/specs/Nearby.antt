-- How near a list's move a machine stays that goes by the numbers of a program's text, of which the list holds whole units.
use Rattle.std.specs.Prelude.{Bool, true, false, ℕ, ◌<◌, ℤ, pos, ◌+ℤ◌, ◌*ℤ◌, ◌<ℤ◌, ◌≤ℤ◌}
use Rattle.mill_base.specs.Motion.{IsTipOf, bent}
use Rattle.mill_base.specs.Rounded.{IsRoundedMove}
use Rattle.mill_base.specs.declared.motion.Move.{Move}
use Rattle.mill_base.specs.declared.points.Pt3.{Pt3}
use Rattle.mill_margin.specs.Margins.{IsWithin}

-- how much of a margin rounding may take: three units, or nothing where nothing is rounded
abbrev pub rounding_margin : Bool → ℤ
rounding_margin true = pos 3
rounding_margin false = pos 0

-- the point r over n is no farther than s from some place at which the tip may be on a way whose places are over d
pub record IsTipNear (s : ℤ) (d : ℕ) (w : Move) (n : ℤ) (r : Pt3) : Type 0 where
  pub e : ℤ
  pub tip : Pt3
  pub is : IsTipOf w e tip
  pub near : IsWithin s (e *ℤ pos d) tip n r

-- a point no farther than a from a second one, which is no farther than b from a third, is no farther than a + b from the third
abbrev pub NearTwice : Type 0
NearTwice = (a b m n l : ℤ) (p q r : Pt3) → (pos 0) ≤ℤ a → (pos 0) ≤ℤ b → (pos 0) <ℤ m → (pos 0) <ℤ n → (pos 0) <ℤ l
    → IsWithin a m p n q → IsWithin b n q l r → IsWithin (a +ℤ b) m p l r

-- a point no farther than s from a tip of a way over d is no farther than s and what rounding takes from a tip of the move whose ends are the way's, rounded to whole units
abbrev pub NearTextIsNear : Type 0
NearTextIsNear = (rounds : Bool) (s n : ℤ) (d : ℕ) (w m : Move) (r : Pt3) → (pos 0) ≤ℤ s → (pos 0) <ℤ n → 0 < d → IsRoundedMove rounds d w m
    → IsTipNear s d w n r → IsTipNear (s +ℤ rounding_margin rounds) 1 m n r

-- so it is where the axes run apart on rapids, by the way's own ends and by the rounded ones
abbrev pub NearBentIsNear : Type 0
NearBentIsNear = (rounds : Bool) (s n : ℤ) (d : ℕ) (w m : Move) (r : Pt3) → (pos 0) ≤ℤ s → (pos 0) <ℤ n → 0 < d → IsRoundedMove rounds d w m
    → IsTipNear s d (bent w) n r → IsTipNear (s +ℤ rounding_margin rounds) 1 (bent m) n r
