-- Places and moves over a denominator, and the whole ones that they are rounded to.
use Rattle.std.specs.Prelude.{◌≡◌, ℕ, ◌*◌, ◌≤◌, ⊤, Bool, true, false, ℤ, pos, nat_abs, ◌-ℤ◌, ◌*ℤ◌, List, [], ◌∷◌}
use Rattle.mill_base.specs.declared.points.Pt3.{Pt3}
use Rattle.mill_base.specs.declared.motion.Move.{Move}

-- twice how far a number over d may be from the whole one that stands in its place, in parts of 1/d: rounding takes half a unit at most, and where nothing is rounded it is the same number
abbrev pub twice_off : Bool → ℕ → ℕ
twice_off true d = d
twice_off false d = 0

-- the whole number p stands in the place of q over d
abbrev pub IsRoundedTo : Bool → ℕ → ℤ → ℤ → Type 0
IsRoundedTo rounds d q p = 2 * nat_abs (q -ℤ pos d *ℤ p) ≤ twice_off rounds d

-- so does the whole point p, coordinate by coordinate
pub record IsRounded (rounds : Bool) (d : ℕ) (q p : Pt3) : Type 0 where
  pub x_near : IsRoundedTo rounds d q.x p.x
  pub y_near : IsRoundedTo rounds d q.y p.y
  pub z_near : IsRoundedTo rounds d q.z p.z

-- a move of the same kind between such points
pub record IsRoundedMove (rounds : Bool) (d : ℕ) (w m : Move) : Type 0 where
  pub kind : w.kind ≡ m.kind
  pub from : IsRounded rounds d w.from m.from
  pub to : IsRounded rounds d w.to m.to

-- so it is of the moves of two lists, one by one
abbrev pub AreRounded : Bool → ℕ → List Move → List Move → Type 0
AreRounded rounds d [] [] = ⊤
AreRounded rounds d (w ∷ ws) (m ∷ ms) = IsRoundedMove rounds d w m × AreRounded rounds d ws ms
AreRounded rounds d ws ms = ⊥
