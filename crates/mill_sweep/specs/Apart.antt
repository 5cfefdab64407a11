-- How a triangle lies to two places: under both, or away from both in one direction.
use Rattle.std.specs.Prelude.{◌⊎◌, ℤ, ◌+ℤ◌, ◌≤ℤ◌}
use Rattle.mill_base.specs.Numbers.{lesser}
use Rattle.mill_base.specs.declared.points.Pt3.{Pt3}
use Rattle.mill_base.specs.declared.points.Tri.{Tri}
use Rattle.mill_base.specs.declared.motion.Move.{Move}

-- the height of the move's lower end
abbrev pub low_end_of : Move → ℤ
low_end_of m = lesser m.from.z m.to.z

-- no corner of the triangle is higher than h
pub record IsNoHigher (h : ℤ) (tri : Tri) : Type 0 where
  pub a : tri.a.z ≤ℤ h
  pub b : tri.b.z ≤ℤ h
  pub c : tri.c.z ≤ℤ h

-- no corner is higher than the lower of the move's two ends
pub record IsUnderMove (m : Move) (tri : Tri) : Type 0 where
  pub from : IsNoHigher m.from.z tri
  pub to : IsNoHigher m.to.z tri

-- the three numbers a, b, c are each at least r over both ends e and f
pub record LieOver (r e f a b c : ℤ) : Type 0 where
  pub a_e : (e +ℤ r) ≤ℤ a
  pub b_e : (e +ℤ r) ≤ℤ b
  pub c_e : (e +ℤ r) ≤ℤ c
  pub a_f : (f +ℤ r) ≤ℤ a
  pub b_f : (f +ℤ r) ≤ℤ b
  pub c_f : (f +ℤ r) ≤ℤ c

-- each at least r under both ends
pub record LieUnder (r e f a b c : ℤ) : Type 0 where
  pub a_e : (a +ℤ r) ≤ℤ e
  pub b_e : (b +ℤ r) ≤ℤ e
  pub c_e : (c +ℤ r) ≤ℤ e
  pub a_f : (a +ℤ r) ≤ℤ f
  pub b_f : (b +ℤ r) ≤ℤ f
  pub c_f : (c +ℤ r) ≤ℤ f

-- the interval of the corners a, b, c and that of the ends e, f lie at least r apart
abbrev pub LieApart : ℤ → ℤ → ℤ → ℤ → ℤ → ℤ → Type 0
LieApart r e f a b c = LieOver r e f a b c ⊎ LieUnder r e f a b c

-- the triangle lies, in x or in y, at least r away from the box of two places
abbrev pub LiesBeside : ℤ → Pt3 → Pt3 → Tri → Type 0
LiesBeside r from to tri = LieApart r from.x to.x tri.a.x tri.b.x tri.c.x ⊎ LieApart r from.y to.y tri.a.y tri.b.y tri.c.y
