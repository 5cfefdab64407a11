-- The products of four vectors in the plane of an arc.
use Rattle.std.specs.Prelude.{◌≡◌, Bool, true, false, not, ◌&&◌, if◌then◌else◌, ℤ, pos, ◌+ℤ◌, ◌-ℤ◌, ◌*ℤ◌, ◌<ℤ◌, int_le, int_lt}
use Rattle.std.proofs.Common.{ap₂, arith}
use Rattle.std.proofs.lemmas.Int.{ints}
use Rattle.mill_arc.proofs.Signs.{Quad, on}
use Rattle.mill_arc.proofs.TurnCerts.{back_left, back_right, back_sine_left, back_sine_right, cosine_left, cosine_right, sine_left, sine_right, three_left, three_right}
use Rattle.mill_arc.specs.Turns.{is_in_half, is_on_turn}
use Rattle.mill_arc.specs.Vectors.{ahead, dot}
use Rattle.mill_arc.specs.declared.vectors.Vector.{Vector}

pub three : (t : Bool) (u m v x : Vector) → ahead t u m *ℤ ahead t v x +ℤ ahead t m v *ℤ ahead t u x ≡ ahead t u v *ℤ ahead t m x
three true u m v x = three_left u.first u.second m.first m.second v.first v.second x.first x.second
three false u m v x = three_right u.first u.second m.first m.second v.first v.second x.first x.second

pub sine : (t : Bool) (o p q : Vector) → dot o o *ℤ ahead t p q ≡ dot o p *ℤ ahead t o q -ℤ ahead t o p *ℤ dot o q
sine true o p q = sine_left o.first o.second p.first p.second q.first q.second
sine false o p q = sine_right o.first o.second p.first p.second q.first q.second

pub cosine : (t : Bool) (o p q : Vector) → dot o o *ℤ dot p q ≡ dot o p *ℤ dot o q +ℤ ahead t o p *ℤ ahead t o q
cosine true o p q = cosine_left o.first o.second p.first p.second q.first q.second
cosine false o p q = cosine_right o.first o.second p.first p.second q.first q.second

pub back_sine : (t : Bool) (u m x : Vector) → dot m m *ℤ ahead t u x ≡ dot u m *ℤ ahead t m x +ℤ ahead t u m *ℤ dot m x
back_sine true u m x = back_sine_left u.first u.second m.first m.second x.first x.second
back_sine false u m x = back_sine_right u.first u.second m.first m.second x.first x.second

back : (t : Bool) (p q : Vector) → ahead t q p ≡ pos 0 -ℤ ahead t p q
back true p q = back_left p.first p.second q.first q.second
back false p q = back_right p.first p.second q.first q.second

abbrev pub quad_of : (t : Bool) (u m v x : Vector) → (pos 0) <ℤ dot u u → (pos 0) <ℤ dot m m → (pos 0) <ℤ dot x x → Quad
quad_of t u m v x u_some m_some x_some = record {
  p = dot u u;
  m = dot m m;
  x = dot x x;
  n = ahead t u v;
  d = dot u v;
  f = ahead t u m;
  g = ahead t m v;
  r = dot u m;
  s = dot m v;
  a = ahead t u x;
  b = ahead t m x;
  c = ahead t v x;
  o = dot u x;
  l = dot m x;
  p_some = u_some;
  m_some = m_some;
  x_some = x_some;
  three = three t u m v x;
  at_v = sine t u m v;
  at_b = sine t u m x;
  at_l = cosine t u m x;
  at_c = sine t u v x;
  at_a = back_sine t u m x;
  by_u = cosine t u x x;
  by_m = cosine t m x x;
}

-- a test for at most is the opposite one the other way round
le_back : (z w : ℤ) → w ≡ pos 0 -ℤ z → int_le (pos 0) w ≡ not (int_lt (pos 0) z)
le_back z w e = grind (arith, ints)

-- the test of a direction, by the products
pub on_is : (t : Bool) (u v x : Vector) → is_on_turn t u v x ≡ on (ahead t u v) (dot u v) (ahead t u x) (ahead t v x) (dot u x)
on_is t u v x = ap₂ (λ (p q : Bool). if int_lt (pos 0) (ahead t u v) then (int_lt (pos 0) (ahead t u x) && p)
    else (if int_lt (ahead t u v) (pos 0) then not (int_lt (pos 0) (ahead t v x) && q) else (if int_lt (pos 0) (dot u v) then true else is_in_half t u x)))
    (le_back (ahead t v x) (ahead t x v) (back t v x)) (le_back (ahead t u x) (ahead t x u) (back t u x))
