-- A cutter that holds some of a triangle holds some of it at each lesser height, and none at or over the triangle's top.
use Rattle.std.specs.Prelude.{int_lt}
use Rattle.std.proofs.Common.{◌≡◌, Bool, true, false, cond, ap, subst, arith}
use lib.IntN.{ℤ, pos, ◌-ℤ◌, ◌*ℤ◌}
use lib.Signed.{◌<ℤ◌, ◌≤ℤ◌}
use Rattle.std.proofs.lemmas.Int.{ints}
use Rattle.mill_base.specs.Numbers.{Within, greater}
use Rattle.mill_base.specs.declared.limits.TheConstants.{MAX_COORDINATE, MAX_RADIUS, MAX_WIDE_RADIUS}
use Rattle.mill_base.specs.Ranges.{TriInRange}
use Rattle.mill_base.specs.Points.{minus, times, point_at, highest}
use Rattle.mill_base.specs.Sizes.{IsCutter, IsWideCutter, radius_of}
use Rattle.mill_base.specs.Cutters.{Inside}
use Rattle.mill_base.specs.Contact.{Holds}
use Rattle.mill_base.specs.declared.points.Pt3.{Pt3}
use Rattle.mill_base.specs.declared.points.Tri.{Tri}
use Rattle.mill_base.specs.declared.cutter.Cutter.{Cutter}
use Rattle.mill_base.specs.declared.cutter.Cutter.TheVariants.{Flat, Ball, Cone}
use Rattle.mill_base.proofs.Integers.{one-mul-ℤ}
use Rattle.mill_shape.proofs.Over.{inside_raised}
use Rattle.mill_shape.proofs.Holding.{holds_over_tip}
use Rattle.mill_part.proofs.TopLemmas.{corners_under}
use Rattle.mill_drop.specs.inner.Solids.{TouchesAt}
use Rattle.mill_drop.proofs.HeightCerts.{mean_low, times_mono}

-- a job's cutter is at least one unit wide
pub has_radius : (cutter : Cutter) → IsCutter cutter → (pos 1) ≤ℤ radius_of cutter
has_radius (Flat r) h = h.least
has_radius (Ball r) h = h.least
has_radius (Cone r a b) h = h.0.least

-- the same point, from a tip that is lower
pub lowered_holds : (cutter : Cutter) (x y z lower n : ℤ) (p : Pt3) → (pos 0) <ℤ n → lower ≤ℤ z → Holds cutter (pos 1) (point_at x y z) n p → Holds cutter (pos 1) (point_at x y lower) n p
lowered_holds cutter x y z lower n p hn hl h =
    let d = minus (times (pos 1) p) (times n (point_at x y z)) in
    let up : (pos 1 *ℤ d.z) ≤ℤ (pos 1 *ℤ p.z -ℤ n *ℤ lower) = rise (pos 1 *ℤ p.z) (n *ℤ z) (n *ℤ lower) (pos 1 *ℤ d.z) (one-mul-ℤ d.z) (times_mono n lower z hn hl) in
    let u = pos 1 *ℤ p.z -ℤ n *ℤ lower in
    let held = inside_raised cutter (pos 1 *ℤ n) (pos 1) u d (omega (arith, ints)) up h in
    subst (λ m. Inside cutter m (point_at d.x d.y u)) (one-mul-ℤ (pos 1 *ℤ n))
    (subst (λ q. Inside cutter (pos 1 *ℤ (pos 1 *ℤ n)) (point_at q d.y u)) (one-mul-ℤ d.x)
    (subst (λ q. Inside cutter (pos 1 *ℤ (pos 1 *ℤ n)) (point_at (pos 1 *ℤ d.x) q u)) (one-mul-ℤ d.y) held))
  where
    rise : (p a b q : ℤ) → q ≡ p -ℤ a → b ≤ℤ a → q ≤ℤ (p -ℤ b)
    rise p a b q e h = omega (arith, ints)

pub lowered : (cutter : Cutter) (tri : Tri) (x y z lower : ℤ) → lower ≤ℤ z → TouchesAt cutter tri x y z → TouchesAt cutter tri x y lower
lowered cutter tri x y z lower hl t = record {
  n = t.n;
  p = t.p;
  point = t.point;
  inside = lowered_holds cutter x y z lower t.n t.p t.point.some hl t.inside;
}

-- the greater of two numbers in range is in range
greater_within : (a b : ℤ) → Within MAX_COORDINATE a → Within MAX_COORDINATE b → Within MAX_COORDINATE (greater a b)
greater_within a b ha hb = by (int_lt a b)
  where
    by : (t : Bool) → Within MAX_COORDINATE (cond t b a)
    by true = hb
    by false = ha

pub highest_within : (tri : Tri) → TriInRange tri → Within MAX_COORDINATE (highest tri)
highest_within tri h = greater_within tri.a.z (greater tri.b.z tri.c.z) h.a_ok.z_ok (greater_within tri.b.z tri.c.z h.b_ok.z_ok h.c_ok.z_ok)

through : (a b c : ℤ) → a ≤ℤ b → b ≤ℤ c → a ≤ℤ c
through a b c h k = omega (arith, ints)

-- nothing of the triangle is over its highest corner
pub over_top_free : (cutter : Cutter) (tri : Tri) (x y z : ℤ) → IsCutter cutter → highest tri ≤ℤ z → TouchesAt cutter tri x y z → ⊥
over_top_free cutter tri x y z ok h t =
    let k = t.point in
    let c = corners_under tri in
    let over = holds_over_tip cutter (pos 1) (point_at x y z) t.n t.p (has_radius cutter ok) (omega (arith, ints)) k.some t.inside in
    let under = mean_low k.u k.v k.w tri.a.z tri.b.z tri.c.z z k.u_ok k.v_ok k.w_ok (through _ (highest tri) z c.0 h) (through _ (highest tri) z c.1 h) (through _ (highest tri) z c.2 h) in
    against t.p.z t.n _ _ z (pos 1 *ℤ t.p.z) (one-mul-ℤ t.p.z) (ap (λ (q : Pt3). q.z) k.place) k.weights over under
  where
    against : (p n m s z q : ℤ) → q ≡ p → p ≡ m → n ≡ s → (n *ℤ z) <ℤ q → m ≤ℤ (s *ℤ z) → ⊥
    against p n m s z q eq ep en over under = let u : m ≤ℤ (n *ℤ z) = rw (← en) at under in omega (arith, ints)

-- a job's cutter is one of a contact test's
pub is_wide : (cutter : Cutter) → IsCutter cutter → IsWideCutter cutter
is_wide (Flat r) h = record { least = h.least; within = through r MAX_RADIUS MAX_WIDE_RADIUS h.within (omega (arith, ints)) }
is_wide (Ball r) h = record { least = h.least; within = through r MAX_RADIUS MAX_WIDE_RADIUS h.within (omega (arith, ints)) }
is_wide (Cone r a b) h = (record { least = h.0.least; within = through r MAX_RADIUS MAX_WIDE_RADIUS h.0.within (omega (arith, ints)) }, h.1)
