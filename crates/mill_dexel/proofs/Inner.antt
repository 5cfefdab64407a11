-- What a narrower cutter holds near the cutter's place, raised enough, the cutter holds.
use Rattle.std.specs.Prelude.{ℕ, zero, suc, ◌^◌, ◌<◌, nat_abs, ℤ, pos, negsuc, ◌+ℤ◌, ◌-ℤ◌, ◌*ℤ◌, ◌<ℤ◌, ◌≤ℤ◌}
use Rattle.std.proofs.Common.{◌≡◌, inl, inr, refl, sym, subst, arith}
use Rattle.std.proofs.lemmas.Int.{ints}
use Rattle.std.proofs.lemmas.Nat.{pow_pos}
use Rattle.mill_base.proofs.Divisions.{ceil_div_high}
use Rattle.mill_base.proofs.Integers.{mul_nonneg-ℤ}
use Rattle.mill_base.specs.Numbers.{square, ceil_div}
use Rattle.mill_base.specs.Points.{point_at, minus, times}
use Rattle.mill_base.specs.Cutters.{Inside, InFlat, InBall, InCone}
use Rattle.mill_base.specs.Contact.{Holds}
use Rattle.mill_base.specs.Sizes.{IsCutter, radius_of, with_radius, shift}
use Rattle.mill_base.specs.declared.points.Pt3.{Pt3}
use Rattle.mill_base.specs.declared.cutter.Cutter.{Cutter}
use Rattle.mill_base.specs.declared.cutter.Cutter.TheVariants.{Flat, Ball, Cone}
use Rattle.mill_shape.proofs.Over.{inside_raised}
use Rattle.mill_dexel.proofs.InnerCerts.{inner_dot, inner_near, inner_high, inner_deep, inner_over, cone_dot, cone_rise, cone_steep, raised_to, moved_by, raised_by}

-- the offset (x, y, z) over n moved by (u, v), which is at most q over n long, and raised by s over n
module _ (q n x y z u v : ℤ) (hq : (pos 0) ≤ℤ q) (hn : (pos 0) <ℤ n) (near : (square u +ℤ square v) ≤ℤ square (q *ℤ n)) where
  reach : (pos 0) ≤ℤ (q *ℤ n)
  reach = mul_nonneg-ℤ q n hq (omega (arith, ints))

  dot : (r : ℤ) → (pos 0) ≤ℤ r → (square x +ℤ square y) <ℤ (square r *ℤ square n) → (x *ℤ u +ℤ y *ℤ v) ≤ℤ ((r *ℤ n) *ℤ (q *ℤ n))
  dot r hr i = inner_dot x y u v r q n i near (mul_nonneg-ℤ r n hr (omega (arith, ints))) reach

  pub moved_flat : (r s : ℤ) → (pos 0) ≤ℤ r → (pos 0) ≤ℤ s → InFlat r n (point_at x y z) → InFlat (r +ℤ q) n (point_at (x +ℤ u) (y +ℤ v) (z +ℤ s *ℤ n))
  moved_flat r s hr hs i = record {
    near = inner_near x y u v r q n i.near near (dot r hr i.near);
    over = inner_over z s n i.over hs hn;
  }

  pub moved_ball : (r : ℤ) → (pos 0) ≤ℤ r → InBall r n (point_at x y z) → InBall (r +ℤ q) n (point_at (x +ℤ u) (y +ℤ v) (z +ℤ q *ℤ n))
  moved_ball r hr i = record {
    near = inner_near x y u v r q n i.near near (dot r hr i.near);
    over = elim i.over [
      | inl high ↦ inl (inner_high z r q n high)
      | inr deep ↦ inr (inner_deep x y z u v r q n deep near (dot r hr i.near))
    ];
  }

  pub moved_cone : (r a b s : ℤ) → (pos 0) ≤ℤ r → (pos 0) ≤ℤ a → (pos 0) ≤ℤ b → (pos 0) ≤ℤ s → (q *ℤ a) ≤ℤ (b *ℤ s) → InCone r a b n (point_at x y z)
      → InCone (r +ℤ q) a b n (point_at (x +ℤ u) (y +ℤ v) (z +ℤ s *ℤ n))
  moved_cone r a b s hr ha hb hs rises i =
      let up = mul_nonneg-ℤ b z hb (let over = i.over in omega (arith, ints)) in
      let out = mul_nonneg-ℤ a (q *ℤ n) ha reach in
      record {
        near = inner_near x y u v r q n i.near near (dot r hr i.near);
        over = inner_over z s n i.over hs hn;
        steep = cone_steep a b x y z u v s q n i.steep near (cone_dot a b x y z u v q n i.steep near up out) up out (cone_rise a b z s q n hn rises);
      }

-- how far a cutter is raised for a change of its radius by q
abbrev pub IsRaise : Cutter → ℤ → ℤ → Type 0
IsRaise (Flat r) q s = (pos 0) ≤ℤ s
IsRaise (Ball r) q s = s ≡ q
IsRaise (Cone r a b) q s = ((pos 0) ≤ℤ a) × ((pos 0) ≤ℤ b) × ((pos 0) ≤ℤ s) × ((q *ℤ a) ≤ℤ (b *ℤ s))

moved : (cutter : Cutter) (r q s n x y z u v : ℤ) → (pos 0) ≤ℤ r → (pos 0) ≤ℤ q → (pos 0) <ℤ n → r +ℤ q ≡ radius_of cutter → IsRaise cutter q s
    → (square u +ℤ square v) ≤ℤ square (q *ℤ n) → Inside (with_radius cutter r) n (point_at x y z) → Inside cutter n (point_at (x +ℤ u) (y +ℤ v) (z +ℤ s *ℤ n))
moved (Flat t) r q s n x y z u v hr hq hn sum raise near i =
    subst (λ t. InFlat t n (point_at (x +ℤ u) (y +ℤ v) (z +ℤ s *ℤ n))) sum (moved_flat q n x y z u v hq hn near r s hr raise i)
moved (Ball t) r q s n x y z u v hr hq hn sum raise near i =
    subst (λ t. InBall t n (point_at (x +ℤ u) (y +ℤ v) (z +ℤ s *ℤ n))) sum
    (subst (λ s. InBall (r +ℤ q) n (point_at (x +ℤ u) (y +ℤ v) (z +ℤ s *ℤ n))) (sym raise) (moved_ball q n x y z u v hq hn near r hr i))
moved (Cone t a b) r q s n x y z u v hr hq hn sum raise near i =
    subst (λ t. InCone t a b n (point_at (x +ℤ u) (y +ℤ v) (z +ℤ s *ℤ n))) sum (moved_cone q n x y z u v hq hn near r a b s hr raise.0 raise.1 raise.2 raise.3 i)

-- a number over the denominator 1
once : (n : ℤ) → n *ℤ pos 1 ≡ n
once n = omega (arith, ints)

point_of : (a b c d e f : ℤ) → a ≡ d → b ≡ e → c ≡ f → point_at a b c ≡ point_at d e f
point_of a b c d e f p q r = cc

-- the cutter narrowed by q, with its tip at the whole point c raised by s, holds only what the cutter holds with its tip at t over n, which is nearer to c than q in x and in y and no higher
pub inner_holds : (cutter : Cutter) (r q s n : ℤ) (p c t : Pt3) → (pos 0) ≤ℤ r → (pos 0) ≤ℤ q → (pos 0) <ℤ n → r +ℤ q ≡ radius_of cutter → IsRaise cutter q s
    → (square (n *ℤ c.x -ℤ t.x) +ℤ square (n *ℤ c.y -ℤ t.y)) ≤ℤ square (q *ℤ n) → t.z ≤ℤ (n *ℤ c.z)
    → Holds (with_radius cutter r) (pos 1) (point_at c.x c.y (c.z +ℤ s)) (pos 1) p → Holds cutter n t (pos 1) p
inner_holds cutter r q s n p c t hr hq hn sum raise near high held =
    subst (λ m. Inside cutter m (minus (times n p) (times (pos 1) t))) (sym (once n))
    (subst (λ e. Inside cutter n e) (point_of _ _ _ _ _ _ (moved_by n p.x c.x t.x) (moved_by n p.y c.y t.y) (raised_by (n *ℤ p.z -ℤ pos 1 *ℤ t.z) s n))
    (moved cutter r q s n (n *ℤ (pos 1 *ℤ p.x -ℤ pos 1 *ℤ c.x)) (n *ℤ (pos 1 *ℤ p.y -ℤ pos 1 *ℤ c.y)) ((n *ℤ p.z -ℤ pos 1 *ℤ t.z) -ℤ s *ℤ n) (n *ℤ c.x -ℤ t.x) (n *ℤ c.y -ℤ t.y)
    hr hq hn sum raise near
    (subst (λ m. Inside (with_radius cutter r) m (point_at (n *ℤ (pos 1 *ℤ p.x -ℤ pos 1 *ℤ c.x)) (n *ℤ (pos 1 *ℤ p.y -ℤ pos 1 *ℤ c.y)) ((n *ℤ p.z -ℤ pos 1 *ℤ t.z) -ℤ s *ℤ n))) (once n)
    (inside_raised (with_radius cutter r) (pos 1) n ((n *ℤ p.z -ℤ pos 1 *ℤ t.z) -ℤ s *ℤ n) (minus (times (pos 1) p) (times (pos 1) (point_at c.x c.y (c.z +ℤ s)))) hn (raised_to n p.z c.z s t.z hn high) held))))

-- no change of the radius asks for no rise, and one by 1 for a cutter's shift
pub no_raise : (cutter : Cutter) → IsCutter cutter → IsRaise cutter (pos 0) (pos 0)
no_raise (Flat r) size = omega (arith, ints)
no_raise (Ball r) size = refl
no_raise (Cone r a b) size = (from a size.1.rise, from b size.1.run, omega (arith, ints), level a b)
  where
    from : (z : ℤ) → (pos 1) ≤ℤ z → (pos 0) ≤ℤ z
    from z h = omega (arith, ints)

    level : (a b : ℤ) → (pos 0 *ℤ a) ≤ℤ (b *ℤ pos 0)
    level a b = omega (arith, ints)

rise_least : (x : ℤ) (n : ℕ) → (pos 0) ≤ℤ x → (pos 0) ≤ℤ ceil_div x n
rise_least (pos zero) n h = omega (arith, ints)
rise_least (pos (suc x)) n h = omega (arith, ints)
rise_least (negsuc x) n h = absurd (omega (arith, ints))

rise_enough : (x b : ℤ) → (pos 1) ≤ℤ b → x ≤ℤ (b *ℤ ceil_div x (nat_abs b))
rise_enough x (pos b) h = ceil_div_high x b (omega (arith, ints))
rise_enough x (negsuc b) h = absurd (omega (arith, ints))

pub raise_of : (cutter : Cutter) → IsCutter cutter → IsRaise cutter (pos 1) (shift cutter (pos 1))
raise_of (Flat r) size = omega (arith, ints)
raise_of (Ball r) size = refl
raise_of (Cone r a b) size = (from a size.1.rise, from b size.1.run, rise_least (pos 1 *ℤ a) (nat_abs b) (once_least a size.1.rise), rise_enough (pos 1 *ℤ a) b size.1.run)
  where
    from : (z : ℤ) → (pos 1) ≤ℤ z → (pos 0) ≤ℤ z
    from z h = omega (arith, ints)

    once_least : (z : ℤ) → (pos 1) ≤ℤ z → (pos 0) ≤ℤ (pos 1 *ℤ z)
    once_least z h = omega (arith, ints)

pub parts_some : (d : ℕ) → (pos 0) <ℤ pos (2 ^ d)
parts_some d = by (2 ^ d) (pow_pos d)
  where
    by : (n : ℕ) → 0 < n → (pos 0) <ℤ pos n
    by n h = omega (arith, ints)
