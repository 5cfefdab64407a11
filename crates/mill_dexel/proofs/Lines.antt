-- A move that passes a line of points at one height passes each point at or under it.
use Rattle.std.proofs.Common.{◌≡◌, inl, inr, ℕ, zero, suc, ◌+◌, ◌*◌, sym, subst, ap, ◌∙◌, arith}
use Rattle.std.specs.Prelude.{ℤ, pos, ◌+ℤ◌, ◌-ℤ◌, ◌*ℤ◌, ◌<ℤ◌, ◌≤ℤ◌}
use Rattle.std.proofs.lemmas.Int.{ints}
use Rattle.mill_base.proofs.Exit.{split_lt}
use Rattle.mill_base.specs.Numbers.{greater}
use Rattle.mill_base.specs.Points.{IsPointOf, plus, minus, times, point_at, point_tri, highest}
use Rattle.mill_base.specs.Cutters.{Inside}
use Rattle.mill_base.specs.Contact.{Touches}
use Rattle.mill_base.specs.Sizes.{outer, radius_of}
use Rattle.mill_base.specs.declared.points.Pt3.{Pt3}
use Rattle.mill_base.specs.declared.points.Tri.{Tri}
use Rattle.mill_base.specs.declared.motion.Kind.{Kind}
use Rattle.mill_base.specs.declared.motion.Kind.TheVariants.{Rapid, Feed, Dogleg}
use Rattle.mill_base.specs.declared.motion.Move.{Move}
use Rattle.mill_base.specs.declared.cutter.Cutter.{Cutter}
use Rattle.mill_shape.proofs.Over.{inside_raised}
use Rattle.mill_job.specs.Jobs.{IsFrom}
use Rattle.mill_sweep.specs.Leaves.{depth_of, span_of, outer_tip}
use Rattle.mill_sweep.specs.Halving.{Blocks, HalvingPasses, IsFree, LeafPasses}
use Rattle.mill_sweep.specs.Passing.{BoxPasses, Passes, PassesBy, PassesPoint}
use Rattle.mill_sweep.specs.Apart.{LieApart}
use Rattle.mill_sweep.specs.declared.leaf.Span.{Span}
use Rattle.mill_base.proofs.Extremes.{greater_left, greater_least}
use Rattle.mill_dexel.proofs.LineCerts.{line_mean, line_end, line_some, line_part, line_weights, line_times, line_parts, line_level, line_offset, line_denominator, line_height}

-- the points from x0 to x1 at y, all at one height, as a flat triangle
abbrev pub line_of : ℤ → ℤ → ℤ → ℤ → Tri
line_of x0 x1 y top = record { a = point_at x0 y top; b = point_at x1 y top; c = point_at x1 y top }

-- x as a mean of x0 and x1
record IsMean (x0 x1 x : ℤ) : Type 0 where
  a : ℤ
  b : ℤ
  a_ok : (pos 0) ≤ℤ a
  b_ok : (pos 0) ≤ℤ b
  some : (pos 0) <ℤ (a +ℤ b)
  mean : ((a *ℤ x0) +ℤ (b *ℤ x1)) ≡ ((a +ℤ b) *ℤ x)

mean_of : (x0 x1 x : ℤ) → IsFrom x0 x1 x → IsMean x0 x1 x
mean_of x0 x1 x across = elim (split_lt x0 x1) [
  | inl wide ↦ record { a = x1 -ℤ x; b = x -ℤ x0; a_ok = rest x x1 across.high; b_ok = rest x0 x across.low; some = apart x0 x x1 wide; mean = line_mean x0 x1 x }
  | inr narrow ↦ record { a = pos 1; b = pos 0; a_ok = omega (arith, ints); b_ok = omega (arith, ints); some = omega (arith, ints); mean = line_end x0 x1 ∙ ap (λ (v : ℤ). (pos 1 +ℤ pos 0) *ℤ v) (same x0 x x1 across.low across.high narrow) }
]
  where
    rest : (p q : ℤ) → p ≤ℤ q → (pos 0) ≤ℤ (q -ℤ p)
    rest p q h = omega (arith, ints)

    apart : (p q r : ℤ) → p <ℤ r → (pos 0) <ℤ ((r -ℤ q) +ℤ (q -ℤ p))
    apart p q r h = omega (arith, ints)

    same : (p q r : ℤ) → p ≤ℤ q → q ≤ℤ r → r ≤ℤ p → p ≡ q
    same p q r h k l = omega (arith, ints)

pub same_point : {a b c x y z : ℤ} → a ≡ x → b ≡ y → c ≡ z → point_at a b c ≡ point_at x y z
same_point {a} {b} {c} {x} {y} {z} e f g = ap (λ (v : ℤ). point_at v b c) e ∙ ap (λ (v : ℤ). point_at x v c) f ∙ ap (λ (v : ℤ). point_at x y v) g

-- the point of the line over (x, y), over the denominator (a + b) * n
on_line : (x0 x1 y top x n : ℤ) → (m : IsMean x0 x1 x) → (pos 0) <ℤ n
    → IsPointOf (line_of x0 x1 y top) ((m.a +ℤ m.b) *ℤ n) (point_at (((m.a +ℤ m.b) *ℤ n) *ℤ x) (((m.a +ℤ m.b) *ℤ n) *ℤ y) (((m.a +ℤ m.b) *ℤ n) *ℤ top))
on_line x0 x1 y top x n m some = record {
  u = n *ℤ m.a;
  v = n *ℤ m.b;
  w = pos 0;
  u_ok = line_part n m.a some m.a_ok;
  v_ok = line_part n m.b some m.b_ok;
  w_ok = omega (arith, ints);
  some = line_some m.a m.b n m.some some;
  weights = line_weights n m.a m.b;
  place = same_point
      (line_times n m.a m.b x ∙ ap (λ (v : ℤ). n *ℤ v) (sym m.mean) ∙ line_parts n m.a m.b x0 x1)
      (line_level n m.a m.b y)
      (line_level n m.a m.b top);
}

inside_at : (cutter : Cutter) {n o x p y q : ℤ} (z : ℤ) → n ≡ o → x ≡ p → y ≡ q → Inside cutter n (point_at x y z) → Inside cutter o (point_at p q z)
inside_at cutter {n} {o} {x} {p} {y} {q} z a b c i =
    subst (λ (v : ℤ). Inside cutter v (point_at p q z)) a (subst (λ (v : ℤ). Inside cutter n (point_at v q z)) b (subst (λ (v : ℤ). Inside cutter n (point_at x v z)) c i))

-- where a cutter holds a multiple of a whole point, it holds the points over it
held_over : (cutter : Cutter) (tip : Pt3) (x y z top k u v w : ℤ) → (pos 0) <ℤ k → (pos 0) <ℤ ((u +ℤ v) +ℤ w) → z ≤ℤ top
    → Inside cutter (pos 1 *ℤ ((u +ℤ v) +ℤ w)) (point_at
    ((pos 1 *ℤ (((u *ℤ x) +ℤ (v *ℤ x)) +ℤ (w *ℤ x))) -ℤ (((u +ℤ v) +ℤ w) *ℤ tip.x))
    ((pos 1 *ℤ (((u *ℤ y) +ℤ (v *ℤ y)) +ℤ (w *ℤ y))) -ℤ (((u +ℤ v) +ℤ w) *ℤ tip.y))
    ((pos 1 *ℤ (((u *ℤ z) +ℤ (v *ℤ z)) +ℤ (w *ℤ z))) -ℤ (((u +ℤ v) +ℤ w) *ℤ tip.z)))
    → Inside cutter (pos 1 *ℤ (k *ℤ ((u +ℤ v) +ℤ w))) (point_at
    ((pos 1 *ℤ ((k *ℤ ((u +ℤ v) +ℤ w)) *ℤ x)) -ℤ ((k *ℤ ((u +ℤ v) +ℤ w)) *ℤ tip.x))
    ((pos 1 *ℤ ((k *ℤ ((u +ℤ v) +ℤ w)) *ℤ y)) -ℤ ((k *ℤ ((u +ℤ v) +ℤ w)) *ℤ tip.y))
    ((pos 1 *ℤ ((k *ℤ ((u +ℤ v) +ℤ w)) *ℤ top)) -ℤ ((k *ℤ ((u +ℤ v) +ℤ w)) *ℤ tip.z)))
held_over cutter tip x y z top k u v w some n_some under held =
    inside_at cutter _ (line_denominator k ((u +ℤ v) +ℤ w)) (line_offset k u v w x tip.x) (line_offset k u v w y tip.y)
    (inside_raised cutter (pos 1 *ℤ ((u +ℤ v) +ℤ w)) k ((pos 1 *ℤ ((k *ℤ ((u +ℤ v) +ℤ w)) *ℤ top)) -ℤ ((k *ℤ ((u +ℤ v) +ℤ w)) *ℤ tip.z)) _ some (line_height k u v w z tip.z top some n_some under) held)

-- a cutter that touches the point touches the line over it
module _ (cutter : Cutter) (tip : Pt3) (x0 x1 y top x z : ℤ) (across : IsFrom x0 x1 x) (under : z ≤ℤ top) where
  touched : Touches cutter (pos 1) tip (point_tri (point_at x y z)) → Touches cutter (pos 1) tip (line_of x0 x1 y top)
  touched t =
      let m = mean_of x0 x1 x across in
      let n_some : (pos 0) <ℤ ((t.point.u +ℤ t.point.v) +ℤ t.point.w) = subst (λ (n : ℤ). (pos 0) <ℤ n) t.point.weights t.point.some in
      let at_place = subst (λ (q : Pt3). Inside cutter (pos 1 *ℤ t.n) (minus (times (pos 1) q) (times t.n tip))) t.point.place t.inside in
      let held = subst (λ (n : ℤ). Inside cutter (pos 1 *ℤ n) (minus (times (pos 1) (plus (plus (times t.point.u (point_at x y z)) (times t.point.v (point_at x y z))) (times t.point.w (point_at x y z)))) (times n tip))) t.point.weights at_place in
      record {
        n = (m.a +ℤ m.b) *ℤ ((t.point.u +ℤ t.point.v) +ℤ t.point.w);
        p = _;
        point = on_line x0 x1 y top x ((t.point.u +ℤ t.point.v) +ℤ t.point.w) m n_some;
        inside = held_over cutter tip x y z top (m.a +ℤ m.b) t.point.u t.point.v t.point.w m.some n_some under held;
      }

-- so what blocks the point blocks the line
module _ (cutter : Cutter) (m : Move) (x0 x1 y top x z : ℤ) (across : IsFrom x0 x1 x) (under : z ≤ℤ top) where
  lower : highest (point_tri (point_at x y z)) ≤ℤ highest (line_of x0 x1 y top)
  lower = between z (greater z (greater z z)) top (greater top (greater top top)) (greater_least z (greater z z) z (at_most z) (greater_least z z z (at_most z) (at_most z))) under (greater_left top (greater top top))
    where
      at_most : (a : ℤ) → a ≤ℤ a
      at_most a = omega (arith, ints)

      between : (a b c d : ℤ) → b ≤ℤ a → a ≤ℤ c → c ≤ℤ d → b ≤ℤ d
      between a b c d h k l = omega (arith, ints)

  blocked : (s : Span) → Blocks cutter s (point_tri (point_at x y z)) → Blocks cutter s (line_of x0 x1 y top)
  blocked s blocks = record {
    over = higher s.zlow (highest (point_tri (point_at x y z))) (highest (line_of x0 x1 y top)) blocks.over lower;
    touches = touched (outer cutter s.reach) (outer_tip cutter s) x0 x1 y top x z across under blocks.touches;
  }
    where
      higher : (a b c : ℤ) → a <ℤ b → b ≤ℤ c → a <ℤ c
      higher a b c h k = omega (arith, ints)

  free : (d k : ℕ) → IsFree cutter m (line_of x0 x1 y top) d k → IsFree cutter m (point_tri (point_at x y z)) d k
  free d k (inl clear) = inl (clear.0, λ blocks. clear.1 (blocked (span_of m d k) blocks))
  free d k (inr high) = inr (most (highest (point_tri (point_at x y z))) (highest (line_of x0 x1 y top)) _ lower high)
    where
      most : (a b c : ℤ) → a ≤ℤ b → b ≤ℤ c → a ≤ℤ c
      most a b c h k = omega (arith, ints)

  leaf_passes : (more d k : ℕ) → LeafPasses cutter m (line_of x0 x1 y top) more d k → LeafPasses cutter m (point_tri (point_at x y z)) more d k
  leaf_passes zero d k passes = free d k passes
  leaf_passes (suc more) d k (inl passes) = inl (free d k passes)
  leaf_passes (suc more) d k (inr halves) = inr (leaf_passes more (d + 1) (2 * k) halves.0, leaf_passes more (d + 1) (2 * k + 1) halves.1)

  halving_passes : HalvingPasses cutter m (line_of x0 x1 y top) → HalvingPasses cutter m (point_tri (point_at x y z))
  halving_passes passes = leaf_passes (depth_of m) 0 0 passes

  -- what lies beside the line's two ends lies beside each point of it
  beside : (r f t : ℤ) → LieApart r f t x0 x1 x1 → LieApart r f t x x x
  beside r f t (inl over) = inl (record { a_e = east f over.a_e; b_e = east f over.a_e; c_e = east f over.a_e; a_f = east t over.a_f; b_f = east t over.a_f; c_f = east t over.a_f })
    where
      more : (e a b : ℤ) → a ≤ℤ b → (e +ℤ r) ≤ℤ a → (e +ℤ r) ≤ℤ b
      more e a b h k = omega (arith, ints)

      east : (e : ℤ) → (e +ℤ r) ≤ℤ x0 → (e +ℤ r) ≤ℤ x
      east e h = more e x0 x across.low h
  beside r f t (inr under) = inr (record { a_e = west f under.b_e; b_e = west f under.b_e; c_e = west f under.b_e; a_f = west t under.b_f; b_f = west t under.b_f; c_f = west t under.b_f })
    where
      less : (e a b : ℤ) → b ≤ℤ a → (a +ℤ r) ≤ℤ e → (b +ℤ r) ≤ℤ e
      less e a b h k = omega (arith, ints)

      west : (e : ℤ) → (x1 +ℤ r) ≤ℤ e → (x +ℤ r) ≤ℤ e
      west e h = less e x1 x across.high h

  box_passes : BoxPasses cutter m (line_of x0 x1 y top) → BoxPasses cutter m (point_tri (point_at x y z))
  box_passes (inl low) = inl (most (highest (point_tri (point_at x y z))) (highest (line_of x0 x1 y top)) _ lower low)
    where
      most : (a b c : ℤ) → a ≤ℤ b → b ≤ℤ c → a ≤ℤ c
      most a b c h k = omega (arith, ints)
  box_passes (inr (inl far)) = inr (inl (beside (radius_of cutter) m.from.x m.to.x far))
  box_passes (inr (inr far)) = inr (inr far)

  pub line_passes : Passes cutter m (line_of x0 x1 y top) → PassesPoint cutter m (point_at x y z)
  line_passes = by m.kind
    where
      by : (kind : Kind) → PassesBy kind cutter m (line_of x0 x1 y top) → PassesBy kind cutter m (point_tri (point_at x y z))
      by Rapid passes = halving_passes passes
      by Feed passes = halving_passes passes
      by Dogleg passes = box_passes passes
