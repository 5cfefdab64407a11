-- A move that passes a point passes each lower one of its column, and so removes none of them.
use Rattle.std.specs.Prelude.{◌≡◌, ℕ, zero, suc, ◌+◌, ◌*◌, ℤ, pos, ◌-ℤ◌, ◌*ℤ◌, ◌<ℤ◌, ◌≤ℤ◌, int_lt, Bool, true, false, cond}
use Rattle.std.proofs.Common.{inl, inr, refl, subst, arith}
use Rattle.std.proofs.lemmas.Int.{ints}
use Rattle.mill_base.proofs.Exit.{split_lt}
use Rattle.mill_base.specs.Numbers.{greater}
use Rattle.mill_base.specs.Points.{highest, plus, times, point_at, point_tri}
use Rattle.mill_base.specs.Cutters.{Inside, apart}
use Rattle.mill_base.specs.Contact.{Holds}
use Rattle.mill_base.specs.declared.points.Pt3.{Pt3}
use Rattle.mill_base.specs.declared.motion.Move.{Move}
use Rattle.mill_base.specs.declared.cutter.Cutter.{Cutter}
use Rattle.mill_base.specs.declared.cutter.Cutter.TheVariants.{Flat, Ball, Cone}
use Rattle.mill_sweep.specs.Halving.{Blocks, IsFree, LeafPasses}
use Rattle.mill_sweep.specs.declared.leaf.Span.{Span}
use Rattle.mill_sweep.proofs.LeafCerts.{mean_rises, ball_rises, cone_rises}

up : (a b c : ℤ) → a ≤ℤ b → b ≤ℤ c → a ≤ℤ c
up a b c p q = omega (arith, ints)

over_up : (a b : ℤ) → (pos 0) <ℤ a → a ≤ℤ b → (pos 0) <ℤ b
over_up a b p q = omega (arith, ints)

-- what is inside a cutter stays inside when it is raised
pub inside_rises : (cutter : Cutter) (n : ℤ) (d : Pt3) (z : ℤ) → d.z ≤ℤ z → Inside cutter n d → Inside cutter n (point_at d.x d.y z)
inside_rises (Flat r) n d z h i = record { near = i.near; over = over_up d.z z i.over h }
inside_rises (Ball r) n d z h i = record {
  near = i.near;
  over = elim i.over [
    | inl high ↦ inl (up (r *ℤ n) d.z z high h)
    | inr deep ↦ elim (split_lt z (r *ℤ n)) [
      | inl under ↦ inr (ball_rises (apart d) d.z z (r *ℤ n) _ deep h under)
      | inr over ↦ inl over
    ]
  ];
}
inside_rises (Cone r a b) n d z h i = record { near = i.near; over = over_up d.z z i.over h; steep = cone_rises _ b d.z z i.steep i.over h }

-- the highest corner of a point is the point
pub highest_point : (p : Pt3) → highest (point_tri p) ≡ p.z
highest_point p = same (int_lt p.z p.z) (int_lt p.z (greater p.z p.z))
  where
    same : (s t : Bool) → cond t (cond s p.z p.z) p.z ≡ p.z
    same true true = refl
    same true false = refl
    same false true = refl
    same false false = refl

module _ (x y t h : ℤ) (low : h ≤ℤ t) where
  -- what blocks at the lower point blocks at the higher one
  blocks_rises : (cutter : Cutter) (s : Span) → Blocks cutter s (point_tri (point_at x y h)) → Blocks cutter s (point_tri (point_at x y t))
  blocks_rises cutter s b =
      let p = b.touches.point in
      record {
        over = rw (highest_point (point_at x y t)) (under (s.zlow) (rw (highest_point (point_at x y h)) at b.over));
        touches = record {
          n = b.touches.n;
          p = plus (plus (times p.u (point_at x y t)) (times p.v (point_at x y t))) (times p.w (point_at x y t));
          point = record { u = p.u; v = p.v; w = p.w; u_ok = p.u_ok; v_ok = p.v_ok; w_ok = p.w_ok; some = p.some; weights = p.weights; place = refl };
          inside = inside_rises _ _ _ _ (shifted _ _ _ (mean_rises p.u p.v p.w h t p.u_ok p.v_ok p.w_ok low)) (subst (λ q. Holds _ (pos 1) _ b.touches.n q) p.place b.touches.inside);
        };
      }
    where
      under : (z : ℤ) → z <ℤ h → z <ℤ t
      under z l = omega (arith, ints)

      shifted : (a b c : ℤ) → a ≤ℤ b → (pos 1 *ℤ a -ℤ c) ≤ℤ (pos 1 *ℤ b -ℤ c)
      shifted a b c l = omega (arith, ints)

  free_lower : (cutter : Cutter) (move : Move) (d k : ℕ) → IsFree cutter move (point_tri (point_at x y t)) d k → IsFree cutter move (point_tri (point_at x y h)) d k
  free_lower cutter move d k (inl free) = inl (free.0, λ blocks. free.1 (blocks_rises cutter _ blocks))
  free_lower cutter move d k (inr under) = inr (rw (highest_point (point_at x y h)) (up h t _ low (rw (highest_point (point_at x y t)) at under)))

  pub passes_lower : (cutter : Cutter) (move : Move) (more d k : ℕ) → LeafPasses cutter move (point_tri (point_at x y t)) more d k → LeafPasses cutter move (point_tri (point_at x y h)) more d k
  passes_lower cutter move zero d k free = free_lower cutter move d k free
  passes_lower cutter move (suc more) d k (inl free) = inl (free_lower cutter move d k free)
  passes_lower cutter move (suc more) d k (inr both) = inr (passes_lower cutter move more (d + 1) (2 * k) both.0, passes_lower cutter move more (d + 1) (2 * k + 1) both.1)
