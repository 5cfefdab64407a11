-- A leaf passes a triangle that lies far beside it along one axis, at whatever depth the leaf stands.
use Rattle.std.specs.Prelude.{ℕ, ◌+◌, ◌*◌, ◌^◌, ◌<◌, ◌≤◌, ◌⊎◌, ℤ, pos, ◌+ℤ◌, ◌-ℤ◌, ◌*ℤ◌, ◌≤ℤ◌}
use Rattle.std.proofs.Common.{◌≡◌, inl, inr, arith}
use Rattle.std.proofs.Math.Nat.{mul-le-mul}
use Rattle.std.proofs.lemmas.Bool.{cases_lt}
use Rattle.std.proofs.lemmas.Int.{ints}
use Rattle.mill_base.specs.Sizes.{IsCutter, radius_of}
use Rattle.mill_base.specs.declared.points.Tri.{Tri}
use Rattle.mill_base.specs.declared.motion.Move.{Move}
use Rattle.mill_base.specs.declared.cutter.Cutter.{Cutter}
use Rattle.mill_base.specs.declared.limits.TheConstants.{MAX_LAST_REACH}
use Rattle.mill_sweep.specs.Lifted.{IsLiftedMove}
use Rattle.mill_sweep.specs.Leaves.{depth_of, end_of, middle_of, farther_of, diagonal_of}
use Rattle.mill_sweep.specs.Halving.{LeafPasses}
use Rattle.mill_sweep.specs.Apart.{LieApart}
use Rattle.mill_sweep.proofs.Far.{IsBeside, middle_under, middle_over, far_leaf}
use Rattle.mill_sweep.proofs.LeafCerts.{half_least, half_most, joint_least, joint_most, end_of_half_least, end_of_half_most, end_near_least, end_near_most}
use Rattle.mill_sweep.proofs.Spans.{parts_twice, diagonal_root, ends_near}
use Rattle.mill_sweep.specs.Widths.{longest}

-- both ends of a leaf along one axis lie from low to high, over the parts
record EndsFrom (low high f t : ℤ) (d k : ℕ) : Type 0 where
  first_least : (pos (2 ^ d) *ℤ low) ≤ℤ end_of f t d k
  first_most : end_of f t d k ≤ℤ (pos (2 ^ d) *ℤ high)
  last_least : (pos (2 ^ d) *ℤ low) ≤ℤ end_of f t d (k + 1)
  last_most : end_of f t d (k + 1) ≤ℤ (pos (2 ^ d) *ℤ high)

-- and so do those of its halves
module _ (low high f t : ℤ) (d k : ℕ) (e : EndsFrom low high f t d k) where
  left_ends : EndsFrom low high f t (d + 1) (2 * k)
  left_ends = record {
    first_least = rw (parts_twice d) (half_least (pos (2 ^ d)) (pos k) f t low e.first_least);
    first_most = rw (parts_twice d) (half_most (pos (2 ^ d)) (pos k) f t high e.first_most);
    last_least = rw (parts_twice d) (joint_least (pos (2 ^ d)) (pos k) f t low e.first_least e.last_least);
    last_most = rw (parts_twice d) (joint_most (pos (2 ^ d)) (pos k) f t high e.first_most e.last_most);
  }

  right_ends : EndsFrom low high f t (d + 1) (2 * k + 1)
  right_ends = record {
    first_least = rw (parts_twice d) (joint_least (pos (2 ^ d)) (pos k) f t low e.first_least e.last_least);
    first_most = rw (parts_twice d) (joint_most (pos (2 ^ d)) (pos k) f t high e.first_most e.last_most);
    last_least = rw (parts_twice d) (end_of_half_least (pos (2 ^ d)) (pos k) f t low e.last_least);
    last_most = rw (parts_twice d) (end_of_half_most (pos (2 ^ d)) (pos k) f t high e.last_most);
  }

-- numbers that are far from x are far from m, which is near to x
nearer : (r q x m a b c : ℤ) → (x -ℤ q) ≤ℤ m → m ≤ℤ (x +ℤ q) → LieApart (r +ℤ q) x x a b c → LieApart r m m a b c
nearer r q x m a b c low high (inl over) = inl (record {
  a_e = up a over.a_e;
  b_e = up b over.b_e;
  c_e = up c over.c_e;
  a_f = up a over.a_e;
  b_f = up b over.b_e;
  c_f = up c over.c_e;
})
  where
    up : (y : ℤ) → (x +ℤ (r +ℤ q)) ≤ℤ y → (m +ℤ r) ≤ℤ y
    up y h = omega (arith, ints)
nearer r q x m a b c low high (inr under) = inr (record {
  a_e = down a under.a_e;
  b_e = down b under.b_e;
  c_e = down c under.c_e;
  a_f = down a under.a_e;
  b_f = down b under.b_e;
  c_f = down c under.c_e;
})
  where
    down : (y : ℤ) → (y +ℤ (r +ℤ q)) ≤ℤ x → (y +ℤ r) ≤ℤ m
    down y h = omega (arith, ints)

-- a side is at most the diagonal
pub side_most : (ex ey : ℕ) → ex ≤ longest → ey ≤ longest → (ex ≤ diagonal_of ex ey) × (ey ≤ diagonal_of ex ey)
side_most ex ey hx hy =
    let reaches = (diagonal_root ex ey hx hy).reaches in
    (root ex (diagonal_of ex ey) (ey * ey) reaches (cases_lt (diagonal_of ex ey) ex), root ey (diagonal_of ex ey) (ex * ex) (omega arith) (cases_lt (diagonal_of ex ey) ey))
  where
    root : (s r o : ℕ) → s * s + o ≤ r * r → (r < s) ⊎ (s ≤ r) → s ≤ r
    root s r o h (inl less) = absurd (let up : (r + 1) * (r + 1) ≤ s * s = mul-le-mul (omega arith) (omega arith) in omega arith)
    root s r o h (inr more) = more

-- the ends of a leaf along one axis are at most the farther's distance from its middle
reached : (f t : ℤ) (d k : ℕ) → EndsFrom (middle_of f t d k -ℤ pos (farther_of f t d k)) (middle_of f t d k +ℤ pos (farther_of f t d k)) f t d k
reached f t d k =
    let near = ends_near f t d k in
    let n : (pos 0) ≤ℤ pos (2 ^ d) = omega (arith, ints) in
    let q = pos (farther_of f t d k) in
    let e : q ≤ℤ q = omega (arith, ints) in
    record {
      first_least = end_near_least (pos (2 ^ d)) (middle_of f t d k) q q (end_of f t d k) n e near.first_below;
      first_most = end_near_most (pos (2 ^ d)) (middle_of f t d k) q q (end_of f t d k) n e near.first_above;
      last_least = end_near_least (pos (2 ^ d)) (middle_of f t d k) q q (end_of f t d (k + 1)) n e near.last_below;
      last_most = end_near_most (pos (2 ^ d)) (middle_of f t d k) q q (end_of f t d (k + 1)) n e near.last_above;
    }

-- a leaf passes, where the triangle is at least the radius and the last reach away from both its ends along one axis
module _ (cutter : Cutter) (move : Move) (tri : Tri) (more d k : ℕ) (cutter_ok : IsCutter cutter) (range : IsLiftedMove move) (deep : d + more ≡ depth_of move) where
  along : (f t a b c : ℤ)
      → ((i j : ℕ) → LieApart (radius_of cutter +ℤ pos MAX_LAST_REACH) (middle_of f t i j) (middle_of f t i j) a b c → IsBeside (radius_of cutter +ℤ pos MAX_LAST_REACH) move tri i j)
      → LieApart ((radius_of cutter +ℤ pos MAX_LAST_REACH) +ℤ pos (farther_of f t d k)) (middle_of f t d k) (middle_of f t d k) a b c → LeafPasses cutter move tri more d k
  along f t a b c beside h =
      let q = pos (farther_of f t d k) in
      let x = middle_of f t d k in
      far_leaf cutter move tri (λ i j. EndsFrom (x -ℤ q) (x +ℤ q) f t i j) (left_ends (x -ℤ q) (x +ℤ q) f t) (right_ends (x -ℤ q) (x +ℤ q) f t)
      (λ i j e. beside i j (nearer (radius_of cutter +ℤ pos MAX_LAST_REACH) q x (middle_of f t i j) a b c (middle_over f t (x -ℤ q) i j e.first_least e.last_least) (middle_under f t (x +ℤ q) i j e.first_most e.last_most) h))
      cutter_ok range more d k deep (reached f t d k)

  pub beside_x_passes : LieApart ((radius_of cutter +ℤ pos MAX_LAST_REACH) +ℤ pos (farther_of move.from.x move.to.x d k)) (middle_of move.from.x move.to.x d k) (middle_of move.from.x move.to.x d k) tri.a.x tri.b.x tri.c.x
      → LeafPasses cutter move tri more d k
  beside_x_passes = along move.from.x move.to.x tri.a.x tri.b.x tri.c.x (λ i j far. inl far)

  pub beside_y_passes : LieApart ((radius_of cutter +ℤ pos MAX_LAST_REACH) +ℤ pos (farther_of move.from.y move.to.y d k)) (middle_of move.from.y move.to.y d k) (middle_of move.from.y move.to.y d k) tri.a.y tri.b.y tri.c.y
      → LeafPasses cutter move tri more d k
  beside_y_passes = along move.from.y move.to.y tri.a.y tri.b.y tri.c.y (λ i j far. inr far)
