-- A failing leaf is as deep as the move is halved, and so its reach is at most the last reach.
use Rattle.std.specs.Prelude.{◌≡◌, ℕ, zero, suc, ◌+◌, ◌*◌, ◌^◌, ◌≤◌, max, nat_abs, ℤ, pos, ◌+ℤ◌, ◌-ℤ◌, ◌*ℤ◌, ◌<ℤ◌, ◌≤ℤ◌}
use Rattle.std.proofs.Common.{inl, inr, refl, subst, sym, arith}
use Rattle.std.proofs.lemmas.Int.{ints}
use Rattle.std.proofs.lemmas.Nat.{pow_pos}
use Rattle.mill_base.proofs.Divisions.{half_low, half_high}
use Rattle.mill_base.specs.declared.points.Tri.{Tri}
use Rattle.mill_base.specs.declared.motion.Move.{Move}
use Rattle.mill_base.specs.declared.cutter.Cutter.{Cutter}
use Rattle.mill_base.specs.declared.limits.TheConstants.{MAX_LAST_REACH}
use Rattle.mill_sweep.specs.Lifted.{IsLiftedMove}
use Rattle.mill_sweep.specs.Leaves.{depth_of, end_of, middle_of, farther_of, diagonal_of, reach_of, span_of}
use Rattle.mill_sweep.specs.Halving.{Blocks, HalvingFailsAt, IsFree, LeafPasses, LeadsTo}
use Rattle.mill_sweep.specs.declared.leaf.Leaf.{Leaf}
use Rattle.mill_sweep.proofs.Depths.{lengths_at_depth}
use Rattle.mill_sweep.proofs.LeafCerts.{near_high, near_low, near_high_last, near_low_last}
use Rattle.mill_sweep.proofs.Spans.{parts_twice, div_ceil_most}

-- the leaf to which the failing halves lead: at this depth, and not free
record Fails (cutter : Cutter) (move : Move) (tri : Tri) (bottom : ℕ) (leaf : Leaf) : Type 0 where
  deep : leaf.d ≡ bottom
  free : ¬ IsFree cutter move tri leaf.d leaf.k

leads_down : (cutter : Cutter) (move : Move) (tri : Tri) (more d k : ℕ) (leaf : Leaf) → ¬ LeafPasses cutter move tri more d k → LeadsTo cutter move tri more d k leaf
    → Fails cutter move tri (d + more) leaf
leads_down cutter move tri zero d k leaf fails leads = record {
  deep = let e = leads.0 in omega arith;
  free = λ free. fails (subst (λ i. IsFree cutter move tri d i) leads.1 (subst (λ i. IsFree cutter move tri i leaf.k) leads.0 free));
}
leads_down cutter move tri (suc more) d k leaf fails (inl left) = lifted d more (leads_down cutter move tri more (d + 1) (2 * k) leaf left.0 left.1)
  where
    lifted : (d more : ℕ) → Fails cutter move tri (d + 1 + more) leaf → Fails cutter move tri (d + suc more) leaf
    lifted d more f = record { deep = let e = f.deep in omega arith; free = f.free }
leads_down cutter move tri (suc more) d k leaf fails (inr right) =
    lifted d more (leads_down cutter move tri more (d + 1) (2 * k + 1) leaf (λ passes. fails (inr (right.0, passes))) right.1)
  where
    lifted : (d more : ℕ) → Fails cutter move tri (d + 1 + more) leaf → Fails cutter move tri (d + suc more) leaf
    lifted d more f = record { deep = let e = f.deep in omega arith; free = f.free }

-- the two ends of a leaf, and its middle, where the move is at most as long as there are parts
module _ (f t : ℤ) (d k : ℕ) (short : nat_abs (t -ℤ f) ≤ 2 ^ d) where
  halved : (pos 2 *ℤ ((pos 2 *ℤ pos (2 ^ d)) *ℤ middle_of f t d k)) ≤ℤ (pos 2 *ℤ (end_of f t d k +ℤ end_of f t d (k + 1)) +ℤ pos 2 *ℤ pos (2 ^ d))
  halved =
      subst (λ n. (pos 2 *ℤ (pos n *ℤ middle_of f t d k)) ≤ℤ (pos 2 *ℤ (end_of f t d k +ℤ end_of f t d (k + 1)) +ℤ pos n)) (parts_twice d)
      (half_low (end_of f t d k +ℤ end_of f t d (k + 1)) (2 ^ (d + 1)) (pow_pos (d + 1)))

  halved_up : (pos 2 *ℤ (end_of f t d k +ℤ end_of f t d (k + 1))) <ℤ (pos 2 *ℤ ((pos 2 *ℤ pos (2 ^ d)) *ℤ middle_of f t d k) +ℤ pos 2 *ℤ pos (2 ^ d))
  halved_up =
      subst (λ n. (pos 2 *ℤ (end_of f t d k +ℤ end_of f t d (k + 1))) <ℤ (pos 2 *ℤ (pos n *ℤ middle_of f t d k) +ℤ pos n)) (parts_twice d)
      (half_high (end_of f t d k +ℤ end_of f t d (k + 1)) (2 ^ (d + 1)) (pow_pos (d + 1)))

  -- the farther end is at most 1 from the middle
  pub farther_most : farther_of f t d k ≤ 1
  farther_most =
      div_ceil_most _ (2 ^ d) 1 (pow_pos d) (joined
      (near_high (pos (2 ^ d)) (pos k) f t (middle_of f t d k) halved_up (omega (arith, ints)))
      (near_low (pos (2 ^ d)) (pos k) f t (middle_of f t d k) halved (omega (arith, ints)))
      (near_high_last (pos (2 ^ d)) (pos k) f t (middle_of f t d k) halved_up (omega (arith, ints)))
      (near_low_last (pos (2 ^ d)) (pos k) f t (middle_of f t d k) halved (omega (arith, ints))))
    where
      joined : {a b : ℤ} {n : ℕ} → a ≤ℤ pos n → (pos 0 -ℤ a) ≤ℤ pos n → b ≤ℤ pos n → (pos 0 -ℤ b) ≤ℤ pos n → max (nat_abs a) (nat_abs b) ≤ 1 * n
      joined {a} {b} {n} p q r s =
          let first : nat_abs a ≤ n = omega (arith, ints) in
          let last : nat_abs b ≤ n = omega (arith, ints) in
          omega arith

-- the diagonal of at most 1 and 1 is at most 2
diagonal_most : (ex ey : ℕ) → ex ≤ 1 → ey ≤ 1 → diagonal_of ex ey ≤ 2
diagonal_most zero zero h k = let e : diagonal_of 0 0 ≡ 0 = refl in omega arith
diagonal_most zero (suc zero) h k = let e : diagonal_of 0 1 ≡ 1 = refl in omega arith
diagonal_most (suc zero) zero h k = let e : diagonal_of 1 0 ≡ 1 = refl in omega arith
diagonal_most (suc zero) (suc zero) h k = let e : diagonal_of 1 1 ≡ 2 = refl in omega arith
diagonal_most (suc (suc x)) y h k = absurd (omega arith)
diagonal_most x (suc (suc y)) h k = absurd (omega arith)

-- at the depth a leaf's reach is at most the last
pub reach_at_depth : (move : Move) (k : ℕ) → IsLiftedMove move → reach_of move (depth_of move) k ≤ MAX_LAST_REACH
reach_at_depth move k range =
    let lengths = lengths_at_depth move range in
    diagonal_most _ _ (farther_most move.from.x move.to.x (depth_of move) k lengths.0) (farther_most move.from.y move.to.y (depth_of move) k lengths.1)

pub lifted_is_blocked : (cutter : Cutter) (move : Move) (tri : Tri) (leaf : Leaf) → IsLiftedMove move → HalvingFailsAt cutter move tri leaf
    → (reach_of move leaf.d leaf.k ≤ MAX_LAST_REACH) × (¬ (¬ Blocks cutter (span_of move leaf.d leaf.k) tri))
lifted_is_blocked cutter move tri leaf range h =
    let fails = leads_down cutter move tri (depth_of move) 0 0 leaf h.fails h.leads in
    let narrow : reach_of move leaf.d leaf.k ≤ MAX_LAST_REACH = subst (λ d. reach_of move d leaf.k ≤ MAX_LAST_REACH) (sym (bottom fails.deep)) (reach_at_depth move leaf.k range) in
    (narrow, λ unblocked. fails.free (inl (omega arith, unblocked)))
  where
    bottom : leaf.d ≡ 0 + depth_of move → leaf.d ≡ depth_of move
    bottom e = omega arith
