-- The failing leaf of a leaf, from those of its halves.
use Rattle.std.specs.Prelude.{◌≡◌, ℕ, zero, suc, ◌+◌, ◌*◌, ◌≤◌, pos, ◌≤ℤ◌, Option, None, Some, MatchOption}
use Rattle.std.proofs.Common.{inl, inr, refl, subst, sym, arith}
use Rattle.std.proofs.lemmas.Int.{ints}
use Rattle.mill_base.specs.declared.points.Tri.{Tri}
use Rattle.mill_base.specs.declared.motion.Move.{Move}
use Rattle.mill_base.specs.declared.cutter.Cutter.{Cutter}
use Rattle.mill_base.specs.declared.limits.TheConstants.{MAX_REACH, MAX_LAST_REACH}
use Rattle.mill_sweep.specs.Lifted.{IsLiftedMove}
use Rattle.mill_sweep.specs.Leaves.{depth_of, reach_of, span_of}
use Rattle.mill_sweep.specs.Halving.{Blocks, IsFree, IsFreeSpan, LeafPasses, FailsUnder, HalvingFailsAt, HalvingPasses}
use Rattle.mill_sweep.specs.declared.leaf.Leaf.{Leaf}
use Rattle.mill_sweep.specs.declared.leaf.Span.{Span}
use Rattle.mill_sweep.proofs.Narrow.{reach_at_depth}

module _ (cutter : Cutter) (move : Move) (tri : Tri) where
  small : (q : ℕ) → pos q ≤ℤ pos MAX_REACH → q ≤ MAX_REACH
  small q h = omega (arith, ints)

  small_span : (q : ℕ) → q ≤ MAX_REACH → pos q ≤ℤ pos MAX_REACH
  small_span q h = omega (arith, ints)

  -- a span of a leaf is free as the leaf is
  free_from_span : (d k : ℕ) (s : Span) → s ≡ span_of move d k → IsFreeSpan cutter s tri → IsFree cutter move tri d k
  free_from_span d k s e f = by (subst (λ t. IsFreeSpan cutter t tri) e f)
    where
      by : IsFreeSpan cutter (span_of move d k) tri → IsFree cutter move tri d k
      by (inl free) = inl (small (reach_of move d k) free.0, free.1)
      by (inr under) = inr under

  span_from_free : (d k : ℕ) (s : Span) → s ≡ span_of move d k → IsFree cutter move tri d k → IsFreeSpan cutter s tri
  span_from_free d k s e f = subst (λ t. IsFreeSpan cutter t tri) (sym e) (by f)
    where
      by : IsFree cutter move tri d k → IsFreeSpan cutter (span_of move d k) tri
      by (inl free) = inl (small_span (reach_of move d k) free.0, free.1)
      by (inr under) = inr under

  -- a free leaf passes at whatever depth it stands
  pub free_passes : (more d k : ℕ) (s : Span) → s ≡ span_of move d k → IsFreeSpan cutter s tri → LeafPasses cutter move tri more d k
  free_passes more d k s e f = by more (free_from_span d k s e f)
    where
      by : (m : ℕ) → IsFree cutter move tri d k → LeafPasses cutter move tri m d k
      by zero free = free
      by (suc rest) free = inl free

  -- one at the bottom that isn't free is blocked
  pub fails_at_bottom : (more : ℕ) (leaf : Leaf) (s : Span) → IsLiftedMove move → s ≡ span_of move leaf.d leaf.k → more ≡ 0 → leaf.d + more ≡ depth_of move
      → ¬ IsFreeSpan cutter s tri → (s.reach ≤ℤ pos MAX_REACH → Blocks cutter s tri) → FailsUnder cutter move tri more leaf.d leaf.k leaf
  fails_at_bottom more leaf s range e zero_more deep held blocked =
      let bottom : leaf.d ≡ depth_of move = omega arith in
      let narrow : reach_of move leaf.d leaf.k ≤ MAX_LAST_REACH = subst (λ d. reach_of move d leaf.k ≤ MAX_LAST_REACH) (sym bottom) (reach_at_depth move leaf.k range) in
      subst (λ m. FailsUnder cutter move tri m leaf.d leaf.k leaf) (sym zero_more) (record {
        fails = λ free. held (span_from_free leaf.d leaf.k s e free);
        leads = (refl, refl);
        blocked = subst (λ t. Blocks cutter t tri) e (blocked (rw e (small_span (reach_of move leaf.d leaf.k) (wider (reach_of move leaf.d leaf.k) narrow))));
      })
    where
      wider : (q : ℕ) → q ≤ MAX_LAST_REACH → q ≤ MAX_REACH
      wider q h = omega arith

  -- one that isn't free fails where its left half fails
  left_fails : (rest d k : ℕ) (at : Leaf) → ¬ IsFree cutter move tri d k → FailsUnder cutter move tri rest (d + 1) (2 * k) at → FailsUnder cutter move tri (suc rest) d k at
  left_fails rest d k at held left = record { fails = no; leads = inl (left.fails, left.leads); blocked = left.blocked }
    where
      no : ¬ LeafPasses cutter move tri (suc rest) d k
      no (inl free) = held free
      no (inr both) = left.fails both.0

  -- else where its right half does
  right_fails : (rest d k : ℕ) (at : Leaf) → ¬ IsFree cutter move tri d k → LeafPasses cutter move tri rest (d + 1) (2 * k) → FailsUnder cutter move tri rest (d + 1) (2 * k + 1) at
      → FailsUnder cutter move tri (suc rest) d k at
  right_fails rest d k at held left right = record { fails = no; leads = inr (left, right.leads); blocked = right.blocked }
    where
      no : ¬ LeafPasses cutter move tri (suc rest) d k
      no (inl free) = held free
      no (inr both) = right.fails both.1

  -- the same of the calls' arguments and results
  module _ (more rest : ℕ) (leaf left right : Leaf) (s : Span) (span : s ≡ span_of move leaf.d leaf.k) (held : ¬ IsFreeSpan cutter s tri) (next : more ≡ suc rest)
      (left_d : left.d ≡ leaf.d + 1) (left_k : left.k ≡ 2 * leaf.k) where
    not_free : ¬ IsFree cutter move tri leaf.d leaf.k
    not_free free = held (span_from_free leaf.d leaf.k s span free)

    pub fails_left : (at : Leaf) → FailsUnder cutter move tri rest left.d left.k at → FailsUnder cutter move tri more leaf.d leaf.k at
    fails_left at h =
        subst (λ m. FailsUnder cutter move tri m leaf.d leaf.k at) (sym next)
        (left_fails rest leaf.d leaf.k at not_free (subst (λ i. FailsUnder cutter move tri rest (leaf.d + 1) i at) left_k (subst (λ i. FailsUnder cutter move tri rest i left.k at) left_d h)))

    pub right_decides : right.d ≡ leaf.d + 1 → right.k ≡ 2 * leaf.k + 1 → LeafPasses cutter move tri rest left.d left.k → (r : Option Leaf)
        → MatchOption r (LeafPasses cutter move tri rest right.d right.k) (λ at. FailsUnder cutter move tri rest right.d right.k at)
        → MatchOption r (LeafPasses cutter move tri more leaf.d leaf.k) (λ at. FailsUnder cutter move tri more leaf.d leaf.k at)
    right_decides right_d right_k h r m = by r (subst (λ i. Decided i (2 * leaf.k + 1) r) right_d (subst (λ i. Decided right.d i r) right_k m))
      where
        Decided : ℕ → ℕ → Option Leaf → Type 0
        Decided d k r = MatchOption r (LeafPasses cutter move tri rest d k) (λ at. FailsUnder cutter move tri rest d k at)

        passed : LeafPasses cutter move tri rest (leaf.d + 1) (2 * leaf.k)
        passed = subst (λ i. LeafPasses cutter move tri rest (leaf.d + 1) i) left_k (subst (λ i. LeafPasses cutter move tri rest i left.k) left_d h)

        by : (r : Option Leaf) → Decided (leaf.d + 1) (2 * leaf.k + 1) r → MatchOption r (LeafPasses cutter move tri more leaf.d leaf.k) (λ at. FailsUnder cutter move tri more leaf.d leaf.k at)
        by None p = subst (λ m. LeafPasses cutter move tri m leaf.d leaf.k) (sym next) (inr (passed, p))
        by (Some at) f = subst (λ m. FailsUnder cutter move tri m leaf.d leaf.k at) (sym next) (right_fails rest leaf.d leaf.k at not_free passed f)

  -- the whole move's failing leaf
  pub whole_decides : (depth : ℕ) → depth ≡ depth_of move → (r : Option Leaf)
      → MatchOption r (LeafPasses cutter move tri depth 0 0) (λ at. FailsUnder cutter move tri depth 0 0 at)
      → MatchOption r (HalvingPasses cutter move tri) (λ leaf. HalvingFailsAt cutter move tri leaf × Blocks cutter (span_of move leaf.d leaf.k) tri)
  whole_decides depth e r m = by r (subst (λ n. MatchOption r (LeafPasses cutter move tri n 0 0) (λ at. FailsUnder cutter move tri n 0 0 at)) e m)
    where
      by : (r : Option Leaf) → MatchOption r (LeafPasses cutter move tri (depth_of move) 0 0) (λ at. FailsUnder cutter move tri (depth_of move) 0 0 at)
          → MatchOption r (HalvingPasses cutter move tri) (λ leaf. HalvingFailsAt cutter move tri leaf × Blocks cutter (span_of move leaf.d leaf.k) tri)
      by None p = p
      by (Some leaf) f = (record { fails = f.fails; leads = f.leads }, f.blocked)
