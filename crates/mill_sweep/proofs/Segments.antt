-- What is so of a leaf by its stretches in x and in y and by its lower end is so of the leaf.
use Rattle.std.specs.Prelude.{◌≡◌, ℕ, ◌^◌, ◌<◌, ℤ, pos, ◌+ℤ◌, ◌-ℤ◌, ◌≤ℤ◌}
use Rattle.std.proofs.Common.{inr, refl, ap, sym, subst, ◌∙◌, arith, w32}
use Rattle.std.proofs.lemmas.Int.{ints}
use Rattle.mill_base.proofs.Machine.{kept, stored}
use Rattle.mill_base.specs.Points.{highest}
use Rattle.mill_base.specs.Sizes.{IsCutter, radius_of}
use Rattle.mill_base.specs.declared.points.Tri.{Tri}
use Rattle.mill_base.specs.declared.motion.Move.{Move}
use Rattle.mill_base.specs.declared.cutter.Cutter.{Cutter}
use Rattle.mill_base.specs.declared.limits.TheConstants.{LOWEST_LIFT, MAX_COORDINATE, MAX_LAST_REACH}
use Rattle.mill_sweep.specs.Lifted.{IsLiftedMove, IsTipHeight}
use Rattle.mill_sweep.specs.Apart.{LieApart}
use Rattle.mill_sweep.specs.Leaves.{span_of, lower_of, zlow_of, farther_of, diagonal_of, reach_of}
use Rattle.mill_sweep.specs.Halving.{IsFreeSpan, IsSpan}
use Rattle.mill_sweep.specs.Sweeps.{IsPrepared, IsStretchOf, PassesDown, span_at}
use Rattle.mill_sweep.specs.declared.leaf.Span.{Span}
use Rattle.mill_sweep.specs.declared.leaf_span.Stretch.{Stretch}
use Rattle.mill_sweep.specs.declared.sweep.Prepared.{Prepared}
use Rattle.mill_sweep.proofs.Besides.{beside_x_passes, beside_y_passes}
use Rattle.mill_sweep.proofs.Far.{lower_least}
use Rattle.mill_sweep.proofs.Firsts.{free_passes}
use Rattle.mill_sweep.proofs.Spans.{middle_within, lower_within}
use Rattle.mill_sweep.specs.Widths.{highest_tip}

-- a span by its four numbers
abbrev span_by : ℤ → ℤ → ℤ → ℤ → Span
span_by a b d e = record { x = a; y = b; reach = d; zlow = e }

same_span : (a b d e k l m n : ℤ) → a ≡ k → b ≡ l → d ≡ m → e ≡ n → span_by a b d e ≡ span_by k l m n
same_span a b d e k l m n p q r s = cc

-- its span
pub span_is : (move : Move) (d k : ℕ) (x y : Stretch) (z : ℤ) → IsStretchOf move.from.x move.to.x d k x → IsStretchOf move.from.y move.to.y d k y → z ≡ zlow_of move d k
    → span_at x y z ≡ span_of move d k
span_is move d k x y z in_x in_y low = same_span _ _ _ _ _ _ _ _ in_x.middle in_y.middle (reach x.farther y.farther _ _ in_x.farther in_y.farther) low
  where
    reach : (e f m n : ℕ) → e ≡ m → f ≡ n → pos (diagonal_of e f) ≡ pos (diagonal_of m n)
    reach e f m n p q = ap (λ (i : ℕ). pos (diagonal_of i f)) p ∙ ap (λ (i : ℕ). pos (diagonal_of m i)) q

-- also where the code reads the lower end again from its width
pub read_span : (move : Move) (d k : ℕ) (x y : Stretch) (z : ℤ) → IsStretchOf move.from.x move.to.x d k x → IsStretchOf move.from.y move.to.y d k y → z ≡ zlow_of move d k → IsTipHeight z
    → span_at x y (stored w32 z) ≡ span_of move d k
read_span move d k x y z in_x in_y low ok = span_is move d k x y (stored w32 z) in_x in_y (kept w32 z highest_tip ok.within refl ∙ low)

module _ (cutter : Cutter) (move : Move) (tri : Tri) (d k : ℕ) where
  -- a leaf of this span that is free passes
  pub free_down : (s : Span) → s ≡ span_of move d k → IsFreeSpan cutter s tri → PassesDown cutter move tri d k
  free_down s e free = λ more deep. free_passes cutter move tri more d k s e free

  -- so does one whose lower end no corner is higher than
  pub under_down : (z : ℤ) → z ≡ zlow_of move d k → highest tri ≤ℤ z → PassesDown cutter move tri d k
  under_down z e under = λ more deep. free_passes cutter move tri more d k (span_of move d k) refl (inr (subst (λ (l : ℤ). highest tri ≤ℤ l) e under))

  -- and one that the triangle lies far beside
  module _ (cutter_ok : IsCutter cutter) (range : IsLiftedMove move) where
    pub beside_x_down : (s : Stretch) → IsStretchOf move.from.x move.to.x d k s → LieApart ((radius_of cutter +ℤ pos MAX_LAST_REACH) +ℤ pos s.farther) s.middle s.middle tri.a.x tri.b.x tri.c.x → PassesDown cutter move tri d k
    beside_x_down s e far = λ more deep. beside_x_passes cutter move tri more d k cutter_ok range deep
        (subst (λ (m : ℤ). LieApart ((radius_of cutter +ℤ pos MAX_LAST_REACH) +ℤ pos (farther_of move.from.x move.to.x d k)) m m tri.a.x tri.b.x tri.c.x) e.middle (subst (λ (q : ℕ). LieApart ((radius_of cutter +ℤ pos MAX_LAST_REACH) +ℤ pos q) s.middle s.middle tri.a.x tri.b.x tri.c.x) e.farther far))

    pub beside_y_down : (s : Stretch) → IsStretchOf move.from.y move.to.y d k s → LieApart ((radius_of cutter +ℤ pos MAX_LAST_REACH) +ℤ pos s.farther) s.middle s.middle tri.a.y tri.b.y tri.c.y → PassesDown cutter move tri d k
    beside_y_down s e far = λ more deep. beside_y_passes cutter move tri more d k cutter_ok range deep
        (subst (λ (m : ℤ). LieApart ((radius_of cutter +ℤ pos MAX_LAST_REACH) +ℤ pos (farther_of move.from.y move.to.y d k)) m m tri.a.y tri.b.y tri.c.y) e.middle (subst (λ (q : ℕ). LieApart ((radius_of cutter +ℤ pos MAX_LAST_REACH) +ℤ pos q) s.middle s.middle tri.a.y tri.b.y tri.c.y) e.farther far))

-- the lower end of a leaf is as high as a tip may be
pub lower_height : (f t : ℤ) (d k : ℕ) → IsTipHeight f → IsTipHeight t → k < 2 ^ d → IsTipHeight (lower_of f t d k)
lower_height f t d k f_ok t_ok inside = record {
  least = lower_least f t (LOWEST_LIFT -ℤ pos MAX_COORDINATE) d k inside f_ok.least t_ok.least;
  within = lower_within f t d k highest_tip f_ok.within t_ok.within inside;
}

-- the span of a leaf of a tip's move is in range
pub span_in_range : (move : Move) (d k : ℕ) → IsLiftedMove move → k < 2 ^ d → IsSpan (span_of move d k)
span_in_range move d k range inside = record {
  x_ok = record { within = middle_within move.from.x move.to.x d k range.from_ok.x_ok.within range.to_ok.x_ok.within inside };
  y_ok = record { within = middle_within move.from.y move.to.y d k range.from_ok.y_ok.within range.to_ok.y_ok.within inside };
  low_ok = lower_height move.from.z move.to.z d k range.from_ok.z_ok range.to_ok.z_ok inside;
  reach_least = least (reach_of move d k);
}
  where
    least : (q : ℕ) → (pos 0) ≤ℤ pos q
    least q = omega (arith, ints)

pub whole_in_range : (p : Prepared) → IsPrepared p → IsSpan p.whole
whole_in_range p ok = subst IsSpan (sym ok.whole_is) (span_in_range p.step 0 0 ok.move_ok (omega arith))

-- the whole move's is that of its one leaf of depth 0
pub whole_span : (p : Prepared) → IsPrepared p → (d k : ℕ) → d ≡ 0 → k < 2 ^ d → p.whole ≡ span_of p.step d k
whole_span p ok d k e inside = subst (λ (i : ℕ). p.whole ≡ span_of p.step i k) (sym e) (subst (λ (j : ℕ). p.whole ≡ span_of p.step 0 j) (sym none) ok.whole_is)
  where
    none : k ≡ 0
    none = let small : k < 2 ^ 0 = subst (λ (n : ℕ). k < 2 ^ n) e inside in omega arith
