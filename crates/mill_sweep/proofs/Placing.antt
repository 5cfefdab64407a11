-- Where the code puts a leaf's middle and its outer cutter, and how far it wants a triangle to be away.
use Rattle.std.specs.Prelude.{◌≡◌, ℕ, ◌+◌, ◌*◌, ◌≤◌, nat_abs, ℤ, pos, ◌+ℤ◌, ◌-ℤ◌, ◌<ℤ◌, ◌≤ℤ◌}
use Rattle.std.proofs.Common.{[], ◌∷◌, refl, sym, subst, ap, ◌∙◌, arith, to_z, w32}
use Rattle.std.proofs.lemmas.Int.{ints, to_z_pos}
use Rattle.mill_base.proofs.Machine.{Read, Lit, Sum, Diff, exact, kept, stored}
use Rattle.mill_base.specs.Numbers.{Within}
use Rattle.mill_base.specs.Points.{point_at}
use Rattle.mill_base.specs.Sizes.{HasRadius, IsCutter, radius_of, outer, shift}
use Rattle.mill_base.specs.declared.points.Pt3.{Pt3}
use Rattle.mill_base.specs.declared.cutter.Cutter.{Cutter}
use Rattle.mill_base.specs.declared.cutter.Cutter.TheVariants.{Flat, Ball, Cone}
use Rattle.mill_base.specs.declared.limits.TheConstants.{LOWEST_LIFT, LOWEST_TIP, MAX_COORDINATE, MAX_REACH, MAX_LAST_REACH}
use Rattle.mill_geom.specs.Offsets.{IsCentre}
use Rattle.mill_sweep.specs.Leaves.{outer_tip}
use Rattle.mill_sweep.specs.Halving.{IsSpan}
use Rattle.mill_sweep.specs.declared.leaf.Span.{Span}
use Rattle.mill_sweep.specs.Widths.{longest, highest_tip}

-- the radius of a job's cutter is at most 10,000
radius_within : (r : ℤ) → HasRadius r (pos 10000) → nat_abs r ≤ 10000
radius_within r h = let least = h.least in let most = h.within in omega (arith, ints)

pub radius_small : (cutter : Cutter) → IsCutter cutter → nat_abs (radius_of cutter) ≤ 10000
radius_small (Flat r) h = radius_within r h
radius_small (Ball r) h = radius_within r h
radius_small (Cone r a b) h = radius_within r h.0

-- the distance from the whole move, and from a leaf along an axis
pub from_move : (cutter : Cutter) (r : ℤ) → IsCutter cutter → r ≡ radius_of cutter → stored w32 (stored w32 r +ℤ pos 2) ≡ radius_of cutter +ℤ pos MAX_LAST_REACH
from_move cutter r ok e =
    exact (r ∷ []) (10000 ∷ []) (Sum w32 (Read w32 0) (Lit (pos 2))) (rw e (radius_small cutter ok), tt) refl ∙ ap (λ (s : ℤ). s +ℤ pos 2) e

pub from_leaf : (cutter : Cutter) (r : ℤ) (q : ℕ) → IsCutter cutter → r ≡ radius_of cutter → q ≤ longest
    → stored w32 (stored w32 (stored w32 r +ℤ pos 2) +ℤ to_z w32 q) ≡ (radius_of cutter +ℤ pos MAX_LAST_REACH) +ℤ pos q
from_leaf cutter r q ok e most =
    ap (λ (t : ℤ). stored w32 (stored w32 (stored w32 r +ℤ pos 2) +ℤ t)) (to_z_pos w32 q (omega arith) ∙ sym (kept w32 (pos q) longest most refl))
    ∙ exact (r ∷ pos q ∷ []) (10000 ∷ longest ∷ []) (Sum w32 (Sum w32 (Read w32 0) (Lit (pos 2))) (Read w32 1)) (rw e (radius_small cutter ok), (most, tt)) refl
    ∙ ap (λ (s : ℤ). (s +ℤ pos 2) +ℤ pos q) e

pub distance_kept : (cutter : Cutter) (r : ℤ) (q : ℕ) → IsCutter cutter → q ≤ longest → r ≡ (radius_of cutter +ℤ pos MAX_LAST_REACH) +ℤ pos q → stored w32 r ≡ (radius_of cutter +ℤ pos MAX_LAST_REACH) +ℤ pos q
distance_kept cutter r q ok most e = kept w32 r (longest + 10002) (rw e (by (radius_of cutter) (radius_small cutter ok))) refl ∙ e
  where
    by : (s : ℤ) → nat_abs s ≤ 10000 → nat_abs ((s +ℤ pos 2) +ℤ pos q) ≤ (longest + 10002)
    by s h = omega (arith, ints)

-- points of equal coordinates
pub same_point : (a b c k l m : ℤ) → a ≡ k → b ≡ l → c ≡ m → point_at a b c ≡ point_at k l m
same_point a b c k l m p q r = cc

-- the outer cutter of a leaf under a height in range stands where a contact test takes it
module _ (s : Span) (low : ℤ) (ok : IsSpan s) (low_least : (pos 0) ≤ℤ low) (low_most : low ≤ℤ pos (16 * MAX_REACH)) where
  drop_is : stored w32 (stored w32 s.zlow -ℤ stored w32 low) ≡ s.zlow -ℤ low
  drop_is = exact (s.zlow ∷ low ∷ []) (highest_tip ∷ (16 * MAX_REACH) ∷ []) (Diff w32 (Read w32 0) (Read w32 1)) (ok.low_ok.within, (small low low_least low_most, tt)) refl
    where
      small : (q : ℤ) → (pos 0) ≤ℤ q → q ≤ℤ pos (16 * MAX_REACH) → nat_abs q ≤ (16 * MAX_REACH)
      small q least most = omega (arith, ints)

  pub centred : (h : ℤ) → s.zlow <ℤ h → h ≤ℤ pos MAX_COORDINATE → IsCentre (point_at (stored w32 s.x) (stored w32 s.y) (stored w32 (stored w32 s.zlow -ℤ stored w32 low)))
  centred h under most = record {
    x_ok = subst (λ (z : ℤ). Within MAX_COORDINATE z) (sym (kept w32 s.x MAX_COORDINATE ok.x_ok.within refl)) ok.x_ok;
    y_ok = subst (λ (z : ℤ). Within MAX_COORDINATE z) (sym (kept w32 s.y MAX_COORDINATE ok.y_ok.within refl)) ok.y_ok;
    z_from = subst (λ (z : ℤ). LOWEST_TIP ≤ℤ z) (sym drop_is) (from s.zlow low ok.low_ok.least low_most);
    z_to = subst (λ (z : ℤ). z ≤ℤ pos MAX_COORDINATE) (sym drop_is) (to s.zlow low h low_least under most);
  }
    where
      from : (z l : ℤ) → (LOWEST_LIFT -ℤ pos MAX_COORDINATE) ≤ℤ z → l ≤ℤ pos (16 * MAX_REACH) → LOWEST_TIP ≤ℤ (z -ℤ l)
      from z l p q = omega (arith, ints)

      to : (z l h : ℤ) → (pos 0) ≤ℤ l → z <ℤ h → h ≤ℤ pos MAX_COORDINATE → (z -ℤ l) ≤ℤ pos MAX_COORDINATE
      to z l h p q r = omega (arith, ints)

-- what is so of the cutter that the code widens, where it puts it, is so of the span's outer cutter
module _ (P : Cutter → Pt3 → Type 0) (cutter wide : Cutter) (s : Span) (low : ℤ) (ok : IsSpan s) (narrow : s.reach ≤ℤ pos MAX_REACH)
    (wide_is : wide ≡ outer cutter (stored w32 s.reach)) (low_is : low ≡ shift cutter (stored w32 s.reach)) (low_least : (pos 0) ≤ℤ low) (low_most : low ≤ℤ pos (16 * MAX_REACH)) where
  reach_is : stored w32 s.reach ≡ s.reach
  reach_is = kept w32 s.reach MAX_REACH (small s.reach ok.reach_least narrow) refl
    where
      small : (q : ℤ) → (pos 0) ≤ℤ q → q ≤ℤ pos MAX_REACH → nat_abs q ≤ MAX_REACH
      small q least most = omega (arith, ints)

  height_is : stored w32 (stored w32 s.zlow -ℤ stored w32 low) ≡ s.zlow -ℤ shift cutter s.reach
  height_is = drop_is s low ok low_least low_most ∙ ap (λ (l : ℤ). s.zlow -ℤ l) (subst (λ (q : ℤ). low ≡ shift cutter q) reach_is low_is)

  tip_is : point_at (stored w32 s.x) (stored w32 s.y) (stored w32 (stored w32 s.zlow -ℤ stored w32 low)) ≡ outer_tip cutter s
  tip_is = same_point _ _ _ _ _ _ (kept w32 s.x MAX_COORDINATE ok.x_ok.within refl) (kept w32 s.y MAX_COORDINATE ok.y_ok.within refl) height_is

  pub placed : P wide (point_at (stored w32 s.x) (stored w32 s.y) (stored w32 (stored w32 s.zlow -ℤ stored w32 low))) → P (outer cutter s.reach) (outer_tip cutter s)
  placed h = subst (λ (w : Cutter). P w (outer_tip cutter s)) (subst (λ (q : ℤ). wide ≡ outer cutter q) reach_is wide_is) (subst (λ (p : Pt3). P wide p) tip_is h)
