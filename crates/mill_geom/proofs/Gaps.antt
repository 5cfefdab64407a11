-- The box of a triangle's corners bounds how near to the axis and how high its points are.
use Rattle.std.proofs.Common.{◌≡◌, inl, inr, ◌≤◌, refl, ◌∙◌, w64, arith}
use Rattle.std.specs.Int.{int_max}
use lib.IntN.{ℤ, pos, ◌+ℤ◌, ◌-ℤ◌, ◌*ℤ◌, nat_abs}
use lib.Signed.{◌<ℤ◌, ◌≤ℤ◌}
use Rattle.std.proofs.lemmas.Int.{ints}
use Rattle.mill_base.specs.Numbers.{square, lesser, greater}
use Rattle.mill_base.proofs.Exit.{split_lt}
use Rattle.mill_base.proofs.Machine.{stored, kept}
use Rattle.mill_geom.specs.Widths.{most_area, farthest}
use Rattle.mill_geom.specs.declared.offset.Offset.{Offset}
use Rattle.mill_geom.specs.Offsets.{mean3, OffsetInRange}
use Rattle.mill_geom.specs.Gaps.{gap_of, box_gap_of, highest_of, AllApart, AllUpTo}
use Rattle.mill_geom.proofs.GapCerts.{beyond, beyond_back, gap_is_zero, both_gaps, squares, up_to}
use Rattle.mill_geom.proofs.Kept.{place_kept}

-- ---- the gap as it is computed

most_is : (a b : ℤ) → int_max a b ≡ greater a b
most_is a b = grind (arith, ints)

opposite_small : (x : ℤ) → nat_abs x ≤ farthest → nat_abs (pos 0 -ℤ x) ≤ farthest
opposite_small x h = omega (arith, ints)

most_small : (a b m : ℤ) → nat_abs a ≤ farthest → nat_abs b ≤ farthest → m ≡ greater a b → nat_abs m ≤ farthest
most_small a b m ha hb e = grind (ha, hb, e, arith, ints)

zero_small : nat_abs (pos 0) ≤ farthest
zero_small = omega arith

-- the stored number is the value, and small
pub record IsStored (n value : ℤ) : Type 0 where
  pub is : stored w64 n ≡ value
  pub small : nat_abs (stored w64 n) ≤ farthest

is_stored : (n value : ℤ) → n ≡ value → nat_abs n ≤ farthest → IsStored n value
is_stored n value e h = record { is = kept w64 n farthest h refl ∙ e; small = rw (kept w64 n farthest h refl) h }

pub gap_stored : (a b c low high m n : ℤ) → nat_abs a ≤ farthest → nat_abs b ≤ farthest → nat_abs c ≤ farthest → nat_abs low ≤ farthest → nat_abs high ≤ farthest
    → low ≡ lesser (stored w64 a) (lesser (stored w64 b) (stored w64 c)) → high ≡ greater (stored w64 a) (greater (stored w64 b) (stored w64 c))
    → m ≡ int_max (stored w64 low) (stored w64 (pos 0 -ℤ stored w64 high)) → n ≡ int_max (stored w64 m) (pos 0) → IsStored n (gap_of a b c)
gap_stored a b c low high m n ha hb hc hl hh el eh em en =
    let low_is : low ≡ lesser a (lesser b c) = rw (kept w64 a farthest ha refl, kept w64 b farthest hb refl, kept w64 c farthest hc refl) at el in
    let high_is : high ≡ greater a (greater b c) = rw (kept w64 a farthest ha refl, kept w64 b farthest hb refl, kept w64 c farthest hc refl) at eh in
    let m_max : m ≡ int_max low (pos 0 -ℤ high) = rw (kept w64 low farthest hl refl, kept w64 high farthest hh refl, kept w64 (pos 0 -ℤ high) farthest (opposite_small high hh) refl) at em in
    let m_is : m ≡ greater low (pos 0 -ℤ high) = m_max ∙ most_is low (pos 0 -ℤ high) in
    let m_ok = most_small low (pos 0 -ℤ high) m hl (opposite_small high hh) m_is in
    let n_max : n ≡ int_max m (pos 0) = rw (kept w64 m farthest m_ok refl) at en in
    let n_is : n ≡ greater m (pos 0) = n_max ∙ most_is m (pos 0) in
    is_stored n (gap_of a b c) (n_is ∙ rw (m_is, low_is, high_is) refl) (most_small m (pos 0) n m_ok zero_small n_is)

-- ---- what it bounds

not_negative : (a b c : ℤ) → (pos 0) ≤ℤ gap_of a b c
not_negative a b c = grind (arith, ints)

from_first : (a b c : ℤ) → (pos 0) <ℤ lesser a (lesser b c) → gap_of a b c ≤ℤ a
from_first a b c h = grind (h, arith, ints)

from_second : (a b c : ℤ) → (pos 0) <ℤ lesser a (lesser b c) → gap_of a b c ≤ℤ b
from_second a b c h = grind (h, arith, ints)

from_third : (a b c : ℤ) → (pos 0) <ℤ lesser a (lesser b c) → gap_of a b c ≤ℤ c
from_third a b c h = grind (h, arith, ints)

to_first : (a b c : ℤ) → greater a (greater b c) <ℤ pos 0 → a ≤ℤ (pos 0 -ℤ gap_of a b c)
to_first a b c h = grind (h, arith, ints)

to_second : (a b c : ℤ) → greater a (greater b c) <ℤ pos 0 → b ≤ℤ (pos 0 -ℤ gap_of a b c)
to_second a b c h = grind (h, arith, ints)

to_third : (a b c : ℤ) → greater a (greater b c) <ℤ pos 0 → c ≤ℤ (pos 0 -ℤ gap_of a b c)
to_third a b c h = grind (h, arith, ints)

none : (a b c : ℤ) → lesser a (lesser b c) ≤ℤ pos 0 → (pos 0) ≤ℤ greater a (greater b c) → gap_of a b c ≡ pos 0
none a b c h k = grind (h, k, arith, ints)

-- in one coordinate each weighted sum is at least as far from 0 as the gap
gap_apart : (a b c u v w : ℤ) → (pos 0) ≤ℤ u → (pos 0) ≤ℤ v → (pos 0) ≤ℤ w → (square (gap_of a b c) *ℤ square ((u +ℤ v) +ℤ w)) ≤ℤ square ((u *ℤ a +ℤ v *ℤ b) +ℤ w *ℤ c)
gap_apart a b c u v w hu hv hw = elim (split_lt (pos 0) (lesser a (lesser b c))) [
  | inl low ↦ beyond u v w a b c (gap_of a b c) hu hv hw (not_negative a b c) (from_first a b c low) (from_second a b c low) (from_third a b c low)
  | inr low ↦ elim (split_lt (greater a (greater b c)) (pos 0)) [
    | inl high ↦ beyond_back u v w a b c (gap_of a b c) hu hv hw (not_negative a b c) (to_first a b c high) (to_second a b c high) (to_third a b c high)
    | inr high ↦ gap_is_zero ((u *ℤ a +ℤ v *ℤ b) +ℤ w *ℤ c) (gap_of a b c) ((u +ℤ v) +ℤ w) (none a b c low high)
  ]
]

-- no point of the triangle is nearer to the axis than the box of the corners
pub box_apart : (a b c : Offset) → AllApart (box_gap_of a b c) a b c
box_apart a b c u v w hu hv hw =
    both_gaps (square (gap_of a.x b.x c.x)) (square (gap_of a.y b.y c.y)) (square ((u +ℤ v) +ℤ w)) (square (mean3 u v w a b c).x) (square (mean3 u v w a b c).y)
    (gap_apart a.x b.x c.x u v w hu hv hw) (gap_apart a.y b.y c.y u v w hu hv hw)

-- the sum of the squares of two stored gaps
pub squares_stored : (a b c : Offset) (x y n : ℤ) → nat_abs x ≤ farthest → nat_abs y ≤ farthest → nat_abs n ≤ most_area
    → x ≡ gap_of (stored w64 a.x) (stored w64 b.x) (stored w64 c.x) → y ≡ gap_of (stored w64 a.y) (stored w64 b.y) (stored w64 c.y)
    → n ≡ square (stored w64 x) +ℤ square (stored w64 y) → OffsetInRange a → OffsetInRange b → OffsetInRange c → stored w64 n ≡ box_gap_of a b c
squares_stored a b c x y n hx hy hn ex ey en ra rb rc =
    let x_is : x ≡ gap_of a.x b.x c.x = rw (place_kept a.x ra.x_ok, place_kept b.x rb.x_ok, place_kept c.x rc.x_ok) at ex in
    let y_is : y ≡ gap_of a.y b.y c.y = rw (place_kept a.y ra.y_ok, place_kept b.y rb.y_ok, place_kept c.y rc.y_ok) at ey in
    let n_is : n ≡ square x +ℤ square y = rw (kept w64 x farthest hx refl, kept w64 y farthest hy refl) at en in
    kept w64 n most_area hn refl ∙ n_is ∙ rw (x_is, y_is) refl

pub gap_up : (a b c : Offset) → (pos 0) ≤ℤ box_gap_of a b c
gap_up a b c = squares (gap_of a.x b.x c.x) (gap_of a.y b.y c.y)

first_up : (a b c : ℤ) → a ≤ℤ greater a (greater b c)
first_up a b c = grind (arith, ints)

second_up : (a b c : ℤ) → b ≤ℤ greater a (greater b c)
second_up a b c = grind (arith, ints)

third_up : (a b c : ℤ) → c ≤ℤ greater a (greater b c)
third_up a b c = grind (arith, ints)

-- no point of the triangle is higher than the highest corner
pub all_up_to : (a b c : Offset) → AllUpTo (highest_of a b c) a b c
all_up_to a b c u v w hu hv hw =
    up_to u v w a.z b.z c.z (highest_of a b c) hu hv hw (first_up a.z b.z c.z) (second_up a.z b.z c.z) (third_up a.z b.z c.z)
