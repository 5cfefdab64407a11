-- A triangle whose upright box keeps off the cylinder's along one axis: at which positions along x there is no touch.
use Rattle.std.proofs.Common.{arith}
use lib.IntN.{ℤ, pos, ◌-ℤ◌}
use lib.Signed.{◌<ℤ◌, ◌≤ℤ◌}
use Rattle.std.proofs.lemmas.Int.{ints}
use Rattle.mill_geom.specs.declared.offset.Offset.{Offset}
use Rattle.mill_geom.specs.Offsets.{AllFrom, AllTo}
use Rattle.mill_geom.specs.Sides.{TouchesSlid, slid_by}
use Rattle.mill_geom.proofs.Places.{misses_high_x, misses_low_x, misses_high_y, misses_low_y}

weak : (x : ℤ) → (pos 0) <ℤ x → (pos 0) ≤ℤ x
weak x h = omega (arith, ints)

further : (r x t : ℤ) → r ≤ℤ x → t ≤ℤ pos 0 → r ≤ℤ (x -ℤ t)
further r x t h k = omega (arith, ints)

before : (r x t : ℤ) → x ≤ℤ (pos 0 -ℤ r) → (pos 0) ≤ℤ t → (x -ℤ t) ≤ℤ (pos 0 -ℤ r)
before r x t h k = omega (arith, ints)

pub high_y_never : (r : ℤ) (a b c : Offset) → (pos 0) <ℤ r → AllFrom r a.y b.y c.y → (t : ℤ) → TouchesSlid r a b c t → ⊥
high_y_never r a b c hr far t v = misses_high_y r (slid_by t a) (slid_by t b) (slid_by t c) (weak r hr) far.first far.second far.third v

pub low_y_never : (r : ℤ) (a b c : Offset) → (pos 0) <ℤ r → AllTo (pos 0 -ℤ r) a.y b.y c.y → (t : ℤ) → TouchesSlid r a b c t → ⊥
low_y_never r a b c hr far t v = misses_low_y r (slid_by t a) (slid_by t b) (slid_by t c) (weak r hr) far.first far.second far.third v

pub high_x_more : (r : ℤ) (a b c : Offset) → (pos 0) <ℤ r → AllFrom r a.x b.x c.x → (t : ℤ) → t ≤ℤ pos 0 → TouchesSlid r a b c t → ⊥
high_x_more r a b c hr far t ht v =
    misses_high_x r (slid_by t a) (slid_by t b) (slid_by t c) (weak r hr) (further r a.x t far.first ht) (further r b.x t far.second ht) (further r c.x t far.third ht) v

pub low_x_less : (r : ℤ) (a b c : Offset) → (pos 0) <ℤ r → AllTo (pos 0 -ℤ r) a.x b.x c.x → (t : ℤ) → (pos 0) ≤ℤ t → TouchesSlid r a b c t → ⊥
low_x_less r a b c hr far t ht v =
    misses_low_x r (slid_by t a) (slid_by t b) (slid_by t c) (weak r hr) (before r a.x t far.first ht) (before r b.x t far.second ht) (before r c.x t far.third ht) v
