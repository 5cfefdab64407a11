-- Two boxes meet where in x and in y neither ends before the other begins.
use Rattle.std.proofs.Common.{arith}
use Rattle.std.proofs.lemmas.Int.{ints}
use lib.IntN.{ℤ}
use lib.Signed.{◌≤ℤ◌}
use Rattle.mill_base.specs.Numbers.{lesser, greater}
use Rattle.mill_base.specs.declared.points.Box2.{Box2}
use Rattle.mill_cells.specs.Boxes.{Meet}

-- two stretches with ends the right way round, of which neither ends before the other begins
pub record Overlap (low high from to : ℤ) : Type 0 where
  pub first : low ≤ℤ high
  pub second : from ≤ℤ to
  pub up : low ≤ℤ to
  pub down : from ≤ℤ high

-- a place that is in both
record IsShared (low high from to at : ℤ) : Type 0 where
  right : low ≤ℤ at
  left : at ≤ℤ high
  right_too : from ≤ℤ at
  left_too : at ≤ℤ to

-- the greater one of their beginnings is
shared_place : (low high from to : ℤ) → Overlap low high from to → IsShared low high from to (greater low from)
shared_place low high from to o =
    let a = o.first in
    let b = o.second in
    let c = o.up in
    let d = o.down in
    record { right = grind (arith, ints); left = grind (arith, ints); right_too = grind (arith, ints); left_too = grind (arith, ints) }

pub overlapping_meet : (a b : Box2) → Overlap a.x0 a.x1 b.x0 b.x1 → Overlap a.y0 a.y1 b.y0 b.y1 → Meet a b
overlapping_meet a b in_x in_y =
    let x = shared_place a.x0 a.x1 b.x0 b.x1 in_x in
    let y = shared_place a.y0 a.y1 b.y0 b.y1 in_y in
    record {
      x = greater a.x0 b.x0;
      y = greater a.y0 b.y0;
      in_first = record { right = x.right; left = x.left; over = y.right; under = y.left };
      in_second = record { right = x.right_too; left = x.left_too; over = y.right_too; under = y.left_too };
    }

-- the least and the greatest of three places
pub least_of_three : (a b c : ℤ) → (lesser a (lesser b c) ≤ℤ a) × (lesser a (lesser b c) ≤ℤ b) × (lesser a (lesser b c) ≤ℤ c)
least_of_three a b c = grind (arith, ints)

pub greatest_of_three : (a b c : ℤ) → (a ≤ℤ greater a (greater b c)) × (b ≤ℤ greater a (greater b c)) × (c ≤ℤ greater a (greater b c))
greatest_of_three a b c = grind (arith, ints)

pub ends_in_order : (a b c : ℤ) → lesser a (lesser b c) ≤ℤ greater a (greater b c)
ends_in_order a b c = grind (arith, ints)
