-- How wide the numbers are that the tests compute with: the greatest magnitude of each.
use Rattle.std.specs.Prelude.{ℕ, ◌*◌, ◌^◌, nat_abs}
use Rattle.mill_base.specs.declared.limits.TheConstants.{MAX_WIDE_RADIUS}

-- the greatest radius and its square, without a sign
abbrev pub greatest_radius : ℕ
greatest_radius = nat_abs MAX_WIDE_RADIUS

abbrev pub greatest_area : ℕ
greatest_area = greatest_radius * greatest_radius

-- the denominator of an offset
abbrev pub greatest_denominator : ℕ
greatest_denominator = 2 ^ 20

-- each of an offset's three numerators
abbrev pub greatest_numerator : ℕ
greatest_numerator = 2 ^ 42

-- a radius over the greatest denominator
abbrev pub reach_width : ℕ
reach_width = 2 ^ 34

-- a numerator, or what is left of it when a radius is taken off
abbrev pub length_width : ℕ
length_width = 2 ^ 43

-- the square of a length
abbrev pub square_width : ℕ
square_width = 2 ^ 86

-- a sum of up to three such squares
abbrev pub sum_width : ℕ
sum_width = 2 ^ 88

-- such a sum times the square of a slope's number
abbrev pub wall_width : ℕ
wall_width = 2 ^ 102

-- the height of a tip
abbrev pub tip_width : ℕ
tip_width = 2 ^ 20

-- how far a cutter's surface is over its tip
abbrev pub rise_width : ℕ
rise_width = 2 ^ 21
