-- The greatest magnitudes of the numbers that the tests compute with, each from those that it is made of.
use Rattle.std.specs.Prelude.{ℕ, ◌+◌, ◌*◌, nat_abs}
use Rattle.mill_base.specs.declared.limits.TheConstants.{MAX_COORDINATE, LOWEST_TIP, MAX_WIDE_RADIUS}

-- of an offset's coordinate: from the highest point that calls take down to the lowest tip; under 2^21
abbrev pub farthest : ℕ
farthest = MAX_COORDINATE + nat_abs LOWEST_TIP

-- of a cylinder's radius
abbrev pub widest : ℕ
widest = nat_abs MAX_WIDE_RADIUS

-- of a sum of two products of coordinates, as twice an area; under 2^42
abbrev pub most_area : ℕ
most_area = 2 * (farthest * farthest)

-- of how far one coordinate is over another
abbrev pub most_fall : ℕ
most_fall = 2 * farthest

-- of a scaled height: of b*z - a*r, where the height z and the radius r are as above and a and b, the rise and run of a cone, are at most 100
abbrev pub most_lift : ℕ
most_lift = 100 * farthest + 100 * widest

-- of how steep a plane is, with scaled heights: a sum of three products of a height and a fall; under 2^50
abbrev pub most_slope : ℕ
most_slope = 3 * (most_lift * most_fall)

-- of six times a volume: a sum of three products of an area and a height; under 2^63
abbrev pub most_volume : ℕ
most_volume = 3 * (most_area * farthest)

-- of six times a volume whose heights are scaled; under 2^70
abbrev pub most_lifted_volume : ℕ
most_lifted_volume = 3 * (most_area * most_lift)

-- of a form of two offsets: an area less the square of the radius; under 2^42
abbrev pub most_form : ℕ
most_form = most_area + widest * widest

-- of the form of two points on the level: a sum of four products of a form and two scaled heights; under 2^97
abbrev pub most_mixed_form : ℕ
most_mixed_form = 4 * (most_lift * most_lift * most_form)

-- of the x of a sum of two spots: a sum of two products of areas; under 2^84
abbrev pub most_mixed_place : ℕ
most_mixed_place = 2 * (most_area * most_area)
