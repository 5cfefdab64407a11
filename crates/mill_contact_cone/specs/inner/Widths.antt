-- The greatest magnitudes of the numbers that the tests compute with, each from those that it is made of.
use Rattle.std.specs.Prelude.{ℕ, ◌+◌, ◌*◌}
use Rattle.mill_geom.specs.Widths.{farthest, most_area, most_lift}

-- of a cone's rise and of its run
abbrev pub steepest : ℕ
steepest = 100

-- of how far a corner is from the cylinder's side, or over the cone's wall times the run: less than 2^28
abbrev pub most_bound : ℕ
most_bound = steepest * farthest + steepest * farthest

-- of the square of a distance from the axis times that of the rise, or of a height times that of the run: less than 2^55
abbrev pub most_steep : ℕ
most_steep = steepest * steepest * most_area

-- of a form of two corners: less than 2^55
abbrev pub most_cone_form : ℕ
most_cone_form = most_steep + steepest * steepest * (farthest * farthest)

-- of the bilinear form of two blends, of which each weight is at most a corner's number: a sum of four products of a form and two weights: less than 2^111
abbrev pub most_blend_form : ℕ
most_blend_form = 4 * (most_lift * most_lift * most_cone_form)

-- of a sum of two products of a height and an area: less than 2^63
abbrev pub most_slant : ℕ
most_slant = 2 * (farthest * most_area)
