-- How great a leaf's numbers are at most, by the limits on coordinates and on halving.
use Rattle.std.specs.Prelude.{ℕ, ◌+◌, ◌*◌, ◌^◌}
use Rattle.mill_base.specs.declared.limits.TheConstants.{MAX_COORDINATE, MAX_DEPTH}

-- how far two places are apart along an axis
abbrev pub longest : ℕ
longest = 2 * MAX_COORDINATE

-- how often the two ends of a leaf are halved: once more than a move is, for their mean
abbrev pub end_depth : ℕ
end_depth = MAX_DEPTH + 1

-- how far from 0 an end is, over its parts
abbrev pub farthest_end : ℕ
farthest_end = 2 ^ end_depth * MAX_COORDINATE

-- how far from 0 the tip of a solid is in z: over the tool's tip by at most as much as a coordinate
abbrev pub highest_tip : ℕ
highest_tip = 2 * MAX_COORDINATE

-- how far from 0 an end of a leaf in z is, over its parts
abbrev pub highest_end : ℕ
highest_end = 2 ^ end_depth * highest_tip
