-- Offsets as a function takes them: three numbers over a denominator.
use Rattle.std.specs.Prelude.{ℤ, pos, List, slice_index_or}
use Rattle.mill_base.specs.Points.{point_at}
use Rattle.mill_base.specs.declared.points.Pt3.{Pt3}

-- the three numbers of an array as the coordinates of a point
abbrev pub offset_of : List ℤ → Pt3
offset_of d = point_at (slice_index_or d 0 (pos 0)) (slice_index_or d 1 (pos 0)) (slice_index_or d 2 (pos 0))
