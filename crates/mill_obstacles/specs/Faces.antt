-- What the tool has to keep off: the part, and the upper faces of the fixtures that stand on the machine.
use Rattle.std.specs.Prelude.{List, [], ◌∷◌, ◌++◌}
use Rattle.std.specs.List.{flat_map}
use Rattle.mill_base.specs.Points.{point_at}
use Rattle.mill_base.specs.declared.points.Tri.{Tri}
use Rattle.mill_job.specs.declared.fields.JobFields.{JobFields}
use Rattle.mill_job.specs.declared.fixtures.Fixture.{Fixture}

-- the two triangles of a fixture's upper face: the first has its corner (x1, y0), and the second its corner (x0, y1)
abbrev pub first_half : Fixture → Tri
first_half f = record { a = point_at f.area.x0 f.area.y0 f.height; b = point_at f.area.x1 f.area.y0 f.height; c = point_at f.area.x1 f.area.y1 f.height }

abbrev pub second_half : Fixture → Tri
second_half f = record { a = point_at f.area.x0 f.area.y0 f.height; b = point_at f.area.x1 f.area.y1 f.height; c = point_at f.area.x0 f.area.y1 f.height }

-- both, in their order
abbrev pub faces_of : Fixture → List Tri
faces_of f = first_half f ∷ second_half f ∷ []

-- the part's triangles, and behind them those of each fixture's upper face
unfoldable pub obstacles_of : JobFields → List Tri → List Tri
obstacles_of job part = part ++ flat_map faces_of job.keep_out
