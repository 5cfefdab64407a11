use Rattle.std.specs.Prelude.{◌≡◌, map, take}
use Rattle.mill_base.specs.Points.{highest}
use Rattle.mill_cells.specs.Boxes.{box_of}
use Rattle.mill_cells.proofs.cells.Cells.new.Given as goal

abbrev pub invariant-loop-tri : goal.invariant-loop-tri
invariant-loop-tri l = record { boxes : l.boxes.items ≡ map box_of (take l.tri-index l.tris); tops : l.tops.items ≡ map highest (take l.tri-index l.tris) }
