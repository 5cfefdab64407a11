use Rattle.std.specs.Prelude.{◌≡◌, ◌+◌, sum_by, take}
use Rattle.mill_cells.specs.Frames.{cell_count}
use Rattle.mill_cells.specs.Sizes.{frame_of}
use Rattle.mill_cells.proofs.SizeLemmas.{tri_cells}
use Rattle.mill_cells.proofs.size.fits.Given as goal

abbrev pub invariant-loop-tri : goal.invariant-loop-tri
invariant-loop-tri l = l.numbers ≡ cell_count (frame_of l.tris l.fn.size) + sum_by (tri_cells l.tris l.fn.size) (take l.tri-index l.tris)
