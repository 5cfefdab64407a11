use Rattle.std.specs.Prelude.{◌≡◌, fold, take}
use Rattle.mill_cells.specs.Boxes.{box_of, widened}
use Rattle.mill_cells.proofs.boxes.bounds.Given as goal

abbrev pub invariant-loop-tri : goal.invariant-loop-tri
invariant-loop-tri l = l.bounds ≡ fold (λ b u. widened b (box_of u)) l.initial.bounds (take l.tri-index l.others)
