use Rattle.std.proofs.Common.{ℕ, ℤ, ◌↔◌, subst, w32}
use Rattle.std.proofs.lemmas.Int.{to_z-of_z}
use Rattle.std.specs.List.{Contains}
use Rattle.mill_cells.specs.Sorted.{Sorted, IsNearOver}
use Rattle.mill_cells.proofs.cells.Cells.near_over.Goals as goal

pub returns-clause-each : goal.returns-clause-each
returns-clause-each c =
    subst (λ (s : Sorted). (i : ℕ) → Contains {X = ℕ} c.new.result i ↔ IsNearOver s c.args.area c.args.z i) c.self.view_is
    (subst (λ (z : ℤ). (i : ℕ) → Contains {X = ℕ} c.new.result i ↔ IsNearOver (record { boxes = c.self.inside.grid.boxes.items; tops = c.self.inside.grid.tops.items }) c.args.area z i)
    (to_z-of_z w32 c.args.z c.ranges.z) c.new.ensures.each)
