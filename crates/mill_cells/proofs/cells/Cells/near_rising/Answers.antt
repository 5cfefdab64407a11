use Rattle.std.proofs.Common.{ℕ, ◌↔◌, List, ap, subst}
use Rattle.std.specs.List.{Contains}
use Rattle.mill_base.specs.declared.points.Box2.{Box2}
use Rattle.mill_cells.specs.Boxes.{IsNear}
use Rattle.mill_cells.specs.Sorted.{Sorted}
use Rattle.mill_cells.proofs.cells.Cells.near_rising.Goals as goal

pub returns-clause-each : goal.returns-clause-each
returns-clause-each c = subst (λ (boxes : List Box2). (i : ℕ) → Contains {X = ℕ} c.new.result.numbers i ↔ IsNear boxes c.args.area i) (ap (λ (s : Sorted). s.boxes) c.self.view_is) c.new.ensures.each
