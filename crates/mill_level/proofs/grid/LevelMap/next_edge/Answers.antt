use Rattle.mill_level.specs.inner.Maps.{grid_of}
use Rattle.mill_level.proofs.Edges.{after_last}
use Rattle.mill_level.proofs.grid.LevelMap.next_edge.Goals as goal

pub returns-in-X-3-clause-number : goal.returns-in-X-3-clause-number
returns-in-X-3-clause-number c =
    after_last (grid_of c.args.self.now) c.args.edge c.in-X-3.is c.requires.column_ok c.if-column-self.false c.requires.row_ok c.if-row-self.false
