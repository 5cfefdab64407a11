-- By the lemmas on the squares beside a crossing.
use Rattle.std.proofs.Common.{false, MatchOption, sym, subst}
use Rattle.mill_level.specs.declared.edge.Edge.{Edge}
use Rattle.mill_level.specs.Joins.{IsJoin}
use Rattle.mill_level.specs.inner.Maps.{grid_of}
use Rattle.mill_level.proofs.Beside.{far_is, none_far}
use Rattle.mill_level.proofs.grid.LevelMap.before.Goals as goal

pub returns-in_err-square : goal.returns-in_err-square
returns-in_err-square c =
    subst (λ o. MatchOption o ((e : Edge) → IsJoin (grid_of c.args.self.now) e c.args.edge → ⊥) (λ e. IsJoin (grid_of c.args.self.now) e c.args.edge)) (sym c.from_residual.ensures)
    (none_far (grid_of c.args.self.now) false c.args.edge c.is_blocked.result c.is_blocked.ensures c.in_err-square.ensures)

pub returns : goal.returns
returns c =
    far_is (grid_of c.args.self.now) false c.args.edge c.from.result c.is_blocked.result c.in_ok-square.square c.in_ok-square.side
    c.requires.edge_ok c.is_blocked.ensures c.in_ok-square.ensures c.from.ensures
