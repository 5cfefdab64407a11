use Rattle.mill_base.proofs.Ranges.{coordinate}
use Rattle.mill_drop.proofs.map.AloneDropCrew.drop_map.Goals as goal

pub returns-clause-heights : goal.returns-clause-heights
returns-clause-heights c = rw (coordinate c.args.floor c.requires.floor_ok) at c.map_in_turn.ensures.heights

pub returns-clause-bound : goal.returns-clause-bound
returns-clause-bound c = rw (coordinate c.args.floor c.requires.floor_ok) at c.map_in_turn.ensures.bound
