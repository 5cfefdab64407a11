use Rattle.mill_links.proofs.Kept.{unit_coordinate}
use Rattle.mill_paths.proofs.visits.drop_heights.Goals as goal

pub returns-clause-heights : goal.returns-clause-heights
returns-clause-heights g c =
    let floor = unit_coordinate c.args.job.now.fields.unit c.args.job.now.fields.floor c.args.job.now.is_job.floor_ok in
    simp (floor, c.tool-tool.ensures) at c.in_ok-drop_map.ensures.heights

pub returns-clause-lattice_ok : goal.returns-clause-lattice_ok
returns-clause-lattice_ok g c = record { lattice_ok = c.requires.lattice_ok; few = c.in_ok-check_nodes.ensures.few }
