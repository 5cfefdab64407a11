use Rattle.mill_part.proofs.Stored.{band_kept}
use Rattle.mill_paths.proofs.crew.ThreadedPathCrew.paths.Goals as goal

pub returns : goal.returns
returns g c = rw (band_kept c.args.tol c.requires.tol_ok.low c.requires.tol_ok.high) at c.paths_by_threads.ensures
