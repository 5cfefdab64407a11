use Rattle.mill_part.proofs.Stored.{band_kept}
use Rattle.mill_paths.proofs.crew.AlonePathCrew.paths.Goals as goal

pub returns : goal.returns
returns c = rw (band_kept c.args.tol c.requires.tol_ok.low c.requires.tol_ok.high) at c.paths_alone.ensures
