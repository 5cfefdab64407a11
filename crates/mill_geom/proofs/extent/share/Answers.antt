use Rattle.mill_geom.proofs.Extents.{share_covers}
use Rattle.mill_geom.proofs.extent.share.Goals as goal

pub returns-clause-covers : goal.returns-clause-covers
returns-clause-covers c =
    let whole = rw (c.from.ensures, c.from-2.ensures, c.from-3.ensures) at c.div_ceil.ensures in
    share_covers c.args.length c.args.rise c.args.drop c.div_ceil.result c.requires.some whole
