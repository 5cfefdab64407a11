use Rattle.std.proofs.Common.{rules}
use Rattle.mill_dexel.proofs.BandLists.{bands_none, bands_more}
use Rattle.mill_dexel.proofs.bands.bands_of.Goals as goal

pub loop-i-init : goal.loop-i-init
loop-i-init c = search (rules, bands_none)

pub loop-i-preserved : goal.loop-i-preserved
loop-i-preserved c = rw c.in_ok-push.ensures.items (bands_more c.args.moves.now c.args.count c.loop-i.i c.loop-i.bands.items c.band_at.result c.loop-i.invariant c.band_at.ensures)
