use Rattle.std.specs.Prelude.{map, take}
use Rattle.mill_level.specs.Waterlines.{seen}
use Rattle.mill_ffi.specs.Levels.{AreOutlines}
use Rattle.mill_ffi.proofs.level.told_chains.Given as goal

abbrev pub invariant-loop-chain : goal.invariant-loop-chain
invariant-loop-chain l = AreOutlines (map seen (take l.chain-index l.chains)) l.heads.items l.points.items
