use Rattle.std.proofs.Common.{◌≡◌, take}
use Rattle.std.specs.List.{flat_map}
use Rattle.mill_level.specs.Waterlines.{seen}
use Rattle.mill_run.specs.Level.{outline_text}
use Rattle.mill_run.proofs.level.text_of_chains.Given as goal

abbrev pub invariant-loop-chain : goal.invariant-loop-chain
invariant-loop-chain l = l.text.items ≡ flat_map (λ chain. outline_text l.unit (seen chain)) (take l.chain-index l.chains)
