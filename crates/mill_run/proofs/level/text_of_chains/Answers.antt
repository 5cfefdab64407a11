use Rattle.std.proofs.Common.{◌≡◌, take, arith}
use Rattle.std.proofs.lemmas.List.{length-map, take_all}
use Rattle.std.proofs.lemmas.List.Folds.{flat_map-map}
use Rattle.mill_level.specs.Waterlines.{seen}
use Rattle.mill_run.specs.Level.{outline_text}
use Rattle.mill_run.proofs.level.text_of_chains.Goals as goal

pub returns : goal.returns
returns c =
    let all : take c.loop-chain.chain-index c.args.chains.now ≡ c.args.chains.now = take_all c.loop-chain.chain-index c.args.chains.now (omega arith) in
    let so_far = rw all at c.loop-chain.invariant in
    rw (c.in_ok-add_line.ensures, so_far, flat_map-map (outline_text c.args.unit) seen c.args.chains.now, length-map)
