use Rattle.std.proofs.Common.{rules, ap, sym, ◌≡◌, ◌+◌, ◌∙◌}
use Rattle.std.specs.Prelude.{[], ◌∷◌, ◌++◌, map, take}
use Rattle.std.proofs.lemmas.List.{map_more}
use Rattle.mill_level.specs.Waterlines.{seen}
use Rattle.mill_level.specs.declared.chain.Chain.{Chain}
use Rattle.mill_ffi_data.specs.Raw.{corner_of}
use Rattle.mill_ffi.specs.Levels.{head_of}
use Rattle.mill_ffi.proofs.Chains.{outlines_more}
use Rattle.mill_ffi.proofs.level.told_chains.Goals as goal

pub loop-chain-preserved : goal.loop-chain-preserved
loop-chain-preserved c =
    let outline = seen c.chain-item.result in
    let headed : c.push.new.self.items ≡ c.loop-chain.heads.items ++ head_of outline ∷ [] = search rules in
    let added : map corner_of c.add_points.new.points.items ≡ map corner_of c.loop-chain.points.items ++ outline.points = search rules in
    let before = map seen (take c.loop-chain.chain-index c.args.chains.now) in
    let one_more : map seen (take (c.loop-chain.chain-index + 1) c.args.chains.now) ≡ before ++ outline ∷ [] =
    map_more seen c.args.chains.now c.loop-chain.chain-index c.chain-item.result c.loop-chain-test.true ∙ ap (λ (chain : Chain). before ++ seen chain ∷ []) (sym c.chain-item.is) in
    outlines_more (map seen (take (c.loop-chain.chain-index + 1) c.args.chains.now)) (map seen (take c.loop-chain.chain-index c.args.chains.now)) outline c.loop-chain.heads.items c.push.new.self.items c.loop-chain.points.items c.add_points.new.points.items one_more headed added c.loop-chain.invariant
