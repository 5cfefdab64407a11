use Rattle.std.proofs.Common.{rules}
use Rattle.mill_level.proofs.Ranked.{chains_from_sort}
use Rattle.mill_level.proofs.trails.trails.Goals as goal

pub returns-clause-chains : goal.returns-clause-chains
returns-clause-chains c = chains_from_sort c.args.map.now c.in_ok-trails.trails.items c.sort_by_key.new.self.items c.in_ok-trails.ensures c.in_ok-sort_by_key.ensures.permutation c.in_ok-sort_by_key.ensures.sorted (λ a r q k. search rules)
