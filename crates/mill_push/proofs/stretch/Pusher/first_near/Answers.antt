use Rattle.std.proofs.Common.{rules, w32}
use Rattle.std.proofs.lemmas.Int.{to_z-of_z}
use lib.IntN.{◌-ℤ◌}
use Rattle.mill_push.specs.declared.probe.Way.TheVariants.{Back}
use Rattle.mill_push.proofs.Probing.{back_ok, first_end, near_cost, search_of}
use Rattle.mill_push.proofs.Stored.{stored, difference}
use Rattle.mill_push.proofs.stretch.Pusher.first_near.Goals as goal

pub place-requires-clause-self_ok : goal.place-requires-clause-self_ok
place-requires-clause-self_ok g c =
    let low = stored c.args.low c.requires.low_ok in
    let found = stored c.args.found c.requires.found_ok in
    let limit = difference c.args.low c.args.found c.requires.low_ok c.requires.found_ok in
    rw (low, found, limit) (back_ok c.args.low c.args.found c.requires.low_ok c.requires.found_ok c.requires.order)

pub returns-clause-end : goal.returns-clause-end
returns-clause-end g c =
    let low = stored c.args.low c.requires.low_ok in
    let found = stored c.args.found c.requires.found_ok in
    let limit = difference c.args.low c.args.found c.requires.low_ok c.requires.found_ok in
    let left = rw (low, found, limit) at c.halved-count.ensures.end in
    let at = rw (found, to_z-of_z w32 c.halved-count.result (search rules)) at c.place.ensures.value in
    rw (to_z-of_z w32 c.place.result (search rules), at) (first_end c.args.self.cutter c.args.tri.now c.args.self.fiber c.args.low c.args.found c.halved-count.result c.requires.held left)

pub returns-clause-cost : goal.returns-clause-cost
returns-clause-cost g c =
    let low = stored c.args.low c.requires.low_ok in
    let found = stored c.args.found c.requires.found_ok in
    let limit = difference c.args.low c.args.found c.requires.low_ok c.requires.found_ok in
    let left = rw (low, found, limit) at c.near_end-left.ensures.left in
    near_cost c.args.self.cutter c.args.tri.now c.args.self.fiber (search_of Back c.args.found (c.args.found -ℤ c.args.low)) c.near_end-left.result c.args.steps.now c.near_end-left.new.steps c.halved-count.new.steps c.args.aims.probes left c.near_end-left.ensures.cost c.halved-count.ensures.cost
