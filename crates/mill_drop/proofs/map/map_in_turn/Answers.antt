use Rattle.std.proofs.Common.{◌<◌, ◌≤◌, ℤ, List, ◌∙◌, sym, subst, pos}
use Rattle.std.specs.List.{All}
use Rattle.std.proofs.lemmas.List.Elements.{All-push}
use Rattle.mill_base.specs.Lattices.{lattice_xs, lattice_ys, nodes_of}
use Rattle.mill_base.proofs.NodeLemmas.{length-rows}
use Rattle.mill_base.proofs.Ranges.{coordinate}
use Rattle.mill_drop.specs.Drops.{IsHeightFrom}
use Rattle.mill_drop.specs.Maps.{IsHeightAt}
use Rattle.mill_drop.proofs.RowLemmas.{zip_more, zip_all}
use Rattle.mill_drop.proofs.Stored.{tool_stored}
use Rattle.mill_drop.proofs.map.map_in_turn.Goals as goal

pub height_at-requires : goal.height_at-requires
height_at-requires c =
    let lattice = c.args.lattice.now in
    let count = c.nodes-nodes.ensures ∙ sym (length-rows (lattice_xs lattice) (lattice_ys lattice)) in
    rw (coordinate c.args.floor c.requires.floor_ok) (record {
      lattice_ok = c.requires.lattice_ok;
      floor_ok = c.requires.floor_ok;
      number_ok = subst (λ n. c.loop-number.number < n) count c.loop-number-test.true;
    })

pub loop-number-preserved : goal.loop-number-preserved
loop-number-preserved c =
    let lattice = c.args.lattice.now in
    let count = c.nodes-nodes.ensures ∙ sym (length-rows (lattice_xs lattice) (lattice_ys lattice)) in
    let inside = subst (λ n. c.loop-number.number < n) count c.loop-number-test.true in
    let more = rw (tool_stored c.height_at.result c.height_at.ensures.bound.in_range) at c.in_ok-push.ensures.items in
    let floor = coordinate c.args.floor c.requires.floor_ok in
    let before : All (IsHeightFrom c.args.tool.now c.args.floor) c.loop-number.dropped.items = rw floor at c.loop-number.invariant.1 in
    let bound : IsHeightFrom c.args.tool.now c.args.floor c.height_at.result = rw floor at c.height_at.ensures.bound in (
      zip_more (IsHeightAt c.args.tool.now c.args.part.now _) (nodes_of lattice) c.loop-number.dropped.items c.push.new.self.items c.loop-number.number (pos 0, pos 0) c.height_at.result inside c.loop-number.invariant.0
          c.height_at.ensures.height more,
      rw floor (subst (λ (zs : List ℤ). All (IsHeightFrom c.args.tool.now c.args.floor) zs) (sym more)
          (All-push (IsHeightFrom c.args.tool.now c.args.floor) c.loop-number.dropped.items c.height_at.result before bound)),
    )

pub returns-clause-heights : goal.returns-clause-heights
returns-clause-heights c =
    let lattice = c.args.lattice.now in
    let count = c.nodes-nodes.ensures ∙ sym (length-rows (lattice_xs lattice) (lattice_ys lattice)) in
    let end = subst (λ n. n ≤ c.loop-number.number) count c.loop-number-test.false in
    zip_all (IsHeightAt c.args.tool.now c.args.part.now c.args.floor) (nodes_of lattice) c.loop-number.dropped.items c.loop-number.number end
    (rw (coordinate c.args.floor c.requires.floor_ok) at c.loop-number.invariant.0)

pub returns-clause-bound : goal.returns-clause-bound
returns-clause-bound c = rw (coordinate c.args.floor c.requires.floor_ok) at c.loop-number.invariant.1
