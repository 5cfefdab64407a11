use Rattle.std.proofs.Common.{◌≡◌, ℕ, ◌<◌, ◌-◌, ◌∙◌, length, sym, ap, subst, arith}
use Rattle.std.specs.Prelude.{ℤ, pos, List, All, IfOk}
use Rattle.std.specs.List.{AllZip, range_with_len}
use Rattle.rayon.specs.Numbers.{nat_range}
use Rattle.rayon.proofs.ListFacts.{AllZip-weaken, IfOk-then}
use Rattle.rayon.proofs.ToStd.{nat_range-All}
use Rattle.mill_base.specs.Lattices.{lattice_xs, lattice_ys, nodes_of, node_at}
use Rattle.mill_base.proofs.Ranges.{coordinate}
use Rattle.mill_drop.specs.Drops.{IsHeightFrom}
use Rattle.mill_drop.specs.Maps.{AreDropHeights, IsHeightAt, IsNodeTask}
use Rattle.mill_base.proofs.NodeLemmas.{length-rows}
use Rattle.mill_drop.proofs.Listed.{AllZip-listed, AllZip-second}
use Rattle.mill_drop.proofs.map.map_by_threads.Goals as goal

pub collect-requires-clause-ready : goal.collect-requires-clause-ready
collect-requires-clause-ready g c κs =
    let n : ℕ = c.nodes-nodes.result in
    let ends = c.into_par_iter.ensures in
    let all : n ≡ length (nodes_of c.args.lattice.now) = c.nodes-nodes.ensures ∙ sym (length-rows (lattice_xs c.args.lattice.now) (lattice_ys c.args.lattice.now)) in
    let inside = nat_range-All (λ i. IsNodeTask c.args.lattice.now c.args.floor i) 0 n (λ i low high.
    record {
      lattice_ok = c.requires.lattice_ok;
      floor_ok = c.requires.floor_ok;
      number_ok = subst (λ m. i < m) all high;
    }) in
    λ lifetimes. rw (c.map.ensures.base, c.map.ensures.f, ends.0, ends.1, coordinate c.args.floor c.requires.floor_ok) (λ k d lt. (inside k d lt, λ y p. tt))

pub returns-clause-heights : goal.returns-clause-heights
returns-clause-heights g c =
    let n : ℕ = c.nodes-nodes.result in
    let ends = c.into_par_iter.ensures in
    let whole : n - 0 ≡ n = omega arith in
    let nodes : List (ℤ × ℤ) = nodes_of c.args.lattice.now in
    let count : n ≡ length nodes = c.nodes-nodes.ensures ∙ sym (length-rows (lattice_xs c.args.lattice.now) (lattice_ys c.args.lattice.now)) in
    let all : IfOk c.collect.result (λ heights. AreDropHeights c.args.tool.now c.args.part.now c.args.floor c.args.lattice.now heights.items) =
    IfOk-then c.collect.result _ _ c.collect.ensures (λ v h.
    let chain = rw (c.map.ensures.base, c.map.ensures.f, coordinate c.args.floor c.requires.floor_ok) at h.1 in
    let places : chain.0 ≡ range_with_len 0 (length nodes) = chain.1 ∙ (λ i. nat_range (ends.0 i) (ends.1 i)) ∙ ap (range_with_len 0) (whole ∙ count) in
    let both = subst (λ ks. AllZip (λ k z. IsHeightAt c.args.tool.now c.args.part.now c.args.floor (node_at c.args.lattice.now k) z × IsHeightFrom c.args.tool.now c.args.floor z) ks h.0) places chain.2 in
    let each = AllZip-weaken _ (λ k z. IsHeightAt c.args.tool.now c.args.part.now c.args.floor (node_at c.args.lattice.now k) z) (λ k z pair. pair.0) (range_with_len 0 (length nodes)) h.0 both in
    let listed = AllZip-listed (IsHeightAt c.args.tool.now c.args.part.now c.args.floor) nodes (pos 0, pos 0) h.0 each in
    subst (λ zs. AllZip (IsHeightAt c.args.tool.now c.args.part.now c.args.floor) nodes zs) (sym h.2) listed) in
    rw c.in_ok-heights.was at all

pub returns-clause-bound : goal.returns-clause-bound
returns-clause-bound g c =
    let all : IfOk c.collect.result (λ heights. All (IsHeightFrom c.args.tool.now c.args.floor) heights.items) =
    IfOk-then c.collect.result _ _ c.collect.ensures (λ v h.
    let chain = rw (c.map.ensures.base, c.map.ensures.f, coordinate c.args.floor c.requires.floor_ok) at h.1 in
    subst (λ zs. All (IsHeightFrom c.args.tool.now c.args.floor) zs) (sym h.2) (AllZip-second _ (IsHeightFrom c.args.tool.now c.args.floor) (λ k z pair. pair.1) chain.0 h.0 chain.2)) in
    rw c.in_ok-heights.was at all
