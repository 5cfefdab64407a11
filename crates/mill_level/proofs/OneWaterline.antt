-- There is at most one waterline.
use Rattle.std.proofs.Common.{◌≡◌, ◌<◌, ◌≤◌, Bool, true, false, if◌then◌else◌, List, map, Contains, sym, ◌∙◌, ap, subst, arith}
use Rattle.mill_level.specs.declared.edge.Edge.{Edge}
use Rattle.mill_level.specs.Grids.{Grid, is_crossing}
use Rattle.mill_level.specs.Joins.{JoinsAreApart}
use Rattle.mill_level.specs.Crossings.{Crossing, HasLastFree}
use Rattle.mill_level.specs.Chains.{AreChains, Chain, crossings_of, starts_before, times, times_in}
use Rattle.mill_level.specs.Waterlines.{OneWaterline, outline}
use Rattle.mill_level.proofs.CrossingOrder.{edges_of_tied, starts_before_weak}
use Rattle.mill_level.proofs.Members.{IsDistinct, IsIn, contains_in, distinct_from_counts, member_counts, member_of_sum, one_counts}
use Rattle.mill_level.proofs.SameChain.{IsOn, IsPlaced, first_is_on, has_all, on_from_times, same_chain, times_from_on}
use Rattle.mill_level.proofs.SameGrid.{same_crossing, same_grid}
use Rattle.mill_level.proofs.SameList.{ascends_from_sorted, same_list}

module _ (grid : Grid) (apart : JoinsAreApart) (P : Crossing → Type 0) (one_place : (c d : Crossing) → P c → P d → c.edge ≡ d.edge → c ≡ d) where
  -- the grid's chains, each crossing at its place
  pub record ArePlaced (chains : List Chain) : Type 0 where
    pub are : AreChains grid chains
    pub places : (chain : Chain) (c : Crossing) → Contains chains chain → Contains (crossings_of chain) c → P c

  -- an edge stands once in all chains
  at_most : (e : Edge) (chains : List Chain) → ArePlaced chains → times e chains ≤ 1
  at_most e chains h = by (is_crossing grid e) (h.are.once e)
    where
      by : (b : Bool) → times e chains ≡ (if b then 1 else 0) → times e chains ≤ 1
      by true k = omega arith
      by false k = omega arith

  placed : (chains : List Chain) → ArePlaced chains → (a : Chain) → IsIn a chains → IsPlaced grid apart P one_place a
  placed chains h a k = record {
    is = h.are.each a (contains_in a chains k);
    placed = λ c m. h.places a c (contains_in a chains k) (contains_in c (crossings_of a) m);
    once = λ e. omega (arith, at_most e chains h, member_counts (times_in e) a chains k);
  }

  -- a chain of the one list has its first crossing in a chain of the other
  found : (ours theirs : List Chain) → ArePlaced ours → ArePlaced theirs → (a : Chain) → IsIn a ours → (b : Chain) × IsIn b theirs × IsOn a.first.edge b
  found ours theirs h g a k =
      let e = a.first.edge in
      let here : 0 < times e theirs = omega (arith, h.are.once e, g.are.once e, times_from_on e a (first_is_on a), member_counts (times_in e) a ours k) in
      let m = member_of_sum (times_in e) theirs here in
      (m.0, m.1, on_from_times e m.0 m.2)

  -- a chain that has an edge of a chain of the list is that one
  same_by_edge : (ours : List Chain) → ArePlaced ours → (a b : Chain) (e : Edge) → IsIn a ours → IsIn b ours → IsOn e a → IsOn e b → a ≡ b
  same_by_edge ours h a b e k m on at = one_counts (times_in e) ours a b (at_most e ours h) k m (times_from_on e a on) (times_from_on e b at)

  -- each chain of the one list is a chain of the other
  stands : (ours theirs : List Chain) → ArePlaced ours → ArePlaced theirs → (a : Chain) → IsIn a ours → IsIn a theirs
  stands ours theirs h g a k =
      let m = found ours theirs h g a k in
      let n = found theirs ours g h m.0 m.1 in
      let is : IsPlaced grid apart P one_place a = placed ours h a k in
      let there : IsPlaced grid apart P one_place m.0 = placed theirs g m.0 m.1 in
      let back : IsPlaced grid apart P one_place n.0 = placed ours h n.0 n.1 in
      let e : n.0 ≡ a = same_by_edge ours h n.0 a a.first.edge n.1 k (has_all grid apart m.0 n.0 there.is back.is n.2 a.first.edge m.2) (first_is_on a) in
      let same : a ≡ m.0 = same_chain grid apart P one_place a m.0 is there m.2 (subst (IsOn m.0.first.edge) e n.2) in
      subst (λ (x : Chain). IsIn x theirs) (sym same) m.1

  tied : (ours theirs : List Chain) → ArePlaced ours → ArePlaced theirs → (a b : Chain) → IsIn a ours → IsIn b theirs → starts_before a b ≡ false → starts_before b a ≡ false → a ≡ b
  tied ours theirs h g a b k m p q =
      let e : b.first.edge ≡ a.first.edge = sym (edges_of_tied a.first b.first p q) in
      same_by_edge ours h a b a.first.edge k (stands theirs ours g h b m) (first_is_on a) (subst (λ (f : Edge). IsOn f b) e (first_is_on b))

  distinct : (ours : List Chain) → ArePlaced ours → IsDistinct ours
  distinct ours h = distinct_from_counts (λ (a : Chain). times_in a.first.edge) (λ a. times_from_on a.first.edge a (first_is_on a)) ours (λ a k. at_most a.first.edge ours h)

  pub same_chains : (ours theirs : List Chain) → ArePlaced ours → ArePlaced theirs → ours ≡ theirs
  same_chains ours theirs h g = same_list starts_before ours theirs
      (ascends_from_sorted starts_before starts_before_weak ours h.are.ordered) (ascends_from_sorted starts_before starts_before_weak theirs g.are.ordered)
      (distinct ours h) (distinct theirs g) (stands ours theirs h g) (stands theirs ours g h) (tied ours theirs h g)

-- two waterlines of a part at a height are equal
pub one_waterline : JoinsAreApart → OneWaterline
one_waterline apart tool part z lattice outlines others h g =
    let same : g.grid ≡ h.grid = same_grid tool part z lattice g.grid h.grid g.tells h.tells in
    let P = HasLastFree tool part z lattice h.grid in
    let one_place : (c d : Crossing) → P c → P d → c.edge ≡ d.edge → c ≡ d = same_crossing tool part z lattice h.grid in
    let ours : ArePlaced h.grid apart P one_place h.chains = record { are = h.are_chains; places = h.places } in
    let theirs : ArePlaced h.grid apart P one_place g.chains = record {
      are = subst (λ (x : Grid). AreChains x g.chains) same g.are_chains;
      places = λ chain c k m. subst (λ (x : Grid). HasLastFree tool part z lattice x c) same (g.places chain c k m);
    } in
    h.points ∙ ap (map (outline z)) (same_chains h.grid apart P one_place h.chains g.chains ours theirs) ∙ sym g.points
