-- The order of crossings is total, and tells edges apart.
use Rattle.std.proofs.Common.{◌≡◌, ℕ, ◌<◌, true, false, Ordering, Less, Equal, Greater, nat_cmp, is_lt, is_gt, refl, sym, ◌∙◌, ap, subst}
use Rattle.std.specs.Ordering.{MatchOrdering, bool_cmp, ordering_reverse, ordering_then}
use Rattle.std.specs.Cmp.{IsTotalOrder, IsStrictWeakOrder, then_total, on_total, int_cmp_total, nat_cmp_total, bool_cmp_total, ranks, upto}
use Rattle.mill_geom.specs.declared.touch.Axis.{Axis}
use Rattle.mill_geom.specs.declared.touch.Axis.TheVariants.{X, Y}
use Rattle.mill_level.specs.Grids.{is_along_y}
use Rattle.mill_level.specs.Crossings.{Crossing}
use Rattle.mill_level.specs.Chains.{Chain, order, comes_before, starts_before}
use Rattle.mill_level.proofs.Edges.{same_parts}

order_total : IsTotalOrder order
order_total = then_total (then_total (then_total (then_total (on_total (λ (c : Crossing). c.x) int_cmp_total) (on_total (λ (c : Crossing). c.y) int_cmp_total))
    (on_total (λ (c : Crossing). c.edge.column) nat_cmp_total)) (on_total (λ (c : Crossing). c.edge.row) nat_cmp_total)) (on_total (λ (c : Crossing). is_along_y c.edge.axis) bool_cmp_total)

module _ {K : Type 0} {R : K → K → Ordering} (o : IsTotalOrder R) where
  turned : (r : Ordering) → is_lt (ordering_reverse r) ≡ is_gt r
  turned Less = refl
  turned Equal = refl
  turned Greater = refl

  back : (x y : K) → is_lt (R x y) ≡ is_gt (R y x)
  back x y = ap is_lt (o.antisymm x y) ∙ turned (R y x)

  not_both : (r : Ordering) → is_lt r ≡ true → is_gt r ≡ false
  not_both Less e = refl
  not_both Equal e = refl
  not_both Greater e = sym e

  weak_order : IsStrictWeakOrder (λ x y. is_lt (R x y))
  weak_order = record {
    one_way = λ x y e. back y x ∙ not_both (R x y) e;
    chain = λ x y z e f. back x z ∙ upto o z y x (sym (back y z) ∙ f) (sym (back x y) ∙ e);
  }

  neither : (r : Ordering) → is_lt r ≡ false → is_gt r ≡ false → r ≡ Equal
  neither Less e f = cc
  neither Equal e f = refl
  neither Greater e f = cc

  tied : (x y : K) → is_lt (R x y) ≡ false → is_lt (R y x) ≡ false → R x y ≡ Equal
  tied x y e f = neither (R x y) e (sym (back y x) ∙ f)

pub starts_before_weak : IsStrictWeakOrder starts_before
starts_before_weak = weak_order (on_total (λ (chain : Chain). chain.first) order_total)

both_tied : (r s : Ordering) → ordering_then r s ≡ Equal → (r ≡ Equal) × (s ≡ Equal)
both_tied Less s e = (e, cc)
both_tied Equal s e = (refl, e)
both_tied Greater s e = (e, cc)

equal_numbers : (a b : ℕ) → nat_cmp a b ≡ Equal → a ≡ b
equal_numbers a b e = subst (λ (r : Ordering). MatchOrdering r (a < b) (a ≡ b) (b < a)) e (ranks a b)

equal_axes : (a b : Axis) → bool_cmp (is_along_y a) (is_along_y b) ≡ Equal → a ≡ b
equal_axes X X e = refl
equal_axes X Y e = cc
equal_axes Y X e = cc
equal_axes Y Y e = refl

-- where neither of two crossings comes before the other, their edges are one
pub edges_of_tied : (c d : Crossing) → comes_before c d ≡ false → comes_before d c ≡ false → c.edge ≡ d.edge
edges_of_tied c d e f =
    let axis = both_tied _ _ (tied order_total c d e f) in
    let row = both_tied _ _ axis.0 in
    let column = both_tied _ _ row.0 in
    same_parts c.edge d.edge (equal_numbers c.edge.column d.edge.column column.1) (equal_numbers c.edge.row d.edge.row row.1) (equal_axes c.edge.axis d.edge.axis axis.1)
