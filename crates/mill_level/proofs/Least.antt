-- The least of some crossings.
use Rattle.std.proofs.Common.{◌≡◌, ℕ, ◌+◌, ◌<◌, ℤ, Bool, true, false, List, length, get_or, refl, sym, ap, ◌∙◌, arith, below_more}
use Rattle.std.specs.declared.option.Option.{Option}
use Rattle.std.specs.declared.option.Option.TheVariants.{Some}
use Rattle.std.specs.declared.cmp.Ordering.{Ordering}
use Rattle.std.specs.Ordering.{partial_lt, partial_ordering_then, int_cmp, nat_cmp, bool_cmp}
use Rattle.std.specs.Cmp.{IsTotalOrder, IsStrictWeakOrder, Some-then, then_total, on_total, int_cmp_total, nat_cmp_total, bool_cmp_total}
use Rattle.std.proofs.lemmas.List.MinMax.{ranks_by}
use Rattle.mill_level.specs.declared.edge.Edge.{Edge}
use Rattle.mill_level.specs.declared.grid.LevelMap.{LevelMap}
use Rattle.mill_level.specs.Grids.{is_along_y}
use Rattle.mill_level.specs.Crossings.{Crossing}
use Rattle.mill_level.specs.Chains.{order, comes_before}
use Rattle.mill_level.specs.inner.Maps.{crossing_at}
use Rattle.mill_level.specs.inner.Trails.{rank_of}
use Rattle.std.proofs.lemmas.List.{get_or_default}

order_total : IsTotalOrder order
order_total = then_total (then_total (then_total (then_total
    (on_total (λ (c : Crossing). c.x) int_cmp_total) (on_total (λ (c : Crossing). c.y) int_cmp_total))
    (on_total (λ (c : Crossing). c.edge.column) nat_cmp_total)) (on_total (λ (c : Crossing). c.edge.row) nat_cmp_total))
    (on_total (λ (c : Crossing). is_along_y c.edge.axis) bool_cmp_total)

pub ordered : IsStrictWeakOrder comes_before
ordered = ranks_by order_total (λ (c : Crossing). c)

pub not_before_itself : (c : Crossing) → comes_before c c ≡ false
not_before_itself c = by (comes_before c c) refl
  where
    by : (b : Bool) → comes_before c c ≡ b → b ≡ false
    by true e = sym e ∙ ordered.one_way c c e
    by false e = refl

-- of the edges below this many, none has a crossing that comes before that at one of them
abbrev pub IsLeastBelow : LevelMap → List Edge → ℕ → ℕ → Type 0
IsLeastBelow level edges n at = (k : ℕ) (d : Edge) → k < n → comes_before (crossing_at level (get_or edges k d)) (crossing_at level (get_or edges at d)) ≡ false

-- how the code compares ranks
abbrev pub Rank : Type 0
Rank = ℤ × ℤ × ℕ × ℕ × Bool

abbrev pub compared : Rank → Rank → Option Ordering
compared x y =
    partial_ordering_then (partial_ordering_then (partial_ordering_then (partial_ordering_then
    (Some (int_cmp x.0 y.0)) (Some (int_cmp x.1 y.1))) (Some (nat_cmp x.2 y.2))) (Some (nat_cmp x.3 y.3))) (Some (bool_cmp x.4 y.4))

pub rank_below : (a b : Crossing) → partial_lt compared (rank_of a) (rank_of b) ≡ comes_before a b
rank_below a b = simp Some-then refl

pub tells_before : (a b : Crossing) (r q : Rank) (s t : Bool) → r ≡ rank_of a → q ≡ rank_of b → s ≡ partial_lt compared r q → s ≡ t → comes_before a b ≡ t
tells_before a b r q s t e f h g =
    sym (rank_below a b) ∙ sym (h ∙ ap (λ (x : Rank). partial_lt compared x q) e ∙ ap (λ (x : Rank). partial_lt compared (rank_of a) x) f) ∙ g

module _ (level : LevelMap) (edges : List Edge) (n at : ℕ) (e : Edge) where
  abbrev at_edge : ℕ → Edge → Crossing
  at_edge k d = crossing_at level (get_or edges k d)

  same_at : (k : ℕ) (d : Edge) → k < length edges → crossing_at level (get_or edges k d) ≡ crossing_at level (get_or edges k e)
  same_at k d lt = ap (crossing_at level) (get_or_default edges k d e lt)

  pub least_still : at < n → n < length edges → IsLeastBelow level edges n at
      → comes_before (crossing_at level (get_or edges n e)) (crossing_at level (get_or edges at e)) ≡ false → IsLeastBelow level edges (n + 1) at
  least_still below within h not_less k d lt =
      below_more (λ j. comes_before (crossing_at level (get_or edges j d)) (crossing_at level (get_or edges at d)) ≡ false) n (λ j. h j d)
      (rw (same_at n d within, same_at at d (omega arith)) not_less) k lt

  pub least_now : at < n → n < length edges → IsLeastBelow level edges n at
      → comes_before (crossing_at level (get_or edges n e)) (crossing_at level (get_or edges at e)) ≡ true → IsLeastBelow level edges (n + 1) n
  least_now below within h less k d lt =
      below_more (λ j. comes_before (crossing_at level (get_or edges j d)) (crossing_at level (get_or edges n d)) ≡ false) n
      (λ j l. ordered.chain (at_edge j d) (at_edge at d) (at_edge n d) (h j d l)
      (rw (same_at n d within, same_at at d (omega arith)) (ordered.one_way (at_edge n e) (at_edge at e) less)))
      (not_before_itself (at_edge n d)) k lt
