-- The last free position on the way to a blocked one, by the number of positions gone.
use Rattle.std.specs.Prelude.{◌≡◌, ℕ, ◌+◌, ◌≤◌, nat_abs, ℤ, pos, ◌+ℤ◌, ◌-ℤ◌, ◌≤ℤ◌, List}
use Rattle.std.proofs.Common.{arith, sym, subst, ap, ◌∙◌}
use Rattle.std.proofs.lemmas.Int.{ints}
use Rattle.mill_base.specs.Tools.{ToolGouges}
use Rattle.mill_base.specs.Points.{point_at}
use Rattle.mill_base.specs.declared.points.Pt3.{Pt3}
use Rattle.mill_base.specs.declared.points.Tri.{Tri}
use Rattle.mill_base.specs.declared.tool.Tool.{Tool}
use Rattle.mill_base.specs.declared.lattice.Lattice.{Lattice}
use Rattle.mill_level.specs.Crossings.{Crossing, HasLastFree, on_the_way}
use Rattle.mill_level.specs.Grids.{Grid}
use Rattle.mill_level.specs.inner.Fibers.{IsDown, IsUp}

-- the place is k positions on the way, all up to there are free, and the next one is blocked
pub record IsOnWay (Blocked : ℤ → Type 0) (way : ℕ → ℤ) (place : ℤ) : Type 0 where
  pub k : ℕ
  pub here : way k ≡ place
  pub free : (n : ℕ) → n ≤ k → ¬ Blocked (way n)
  pub blocked : Blocked (way (k + 1))

module _ (Blocked : ℤ → Type 0) (low high place : ℤ) where
  pub way_up : IsUp Blocked low high place → IsOnWay Blocked (λ n. low +ℤ pos n) place
  way_up h = record {
    k = nat_abs (place -ℤ low);
    here = reaches low place h.from;
    free = λ n upto. h.free (low +ℤ pos n) (over low n) (within low place n h.from upto);
    blocked = subst Blocked (next low place h.from) h.blocked;
  }
    where
      reaches : (a b : ℤ) → a ≤ℤ b → (a +ℤ pos (nat_abs (b -ℤ a))) ≡ b
      reaches a b h = omega (h, arith, ints)

      over : (a : ℤ) (n : ℕ) → a ≤ℤ (a +ℤ pos n)
      over a n = omega (arith, ints)

      within : (a b : ℤ) (n : ℕ) → a ≤ℤ b → n ≤ nat_abs (b -ℤ a) → (a +ℤ pos n) ≤ℤ b
      within a b n h e = omega (h, e, arith, ints)

      next : (a b : ℤ) → a ≤ℤ b → (b +ℤ pos 1) ≡ (a +ℤ pos (nat_abs (b -ℤ a) + 1))
      next a b h = omega (h, arith, ints)

  pub way_down : IsDown Blocked low high place → IsOnWay Blocked (λ n. high +ℤ (pos 0 -ℤ pos n)) place
  way_down h = record {
    k = nat_abs (high -ℤ place);
    here = reaches high place h.to;
    free = λ n upto. h.free (high +ℤ (pos 0 -ℤ pos n)) (within high place n h.to upto) (under high n);
    blocked = subst Blocked (next high place h.to) h.blocked;
  }
    where
      reaches : (a b : ℤ) → b ≤ℤ a → (a +ℤ (pos 0 -ℤ pos (nat_abs (a -ℤ b)))) ≡ b
      reaches a b h = omega (h, arith, ints)

      under : (a : ℤ) (n : ℕ) → (a +ℤ (pos 0 -ℤ pos n)) ≤ℤ a
      under a n = omega (arith, ints)

      within : (a b : ℤ) (n : ℕ) → b ≤ℤ a → n ≤ nat_abs (a -ℤ b) → b ≤ℤ (a +ℤ (pos 0 -ℤ pos n))
      within a b n h e = omega (h, e, arith, ints)

      next : (a b : ℤ) → b ≤ℤ a → (b -ℤ pos 1) ≡ (a +ℤ (pos 0 -ℤ pos (nat_abs (a -ℤ b) + 1)))
      next a b h = omega (h, arith, ints)

-- a crossing that is such a place
pub last_free : (tool : Tool) (part : List Tri) (z : ℤ) (lattice : Lattice) (grid : Grid) (c : Crossing) (tip : ℤ → Pt3) (way : ℕ → ℤ) (place : ℤ)
    → IsOnWay (λ v. ToolGouges tool (pos 1) (tip v) part) way place → ((n : ℕ) → on_the_way lattice z grid c.edge n ≡ tip (way n)) → point_at c.x c.y z ≡ tip place
    → HasLastFree tool part z lattice grid c
last_free tool part z lattice grid c tip way place h goes is = record {
  k = h.k;
  place = is ∙ ap tip (sym h.here) ∙ sym (goes h.k);
  free = λ n upto. subst (λ p. ¬ ToolGouges tool (pos 1) p part) (sym (goes n)) (h.free n upto);
  blocked = subst (λ p. ToolGouges tool (pos 1) p part) (sym (goes (h.k + 1))) h.blocked;
}
