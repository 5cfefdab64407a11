-- A tool that passes a part on a move passes it on the same move at greater heights.
use Rattle.std.specs.Prelude.{◌≡◌, ℕ, zero, suc, ◌+◌, ◌*◌, ◌^◌, ◌<◌, ◌&&◌, nat_le, nat_abs, ℤ, pos, ◌+ℤ◌, ◌-ℤ◌, ◌*ℤ◌, ◌<ℤ◌, ◌≤ℤ◌, int_lt, Bool, true, false, cond, List, Option, Some, None, IfSome}
use Rattle.std.proofs.Common.{inl, inr, refl, ap, subst, sym, arith}
use Rattle.std.proofs.lemmas.Int.{ints}
use Rattle.std.proofs.lemmas.Nat.{pow_pos}
use Rattle.mill_base.proofs.Divisions.{floor_div_low, floor_div_high}
use Rattle.mill_base.proofs.SolidLemmas.{higher_once}
use Rattle.mill_base.specs.Numbers.{floor_div, least_from, lesser}
use Rattle.mill_base.specs.Points.{highest, minus, times, point_at}
use Rattle.mill_base.specs.Sizes.{outer, shift}
use Rattle.mill_base.specs.Solids.{Solid, higher}
use Rattle.mill_base.specs.declared.cutter.Cutter.{Cutter}
use Rattle.mill_base.specs.declared.motion.Kind.{Kind}
use Rattle.mill_base.specs.declared.motion.Kind.TheVariants.{Rapid, Feed, Dogleg}
use Rattle.mill_base.specs.declared.motion.Move.{Move}
use Rattle.mill_base.specs.declared.points.Tri.{Tri}
use Rattle.mill_base.specs.declared.tool.Tool.{Tool}
use Rattle.mill_sweep.proofs.Lower.{inside_rises}
use Rattle.mill_sweep.specs.Halving.{Blocks, HalvingPasses, IsFree, LeafPasses}
use Rattle.mill_sweep.specs.Leaves.{depth_of, end_of, length_x, length_y, lower_of}
use Rattle.mill_sweep.specs.Passing.{BoxPasses, Passes, PassesBy}
use Rattle.mill_gouge.specs.Gouges.{PassesPart, ToolPassesPart}
use Rattle.mill_gouge.proofs.RisingCerts.{end_rises, quotient_rises, lower_tip}

-- the move with its ends at these heights
abbrev pub at_heights : Move → ℤ → ℤ → Move
at_heights m f t = record { kind = m.kind; from = point_at m.from.x m.from.y f; to = point_at m.to.x m.to.y t }

some : (n : ℕ) → 0 < n → (pos 0) <ℤ pos n
some n h = omega (arith, ints)

none_less : (n : ℕ) → (pos 0) ≤ℤ pos n
none_less n = omega (arith, ints)

up : (a b c : ℤ) → a ≤ℤ b → b ≤ℤ c → a ≤ℤ c
up a b c p q = omega (p, q, arith, ints)

less_up : (a b c : ℤ) → a ≤ℤ b → b <ℤ c → a <ℤ c
less_up a b c p q = omega (p, q, arith, ints)

-- a quotient rounded down is the greater for a greater number
floor_rises : (y z : ℤ) (n : ℕ) → 0 < n → y ≤ℤ z → floor_div y n ≤ℤ floor_div z n
floor_rises y z n h l = quotient_rises (pos n) (floor_div y n) (floor_div z n) y z (some n h) (floor_div_low y n h) l (floor_div_high z n h)

lesser_rises : (a b c e : ℤ) → a ≤ℤ c → b ≤ℤ e → lesser a b ≤ℤ lesser c e
lesser_rises a b c e p q = by (int_lt b a) refl (int_lt e c) refl
  where
    by : (s : Bool) → int_lt b a ≡ s → (t : Bool) → int_lt e c ≡ t → cond s b a ≤ℤ cond t e c
    by true x true y = q
    by true x false y = omega (p, x, arith, ints)
    by false x true y = omega (q, x, arith, ints)
    by false x false y = p

-- what is blocked at a height is blocked at each lower one
blocks_lower : (cutter : Cutter) (x y q low high : ℤ) (tri : Tri) → low ≤ℤ high → Blocks cutter (record { x = x; y = y; reach = q; zlow = high }) tri
    → Blocks cutter (record { x = x; y = y; reach = q; zlow = low }) tri
blocks_lower cutter x y q low high tri l blocks = let touches = blocks.touches in record {
  over = less_up low high (highest tri) l blocks.over;
  touches = record {
    n = touches.n;
    p = touches.p;
    point = touches.point;
    inside = inside_rises (outer cutter q) (pos 1 *ℤ touches.n) (minus (times (pos 1) touches.p) (times touches.n (point_at x y (high -ℤ shift cutter q)))) (pos 1 *ℤ touches.p.z -ℤ touches.n *ℤ (low -ℤ shift cutter q))
        (lower_tip touches.n touches.p.z low high (shift cutter q) touches.point.some l)
        touches.inside;
  };
}

-- a move with its ends at f and t, and the same one with both of them higher by h
module _ (m : Move) (f t g u h : ℤ) (least : (pos 0) ≤ℤ h) (from_is : g ≡ f +ℤ h) (to_is : u ≡ t +ℤ h) where
  ends_rise : (d k : ℕ) → end_of f t d k ≤ℤ end_of g u d k
  ends_rise d k = rw (from_is, to_is) (end_rises (pos (2 ^ d)) (pos k) f t h (none_less (2 ^ d)) least)

  lower_rises : (d k : ℕ) → lower_of f t d k ≤ℤ lower_of g u d k
  lower_rises d k =
      floor_rises (lesser (end_of f t d k) (end_of f t d (k + 1))) (lesser (end_of g u d k) (end_of g u d (k + 1))) (2 ^ d) (pow_pos d)
      (lesser_rises _ _ _ _ (ends_rise d k) (ends_rise d (k + 1)))

  -- they are halved as often
  as_long : nat_abs (u -ℤ g) ≡ nat_abs (t -ℤ f)
  as_long = omega (from_is, to_is, arith, ints)

  as_deep : depth_of (at_heights m g u) ≡ depth_of (at_heights m f t)
  as_deep = ap (λ (n : ℕ). least_from (λ d. nat_le (length_x m) (2 ^ d) && nat_le (length_y m) (2 ^ d) && nat_le n (2 ^ d)) 64 0) as_long

  -- a leaf that passes by itself does so on the higher move
  free_rises : (cutter : Cutter) (tri : Tri) (d k : ℕ) → IsFree cutter (at_heights m f t) tri d k → IsFree cutter (at_heights m g u) tri d k
  free_rises cutter tri d k (inl free) = inl (free.0, λ blocks. free.1 (blocks_lower cutter _ _ _ (lower_of f t d k) (lower_of g u d k) tri (lower_rises d k) blocks))
  free_rises cutter tri d k (inr under) = inr (up _ _ _ under (lower_rises d k))

  -- and so does one whose halves pass
  leaf_rises : (cutter : Cutter) (tri : Tri) (more d k : ℕ) → LeafPasses cutter (at_heights m f t) tri more d k → LeafPasses cutter (at_heights m g u) tri more d k
  leaf_rises cutter tri zero d k free = free_rises cutter tri d k free
  leaf_rises cutter tri (suc more) d k (inl free) = inl (free_rises cutter tri d k free)
  leaf_rises cutter tri (suc more) d k (inr both) = inr (leaf_rises cutter tri more (d + 1) (2 * k) both.0, leaf_rises cutter tri more (d + 1) (2 * k + 1) both.1)

  halving_rises : (cutter : Cutter) (tri : Tri) → HalvingPasses cutter (at_heights m f t) tri → HalvingPasses cutter (at_heights m g u) tri
  halving_rises cutter tri passes =
      subst (λ (n : ℕ). LeafPasses cutter (at_heights m g u) tri n 0 0) (sym as_deep) (leaf_rises cutter tri (depth_of (at_heights m f t)) 0 0 passes)

  -- a dogleg's box is as wide, and no lower
  box_rises : (cutter : Cutter) (tri : Tri) → BoxPasses cutter (at_heights m f t) tri → BoxPasses cutter (at_heights m g u) tri
  box_rises cutter tri (inl low) = inl (up _ _ _ low (lesser_rises f t g u (no_less f g from_is) (no_less t u to_is)))
    where
      no_less : (a b : ℤ) → b ≡ a +ℤ h → a ≤ℤ b
      no_less a b e = omega (e, least, arith, ints)
  box_rises cutter tri (inr beside) = inr beside

  pub passes_rises : (cutter : Cutter) (tri : Tri) → Passes cutter (at_heights m f t) tri → Passes cutter (at_heights m g u) tri
  passes_rises cutter tri = by m.kind
    where
      by : (kind : Kind) → PassesBy kind cutter (at_heights m f t) tri → PassesBy kind cutter (at_heights m g u) tri
      by Rapid passes = halving_rises cutter tri passes
      by Feed passes = halving_rises cutter tri passes
      by Dogleg passes = box_rises cutter tri passes

-- the same of a solid, which is higher by its lift on both moves, and of a tool
module _ (m : Move) (f t g u h : ℤ) (least : (pos 0) ≤ℤ h) (from_is : g ≡ f +ℤ h) (to_is : u ≡ t +ℤ h) (part : List Tri) where
  stays_over : (a b s : ℤ) → b ≡ a +ℤ h → higher (pos 1) b s ≡ higher (pos 1) a s +ℤ h
  stays_over a b s e = rw (higher_once b s, higher_once a s) (both_up a b s e)
    where
      both_up : (a b s : ℤ) → b ≡ a +ℤ h → (b +ℤ s) ≡ ((a +ℤ s) +ℤ h)
      both_up a b s e = omega (e, arith, ints)

  solid_rises : (solid : Solid) → PassesPart solid (at_heights m f t) part → PassesPart solid (at_heights m g u) part
  solid_rises solid passes i inside =
      let s = solid.lift in
      passes_rises m (higher (pos 1) f s) (higher (pos 1) t s) (higher (pos 1) g s) (higher (pos 1) u s) h least (stays_over f g s from_is) (stays_over t u s to_is) solid.cutter _ (passes i inside)

  holder_rises : (o : Option Solid) → IfSome o (λ holder. PassesPart holder (at_heights m f t) part) → IfSome o (λ holder. PassesPart holder (at_heights m g u) part)
  holder_rises None passes = tt
  holder_rises (Some holder) passes = solid_rises holder passes

  pub tool_rises : (tool : Tool) → ToolPassesPart tool (at_heights m f t) part → ToolPassesPart tool (at_heights m g u) part
  tool_rises tool passes = record {
    cutter = solid_rises tool.cutter passes.cutter;
    holder = holder_rises tool.holder passes.holder;
  }
