-- A triangle clipped by a level: what holds of the corners over the level or on it, and of the points where edges cross the level, holds of the whole clipped triangle.
use Rattle.std.proofs.Common.{◌≡◌, ◌⊎◌, inl, inr, arith}
use lib.IntN.{ℤ, pos, ◌+ℤ◌, ◌-ℤ◌, ◌*ℤ◌}
use lib.Signed.{◌<ℤ◌, ◌≤ℤ◌}
use Rattle.std.proofs.lemmas.Int.{ints}
use Rattle.mill_base.proofs.Exit.{split_lt}
use Rattle.mill_geom.proofs.SideCerts.{shrink, alone_zero, pair_zero, level_cross, add_three, add_first, add_two, clip_one, clip_two}

-- a quantity is not negative where the edge from a corner over the level, at the height z, comes to it before the corner under it, at w
abbrev pub AtCrossing : ℤ → ℤ → ℤ → ℤ → Type 0
AtCrossing z w f g = (pos 0) <ℤ z → w <ℤ pos 0 → (pos 0) ≤ℤ ((pos 0 -ℤ w) *ℤ f +ℤ z *ℤ g)

-- the same where the first corner may be on the level, too
abbrev AtEdge : ℤ → ℤ → ℤ → ℤ → Type 0
AtEdge z w f g = (pos 0) ≤ℤ ((pos 0 -ℤ w) *ℤ f +ℤ z *ℤ g)

zero : (x : ℤ) → x ≤ℤ pos 0 → (pos 0) ≤ℤ x → x ≡ pos 0
zero x h k = omega (arith, ints)

weak : (x : ℤ) → x <ℤ pos 0 → x ≤ℤ pos 0
weak x h = omega (arith, ints)

edge : (z w f g : ℤ) → (pos 0) ≤ℤ z → w <ℤ pos 0 → (pos 0) ≤ℤ f → AtCrossing z w f g → AtEdge z w f g
edge z w f g hz hw hf h = elim (split_lt (pos 0) z) [ inl l ↦ h l hw | inr l ↦ level_cross z w f g (zero z l hz) hw hf ]

-- one corner over the level or on it
one : (u v w p q s f g h : ℤ) → (pos 0) ≤ℤ u → (pos 0) ≤ℤ v → (pos 0) ≤ℤ w → (pos 0) ≤ℤ p → q <ℤ pos 0 → s <ℤ pos 0 → (pos 0) ≤ℤ f → AtCrossing p q f g → AtCrossing p s f h
    → (pos 0) ≤ℤ ((u *ℤ p +ℤ v *ℤ q) +ℤ w *ℤ s) → (pos 0) ≤ℤ ((u *ℤ f +ℤ v *ℤ g) +ℤ w *ℤ h)
one u v w p q s f g h hu hv hw hp hq hs hf fg fh hz = elim (split_lt (pos 0) p) [
  | inl l ↦ shrink p _ l (clip_one u v w p q s f g h hu hv hw hf (fg l hq) (fh l hs) hz)
  | inr l ↦ add_first u v w f g h hu (zero v (alone_zero u v w p q s hu hv hw l hq hs hz) hv)
      (zero w (alone_zero u w v p s q hu hw hv l hs hq (turned (u *ℤ p) (v *ℤ q) (w *ℤ s) hz)) hw) hf
]
  where
    turned : (x y z : ℤ) → (pos 0) ≤ℤ ((x +ℤ y) +ℤ z) → (pos 0) ≤ℤ ((x +ℤ z) +ℤ y)
    turned x y z h = omega (arith, ints)

-- two corners over the level or on it
two : (u v w p q s f g h : ℤ) → (pos 0) ≤ℤ u → (pos 0) ≤ℤ v → (pos 0) ≤ℤ w → (pos 0) ≤ℤ p → (pos 0) ≤ℤ q → s <ℤ pos 0 → (pos 0) ≤ℤ f → (pos 0) ≤ℤ g → AtCrossing p s f h → AtCrossing q s g h
    → (pos 0) ≤ℤ ((u *ℤ p +ℤ v *ℤ q) +ℤ w *ℤ s) → (pos 0) ≤ℤ ((u *ℤ f +ℤ v *ℤ g) +ℤ w *ℤ h)
two u v w p q s f g h hu hv hw hp hq hs hf hg fh gh hz = elim (split_lt (pos 0) (u *ℤ p +ℤ v *ℤ q)) [
  | inl l ↦ shrink (u *ℤ p +ℤ v *ℤ q) _ l (clip_two u v w p q s f g h hu hv hw hf hg (edge p s f h hp hs hf fh) (edge q s g h hq hs hg gh) hz)
  | inr l ↦ add_two u v w f g h hu hv (zero w (pair_zero u v w p q s hw hs l hz) hw) hf hg
]

turn : (x y z : ℤ) → (pos 0) ≤ℤ ((x +ℤ y) +ℤ z) → (pos 0) ≤ℤ ((y +ℤ z) +ℤ x)
turn x y z h = omega (arith, ints)

turn_back : (x y z : ℤ) → (pos 0) ≤ℤ ((y +ℤ z) +ℤ x) → (pos 0) ≤ℤ ((x +ℤ y) +ℤ z)
turn_back x y z h = omega (arith, ints)

-- a linear quantity that isn't negative at the corners over the level or on it, and where the edges cross the level, isn't negative at any point of the triangle over the level or on it
pub clip : (u v w p q s f g h : ℤ) → (pos 0) ≤ℤ u → (pos 0) ≤ℤ v → (pos 0) ≤ℤ w → ((pos 0) ≤ℤ p → (pos 0) ≤ℤ f) → ((pos 0) ≤ℤ q → (pos 0) ≤ℤ g) → ((pos 0) ≤ℤ s → (pos 0) ≤ℤ h)
    → AtCrossing p q f g → AtCrossing q p g f → AtCrossing q s g h → AtCrossing s q h g → AtCrossing s p h f → AtCrossing p s f h
    → (pos 0) ≤ℤ ((u *ℤ p +ℤ v *ℤ q) +ℤ w *ℤ s) → (pos 0) ≤ℤ ((u *ℤ f +ℤ v *ℤ g) +ℤ w *ℤ h)
clip u v w p q s f g h hu hv hw hf hg hh pq qp qs sq sp ps hz = by (split_lt p (pos 0)) (split_lt q (pos 0)) (split_lt s (pos 0))
  where
    once : (pos 0) ≤ℤ ((v *ℤ q +ℤ w *ℤ s) +ℤ u *ℤ p)
    once = turn (u *ℤ p) (v *ℤ q) (w *ℤ s) hz

    twice : (pos 0) ≤ℤ ((w *ℤ s +ℤ u *ℤ p) +ℤ v *ℤ q)
    twice = turn (v *ℤ q) (w *ℤ s) (u *ℤ p) once

    back : (pos 0) ≤ℤ ((v *ℤ g +ℤ w *ℤ h) +ℤ u *ℤ f) → (pos 0) ≤ℤ ((u *ℤ f +ℤ v *ℤ g) +ℤ w *ℤ h)
    back e = turn_back (u *ℤ f) (v *ℤ g) (w *ℤ h) e

    back_twice : (pos 0) ≤ℤ ((w *ℤ h +ℤ u *ℤ f) +ℤ v *ℤ g) → (pos 0) ≤ℤ ((u *ℤ f +ℤ v *ℤ g) +ℤ w *ℤ h)
    back_twice e = back (turn_back (v *ℤ g) (w *ℤ h) (u *ℤ f) e)

    by : (p <ℤ pos 0) ⊎ ((pos 0) ≤ℤ p) → (q <ℤ pos 0) ⊎ ((pos 0) ≤ℤ q) → (s <ℤ pos 0) ⊎ ((pos 0) ≤ℤ s) → (pos 0) ≤ℤ ((u *ℤ f +ℤ v *ℤ g) +ℤ w *ℤ h)
    by (inr x) (inr y) (inr z) = add_three u v w f g h hu hv hw (hf x) (hg y) (hh z)
    by (inr x) (inr y) (inl z) = two u v w p q s f g h hu hv hw x y z (hf x) (hg y) ps qs hz
    by (inl x) (inr y) (inr z) = back (two v w u q s p g h f hv hw hu y z x (hg y) (hh z) qp sp once)
    by (inr x) (inl y) (inr z) = back_twice (two w u v s p q h f g hw hu hv z x y (hh z) (hf x) sq pq twice)
    by (inr x) (inl y) (inl z) = one u v w p q s f g h hu hv hw x y z (hf x) pq ps hz
    by (inl x) (inr y) (inl z) = back (one v w u q s p g h f hv hw hu y z x (hg y) qs qp once)
    by (inl x) (inl y) (inr z) = back_twice (one w u v s p q h f g hw hu hv z x y (hh z) sp sq twice)
    by (inl x) (inl y) (inl z) =
        let none_v = zero v (alone_zero u v w p q s hu hv hw (weak p x) y z hz) hv in
        let none_w = zero w (alone_zero v w u q s p hv hw hu (weak q y) z x once) hw in
        let none_u = zero u (alone_zero w u v s p q hw hu hv (weak s z) x y twice) hu in
        empty none_u none_v none_w
      where
        empty : u ≡ pos 0 → v ≡ pos 0 → w ≡ pos 0 → (pos 0) ≤ℤ ((u *ℤ f +ℤ v *ℤ g) +ℤ w *ℤ h)
        empty eu ev ew = rw (eu, ev, ew) (omega (arith, ints))
