-- The flat cutter and a triangle: with no touch on an edge and no hit on the level line, a touch means that the axis goes through.
use Rattle.std.proofs.Common.{◌≡◌, ◌⊎◌, inl, inr, arith}
use lib.IntN.{ℤ, pos, ◌-ℤ◌}
use lib.Signed.{◌<ℤ◌, ◌≤ℤ◌}
use Rattle.std.proofs.lemmas.Int.{ints}
use Rattle.mill_geom.proofs.Descend.{V4, mix, Weights, Hit, Boundary}
use Rattle.mill_geom.proofs.Segments.{zero_or}
use Rattle.mill_geom.proofs.Triangles.{Axis, Still, cross, interior, cross_still, axis_hit, opposite}

-- a hit over the level line
pub record Touch (a b c : V4) : Type 0 where
  pub u : ℤ
  pub v : ℤ
  pub w : ℤ
  pub weights : Weights u v w
  pub hit : Hit a b c u v w
  pub over : (pos 0) <ℤ mix (λ p. p.l) a b c u v w

pub record Clear (a b c : V4) : Type 0 where
  pub edge_bc : (t : Touch a b c) → t.u ≡ pos 0 → ⊥
  pub edge_ca : (t : Touch a b c) → t.v ≡ pos 0 → ⊥
  pub edge_ab : (t : Touch a b c) → t.w ≡ pos 0 → ⊥
  pub level : (u v w : ℤ) → Weights u v w → Hit a b c u v w → mix (λ p. p.l) a b c u v w ≡ pos 0 → ⊥

clear_boundary : (a b c : V4) → Clear a b c → Boundary a b c → ⊥
clear_boundary a b c k t = by (zero_or (mix (λ (p : V4). p.l) a b c t.u t.v t.w) t.hit.side) t.edge
  where
    by : (mix (λ (p : V4). p.l) a b c t.u t.v t.w ≡ pos 0) ⊎ ((pos 0) <ℤ mix (λ (p : V4). p.l) a b c t.u t.v t.w)
        → (t.u ≡ pos 0) ⊎ ((t.v ≡ pos 0) ⊎ ((t.w ≡ pos 0) ⊎ (mix (λ (p : V4). p.l) a b c t.u t.v t.w ≡ pos 0))) → ⊥
    by (inl e) s = k.level t.u t.v t.w t.weights t.hit e
    by (inr h) (inl e) = k.edge_bc (record { u = t.u; v = t.v; w = t.w; weights = t.weights; hit = t.hit; over = h }) e
    by (inr h) (inr (inl e)) = k.edge_ca (record { u = t.u; v = t.v; w = t.w; weights = t.weights; hit = t.hit; over = h }) e
    by (inr h) (inr (inr (inl e))) = k.edge_ab (record { u = t.u; v = t.v; w = t.w; weights = t.weights; hit = t.hit; over = h }) e
    by (inr h) (inr (inr (inr e))) = k.level t.u t.v t.w t.weights t.hit e

-- the axis goes through the triangle over the level line
pub record Pierced (a b c : V4) (i j k : ℤ) : Type 0 where
  pub weights : Weights i j k
  pub time : (pos 0) <ℤ mix (λ p. p.n) a b c i j k
  pub over : (pos 0) <ℤ mix (λ p. p.l) a b c i j k

abbrev pub PiercedEither : V4 → V4 → V4 → Type 0
PiercedEither a b c = Pierced a b c (cross b c) (cross c a) (cross a b) ⊎ Pierced a b c (pos 0 -ℤ cross b c) (pos 0 -ℤ cross c a) (pos 0 -ℤ cross a b)

pub complete : (a b c : V4) → Clear a b c → Touch a b c → PiercedEither a b c
complete a b c k t =
    elim (interior a b c t.u t.v t.w (clear_boundary a b c k) t.weights t.hit) [
      | inl x ↦ inl (strict _ _ _ (cross_still a b c) x)
      | inr x ↦ inr (strict _ _ _ (opposite a b c _ _ _ (cross_still a b c)) x)
    ]
  where
    strict : (i j l : ℤ) → Still a b c i j l → Axis a b c i j l → Pierced a b c i j l
    strict i j l s x = record {
      weights = x.weights;
      time = x.time;
      over = elim (zero_or (mix (λ (p : V4). p.l) a b c i j l) x.side) [ inr h ↦ h | inl e ↦ absurd (k.level i j l x.weights (axis_hit a b c i j l s x) e) ];
    }

pub pierced_touches : (a b c : V4) (i j k : ℤ) → Still a b c i j k → Pierced a b c i j k → Touch a b c
pierced_touches a b c i j k s x = record {
  u = i;
  v = j;
  w = k;
  weights = x.weights;
  over = x.over;
  hit = axis_hit a b c i j k s (record { weights = x.weights; time = x.time; side = weak _ x.over });
}
  where
    weak : (x : ℤ) → (pos 0) <ℤ x → (pos 0) ≤ℤ x
    weak x h = omega (arith, ints)
