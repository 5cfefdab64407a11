-- How far from its axis each cutter may hold a point that isn't high over its tip.
use Rattle.std.proofs.Common.{◌≡◌, inl, inr, ℕ, zero, suc, ◌-◌, ◌*◌, ◌<◌, ◌≤◌, min, List, length, sym, subst, subst₂, to_z, w32, arith}
use Rattle.std.specs.Prelude.{Option, Some, None, IsNone, IfSome, nat_abs, refl}
use Rattle.std.specs.List.{Contains}
use Rattle.std.specs.Option.{unwrap_or}
use Rattle.std.proofs.Math.Nat.{mul-pos}
use Rattle.std.proofs.lemmas.Bool.{cases_lt}
use Rattle.std.proofs.lemmas.Int.{ints, to_z_pos}
use lib.IntN.{ℤ, pos, negsuc, ◌-ℤ◌, ◌*ℤ◌}
use lib.Signed.{◌<ℤ◌, ◌≤ℤ◌}
use Rattle.mill_base.specs.Covers.{IsUnder}
use Rattle.mill_base.specs.Cutters.{apart}
use Rattle.mill_base.specs.Sizes.{IsCutter, HasRadius, IsSlope}
use Rattle.mill_base.specs.declared.limits.TheConstants.{MAX_RADIUS}
use Rattle.mill_base.specs.declared.points.Tri.{Tri}
use Rattle.mill_base.specs.declared.cutter.Cutter.{Cutter}
use Rattle.mill_base.specs.declared.cutter.Cutter.TheVariants.{Ball, Cone}
use Rattle.mill_part.specs.Tops.{IsTop}
use Rattle.mill_shape.proofs.Holding.{inside_over}
use Rattle.mill_push.specs.inner.Reaches.{IsBallReach, IsReach, IsReachForPart, IsReachForTri, IsWallReach}
use Rattle.mill_push.proofs.Pushing.{has_radius}
use Rattle.mill_push.proofs.ReachCerts.{in_sphere_under, no_wider, on_wall_under, root_most, sunk, under_centre}

-- a ball, where the height is that of its sphere's centre or more, and where it is less
high_ball : (r h k : ℤ) → (pos 1) ≤ℤ k → k ≤ℤ r → (r *ℤ r) ≤ℤ (k *ℤ k) → IsReach (Ball r) h k
high_ball r h k least most wide = record { least = least; most = most; near = λ n d some low i. no_wider (apart d) r k n i.near wide }

low_ball : (r h k : ℤ) → (pos 1) ≤ℤ k → k ≤ℤ r → h <ℤ r → (h *ℤ (pos 2 *ℤ r -ℤ h)) ≤ℤ (k *ℤ k) → IsReach (Ball r) h k
low_ball r h k least most less root = record {
  least = least;
  most = most;
  near = λ n d some low i. elim i.over [
    | inl high ↦ absurd (under_centre d.z r n h some low less high)
    | inr deep ↦ in_sphere_under (apart d) d.z r n h k some low less deep root
  ];
}

-- a cone, where its wall goes on and where its shank has begun
wall_cone : (r a b h k : ℤ) → (pos 1) ≤ℤ k → k ≤ℤ r → (pos 0) <ℤ h → (pos 0) <ℤ b → (h *ℤ b) ≤ℤ (k *ℤ a) → IsReach (Cone r a b) h k
wall_cone r a b h k least most up run wall = record { least = least; most = most; near = λ n d some low i. on_wall_under (apart d) d.z a b n h k up run i.over low wall i.steep }

shank_cone : (r a b h : ℤ) → (pos 1) ≤ℤ r → IsReach (Cone r a b) h r
shank_cone r a b h least = record { least = least; most = omega (arith, ints); near = λ n d some low i. i.near }

-- from what is computed without signs
rest_is : (q h : ℕ) → h < q → pos (2 * q - h) ≡ pos 2 *ℤ pos q -ℤ pos h
rest_is q h less = omega (arith, ints)

le_is : (a b : ℕ) → a ≤ b → pos a ≤ℤ pos b
le_is a b h = omega (arith, ints)

lt_is : (a b : ℕ) → a < b → pos a <ℤ pos b
lt_is a b h = omega (arith, ints)

pub ball_reach_is : (r : ℤ) (q h k : ℕ) → HasRadius r MAX_RADIUS → q ≡ nat_abs r → IsBallReach q h k → IsReach (Ball r) (pos h) (pos k)
ball_reach_is (negsuc r) q h k size e is = absurd (let least = size.least in omega (arith, ints))
ball_reach_is (pos r) q h k size e is = by (subst (λ q. IsBallReach q h k) e is)
  where
    by : IsBallReach r h k → IsReach (Ball (pos r)) (pos h) (pos k)
    by is = elim (cases_lt h r) [
      | inl less ↦ low_ball (pos r) (pos h) (pos k) (le_is 1 k is.least) (le_is k r is.most) (lt_is h r less)
          (subst (λ t. (pos h *ℤ t) ≤ℤ pos (k * k)) (rest_is r h less) (le_is (h * (2 * r - h)) (k * k) (is.low less)))
      | inr more ↦ high_ball (pos r) (pos h) (pos k) (le_is 1 k is.least) (le_is k r is.most) (le_is (r * r) (k * k) (is.high more))
    ]

-- a root, rounded up, is a ball's reach
pub ball_root : (radius height root : ℕ) → 0 < height → height < radius → height * (2 * radius - height) ≤ root * root → (0 < root → (root - 1) * (root - 1) < height * (2 * radius - height))
    → IsBallReach radius height root
ball_root radius height zero some less reaches least = absurd (let product = mul-pos {m = height} {n = 2 * radius - height} some (omega arith) in omega arith)
ball_root radius height (suc k) some less reaches least = record {
  least = omega arith;
  most = le_back (suc k) radius (root_most (pos (suc k)) (pos height) (pos radius) (lt_is 0 radius (omega arith)) under);
  high = λ h. absurd (omega arith);
  low = λ h. reaches;
}
  where
    back : (k : ℕ) → suc k - 1 ≡ k
    back k = omega arith

    one_less : (k : ℕ) → pos k ≡ pos (suc k) -ℤ pos 1
    one_less k = omega (arith, ints)

    le_back : (a b : ℕ) → pos a ≤ℤ pos b → a ≤ b
    le_back a b h = omega (arith, ints)

    under : ((pos (suc k) -ℤ pos 1) *ℤ (pos (suc k) -ℤ pos 1)) <ℤ (pos height *ℤ (pos 2 *ℤ pos radius -ℤ pos height))
    under = subst₂ (λ t u. (t *ℤ t) <ℤ (pos height *ℤ u)) (one_less k) (rest_is radius height less)
        (lt_is (k * k) (height * (2 * radius - height)) (rw (back k) at (least (omega arith))))

pub cone_reach_is : (r a b : ℤ) (q p o h w k : ℕ) → HasRadius r MAX_RADIUS → IsSlope a b → q ≡ nat_abs r → p ≡ nat_abs a → o ≡ nat_abs b → 0 < h → IsWallReach h p o w → k ≡ min w q
    → IsReach (Cone r a b) (pos h) (pos k)
cone_reach_is (negsuc r) a b q p o h w k size slope e f g up is m = absurd (let least = size.least in omega (arith, ints))
cone_reach_is (pos r) (negsuc a) b q p o h w k size slope e f g up is m = absurd (let least = slope.rise in omega (arith, ints))
cone_reach_is (pos r) (pos a) (negsuc b) q p o h w k size slope e f g up is m = absurd (let least = slope.run in omega (arith, ints))
cone_reach_is (pos r) (pos a) (pos b) q p o h w k size slope e f g up is m = elim (cases_lt w r) [
  | inl less ↦ subst (λ t. IsReach (Cone (pos r) (pos a) (pos b)) (pos h) (pos t)) (sym (narrow w r k less (rw e at m)))
      (wall_cone (pos r) (pos a) (pos b) (pos h) (pos w) (le_is 1 w is.least) (le_is w r (weak w r less)) (lt_is 0 h up) (lt_is 0 b (some b slope.run)) (le_is (h * b) (w * a) (rw (f, g) at is.wall)))
  | inr more ↦ subst (λ t. IsReach (Cone (pos r) (pos a) (pos b)) (pos h) (pos t)) (sym (wide w r k more (rw e at m))) (shank_cone (pos r) (pos a) (pos b) (pos h) size.least)
]
  where
    narrow : (w r k : ℕ) → w < r → k ≡ min w r → k ≡ w
    narrow w r k h e = grind arith

    wide : (w r k : ℕ) → r ≤ w → k ≡ min w r → k ≡ r
    wide w r k h e = grind arith

    weak : (w r : ℕ) → w < r → w ≤ r
    weak w r h = omega arith

    some : (b : ℕ) → (pos 1) ≤ℤ pos b → 0 < b
    some b h = omega (arith, ints)

-- it is small, so that the machine stores it as it is
pub reach_stored : (r : ℤ) (q k : ℕ) → HasRadius r MAX_RADIUS → q ≡ nat_abs r → k ≤ q → to_z w32 k ≡ pos k
reach_stored r q k size e under = to_z_pos w32 k (small r q k size.least size.within e under)
  where
    small : (r : ℤ) (q k : ℕ) → (pos 1) ≤ℤ r → r ≤ℤ pos 10000 → q ≡ nat_abs r → k ≤ q → k < 2147483648
    small r q k a b e h = omega (arith, ints)

pub lesser_most : (w q k : ℕ) → k ≡ min w q → k ≤ q
lesser_most w q k e = grind arith

-- nothing is inside that isn't over the tip
pub no_reach : (cutter : Cutter) (h : ℤ) → IsCutter cutter → h ≤ℤ pos 0 → IsReach cutter h (pos 1)
no_reach cutter h ok low = record {
  least = omega (arith, ints);
  most = has_radius cutter ok;
  near = λ n d some under i. absurd (sunk n h d.z some low under (inside_over cutter n d (has_radius cutter ok) some i));
}

-- the part's top, or any height where the part has no triangle
nothing : (k n : ℕ) → k < n → n ≡ 0 → ⊥
nothing k n h e = omega (h, e, arith)

pub top_or : (part : List Tri) (top : Option ℤ) (other : ℤ) → (IsNone top → length part ≡ 0) → IfSome top (IsTop part) → IsUnder part (unwrap_or top other)
top_or part None other none some = λ tri m. absurd (nothing m.0 (length part) m.1 (none refl))
top_or part (Some top) other none some = some.under

-- a height that isn't over the tip, and one that is
pub not_over : (top z : ℤ) → top ≤ℤ z → (top -ℤ z) ≤ℤ pos 0
not_over top z h = omega (arith, ints)

pub over_by : (top z : ℤ) (h : ℕ) → z <ℤ top → h ≡ nat_abs (top -ℤ z) → pos h ≡ top -ℤ z
over_by top z h less e = omega (arith, ints)

-- a reach for the part is one for each of its triangles
pub for_member : (cutter : Cutter) (z reach : ℤ) (part : List Tri) (tri : Tri) → IsReachForPart cutter z reach part → Contains part tri → IsReachForTri cutter z reach tri
for_member cutter z reach part tri h m = record { top = h.top; under = h.under tri m; holds = h.holds }
