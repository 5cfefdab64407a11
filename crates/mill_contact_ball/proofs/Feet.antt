-- The open ball about the origin and a triangle: an edge has a point in it, or the foot of the centre lies in the triangle, nearer than the radius.
use Rattle.std.proofs.Common.{◌≡◌, inl, inr, ap, ◌∙◌, arith}
use lib.IntN.{ℤ, pos, ◌+ℤ◌, ◌*ℤ◌}
use lib.Signed.{◌<ℤ◌, ◌≤ℤ◌}
use Rattle.std.proofs.lemmas.Int.{ints}
use Rattle.mill_geom.proofs.Descend.{Weights}
use Rattle.mill_contact_ball.proofs.Slide.{V, mean, form, three, Rim, Slope, slide}
use Rattle.mill_geom.specs.declared.offset.Offset.{Offset}
use Rattle.mill_contact_ball.proofs.FootCerts.{cauchy_plane, square_down, foot_mixed, foot_form, plane_le, plane_ge, same_radius, add3_nonneg, foot_inside}

abbrev pub timed : ℤ → Offset → V
timed r p = record { x = p.x; y = p.y; z = p.z; n = r }

pub both_ways : (x y : ℤ) → x ≤ℤ y → y ≤ℤ x → x ≡ y
both_ways x y h k = omega (arith, ints)

weak : (x y : ℤ) → x <ℤ y → x ≤ℤ y
weak x y h = omega (arith, ints)

-- the numbers that the test is about, each with its equation
pub record Parts (r : ℤ) (a b c : Offset) (nx ny nz d f i j k : ℤ) : Type 0 where
  pub at_a : (nx *ℤ a.x +ℤ ny *ℤ a.y) +ℤ nz *ℤ a.z ≡ d
  pub at_b : (nx *ℤ b.x +ℤ ny *ℤ b.y) +ℤ nz *ℤ b.z ≡ d
  pub at_c : (nx *ℤ c.x +ℤ ny *ℤ c.y) +ℤ nz *ℤ c.z ≡ d
  pub foot_x : three a.x b.x c.x i j k ≡ d *ℤ nx
  pub foot_y : three a.y b.y c.y i j k ≡ d *ℤ ny
  pub foot_z : three a.z b.z c.z i j k ≡ d *ℤ nz
  pub sum : (i +ℤ j) +ℤ k ≡ f
  pub size : f ≡ (nx *ℤ nx +ℤ ny *ℤ ny) +ℤ nz *ℤ nz
  pub some : (pos 0) <ℤ f

pub record Face (r d f i j k : ℤ) : Type 0 where
  pub feet : Weights i j k
  pub near : (d *ℤ d) <ℤ ((r *ℤ r) *ℤ f)

-- the plane is as far as each of its points in the ball
near_down : (r : ℤ) (a b c : Offset) (nx ny nz d f i j k u v w : ℤ) → Parts r a b c nx ny nz d f i j k
    → form (mean (timed r a) (timed r b) (timed r c) u v w) (mean (timed r a) (timed r b) (timed r c) u v w) <ℤ pos 0
    → (nx *ℤ (mean (timed r a) (timed r b) (timed r c) u v w).x +ℤ ny *ℤ (mean (timed r a) (timed r b) (timed r c) u v w).y) +ℤ nz *ℤ (mean (timed r a) (timed r b) (timed r c) u v w).z ≡ ((u +ℤ v) +ℤ w) *ℤ d
    → (d *ℤ d) <ℤ ((r *ℤ r) *ℤ f)
near_down r a b c nx ny nz d f i j k u v w q h on =
    let m = mean (timed r a) (timed r b) (timed r c) u v w in
    let sum = (u +ℤ v) +ℤ w in
    square_down sum (d *ℤ d) ((r *ℤ r) *ℤ f) (cauchy_plane m.x m.y m.z m.n nx ny nz sum d f r h (same_radius r u v w) on q.size q.some)

pub ball_near : (r : ℤ) (a b c : Offset) (nx ny nz d f i j k u v w : ℤ) → Parts r a b c nx ny nz d f i j k
    → form (mean (timed r a) (timed r b) (timed r c) u v w) (mean (timed r a) (timed r b) (timed r c) u v w) <ℤ pos 0 → (d *ℤ d) <ℤ ((r *ℤ r) *ℤ f)
ball_near r a b c nx ny nz d f i j k u v w q h =
    near_down r a b c nx ny nz d f i j k u v w q h
    (both_ways _ _ (plane_le u v w a.x a.y a.z b.x b.y b.z c.x c.y c.z nx ny nz d q.at_a q.at_b q.at_c) (plane_ge u v w a.x a.y a.z b.x b.y b.z c.x c.y c.z nx ny nz d q.at_a q.at_b q.at_c))

-- what is in the ball shows on an edge or at the foot
pub ball_face : (r : ℤ) (a b c : Offset) (nx ny nz d f i j k u v w : ℤ) → Parts r a b c nx ny nz d f i j k → (Rim (timed r a) (timed r b) (timed r c) → ⊥) → Weights u v w
    → form (mean (timed r a) (timed r b) (timed r c) u v w) (mean (timed r a) (timed r b) (timed r c) u v w) <ℤ pos 0 → Face r d f i j k
ball_face r a b c nx ny nz d f i j k u v w q free s h =
    let m = mean (timed r a) (timed r b) (timed r c) u v w in
    let sum = (u +ℤ v) +ℤ w in
    let on = both_ways _ _ (plane_le u v w a.x a.y a.z b.x b.y b.z c.x c.y c.z nx ny nz d q.at_a q.at_b q.at_c) (plane_ge u v w a.x a.y a.z b.x b.y b.z c.x c.y c.z nx ny nz d q.at_a q.at_b q.at_c) in
    let near = near_down r a b c nx ny nz d f i j k u v w q h on in
    let g = mean (timed r a) (timed r b) (timed r c) i j k in
    let en = same_radius r i j k ∙ ap (λ t. r *ℤ t) q.sum in
    let slope : Slope (timed r a) (timed r b) (timed r c) u v w i j k = record {
      mixed = foot_mixed m.x m.y m.z m.n nx ny nz g.x g.y g.z g.n sum d f r q.foot_x q.foot_y q.foot_z en (same_radius r u v w) on (add3_nonneg u v w s.u_ok s.v_ok s.w_ok) (weak _ _ near);
      own = foot_form nx ny nz g.x g.y g.z g.n d f r q.foot_x q.foot_y q.foot_z en q.size (weak _ _ q.some) (weak _ _ near);
    } in
    elim (slide (timed r a) (timed r b) (timed r c) u v w i j k s h slope) [ inl n ↦ record { feet = record { u_ok = n.0; v_ok = n.1.0; w_ok = n.1.1.0 }; near = near } | inr o ↦ absurd (free o) ]

-- the foot is in the ball
pub face_ball : (r : ℤ) (a b c : Offset) (nx ny nz d f i j k : ℤ) → Parts r a b c nx ny nz d f i j k → Face r d f i j k
    → form (mean (timed r a) (timed r b) (timed r c) i j k) (mean (timed r a) (timed r b) (timed r c) i j k) <ℤ pos 0
face_ball r a b c nx ny nz d f i j k q t =
    let g = mean (timed r a) (timed r b) (timed r c) i j k in
    foot_inside nx ny nz g.x g.y g.z g.n d f r q.foot_x q.foot_y q.foot_z (same_radius r i j k ∙ ap (λ t. r *ℤ t) q.sum) q.size q.some t.near
