-- A cutter goes upward without end: it holds what is straight over a point that it holds.
use Rattle.std.specs.Prelude.{◌≡◌, ℤ, pos, ◌-ℤ◌, ◌*ℤ◌, ◌<ℤ◌, ◌≤ℤ◌}
use Rattle.std.proofs.Common.{inl, inr, ap, ◌∙◌}
use Rattle.mill_base.proofs.Exit.{split_lt}
use Rattle.mill_base.specs.Points.{minus, times, point_at}
use Rattle.mill_base.specs.Cutters.{Inside, InBall}
use Rattle.mill_base.specs.Contact.{HoldsOver}
use Rattle.mill_base.specs.declared.points.Pt3.{Pt3}
use Rattle.mill_base.specs.declared.cutter.Cutter.{Cutter}
use Rattle.mill_base.specs.declared.cutter.Cutter.TheVariants.{Flat, Ball, Cone}
use Rattle.mill_shape.proofs.OverCerts.{scaled_near, scaled_centre, raised_sphere, raised_plane, raised_wall, scaled_offset, scaled_denominator, raised_height}

-- the offset (x, y, z) over n, brought to the denominator k*n and then raised to the height u
abbrev pub raised : ℤ → ℤ → ℤ → ℤ → Pt3
raised k x y u = point_at (k *ℤ x) (k *ℤ y) u

-- either the raised point is over the sphere's centre, or it is nearer to it than the point was
ball_over : (r n k u : ℤ) (d : Pt3) → (pos 0) <ℤ k → (k *ℤ d.z) ≤ℤ u → InBall r n d → InBall r (k *ℤ n) (raised k d.x d.y u)
ball_over r n k u d hk hu i = record {
  near = scaled_near d.x d.y r n k hk i.near;
  over = elim i.over [
    | inl high ↦ inl (scaled_centre d.z u r n k hk high hu)
    | inr deep ↦ elim (split_lt u (r *ℤ (k *ℤ n))) [ inl low ↦ inr (raised_sphere d.x d.y d.z u r n k hk deep hu low) | inr high ↦ inl high ]
  ];
}

-- what is inside a cutter stays inside when it is raised
pub inside_raised : (cutter : Cutter) (n k u : ℤ) (d : Pt3) → (pos 0) <ℤ k → (k *ℤ d.z) ≤ℤ u → Inside cutter n d → Inside cutter (k *ℤ n) (raised k d.x d.y u)
inside_raised (Flat r) n k u d hk hu i = record { near = scaled_near d.x d.y r n k hk i.near; over = raised_plane d.z u k hk i.over hu }
inside_raised (Ball r) n k u d hk hu i = ball_over r n k u d hk hu i
inside_raised (Cone r a b) n k u d hk hu i = record {
  near = scaled_near d.x d.y r n k hk i.near;
  over = raised_plane d.z u k hk i.over hu;
  steep = raised_wall d.x d.y d.z u a b k hk i.steep i.over hu;
}

-- the offset from the tip t over m to the point p over n, which stands straight over (x, y)
offset_x : (m n x t p : ℤ) → p ≡ n *ℤ x → m *ℤ p -ℤ n *ℤ t ≡ n *ℤ (m *ℤ x -ℤ pos 1 *ℤ t)
offset_x m n x t p e = ap (λ q. m *ℤ q -ℤ n *ℤ t) e ∙ scaled_offset m n x t

-- both denominators are brought to m*n, where the offsets in x and y are the same, and the point is raised
pub holds_over : HoldsOver
holds_over cutter m t n p x y h hm hn i ex ey hz =
    let held = inside_raised cutter (m *ℤ pos 1) n (m *ℤ p.z -ℤ n *ℤ t.z) (minus (times m (point_at x y h)) (times (pos 1) t)) hn (raised_height m n h t.z p.z hm hz) i in
    rw (offset_x m n x t.x p.x ex, offset_x m n y t.y p.y ey, scaled_denominator m n) held
