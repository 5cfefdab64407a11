-- What lies in a solid, and what is left of one without a margin, holds no more than the solid.
use Rattle.std.specs.Prelude.{◌≡◌, ℤ, pos, ◌+ℤ◌, ◌-ℤ◌, ◌*ℤ◌, ◌<ℤ◌, ◌≤ℤ◌}
use Rattle.std.proofs.Common.{inl, inr, refl, subst, arith}
use Rattle.std.proofs.lemmas.Int.{ints}
use Rattle.mill_base.proofs.Exit.{split_lt}
use Rattle.mill_base.proofs.Integers.{mul_pos-ℤ}
use Rattle.mill_base.specs.Contact.{Holds}
use Rattle.mill_base.specs.Cutters.{Inside, apart}
use Rattle.mill_base.specs.Points.{minus, times, point_at}
use Rattle.mill_base.specs.Sizes.{HasRadius, radius_of, with_radius}
use Rattle.mill_base.specs.Solids.{SolidHolds, solid_tip}
use Rattle.mill_base.specs.declared.limits.TheConstants.{MAX_COORDINATE, MAX_RADIUS}
use Rattle.mill_base.specs.declared.points.Pt3.{Pt3}
use Rattle.mill_base.specs.declared.cutter.Cutter.{Cutter}
use Rattle.mill_base.specs.declared.cutter.Cutter.TheVariants.{Flat, Ball, Cone}
use Rattle.mill_margin.specs.Laws.{InsideIsHeld, ShrunkIsHeld}
use Rattle.mill_margin.specs.Margins.{IsWithin, grown, offset_of, shrunk}
use Rattle.mill_margin.proofs.Growing.{grown_holds, held_risen, risen_held}
use Rattle.mill_margin.proofs.Sizing.{lesser_radius, radius_ok, resized_ok}
use Rattle.mill_margin.proofs.MarginCerts.{turned, narrower, higher_up, ball_up, ball_in, ball_over, wall_up, squares_sum}

later : (x y z : ℤ) → x <ℤ y → y ≤ℤ z → x <ℤ z
later x y z h k = omega (arith, ints)

-- what is inside a cutter is inside a wider one, and inside it when it is higher
pub wider_inside : (cutter : Cutter) (r n u : ℤ) (d : Pt3) → (pos 0) <ℤ n → (pos 0) ≤ℤ r → r ≤ℤ radius_of cutter → d.z ≤ℤ u → Inside (with_radius cutter r) n d → Inside cutter n (point_at d.x d.y u)
wider_inside (Flat R) r n u d hn hr le hu i = record { near = narrower r R n (apart d) hr le i.near; over = later (pos 0) d.z u i.over hu }
wider_inside (Ball R) r n u d hn hr le hu i = record {
  near = narrower r R n (apart d) hr le i.near;
  over = elim (split_lt u (R *ℤ n)) [
    | inr high ↦ inl high
    | inl low ↦ inr (elim i.over [
      | inl over ↦ ball_over (apart d) d.z u r R n hr le i.near over hu low
      | inr deep ↦ ball_in (apart d) d.z u r R n hn le deep (ball_up (apart d) d.z r n hn hr (squares_sum d.x d.y) deep) hu low
    ])
  ];
}
wider_inside (Cone R a b) r n u d hn hr le hu i = record {
  near = narrower r R n (apart d) hr le i.near;
  over = later (pos 0) d.z u i.over hu;
  steep = wall_up _ b d.z u i.steep i.over hu;
}

-- what the one holds, the other one holds with the tip at the same place
pub inside_is_held : InsideIsHeld
inside_is_held inside outside m n t p ok lies hm hn h =
    risen_held outside.cutter outside.lift m n t p
    (wider_inside outside.cutter (radius_of inside.cutter) (m *ℤ n) (m *ℤ p.z -ℤ n *ℤ (t.z +ℤ m *ℤ outside.lift)) (minus (times m p) (times n (point_at t.x t.y (t.z +ℤ m *ℤ inside.lift))))
    (mul_pos-ℤ m n hm hn) lies.some lies.narrow (higher_up m n p.z outside.lift inside.lift t.z hm hn lies.high)
    (held_risen (with_radius outside.cutter (radius_of inside.cutter)) inside.lift m n t p
    (subst (λ c. Holds c m (solid_tip inside m t) n p) lies.kind h)))

-- the distance is that from the other point too
swapped : (s m n : ℤ) (t r : Pt3) → IsWithin s m t n r → IsWithin s n r m t
swapped s m n t r within = record { near = turned m n s t.x t.y t.z r.x r.y r.z within.near }

-- with the margin again it is what it was
back : (x y : ℤ) → (x -ℤ y) +ℤ y ≡ x
back x y = omega (arith, ints)

forth : (x y : ℤ) → (x +ℤ y) -ℤ y ≡ x
forth x y = omega (arith, ints)

small : (r s : ℤ) → HasRadius r MAX_RADIUS → s <ℤ r → s ≤ℤ pos MAX_COORDINATE
small r s size less = let most = size.within in omega (arith, ints)

restored : (cutter : Cutter) (lift s : ℤ) → grown (shrunk (record { cutter = cutter; lift = lift }) s) s ≡ record { cutter = cutter; lift = lift }
restored (Flat r) lift s = rw (back r s, forth lift s) refl
restored (Ball r) lift s = rw (back r s, forth lift s) refl
restored (Cone r a b) lift s = rw (back r s, forth lift (offset_of (Cone r a b) s)) refl

-- what is held without the margin, is held with the tip within the margin
pub shrunk_is_held : ShrunkIsHeld
shrunk_is_held solid s m n k t r p ok hs less hm hn hk within h =
    let size = radius_ok solid.cutter ok in
    let lesser = lesser_radius (radius_of solid.cutter) s size hs less in
    subst (λ whole. SolidHolds whole n r k p) (restored solid.cutter solid.lift s)
    (grown_holds (shrunk solid s) s n m k r t p (resized_ok solid.cutter (radius_of solid.cutter -ℤ s) ok lesser) hs (small (radius_of solid.cutter) s size less) hn hm hk (swapped s m n t r within) h)
