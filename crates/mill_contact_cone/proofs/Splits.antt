-- On which side of the tip an edge that comes into the cutter does so.
use Rattle.std.proofs.Common.{◌≡◌, ◌⊎◌, inl, inr, refl, sym, ◌∙◌, subst, arith}
use lib.IntN.{ℤ, pos, ◌+ℤ◌, ◌-ℤ◌, ◌*ℤ◌}
use lib.Signed.{◌<ℤ◌, ◌≤ℤ◌}
use Rattle.std.proofs.lemmas.Int.{ints}
use Rattle.mill_base.proofs.Exit.{split_lt}
use Rattle.mill_contact_cone.specs.declared.corner.Cone.{Cone}
use Rattle.mill_contact_cone.specs.declared.corner.Corner.{Corner}
use Rattle.mill_contact_cone.specs.Cones.{IsCone, TouchesEdge}
use Rattle.mill_contact_cone.specs.inner.Positions.{flattened, SeenLess, SeenMore, IsBefore}
use Rattle.mill_contact_cone.proofs.Sizes.{radius_positive, rise_positive, run_positive}
use Rattle.mill_contact_cone.proofs.Zones.{same_inside, edge_turned}
use Rattle.mill_contact_cone.proofs.ZoneCerts.{low_pair, high_pair}
use Rattle.mill_contact_cone.proofs.SideCerts.{no_width_pair, side_upper, side_lower, side_wall, side_other_wall, spread_near, spread_far, spread_wall, spread_other, back_clash, back_first, inside_near, inside_steep, inside_over, axis_point, difference}

positive_of : (x y : ℤ) → x ≡ y → (pos 0) <ℤ x → (pos 0) <ℤ y
positive_of x y e h = omega (arith, ints)

-- the four quantities at a point of the segment
near_bound : (k : Cone) (p q : Corner) (t : TouchesEdge k (flattened p) (flattened q)) → IsCone k → (pos 0) <ℤ (t.u *ℤ (k.radius -ℤ p.y) +ℤ t.v *ℤ (k.radius -ℤ q.y))
near_bound k p q t g = positive_of _ _ (spread_near t.u t.v k.radius p.y q.y) (side_upper _ (t.u *ℤ p.y +ℤ t.v *ℤ q.y) k.radius (t.u +ℤ t.v) t.inside.near (radius_positive k g) t.some)

far_bound : (k : Cone) (p q : Corner) (t : TouchesEdge k (flattened p) (flattened q)) → IsCone k → (pos 0) <ℤ (t.u *ℤ (k.radius +ℤ p.y) +ℤ t.v *ℤ (k.radius +ℤ q.y))
far_bound k p q t g = positive_of _ _ (spread_far t.u t.v k.radius p.y q.y) (side_lower _ (t.u *ℤ p.y +ℤ t.v *ℤ q.y) k.radius (t.u +ℤ t.v) t.inside.near (radius_positive k g) t.some)

wall_bound : (k : Cone) (p q : Corner) (t : TouchesEdge k (flattened p) (flattened q)) → IsCone k → (pos 0) <ℤ (t.u *ℤ (k.run *ℤ p.z -ℤ k.rise *ℤ p.y) +ℤ t.v *ℤ (k.run *ℤ q.z -ℤ k.rise *ℤ q.y))
wall_bound k p q t g = positive_of _ _ (spread_wall t.u t.v k.rise k.run p.y q.y p.z q.z)
    (side_wall _ (t.u *ℤ p.y +ℤ t.v *ℤ q.y) (t.u *ℤ p.z +ℤ t.v *ℤ q.z) k.rise k.run t.inside.steep (rise_positive k g) (run_positive k g) t.inside.over)

other_bound : (k : Cone) (p q : Corner) (t : TouchesEdge k (flattened p) (flattened q)) → IsCone k → (pos 0) <ℤ (t.u *ℤ (k.run *ℤ p.z +ℤ k.rise *ℤ p.y) +ℤ t.v *ℤ (k.run *ℤ q.z +ℤ k.rise *ℤ q.y))
other_bound k p q t g = positive_of _ _ (spread_other t.u t.v k.rise k.run p.y q.y p.z q.z)
    (side_other_wall _ (t.u *ℤ p.y +ℤ t.v *ℤ q.y) (t.u *ℤ p.z +ℤ t.v *ℤ q.z) k.rise k.run t.inside.steep (rise_positive k g) (run_positive k g) t.inside.over)

-- a point at the tip's x that comes into the cutter is in it
at_tip : (k : Cone) (p q : Corner) (t : TouchesEdge k (flattened p) (flattened q)) → t.u *ℤ p.x +ℤ t.v *ℤ q.x ≡ pos 0 → TouchesEdge k p q
at_tip k p q t e = record {
  u = t.u;
  v = t.v;
  u_ok = t.u_ok;
  v_ok = t.v_ok;
  some = t.some;
  inside = same_inside k.radius k.rise k.run (t.u +ℤ t.v) (t.u +ℤ t.v) _ _ _ _ _ _ refl (no_width_pair t.u t.v ∙ sym e) refl refl t.inside;
}

zero : (x : ℤ) → x ≤ℤ pos 0 → (pos 0) ≤ℤ x → x ≡ pos 0
zero x h k = omega (arith, ints)

-- all of the segment at or before the tip
pub all_less : (k : Cone) (p q : Corner) → TouchesEdge k (flattened p) (flattened q) → (TouchesEdge k p q → ⊥) → p.x ≤ℤ pos 0 → q.x ≤ℤ pos 0 → SeenLess k p q
all_less k p q t apart hp hq = elim (split_lt (t.u *ℤ p.x +ℤ t.v *ℤ q.x) (pos 0)) [
  | inl h ↦ record { seen = t; less = h }
  | inr h ↦ absurd (apart (at_tip k p q t (zero _ (low_pair t.u t.v p.x q.x t.u_ok t.v_ok hp hq) h)))
]

pub all_more : (k : Cone) (p q : Corner) → TouchesEdge k (flattened p) (flattened q) → (TouchesEdge k p q → ⊥) → (pos 0) ≤ℤ p.x → (pos 0) ≤ℤ q.x → SeenMore k p q
all_more k p q t apart hp hq = elim (split_lt (pos 0) (t.u *ℤ p.x +ℤ t.v *ℤ q.x)) [
  | inl h ↦ record { seen = t; more = h }
  | inr h ↦ absurd (apart (at_tip k p q t (zero _ h (high_pair t.u t.v p.x q.x t.u_ok t.v_ok hp hq))))
]

-- the first end before the tip and the last behind it: the point between them at the tip isn't in the cutter, so a quantity tells
pub split_less : (k : Cone) (p q : Corner) → IsCone k → TouchesEdge k (flattened p) (flattened q) → (TouchesEdge k p q → ⊥) → p.x <ℤ pos 0 → IsBefore k p q → SeenLess k p q
split_less k p q g t apart hp before = elim (split_lt (t.u *ℤ p.x +ℤ t.v *ℤ q.x) (pos 0)) [
  | inl h ↦ record { seen = t; less = h }
  | inr h ↦ elim (split_lt (pos 0) (t.u *ℤ p.x +ℤ t.v *ℤ q.x)) [
    | inl m ↦ absurd (clash m before)
    | inr m ↦ absurd (apart (at_tip k p q t (zero _ m h)))
  ]
]
  where
    clash : (pos 0) <ℤ (t.u *ℤ p.x +ℤ t.v *ℤ q.x) → IsBefore k p q → ⊥
    clash m (inl (inl b)) = back_clash t.u t.v _ _ p.x q.x t.v_ok (near_bound k p q t g) m b.first b.middle hp
    clash m (inl (inr b)) = back_clash t.u t.v _ _ p.x q.x t.v_ok (far_bound k p q t g) m b.first b.middle hp
    clash m (inr (inl b)) = back_clash t.u t.v _ _ p.x q.x t.v_ok (wall_bound k p q t g) m b.first b.middle hp
    clash m (inr (inr b)) = back_clash t.u t.v _ _ p.x q.x t.v_ok (other_bound k p q t g) m b.first b.middle hp

weak : (x : ℤ) → (pos 0) <ℤ x → (pos 0) ≤ℤ x
weak x h = omega (arith, ints)

opposed : (x : ℤ) → x <ℤ pos 0 → (pos 0) ≤ℤ (pos 0 -ℤ x)
opposed x h = omega (arith, ints)

-- the point between the ends at the tip's x
middle_inside : (k : Cone) (p q : Corner) → IsCone k → p.x <ℤ pos 0 → (pos 0) <ℤ q.x
    → (pos 0) <ℤ (q.x *ℤ (k.radius -ℤ p.y) +ℤ (pos 0 -ℤ p.x) *ℤ (k.radius -ℤ q.y)) → (pos 0) <ℤ (q.x *ℤ (k.radius +ℤ p.y) +ℤ (pos 0 -ℤ p.x) *ℤ (k.radius +ℤ q.y))
    → (pos 0) <ℤ (q.x *ℤ (k.run *ℤ p.z -ℤ k.rise *ℤ p.y) +ℤ (pos 0 -ℤ p.x) *ℤ (k.run *ℤ q.z -ℤ k.rise *ℤ q.y))
    → (pos 0) <ℤ (q.x *ℤ (k.run *ℤ p.z +ℤ k.rise *ℤ p.y) +ℤ (pos 0 -ℤ p.x) *ℤ (k.run *ℤ q.z +ℤ k.rise *ℤ q.y)) → TouchesEdge k p q
middle_inside k p q g hp hq b1 b2 b3 b4 =
    let u = q.x in
    let v = pos 0 -ℤ p.x in
    let Y = u *ℤ p.y +ℤ v *ℤ q.y in
    let Z = u *ℤ p.z +ℤ v *ℤ q.z in
    let wall = positive_of _ _ (sym (spread_wall u v k.rise k.run p.y q.y p.z q.z)) b3 in
    let other = positive_of _ _ (sym (spread_other u v k.rise k.run p.y q.y p.z q.z)) b4 in
    record {
      u = u;
      v = v;
      u_ok = weak _ hq;
      v_ok = opposed _ hp;
      some = added p.x q.x hp hq;
      inside = record {
        near = inside_near _ Y k.radius (u +ℤ v) (axis_point p.x q.x) (positive_of _ _ (sym (spread_near u v k.radius p.y q.y)) b1) (positive_of _ _ (sym (spread_far u v k.radius p.y q.y)) b2);
        over = inside_over Y Z k.rise k.run (run_positive k g) wall other;
        steep = inside_steep _ Y Z k.rise k.run (axis_point p.x q.x) wall other;
      };
    }
  where
    added : (x w : ℤ) → x <ℤ pos 0 → (pos 0) <ℤ w → (pos 0) <ℤ (w +ℤ (pos 0 -ℤ x))
    added x w h l = omega (arith, ints)

-- a quantity at that point, written as a difference
kept_sum : (f g x w : ℤ) → (pos 0) <ℤ (w *ℤ f -ℤ x *ℤ g) → (pos 0) <ℤ (w *ℤ f +ℤ (pos 0 -ℤ x) *ℤ g)
kept_sum f g x w h = positive_of _ _ (difference f g x w) h

-- where none of the quantities tells, the points that come into the cutter are behind the tip
pub split_more : (k : Cone) (p q : Corner) → IsCone k → TouchesEdge k (flattened p) (flattened q) → (TouchesEdge k p q → ⊥) → p.x <ℤ pos 0 → (pos 0) <ℤ q.x → (IsBefore k p q → ⊥) → SeenMore k p q
split_more k p q g t apart hp hq not_before = elim (split_lt (pos 0) (t.u *ℤ p.x +ℤ t.v *ℤ q.x)) [
  | inl h ↦ record { seen = t; more = h }
  | inr h ↦ elim (split_lt (t.u *ℤ p.x +ℤ t.v *ℤ q.x) (pos 0)) [
    | inl l ↦ absurd (none l (split_lt (pos 0) (q.x *ℤ (k.radius -ℤ p.y) -ℤ p.x *ℤ (k.radius -ℤ q.y))) (split_lt (pos 0) (q.x *ℤ (k.radius +ℤ p.y) -ℤ p.x *ℤ (k.radius +ℤ q.y)))
        (split_lt (pos 0) (q.x *ℤ (k.run *ℤ p.z -ℤ k.rise *ℤ p.y) -ℤ p.x *ℤ (k.run *ℤ q.z -ℤ k.rise *ℤ q.y))) (split_lt (pos 0) (q.x *ℤ (k.run *ℤ p.z +ℤ k.rise *ℤ p.y) -ℤ p.x *ℤ (k.run *ℤ q.z +ℤ k.rise *ℤ q.y))))
    | inr l ↦ absurd (apart (at_tip k p q t (zero _ h l)))
  ]
]
  where
    none : (t.u *ℤ p.x +ℤ t.v *ℤ q.x) <ℤ pos 0
        → ((pos 0) <ℤ (q.x *ℤ (k.radius -ℤ p.y) -ℤ p.x *ℤ (k.radius -ℤ q.y))) ⊎ ((q.x *ℤ (k.radius -ℤ p.y) -ℤ p.x *ℤ (k.radius -ℤ q.y)) ≤ℤ pos 0)
        → ((pos 0) <ℤ (q.x *ℤ (k.radius +ℤ p.y) -ℤ p.x *ℤ (k.radius +ℤ q.y))) ⊎ ((q.x *ℤ (k.radius +ℤ p.y) -ℤ p.x *ℤ (k.radius +ℤ q.y)) ≤ℤ pos 0)
        → ((pos 0) <ℤ (q.x *ℤ (k.run *ℤ p.z -ℤ k.rise *ℤ p.y) -ℤ p.x *ℤ (k.run *ℤ q.z -ℤ k.rise *ℤ q.y))) ⊎ ((q.x *ℤ (k.run *ℤ p.z -ℤ k.rise *ℤ p.y) -ℤ p.x *ℤ (k.run *ℤ q.z -ℤ k.rise *ℤ q.y)) ≤ℤ pos 0)
        → ((pos 0) <ℤ (q.x *ℤ (k.run *ℤ p.z +ℤ k.rise *ℤ p.y) -ℤ p.x *ℤ (k.run *ℤ q.z +ℤ k.rise *ℤ q.y))) ⊎ ((q.x *ℤ (k.run *ℤ p.z +ℤ k.rise *ℤ p.y) -ℤ p.x *ℤ (k.run *ℤ q.z +ℤ k.rise *ℤ q.y)) ≤ℤ pos 0) → ⊥
    none l (inr m) b d e = not_before (inl (inl (record { first = back_first t.u t.v _ _ p.x q.x t.v_ok (near_bound k p q t g) l m hp; middle = m })))
    none l (inl a) (inr m) d e = not_before (inl (inr (record { first = back_first t.u t.v _ _ p.x q.x t.v_ok (far_bound k p q t g) l m hp; middle = m })))
    none l (inl a) (inl b) (inr m) e = not_before (inr (inl (record { first = back_first t.u t.v _ _ p.x q.x t.v_ok (wall_bound k p q t g) l m hp; middle = m })))
    none l (inl a) (inl b) (inl d) (inr m) = not_before (inr (inr (record { first = back_first t.u t.v _ _ p.x q.x t.v_ok (other_bound k p q t g) l m hp; middle = m })))
    none l (inl a) (inl b) (inl d) (inl e) = apart (middle_inside k p q g hp hq (kept_sum _ _ p.x q.x a) (kept_sum _ _ p.x q.x b) (kept_sum _ _ p.x q.x d) (kept_sum _ _ p.x q.x e))

swap_sum : (x y : ℤ) → x +ℤ y ≡ y +ℤ x
swap_sum x y = omega (arith, ints)

-- the ends in the other order
pub less_turned : (k : Cone) (p q : Corner) → SeenLess k p q → SeenLess k q p
less_turned k p q s = record { seen = edge_turned k (flattened p) (flattened q) s.seen; less = subst (λ x. x <ℤ pos 0) (swap_sum (s.seen.u *ℤ p.x) (s.seen.v *ℤ q.x)) s.less }

pub more_turned : (k : Cone) (p q : Corner) → SeenMore k p q → SeenMore k q p
more_turned k p q s = record { seen = edge_turned k (flattened p) (flattened q) s.seen; more = subst (λ x. (pos 0) <ℤ x) (swap_sum (s.seen.u *ℤ p.x) (s.seen.v *ℤ q.x)) s.more }
