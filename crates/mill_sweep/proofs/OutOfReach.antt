-- A move passes a triangle whose box is out of its reach, or that doesn't come over its lower end.
use Rattle.std.proofs.Common.{◌≡◌, ◌⊎◌, inl, inr, refl, ◌≤◌, Bool, true, false, arith}
use Rattle.std.specs.Prelude.{int_lt, nat_abs}
use Rattle.std.proofs.lemmas.Int.{ints}
use lib.IntN.{ℤ, pos, ◌+ℤ◌, ◌-ℤ◌}
use lib.Signed.{◌≤ℤ◌}
use Rattle.mill_base.specs.Numbers.{Within, lesser, greater}
use Rattle.mill_base.specs.Points.{highest}
use Rattle.mill_base.specs.Ranges.{TriInRange}
use Rattle.mill_base.specs.Sizes.{IsCutter, radius_of}
use Rattle.mill_base.specs.declared.limits.TheConstants.{MAX_COORDINATE}
use Rattle.mill_base.specs.declared.points.Tri.{Tri}
use Rattle.mill_base.specs.declared.motion.Move.{Move}
use Rattle.mill_base.specs.declared.cutter.Cutter.{Cutter}
use Rattle.mill_cells.specs.Boxes.{Meet, box_of}
use Rattle.mill_sweep.specs.Lifted.{IsLiftedMove}
use Rattle.mill_sweep.specs.Apart.{LieApart}
use Rattle.mill_sweep.specs.Passing.{Passes}
use Rattle.mill_sweep.specs.Moments.{IsFar}
use Rattle.mill_sweep.specs.Apart.{low_end_of}
use Rattle.mill_sweep.specs.Reach.{margin_of, low_side_of, high_side_of, reach_box_of, IsOutOfReach}
use Rattle.mill_sweep.proofs.ByKind.{lifted_far_passes}
use Rattle.mill_sweep.proofs.Passing.{radius_least}
use Rattle.mill_sweep.proofs.Sides.{least_of, most_of, ends_of, joined, split, wide}

-- some place is in both stretches
record HasCommon (low high from to : ℤ) : Type 0 where
  at : ℤ
  right : low ≤ℤ at
  left : at ≤ℤ high
  right_too : from ≤ℤ at
  left_too : at ≤ℤ to

-- along one axis, three places lie at least r apart from two ends, or their stretch meets that of the ends, wider by r on each side and cut off
module _ (r f t a b c : ℤ) (least : (pos 0) ≤ℤ r) (f_ok : Within MAX_COORDINATE f) (a_ok : Within MAX_COORDINATE a) where
  along : LieApart r f t a b c ⊎ HasCommon (lesser a (lesser b c)) (greater a (greater b c)) (low_side_of f t r) (high_side_of f t r)
  along = by (int_lt (greater f t +ℤ r) (lesser a (lesser b c))) refl (int_lt (greater a (greater b c)) (lesser f t -ℤ r)) refl
    where
      over : (e h r l x : ℤ) → e ≤ℤ h → int_lt (h +ℤ r) l ≡ true → l ≤ℤ x → (e +ℤ r) ≤ℤ x
      over e h r l x p q s = omega (p, q, s, arith, ints)

      under : (e h r l x : ℤ) → x ≤ℤ h → int_lt h (l -ℤ r) ≡ true → l ≤ℤ e → (x +ℤ r) ≤ℤ e
      under e h r l x p q s = omega (p, q, s, arith, ints)

      low_most : (m low at : ℤ) → low ≤ℤ at → nat_abs at ≤ 524287 → low ≤ℤ pos 524287
      low_most m low at p q = omega (p, q, arith, ints)

      high_least : (high at : ℤ) → at ≤ℤ high → nat_abs at ≤ 524287 → (pos 0 -ℤ pos 524287) ≤ℤ high
      high_least high at p q = omega (p, q, arith, ints)

      met : (low high from to : ℤ) → low ≤ℤ high → from ≤ℤ to → low ≤ℤ to → from ≤ℤ high → HasCommon low high from to
      met low high from to p q s u = record {
        at = greater low from;
        right = grind (arith, ints);
        left = grind (p, u, arith, ints);
        right_too = grind (arith, ints);
        left_too = grind (q, s, arith, ints);
      }

      not_over : (h r low : ℤ) → int_lt (h +ℤ r) low ≡ false → low ≤ℤ (h +ℤ r)
      not_over h r low e = omega (e, arith, ints)

      not_under : (high l r : ℤ) → int_lt high (l -ℤ r) ≡ false → (l -ℤ r) ≤ℤ high
      not_under high l r e = omega (e, arith, ints)

      through : (a b c : ℤ) → a ≤ℤ b → b ≤ℤ c → a ≤ℤ c
      through a b c p q = omega (p, q, arith, ints)

      common : int_lt (greater f t +ℤ r) (lesser a (lesser b c)) ≡ false → int_lt (greater a (greater b c)) (lesser f t -ℤ r) ≡ false
          → HasCommon (lesser a (lesser b c)) (greater a (greater b c)) (low_side_of f t r) (high_side_of f t r)
      common e g =
          let low = lesser a (lesser b c) in
          let high = greater a (greater b c) in
          let n = ends_of f t in
          let w = wide (lesser f t) (greater f t) f r n.0 n.2 least f_ok.within in
          met low high _ _ (through low a high (least_of a b c).0 (most_of a b c).0)
          (split _ _ _ (joined _ _ _ w.0 w.2) (joined _ _ _ w.1 w.3))
          (split _ _ low (not_over (greater f t) r low e) (low_most (pos 0) low a (least_of a b c).0 a_ok.within))
          (joined _ _ high (not_under high (lesser f t) r g) (high_least high a (most_of a b c).0 a_ok.within))

      by : (p : Bool) → int_lt (greater f t +ℤ r) (lesser a (lesser b c)) ≡ p → (q : Bool) → int_lt (greater a (greater b c)) (lesser f t -ℤ r) ≡ q
          → LieApart r f t a b c ⊎ HasCommon (lesser a (lesser b c)) (greater a (greater b c)) (low_side_of f t r) (high_side_of f t r)
      by true e q g =
          let l = least_of a b c in
          let n = ends_of f t in
          inl (inl (record {
            a_e = over f _ r _ a n.2 e l.0;
            b_e = over f _ r _ b n.2 e l.1;
            c_e = over f _ r _ c n.2 e l.2;
            a_f = over t _ r _ a n.3 e l.0;
            b_f = over t _ r _ b n.3 e l.1;
            c_f = over t _ r _ c n.3 e l.2;
          }))
      by false e true g =
          let h = most_of a b c in
          let n = ends_of f t in
          inl (inr (record {
            a_e = under f _ r _ a h.0 g n.0;
            b_e = under f _ r _ b h.1 g n.0;
            c_e = under f _ r _ c h.2 g n.0;
            a_f = under t _ r _ a h.0 g n.1;
            b_f = under t _ r _ b h.1 g n.1;
            c_f = under t _ r _ c h.2 g n.1;
          }))
      by false e false g = inr (common e g)

-- the margin of a job's cutter
pub margin_least : (cutter : Cutter) → IsCutter cutter → (pos 0) ≤ℤ margin_of cutter
margin_least cutter ok = more (radius_of cutter) (radius_least cutter ok)
  where
    more : (r : ℤ) → (pos 1) ≤ℤ r → (pos 0) ≤ℤ (r +ℤ pos 2)
    more r h = omega (h, arith, ints)

-- a triangle is far from the move, or its box meets the box about it
far_or_near : (cutter : Cutter) (m : Move) (tri : Tri) → IsCutter cutter → IsLiftedMove m → TriInRange tri → IsFar cutter m tri ⊎ Meet (box_of tri) (reach_box_of cutter m)
far_or_near cutter m tri ok ranged inside =
    elim (along (margin_of cutter) m.from.x m.to.x tri.a.x tri.b.x tri.c.x (margin_least cutter ok) ranged.from_ok.x_ok inside.a_ok.x_ok) [
      | inl apart ↦ inl (inr (inl apart))
      | inr x ↦ elim (along (margin_of cutter) m.from.y m.to.y tri.a.y tri.b.y tri.c.y (margin_least cutter ok) ranged.from_ok.y_ok inside.a_ok.y_ok) [
        | inl apart ↦ inl (inr (inr apart))
        | inr y ↦ inr (record {
          x = x.at;
          y = y.at;
          in_first = record { right = x.right; left = x.left; over = y.right; under = y.left };
          in_second = record { right = x.right_too; left = x.left_too; over = y.right_too; under = y.left_too };
        })
      ]
    ]

-- a triangle that doesn't come over the lower of the move's ends is passed
low_passes : (cutter : Cutter) (m : Move) (tri : Tri) → IsCutter cutter → IsLiftedMove m → highest tri ≤ℤ low_end_of m → Passes cutter m tri
low_passes cutter m tri ok ranged low =
    let h = most_of tri.a.z tri.b.z tri.c.z in
    let e = ends_of m.from.z m.to.z in
    lifted_far_passes cutter m tri ok ranged (inl (record {
      from = record { a = through _ _ _ _ h.0 low e.0; b = through _ _ _ _ h.1 low e.0; c = through _ _ _ _ h.2 low e.0 };
      to = record { a = through _ _ _ _ h.0 low e.1; b = through _ _ _ _ h.1 low e.1; c = through _ _ _ _ h.2 low e.1 };
    }))
  where
    through : (a b c d : ℤ) → a ≤ℤ b → b ≤ℤ c → c ≤ℤ d → a ≤ℤ d
    through a b c d p q r = omega (p, q, r, arith, ints)

pub lifted_out_of_reach : (cutter : Cutter) (m : Move) (tri : Tri) → IsCutter cutter → IsLiftedMove m → TriInRange tri → IsOutOfReach cutter m tri → Passes cutter m tri
lifted_out_of_reach cutter m tri ok ranged inside out = elim out [
  | inl apart ↦ elim (far_or_near cutter m tri ok ranged inside) [
    | inl far ↦ lifted_far_passes cutter m tri ok ranged far
    | inr meet ↦ absurd (apart meet)
  ]
  | inr low ↦ low_passes cutter m tri ok ranged low
]
