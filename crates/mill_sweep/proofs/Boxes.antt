-- What a dogleg passes: a triangle that lies beside the box of its two ends, or no higher than the lower of them.
use Rattle.std.specs.Prelude.{◌≡◌, ℤ, pos, ◌+ℤ◌, ◌-ℤ◌, ◌*ℤ◌, ◌<ℤ◌, ◌≤ℤ◌}
use Rattle.std.proofs.Common.{inl, inr, subst, arith}
use Rattle.std.proofs.lemmas.Int.{ints}
use Rattle.mill_base.proofs.Exit.{split_lt}
use Rattle.mill_base.proofs.Extremes.{greater_least}
use Rattle.mill_base.specs.Contact.{Holds, Touches}
use Rattle.mill_base.specs.Motion.{IsBetween, IsInBox}
use Rattle.mill_base.specs.Numbers.{lesser, greater}
use Rattle.mill_base.specs.Points.{highest, plus, point_at, point_tri, times}
use Rattle.mill_base.specs.Sizes.{IsCutter, radius_of}
use Rattle.mill_base.specs.declared.cutter.Cutter.{Cutter}
use Rattle.mill_base.specs.declared.limits.TheConstants.{MAX_LAST_REACH}
use Rattle.mill_base.specs.declared.motion.Move.{Move}
use Rattle.mill_base.specs.declared.points.Pt3.{Pt3}
use Rattle.mill_base.specs.declared.points.Tri.{Tri}
use Rattle.mill_shape.proofs.Holding.{holds_around, holds_over_tip}
use Rattle.mill_sweep.specs.Apart.{LieApart, LiesBeside, low_end_of}
use Rattle.mill_sweep.specs.Passing.{BoxBlocks, BoxPasses, IsWhole}
use Rattle.mill_sweep.specs.inner.Boxes.{BoxFailsAt}
use Rattle.mill_sweep.specs.declared.leaf.Leaf.{Leaf}
use Rattle.mill_sweep.proofs.ApartCerts.{not_over, off_east, off_west}
use Rattle.mill_sweep.proofs.Halves.{under_highest}
use Rattle.mill_sweep.proofs.LeafCerts.{point_east, point_west}
use Rattle.mill_sweep.proofs.Lower.{highest_point}
use Rattle.mill_sweep.proofs.Passing.{radius_least}
use Rattle.mill_sweep.proofs.Sides.{split}

-- what is so much over both ends is so over the greater, and what is under both is so under the lesser
over_both : (r f t y : ℤ) → (f +ℤ r) ≤ℤ y → (t +ℤ r) ≤ℤ y → (greater f t +ℤ r) ≤ℤ y
over_both r f t y p q = back (greater f t) (greater_least f t (y -ℤ r) (room f p) (room t q))
  where
    room : (e : ℤ) → (e +ℤ r) ≤ℤ y → e ≤ℤ (y -ℤ r)
    room e h = omega (arith, ints)

    back : (g : ℤ) → g ≤ℤ (y -ℤ r) → (g +ℤ r) ≤ℤ y
    back g h = omega (arith, ints)

-- a mean of three numbers that lie r away from a stretch is no nearer to a place in it
mean_apart : (u v w n m r f t a b c x : ℤ) → (pos 0) ≤ℤ u → (pos 0) ≤ℤ v → (pos 0) ≤ℤ w → n ≡ (u +ℤ v) +ℤ w → (pos 0) <ℤ n → (pos 0) <ℤ m → LieApart r f t a b c → IsBetween f t m x
    → (m *ℤ ((u *ℤ a +ℤ v *ℤ b) +ℤ w *ℤ c) -ℤ n *ℤ x) <ℤ (r *ℤ (m *ℤ n))
    → ((pos 0) -ℤ (m *ℤ ((u *ℤ a +ℤ v *ℤ b) +ℤ w *ℤ c) -ℤ n *ℤ x)) <ℤ (r *ℤ (m *ℤ n)) → ⊥
mean_apart u v w n m r f t a b c x hu hv hw e hn hm (inl over) between east west =
    off_east n m (greater f t) r ((u *ℤ a +ℤ v *ℤ b) +ℤ w *ℤ c) x hn hm
    (rw e (point_east u v w a b c (greater f t) r hu hv hw (over_both r f t a over.a_e over.a_f) (over_both r f t b over.b_e over.b_f) (over_both r f t c over.c_e over.c_f)))
    between.most east
mean_apart u v w n m r f t a b c x hu hv hw e hn hm (inr under) between east west =
    off_west n m (lesser f t) r ((u *ℤ a +ℤ v *ℤ b) +ℤ w *ℤ c) x hn hm
    (rw e (point_west u v w a b c (lesser f t) r hu hv hw (split f t (a +ℤ r) under.a_e under.a_f) (split f t (b +ℤ r) under.b_e under.b_f) (split f t (c +ℤ r) under.c_e under.c_f)))
    between.least west

-- so a triangle that it passes is touched nowhere in the box
pub box_is_clear : (cutter : Cutter) (move : Move) (tri : Tri) (m : ℤ) (t : Pt3) → IsCutter cutter → BoxPasses cutter move tri → IsInBox move m t → ¬ Touches cutter m t tri
box_is_clear cutter move tri m t ok passes box touches =
    let p = touches.point in
    let held : Holds cutter m t touches.n (plus (plus (times p.u tri.a) (times p.v tri.b)) (times p.w tri.c)) = subst (λ (s : Pt3). Holds cutter m t touches.n s) p.place touches.inside in
    let near = holds_around cutter m t touches.n (plus (plus (times p.u tri.a) (times p.v tri.b)) (times p.w tri.c)) (radius_least cutter ok) box.some p.some held in
    elim passes [
      | inl low ↦ not_over touches.n m (low_end_of move) (highest tri) touches.p.z t.z p.some box.some low (under_highest tri touches.n touches.p p) box.z.least
          (holds_over_tip cutter m t touches.n touches.p (radius_least cutter ok) box.some p.some touches.inside)
      | inr beside ↦ elim beside [
        | inl x ↦ mean_apart p.u p.v p.w touches.n m (radius_of cutter) move.from.x move.to.x tri.a.x tri.b.x tri.c.x t.x p.u_ok p.v_ok p.w_ok p.weights p.some box.some x box.x near.east near.west
        | inr y ↦ mean_apart p.u p.v p.w touches.n m (radius_of cutter) move.from.y move.to.y tri.a.y tri.b.y tri.c.y t.y p.u_ok p.v_ok p.w_ok p.weights p.some box.some y box.y near.north near.south
      ]
    ]

-- ---- what lies far from it

pub low_box_passes : (cutter : Cutter) (move : Move) (tri : Tri) → highest tri ≤ℤ move.from.z → highest tri ≤ℤ move.to.z → BoxPasses cutter move tri
low_box_passes cutter move tri from to = inl (split move.from.z move.to.z (highest tri) from to)

-- what lies farther away lies away
closer : (r f t a b c : ℤ) → LieApart (r +ℤ pos MAX_LAST_REACH) f t a b c → LieApart r f t a b c
closer r f t a b c (inl l) = inl (record { a_e = up f a l.a_e; b_e = up f b l.b_e; c_e = up f c l.c_e; a_f = up t a l.a_f; b_f = up t b l.b_f; c_f = up t c l.c_f })
  where
    up : (x y : ℤ) → (x +ℤ (r +ℤ pos MAX_LAST_REACH)) ≤ℤ y → (x +ℤ r) ≤ℤ y
    up x y h = omega (arith, ints)
closer r f t a b c (inr l) = inr (record { a_e = down f a l.a_e; b_e = down f b l.b_e; c_e = down f c l.c_e; a_f = down t a l.a_f; b_f = down t b l.b_f; c_f = down t c l.c_f })
  where
    down : (x y : ℤ) → (y +ℤ (r +ℤ pos MAX_LAST_REACH)) ≤ℤ x → (y +ℤ r) ≤ℤ x
    down x y h = omega (arith, ints)

pub far_box_passes : (cutter : Cutter) (move : Move) (tri : Tri) → LiesBeside (radius_of cutter +ℤ pos MAX_LAST_REACH) move.from move.to tri → BoxPasses cutter move tri
far_box_passes cutter move tri (inl x) = inr (inl (closer (radius_of cutter) move.from.x move.to.x tri.a.x tri.b.x tri.c.x x))
far_box_passes cutter move tri (inr y) = inr (inr (closer (radius_of cutter) move.from.y move.to.y tri.a.y tri.b.y tri.c.y y))

-- ---- points, and failing

-- what passes a point passes each lower one of its column
pub box_passes_lower : (x y t h : ℤ) → h ≤ℤ t → (cutter : Cutter) (move : Move) → BoxPasses cutter move (point_tri (point_at x y t)) → BoxPasses cutter move (point_tri (point_at x y h))
box_passes_lower x y t h low cutter move (inl under) = inl (rw (highest_point (point_at x y h)) (up h t _ low (rw (highest_point (point_at x y t)) at under)))
  where
    up : (a b c : ℤ) → a ≤ℤ b → b ≤ℤ c → a ≤ℤ c
    up a b c p q = omega (arith, ints)
box_passes_lower x y t h low cutter move (inr beside) = inr beside

-- it isn't so that a triangle that isn't passed doesn't block
pub box_is_blocked : (cutter : Cutter) (move : Move) (tri : Tri) → ¬ BoxPasses cutter move tri → ¬ (¬ BoxBlocks cutter move tri)
box_is_blocked cutter move tri fails unblocked = elim (split_lt (low_end_of move) (highest tri)) [
  | inl over ↦ unblocked (record { over = over; near = λ beside. fails (inr beside) })
  | inr under ↦ fails (inl under)
]

-- what is not passed fails at the whole move
pub box_fails : (cutter : Cutter) (move : Move) (tri : Tri) → low_end_of move <ℤ highest tri → ¬ LiesBeside (radius_of cutter) move.from move.to tri → (leaf : Leaf) → IsWhole leaf
    → BoxFailsAt cutter move tri leaf × BoxBlocks cutter move tri
box_fails cutter move tri over near leaf whole = (record { fails = no; leads = whole }, record { over = over; near = near })
  where
    not_both : (a b : ℤ) → a <ℤ b → b ≤ℤ a → ⊥
    not_both a b p q = absurd (omega (arith, ints))

    no : ¬ BoxPasses cutter move tri
    no (inl under) = not_both (low_end_of move) (highest tri) over under
    no (inr beside) = near beside
