-- The moves of a hole follow on each other, end where it ends, and are in range.
use Rattle.std.specs.Prelude.{◌≡◌, ℕ, zero, suc, ◌+◌, ◌≤◌, ℤ, ◌+ℤ◌, int_lt, Bool, true, false, if◌then◌else◌, cond, List, [], ◌∷◌, ◌++◌, All, Contains}
use Rattle.std.proofs.Common.{refl, sym, ap, ◌∙◌, subst, arith}
use Rattle.std.proofs.lemmas.List.Elements.{All-append, All-cons, All-contains, All-nil}
use Rattle.mill_base.specs.Motion.{Follow}
use Rattle.mill_base.specs.Numbers.{Within, greater, lesser}
use Rattle.mill_base.specs.Ranges.{IsInUnitRange, MoveInUnitRange, MovesInUnitRange}
use Rattle.mill_base.specs.Units.{greatest_of}
use Rattle.mill_base.specs.declared.motion.Kind.TheVariants.{Rapid, Feed}
use Rattle.mill_base.specs.declared.motion.Move.{Move}
use Rattle.mill_base.specs.declared.points.Pt3.{Pt3}
use Rattle.mill_base.specs.declared.unit.Unit.{Unit as LengthsUnit}
use Rattle.mill_control.specs.declared.series.Cycle.{Cycle}
use Rattle.mill_control.specs.declared.series.Cycle.TheVariants.{Drill, Dwell, Peck, Break}
use Rattle.mill_control.specs.declared.hole.Hole.{Hole}
use Rattle.mill_control.specs.Drilled.{GoesOn, HoleGoesOn, IsHole, ends_at}
use Rattle.mill_control.specs.Holes.{Stop, at_height, bitten, bottom_of, cleared, count_bites, crossing_of, depth_at, hole_end, hole_moves, lowered, over_hole, risen_to, stops_of, sunk, top_of}
use Rattle.mill_control.specs.inner.Bounds.{bite_ways, crossing_move, rests}
use Rattle.mill_control.proofs.Depths.{back-within, depth-under, depth-within}
use Rattle.mill_control.proofs.Sinking.{height_of, height_of-append, sunk-ends, sunk-follows}

-- ---- moves behind moves

follow-append : (p : Pt3) (ms ns : List Move) → Follow p ms → Follow (ends_at p ms) ns → Follow p (ms ++ ns)
follow-append p [] ns first rest = rest
follow-append p (m ∷ ms) ns first rest = (first.0, follow-append m.to ms ns first.1 rest)

ends-append : (p : Pt3) (ms ns : List Move) → ends_at p (ms ++ ns) ≡ ends_at (ends_at p ms) ns
ends-append p [] ns = refl
ends-append p (m ∷ ms) ns = ends-append m.to ms ns

-- ---- up to R

rise-follows : (p : Pt3) (top : ℤ) → Follow p (risen_to p top)
rise-follows p top = by (int_lt p.z top)
  where
    by : (b : Bool) → Follow p (if b then record { kind = Rapid; from = p; to = at_height p top } ∷ [] else [])
    by true = (refl, tt)
    by false = tt

rise-ends : (p : Pt3) (top : ℤ) → ends_at p (risen_to p top) ≡ at_height p (greater p.z top)
rise-ends p top = by (int_lt p.z top)
  where
    by : (b : Bool) → ends_at p (if b then record { kind = Rapid; from = p; to = at_height p top } ∷ [] else []) ≡ at_height p (cond b top p.z)
    by true = refl
    by false = refl

-- ---- the whole

there : (h : Hole) → ends_at h.from (risen_to h.from (top_of h)) ≡ at_height h.from (crossing_of h)
there h = rise-ends h.from (top_of h)

pub follows : (h : Hole) → Follow h.from (hole_moves h)
unfolding hole_moves
follows h =
    follow-append h.from (risen_to h.from (top_of h)) (crossing_move h ∷ sunk (over_hole h) (stops_of h)) (rise-follows h.from (top_of h))
    (subst (λ p. Follow p (crossing_move h ∷ sunk (over_hole h) (stops_of h))) (sym (there h)) (refl, sunk-follows (over_hole h) (stops_of h)))

last-height : (h : Hole) (z : ℤ) → height_of z (stops_of h) ≡ h.end
last-height h z =
    height_of-append z (lowered (top_of h) h.from.z) (rests h) ∙ height_of-append (height_of z (lowered (top_of h) h.from.z)) (bitten h (count_bites h)) ((Feed, bottom_of h) ∷ (Rapid, h.end) ∷ [])

pub ends : (h : Hole) → ends_at h.from (hole_moves h) ≡ hole_end h
unfolding hole_moves
ends h =
    ends-append h.from (risen_to h.from (top_of h)) (crossing_move h ∷ sunk (over_hole h) (stops_of h))
    ∙ sunk-ends (over_hole h) (stops_of h) ∙ ap (λ z. at_height (over_hole h) z) (last-height h (crossing_of h))

-- ---- in range

-- all heights are in range
abbrev HeightsIn : ℕ → List Stop → Type 0
HeightsIn g [] = Unit {0}
HeightsIn g (s ∷ ss) = Within g s.1 × HeightsIn g ss

heights-append : (g : ℕ) (ss ts : List Stop) → HeightsIn g ss → HeightsIn g ts → HeightsIn g (ss ++ ts)
heights-append g [] ts first rest = rest
heights-append g (s ∷ ss) ts first rest = (first.0, heights-append g ss ts first.1 rest)

at-height-in : (unit : LengthsUnit) (p : Pt3) (z : ℤ) → IsInUnitRange unit p → Within (greatest_of unit) z → IsInUnitRange unit (at_height p z)
at-height-in unit p z ok within = record { x_ok = ok.x_ok; y_ok = ok.y_ok; z_ok = within }

sunk-in : (unit : LengthsUnit) (p : Pt3) (ss : List Stop) → IsInUnitRange unit p → HeightsIn (greatest_of unit) ss → All (MoveInUnitRange unit) (sunk p ss)
sunk-in unit p [] ok heights = All-nil (MoveInUnitRange unit)
sunk-in unit p (s ∷ ss) ok heights =
    let end = at-height-in unit p s.1 ok heights.0 in
    All-cons (MoveInUnitRange unit) (record { kind = s.0; from = p; to = at_height p s.1 }) (sunk (at_height p s.1) ss) (record { from_ok = ok; to_ok = end })
    (sunk-in unit (at_height p s.1) ss end heights.1)

cleared-in : (g : ℕ) (cycle : Cycle) (top clearance depth : ℤ) → Within g top → Within g (lesser top (depth +ℤ clearance)) → HeightsIn g (cleared cycle top clearance depth)
cleared-in g Drill top clearance depth high back = tt
cleared-in g Dwell top clearance depth high back = tt
cleared-in g Peck top clearance depth high back = (high, (back, tt))
cleared-in g Break top clearance depth high back = tt

bitten-in : (h : Hole) → IsHole h → (n : ℕ) → n ≤ count_bites h → HeightsIn (greatest_of h.unit) (bitten h n)
bitten-in h ok zero le = tt
bitten-in h ok (suc n) le =
    let depth = depth-within h ok (suc n) (omega arith) le in
    heights-append (greatest_of h.unit) (bitten h n) (bite_ways h (suc n)) (bitten-in h ok n (omega arith)) (
      depth,
      cleared-in (greatest_of h.unit) h.cycle (top_of h) h.peck_clearance (depth_at h (suc n)) ok.top
          (back-within (greatest_of h.unit) (top_of h) h.peck_clearance (depth_at h (suc n)) ok.top depth ok.least (depth-under h ok (suc n))),
    )

lowered-in : (g : ℕ) (top z : ℤ) → Within g top → HeightsIn g (lowered top z)
lowered-in g top z ok = by (int_lt top z)
  where
    by : (b : Bool) → HeightsIn g (if b then (Rapid, top) ∷ [] else [])
    by true = (ok, tt)
    by false = tt

stops-in : (h : Hole) → IsHole h → HeightsIn (greatest_of h.unit) (stops_of h)
stops-in h ok =
    heights-append (greatest_of h.unit) (lowered (top_of h) h.from.z) (rests h) (lowered-in (greatest_of h.unit) (top_of h) h.from.z ok.top)
    (heights-append (greatest_of h.unit) (bitten h (count_bites h)) ((Feed, bottom_of h) ∷ (Rapid, h.end) ∷ []) (bitten-in h ok (count_bites h) (omega arith)) (ok.bottom, (ok.end, tt)))

rise-in : (unit : LengthsUnit) (p : Pt3) (top : ℤ) → IsInUnitRange unit p → Within (greatest_of unit) top → All (MoveInUnitRange unit) (risen_to p top)
rise-in unit p top ok high = by (int_lt p.z top)
  where
    by : (b : Bool) → All (MoveInUnitRange unit) (if b then record { kind = Rapid; from = p; to = at_height p top } ∷ [] else [])
    by true = All-cons (MoveInUnitRange unit) (record { kind = Rapid; from = p; to = at_height p top }) [] (record { from_ok = ok; to_ok = at-height-in unit p top ok high }) (All-nil (MoveInUnitRange unit))
    by false = All-nil (MoveInUnitRange unit)

all-in : (h : Hole) → IsHole h → All (MoveInUnitRange h.unit) (hole_moves h)
unfolding hole_moves
all-in h ok =
    All-append (MoveInUnitRange h.unit) (risen_to h.from (top_of h)) (crossing_move h ∷ sunk (over_hole h) (stops_of h)) (rise-in h.unit h.from (top_of h) ok.from ok.top)
    (All-cons (MoveInUnitRange h.unit) (crossing_move h) (sunk (over_hole h) (stops_of h)) (record { from_ok = at-height-in h.unit h.from (crossing_of h) ok.from ok.over.z_ok; to_ok = ok.over })
    (sunk-in h.unit (over_hole h) (stops_of h) ok.over (stops-in h ok)))

pub hole_goes_on : HoleGoesOn
hole_goes_on h ok = record {
  follow = follows h;
  in_range = λ m inside. All-contains (MoveInUnitRange h.unit) (hole_moves h) m (all-in h ok) inside;
  last = ends h;
}
