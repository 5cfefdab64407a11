-- Ways straight up and down at one place: their moves, one behind the other, and where they end.
use Rattle.std.specs.Prelude.{◌≡◌, ℕ, zero, suc, ◌+◌, ◌*◌, ◌≤◌, ℤ, ◌+ℤ◌, int_lt, Bool, true, false, cond, if◌then◌else◌, List, [], ◌∷◌, ◌++◌, length}
use Rattle.std.proofs.Common.{refl, sym, ap, ◌∙◌, subst, arith}
use Rattle.std.proofs.lemmas.Int.{ints}
use Rattle.std.proofs.lemmas.List.{length-append}
use Rattle.mill_base.specs.declared.motion.Kind.{Kind}
use Rattle.mill_base.specs.declared.motion.Kind.TheVariants.{Rapid, Feed}
use Rattle.mill_base.specs.Motion.{Follow}
use Rattle.mill_base.specs.Numbers.{greater, lesser}
use Rattle.mill_base.specs.declared.motion.Move.{Move}
use Rattle.mill_base.specs.declared.points.Pt3.{Pt3}
use Rattle.mill_control.specs.declared.series.Cycle.{Cycle}
use Rattle.mill_control.specs.declared.series.Cycle.TheVariants.{Drill, Dwell, Peck, Break}
use Rattle.mill_control.specs.declared.hole.Hole.{Hole}
use Rattle.mill_control.specs.Drilled.{ends_at}
use Rattle.mill_control.specs.Holes.{Stop, at_height, bitten, bottom_of, cleared, count_bites, depth_at, hole_moves, lowered, over_hole, risen_to, sunk, top_of}
use Rattle.mill_control.specs.inner.Bounds.{back_of, bite_ways, crossing_move, each_of, goes_out, height_behind, rests}

-- the height behind ways
abbrev pub height_of : ℤ → List Stop → ℤ
height_of z [] = z
height_of z (s ∷ ss) = height_of s.1 ss

pub height_of-append : (z : ℤ) (ss ts : List Stop) → height_of z (ss ++ ts) ≡ height_of (height_of z ss) ts
height_of-append z [] ts = refl
height_of-append z (s ∷ ss) ts = height_of-append s.1 ss ts

pub sunk-append : (p : Pt3) (ss ts : List Stop) → sunk p (ss ++ ts) ≡ sunk p ss ++ sunk (at_height p (height_of p.z ss)) ts
sunk-append p [] ts = refl
sunk-append p (s ∷ ss) ts = ap (λ ms. record { kind = s.0; from = p; to = at_height p s.1 } ∷ ms) (sunk-append (at_height p s.1) ss ts)

pub sunk-length : (p : Pt3) (ss : List Stop) → length (sunk p ss) ≡ length ss
sunk-length p [] = refl
sunk-length p (s ∷ ss) = ap suc (sunk-length (at_height p s.1) ss)

pub sunk-follows : (p : Pt3) (ss : List Stop) → Follow p (sunk p ss)
sunk-follows p [] = tt
sunk-follows p (s ∷ ss) = (refl, sunk-follows (at_height p s.1) ss)

pub sunk-ends : (p : Pt3) (ss : List Stop) → ends_at p (sunk p ss) ≡ at_height p (height_of p.z ss)
sunk-ends p [] = refl
sunk-ends p (s ∷ ss) = sunk-ends (at_height p s.1) ss

-- ---- the pecks

back_is : (cycle : Cycle) (top clearance depth : ℤ) → height_of depth (cleared cycle top clearance depth) ≡ back_of cycle top clearance depth
back_is Drill top clearance depth = refl
back_is Dwell top clearance depth = refl
back_is Peck top clearance depth = refl
back_is Break top clearance depth = refl

-- where the tool is behind so many of them
pub height-behind : (h : Hole) (n : ℕ) → height_of (top_of h) (bitten h n) ≡ height_behind h n
height-behind h zero = refl
height-behind h (suc n) = height_of-append (top_of h) (bitten h n) (bite_ways h (suc n)) ∙ back_is h.cycle (top_of h) h.peck_clearance (depth_at h (suc n))

-- the moves of one more
pub one_more : (p : Pt3) (h : Hole) (n : ℕ)
    → sunk (at_height p (top_of h)) (bitten h (suc n)) ≡ sunk (at_height p (top_of h)) (bitten h n) ++ sunk (at_height p (height_behind h n)) (bite_ways h (suc n))
one_more p h n =
    sunk-append (at_height p (top_of h)) (bitten h n) (bite_ways h (suc n))
    ∙ ap (λ z. sunk (at_height p (top_of h)) (bitten h n) ++ sunk (at_height p z) (bite_ways h (suc n))) (height-behind h n)

-- the moves from R on: the pecks, the bottom, and up
pub rest-moves : (h : Hole)
    → sunk (at_height (over_hole h) (top_of h)) (rests h)
    ≡ sunk (at_height (over_hole h) (top_of h)) (bitten h (count_bites h))
    ++ (sunk (at_height (over_hole h) (height_behind h (count_bites h))) ((Feed, bottom_of h) ∷ []) ++ sunk (at_height (over_hole h) (bottom_of h)) ((Rapid, h.end) ∷ []))
rest-moves h =
    let p = at_height (over_hole h) (top_of h) in
    sunk-append p (bitten h (count_bites h)) ((Feed, bottom_of h) ∷ (Rapid, h.end) ∷ [])
    ∙ ap (λ z. sunk p (bitten h (count_bites h)) ++ sunk (at_height p z) ((Feed, bottom_of h) ∷ (Rapid, h.end) ∷ [])) (height-behind h (count_bites h))

-- R is reached before the pecks, down or up
lowered-height : (top z : ℤ) → height_of (greater z top) (lowered top z) ≡ top
lowered-height top z = by (int_lt top z) (int_lt z top) refl refl
  where
    by : (down up : Bool) → int_lt top z ≡ down → int_lt z top ≡ up → height_of (cond up top z) (if down then (Rapid, top) ∷ [] else []) ≡ top
    by true up p q = refl
    by false true p q = refl
    by false false p q = omega (p, q, arith, ints)

-- all moves, stage by stage
pub all-moves : (h : Hole) (top : ℤ) → top ≡ top_of h
    → hole_moves h
    ≡ risen_to h.from top ++ ((crossing_move h ∷ []) ++ (sunk (over_hole h) (lowered top h.from.z) ++ sunk (at_height (over_hole h) top) (rests h)))
unfolding hole_moves
all-moves h top same =
    subst (λ t. hole_moves h ≡ risen_to h.from t ++ ((crossing_move h ∷ []) ++ (sunk (over_hole h) (lowered t h.from.z) ++ sunk (at_height (over_hole h) t) (rests h)))) (sym same)
    (ap (λ ms. risen_to h.from (top_of h) ++ (crossing_move h ∷ ms))
    (sunk-append (over_hole h) (lowered (top_of h) h.from.z) (rests h)
    ∙ ap (λ z. sunk (over_hole h) (lowered (top_of h) h.from.z) ++ sunk (at_height (over_hole h) z) (rests h)) (lowered-height (top_of h) h.from.z)))

-- one way, by what its ends are
pub way-is : (old new : List Move) (kind : Kind) (o p : Pt3) (z from end to : ℤ) → new ≡ old ++ sunk p ((kind, end) ∷ []) → p ≡ at_height o z → z ≡ from → end ≡ to
    → new ≡ old ++ sunk (at_height o from) ((kind, to) ∷ [])
way-is old new kind o p z from end to added place begin last =
    added ∙ ap (λ q. old ++ sunk q ((kind, end) ∷ [])) (place ∙ ap (λ t. at_height o t) begin) ∙ ap (λ t. old ++ sunk (at_height o from) ((kind, t) ∷ [])) last

-- ---- by the cycle

-- out of the hole and back, where the cycle has it
pub stays-in : (cycle : Cycle) (top clearance depth : ℤ) → goes_out cycle ≡ false → cleared cycle top clearance depth ≡ []
stays-in Drill top clearance depth e = refl
stays-in Dwell top clearance depth e = refl
stays-in Peck top clearance depth e = absurd (cc)
stays-in Break top clearance depth e = refl

pub goes-out : (cycle : Cycle) (top clearance depth : ℤ) → goes_out cycle ≡ true → cleared cycle top clearance depth ≡ (Rapid, top) ∷ (Rapid, lesser top (depth +ℤ clearance)) ∷ []
goes-out Drill top clearance depth e = absurd (cc)
goes-out Dwell top clearance depth e = absurd (cc)
goes-out Peck top clearance depth e = refl
goes-out Break top clearance depth e = absurd (cc)

pub back-in : (cycle : Cycle) (top clearance depth : ℤ) → goes_out cycle ≡ false → back_of cycle top clearance depth ≡ depth
back-in Drill top clearance depth e = refl
back-in Dwell top clearance depth e = refl
back-in Peck top clearance depth e = absurd (cc)
back-in Break top clearance depth e = refl

pub back-out : (cycle : Cycle) (top clearance depth : ℤ) → goes_out cycle ≡ true → back_of cycle top clearance depth ≡ lesser top (depth +ℤ clearance)
back-out Drill top clearance depth e = absurd (cc)
back-out Dwell top clearance depth e = absurd (cc)
back-out Peck top clearance depth e = refl
back-out Break top clearance depth e = absurd (cc)

-- so many moves have pecks
bite-length : (cycle : Cycle) (top clearance depth : ℤ) → length (cleared cycle top clearance depth) + 1 ≡ each_of (goes_out cycle)
bite-length Drill top clearance depth = refl
bite-length Dwell top clearance depth = refl
bite-length Peck top clearance depth = refl
bite-length Break top clearance depth = refl

pub bitten-length : (h : Hole) (n : ℕ) → length (bitten h n) ≡ each_of (goes_out h.cycle) * n
bitten-length h zero = omega arith
bitten-length h (suc n) =
    by (length (bitten h n)) (length (cleared h.cycle (top_of h) h.peck_clearance (depth_at h (suc n)))) _ (each_of (goes_out h.cycle)) (bitten-length h n)
    (length-append (bitten h n) (bite_ways h (suc n))) (bite-length h.cycle (top_of h) h.peck_clearance (depth_at h (suc n)))
  where
    by : (before more all each : ℕ) → before ≡ each * n → all ≡ before + suc more → more + 1 ≡ each → all ≡ each * suc n
    by before more all each e f g = omega arith

-- ---- where it begins

pub behind_none : (h : Hole) (n : ℕ) → n ≡ 0 → height_behind h n ≡ top_of h
behind_none h zero e = refl
behind_none h (suc n) e = absurd (omega arith)

pub behind_some : (h : Hole) (n : ℕ) → 1 ≤ n → height_behind h n ≡ back_of h.cycle (top_of h) h.peck_clearance (depth_at h n)
behind_some h zero e = absurd (omega arith)
behind_some h (suc n) e = refl
