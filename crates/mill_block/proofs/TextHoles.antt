-- A hole leads where its own numbers do: to the nearest unit, or exactly there where nothing is rounded.
use Rattle.std.proofs.Common.{◌≡◌, ℕ, zero, suc, ◌+◌, ◌-◌, ◌*◌, ◌^◌, Bool, true, false, List, [], ◌∷◌, ◌++◌, refl}
use Rattle.std.specs.Prelude.{⊤, ℤ, ◌+ℤ◌, ◌*ℤ◌, int_lt, IfSome, cond, if◌then◌else◌}
use Rattle.mill_base.specs.Rounded.{AreRounded, IsRounded, IsRoundedTo}
use Rattle.mill_base.specs.declared.motion.Kind.TheVariants.{Rapid, Feed}
use Rattle.mill_base.specs.declared.motion.Move.{Move}
use Rattle.mill_base.specs.declared.points.Pt3.{Pt3}
use Rattle.mill_words.specs.Words.{FitsNum}
use Rattle.mill_control.specs.Holes.{Stop, at_height, bitten, bottom_of, cleared, count_bites, crossing_of, depth_at, hole_moves, lowered, over_hole, per_of as per_of_hole, risen_to, stops_of, sunk, top_of}
use Rattle.mill_control.specs.declared.hole.Hole.{Hole}
use Rattle.mill_control.specs.declared.series.Cycle.{Cycle}
use Rattle.mill_control.specs.declared.series.Cycle.TheVariants.{Drill, Dwell, Peck, Break}
use Rattle.mill_block.specs.MachineLines.{is_taken}
use Rattle.mill_control.specs.Unrounded.{parts}
use Rattle.mill_block.specs.TextPaths.{text_bitten, text_bottom, text_cleared, text_crossing, text_depth, text_hole, text_lowered, text_over, text_risen, text_stops, text_top}
use Rattle.mill_block.proofs.TextLemmas.{depth_near, near_lesser, near_raised, number_near}

-- ---- ways one behind the other

pub near-append : (rounds : Bool) (d : ℕ) (qs ms rs ns : List Move) → AreRounded rounds d qs ms → AreRounded rounds d rs ns → AreRounded rounds d (qs ++ rs) (ms ++ ns)
near-append rounds d [] [] rs ns h g = g
near-append rounds d (q ∷ qs) (m ∷ ms) rs ns h g = (h.0, near-append rounds d qs ms rs ns h.1 g)
near-append rounds d [] (m ∷ ms) rs ns h g = absurd h
near-append rounds d (q ∷ qs) [] rs ns h g = absurd h

-- ways up and down, by their heights
NearStops : Bool → List Stop → List Stop → Type 0
NearStops rounds [] [] = ⊤
NearStops rounds (q ∷ qs) (s ∷ ss) = ((q.0 ≡ s.0) × IsRoundedTo rounds (10 ^ 18) q.1 s.1) × NearStops rounds qs ss
NearStops rounds qs ss = ⊥

stops-append : (rounds : Bool) (qs ss rs ts : List Stop) → NearStops rounds qs ss → NearStops rounds rs ts → NearStops rounds (qs ++ rs) (ss ++ ts)
unfolding NearStops
stops-append rounds [] [] rs ts h g = g
stops-append rounds (q ∷ qs) (s ∷ ss) rs ts h g = (h.0, stops-append rounds qs ss rs ts h.1 g)
stops-append rounds [] (s ∷ ss) rs ts h g = absurd h
stops-append rounds (q ∷ qs) [] rs ts h g = absurd h

near-height : (rounds : Bool) (q p : Pt3) (a b : ℤ) → IsRounded rounds (10 ^ 18) q p → IsRoundedTo rounds (10 ^ 18) a b → IsRounded rounds (10 ^ 18) (at_height q a) (at_height p b)
near-height rounds q p a b near z = record { x_near = near.x_near; y_near = near.y_near; z_near = z }

near-sunk : (rounds : Bool) (q p : Pt3) (qs ss : List Stop) → IsRounded rounds (10 ^ 18) q p → NearStops rounds qs ss → AreRounded rounds (10 ^ 18) (sunk q qs) (sunk p ss)
unfolding NearStops
near-sunk rounds q p [] [] near h = tt
near-sunk rounds q p (t ∷ qs) (s ∷ ss) near h =
    let there = near-height rounds q p t.1 s.1 near h.0.1 in
    (record { kind = h.0.0; from = near; to = there }, near-sunk rounds (at_height q t.1) (at_height p s.1) qs ss there h.1)
near-sunk rounds q p [] (s ∷ ss) near h = absurd h
near-sunk rounds q p (t ∷ qs) [] near h = absurd h

-- ---- a hole

-- the numbers of a hole that is taken
pub record TakesHole (rounds : Bool) (h : Hole) : Type 0 where
  pub r_fits : FitsNum 18 h.r
  pub z_fits : FitsNum 18 h.z
  pub q_fits : IfSome h.q (FitsNum 18)
  pub r_taken : is_taken rounds (per_of_hole h) h.r ≡ true
  pub z_taken : is_taken rounds (per_of_hole h) h.z ≡ true
  pub q_taken : IfSome h.q (λ n. is_taken rounds (per_of_hole h) n ≡ true)

near-top : (rounds : Bool) (h : Hole) → TakesHole rounds h → IsRoundedTo rounds (10 ^ 18) (text_top h) (top_of h)
near-top rounds h takes = number_near rounds (per_of_hole h) h.r takes.r_fits takes.r_taken

near-bottom : (rounds : Bool) (h : Hole) → TakesHole rounds h → IsRoundedTo rounds (10 ^ 18) (text_bottom h) (bottom_of h)
near-bottom rounds h takes = number_near rounds (per_of_hole h) h.z takes.z_fits takes.z_taken

near-depth : (rounds : Bool) (h : Hole) (k : ℕ) → TakesHole rounds h → IsRoundedTo rounds (10 ^ 18) (text_depth h k) (depth_at h k)
near-depth rounds h k takes = depth_near rounds (per_of_hole h) h.r h.q k takes.r_fits takes.q_fits takes.r_taken takes.q_taken

near-cleared : (rounds : Bool) (cycle : Cycle) (t d top depth clearance : ℤ) → IsRoundedTo rounds (10 ^ 18) t top → IsRoundedTo rounds (10 ^ 18) d depth → NearStops rounds (text_cleared cycle t clearance d) (cleared cycle top clearance depth)
unfolding NearStops
near-cleared rounds Drill t d top depth clearance high low = tt
near-cleared rounds Dwell t d top depth clearance high low = tt
near-cleared rounds Break t d top depth clearance high low = tt
near-cleared rounds Peck t d top depth clearance high low =
    ((refl, high), ((refl, near_lesser rounds (10 ^ 18) t (d +ℤ parts *ℤ clearance) top (depth +ℤ clearance) high (near_raised rounds (10 ^ 18) d depth clearance low)), tt))

near-bitten : (rounds : Bool) (h : Hole) → TakesHole rounds h → (n : ℕ) → NearStops rounds (text_bitten h n) (bitten h n)
unfolding NearStops
near-bitten rounds h takes zero = tt
near-bitten rounds h takes (suc n) =
    let low = near-depth rounds h (suc n) takes in
    stops-append rounds (text_bitten h n) (bitten h n) ((Feed, text_depth h (suc n)) ∷ text_cleared h.cycle (text_top h) h.peck_clearance (text_depth h (suc n)))
    ((Feed, depth_at h (suc n)) ∷ cleared h.cycle (top_of h) h.peck_clearance (depth_at h (suc n))) (near-bitten rounds h takes n)
    ((refl, low), near-cleared rounds h.cycle (text_top h) (text_depth h (suc n)) (top_of h) (depth_at h (suc n)) h.peck_clearance (near-top rounds h takes) low)

near-lowered : (rounds : Bool) (h : Hole) → TakesHole rounds h → NearStops rounds (text_lowered h) (lowered (top_of h) h.from.z)
unfolding NearStops
near-lowered rounds h takes = by (int_lt (top_of h) h.from.z)
  where
    by : (b : Bool) → NearStops rounds (if b then (Rapid, text_top h) ∷ [] else []) (if b then (Rapid, top_of h) ∷ [] else [])
    by true = ((refl, near-top rounds h takes), tt)
    by false = tt

near-risen : (rounds : Bool) (h : Hole) (at : Pt3) → TakesHole rounds h → IsRounded rounds (10 ^ 18) at h.from → AreRounded rounds (10 ^ 18) (text_risen h at) (risen_to h.from (top_of h))
near-risen rounds h at takes near = by (int_lt h.from.z (top_of h))
  where
    by : (b : Bool) → AreRounded rounds (10 ^ 18) (if b then record { kind = Rapid; from = at; to = at_height at (text_top h) } ∷ [] else []) (if b then record { kind = Rapid; from = h.from; to = at_height h.from (top_of h) } ∷ [] else [])
    by true = (record { kind = refl; from = near; to = near-height rounds at h.from (text_top h) (top_of h) near (near-top rounds h takes) }, tt)
    by false = tt

near-crossing : (rounds : Bool) (h : Hole) (at : Pt3) → TakesHole rounds h → IsRounded rounds (10 ^ 18) at h.from → IsRoundedTo rounds (10 ^ 18) (text_crossing h at) (crossing_of h)
near-crossing rounds h at takes near = by (int_lt h.from.z (top_of h))
  where
    by : (b : Bool) → IsRoundedTo rounds (10 ^ 18) (if b then text_top h else at.z) (cond b (top_of h) h.from.z)
    by true = near-top rounds h takes
    by false = near.z_near

pub hole_near : (rounds : Bool) (h : Hole) (at : Pt3) (x y end : ℤ) → TakesHole rounds h → IsRounded rounds (10 ^ 18) at h.from → IsRoundedTo rounds (10 ^ 18) x h.x → IsRoundedTo rounds (10 ^ 18) y h.y
    → IsRoundedTo rounds (10 ^ 18) end h.end → AreRounded rounds (10 ^ 18) (text_hole h at x y end).1 (hole_moves h)
unfolding text_hole hole_moves NearStops
hole_near rounds h at x y end takes near x_near y_near end_near =
    let across = near-crossing rounds h at takes near in
    let over : IsRounded rounds (10 ^ 18) (text_over h at x y) (over_hole h) = record { x_near = x_near; y_near = y_near; z_near = across } in
    near-append rounds (10 ^ 18) (text_risen h at) (risen_to h.from (top_of h)) (record { kind = Rapid; from = at_height at (text_crossing h at); to = text_over h at x y } ∷ sunk (text_over h at x y) (text_stops h end))
    (record { kind = Rapid; from = at_height h.from (crossing_of h); to = over_hole h } ∷ sunk (over_hole h) (stops_of h)) (near-risen rounds h at takes near) (
      record { kind = refl; from = near-height rounds at h.from (text_crossing h at) (crossing_of h) near across; to = over },
      near-sunk rounds (text_over h at x y) (over_hole h) (text_stops h end) (stops_of h) over
          (stops-append rounds (text_lowered h) (lowered (top_of h) h.from.z) (text_bitten h (count_bites h) ++ (Feed, text_bottom h) ∷ (Rapid, end) ∷ []) (bitten h (count_bites h) ++ (Feed, bottom_of h) ∷ (Rapid, h.end) ∷ []) (near-lowered rounds h takes)
          (stops-append rounds (text_bitten h (count_bites h)) (bitten h (count_bites h)) ((Feed, text_bottom h) ∷ (Rapid, end) ∷ []) ((Feed, bottom_of h) ∷ (Rapid, h.end) ∷ []) (near-bitten rounds h takes (count_bites h))
          ((refl, near-bottom rounds h takes), ((refl, end_near), tt)))),
    )
