-- The moves of a drilling cycle's hole.
use Rattle.std.specs.Prelude.{◌≡◌, ℕ, zero, suc, ℤ, pos, nat_abs, ◌+◌, ◌-◌, ◌*◌, ◌/◌, ◌+ℤ◌, ◌-ℤ◌, ◌*ℤ◌, int_lt, int_le, nat_lt, Bool, true, false, not, ◌&&◌, ◌||◌, if◌then◌else◌, List, [], ◌∷◌, ◌++◌, Option, Some, None, is_some}
use Rattle.std.specs.Ordering.{int_eq}
use Rattle.mill_base.specs.Numbers.{greater, lesser}
use Rattle.mill_base.specs.declared.motion.Kind.{Kind}
use Rattle.mill_base.specs.declared.motion.Kind.TheVariants.{Rapid, Feed}
use Rattle.mill_base.specs.declared.motion.Move.{Move}
use Rattle.mill_base.specs.declared.points.Pt3.{Pt3}
use Rattle.mill_words.specs.declared.word.Num.{Num}
use Rattle.mill_control.specs.declared.series.Cycle.{Cycle}
use Rattle.mill_control.specs.declared.series.Cycle.TheVariants.{Drill, Dwell, Peck, Break}
use Rattle.mill_control.specs.declared.series.Return.{Return}
use Rattle.mill_control.specs.declared.series.Return.TheVariants.{Level, Clearance}
use Rattle.mill_control.specs.declared.series.Series.{Series}
use Rattle.mill_control.specs.declared.hole.Hole.{Hole}
use Rattle.mill_control.specs.Lengths.{exact, per, rounded, rounded_parts}

-- ---- a series of holes

abbrev pub same_cycle : Cycle → Cycle → Bool
same_cycle Drill Drill = true
same_cycle Dwell Dwell = true
same_cycle Peck Peck = true
same_cycle Break Break = true
same_cycle a b = false

-- the numbers stay while the same cycle lasts, and the level from where the series began
abbrev pub begun : Option Series → Cycle → ℤ → Series
begun None cycle level = record { level = level; cycle = cycle; r = None; z = None; q = None }
begun (Some s) cycle level = if same_cycle s.cycle cycle then s else record { level = s.level; cycle = cycle; r = None; z = None; q = None }

abbrev pub later : Option Num → Option Num → Option Num
later (Some n) before = Some n
later None before = before

abbrev pub with_numbers : Series → Option Num → Option Num → Option Num → Series
with_numbers s r z q = record s { r = later r s.r; z = later z s.z; q = later q s.q }

-- ---- what a hole wants

abbrev pub is_positive : Option Num → Bool
is_positive None = false
is_positive (Some q) = not q.neg && nat_lt 0 q.mant

-- the bottom isn't over R
abbrev pub goes_down : Option Num → Option Num → Bool
goes_down (Some r) (Some z) = int_le (exact z) (exact r)
goes_down r z = false

abbrev pub pecks : Cycle → Bool
pecks Peck = true
pecks Break = true
pecks cycle = false

-- all of its numbers have come, and are within their rules
abbrev pub is_whole_series : Series → Bool
is_whole_series s = goes_down s.r s.z && (not (pecks s.cycle) || is_positive s.q)

-- R in units
abbrev pub clearance_of : ℕ → Option Num → ℤ
clearance_of per None = pos 0
clearance_of per (Some r) = rounded per r

-- across at one height, or at a height that isn't under R: some controls go up to R first, others last
abbrev pub crosses_alike : ℤ → Pt3 → ℤ → ℤ → Bool
crosses_alike r here x y = int_le r here.z || (int_eq x here.x && int_eq y here.y)

-- back up to the level where the holes begin there: some controls go to it aslant
abbrev pub returns_alike : Option Return → ℤ → ℤ → Bool
returns_alike None level z = false
returns_alike (Some Level) level z = int_eq level z
returns_alike (Some Clearance) level z = true

-- a hole at x and y may be drilled from here: every control makes the same moves of it
abbrev pub may_drill : Series → Option Return → ℕ → Pt3 → ℤ → ℤ → Bool
may_drill s returns per here x y = is_whole_series s && (crosses_alike (clearance_of per s.r) here x y && returns_alike returns s.level here.z)

-- ---- the depths

-- so many units of the grid is a length of 1
abbrev pub per_of : Hole → ℕ
per_of h = per h.lengths h.unit

-- the heights of R and of the bottom, in units
abbrev pub top_of : Hole → ℤ
top_of h = rounded (per_of h) h.r

abbrev pub bottom_of : Hole → ℤ
bottom_of h = rounded (per_of h) h.z

-- how deep a peck is, in parts of 10^18
abbrev pub bite_of : Option Num → ℕ
bite_of None = 0
bite_of (Some q) = nat_abs (exact q)

-- how many of them end over the bottom
abbrev pub bites_over : ℕ → ℕ → ℕ
bites_over depth bite = (depth - 1) / bite

abbrev pub count_bites : Hole → ℕ
count_bites h = if pecks h.cycle then bites_over (nat_abs (exact h.r -ℤ exact h.z)) (bite_of h.q) else 0

-- where the k-th of them ends, in units
abbrev pub depth_at : Hole → ℕ → ℤ
depth_at h k = rounded_parts (per_of h) (exact h.r -ℤ pos (k * bite_of h.q))

-- ---- the moves

-- a way straight up or down: its kind, and the height where it ends
abbrev pub Stop : Type 0
Stop = Kind × ℤ

-- between two pecks: up to R, and down again until shortly over the depth before
abbrev pub cleared : Cycle → ℤ → ℤ → ℤ → List Stop
cleared Peck top clearance depth = (Rapid, top) ∷ (Rapid, lesser top (depth +ℤ clearance)) ∷ []
cleared cycle top clearance depth = []

-- the first n pecks
abbrev pub bitten : Hole → ℕ → List Stop
bitten h zero = []
bitten h (suc n) = bitten h n ++ (Feed, depth_at h (suc n)) ∷ cleared h.cycle (top_of h) h.peck_clearance (depth_at h (suc n))

-- at the place of the hole: down to R where it was higher, the pecks, the bottom, and up
abbrev pub lowered : ℤ → ℤ → List Stop
lowered top z = if int_lt top z then (Rapid, top) ∷ [] else []

abbrev pub stops_of : Hole → List Stop
stops_of h = lowered (top_of h) h.from.z ++ (bitten h (count_bites h) ++ (Feed, bottom_of h) ∷ (Rapid, h.end) ∷ [])

abbrev pub at_height : Pt3 → ℤ → Pt3
at_height p z = record { x = p.x; y = p.y; z = z }

-- the moves of these ways from a point
abbrev pub sunk : Pt3 → List Stop → List Move
sunk p [] = []
sunk p (s ∷ stops) = record { kind = s.0; from = p; to = at_height p s.1 } ∷ sunk (at_height p s.1) stops

-- where it goes across: at R, or from higher at its height
abbrev pub crossing_of : Hole → ℤ
crossing_of h = greater h.from.z (top_of h)

abbrev pub risen_to : Pt3 → ℤ → List Move
risen_to p top = if int_lt p.z top then record { kind = Rapid; from = p; to = at_height p top } ∷ [] else []

abbrev pub over_hole : Hole → Pt3
over_hole h = record { x = h.x; y = h.y; z = crossing_of h }

-- all moves of a hole: up to R where it was lower, across, and at the place; across and up are moves where nothing changes, too
unfoldable pub hole_moves : Hole → List Move
hole_moves h = risen_to h.from (top_of h) ++ record { kind = Rapid; from = at_height h.from (crossing_of h); to = over_hole h } ∷ sunk (over_hole h) (stops_of h)

-- where it ends
abbrev pub hole_end : Hole → Pt3
hole_end h = at_height (over_hole h) h.end
