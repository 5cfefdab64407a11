-- What stays within bounds while holes are drilled, and where the tool is between two pecks.
use Rattle.std.specs.Prelude.{◌≡◌, ℕ, zero, suc, ℤ, ◌+ℤ◌, Bool, true, false, if◌then◌else◌, IfSome, List, [], ◌∷◌, ◌++◌}
use Rattle.mill_base.specs.Numbers.{lesser}
use Rattle.mill_base.specs.declared.motion.Kind.TheVariants.{Rapid, Feed}
use Rattle.mill_base.specs.declared.motion.Move.{Move}
use Rattle.mill_words.specs.Words.{FitsNum}
use Rattle.mill_control.specs.declared.series.Cycle.{Cycle}
use Rattle.mill_control.specs.declared.series.Cycle.TheVariants.{Peck}
use Rattle.mill_control.specs.declared.series.Series.{Series}
use Rattle.mill_control.specs.declared.hole.Hole.{Hole}
use Rattle.mill_control.specs.Holes.{Stop, at_height, bitten, bottom_of, cleared, count_bites, crossing_of, depth_at, over_hole, top_of}

-- the list is as it was, or goes on with more moves
pub record Extends (old new : List Move) : Type 0 where
  pub added : List Move
  pub joined : new ≡ old ++ added

-- it goes up to R between two pecks
abbrev pub goes_out : Cycle → Bool
goes_out Peck = true
goes_out cycle = false

-- so many moves has a peck
abbrev pub each_of : Bool → ℕ
each_of out = if out then 3 else 1

-- across, at R or higher
abbrev pub crossing_move : Hole → Move
crossing_move h = record { kind = Rapid; from = at_height h.from (crossing_of h); to = over_hole h }

-- all ways from R on
abbrev pub rests : Hole → List Stop
rests h = bitten h (count_bites h) ++ (Feed, bottom_of h) ∷ (Rapid, h.end) ∷ []

-- those of the k-th peck
abbrev pub bite_ways : Hole → ℕ → List Stop
bite_ways h k = (Feed, depth_at h k) ∷ cleared h.cycle (top_of h) h.peck_clearance (depth_at h k)

-- the height where they end
abbrev pub back_of : Cycle → ℤ → ℤ → ℤ → ℤ
back_of Peck top clearance depth = lesser top (depth +ℤ clearance)
back_of cycle top clearance depth = depth

abbrev pub height_behind : Hole → ℕ → ℤ
height_behind h zero = top_of h
height_behind h (suc k) = back_of h.cycle (top_of h) h.peck_clearance (depth_at h (suc k))
