-- The samples of a solid on a move: cutters at whole places, of which each has surely cut what it holds there.
use Rattle.std.specs.Prelude.{◌≡◌, ℕ, ◌+◌, ◌*◌, ◌^◌, nat_le, nat_abs, Bool, ◌&&◌, if◌then◌else◌, ℤ, pos, neg_ℤ, ◌+ℤ◌, ◌≤ℤ◌, List, map, Option, Some, None, MatchOption}
use Rattle.std.specs.List.{range_with_len}
use Rattle.mill_base.specs.Numbers.{round_half_up, ceil_div, divides, least_from, Within}
use Rattle.mill_base.specs.Points.{point_at}
use Rattle.mill_base.specs.Sizes.{IsCutter, inner, shift}
use Rattle.mill_base.specs.Solids.{Solid, raised}
use Rattle.mill_base.specs.declared.limits.TheConstants.{MAX_COORDINATE}
use Rattle.mill_base.specs.declared.points.Pt3.{Pt3}
use Rattle.mill_base.specs.declared.motion.Kind.{Kind}
use Rattle.mill_base.specs.declared.motion.Kind.TheVariants.{Rapid, Feed, Dogleg}
use Rattle.mill_base.specs.declared.motion.Move.{Move}
use Rattle.mill_base.specs.declared.cutter.Cutter.{Cutter}
use Rattle.mill_shape.specs.declared.height.TheConstants.{HIGHEST_TIP}
use Rattle.mill_sweep.specs.Leaves.{length_x, length_y, end_of}
use Rattle.mill_dexel.specs.declared.sample.Placed.{Placed}

-- a cutter with its tip at a whole point
abbrev pub placed : Cutter → Pt3 → Placed
placed cutter tip = record { cutter = cutter; tip = tip }

-- after d halvings the parts of a move are at most a sample long, in x and y together
abbrev pub is_split : ℤ → Move → ℕ → Bool
is_split sample m d = nat_le (length_x m + length_y m) (nat_abs sample * 2 ^ d)

-- the least such d, up to 64
abbrev pub straight_split_of : ℤ → Move → ℕ
straight_split_of sample m = least_from (is_split sample m) 64 0

-- how often a move is halved for its samples: a dogleg not at all, since its tip is surely at its two ends alone
abbrev pub split_by : Kind → ℤ → Move → ℕ
split_by Rapid sample m = straight_split_of sample m
split_by Feed sample m = straight_split_of sample m
split_by Dogleg sample m = 0

abbrev pub split_of : ℤ → Move → ℕ
split_of sample m = split_by m.kind sample m

-- the tip at k/2^d at a whole place: x and y rounded to the nearest whole number, halves up, and z rounded up
abbrev pub sample_centre : Move → ℕ → ℕ → Pt3
sample_centre m d k = point_at
    (round_half_up (end_of m.from.x m.to.x d k) (2 ^ d))
    (round_half_up (end_of m.from.y m.to.y d k) (2 ^ d))
    (ceil_div (end_of m.from.z m.to.z d k) (2 ^ d))

-- the tip at k/2^d is at a whole place in x and in y
abbrev pub is_at_whole_place : Move → ℕ → ℕ → Bool
is_at_whole_place m d k = divides (2 ^ d) (end_of m.from.x m.to.x d k) && divides (2 ^ d) (end_of m.from.y m.to.y d k)

-- a cutter, if there is one, with its tip over a point
abbrev pub raised_over : Pt3 → ℤ → Option Cutter → Option Placed
raised_over c rise None = None
raised_over c rise (Some cutter) = Some (placed cutter (point_at c.x c.y (c.z +ℤ rise)))

-- the sample at k/2^d: at a whole place the cutter itself, else the cutter narrowed by 1 and raised for that, none at radius 1
abbrev pub sample_at : Cutter → Move → ℕ → ℕ → Option Placed
sample_at cutter m d k =
    if is_at_whole_place m d k then Some (placed cutter (sample_centre m d k))
    else raised_over (sample_centre m d k) (shift cutter (pos 1)) (inner cutter)

-- a sample, if there is one, with its tip so much higher
abbrev pub raised_sample : ℤ → Option Placed → Option Placed
raised_sample lift None = None
raised_sample lift (Some s) = Some (placed s.cutter (raised lift (pos 1) s.tip))

-- the sample of a solid at k/2^d: that of its cutter, as much higher as its lift is
abbrev pub solid_sample_at : Solid → Move → ℕ → ℕ → Option Placed
solid_sample_at solid m d k = raised_sample solid.lift (sample_at solid.cutter m d k)

-- the samples of a solid on a move, at k/2^d for each k from 0 to 2^d
abbrev pub samples : Solid → ℤ → Move → List (Option Placed)
samples solid sample m = map (solid_sample_at solid m (split_of sample m)) (range_with_len 0 (2 ^ split_of sample m + 1))

-- a sample of a job's moves, before it is raised by a lift: its cutter has a job's size, and its tip is in range but for a rise of up to 16
pub record IsSample (s : Placed) : Type 0 where
  pub cutter_ok : IsCutter s.cutter
  pub x_ok : Within MAX_COORDINATE s.tip.x
  pub y_ok : Within MAX_COORDINATE s.tip.y
  pub z_least : neg_ℤ (pos MAX_COORDINATE) ≤ℤ s.tip.z
  pub z_most : s.tip.z ≤ℤ pos (MAX_COORDINATE + 16)

-- so it is of one that is raised
pub record IsRaisedSample (s : Placed) : Type 0 where
  pub cutter_ok : IsCutter s.cutter
  pub x_ok : Within MAX_COORDINATE s.tip.x
  pub y_ok : Within MAX_COORDINATE s.tip.y
  pub z_least : neg_ℤ (pos MAX_COORDINATE) ≤ℤ s.tip.z
  pub z_most : s.tip.z ≤ℤ HIGHEST_TIP

-- the cutter narrowed by 1, with how far it is raised, none at radius 1
abbrev pub IsNarrowed : Cutter → Option (Cutter × ℤ) → Type 0
IsNarrowed cutter narrowed = MatchOption narrowed (inner cutter ≡ None)
    (λ n. (inner cutter ≡ Some n.0) × (n.1 ≡ shift cutter (pos 1)) × IsCutter n.0 × (pos 0 ≤ℤ n.1) × (n.1 ≤ℤ pos 16))
