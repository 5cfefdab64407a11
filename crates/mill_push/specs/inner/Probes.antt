-- The search for an end of a triangle's stretch, from a position at which the triangle is touched.
use Rattle.std.specs.Prelude.{◌≡◌, ◌⊎◌, ◌*◌, ℤ, pos, ◌+ℤ◌, ◌-ℤ◌, ◌<ℤ◌, ◌≤ℤ◌}
use Rattle.mill_base.specs.Numbers.{Within}
use Rattle.mill_base.specs.declared.limits.TheConstants.{MAX_COORDINATE}
use Rattle.mill_base.specs.declared.points.Tri.{Tri}
use Rattle.mill_base.specs.declared.cutter.Cutter.{Cutter}
use Rattle.mill_push.specs.declared.fiber.Fiber.{Fiber}
use Rattle.mill_push.specs.declared.probe.Way.{Way}
use Rattle.mill_push.specs.declared.probe.Way.TheVariants.{Back, On}
use Rattle.mill_push.specs.declared.probe.Search.{Search}
use Rattle.mill_push.specs.declared.probe.Left.{Left}
use Rattle.mill_push.specs.Fibers.{IsTouched}
use Rattle.mill_push.specs.Stretches.{IsClear, IsHeld}

-- k positions from another one
abbrev pub place_from : Way → ℤ → ℤ → ℤ
place_from Back found k = found -ℤ k
place_from On found k = found +ℤ k

-- the position of a search's count k
abbrev pub place_in : Search → ℤ → ℤ
place_in search k = place_from search.way search.found k

-- a pair of counts
abbrev pub left_of : ℤ → ℤ → Left
left_of held free = record { held = held; free = free }

-- both ends of what is searched are in range
pub record IsSearch (search : Search) : Type 0 where
  pub found_ok : Within MAX_COORDINATE search.found
  pub some : (pos 0) ≤ℤ search.limit
  pub most : search.limit ≤ℤ pos (2 * MAX_COORDINATE)
  pub end_ok : Within MAX_COORDINATE (place_in search search.limit)

-- what is left of it: at the count `held` the triangle is touched, and at none beyond `free`
pub record IsLeft (cutter : Cutter) (tri : Tri) (fiber : Fiber) (search : Search) (left : Left) : Type 0 where
  pub from : (pos 0) ≤ℤ left.held
  pub order : left.held ≤ℤ left.free
  pub to : left.free ≤ℤ search.limit
  pub touched : IsTouched cutter tri fiber (place_in search left.held)
  pub clear : (k : ℤ) → left.free <ℤ k → k ≤ℤ search.limit → ¬ IsTouched cutter tri fiber (place_in search k)

-- what is left after a touch at the count `at`: the counts from there on, or those before it
abbrev pub IsCut : Left → ℤ → Left → Type 0
IsCut left at result = (result ≡ left_of at left.free) ⊎ (result ≡ left_of left.held (at -ℤ pos 1))

-- the first position from `low` on at which the triangle is touched, where it is up to `found`
pub record IsFirstEnd (cutter : Cutter) (tri : Tri) (fiber : Fiber) (low found first : ℤ) : Type 0 where
  pub after : low ≤ℤ first
  pub before : first ≤ℤ found
  pub held : IsHeld cutter tri fiber first found
  pub clear : IsClear cutter tri fiber low (first -ℤ pos 1)

-- the last position up to `high` at which the triangle is touched, where it is from `found` on
pub record IsLastEnd (cutter : Cutter) (tri : Tri) (fiber : Fiber) (found high last : ℤ) : Type 0 where
  pub after : found ≤ℤ last
  pub before : last ≤ℤ high
  pub held : IsHeld cutter tri fiber found last
  pub clear : IsClear cutter tri fiber (last +ℤ pos 1) high
