-- Worked leaves.
use Rattle.std.specs.Prelude.{◌≡◌, pos, negsuc, refl}
use Rattle.mill_base.specs.Points.{point_at}
use Rattle.mill_base.specs.declared.points.Pt3.{Pt3}
use Rattle.mill_base.specs.declared.motion.Move.{Move}
use Rattle.mill_base.specs.declared.motion.Kind.TheVariants.{Feed}
use Rattle.mill_base.specs.declared.limits.TheConstants.{MAX_DEPTH}
use Rattle.mill_sweep.specs.Leaves.{depth_of, span_of}

abbrev feed : Pt3 → Pt3 → Move
feed p q = record { kind = Feed; from = p; to = q }

-- down from 500 to 279
abbrev down : Move
down = feed (point_at (pos 60) (pos 0) (pos 500)) (point_at (pos 60) (pos 0) (pos 279))

down_depth : depth_of down ≡ 8
down_depth = refl

down_leaf : span_of down 8 254 ≡ record { x = pos 60; y = pos 0; reach = pos 0; zlow = pos 279 }
down_leaf = refl

-- along x at y 100
abbrev along : Move
along = feed (point_at (pos 0) (pos 100) (pos 0)) (point_at (pos 1000) (pos 100) (pos 0))

along_depth : depth_of along ≡ 10
along_depth = refl

along_leaf : span_of along 10 497 ≡ record { x = pos 486; y = pos 100; reach = pos 1; zlow = pos 0 }
along_leaf = refl

-- from (300, 500) to (400, 500): the whole move
abbrev short : Move
short = feed (point_at (pos 300) (pos 500) (pos 0)) (point_at (pos 400) (pos 500) (pos 0))

short_leaf : span_of short 0 0 ≡ record { x = pos 350; y = pos 500; reach = pos 50; zlow = pos 0 }
short_leaf = refl

-- a move that stays
abbrev still : Move
still = feed (point_at (pos 0) (pos 0) (pos 0)) (point_at (pos 0) (pos 0) (pos 0))

still_depth : depth_of still ≡ 0
still_depth = refl

-- the longest moves that a text gives and that calls take
abbrev across_text : Move
across_text = feed (point_at (negsuc 131070) (negsuc 131070) (pos 0)) (point_at (pos 131071) (pos 131071) (pos 0))

across_text_depth : depth_of across_text ≡ 18
across_text_depth = refl

abbrev across : Move
across = feed (point_at (negsuc 524286) (negsuc 524286) (pos 0)) (point_at (pos 524287) (pos 524287) (pos 0))

across_depth : depth_of across ≡ MAX_DEPTH
across_depth = refl

-- a half below zero goes up
abbrev below : Move
below = feed (point_at (negsuc 2) (pos 0) (pos 0)) (point_at (pos 0) (pos 0) (negsuc 0))

below_leaf : span_of below 0 0 ≡ record { x = negsuc 0; y = pos 0; reach = pos 2; zlow = negsuc 0 }
below_leaf = refl
