-- Worked ways down to a place on a plate.
use Rattle.std.proofs.Common.{◌≡◌, ℤ, [], ◌∷◌, map, refl}
use Rattle.std.specs.Prelude.{pos, negsuc, false, None}
use Rattle.mill_base.specs.Points.{point_at}
use Rattle.mill_base.specs.declared.cutter.Cutter.TheVariants.{Flat}
use Rattle.mill_base.specs.declared.motion.Move.{Move}
use Rattle.mill_base.specs.declared.unit.Unit.TheVariants.{Hundredth}
use Rattle.mill_decimal.specs.declared.snap.Snap.TheVariants.{Nearest}
use Rattle.mill_job.specs.declared.fields.JobFields.{JobFields}
use Rattle.mill_job.specs.declared.habits.Rapids.TheVariants.{Straight}
use Rattle.mill_job.specs.declared.habits.Start.TheVariants.{Home}
use Rattle.mill_job.specs.declared.habits.ToolLengths.TheVariants.{Table}
use Rattle.mill_job.specs.declared.habits.Words.TheVariants.{Strict}
use Rattle.mill_links.specs.Links.{feed_to, over_stock, peck_count, plunge}

abbrev plate : JobFields
plate = record { unit = Hundredth; cutter = Flat (pos 150); floor = pos 0; top = pos 300; clear = pos 400; area = record { x0 = pos 0; y0 = pos 0; x1 = pos 200; y1 = pos 200 }; home = record { x = pos 100; y = pos 100 }; pitch = pos 100; sample = pos 50; allowance = pos 0; band = pos 0; lift = pos 0; raster = pos 100; rough_raster = pos 100; layer = pos 0; rough_stock = pos 0; levels = []; snap = Nearest; max_cut = pos 0; holder = None; path_tol = None; slack = pos 0; overcut = pos 0; graze = None; keep_out = []; rapids = Straight; start = Home; spindle = false; words = Strict; peck_clearance = None; lengths = Table; arc_tol = None }

-- so many pecks end over a place 200 under the top, and the last feed ends there; at the top, over it, and without a limit there is that feed alone
peck_counts : map (λ depth. peck_count depth (pos 200)) (pos 0 ∷ pos 50 ∷ pos 150 ∷ pos 199 ∷ pos 200 ∷ []) ≡ 0 ∷ 3 ∷ 1 ∷ 1 ∷ 0 ∷ []
peck_counts = refl

no_pecks : map (peck_count (pos 50)) (pos 0 ∷ negsuc 0 ∷ negsuc 199 ∷ []) ≡ 0 ∷ 0 ∷ 0 ∷ []
no_pecks = refl

abbrev down : ℤ → ℤ → Move
down z low = feed_to (point_at (pos 0) (pos 0) z) (point_at (pos 0) (pos 0) low)

limited : plunge (record plate { max_cut = pos 80 }) (point_at (pos 0) (pos 0) (pos 100))
    ≡ down (pos 300) (pos 220) ∷ down (pos 220) (pos 140) ∷ down (pos 140) (pos 100) ∷ []
unfolding over_stock
limited = refl

unlimited : plunge plate (point_at (pos 0) (pos 0) (pos 100)) ≡ down (pos 300) (pos 100) ∷ []
unfolding over_stock
unlimited = refl

-- with a slack the first feed begins so much over the top, and ends where it did
slack : plunge (record plate { slack = pos 5; max_cut = pos 80 }) (point_at (pos 0) (pos 0) (pos 100))
    ≡ down (pos 305) (pos 220) ∷ down (pos 220) (pos 140) ∷ down (pos 140) (pos 100) ∷ []
unfolding over_stock
slack = refl
