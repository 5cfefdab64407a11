-- Worked visits over three by three nodes of a plate.
use Rattle.std.proofs.Common.{◌≡◌, ℤ, List, [], ◌∷◌, length, replicate, refl}
use Rattle.std.specs.Prelude.{pos, false, None}
use Rattle.mill_base.specs.Points.{point_at}
use Rattle.mill_base.specs.declared.cutter.Cutter.TheVariants.{Flat}
use Rattle.mill_base.specs.declared.unit.Unit.TheVariants.{Hundredth}
use Rattle.mill_decimal.specs.declared.snap.Snap.TheVariants.{Nearest}
use Rattle.mill_job.specs.declared.fields.JobFields.{JobFields}
use Rattle.mill_job.specs.declared.habits.Rapids.TheVariants.{Straight}
use Rattle.mill_job.specs.declared.habits.Start.TheVariants.{Home}
use Rattle.mill_job.specs.declared.habits.ToolLengths.TheVariants.{Table}
use Rattle.mill_job.specs.declared.habits.Words.TheVariants.{Strict}
use Rattle.mill_links.specs.declared.visit.Visit.{Visit}
use Rattle.mill_paths.specs.Lattices.{finish_lattice, zigzag_of}
use Rattle.mill_paths.specs.Limits.{change_count}
use Rattle.mill_paths.specs.Visits.{layer_heights, rough_visits_of, finish_visits_of}

abbrev plate : ℤ → ℤ → JobFields
plate layer lift = record { unit = Hundredth; cutter = Flat (pos 150); floor = pos 0; top = pos 300; clear = pos 400; area = record { x0 = pos 0; y0 = pos 0; x1 = pos 200; y1 = pos 200 }; home = record { x = pos 100; y = pos 100 }; pitch = pos 100; sample = pos 50; allowance = pos 0; band = pos 0; lift = lift; raster = pos 100; rough_raster = pos 100; layer = layer; rough_stock = pos 0; levels = []; snap = Nearest; max_cut = pos 0; holder = None; path_tol = None; slack = pos 0; overcut = pos 0; graze = None; keep_out = []; rapids = Straight; start = Home; spindle = false; words = Strict; peck_clearance = None; lengths = Table; arc_tol = None }

abbrev flat_at : ℤ → List ℤ
flat_at z = replicate 9 z

abbrev visit : ℤ → ℤ → ℤ → Visit
visit x y z = record { at = point_at x y z; step = pos 100 }

order : zigzag_of (finish_lattice (plate (pos 0) (pos 0))) ≡ 0 ∷ 1 ∷ 2 ∷ 5 ∷ 4 ∷ 3 ∷ 6 ∷ 7 ∷ 8 ∷ []
order = refl

heights : layer_heights (plate (pos 50) (pos 0)) ≡ pos 250 ∷ pos 200 ∷ pos 150 ∷ pos 100 ∷ pos 50 ∷ []
heights = refl

uneven_heights : layer_heights (plate (pos 140) (pos 0)) ≡ pos 160 ∷ pos 20 ∷ []
uneven_heights = refl

no_layers : layer_heights (plate (pos 0) (pos 0)) ≡ []
no_layers = refl

one_thick_layer : layer_heights (plate (pos 300) (pos 0)) ≡ []
one_thick_layer = refl

finishing : finish_visits_of (plate (pos 0) (pos 0)) (flat_at (pos 200))
    ≡ visit (pos 0) (pos 0) (pos 200) ∷ visit (pos 100) (pos 0) (pos 200) ∷ visit (pos 200) (pos 0) (pos 200)
    ∷ visit (pos 200) (pos 100) (pos 200) ∷ visit (pos 100) (pos 100) (pos 200) ∷ visit (pos 0) (pos 100) (pos 200)
    ∷ visit (pos 0) (pos 200) (pos 200) ∷ visit (pos 100) (pos 200) (pos 200) ∷ visit (pos 200) (pos 200) (pos 200) ∷ []
finishing = refl

-- nine visits each at 250 and at 200
roughing : length (rough_visits_of (plate (pos 50) (pos 0)) (flat_at (pos 200))) ≡ 18
roughing = refl

-- a node whose drop height and lift come up to the top isn't visited
lifted : finish_visits_of (plate (pos 0) (pos 99)) (pos 200 ∷ replicate 8 (pos 201)) ≡ visit (pos 0) (pos 0) (pos 299) ∷ []
lifted = refl

-- of eighteen visits all but the first differ from the one before them; of two that are equal none does
changes : change_count (rough_visits_of (plate (pos 50) (pos 0)) (flat_at (pos 200))) ≡ 17
changes = refl

no_change : change_count (visit (pos 0) (pos 0) (pos 299) ∷ visit (pos 0) (pos 0) (pos 299) ∷ []) ≡ 0
no_change = refl
