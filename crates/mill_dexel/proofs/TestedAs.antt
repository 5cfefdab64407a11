-- A dogleg is tested by the stock as a straight rapid is.
use Rattle.std.specs.Prelude.{◌≡◌, ℕ, ℤ}
use Rattle.std.proofs.Common.{ap, refl}
use Rattle.mill_base.specs.Points.{point_at}
use Rattle.mill_base.specs.declared.motion.Kind.{Kind}
use Rattle.mill_base.specs.declared.motion.Kind.TheVariants.{Rapid, Feed, Dogleg}
use Rattle.mill_job.specs.Columns.{column_x, column_y}
use Rattle.mill_job.specs.declared.fields.JobFields.{JobFields}
use Rattle.mill_dexel.specs.Tops.{IsTested, Stock, tested_as, tested_height, tested_point_on}

-- at the same height
pub height_as : (job : JobFields) (kind : Kind) (top : ℤ) → tested_height job kind top ≡ tested_height job (tested_as kind) top
height_as job Rapid top = refl
height_as job Feed top = refl
height_as job Dogleg top = refl

-- and wherever that is
pub is_tested_as : (job : JobFields) (kind : Kind) → IsTested job kind → IsTested job (tested_as kind)
is_tested_as job Rapid tested = tested
is_tested_as job Feed tested = tested
is_tested_as job Dogleg tested = tested

pub is_tested : (job : JobFields) (kind : Kind) → IsTested job (tested_as kind) → IsTested job kind
is_tested job Rapid tested = tested
is_tested job Feed tested = tested
is_tested job Dogleg tested = tested

-- the point at which a move is tested is that at which one is tested of the kind as which it is
pub point_as : (job : JobFields) (kind : Kind) (stock : Stock) (j i : ℕ) → tested_point_on job kind stock j i ≡ tested_point_on job (tested_as kind) stock j i
point_as job kind stock j i = ap (λ (z : ℤ). point_at (column_x job i) (column_y job j) z) (height_as job kind (stock j i))
