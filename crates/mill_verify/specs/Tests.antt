-- The written tests of a program against a job and a part, from a stock on.
use Rattle.std.specs.Prelude.{ℕ, ◌<◌, ◌-ℤ◌, ◌≤ℤ◌, List, take, IfSome}
use Rattle.mill_base.specs.declared.points.Tri.{Tri}
use Rattle.mill_base.specs.declared.motion.Move.{Move}
use Rattle.mill_sweep.specs.Solids.{SolidPasses, SolidPassesPoint}
use Rattle.mill_base.specs.Covers.{Covered}
use Rattle.mill_job.specs.declared.fields.JobFields.{JobFields}
use Rattle.mill_job.specs.Columns.{column_x, column_y}
use Rattle.mill_job.specs.Solids.{holder_solid_of, outer_of, part_solid_of, stock_solid_of}
use Rattle.mill_dexel.specs.Tops.{ClearsColumnsOn, HolderClearsColumnsOn, Stock, stock_after, tested_point_on, uncut}
use Rattle.mill_dexel.specs.Turns.{move_at}
use Rattle.mill_base.specs.Points.{tri_at}
use Rattle.mill_gouge.specs.Gouges.{PassesPart}
use Rattle.mill_verify.specs.Fixtures.{PassesFixtures}

-- test (i): both ends of move k are at or over the floor
pub record IsOverFloor (job : JobFields) (moves : List Move) (k : ℕ) : Type 0 where
  pub start : job.floor ≤ℤ (move_at moves k).from.z
  pub «end» : job.floor ≤ℤ (move_at moves k).to.z

-- test (ii) of one triangle: move k passes it
abbrev pub PassesTri : JobFields → List Tri → List Move → ℕ → ℕ → Type 0
PassesTri job part moves k t = SolidPasses (part_solid_of job) (move_at moves k) (tri_at part t)

-- test (ii): move k passes each triangle
abbrev pub ClearsPart : JobFields → List Tri → List Move → ℕ → Type 0
ClearsPart job part moves k = PassesPart (part_solid_of job) (move_at moves k) part

-- test (ii h): where the job has a holder, it passes each triangle on move k
abbrev pub HolderClearsPart : JobFields → List Tri → List Move → ℕ → Type 0
HolderClearsPart job part moves k = IfSome (holder_solid_of job) (λ holder. PassesPart holder (move_at moves k) part)

-- test (ii f): what the cutter may touch passes each fixture on move k
abbrev pub ClearsFixtures : JobFields → List Move → ℕ → Type 0
ClearsFixtures job moves k = PassesFixtures (outer_of job) (move_at moves k) job.keep_out

-- test (ii hf): where the job has a holder, it passes each fixture on move k
abbrev pub HolderClearsFixtures : JobFields → List Move → ℕ → Type 0
HolderClearsFixtures job moves k = IfSome (holder_solid_of job) (λ holder. PassesFixtures holder (move_at moves k) job.keep_out)

-- the stock as move k meets it: after the moves before, from this stock on
abbrev pub stock_met : JobFields → Stock → List Move → ℕ → Stock
stock_met job start moves k = stock_after job start (take k moves)

-- test (iii) of one column, from this stock on: move k passes the point of the column at which it is tested after the moves before it: a Rapid,
-- straight or not, the one at the top, and a Feed the one as low as it may cut
abbrev pub PassesColumnOn : JobFields → Stock → List Move → ℕ → ℕ → ℕ → Type 0
PassesColumnOn job start moves k j i = SolidPassesPoint (stock_solid_of job) (move_at moves k) (tested_point_on job (move_at moves k).kind (stock_met job start moves k) j i)

-- test (iii): where move k is no Feed, or a Feed and the job limits the depth of cut, it passes each column
abbrev pub ClearsStockOn : JobFields → Stock → List Move → ℕ → Type 0
ClearsStockOn job start moves k = ClearsColumnsOn job (stock_met job start moves k) (move_at moves k)

-- test (iii h): where the job has a holder, it passes each column on move k, whatever its kind, up to the top that the moves before it left
abbrev pub HolderClearsStockOn : JobFields → Stock → List Move → ℕ → Type 0
HolderClearsStockOn job start moves k = HolderClearsColumnsOn job (stock_met job start moves k) (move_at moves k)

-- move k passes all of these
pub record IsGoodOn (job : JobFields) (part : List Tri) (start : Stock) (moves : List Move) (k : ℕ) : Type 0 where
  pub floor : IsOverFloor job moves k
  pub clears : ClearsPart job part moves k
  pub holder : HolderClearsPart job part moves k
  pub fixtures : ClearsFixtures job moves k
  pub holder_fixtures : HolderClearsFixtures job moves k
  pub stock : ClearsStockOn job start moves k
  pub holder_stock : HolderClearsStockOn job start moves k

-- every move before k is good
abbrev pub GoodBeforeOn : JobFields → List Tri → Stock → List Move → ℕ → Type 0
GoodBeforeOn job part start moves k = (e : ℕ) → e < k → IsGoodOn job part start moves e

-- test (iv) of one column of a stock: its top less the allowance is covered
abbrev pub IsCutOn : JobFields → List Tri → Stock → ℕ → ℕ → Type 0
IsCutOn job part stock j i = Covered part job.floor job.band (column_x job i) (column_y job j) (stock j i -ℤ job.allowance)

-- ---- from the uncut stock on

-- test (iii) of each column
abbrev pub ClearsStock : JobFields → List Move → ℕ → Type 0
ClearsStock job moves k = ClearsStockOn job (uncut job) moves k

-- move k passes all tests of a move
abbrev pub IsGood : JobFields → List Tri → List Move → ℕ → Type 0
IsGood job part moves k = IsGoodOn job part (uncut job) moves k

-- every move before k is good
abbrev pub GoodBefore : JobFields → List Tri → List Move → ℕ → Type 0
GoodBefore job part moves k = GoodBeforeOn job part (uncut job) moves k

-- test (iv) of one column of the stock that the moves leave
abbrev pub IsCut : JobFields → List Tri → List Move → ℕ → ℕ → Type 0
IsCut job part moves j i = IsCutOn job part (stock_after job (uncut job) moves) j i
