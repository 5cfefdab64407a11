-- The verdict, from a stock on: the first failing test, or that there is none.
use Rattle.std.specs.Prelude.{◌≡◌, ◌⊎◌, ℕ, ◌<◌, ◌≤◌, ◌*◌, ℤ, ◌-ℤ◌, ◌≤ℤ◌, List, length, Some}
use Rattle.mill_base.specs.declared.points.Tri.{Tri}
use Rattle.mill_base.specs.declared.motion.Move.{Move}
use Rattle.mill_base.specs.declared.motion.Kind.{Kind}
use Rattle.mill_base.specs.declared.motion.Kind.TheVariants.{Rapid, Feed}
use Rattle.mill_base.specs.Motion.{IsStraight}
use Rattle.mill_base.specs.Solids.{Solid}
use Rattle.mill_base.specs.declared.limits.TheConstants.{MAX_LAST_REACH}
use Rattle.mill_sweep.specs.Leaves.{reach_of}
use Rattle.mill_sweep.specs.Solids.{SolidFailsAt, SolidIsBlocked, SolidPasses, SolidPassesPoint}
use Rattle.mill_sweep.specs.declared.leaf.Leaf.{Leaf}
use Rattle.mill_base.specs.Points.{point_tri, tri_at}
use Rattle.mill_base.specs.Covers.{IsHighestCovered}
use Rattle.mill_job.specs.Solids.{holder_solid_of, outer_of, part_solid_of, stock_solid_of}
use Rattle.mill_job.specs.declared.fields.JobFields.{JobFields}
use Rattle.mill_job.specs.Columns.{IsColumn, IsBefore, column_x, column_y, row_count, column_count}
use Rattle.mill_dexel.specs.Tops.{IsTested, Stock, stock_after, tested_as, tested_point_on, top_point_on, uncut}
use Rattle.mill_obstacles.specs.Faces.{first_half, second_half}
use Rattle.mill_verify.specs.Fixtures.{FailsFixture, PassesFixture, fixture_at}
use Rattle.mill_verify.specs.Tests.{ClearsFixtures, ClearsPart, ClearsStockOn, GoodBeforeOn, HolderClearsFixtures, HolderClearsPart, IsCutOn, IsOverFloor, PassesColumnOn, PassesTri, stock_met}
use Rattle.mill_dexel.specs.Turns.{move_at}
use Rattle.mill_verify.specs.declared.verdict.Verdict.{Verdict}
use Rattle.mill_verify.specs.declared.verdict.Verdict.TheVariants.{Accept, Reject}
use Rattle.mill_verify.specs.declared.verdict.Reason.{Reason}
use Rattle.mill_verify.specs.declared.verdict.Reason.TheVariants.{Floor, Gouge, Holder, Fixture, HolderFixture, Rapid as RapidCut, Cut, HolderStock, Left}

-- move k, all before it being good, fails test (i)
pub record FailsFloorOn (job : JobFields) (part : List Tri) (start : Stock) (moves : List Move) (k : ℕ) : Type 0 where
  pub there : k < length moves
  pub before : GoodBeforeOn job part start moves k
  pub fails : ¬ IsOverFloor job moves k

-- move k, all before it being good, passes test (i), and fails test (ii) first at triangle t, at this leaf
pub record FailsPartOn (job : JobFields) (part : List Tri) (start : Stock) (moves : List Move) (k t : ℕ) (leaf : Leaf) : Type 0 where
  pub there : k < length moves
  pub before : GoodBeforeOn job part start moves k
  pub floor : IsOverFloor job moves k
  pub tri : t < length part
  pub first : (e : ℕ) → e < t → PassesTri job part moves k e
  pub fails : SolidFailsAt (part_solid_of job) (move_at moves k) (tri_at part t) leaf

-- move k, all before it being good, passes tests (i) and (ii), and the job has a holder, which fails test (ii h) first at triangle t, at this leaf
pub record FailsHolderOn (job : JobFields) (part : List Tri) (start : Stock) (moves : List Move) (k t : ℕ) (leaf : Leaf) : Type 0 where
  pub there : k < length moves
  pub before : GoodBeforeOn job part start moves k
  pub floor : IsOverFloor job moves k
  pub clears : ClearsPart job part moves k
  pub holder : Solid
  pub mounted : holder_solid_of job ≡ Some holder
  pub tri : t < length part
  pub first : (e : ℕ) → e < t → SolidPasses holder (move_at moves k) (tri_at part e)
  pub fails : SolidFailsAt holder (move_at moves k) (tri_at part t) leaf

-- move k, all before it being good, passes tests (i) to (ii h), and fails test (ii f) first at fixture b, at this leaf
pub record FailsFixtureOn (job : JobFields) (part : List Tri) (start : Stock) (moves : List Move) (k b : ℕ) (leaf : Leaf) : Type 0 where
  pub there : k < length moves
  pub before : GoodBeforeOn job part start moves k
  pub floor : IsOverFloor job moves k
  pub clears : ClearsPart job part moves k
  pub holder : HolderClearsPart job part moves k
  pub fixture : b < length job.keep_out
  pub first : (e : ℕ) → e < b → PassesFixture (outer_of job) (move_at moves k) (fixture_at job.keep_out e)
  pub fails : FailsFixture (outer_of job) (move_at moves k) (fixture_at job.keep_out b) leaf

-- move k, all before it being good, passes tests (i) to (ii f), and the job has a holder, which fails test (ii hf) first at fixture b, at this leaf
pub record FailsHolderFixtureOn (job : JobFields) (part : List Tri) (start : Stock) (moves : List Move) (k b : ℕ) (leaf : Leaf) : Type 0 where
  pub there : k < length moves
  pub before : GoodBeforeOn job part start moves k
  pub floor : IsOverFloor job moves k
  pub clears : ClearsPart job part moves k
  pub holder_clears : HolderClearsPart job part moves k
  pub fixtures : ClearsFixtures job moves k
  pub holder : Solid
  pub mounted : holder_solid_of job ≡ Some holder
  pub fixture : b < length job.keep_out
  pub first : (e : ℕ) → e < b → PassesFixture holder (move_at moves k) (fixture_at job.keep_out e)
  pub fails : FailsFixture holder (move_at moves k) (fixture_at job.keep_out b) leaf

-- move k, all before it being good, passes tests (i) to (ii hf), is tested as one of this kind, and fails test (iii) first at column (j, i), at this leaf
pub record FailsStockOn (job : JobFields) (part : List Tri) (start : Stock) (moves : List Move) (kind : Kind) (k j i : ℕ) (leaf : Leaf) : Type 0 where
  pub there : k < length moves
  pub before : GoodBeforeOn job part start moves k
  pub floor : IsOverFloor job moves k
  pub clears : ClearsPart job part moves k
  pub holder : HolderClearsPart job part moves k
  pub fixtures : ClearsFixtures job moves k
  pub holder_fixtures : HolderClearsFixtures job moves k
  pub is : tested_as (move_at moves k).kind ≡ kind
  pub tested : IsTested job kind
  pub column : IsColumn job j i
  pub first : (a b : ℕ) → IsColumn job a b → IsBefore a b j i → PassesColumnOn job start moves k a b
  pub fails : SolidFailsAt (stock_solid_of job) (move_at moves k) (point_tri (tested_point_on job kind (stock_met job start moves k) j i)) leaf

-- move k, all before it being good, passes tests (i) to (iii), and the job has a holder, which fails test (iii h) first at column (j, i), at this leaf
pub record FailsHolderStockOn (job : JobFields) (part : List Tri) (start : Stock) (moves : List Move) (k j i : ℕ) (leaf : Leaf) : Type 0 where
  pub there : k < length moves
  pub before : GoodBeforeOn job part start moves k
  pub floor : IsOverFloor job moves k
  pub clears : ClearsPart job part moves k
  pub holder_clears : HolderClearsPart job part moves k
  pub fixtures : ClearsFixtures job moves k
  pub holder_fixtures : HolderClearsFixtures job moves k
  pub stock : ClearsStockOn job start moves k
  pub holder : Solid
  pub mounted : holder_solid_of job ≡ Some holder
  pub column : IsColumn job j i
  pub first : (a b : ℕ) → IsColumn job a b → IsBefore a b j i → SolidPassesPoint holder (move_at moves k) (top_point_on job (stock_met job start moves k) a b)
  pub fails : SolidFailsAt holder (move_at moves k) (point_tri (top_point_on job (stock_met job start moves k) j i)) leaf

-- every move is good, and test (iv) fails first at column (j, i), with this top
pub record FailsCutOn (job : JobFields) (part : List Tri) (start : Stock) (moves : List Move) (j i : ℕ) (top : ℤ) : Type 0 where
  pub before : GoodBeforeOn job part start moves (length moves)
  pub column : IsColumn job j i
  pub first : (a b : ℕ) → IsColumn job a b → IsBefore a b j i → IsCutOn job part (stock_after job start moves) a b
  pub fails : ¬ IsCutOn job part (stock_after job start moves) j i
  pub shown : top ≡ stock_after job start moves j i

-- column (j, i) is the first of a stock that isn't cut, and has this top
pub record IsFirstUncut (job : JobFields) (part : List Tri) (stock : Stock) (j i : ℕ) (top : ℤ) : Type 0 where
  pub column : IsColumn job j i
  pub first : (a b : ℕ) → IsColumn job a b → IsBefore a b j i → IsCutOn job part stock a b
  pub fails : ¬ IsCutOn job part stock j i
  pub shown : top ≡ stock j i

-- the column (j, i) of a stock is left this much over its greatest covered whole height
pub record IsLeftOverOn (job : JobFields) (part : List Tri) (stock : Stock) (j i : ℕ) (left : ℤ) : Type 0 where
  pub height : ℤ
  pub highest : IsHighestCovered part job.floor job.band (column_x job i) (column_y job j) (stock j i) height
  pub difference : left ≡ stock j i -ℤ height

-- the greatest of these over all columns
pub record IsMostLeftOn (job : JobFields) (part : List Tri) (stock : Stock) (left : ℤ) : Type 0 where
  pub row : ℕ
  pub col : ℕ
  pub column : IsColumn job row col
  pub there : IsLeftOverOn job part stock row col left
  pub most : (j i : ℕ) (other : ℤ) → IsColumn job j i → IsLeftOverOn job part stock j i other → other ≤ℤ left

-- every move is good, every column is cut, and these are the numbers of moves and columns and what is left at most
pub record AcceptsOn (job : JobFields) (part : List Tri) (start : Stock) (moves : List Move) (count columns : ℕ) (left : ℤ) : Type 0 where
  pub good : GoodBeforeOn job part start moves (length moves)
  pub cut : (j i : ℕ) → IsColumn job j i → IsCutOn job part (stock_after job start moves) j i
  pub all_moves : count ≡ length moves
  pub all_columns : columns ≡ row_count job * column_count job
  pub most : IsMostLeftOn job part (stock_after job start moves) left

-- the first failing test, by its reason
abbrev pub IsRejectionOn : JobFields → List Tri → Stock → List Move → Reason → Type 0
IsRejectionOn job part start moves (Floor k) = FailsFloorOn job part start moves k
IsRejectionOn job part start moves (Gouge k t leaf) = FailsPartOn job part start moves k t leaf
IsRejectionOn job part start moves (Holder k t leaf) = FailsHolderOn job part start moves k t leaf
IsRejectionOn job part start moves (Fixture k b leaf) = FailsFixtureOn job part start moves k b leaf
IsRejectionOn job part start moves (HolderFixture k b leaf) = FailsHolderFixtureOn job part start moves k b leaf
IsRejectionOn job part start moves (RapidCut k j i leaf) = FailsStockOn job part start moves Rapid k j i leaf
IsRejectionOn job part start moves (Cut k j i leaf) = FailsStockOn job part start moves Feed k j i leaf
IsRejectionOn job part start moves (HolderStock k j i leaf) = FailsHolderStockOn job part start moves k j i leaf
IsRejectionOn job part start moves (Left j i top) = FailsCutOn job part start moves j i top

-- the reason is a move's, by tests (i) to (iii h)
abbrev pub IsOfMove : Reason → Type 0
IsOfMove (Floor k) = Unit {0}
IsOfMove (Gouge k t leaf) = Unit {0}
IsOfMove (Holder k t leaf) = Unit {0}
IsOfMove (Fixture k b leaf) = Unit {0}
IsOfMove (HolderFixture k b leaf) = Unit {0}
IsOfMove (RapidCut k j i leaf) = Unit {0}
IsOfMove (Cut k j i leaf) = Unit {0}
IsOfMove (HolderStock k j i leaf) = Unit {0}
IsOfMove (Left j i top) = ⊥

-- the verdict on the moves: their first failing test, or their acceptance
abbrev pub IsVerdictOn : JobFields → List Tri → Stock → List Move → Verdict → Type 0
IsVerdictOn job part start moves (Accept count columns left) = AcceptsOn job part start moves count columns left
IsVerdictOn job part start moves (Reject reason) = IsRejectionOn job part start moves reason

-- a leaf of a straight move is one of the last, with a reach of at most 2, and a triangle blocks a solid on it: the triangle comes over the lower end of the leaf
-- that the solid's own tip makes, and some point of it is strictly inside that leaf's outer cutter; on a dogleg, it comes over the lower end of the tip's move and
-- lies nearer than the radius to the box of that
pub record BlocksLeaf (solid : Solid) (move : Move) (leaf : Leaf) (tri : Tri) : Type 0 where
  pub last : IsStraight move → reach_of move leaf.d leaf.k ≤ MAX_LAST_REACH
  pub blocks : SolidIsBlocked solid move tri leaf

-- triangle t blocks this leaf of move k
abbrev pub BlocksMove : JobFields → List Tri → List Move → ℕ → ℕ → Leaf → Type 0
BlocksMove job part moves k t leaf = BlocksLeaf (part_solid_of job) (move_at moves k) leaf (tri_at part t)

-- the point of column (j, i) at which a move of this kind is tested after the moves before move k blocks this leaf of that move
abbrev pub StopsMoveOn : JobFields → Stock → List Move → Kind → ℕ → ℕ → ℕ → Leaf → Type 0
StopsMoveOn job start moves kind k j i leaf = BlocksLeaf (stock_solid_of job) (move_at moves k) leaf (point_tri (tested_point_on job kind (stock_met job start moves k) j i))

-- the job has a holder, and on this leaf of move k this triangle blocks it
pub record BlocksHolder (job : JobFields) (moves : List Move) (k : ℕ) (leaf : Leaf) (tri : Tri) : Type 0 where
  pub holder : Solid
  pub mounted : holder_solid_of job ≡ Some holder
  pub blocks : BlocksLeaf holder (move_at moves k) leaf tri

-- triangle t blocks the holder on this leaf of move k
abbrev pub BlocksHolderMove : JobFields → List Tri → List Move → ℕ → ℕ → Leaf → Type 0
BlocksHolderMove job part moves k t leaf = BlocksHolder job moves k leaf (tri_at part t)

-- a triangle of the upper face of fixture b blocks the cutter on this leaf of move k
abbrev pub BlocksAtFixture : JobFields → List Move → ℕ → ℕ → Leaf → Type 0
BlocksAtFixture job moves k b leaf =
    BlocksLeaf (outer_of job) (move_at moves k) leaf (first_half (fixture_at job.keep_out b))
    ⊎ BlocksLeaf (outer_of job) (move_at moves k) leaf (second_half (fixture_at job.keep_out b))

-- one does the holder
abbrev pub BlocksHolderAtFixture : JobFields → List Move → ℕ → ℕ → Leaf → Type 0
BlocksHolderAtFixture job moves k b leaf = BlocksHolder job moves k leaf (first_half (fixture_at job.keep_out b)) ⊎ BlocksHolder job moves k leaf (second_half (fixture_at job.keep_out b))

-- the point at the top of column (j, i) after the moves before move k blocks the holder on this leaf of that move
abbrev pub StopsHolderMoveOn : JobFields → Stock → List Move → ℕ → ℕ → ℕ → Leaf → Type 0
StopsHolderMoveOn job start moves k j i leaf = BlocksHolder job moves k leaf (point_tri (top_point_on job (stock_met job start moves k) j i))

-- a rejection by tests (ii) to (iii h) names a leaf of its move that is one of the last, and blocked
abbrev pub NamesLeaf : JobFields → List Tri → Stock → List Move → Reason → Type 0
NamesLeaf job part start moves (Floor k) = Unit {0}
NamesLeaf job part start moves (Gouge k t leaf) = BlocksMove job part moves k t leaf
NamesLeaf job part start moves (Holder k t leaf) = BlocksHolderMove job part moves k t leaf
NamesLeaf job part start moves (Fixture k b leaf) = BlocksAtFixture job moves k b leaf
NamesLeaf job part start moves (HolderFixture k b leaf) = BlocksHolderAtFixture job moves k b leaf
NamesLeaf job part start moves (RapidCut k j i leaf) = StopsMoveOn job start moves Rapid k j i leaf
NamesLeaf job part start moves (Cut k j i leaf) = StopsMoveOn job start moves Feed k j i leaf
NamesLeaf job part start moves (HolderStock k j i leaf) = StopsHolderMoveOn job start moves k j i leaf
NamesLeaf job part start moves (Left j i top) = Unit {0}

-- ---- from the uncut stock on

-- move k is the first that fails, by test (ii h), first at triangle t
abbrev pub FailsHolder : JobFields → List Tri → List Move → ℕ → ℕ → Leaf → Type 0
FailsHolder job part moves k t leaf = FailsHolderOn job part (uncut job) moves k t leaf

-- move k is the first that fails, by test (iii) of its kind, first at column (j, i)
abbrev pub FailsStock : JobFields → List Tri → List Move → Kind → ℕ → ℕ → ℕ → Leaf → Type 0
FailsStock job part moves kind k j i leaf = FailsStockOn job part (uncut job) moves kind k j i leaf

-- every move is good, and test (iv) fails first at column (j, i)
abbrev pub FailsCut : JobFields → List Tri → List Move → ℕ → ℕ → ℤ → Type 0
FailsCut job part moves j i top = FailsCutOn job part (uncut job) moves j i top

-- the first failing test
abbrev pub IsRejection : JobFields → List Tri → List Move → Reason → Type 0
IsRejection job part moves reason = IsRejectionOn job part (uncut job) moves reason

-- the first failing test, or acceptance
abbrev pub IsVerdict : JobFields → List Tri → List Move → Verdict → Type 0
IsVerdict job part moves verdict = IsVerdictOn job part (uncut job) moves verdict

-- a job, a part and a list of moves have at most one verdict
abbrev pub OneVerdict : Type 0
OneVerdict = (job : JobFields) (part : List Tri) (moves : List Move) (v w : Verdict) → IsVerdict job part moves v → IsVerdict job part moves w → v ≡ w
