-- What an accepted program does, wherever within the slack of the tip the machine's own one is on each move.
use Rattle.std.specs.Prelude.{◌≡◌, ◌≢◌, ℕ, ◌+◌, ◌<◌, ℤ, pos, ◌-ℤ◌, ◌*ℤ◌, ◌<ℤ◌, ◌≤ℤ◌, List, Contains, length, take, IfSome}
use Rattle.mill_base.specs.declared.points.Pt3.{Pt3}
use Rattle.mill_base.specs.declared.points.Tri.{Tri}
use Rattle.mill_base.specs.declared.motion.Move.{Move}
use Rattle.mill_base.specs.declared.motion.Kind.TheVariants.{Feed}
use Rattle.mill_base.specs.Points.{point_at}
use Rattle.mill_base.specs.Motion.{IsTipOf}
use Rattle.mill_base.specs.Solids.{Solid, SolidGouges, SolidHolds, at_tip}
use Rattle.mill_base.specs.Covers.{Covered, HasPointOver}
use Rattle.mill_job.specs.declared.fields.JobFields.{JobFields}
use Rattle.mill_job.specs.declared.fixtures.Fixture.{Fixture}
use Rattle.mill_job.specs.Columns.{IsColumn, column_x, column_y}
use Rattle.mill_job.specs.Slack.{graze_of}
use Rattle.mill_job.specs.Solids.{inner_of}
use Rattle.mill_margin.specs.Margins.{IsWithin, shrunk}
use Rattle.mill_dexel.specs.Removed.{IsRemovedBy}
use Rattle.mill_dexel.specs.Tops.{Stock, uncut}
use Rattle.mill_dexel.specs.Turns.{move_at}
use Rattle.mill_verify.specs.Tests.{stock_met}

-- r over n is where the machine's own tip may be on the move: no farther than the slack from where the program may have the tip
pub record IsRealTip (slack : ℤ) (m : Move) (n : ℤ) (r : Pt3) : Type 0 where
  pub some : (pos 0) <ℤ n
  pub d : ℤ
  pub tip : Pt3
  pub is : IsTipOf m d tip
  pub near : IsWithin slack d tip n r

-- what lies deeper than this in the job's cutter
abbrev pub core : JobFields → ℤ → Solid
core job depth = shrunk (at_tip job.cutter) depth

-- h is a whole height of the column (j, i), from the floor to the top
pub record IsColumnPoint (job : JobFields) (j i : ℕ) (h : ℤ) : Type 0 where
  pub column : IsColumn job j i
  pub floor : job.floor ≤ℤ h
  pub top : h ≤ℤ job.top

-- that point of the column
abbrev pub column_point : JobFields → ℕ → ℕ → ℤ → Pt3
column_point job j i h = point_at (column_x job i) (column_y job j) h

-- the moves may leave the column point (j, i, h): at no moment of any, at which it is sure where the tip is, is it inside what the cutter removes for sure
abbrev pub LeavesPoint : JobFields → List Move → ℕ → ℕ → ℤ → Type 0
LeavesPoint job moves j i h = ¬ IsRemovedBy (inner_of job) moves (column_point job j i h)

-- at no real tip of any move is a part point deeper than the overcut in the cutter
abbrev pub NeverGouges : JobFields → List Tri → List Move → Type 0
NeverGouges job part moves = (m : Move) (n : ℤ) (r : Pt3) → Contains moves m → IsRealTip job.slack m n r → ¬ SolidGouges (core job job.overcut) n r part

-- which column points may be left, by row, column and height; and which may be as each move of a list meets them, by the move's number too
abbrev pub Points : Type 1
Points = ℕ → ℕ → ℤ → Type 0

abbrev pub PointsMet : Type 1
PointsMet = ℕ → ℕ → ℕ → ℤ → Type 0

-- at no real tip of a move that isn't a Feed is a column point that may be left as the move meets it deeper than the graze in the cutter
abbrev pub RapidsMiss : JobFields → List Move → PointsMet → Type 0
RapidsMiss job moves Met = (k j i : ℕ) (h n : ℤ) (r : Pt3) → k < length moves → (move_at moves k).kind ≢ Feed
    → IsColumnPoint job j i h → Met k j i h → IsRealTip job.slack (move_at moves k) n r
    → ¬ SolidHolds (core job (graze_of job)) n r (pos 1) (column_point job j i h)

-- every column point that may be left is covered within allowance and band
abbrev pub AreCovered : JobFields → List Tri → Points → Type 0
AreCovered job part Left = (j i : ℕ) (h : ℤ) → IsColumnPoint job j i h → Left j i h
    → Covered part job.floor job.band (column_x job i) (column_y job j) (h -ℤ job.allowance)

-- at no real tip of any move is a column point at or under the part deeper than the overcut in the cutter
abbrev pub KeepsPart : JobFields → List Tri → List Move → Type 0
KeepsPart job part moves = (m : Move) (j i : ℕ) (h n : ℤ) (r : Pt3) → Contains moves m → IsColumnPoint job j i h
    → HasPointOver part (pos 0) (column_x job i) (column_y job j) h → IsRealTip job.slack m n r
    → ¬ SolidHolds (core job job.overcut) n r (pos 1) (column_point job j i h)

-- from a stock on, at no real tip of a Feed is a column point that lies the greatest depth of cut or more under the top that the moves before it left deeper than
-- the graze in the cutter; and without a graze no move lowers a top by more than that depth
pub record CutsShallow (job : JobFields) (start : Stock) (moves : List Move) : Type 0 where
  pub feeds : (k j i : ℕ) (h n : ℤ) (r : Pt3) → k < length moves → (move_at moves k).kind ≡ Feed
      → IsColumnPoint job j i h → h ≤ℤ (stock_met job start moves k j i -ℤ job.max_cut) → IsRealTip job.slack (move_at moves k) n r
      → ¬ SolidHolds (core job (graze_of job)) n r (pos 1) (column_point job j i h)
  pub tops : graze_of job ≡ pos 0 → (k j i : ℕ) → k < length moves → IsColumn job j i
      → (stock_met job start moves k j i -ℤ job.max_cut) ≤ℤ stock_met job start moves (k + 1) j i

-- so it is where the job limits the depth of cut
abbrev pub KeepsDepthOn : JobFields → Stock → List Move → Type 0
KeepsDepthOn job start moves = (pos 0) <ℤ job.max_cut → CutsShallow job start moves

-- at no real tip of any move is a part point strictly inside the holder, nor a column point that may be left as the move meets it
pub record HolderStaysClear (holder : Solid) (job : JobFields) (part : List Tri) (moves : List Move) (Met : PointsMet) : Type 0 where
  pub misses_part : (m : Move) (n : ℤ) (r : Pt3) → Contains moves m → IsRealTip job.slack m n r → ¬ SolidGouges holder n r part
  pub misses_stock : (k j i : ℕ) (h n : ℤ) (r : Pt3) → k < length moves → IsColumnPoint job j i h → Met k j i h → IsRealTip job.slack (move_at moves k) n r
      → ¬ SolidHolds holder n r (pos 1) (column_point job j i h)

-- so it is of the job's holder, if it has one
abbrev pub HolderKeepsClearOf : JobFields → List Tri → List Move → PointsMet → Type 0
HolderKeepsClearOf job part moves Met = IfSome job.holder (λ holder. HolderStaysClear holder job part moves Met)

-- the point p over n is one of the fixture: over its area, or on the border, and from below up to its height
pub record IsPointOfFixture (fixture : Fixture) (n : ℤ) (p : Pt3) : Type 0 where
  pub some : (pos 0) <ℤ n
  pub west : (n *ℤ fixture.area.x0) ≤ℤ p.x
  pub east : p.x ≤ℤ (n *ℤ fixture.area.x1)
  pub south : (n *ℤ fixture.area.y0) ≤ℤ p.y
  pub north : p.y ≤ℤ (n *ℤ fixture.area.y1)
  pub under : p.z ≤ℤ (n *ℤ fixture.height)

-- with the tool's tip at t over m, some point of a fixture is strictly inside the solid
pub record HitsFixture (solid : Solid) (m : ℤ) (t : Pt3) (fixtures : List Fixture) : Type 0 where
  pub fixture : Fixture
  pub member : Contains fixtures fixture
  pub n : ℤ
  pub p : Pt3
  pub point : IsPointOfFixture fixture n p
  pub inside : SolidHolds solid m t n p

-- at no real tip of any move is a point of a fixture strictly inside the solid
abbrev pub KeepsOff : Solid → JobFields → List Move → Type 0
KeepsOff solid job moves = (m : Move) (n : ℤ) (r : Pt3) → Contains moves m → IsRealTip job.slack m n r → ¬ HitsFixture solid n r job.keep_out

-- so it is of the cutter, and of the job's holder, if it has one
pub record KeepsOut (job : JobFields) (moves : List Move) : Type 0 where
  pub cutter : KeepsOff (at_tip job.cutter) job moves
  pub holder : IfSome job.holder (λ holder. KeepsOff holder job moves)

-- ---- one program, from the uncut stock on

-- the column points that the moves before each one may have left
abbrev pub left_before : JobFields → List Move → PointsMet
left_before job moves = λ k j i h. LeavesPoint job (take k moves) j i h

-- no Rapid takes a column point that the moves before it may have left, but for the graze
abbrev pub RapidsMissStock : JobFields → List Move → Type 0
RapidsMissStock job moves = RapidsMiss job moves (left_before job moves)

-- every column point that may be left at the end is covered within allowance and band
abbrev pub LeftIsCovered : JobFields → List Tri → List Move → Type 0
LeftIsCovered job part moves = AreCovered job part (LeavesPoint job moves)

-- where the job limits the depth of cut, no move cuts deeper
abbrev pub KeepsDepth : JobFields → List Move → Type 0
KeepsDepth job moves = KeepsDepthOn job (uncut job) moves

-- the job's holder, if it has one, touches neither the part nor what the moves before each one may have left
abbrev pub HolderKeepsClear : JobFields → List Tri → List Move → Type 0
HolderKeepsClear job part moves = HolderKeepsClearOf job part moves (left_before job moves)

-- what an accepted program does: all seven
pub record CutsSafely (job : JobFields) (part : List Tri) (moves : List Move) : Type 0 where
  pub gouges : NeverGouges job part moves
  pub rapids : RapidsMissStock job moves
  pub covered : LeftIsCovered job part moves
  pub kept : KeepsPart job part moves
  pub depth : KeepsDepth job moves
  pub holder : HolderKeepsClear job part moves
  pub fixtures : KeepsOut job moves
