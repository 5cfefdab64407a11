-- What an accepted program does where the job asks for no slack, no overcut and no graze: on a machine whose tip is where the program says.
use Rattle.std.specs.Prelude.{◌≡◌, ◌≢◌, ℕ, ◌+◌, ◌<◌, ℤ, pos, ◌-ℤ◌, ◌<ℤ◌, ◌≤ℤ◌, List, Contains, length, take, IfSome}
use Rattle.mill_base.specs.Contact.{GougesOn, IsLeft, MayRemove}
use Rattle.mill_base.specs.Covers.{HasPointOver}
use Rattle.mill_base.specs.Motion.{IsTipOf}
use Rattle.mill_base.specs.Solids.{Solid, SolidGouges, SolidHolds, at_tip}
use Rattle.mill_base.specs.declared.motion.Kind.TheVariants.{Feed}
use Rattle.mill_base.specs.declared.motion.Move.{Move}
use Rattle.mill_base.specs.declared.points.Pt3.{Pt3}
use Rattle.mill_base.specs.declared.points.Tri.{Tri}
use Rattle.mill_job.specs.Columns.{IsColumn, column_x, column_y}
use Rattle.mill_job.specs.Slack.{graze_of}
use Rattle.mill_job.specs.declared.fields.JobFields.{JobFields}
use Rattle.mill_dexel.specs.Tops.{Stock, uncut}
use Rattle.mill_dexel.specs.Turns.{move_at}
use Rattle.mill_verify.specs.Claims.{AreCovered, CutsSafely, HitsFixture, IsColumnPoint, column_point}
use Rattle.mill_verify.specs.Tests.{stock_met}

-- the job asks for none of the three
pub record IsPlain (job : JobFields) : Type 0 where
  pub no_slack : job.slack ≡ pos 0
  pub no_overcut : job.overcut ≡ pos 0
  pub no_graze : graze_of job ≡ pos 0

-- no move of the list removes the column point (j, i, h)
abbrev pub StaysLeft : JobFields → List Move → ℕ → ℕ → ℤ → Type 0
StaysLeft job moves j i h = IsLeft job.cutter moves (column_point job j i h)

-- from a stock on, no Feed removes a column point that lies the greatest depth of cut or more under the top that the moves before it left, and no move lowers a top by more than that depth
pub record CutsNoDeeper (job : JobFields) (start : Stock) (moves : List Move) : Type 0 where
  pub feeds : (k j i : ℕ) (h : ℤ) → k < length moves → (move_at moves k).kind ≡ Feed
      → IsColumnPoint job j i h → h ≤ℤ (stock_met job start moves k j i -ℤ job.max_cut)
      → ¬ MayRemove job.cutter (move_at moves k) (pos 1) (column_point job j i h)
  pub tops : (k j i : ℕ) → k < length moves → IsColumn job j i → (stock_met job start moves k j i -ℤ job.max_cut) ≤ℤ stock_met job start moves (k + 1) j i

-- wherever the tip may be on a move, no part point is strictly inside the holder, nor a column point that the moves before it left
pub record HolderTouchesNothing (holder : Solid) (job : JobFields) (part : List Tri) (moves : List Move) : Type 0 where
  pub misses_part : (m : Move) (n : ℤ) (tip : Pt3) → Contains moves m → IsTipOf m n tip → ¬ SolidGouges holder n tip part
  pub misses_stock : (k j i : ℕ) (h n : ℤ) (tip : Pt3) → k < length moves → IsColumnPoint job j i h → StaysLeft job (take k moves) j i h → IsTipOf (move_at moves k) n tip
      → ¬ SolidHolds holder n tip (pos 1) (column_point job j i h)

-- wherever the tip may be on a move, no point of a fixture is strictly inside the solid
abbrev pub StaysOff : Solid → JobFields → List Move → Type 0
StaysOff solid job moves = (m : Move) (n : ℤ) (tip : Pt3) → Contains moves m → IsTipOf m n tip → ¬ HitsFixture solid n tip job.keep_out

-- so it is of the cutter, and of the job's holder, if it has one
pub record StaysOut (job : JobFields) (moves : List Move) : Type 0 where
  pub cutter : StaysOff (at_tip job.cutter) job moves
  pub holder : IfSome job.holder (λ holder. StaysOff holder job moves)

-- all seven: wherever the tip may be on a move, no part point is strictly inside the cutter; no move but a Feed may remove a column point that the moves before it left; every column point left is
-- covered within allowance and band; every column point at or under the part is left; no move cuts deeper than the job's limit, if it has one; its holder, if it
-- has one, touches neither the part nor what is left; and neither cutter nor holder touches a fixture
pub record CutsPlainly (job : JobFields) (part : List Tri) (moves : List Move) : Type 0 where
  pub gouges : (m : Move) → Contains moves m → ¬ GougesOn job.cutter m part
  pub rapids : (k j i : ℕ) (h : ℤ) → k < length moves → (move_at moves k).kind ≢ Feed → IsColumnPoint job j i h → StaysLeft job (take k moves) j i h
      → ¬ MayRemove job.cutter (move_at moves k) (pos 1) (column_point job j i h)
  pub covered : AreCovered job part (StaysLeft job moves)
  pub kept : (j i : ℕ) (h : ℤ) → IsColumnPoint job j i h → HasPointOver part (pos 0) (column_x job i) (column_y job j) h → StaysLeft job moves j i h
  pub depth : (pos 0) <ℤ job.max_cut → CutsNoDeeper job (uncut job) moves
  pub holder : IfSome job.holder (λ holder. HolderTouchesNothing holder job part moves)
  pub fixtures : StaysOut job moves

-- a law: without slack, overcut and graze what is said of real tips is said of the program's
abbrev pub PlainIsPlain : Type 0
PlainIsPlain = (job : JobFields) (part : List Tri) (moves : List Move) → IsPlain job → CutsSafely job part moves → CutsPlainly job part moves
