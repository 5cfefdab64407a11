-- All moves of a program that fail a test, each with the first that it fails, on the stock that every move before it has cut, whether that one fails or not.
use Rattle.std.specs.Prelude.{ℕ, ◌<◌, List, [], ◌∷◌, length}
use Rattle.mill_base.specs.declared.points.Tri.{Tri}
use Rattle.mill_base.specs.declared.motion.Move.{Move}
use Rattle.mill_job.specs.declared.fields.JobFields.{JobFields}
use Rattle.mill_dexel.specs.Tops.{Stock, uncut}
use Rattle.mill_dexel.specs.Turns.{move_at}
use Rattle.mill_verify.specs.Tests.{IsGood, stock_met}
use Rattle.mill_verify.specs.Verdicts.{IsOfMove, IsRejectionOn}
use Rattle.mill_verify.specs.declared.verdict.Reason.{Reason}
use Rattle.mill_verify.specs.declared.verdict.Reason.TheVariants.{Floor, Gouge, Holder, Fixture, HolderFixture, Rapid, Cut, HolderStock, Left}
use Rattle.mill_report.specs.Listings.{IsListing}

-- the number of the move that a reason is of; a column that is left too high is of no move
abbrev pub move_of : Reason → ℕ
move_of (Floor k) = k
move_of (Gouge k t leaf) = k
move_of (Holder k t leaf) = k
move_of (Fixture k b leaf) = k
move_of (HolderFixture k b leaf) = k
move_of (Rapid k j i leaf) = k
move_of (Cut k j i leaf) = k
move_of (HolderStock k j i leaf) = k
move_of (Left j i top) = 0

-- the same reason, said of the move of this number
abbrev pub numbered : ℕ → Reason → Reason
numbered n (Floor k) = Floor n
numbered n (Gouge k t leaf) = Gouge n t leaf
numbered n (Holder k t leaf) = Holder n t leaf
numbered n (Fixture k b leaf) = Fixture n b leaf
numbered n (HolderFixture k b leaf) = HolderFixture n b leaf
numbered n (Rapid k j i leaf) = Rapid n j i leaf
numbered n (Cut k j i leaf) = Cut n j i leaf
numbered n (HolderStock k j i leaf) = HolderStock n j i leaf
numbered n (Left j i top) = Left j i top

-- on this stock the program of this move alone is rejected, as its move 0, for this reason, which is a test of a move
pub record FailsAlone (job : JobFields) (part : List Tri) (stock : Stock) (m : Move) (reason : Reason) : Type 0 where
  pub of_move : IsOfMove reason
  pub rejects : IsRejectionOn job part stock (m ∷ []) (numbered 0 reason)

-- a finding: there is a move of the reason's number, and on the stock that all moves before it leave it fails so
pub record IsFinding (job : JobFields) (part : List Tri) (moves : List Move) (reason : Reason) : Type 0 where
  pub there : move_of reason < length moves
  pub fails : FailsAlone job part (stock_met job (uncut job) moves (move_of reason)) (move_at moves (move_of reason)) reason

-- the findings on the moves before move n, in order: each other move before it is good
abbrev pub AreFindingsTo : JobFields → List Tri → List Move → ℕ → List Reason → Type 0
AreFindingsTo job part moves n found = IsListing Reason move_of (IsFinding job part moves) (IsGood job part moves) n found

-- all findings
abbrev pub AreFindings : JobFields → List Tri → List Move → List Reason → Type 0
AreFindings job part moves found = AreFindingsTo job part moves (length moves) found
