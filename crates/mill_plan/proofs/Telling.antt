-- What the verdict on a plan's moves comes to.
use Rattle.std.specs.Prelude.{◌≡◌, ℕ, Bool, false, ℤ, List, [], map, Ok}
use Rattle.std.proofs.Common.{subst, sym}
use Rattle.mill_base.specs.declared.motion.Move.{Move}
use Rattle.mill_base.specs.declared.points.Tri.{Tri}
use Rattle.mill_job.specs.Columns.{home}
use Rattle.mill_job.specs.Jobs.{IsJob}
use Rattle.mill_job.specs.declared.fields.JobFields.{JobFields}
use Rattle.mill_ngc.specs.Programs.{program_of}
use Rattle.mill_ngc.specs.Readings.{MayHave, ReadsAs}
use Rattle.mill_ngc.specs.Writing.{as_written}
use Rattle.mill_obstacles.specs.Faces.{obstacles_of}
use Rattle.mill_sweep.specs.declared.leaf.Leaf.{Leaf}
use Rattle.mill_verify.specs.Claims.{CutsSafely}
use Rattle.mill_verify.specs.Verdicts.{IsVerdict}
use Rattle.mill_verify.specs.declared.verdict.Verdict.TheVariants.{Accept, Reject}
use Rattle.mill_verify.specs.declared.verdict.Reason.{Reason}
use Rattle.mill_verify.specs.declared.verdict.Reason.TheVariants.{HolderStock, Left}
use Rattle.mill_plan.specs.Plans.{HasPlan, IsDone, IsHeld, IsUncut, begin_of, plan_text}
use Rattle.mill_plan.specs.inner.Conditions.{KeepsOffAll}
use Rattle.mill_plan.proofs.Good.{follow, in_range, of_stock_only, only_of_stock, pass_first, read_made}
use Rattle.mill_plan.proofs.Heading.{begins_elsewhere}
use Rattle.mill_plan.proofs.Reach.{out_of_reach}

module _ (job : JobFields) (part : List Tri) (moves : List Move) (plan : HasPlan job (obstacles_of job part) moves) where
  -- an acceptance and the text of the moves are an answer
  pub done_told : (text : List ℕ) (count columns : ℕ) (left : ℤ) → KeepsOffAll job part moves → text ≡ plan_text job moves → ReadsAs job.unit (begin_of job) moves text
      → IsVerdict job part moves (Accept count columns left) → CutsSafely job part moves → IsDone job part text count columns left
  done_told text count columns left go written reads accepted safe = record {
    moves = moves;
    plan = plan;
    written = written;
    reads = λ words may. subst (λ (b : Bool). program_of (home job) job.unit (record { from_anywhere = b; needs_spindle = false; words = words }) text ≡ Ok (map as_written moves)) (begins_elsewhere job)
        (reads words (subst (λ (b : Bool). MayHave b words) (sym (begins_elsewhere job)) may) (home job) (follow job (obstacles_of job part) (home job) (home job) moves go) (in_range job (obstacles_of job part) (home job) (home job) moves go) plan.few);
    made = read_made job (obstacles_of job part) [] moves go.safe;
    in_range = in_range job (obstacles_of job part) (home job) (home job) moves go;
    accepted = accepted;
    safe = safe;
  }

  -- so is a rejection for stock that is left
  pub uncut_told : (row col : ℕ) (top : ℤ) → IsJob job → IsVerdict job part moves (Reject (Left row col top)) → IsUncut job part row col top
  uncut_told row col top ok left = record { moves = moves; plan = plan; left = left; out_of_reach = out_of_reach job part moves row col top ok plan left }

  -- and one for stock that the holder would touch
  pub held_told : (number row col : ℕ) (leaf : Leaf) → IsVerdict job part moves (Reject (HolderStock number row col leaf)) → IsHeld job part number row col
  held_told number row col leaf stopped = record { moves = moves; plan = plan; leaf = leaf; stopped = stopped }

-- and there is no other rejection
pub no_other : (job : JobFields) (part : List Tri) (moves : List Move) (reason : Reason) → IsJob job → KeepsOffAll job part moves → IsVerdict job part moves (Reject reason)
    → ((row col : ℕ) (top : ℤ) → reason ≡ Left row col top → ⊥) → ((number row col : ℕ) (leaf : Leaf) → reason ≡ HolderStock number row col leaf → ⊥) → ⊥
no_other job part moves reason ok go rejected left held =
    of_stock_only reason (only_of_stock job part moves (pass_first job part (home job) (home job) moves ok go) reason rejected) left held
