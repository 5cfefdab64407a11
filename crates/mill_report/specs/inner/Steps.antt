-- How one move fails its tests, part by part.
use Rattle.std.specs.Prelude.{◌≡◌, ℕ, List, [], ◌∷◌}
use Rattle.mill_base.specs.declared.points.Tri.{Tri}
use Rattle.mill_base.specs.declared.motion.Move.{Move}
use Rattle.mill_dexel.specs.Tops.{Stock}
use Rattle.mill_job.specs.declared.fields.JobFields.{JobFields}
use Rattle.mill_verify.specs.Tests.{IsOverFloor}
use Rattle.mill_verify.specs.Verdicts.{NamesLeaf}
use Rattle.mill_verify.specs.declared.verdict.Reason.{Reason}
use Rattle.mill_report.specs.Findings.{FailsAlone, move_of, numbered}

-- a move of this number fails alone on a stock, for this reason, which names a leaf that is blocked
pub record FailsMove (job : JobFields) (part : List Tri) (stock : Stock) (m : Move) (number : ℕ) (reason : Reason) : Type 0 where
  pub at : move_of reason ≡ number
  pub fails : FailsAlone job part stock m reason
  pub names : NamesLeaf job part stock (m ∷ []) (numbered 0 reason)

-- so it does on any stock, if it stays over the floor
abbrev pub FailsPart : JobFields → List Tri → Move → ℕ → Reason → Type 0
FailsPart job part m number reason = (stock : Stock) → IsOverFloor job (m ∷ []) 0 → FailsMove job part stock m number reason
