-- An accepted program cuts safely, by the laws that the layers below have proved.
use Rattle.std.specs.Prelude.{◌≡◌, ℕ, ℤ, List}
use Rattle.mill_base.specs.Ranges.{MovesInRange}
use Rattle.mill_base.specs.declared.points.Tri.{Tri}
use Rattle.mill_base.specs.declared.motion.Move.{Move}
use Rattle.mill_job.specs.declared.fields.JobFields.{JobFields}
use Rattle.mill_job.specs.Jobs.{IsJob}
use Rattle.mill_shape.proofs.Over.{holds_over}
use Rattle.mill_part.proofs.Below.{covered_below}
use Rattle.mill_sweep.proofs.Solids.{passing_is_clear, passing_keeps_point}
use Rattle.mill_verify.specs.Verdicts.{AcceptsOn, IsVerdict}
use Rattle.mill_dexel.specs.Tops.{uncut}
use Rattle.mill_verify.specs.Claims.{CutsSafely}
use Rattle.mill_verify.specs.declared.verdict.Verdict.{Verdict}
use Rattle.mill_verify.specs.declared.verdict.Verdict.TheVariants.{Accept, Reject}
use Rattle.mill_dexel.proofs.Removal.{over_top_is_removed, passed_is_left}
use Rattle.mill_margin.proofs.Growing.{grown_holds}
use Rattle.mill_verify.proofs.Safe.{safe}

accepted : (job : JobFields) (part : List Tri) (moves : List Move) (count columns : ℕ) (left : ℤ) → IsJob job → MovesInRange moves → AcceptsOn job part (uncut job) moves count columns left → CutsSafely job part moves
accepted job part moves count columns left ok moves_ok a =
    safe job part moves ok moves_ok grown_holds passing_is_clear passing_keeps_point over_top_is_removed passed_is_left covered_below holds_over count columns left a

-- if the verdict is an acceptance, the program cuts safely
pub accepted_is_safe : (job : JobFields) (part : List Tri) (moves : List Move) (v : Verdict) → IsJob job → MovesInRange moves → IsVerdict job part moves v
    → (count columns : ℕ) (left : ℤ) → v ≡ Accept count columns left → CutsSafely job part moves
accepted_is_safe job part moves (Accept n m x) ok moves_ok h count columns left e = accepted job part moves n m x ok moves_ok h
accepted_is_safe job part moves (Reject r) ok moves_ok h count columns left e = absurd (cc)
