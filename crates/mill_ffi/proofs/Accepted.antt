-- The verifier accepts what the planner writes.
use Rattle.std.proofs.Common.{◌≡◌, ap, ◌∙◌}
use Rattle.std.specs.Prelude.{ℕ, List, map}
use Rattle.mill_job.specs.Columns.{home}
use Rattle.mill_said.specs.declared.rules.Rules.{Rules}
use Rattle.mill_load.specs.Programs.{dialect_of}
use Rattle.mill_load.proofs.Asked.{asks_start, may_have}
use Rattle.mill_ngc.specs.Programs.{program_of}
use Rattle.mill_ngc.specs.Writing.{as_written}
use Rattle.mill_plan.specs.Plans.{answer_of}
use Rattle.mill_plan.specs.declared.planned.Planned.{Planned}
use Rattle.mill_verify.specs.declared.verdict.Verdict.TheVariants.{Accept}
use Rattle.mill_ffi_data.specs.declared.raw.RawPlanned.{RawPlanned}
use Rattle.mill_ffi.specs.Judged.{IsVerdictFor}
use Rattle.mill_ffi.specs.Plans.{IsPlanned, IsPlannedFor, told_of_plan}

module _ (job_text part_text : List ℕ) (made : Planned) where
  planned_accepted : IsPlannedFor job_text part_text (answer_of made) → IsVerdictFor job_text part_text made.program.items (Accept made.moves made.columns made.most_left)
  planned_accepted p = record {
    job = p.job;
    part = p.part;
    moves = p.is.moves;
    setup_is = p.setup_is;
    moves_are = record {
      read = map as_written p.is.moves;
      reads = ap (λ (asked : Rules). program_of (home p.job) p.job.unit asked made.program.items) (asks_start p.job p.still)
          ∙ p.is.reads (dialect_of p.job.words p.job) (may_have p.job p.job_ok);
      made = p.is.made;
    };
    is = p.is.accepted;
    safe = λ more wide high e. p.is.safe;
    blocked = λ why e. absurd cc;
  }

  -- what was planned, with its numbers
  pub planned_is : (told : RawPlanned) → IsPlannedFor job_text part_text (answer_of made) → told ≡ told_of_plan made.program.items made.moves made.columns made.most_left → IsPlanned job_text part_text made.program.items told
  planned_is told p told_ok = record { moves = made.moves; columns = made.columns; left = made.most_left; is = p; accepted = planned_accepted p; told_ok = told_ok }
