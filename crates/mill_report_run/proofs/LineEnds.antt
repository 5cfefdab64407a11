-- Each line ends in a line feed.
use Rattle.std.proofs.Common.{◌≡◌, ℕ, ◌-◌, List, [], ◌∷◌, ◌++◌, length, take, codes, decimal, refl, sym, ap, ◌∙◌, append_assoc, arith}
use Rattle.std.proofs.lemmas.List.{length_push, take_at}
use Rattle.mill_base.specs.declared.motion.Move.{Move}
use Rattle.mill_decimal.specs.Decimals.{canonical}
use Rattle.mill_job.specs.declared.fields.JobFields.{JobFields}
use Rattle.mill_answer.specs.Lines.{line}
use Rattle.mill_answer.specs.Faults.{fault_line, file_words, job_fault_words, part_fault_code, part_fault_line, program_fault_code, program_fault_line, unfit_line}
use Rattle.mill_load.specs.declared.load.LoadFault.{LoadFault}
use Rattle.mill_load.specs.declared.load.LoadFault.TheVariants as load_fault
use Rattle.mill_load.specs.declared.load.Unfit.{Unfit}
use Rattle.mill_load.specs.declared.load.Unfit.TheVariants.{TooLong, JobRefused, PartRefused, ListRefused, ProgramRefused, PartTop}
use Rattle.mill_answer.specs.Printed.{margin_words}
use Rattle.mill_answer.specs.Verify.{reason_words, verdict_line}
use Rattle.mill_verify.specs.declared.verdict.Verdict.{Verdict}
use Rattle.mill_verify.specs.declared.verdict.Verdict.TheVariants.{Accept, Reject}

-- a text that ends in a line feed
pub record EndsLine (text : List ℕ) : Type 0 where
  pub start : List ℕ
  pub is : text ≡ start ++ 10 ∷ []

line_ends : (words : List (List ℕ)) → EndsLine (line words)
line_ends [] = record { start = []; is = refl }
line_ends (w ∷ []) = record { start = w; is = refl }
line_ends (w ∷ v ∷ ws) =
    let rest = line_ends (v ∷ ws) in
    record { start = w ++ 32 ∷ rest.start; is = ap (λ (t : List ℕ). w ++ 32 ∷ t) rest.is ∙ sym (append_assoc w (32 ∷ rest.start) (10 ∷ [])) }

pub verdict_ends : (job : JobFields) (moves : List Move) (verdict : Verdict) → EndsLine (verdict_line job moves verdict)
verdict_ends job moves (Accept count columns left) =
    line_ends (codes "accepted" ∷ codes "moves" ∷ decimal count ∷ codes "columns" ∷ decimal columns ∷ codes "left" ∷ canonical job.unit left ∷ codes "band" ∷ canonical job.unit job.band ∷ codes "allowance" ∷ canonical job.unit job.allowance ∷ margin_words job.unit job.overcut job.slack)
verdict_ends job moves (Reject reason) = line_ends (codes "rejected" ∷ reason_words job.unit moves reason)

unfit_ends : (fault : Unfit) → EndsLine (unfit_line fault)
unfit_ends (TooLong file) = line_ends (codes "refused" ∷ codes "too-long" ∷ file_words file)
unfit_ends (JobRefused fault) = line_ends (codes "refused" ∷ codes "job" ∷ job_fault_words fault)
unfit_ends (PartRefused fault) = line_ends (codes "refused" ∷ codes "part" ∷ codes "line" ∷ decimal (part_fault_line fault) ∷ part_fault_code fault ∷ [])
unfit_ends (ListRefused fault) = line_ends (codes "refused" ∷ codes "list" ∷ job_fault_words fault)
unfit_ends (ProgramRefused file fault) = line_ends (codes "refused" ∷ file_words file ++ codes "line" ∷ decimal (program_fault_line fault) ∷ program_fault_code fault ∷ [])
unfit_ends (PartTop height top unit) = line_ends (codes "refused" ∷ codes "part-top" ∷ canonical unit height ∷ codes "top" ∷ canonical unit top ∷ [])

pub fault_ends : (fault : LoadFault) → EndsLine (fault_line fault)
fault_ends load_fault.Memory = line_ends (codes "out" ∷ codes "of" ∷ codes "memory" ∷ [])
fault_ends (load_fault.ReadFault file) = line_ends (codes "read" ∷ codes "fault" ∷ file_words file)
fault_ends (load_fault.Unfit fault) = unfit_ends fault

-- what is left of a text without its last byte, which is a line feed
pub dropped : (old new start : List ℕ) (size : ℕ) → size ≡ length old → new ≡ take (size - 1) old → old ≡ start ++ 10 ∷ [] → new ≡ start
dropped old new start size long rest is = rest ∙ ap (take (size - 1)) is ∙ take_at start (10 ∷ []) (size - 1) (omega (arith, long, ap length is, length_push start 10))

-- a line that was made, without its line feed
pub bare : (text made new : List ℕ) → EndsLine text → made ≡ text → ((start : List ℕ) → made ≡ start ++ 10 ∷ [] → new ≡ start) → text ≡ new ++ 10 ∷ []
bare text made new ends same drops = ends.is ∙ ap (λ (start : List ℕ). start ++ 10 ∷ []) (sym (drops ends.start (same ∙ ends.is)))
