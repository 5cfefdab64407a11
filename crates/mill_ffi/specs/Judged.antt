-- What the verdict on a program's text comes to, in numbers, and when there is none.
use Rattle.std.specs.Prelude.{◌≡◌, ◌⊎◌, ℕ, ℤ, pos, ◌<ℤ◌, List, Ok, Err}
use Rattle.mill_base.specs.Covers.{IsUnder}
use Rattle.mill_base.specs.declared.motion.Move.{Move}
use Rattle.mill_base.specs.declared.points.Tri.{Tri}
use Rattle.mill_dexel.specs.Tops.{uncut}
use Rattle.mill_job.specs.Columns.{home}
use Rattle.mill_job.specs.Documents.{IsJobOf}
use Rattle.mill_job.specs.declared.fault.JobFault.{JobFault}
use Rattle.mill_job.specs.declared.fault.JobFault.TheVariants as job_fault
use Rattle.mill_job.specs.declared.fields.JobFields.{JobFields}
use Rattle.mill_load.specs.Programs.{SaysMoves, rules_of}
use Rattle.mill_ngc.specs.Programs.{program_of}
use Rattle.mill_said.specs.declared.fault.NgcFault.{NgcFault}
use Rattle.mill_said.specs.declared.fault.NgcFault.TheVariants as program_fault
use Rattle.mill_part.specs.Tops.{IsTop}
use Rattle.mill_stl.specs.Parts.{part_of}
use Rattle.mill_stl.specs.declared.fault.StlFault.{StlFault}
use Rattle.mill_sweep.specs.declared.leaf.Leaf.{Leaf}
use Rattle.mill_verify.specs.Claims.{CutsSafely}
use Rattle.mill_verify.specs.Verdicts.{IsVerdict, NamesLeaf}
use Rattle.mill_verify.specs.declared.verdict.Reason.{Reason}
use Rattle.mill_verify.specs.declared.verdict.Reason.TheVariants as reason
use Rattle.mill_verify.specs.declared.verdict.Verdict.{Verdict}
use Rattle.mill_verify.specs.declared.verdict.Verdict.TheVariants.{Accept, Reject}
use Rattle.mill_ffi_data.specs.declared.fault.Fault.{Fault}
use Rattle.mill_ffi_data.specs.declared.fault.Fault.TheVariants as fault
use Rattle.mill_ffi_data.specs.declared.raw.RawVerdict.{RawVerdict}
use Rattle.mill_ffi.specs.Texts.{fault_of, line_of}

-- ---- a verdict in numbers

-- nothing is told
abbrev pub untold : RawVerdict
untold = record { test = pos 0; most_left = pos 0; top = pos 0; height = pos 0; triangle = 0; row = 0; column = 0; depth = 0; leaf = 0; at = 0; moves = 0; columns = 0; line = 0; fixture = 0 }

-- the cutter, or the holder, doesn't pass a triangle, a fixture or a column on a leaf of a move, by the test of this number
abbrev pub told_of_triangle : ℤ → ℕ → ℕ → Leaf → RawVerdict
told_of_triangle test k t leaf = record untold { test = test; at = k; triangle = t; depth = leaf.d; leaf = leaf.k }

abbrev pub told_of_fixture : ℤ → ℕ → ℕ → Leaf → RawVerdict
told_of_fixture test k b leaf = record untold { test = test; at = k; fixture = b; depth = leaf.d; leaf = leaf.k }

abbrev pub told_of_column : ℤ → ℕ → ℕ → ℕ → Leaf → RawVerdict
told_of_column test k j i leaf = record untold { test = test; at = k; row = j; column = i; depth = leaf.d; leaf = leaf.k }

abbrev pub told_of_reason : Reason → RawVerdict
told_of_reason (reason.Floor k) = record untold { test = pos 1; at = k }
told_of_reason (reason.Gouge k t leaf) = told_of_triangle (pos 2) k t leaf
told_of_reason (reason.Holder k t leaf) = told_of_triangle (pos 3) k t leaf
told_of_reason (reason.Fixture k b leaf) = told_of_fixture (pos 8) k b leaf
told_of_reason (reason.HolderFixture k b leaf) = told_of_fixture (pos 9) k b leaf
told_of_reason (reason.Rapid k j i leaf) = told_of_column (pos 4) k j i leaf
told_of_reason (reason.Cut k j i leaf) = told_of_column (pos 5) k j i leaf
told_of_reason (reason.HolderStock k j i leaf) = told_of_column (pos 6) k j i leaf
told_of_reason (reason.Left j i top) = record untold { test = pos 7; row = j; column = i; top = top }

abbrev pub told_of_verdict : Verdict → RawVerdict
told_of_verdict (Accept count columns left) = record untold { moves = count; columns = columns; most_left = left }
told_of_verdict (Reject why) = told_of_reason why

-- ---- what the texts read as

-- the job's and the part's text read as this job and this part, which isn't over the job's top
pub record ReadsSetup (job_text part_text : List ℕ) (job : JobFields) (part : List Tri) : Type 0 where
  pub job_is : IsJobOf job_text (Ok job)
  pub rounded : ℕ
  pub part_is : part_of job.snap job.unit part_text ≡ Ok (record { tris = part; rounded = rounded })
  pub under : IsUnder part job.top

-- the verdict is that on the program that the texts read as; if it accepts, the program cuts safely, and what a rejection names blocks its move
pub record IsVerdictFor (job_text part_text program_text : List ℕ) (verdict : Verdict) : Type 0 where
  pub job : JobFields
  pub part : List Tri
  pub moves : List Move
  pub setup_is : ReadsSetup job_text part_text job part
  pub moves_are : SaysMoves job program_text moves
  pub is : IsVerdict job part moves verdict
  pub safe : (count columns : ℕ) (left : ℤ) → verdict ≡ Accept count columns left → CutsSafely job part moves
  pub blocked : (why : Reason) → verdict ≡ Reject why → NamesLeaf job part (uncut job) moves why

-- the numbers tell that verdict
pub record IsJudged (job_text part_text program_text : List ℕ) (told : RawVerdict) : Type 0 where
  pub verdict : Verdict
  pub is : IsVerdictFor job_text part_text program_text verdict
  pub told_ok : told ≡ told_of_verdict verdict

-- ---- why there is no verdict

-- the fault of a job's text, as a call tells it
abbrev pub fault_of_job : JobFault → Fault
fault_of_job job_fault.Syntax = fault.JobSyntax
fault_of_job (job_fault.Unknown name) = fault.JobUnknown
fault_of_job (job_fault.Missing key) = fault.JobMissing
fault_of_job (job_fault.WrongKind key) = fault.JobKind
fault_of_job (job_fault.Range key) = fault.JobRange
fault_of_job (job_fault.Relation one other) = fault.JobRelation
fault_of_job job_fault.WantOfMemory = fault.Memory

-- the line of a program's fault
abbrev pub line_of_program : NgcFault → ℕ
line_of_program (program_fault.LongLine line) = line
line_of_program (program_fault.Word line why) = line
line_of_program (program_fault.NotInProfile line letter number) = line
line_of_program (program_fault.LateTool line) = line
line_of_program (program_fault.Group line group) = line
line_of_program (program_fault.Twice line letter) = line
line_of_program (program_fault.PathControl line) = line
line_of_program (program_fault.Start line) = line
line_of_program (program_fault.LateOffset line) = line
line_of_program (program_fault.NoUnits line) = line
line_of_program (program_fault.NoAbsolute line) = line
line_of_program (program_fault.NoMotion line) = line
line_of_program (program_fault.NoSpindle line) = line
line_of_program (program_fault.NoFeed line) = line
line_of_program (program_fault.Arc line) = line
line_of_program (program_fault.Cycle line) = line
line_of_program (program_fault.OffGrid line) = line
line_of_program (program_fault.OutOfRange line) = line
line_of_program (program_fault.TooManyMoves line) = line
line_of_program (program_fault.NoAxis line) = line
line_of_program (program_fault.NoEnd line) = line
line_of_program program_fault.WantOfMemory = 0

-- there was not enough memory
pub record IsOutOfMemory (told : RawVerdict) (kind : Fault) : Type 0 where
  pub kind_ok : kind ≡ fault.Memory
  pub told_ok : told ≡ untold

-- the job's text is refused, by this kind of fault
pub record IsRefusedJob (job_text : List ℕ) (told : RawVerdict) (kind : Fault) : Type 0 where
  pub first : JobFault
  pub refused : IsJobOf job_text (Err first)
  pub kind_ok : kind ≡ fault_of_job first
  pub told_ok : told ≡ untold

-- a job is read, and the part's text is refused for it, by this kind of fault at the line that is told
pub record IsRefusedPart (job_text part_text : List ℕ) (told : RawVerdict) (kind : Fault) : Type 0 where
  pub job : JobFields
  pub job_is : IsJobOf job_text (Ok job)
  pub first : StlFault
  pub refused : part_of job.snap job.unit part_text ≡ Err first
  pub kind_ok : kind ≡ fault_of first
  pub told_ok : told ≡ record untold { line = line_of first }

-- job and part are read, and the part's greatest height, which is told, is over the job's top
pub record IsHighPart (job_text part_text : List ℕ) (told : RawVerdict) (kind : Fault) : Type 0 where
  pub job : JobFields
  pub part : List Tri
  pub rounded : ℕ
  pub height : ℤ
  pub job_is : IsJobOf job_text (Ok job)
  pub part_is : part_of job.snap job.unit part_text ≡ Ok (record { tris = part; rounded = rounded })
  pub greatest : IsTop part height
  pub over : job.top <ℤ height
  pub kind_ok : kind ≡ fault.PartTop
  pub told_ok : told ≡ record untold { height = height }

-- job and part are read, and the program's text is refused, at the line that is told
pub record IsRefusedProgram (job_text part_text program_text : List ℕ) (told : RawVerdict) (kind : Fault) : Type 0 where
  pub job : JobFields
  pub part : List Tri
  pub setup_is : ReadsSetup job_text part_text job part
  pub first : NgcFault
  pub refused : program_of (home job) job.unit (rules_of job) program_text ≡ Err first
  pub kind_ok : kind ≡ fault.Program
  pub told_ok : told ≡ record untold { line = line_of_program first }

-- why there is no job and part: no memory, or the first of their checks that fails
abbrev pub IsSetupCause : List ℕ → List ℕ → RawVerdict → Fault → Type 0
IsSetupCause job_text part_text told kind = IsOutOfMemory told kind ⊎ (IsRefusedJob job_text told kind ⊎ (IsRefusedPart job_text part_text told kind ⊎ IsHighPart job_text part_text told kind))

-- why there is no verdict: no memory, or the first check of the three texts that fails
abbrev pub IsVerdictCause : List ℕ → List ℕ → List ℕ → RawVerdict → Fault → Type 0
IsVerdictCause job_text part_text program_text told kind = IsSetupCause job_text part_text told kind ⊎ IsRefusedProgram job_text part_text program_text told kind
