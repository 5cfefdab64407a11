-- The command `stock`: what its two files say, each where it is told, and the surface of what the program's moves leave of the stock.
use Rattle.std.specs.Prelude.{◌≡◌, ◌≤◌, ℕ, codes, decimal, List, [], ◌∷◌, length, Option, IsSome, IfSome}
use Rattle.mill_base.specs.declared.limits.TheConstants.{MAX_TRIANGLES}
use Rattle.mill_base.specs.declared.motion.Move.{Move}
use Rattle.mill_base.specs.declared.points.Tri.{Tri}
use Rattle.mill_dexel.specs.Tops.{top_point}
use Rattle.mill_job.specs.Jobs.{IsJob}
use Rattle.mill_job.specs.declared.fields.JobFields.{JobFields}
use Rattle.mill_said.specs.declared.fault.NgcFault.{NgcFault}
use Rattle.mill_stl.specs.Written.{ReadsBack, part_text}
use Rattle.mill_surface.specs.Surfaces.{HasManyTriangles, surface_of}
use Rattle.mill_answer.specs.Lines.{line}
use Rattle.mill_load.specs.declared.file.File.{File}
use Rattle.mill_load.specs.declared.file.File.TheVariants.{Job as JobFile, Program as ProgramFile}
use Rattle.mill_load.specs.declared.load.Unfit.{Unfit}
use Rattle.mill_load.specs.declared.load.Unfit.TheVariants.{TooLong, JobRefused, ProgramRefused}
use Rattle.mill_load.specs.Loads.{AreMoves}
use Rattle.mill_load.specs.Setup.{Fits, IsTooLong, IsTooLongJob, IsJobText, IsRefusedJob}
use Rattle.mill_load.specs.Programs.{IsProgramText, IsRefusedProgram}

-- ---- the files

-- what is told of the job's and of the program's file: the text of each, or nothing
pub record StockTexts : Type 0 where
  pub job : Option (List ℕ)
  pub program : Option (List ℕ)

abbrev pub stock_texts : (List ℕ → Option (List ℕ)) → List ℕ → List ℕ → StockTexts
stock_texts contents job program = record { job = contents job; program = contents program }

-- both are told
pub record AreStockTold (texts : StockTexts) : Type 0 where
  pub job : IsSome texts.job
  pub program : IsSome texts.program

-- where the job's file is told, it reads as this job
abbrev pub ReadsStockJob : StockTexts → JobFields → Type 0
ReadsStockJob texts job = IfSome texts.job (λ text. IsJobText text job)

-- each of the two files, where it is told, reads as this job and, from its home and in its unit, as these moves
pub record ReadsStock (texts : StockTexts) (job : JobFields) (moves : List Move) : Type 0 where
  pub job_is : ReadsStockJob texts job
  pub moves_are : IfSome texts.program (λ text. IsProgramText job text moves)

-- ---- what keeps it from a surface

-- the job is read; where the program's file is told, it is too long
pub record LongStockProgram (texts : StockTexts) : Type 0 where
  pub job : JobFields
  pub job_is : ReadsStockJob texts job
  pub long : IfSome texts.program IsTooLong

-- the job is read; where the program's file is told, it is refused
pub record RefusesStockProgram (texts : StockTexts) (fault : NgcFault) : Type 0 where
  pub job : JobFields
  pub job_is : ReadsStockJob texts job
  pub refused : IfSome texts.program (λ text. IsRefusedProgram job text fault)

-- the first check of the two files that fails
abbrev pub IsUnfitStock : StockTexts → Unfit → Type 0
IsUnfitStock texts (TooLong JobFile) = IfSome texts.job IsTooLongJob
IsUnfitStock texts (TooLong ProgramFile) = LongStockProgram texts
IsUnfitStock texts (JobRefused fault) = IfSome texts.job (λ text. IsRefusedJob text fault)
IsUnfitStock texts (ProgramRefused ProgramFile fault) = RefusesStockProgram texts fault
IsUnfitStock texts _ = ⊥

-- all that is read and checked before the job's or the program's file holds
abbrev pub IsReadBeforeStock : StockTexts → File → Type 0
IsReadBeforeStock texts JobFile = Unit {0}
IsReadBeforeStock texts ProgramFile = (job : JobFields) × ReadsStockJob texts job
IsReadBeforeStock texts _ = ⊥

-- ---- the answers

-- what can be answered: the text of a surface of so many triangles, or that so many are too many
pub data StockAnswer : Type 0 where
  drawn : List ℕ → ℕ → StockAnswer
  too_many_triangles : ℕ → StockAnswer

-- the surface of the job's stock after the moves: its corners are the points at the columns' tops
abbrev pub stock_surface : JobFields → List Move → List Tri
stock_surface job moves = surface_of job (top_point job moves)

-- the text is that of the surface after the moves, which has so many triangles and no more than a part may have; in the job's unit it reads back as the surface, none of its coordinates rounded
pub record IsSurface (job : JobFields) (moves : List Move) (text : List ℕ) (count : ℕ) : Type 0 where
  pub text_is : text ≡ part_text job.unit (stock_surface job moves)
  pub count_is : count ≡ length (stock_surface job moves)
  pub few : count ≤ MAX_TRIANGLES
  pub fits : Fits text
  pub reads : ReadsBack job.unit (stock_surface job moves) text

-- the answer to a job and moves: the surface; or that it is too large, which the job alone decides
abbrev pub IsStockAnswer : JobFields → List Move → StockAnswer → Type 0
IsStockAnswer job moves (drawn text count) = IsSurface job moves text count
IsStockAnswer job moves (too_many_triangles count) = HasManyTriangles job count

-- job and program are read, both are in their ranges, and this is the answer to them
pub record DrawsStock (texts : StockTexts) (job : JobFields) (moves : List Move) (answer : StockAnswer) : Type 0 where
  pub all_read : ReadsStock texts job moves
  pub job_ok : IsJob job
  pub moves_ok : AreMoves job moves
  pub is : IsStockAnswer job moves answer

-- ---- how they are shown

-- the exit status of an answer
abbrev pub stock_status : StockAnswer → ℕ
stock_status (drawn text count) = 0
stock_status (too_many_triangles count) = 9

-- the line of so many triangles, with this word before them
abbrev pub triangles_line : List ℕ → ℕ → List ℕ
triangles_line word count = line (word ∷ codes "triangles" ∷ decimal count ∷ [])

-- the line of an answer
abbrev pub stock_line : StockAnswer → List ℕ
stock_line (drawn text count) = triangles_line (codes "stock") count
stock_line (too_many_triangles count) = triangles_line (codes "over") count
