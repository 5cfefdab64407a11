-- What a job's, a part's and a program's file say, each where it is told, and the verdict on them.
use Rattle.std.specs.Prelude.{ℕ, ◌<◌, codes, decimal, List, [], ◌∷◌, length, Option, IsSome, IfSome}
use Rattle.mill_base.specs.declared.points.Tri.{Tri}
use Rattle.mill_base.specs.declared.motion.Move.{Move}
use Rattle.mill_base.specs.declared.unit.Unit.{Unit as LengthUnit}
use Rattle.mill_decimal.specs.Decimals.{canonical}
use Rattle.mill_sweep.specs.declared.leaf.Leaf.{Leaf}
use Rattle.mill_said.specs.declared.fault.NgcFault.{NgcFault}
use Rattle.mill_job.specs.Jobs.{IsJob}
use Rattle.mill_job.specs.declared.fields.JobFields.{JobFields}
use Rattle.mill_dexel.specs.Tops.{uncut}
use Rattle.mill_dexel.specs.Turns.{move_at}
use Rattle.mill_verify.specs.Claims.{CutsSafely}
use Rattle.mill_verify.specs.Starts.{StartsSafely}
use Rattle.mill_verify.specs.Verdicts.{IsVerdict, NamesLeaf}
use Rattle.mill_verify.specs.declared.verdict.Verdict.{Verdict}
use Rattle.mill_verify.specs.declared.verdict.Verdict.TheVariants.{Accept, Reject}
use Rattle.mill_verify.specs.declared.verdict.Reason.{Reason}
use Rattle.mill_verify.specs.declared.verdict.Reason.TheVariants.{Floor, Gouge, Holder, Fixture, HolderFixture, Rapid as RapidCut, Cut, HolderStock, Left}
use Rattle.mill_answer.specs.ByText.{MayGoByText}
use Rattle.mill_answer.specs.Lines.{line}
use Rattle.mill_load.specs.declared.file.File.{File}
use Rattle.mill_load.specs.declared.file.File.TheVariants.{Program as ProgramFile}
use Rattle.mill_load.specs.declared.load.Unfit.{Unfit}
use Rattle.mill_load.specs.declared.load.Unfit.TheVariants.{TooLong, ProgramRefused}
use Rattle.mill_load.specs.Loads.{AreMoves}
use Rattle.mill_answer.specs.Printed.{column_words, margin_words}
use Rattle.mill_load.specs.Programs.{IsProgramText, IsRefusedProgram}
use Rattle.mill_load.specs.Setup.{SetupTexts, setup_texts, AreSetupTold, IsTooLong, ReadsSetup, IsUnfit, IsReadBefore}
use Rattle.mill_answer.specs.Calls.{Call, HoldsReads}

-- the names of the job's, the part's and the program's file
pub record Files : Type 0 where
  pub job : List ℕ
  pub part : List ℕ
  pub program : List ℕ

-- what is told of the three files: the text of each, or nothing
pub record Texts : Type 0 where
  pub setup : SetupTexts
  pub program : Option (List ℕ)

abbrev pub texts_of : (List ℕ → Option (List ℕ)) → Files → Texts
texts_of contents files = record { setup = setup_texts contents files.job files.part; program = contents files.program }

-- all three are told
pub record AreTold (texts : Texts) : Type 0 where
  pub setup : AreSetupTold texts.setup
  pub program : IsSome texts.program

-- ---- the program

-- where the program's file is told, it reads, for the job, as these moves
abbrev pub ReadsProgram : Texts → JobFields → List Move → Type 0
ReadsProgram texts job moves = IfSome texts.program (λ text. IsProgramText job text moves)

-- each of the three files, where it is told, reads as this job, this part and these moves, and the part isn't over the job's top
pub record Reads (texts : Texts) (job : JobFields) (part : List Tri) (moves : List Move) : Type 0 where
  pub setup_is : ReadsSetup texts.setup job part
  pub moves_are : ReadsProgram texts job moves

-- ---- what keeps it from a verdict

-- job and part are read, and the part isn't too high; where the program's file is told, it is too long
pub record LongProgram (texts : Texts) : Type 0 where
  pub job : JobFields
  pub part : List Tri
  pub setup_is : ReadsSetup texts.setup job part
  pub long : IfSome texts.program IsTooLong

-- job and part are read, and the part isn't too high; where the program's file is told, it is refused
pub record RefusesProgram (texts : Texts) (fault : NgcFault) : Type 0 where
  pub job : JobFields
  pub part : List Tri
  pub setup_is : ReadsSetup texts.setup job part
  pub refused : IfSome texts.program (λ text. IsRefusedProgram job text fault)

-- the first check of the three files that fails
abbrev pub IsUnfitProgram : Texts → Unfit → Type 0
IsUnfitProgram texts (TooLong ProgramFile) = LongProgram texts
IsUnfitProgram texts (ProgramRefused ProgramFile fault) = RefusesProgram texts fault
IsUnfitProgram texts unfit = IsUnfit texts.setup unfit

-- all that is read and checked before one of the three files holds
abbrev pub IsReadBeforeProgram : Texts → File → Type 0
IsReadBeforeProgram texts ProgramFile = (job : JobFields) × (part : List Tri) × ReadsSetup texts.setup job part
IsReadBeforeProgram texts file = IsReadBefore texts.setup file

-- ---- the verdict

-- a program that is accepted cuts safely
abbrev pub IsSafe : JobFields → List Tri → List Move → Verdict → Type 0
IsSafe job part moves (Accept count columns left) = CutsSafely job part moves
IsSafe job part moves (Reject reason) = Unit {0}

-- a leaf that a rejection names is one of the last of its move, with a reach of at most 2, and the triangle that is named, or one of the upper face of the fixture that is named, or the point at which the column that is named is tested, blocks it, or on it the holder
abbrev pub IsNamed : JobFields → List Tri → List Move → Verdict → Type 0
IsNamed job part moves (Accept count columns left) = Unit {0}
IsNamed job part moves (Reject reason) = NamesLeaf job part (uncut job) moves reason

-- all is read, job and moves are in their ranges, this is the verdict on the moves, and if they are accepted they cut safely; what a rejection names blocks the move
pub record Judges (texts : Texts) (job : JobFields) (part : List Tri) (moves : List Move) (verdict : Verdict) : Type 0 where
  pub all_read : Reads texts job part moves
  pub job_ok : IsJob job
  pub moves_ok : AreMoves job moves
  pub is : IsVerdict job part moves verdict
  pub safe : IsSafe job part moves verdict
  pub named : IsNamed job part moves verdict

-- each file, if it holds what the reads gave, reads as this job, this part and these moves, which are in their ranges, and the moves are safe; wherever the tool's tip is before them, straight up or down
-- and across it comes safely to the place where they begin, if it is free where it stands and starts at or over the clear height, or is raised; in machines' words,
-- a tip near the way of the program's own numbers is a real one, and what the machine does beside lies at or over the clear height, or over a place of that way
pub record AcceptsSafely (call : Call) (files : Files) : Type 0 where
  pub job : JobFields
  pub part : List Tri
  pub moves : List Move
  pub all_read : (contents : List ℕ → Option (List ℕ)) → HoldsReads contents call → Reads (texts_of contents files) job part moves
  pub job_ok : IsJob job
  pub moves_ok : AreMoves job moves
  pub start : StartsSafely job part moves_ok.follow.from
  pub safe : CutsSafely job part moves
  pub by_text : (contents : List ℕ → Option (List ℕ)) → HoldsReads contents call → MayGoByText job (contents files.program) moves

-- ---- how it is shown

abbrev pub verdict_status : Verdict → ℕ
verdict_status (Accept count columns left) = 0
verdict_status (Reject reason) = 3

-- the words that name a segment of a move
abbrev pub leaf_words : Leaf → List (List ℕ)
leaf_words leaf = codes "leaf" ∷ decimal leaf.d ∷ decimal leaf.k ∷ []

-- the words of a move on which a triangle or a fixture stops the cutter or the holder, as the first word says; the second says which of the two it is
abbrev pub obstacle_words : List ℕ → List ℕ → ℕ → ℕ → Leaf → List (List ℕ)
obstacle_words word name k number leaf = word ∷ codes "move" ∷ decimal k ∷ name ∷ decimal number ∷ leaf_words leaf

-- the words of a move on which a column stops the cutter or the holder, as this word says
abbrev pub blocked_words : List ℕ → ℕ → ℕ → ℕ → Leaf → List (List ℕ)
blocked_words word k j i leaf = word ∷ codes "move" ∷ decimal k ∷ codes "row" ∷ decimal j ∷ codes "column" ∷ decimal i ∷ leaf_words leaf

-- the words of a reason, with lengths in this unit; a floor's have the height of the move's end
abbrev pub reason_words : LengthUnit → List Move → Reason → List (List ℕ)
reason_words unit moves (Floor k) = codes "floor" ∷ codes "move" ∷ decimal k ∷ codes "z" ∷ canonical unit (move_at moves k).to.z ∷ []
reason_words unit moves (Gouge k t leaf) = obstacle_words (codes "gouge") (codes "triangle") k t leaf
reason_words unit moves (Holder k t leaf) = obstacle_words (codes "holder") (codes "triangle") k t leaf
reason_words unit moves (Fixture k b leaf) = obstacle_words (codes "fixture") (codes "box") k b leaf
reason_words unit moves (HolderFixture k b leaf) = obstacle_words (codes "holder-fixture") (codes "box") k b leaf
reason_words unit moves (RapidCut k j i leaf) = blocked_words (codes "rapid") k j i leaf
reason_words unit moves (Cut k j i leaf) = blocked_words (codes "cut") k j i leaf
reason_words unit moves (HolderStock k j i leaf) = blocked_words (codes "holder-stock") k j i leaf
reason_words unit moves (Left j i top) = codes "left" ∷ column_words unit j i top

-- the move that a reason's words show the height of is there
abbrev pub NamesMove : List Move → Reason → Type 0
NamesMove moves (Floor k) = k < length moves
NamesMove moves _ = Unit {0}

-- so is that of a verdict
abbrev pub NamesVerdictMove : List Move → Verdict → Type 0
NamesVerdictMove moves (Accept count columns left) = Unit {0}
NamesVerdictMove moves (Reject reason) = NamesMove moves reason

-- the line of a verdict; an acceptance tells the margins that it was given with
abbrev pub verdict_line : JobFields → List Move → Verdict → List ℕ
verdict_line job moves (Accept count columns left) = line (codes "accepted" ∷ codes "moves" ∷ decimal count ∷ codes "columns" ∷ decimal columns ∷ codes "left" ∷ canonical job.unit left ∷ codes "band" ∷ canonical job.unit job.band ∷ codes "allowance" ∷ canonical job.unit job.allowance ∷ margin_words job.unit job.overcut job.slack)
verdict_line job moves (Reject reason) = line (codes "rejected" ∷ reason_words job.unit moves reason)
