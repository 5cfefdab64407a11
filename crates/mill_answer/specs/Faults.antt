-- The lines of what keeps a command from its files, and of a refused word: how they name the first fault.
use Rattle.std.specs.Prelude.{ℕ, codes, decimal, List, [], ◌∷◌, ◌++◌}
use Rattle.mill_decimal.specs.Decimals.{canonical}
use Rattle.mill_answer.specs.Lines.{line}
use Rattle.mill_load.specs.declared.file.File.{File}
use Rattle.mill_load.specs.declared.file.File.TheVariants.{Job as JobFile, Part as PartFile, Program as ProgramFile, List as ListFile, StepProgram}
use Rattle.mill_load.specs.declared.load.LoadFault.{LoadFault}
use Rattle.mill_load.specs.declared.load.LoadFault.TheVariants as load_fault
use Rattle.mill_load.specs.declared.load.Unfit.{Unfit}
use Rattle.mill_load.specs.declared.load.Unfit.TheVariants.{TooLong, JobRefused, PartRefused, ListRefused, ProgramRefused, PartTop}
use Rattle.mill_load.specs.declared.place.Coordinate.{Coordinate}
use Rattle.mill_load.specs.declared.place.Coordinate.TheVariants.{X, Y, Z}
use Rattle.mill_decimal.specs.declared.fault.DecFault.{DecFault}
use Rattle.mill_decimal.specs.declared.fault.DecFault.TheVariants as decimal_fault
use Rattle.mill_stl.specs.declared.fault.StlFault.{StlFault}
use Rattle.mill_stl.specs.declared.fault.StlFault.TheVariants as part_fault
use Rattle.mill_said.specs.declared.fault.NgcFault.{NgcFault}
use Rattle.mill_said.specs.declared.fault.NgcFault.TheVariants as program_fault
use Rattle.mill_job.specs.Keys.{name_of}
use Rattle.mill_job.specs.declared.fault.JobFault.{JobFault}
use Rattle.mill_job.specs.declared.fault.JobFault.TheVariants as job_fault

-- a coordinate, by its option
abbrev pub coordinate_name : Coordinate → List ℕ
coordinate_name X = codes "x"
coordinate_name Y = codes "y"
coordinate_name Z = codes "z"

-- a job's fault, or a list's: what is wrong, and with which keys
abbrev pub job_fault_words : JobFault → List (List ℕ)
job_fault_words job_fault.Syntax = codes "syntax" ∷ []
job_fault_words (job_fault.Unknown name) = codes "unknown" ∷ name ∷ []
job_fault_words (job_fault.Missing key) = codes "missing" ∷ name_of key ∷ []
job_fault_words (job_fault.WrongKind key) = codes "kind" ∷ name_of key ∷ []
job_fault_words (job_fault.Range key) = codes "range" ∷ name_of key ∷ []
job_fault_words (job_fault.Relation first second) = codes "relation" ∷ name_of first ∷ name_of second ∷ []
job_fault_words job_fault.WantOfMemory = codes "memory" ∷ []

-- what is wrong with a decimal
abbrev pub decimal_fault_code : DecFault → List ℕ
decimal_fault_code decimal_fault.Spelling = codes "spelling"
decimal_fault_code decimal_fault.TooManyDigits = codes "too-many-digits"
decimal_fault_code decimal_fault.OffGrid = codes "off-grid"
decimal_fault_code decimal_fault.OutOfRange = codes "out-of-range"

-- the line and the code of a part's fault; want of memory is none of its text
abbrev pub part_fault_line : StlFault → ℕ
part_fault_line (part_fault.Expected line what) = line
part_fault_line (part_fault.Coord line fault) = line
part_fault_line (part_fault.TooManyTriangles line) = line
part_fault_line (part_fault.CutShort line) = line
part_fault_line part_fault.WantOfMemory = 0

abbrev pub part_fault_code : StlFault → List ℕ
part_fault_code (part_fault.Expected line what) = codes "expected"
part_fault_code (part_fault.Coord line fault) = decimal_fault_code fault
part_fault_code (part_fault.TooManyTriangles line) = codes "too-many-triangles"
part_fault_code (part_fault.CutShort line) = codes "cut-short"
part_fault_code part_fault.WantOfMemory = codes "memory"

-- the line and the code of a program's fault
abbrev pub program_fault_line : NgcFault → ℕ
program_fault_line (program_fault.LongLine line) = line
program_fault_line (program_fault.Word line fault) = line
program_fault_line (program_fault.NotInProfile line letter number) = line
program_fault_line (program_fault.LateTool line) = line
program_fault_line (program_fault.Group line group) = line
program_fault_line (program_fault.Twice line letter) = line
program_fault_line (program_fault.PathControl line) = line
program_fault_line (program_fault.Start line) = line
program_fault_line (program_fault.LateOffset line) = line
program_fault_line (program_fault.NoUnits line) = line
program_fault_line (program_fault.NoAbsolute line) = line
program_fault_line (program_fault.NoMotion line) = line
program_fault_line (program_fault.NoSpindle line) = line
program_fault_line (program_fault.NoFeed line) = line
program_fault_line (program_fault.Arc line) = line
program_fault_line (program_fault.Cycle line) = line
program_fault_line (program_fault.OffGrid line) = line
program_fault_line (program_fault.OutOfRange line) = line
program_fault_line (program_fault.TooManyMoves line) = line
program_fault_line (program_fault.NoAxis line) = line
program_fault_line (program_fault.NoEnd line) = line
program_fault_line program_fault.WantOfMemory = 0

abbrev pub program_fault_code : NgcFault → List ℕ
program_fault_code (program_fault.LongLine line) = codes "long-line"
program_fault_code (program_fault.Word line fault) = codes "word"
program_fault_code (program_fault.NotInProfile line letter number) = codes "not-in-profile"
program_fault_code (program_fault.LateTool line) = codes "late-tool"
program_fault_code (program_fault.Group line group) = codes "group"
program_fault_code (program_fault.Twice line letter) = codes "twice"
program_fault_code (program_fault.PathControl line) = codes "path-control"
program_fault_code (program_fault.Start line) = codes "start"
program_fault_code (program_fault.LateOffset line) = codes "late-offset"
program_fault_code (program_fault.NoUnits line) = codes "no-units"
program_fault_code (program_fault.NoAbsolute line) = codes "no-absolute"
program_fault_code (program_fault.NoMotion line) = codes "no-motion"
program_fault_code (program_fault.NoSpindle line) = codes "no-spindle"
program_fault_code (program_fault.NoFeed line) = codes "no-feed"
program_fault_code (program_fault.Arc line) = codes "arc"
program_fault_code (program_fault.Cycle line) = codes "cycle"
program_fault_code (program_fault.OffGrid line) = codes "off-grid"
program_fault_code (program_fault.OutOfRange line) = codes "out-of-range"
program_fault_code (program_fault.TooManyMoves line) = codes "too-many-moves"
program_fault_code (program_fault.NoAxis line) = codes "no-axis"
program_fault_code (program_fault.NoEnd line) = codes "no-end"
program_fault_code program_fault.WantOfMemory = codes "memory"

-- ---- lines

-- a file, by the word of the command line that names it; a program of a list, by its number in the list
abbrev pub file_words : File → List (List ℕ)
file_words JobFile = codes "job" ∷ []
file_words PartFile = codes "part" ∷ []
file_words ProgramFile = codes "program" ∷ []
file_words ListFile = codes "list" ∷ []
file_words (StepProgram k) = codes "program" ∷ decimal k ∷ []

-- the line of a word that is refused
abbrev pub word_line : Coordinate → DecFault → List ℕ
word_line coordinate fault = line (codes "refused" ∷ codes "word" ∷ coordinate_name coordinate ∷ decimal_fault_code fault ∷ [])

-- the line of files that give a command nothing to work on
abbrev pub unfit_line : Unfit → List ℕ
unfit_line (TooLong file) = line (codes "refused" ∷ codes "too-long" ∷ file_words file)
unfit_line (JobRefused fault) = line (codes "refused" ∷ codes "job" ∷ job_fault_words fault)
unfit_line (PartRefused fault) = line (codes "refused" ∷ codes "part" ∷ codes "line" ∷ decimal (part_fault_line fault) ∷ part_fault_code fault ∷ [])
unfit_line (ListRefused fault) = line (codes "refused" ∷ codes "list" ∷ job_fault_words fault)
unfit_line (ProgramRefused file fault) = line (codes "refused" ∷ file_words file ++ codes "line" ∷ decimal (program_fault_line fault) ∷ program_fault_code fault ∷ [])
unfit_line (PartTop height top unit) = line (codes "refused" ∷ codes "part-top" ∷ canonical unit height ∷ codes "top" ∷ canonical unit top ∷ [])

-- that memory was short
abbrev pub memory_line : List ℕ
memory_line = line (codes "out" ∷ codes "of" ∷ codes "memory" ∷ [])

-- the line of a file that could not be read
abbrev pub read_fault_line : File → List ℕ
read_fault_line file = line (codes "read" ∷ codes "fault" ∷ file_words file)

-- ---- what keeps a command from its files

-- its line
abbrev pub fault_line : LoadFault → List ℕ
fault_line load_fault.Memory = memory_line
fault_line (load_fault.ReadFault file) = read_fault_line file
fault_line (load_fault.Unfit fault) = unfit_line fault

-- its exit status
abbrev pub fault_status : LoadFault → ℕ
fault_status load_fault.Memory = 5
fault_status (load_fault.ReadFault file) = 6
fault_status (load_fault.Unfit fault) = 4
