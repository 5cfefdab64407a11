-- What printing a line comes to.
use Rattle.std.specs.Prelude.{◌⊎◌, ◌≡◌, ◌<◌, ℕ, List, Result, Ok, Err}
use Rattle.std.specs.Global.{Vec}
use Rattle.mill_base.specs.declared.memory.WantOfMemory.{WantOfMemory}
use Rattle.mill_io.specs.Contents.{AppendedPart}
use Rattle.mill_io.specs.Views.{SinkView, IsWritten}
use Rattle.mill_load.specs.declared.load.LoadFault.{LoadFault}
use Rattle.mill_load.specs.declared.load.LoadFault.TheVariants.{Memory, ReadFault, Unfit}
use Rattle.mill_answer.specs.Faults.{memory_line, read_fault_line, unfit_line}

-- the line was printed, and the status is the one that was wanted
pub record PrintsWhole (line : List ℕ) (wanted status : ℕ) (sink sink_after : SinkView) : Type 0 where
  pub wanted_is : status ≡ wanted
  pub written : IsWritten line sink sink_after

-- the printing failed after a prefix of the line, and the status is that of a failed write
pub record PrintsPart (line : List ℕ) (status : ℕ) (sink sink_after : SinkView) : Type 0 where
  pub failed : status ≡ 7
  pub written : AppendedPart line sink.written sink_after.written
  pub risen : sink.faults < sink_after.faults

-- the line was printed, with the status that was wanted, or its printing failed
abbrev pub Prints : List ℕ → ℕ → ℕ → SinkView → SinkView → Type 0
Prints line wanted status sink sink_after = PrintsWhole line wanted status sink sink_after ⊎ PrintsPart line status sink sink_after

-- that memory was short was printed
abbrev pub PrintsShort : ℕ → SinkView → SinkView → Type 0
PrintsShort status sink sink_after = Prints memory_line 5 status sink sink_after

-- the line that was made, with this status, or that memory was short
abbrev pub PrintsMade : Result (Vec ℕ) WantOfMemory → ℕ → ℕ → SinkView → SinkView → Type 0
PrintsMade (Ok line) wanted status sink sink_after = Prints line.items wanted status sink sink_after
PrintsMade (Err failed) wanted status sink sink_after = PrintsShort status sink sink_after

-- the line of a load fault; that of a read fault takes no memory
abbrev pub PrintsFault : LoadFault → ℕ → SinkView → SinkView → Type 0
PrintsFault Memory status sink sink_after = PrintsShort status sink sink_after
PrintsFault (ReadFault file) status sink sink_after = Prints (read_fault_line file) 6 status sink sink_after
PrintsFault (Unfit fault) status sink sink_after = Prints (unfit_line fault) 4 status sink sink_after ⊎ PrintsShort status sink sink_after
