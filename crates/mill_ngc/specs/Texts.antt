-- What a reader shows of its parts.
use Rattle.std.specs.Prelude.{⊤, Option, Some, None}
use Rattle.mill_base.specs.Ranges.{IsInUnitRange}
use Rattle.mill_said.specs.declared.fault.NgcFault.{NgcFault}
use Rattle.mill_ngc.specs.declared.text_reader.TextReader.{TextReader}
use Rattle.mill_ngc.specs.Pieces.{Reading, Going, Failed}

-- a text that has no fault so far
abbrev pub reading_of : TextReader → Reading
reading_of t = Going t.lines t.unfinished

-- a text that may have one
abbrev pub shown : Option NgcFault → TextReader → Reading
shown None t = reading_of t
shown (Some f) t = Failed f

-- while a program goes on, the tool stands in range
abbrev pub StandsInRange : Reading → Type 0
StandsInRange (Going p line) = IsInUnitRange p.unit p.here
StandsInRange (Failed f) = ⊤
