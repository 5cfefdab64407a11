-- The statuses of a call.
use Rattle.std.specs.Prelude.{ℤ, pos}
use Rattle.mill_ffi_data.specs.declared.fault.Fault.{Fault}
use Rattle.mill_ffi_data.specs.declared.fault.Fault.TheVariants as fault

-- the status that tells a fault
abbrev pub fault_code : Fault → ℤ
fault_code fault.Memory = pos 1
fault_code fault.Cutter = pos 2
fault_code fault.Holder = pos 3
fault_code fault.Triangle = pos 4
fault_code fault.TooManyTriangles = pos 5
fault_code fault.Place = pos 6
fault_code fault.Floor = pos 7
fault_code fault.Room = pos 8
fault_code fault.Unit = pos 9
fault_code fault.Snap = pos 10
fault_code fault.Word = pos 11
fault_code fault.Coordinate = pos 12
fault_code fault.LongText = pos 13
fault_code fault.CutShort = pos 14
fault_code fault.Fiber = pos 15
fault_code fault.CountsRoom = pos 16
fault_code fault.JobSyntax = pos 17
fault_code fault.JobUnknown = pos 18
fault_code fault.JobMissing = pos 19
fault_code fault.JobKind = pos 20
fault_code fault.JobRange = pos 21
fault_code fault.JobRelation = pos 22
fault_code fault.PartTop = pos 23
fault_code fault.Program = pos 24
fault_code fault.Height = pos 25
fault_code fault.Lattice = pos 26
fault_code fault.TooManyNodes = pos 27
fault_code fault.TooManyMoves = pos 28
fault_code fault.Uncut = pos 29
fault_code fault.Held = pos 30
