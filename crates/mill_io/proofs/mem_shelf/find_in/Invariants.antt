use Rattle.std.proofs.Common.{◌≡◌, drop}
use Rattle.mill_io.specs.Memory.{find_file}
use Rattle.mill_io.proofs.mem_shelf.find_in.Given as goal

abbrev pub invariant-loop-file : goal.invariant-loop-file
invariant-loop-file l = find_file l.name l.files ≡ find_file l.name (drop l.file-index l.files)
