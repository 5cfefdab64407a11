use Rattle.std.proofs.Common.{◌≡◌, ◌++◌, take}
use Rattle.std.specs.List.{flat_map}
use Rattle.mill_ngc.specs.Writing.{ended, head_lines, move_line}
use Rattle.mill_ngc.proofs.TextLemmas.{header}
use Rattle.mill_ngc.proofs.program.write_program.Given as goal

abbrev pub invariant-loop-made : goal.invariant-loop-made
invariant-loop-made l = l.text.items ≡ (header ++ flat_map ended (head_lines l.unit l.fn.begin)) ++ flat_map (λ m. ended (move_line l.unit m)) (take l.made-index l.moves)
